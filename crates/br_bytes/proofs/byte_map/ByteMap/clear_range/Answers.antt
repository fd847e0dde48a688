use Rattle.std.proofs.Common.{◌+◌, ◌++◌, sym, ap, ◌∙◌, arith}
use Rattle.br_bytes.specs.Buffers.{without_range}
use Rattle.br_bytes.specs.Range.{memory_of}
use Rattle.br_bytes.specs.Changes.{ranges_to, ranges_from}
use Rattle.br_bytes.proofs.Away.{without_none}
use Rattle.br_bytes.proofs.Kept.{cleared_memory, cleared_kept, either_kept}
use Rattle.br_bytes.proofs.Placed.{on_ok}
use Rattle.br_bytes.proofs.byte_map.ByteMap.clear_range.Goals as goal

pub returns-then-n-eq0-clause-ok : goal.returns-then-n-eq0-clause-ok
returns-then-n-eq0-clause-ok c = sym (without_none c.args.self.now c.args.a c.args.n (omega arith))

pub invariant_of-self : goal.invariant_of-self
invariant_of-self c =
    let rs = c.self.inside.ranges.items in
    let e = c.from.result + c.from-2.result in
    either_kept c.clear.result c.clear.new.ranges.items (ranges_to c.args.a rs ++ ranges_from e rs) rs
    c.clear.ensures.ok c.clear.ensures.err
    (cleared_kept rs c.args.a c.args.n e c.self.invariant (omega (arith, c.from.ensures, c.from-2.ensures))
    (omega (arith, c.from.ensures, c.from-2.ensures))) c.self.invariant

pub returns-clause-ok : goal.returns-clause-ok
returns-clause-ok c =
    let rs = c.self.inside.ranges.items in
    on_ok c.clear.result c.clear.ensures.ok (λ is.
    ap memory_of is ∙ cleared_memory rs c.args.a c.args.n (c.from.result
    + c.from-2.result) c.self.invariant.apart (omega (arith, c.from.ensures, c.from-2.ensures))
    ∙ ap (λ m. without_range m c.args.a c.args.n) c.self.view_is)
