use Rattle.std.proofs.Common.{◌≡◌, ◌^◌, ◌<◌, ◌≤◌, length, get_or, sym, subst, ap, arith}
use Rattle.std.proofs.lemmas.List.{get_or_read}
use Rattle.br_bytes.specs.Range.{Range, end_of}
use Rattle.br_bytes.proofs.Ranged.{apart_end}
use Rattle.br_bytes.proofs.Placed.{on_ok, clear_past, clear_split, clear_between}
use Rattle.br_bytes.proofs.ranges.clear.Goals as goal

pub returns-then-i-len-clause-ok : goal.returns-then-i-len-clause-ok
returns-then-i-len-clause-ok c =
    let below = rw c.as_slice.ensures.value at c.first_ending-i.ensures.below in
    clear_past c.args.ranges.now.items c.first_ending-i.result c.args.a c.args.end c.requires.apart (omega arith)
    (omega (arith, below, c.from.ensures)) (omega arith)

pub end-requires : goal.end-requires
end-requires c =
    subst (λ r. end_of r ≤ 2 ^ 32) (sym c.index-then-start-a.ensures)
    (apart_end c.args.ranges.now.items 0 c.first_ending-i.result c.index-then-start-a.result.now c.requires.apart
    (omega arith))

pub overflow_cast-end : goal.overflow_cast-end
overflow_cast-end c =
    let top = apart_end c.args.ranges.now.items 0 c.first_ending-i.result c.index-then-start-a.result.now
    c.requires.apart (omega arith) in
    omega (arith, top, ap end_of c.index-then-start-a.ensures, c.end.ensures)

pub returns-then-end-clause-ok : goal.returns-then-end-clause-ok
returns-then-end-clause-ok c =
    let rs = c.args.ranges.now.items in
    let i = c.first_ending-i.result in
    let d = c.index-then-start-a.result.now in
    let h : i < length rs = omega arith in
    let below = rw c.as_slice.ensures.value at c.first_ending-i.ensures.below in
    let one : c.index.result.now ≡ get_or rs i d = get_or_read rs i c.index.result.now h c.index.ensures d in
    on_ok c.split.result c.split.ensures.ok (λ is. clear_split rs c.split.new.ranges.items i c.args.a c.args.end d
    c.requires.apart h (omega (arith, below, c.from.ensures))
    (omega (arith, ap (λ (z : Range). z.start) one, c.start.ensures)) c.requires.ordered
    (omega (arith, ap end_of c.index-then-start-a.ensures, c.end.ensures)) (is d))

pub returns-else-start-a-clause-ok : goal.returns-else-start-a-clause-ok
returns-else-start-a-clause-ok c =
    let below = rw c.as_slice.ensures.value at c.first_ending-i.ensures.below in
    clear_between c.args.ranges.now.items c.drop_between.new.ranges.items c.first_ending-i.result c.args.a c.args.end
    c.requires.apart (omega (arith, below, c.from.ensures)) (omega arith) c.drop_between.ensures
