use Rattle.std.proofs.Common.{◌+◌, sym, ap, ◌∙◌, arith}
use Rattle.br_bytes.specs.Range.{byte_in}
use Rattle.br_bytes.proofs.Ranged.{ends_at}
use Rattle.br_bytes.proofs.Changed.{none_found, byte_found}
use Rattle.br_bytes.proofs.ranges.byte_at.Goals as goal

pub returns-then-i-ranges : goal.returns-then-i-ranges
returns-then-i-ranges c = sym (none_found c.args.ranges.now c.first_ending-i.result c.args.a c.requires (omega arith)
    (omega (arith, c.first_ending-i.ensures.below, c.from.ensures)))

pub returns : goal.returns
returns c =
    let rs = c.args.ranges.now in
    let i = c.first_ending-i.result in
    let r = c.index-ranges-i.result in
    let up = ends_at rs (c.from.result + 1) i r (omega arith) c.first_ending-i.ensures.above in
    c.byte.ensures ∙ ap (λ z. byte_in z c.args.a) c.index-ranges-i.is
    ∙ sym (byte_found rs i c.args.a r c.requires (omega arith)
    (omega (arith, c.first_ending-i.ensures.below, c.from.ensures)) (omega (arith, up, c.from.ensures)))
