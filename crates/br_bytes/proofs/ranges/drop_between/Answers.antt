use Rattle.std.proofs.Common.{◌≡◌, sym, ap, ◌∙◌, arith}
use Rattle.std.proofs.lemmas.List.{get_or_read}
use Rattle.br_bytes.specs.Range.{Range, end_of}
use Rattle.br_bytes.proofs.Changed.{set_apart}
use Rattle.br_bytes.proofs.ranges.drop_between.Goals as goal

pub drop_below-requires-clause-apart : goal.drop_below-requires-clause-apart
drop_below-requires-clause-apart c =
    let rs = c.args.ranges.now.items in
    let x = c.index_mut.result.now in
    let one : c.index.result.now ≡ x = get_or_read rs c.args.i c.index.result.now c.requires.there c.index.ensures x
    ∙ sym c.index_mut.ensures.value in
    set_apart rs 0 c.args.i c.args.a x c.end_at.new.self c.requires.apart c.requires.there c.index_mut.ensures.value
    c.end_at.ensures
    (omega (arith, ap (λ (z : Range). z.start) one, c.start.ensures))
    (omega (arith, c.requires.first x, ap end_of c.index_mut.ensures.value))
