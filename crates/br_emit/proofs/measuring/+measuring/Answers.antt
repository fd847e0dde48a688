use Rattle.std.proofs.Common.{◌∷◌, ◌++◌, ap, ◌∙◌, rules}
use Rattle.br_emit.specs.Sizes.{sized_all}
use Rattle.br_emit.specs.Buffer.{noted}
use Rattle.br_emit.proofs.Readiness.{room_left, two_noted}
use Rattle.br_emit.proofs.measuring.+measuring.Goals as goal

pub measure_two-measure_all-second-requires : goal.measure_two-measure_all-second-requires
measure_two-measure_all-second-requires t c = (
  search rules,
  (
    room_left c.args.lengths.now c.reserve-at.new.self c.measure_all-first.new.lengths
        (sized_all c.args.near c.args.a.now c.args.free).parts (sized_all c.args.near c.args.b.now c.args.free).parts
        c.reserve-at.ensures.noted c.measure_all-first.ensures.noted c.requires.room,
    c.requires.second,
  ),
)

pub measure_two-returns-clause-noted : goal.measure_two-returns-clause-noted
measure_two-returns-clause-noted t c =
    two_noted c.args.lengths.now c.reserve-at.new.self c.measure_all-first.new.lengths c.measure_all-second.new.lengths
    c.set.new.self
    c.reserve-at.result c.measure_all-first.result c.measure_all-second.result
    (sized_all c.args.near c.args.a.now c.args.free).parts (sized_all c.args.near c.args.b.now c.args.free).parts
    c.reserve-at.ensures.at c.reserve-at.ensures.noted c.measure_all-first.ensures.noted
    c.measure_all-second.ensures.noted c.set.ensures
    ∙ ap (λ a. noted c.args.lengths.now (a ∷ c.measure_all-second.result ∷ ((sized_all
    c.args.near c.args.a.now c.args.free).parts ++ (sized_all c.args.near c.args.b.now c.args.free).parts)))
    c.measure_all-first.ensures.words
    ∙ ap (λ b. noted c.args.lengths.now ((sized_all c.args.near c.args.a.now c.args.free).words ∷ b ∷ ((sized_all
    c.args.near c.args.a.now c.args.free).parts ++ (sized_all c.args.near c.args.b.now c.args.free).parts)))
    c.measure_all-second.ensures.words
