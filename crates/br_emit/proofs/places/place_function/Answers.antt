use Rattle.std.proofs.Common.{◌+◌, ap}
use Rattle.br_emit.proofs.places.place_function.Goals as goal

pub returns-else-called-clause-place : goal.returns-else-called-clause-place
returns-else-called-clause-place c = rw c.if-called.false (ap (λ w. c.args.place + w) c.direct_words.ensures.words)
