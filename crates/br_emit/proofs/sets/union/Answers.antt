use Rattle.br_emit.proofs.Bits.{has-or}
use Rattle.br_emit.proofs.sets.union.Goals as goal

pub returns : goal.returns
returns c = has-or c.args.a c.args.b
