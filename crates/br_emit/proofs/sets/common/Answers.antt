use Rattle.br_emit.proofs.Bits.{has-and}
use Rattle.br_emit.proofs.sets.common.Goals as goal

pub returns : goal.returns
returns c = has-and c.args.a c.args.b
