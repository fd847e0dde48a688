use Rattle.br_emit.proofs.Bits.{has-every}
use Rattle.br_emit.proofs.Living.{own_is}
use Rattle.br_emit.proofs.flow.own.Goals as goal

pub returns : goal.returns
returns c = λ after x below.
    own_is c.args.reads c.without.result c.args.writes 4294967295 x (after x) (has-every x below) (c.without.ensures x)
