use Rattle.br_emit.proofs.Living.{still_is}
use Rattle.br_emit.proofs.flow.still.Goals as goal

pub returns : goal.returns
returns c = λ after x below. still_is (after x) x below
