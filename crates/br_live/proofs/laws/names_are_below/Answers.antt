use Rattle.br_live.proofs.Below.{below-function}
use Rattle.br_live.proofs.laws.names_are_below.Goals as goal

pub returns : goal.returns
returns c = below-function
