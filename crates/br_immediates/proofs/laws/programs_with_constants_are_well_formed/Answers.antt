use Rattle.br_immediates.proofs.Formed.{program-formed}
use Rattle.br_immediates.proofs.laws.programs_with_constants_are_well_formed.Goals as goal

pub returns : goal.returns
returns c = program-formed
