use Rattle.br_immediates.proofs.Runs.{program-refines}
use Rattle.br_immediates.proofs.laws.programs_with_constants_refine.Goals as goal

pub returns : goal.returns
returns c = program-refines
