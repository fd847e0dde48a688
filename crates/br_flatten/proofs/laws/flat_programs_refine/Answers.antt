use Rattle.br_flatten.proofs.Programs.{flat-refines}
use Rattle.br_flatten.proofs.laws.flat_programs_refine.Goals as goal

pub returns : goal.returns
returns c = flat-refines
