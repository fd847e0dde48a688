use Rattle.br_flatimp.proofs.Forgetting.{renamed-refines}
use Rattle.br_flatimp.proofs.laws.renamed_programs_refine.Goals as goal

pub returns : goal.returns
returns c = renamed-refines
