use Rattle.br_spill.proofs.Formed.{well-formed}
use Rattle.br_spill.proofs.laws.spilled_programs_are_well_formed.Goals as goal

pub returns : goal.returns
returns c = well-formed
