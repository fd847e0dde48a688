use Rattle.br_measure.proofs.FoundFaults.{sound_has_none}
use Rattle.br_measure.proofs.laws.sound_programs_have_no_fault.Goals as goal

pub returns : goal.returns
returns c = sound_has_none
