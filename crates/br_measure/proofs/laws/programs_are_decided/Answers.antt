use Rattle.br_measure.proofs.Decided.{fault_or_sound}
use Rattle.br_measure.proofs.laws.programs_are_decided.Goals as goal

pub returns : goal.returns
returns c = fault_or_sound
