use Rattle.br_spill.proofs.Lean.{programs-lean}
use Rattle.br_spill.proofs.laws.spilled_programs_are_as_lean.Goals as goal

pub returns : goal.returns
returns c = programs-lean
