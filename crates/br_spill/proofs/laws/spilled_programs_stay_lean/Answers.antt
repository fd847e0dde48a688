use Rattle.br_spill.proofs.Lean.{program-lean}
use Rattle.br_spill.proofs.laws.spilled_programs_stay_lean.Goals as goal

pub returns : goal.returns
returns c = program-lean
