use Rattle.br_spill.proofs.Formed.{register-form}
use Rattle.br_spill.proofs.laws.spilled_programs_are_in_register_form.Goals as goal

pub returns : goal.returns
returns c = register-form
