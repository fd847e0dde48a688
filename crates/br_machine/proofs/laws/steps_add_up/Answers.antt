-- One step more is a step at the end.
use Rattle.br_machine.proofs.Moments.{after_steps-add}
use Rattle.br_machine.proofs.laws.steps_add_up.Goals as goal

pub returns : goal.returns
returns c = λ first second m. after_steps-add second first m
