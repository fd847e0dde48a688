-- By the end that each clause names.
use Rattle.std.proofs.Common.{refl}
use Rattle.br_machine.specs.declared.stepped.Stepped.TheVariants.{Waiting, Halted, Trapped}
use Rattle.br_machine.proofs.Steps.{step-ended}
use Rattle.br_machine.proofs.laws.steps_that_end_change_nothing.Goals as goal

pub returns-clause-waiting : goal.returns-clause-waiting
returns-clause-waiting c = λ s next a. step-ended s next (Waiting a) refl

pub returns-clause-halted : goal.returns-clause-halted
returns-clause-halted c = λ s next. step-ended s next Halted refl

pub returns-clause-trapped : goal.returns-clause-trapped
returns-clause-trapped c = λ s next trap pc. step-ended s next (Trapped trap pc) refl
