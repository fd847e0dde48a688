-- What every step keeps, by clause.
use Rattle.br_machine.proofs.Steps.{keeps_step}
use Rattle.br_machine.proofs.laws.steps_keep_the_code.Goals as goal

pub returns-clause-bytes : goal.returns-clause-bytes
returns-clause-bytes c = λ s next. (keeps_step s next).code

pub returns-clause-words : goal.returns-clause-words
returns-clause-words c = λ s next. (keeps_step s next).words

pub returns-clause-layout : goal.returns-clause-layout
returns-clause-layout c = λ s next. (keeps_step s next).layout
