use Rattle.br_judge.proofs.Leading.{transfers, outcomes, others}
use Rattle.br_judge.proofs.laws.events_lead_on.Goals as goal

pub returns-clause-transfers : goal.returns-clause-transfers
returns-clause-transfers c = transfers

pub returns-clause-outcomes : goal.returns-clause-outcomes
returns-clause-outcomes c = outcomes

pub returns-clause-others : goal.returns-clause-others
returns-clause-others c = others
