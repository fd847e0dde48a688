use Rattle.br_sexpr.proofs.OneAnswer.{one-exists, not-both, reads-one, fault-one}
use Rattle.br_sexpr.proofs.laws.one_answer.Goals as goal

pub returns-clause-some : goal.returns-clause-some
returns-clause-some c = one-exists

pub returns-clause-not_both : goal.returns-clause-not_both
returns-clause-not_both c = not-both

pub returns-clause-one_reading : goal.returns-clause-one_reading
returns-clause-one_reading c = reads-one

pub returns-clause-one_fault : goal.returns-clause-one_fault
returns-clause-one_fault c = fault-one
