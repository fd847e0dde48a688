use Rattle.br_simplify.proofs.Runs.{same_function, calls_same}
use Rattle.br_simplify.proofs.laws.simple_programs_mean_the_same.Goals as goal

pub returns-clause-function : goal.returns-clause-function
returns-clause-function c call f = same_function call f

pub returns-clause-calls : goal.returns-clause-calls
returns-clause-calls c fs depth = calls_same fs depth
