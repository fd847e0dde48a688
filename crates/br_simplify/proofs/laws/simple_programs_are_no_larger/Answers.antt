use Rattle.br_simplify.proofs.Sizes.{smaller_function, shallower_function, fewer_callees}
use Rattle.br_simplify.proofs.laws.simple_programs_are_no_larger.Goals as goal

pub returns-clause-bulk : goal.returns-clause-bulk
returns-clause-bulk c f = smaller_function f

pub returns-clause-nested : goal.returns-clause-nested
returns-clause-nested c f = shallower_function f

pub returns-clause-callees : goal.returns-clause-callees
returns-clause-callees c f x has = fewer_callees f x has
