use Rattle.br_simplify.proofs.Rules.{names_stay, limits_stay}
use Rattle.br_simplify.proofs.laws.simple_programs_keep_rules.Goals as goal

pub returns-clause-names : goal.returns-clause-names
returns-clause-names c fs none = names_stay fs none

pub returns-clause-limits : goal.returns-clause-limits
returns-clause-limits c fs ok = limits_stay fs ok
