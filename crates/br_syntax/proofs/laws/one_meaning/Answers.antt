use Rattle.br_syntax.proofs.Meanings.{has_meaning}
use Rattle.br_syntax.proofs.laws.one_meaning.Goals as goal

pub returns-clause-some : goal.returns-clause-some
returns-clause-some c = has_meaning
