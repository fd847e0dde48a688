use Rattle.br_sexpr.proofs.Gaps.{alternates}
use Rattle.br_sexpr.proofs.laws.only_gaps_between.Goals as goal

pub returns : goal.returns
returns c = λ text ps is. alternates text ps 0 is
