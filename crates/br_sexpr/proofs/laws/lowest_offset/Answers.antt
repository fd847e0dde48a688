use Rattle.br_sexpr.proofs.Gaps.{lowest}
use Rattle.br_sexpr.proofs.laws.lowest_offset.Goals as goal

pub returns : goal.returns
returns c = lowest
