use Rattle.br_judge.proofs.Boots.{good-to, good-from}
use Rattle.br_judge.proofs.judge.Judge.new.Goals as goal

pub returns : goal.returns
returns c rest = (good-to rest, good-from rest)
