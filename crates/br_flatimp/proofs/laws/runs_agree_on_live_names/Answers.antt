use Rattle.br_flatimp.proofs.Forgetting.{agree-statement, agree-all}
use Rattle.br_flatimp.proofs.laws.runs_agree_on_live_names.Goals as goal

pub returns : goal.returns
returns c = record { statement = agree-statement; statements = agree-all }
