use Rattle.br_compile.proofs.Fronts.{follows_at_first}
use Rattle.br_compile.proofs.laws.first_steps_show_a_run.Goals as goal

pub returns : goal.returns
returns c = follows_at_first
