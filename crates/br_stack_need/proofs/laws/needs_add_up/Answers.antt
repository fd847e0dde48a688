use Rattle.br_stack_need.proofs.Depth.{needs_add_up}
use Rattle.br_stack_need.proofs.laws.needs_add_up.Goals as goal

pub returns : goal.returns
returns c = needs_add_up
