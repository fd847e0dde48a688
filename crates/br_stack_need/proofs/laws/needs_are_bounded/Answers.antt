use Rattle.br_stack_need.proofs.Bounds.{own_bounded, need_bounded}
use Rattle.br_stack_need.proofs.laws.needs_are_bounded.Goals as goal

pub returns : goal.returns
returns c = record { own = own_bounded; bounded = need_bounded }
