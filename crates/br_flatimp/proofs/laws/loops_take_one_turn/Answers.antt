use Rattle.br_flatimp.proofs.Live.{test-holds, test-least, grows-before}
use Rattle.br_flatimp.proofs.laws.loops_take_one_turn.Goals as goal

pub returns : goal.returns
returns c = record { holds = test-holds; least = test-least; grows = grows-before }
