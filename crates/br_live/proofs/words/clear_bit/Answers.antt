use Rattle.br_live.proofs.Bits.{members-clear}
use Rattle.br_live.proofs.words.clear_bit.Goals as goal

pub returns : goal.returns
returns c = λ y. members-clear c.args.words.now c.args.x y c.requires
