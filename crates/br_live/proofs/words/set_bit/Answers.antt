use Rattle.br_live.proofs.Bits.{members-set}
use Rattle.br_live.proofs.words.set_bit.Goals as goal

pub returns : goal.returns
returns c = λ y. members-set c.args.words.now c.args.x y c.requires
