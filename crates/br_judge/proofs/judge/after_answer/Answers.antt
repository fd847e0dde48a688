use Rattle.std.proofs.Common.{◌≡◌, suc, ◌-◌, arith}
use Rattle.br_judge.specs.Places.{asking}
use Rattle.br_judge.proofs.Sets.{iff_trans}
use Rattle.br_judge.proofs.Turns.{asking_zero, asking_more, asked_again}
use Rattle.br_judge.proofs.judge.after_answer.Goals as goal

pub returns-then-left-eq0 : goal.returns-then-left-eq0
returns-then-left-eq0 c rest = rw c.if-left-eq0.true
    (iff_trans (asked_again c.args.v (asking 0) c.if-v-eq-CHIP_IS_READY.false rest) (asking_zero rest))

pub returns-else-left-eq0 : goal.returns-else-left-eq0
returns-else-left-eq0 c rest =
    let some : c.args.left ≡ suc (c.args.left - 1) = omega arith in
    iff_trans (asked_again c.args.v (asking c.args.left) c.if-v-eq-CHIP_IS_READY.false rest)
    (asking_more c.args.left (c.args.left - 1) some rest)
