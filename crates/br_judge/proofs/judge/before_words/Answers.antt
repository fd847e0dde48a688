use Rattle.std.proofs.Common.{◌≡◌, suc, ◌-◌, true, false, arith}
use Rattle.br_judge.proofs.Turns.{reading_ends, reading_more}
use Rattle.br_judge.proofs.judge.before_words.Goals as goal

pub returns-then-left-gt0 : goal.returns-then-left-gt0
returns-then-left-gt0 c rest =
    let some : c.args.left ≡ suc (c.args.left - 1) = omega arith in
    reading_more c.args.left (c.args.left - 1) c.args.frame some rest

pub returns-then-frame : goal.returns-then-frame
returns-then-frame c rest =
    let none : c.args.left ≡ 0 = omega arith in
    rw none (reading_ends c.args.frame true c.if-frame.true rest)

pub returns-else-frame : goal.returns-else-frame
returns-else-frame c rest =
    let none : c.args.left ≡ 0 = omega arith in
    rw none (reading_ends c.args.frame false c.if-frame.false rest)
