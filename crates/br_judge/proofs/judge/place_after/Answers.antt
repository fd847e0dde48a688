use Rattle.std.proofs.Common.{refl}
use Rattle.br_judge.proofs.Sets.{iff_trans}
use Rattle.br_judge.proofs.Turns.{pin_steps}
use Rattle.br_judge.proofs.Polls.{polls_first-to, polls_first-from}
use Rattle.br_judge.proofs.judge.place_after.Goals as goal

pub returns-then-is_write : goal.returns-then-is_write
returns-then-is_write c = rw c.in-Pin.is (pin_steps c.in-Pin.v c.args.e (c.if-is_write.ensures.0 refl))

pub returns-in-Between : goal.returns-in-Between
returns-in-Between c rest =
    rw c.in-Between.is
    (iff_trans (polls_first-to c.args.e rest, polls_first-from _) (c.after_event-in-Between.ensures rest))
