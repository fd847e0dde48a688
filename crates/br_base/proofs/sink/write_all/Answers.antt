use Rattle.std.proofs.Common.{arith, ap, length}
use Rattle.br_base.proofs.Known.{Appends-append, take-append-rest}
use Rattle.br_base.proofs.sink.write_all.Goals as goal

pub loop-written-preserved : goal.loop-written-preserved
loop-written-preserved g c =
    record {
      within = omega (arith, c.in_ok-written.ensures.fits);
      added =
          rw (← take-append-rest c.args.bytes.now c.loop-written.written c.in_ok-written.field-0)
          (Appends-append _ _ _ _ _ c.loop-written.invariant.added c.in_ok-written.ensures.added);
      sound = omega (arith, c.in_ok-written.ensures.sound);
      none = λ e. absurd (let none = ap length e in omega arith);
    }
