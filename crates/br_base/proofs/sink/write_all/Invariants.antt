use Rattle.std.proofs.Common.{◌≡◌, length, ◌-◌, ◌≤◌, [], take}
use Rattle.std.specs.Io.KnownBytes.{Appends}
use Rattle.br_base.proofs.sink.write_all.Given as goal

-- the bytes written so far were added, and nothing failed; no bytes were not offered
abbrev pub invariant-loop-written : goal.invariant-loop-written
invariant-loop-written g l =
    record {
      within : l.written ≤ length l.bytes;
      added : Appends (g.O.Sink.held l.fn.out) (g.O.Sink.held l.out) (take l.written l.bytes);
      sound : g.O.Sink.faults l.out ≡ g.O.Sink.faults l.fn.out;
      none : l.bytes ≡ [] → l.out ≡ l.fn.out;
    }

abbrev pub decreases-loop-written : goal.decreases-loop-written
decreases-loop-written g l = length l.bytes - l.written
