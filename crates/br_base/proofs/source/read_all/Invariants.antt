use Rattle.std.proofs.Common.{◌≡◌, ◌≤◌, ◌+◌, ◌-◌, vec_len}
use Rattle.std.specs.Io.KnownBytes.{Consumes}
use Rattle.br_base.proofs.source.read_all.Given as goal

-- the bytes so far were taken, and nothing failed
abbrev pub invariant-loop-chunk : goal.invariant-loop-chunk
invariant-loop-chunk g l =
    record {
      within : vec_len l.bytes ≤ l.limit + 1;
      taken : Consumes (g.S.Source.left l.fn.input) (g.S.Source.left l.input) l.bytes.items;
      sound : g.S.Source.faults l.input ≡ g.S.Source.faults l.fn.input;
    }

abbrev pub decreases-loop-chunk : goal.decreases-loop-chunk
decreases-loop-chunk g l = l.limit + 1 - vec_len l.bytes
