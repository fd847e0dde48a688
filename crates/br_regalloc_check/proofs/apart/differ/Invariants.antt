-- Those from here on differ exactly where all do, and are below the bound.
use Rattle.std.proofs.Common.{◌≡◌, IsTrue, length, map}
use Rattle.std.specs.Prelude.{slice_index}
use Rattle.br_flatimp.specs.WellFormed.{all_differ, are_below}
use Rattle.br_regalloc_check.proofs.apart.differ.Given as goal

abbrev pub invariant-loop-rest : goal.invariant-loop-rest
invariant-loop-rest l = record {
  same : all_differ (map (slice_index l.to) l.xs) ≡ all_differ (map (slice_index l.to) l.rest);
  below : IsTrue (are_below (length l.to) l.rest);
}

abbrev pub decreases-loop-rest : goal.decreases-loop-rest
decreases-loop-rest l = length l.rest
