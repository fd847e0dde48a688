-- One of those from here on gets the new name exactly where one of all does.
use Rattle.std.proofs.Common.{◌≡◌, ◌==◌, IsTrue, length, map}
use Rattle.std.specs.Prelude.{slice_index}
use Rattle.std.specs.List.{list_any}
use Rattle.br_flatimp.specs.WellFormed.{are_below}
use Rattle.br_regalloc_check.proofs.apart.is_shared.Given as goal

abbrev pub invariant-loop-rest : goal.invariant-loop-rest
invariant-loop-rest l = record {
  same : list_any (λ y. y == l.new) (map (slice_index l.to) l.xs)
      ≡ list_any (λ y. y == l.new) (map (slice_index l.to) l.rest);
  below : IsTrue (are_below (length l.to) l.rest);
}

abbrev pub decreases-loop-rest : goal.decreases-loop-rest
decreases-loop-rest l = length l.rest
