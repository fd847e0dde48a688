-- Those from here on stay apart exactly where all do.
use Rattle.std.proofs.Common.{◌↔◌, IsTrue, length}
use Rattle.std.specs.Prelude.{slice_index}
use Rattle.std.specs.List.{AllByRecursion}
use Rattle.br_flatimp.specs.WellFormed.{are_below}
use Rattle.br_live.specs.BitSets.{set_of}
use Rattle.br_regalloc_check.specs.Walks.{IsApartBelow}
use Rattle.br_regalloc_check.proofs.apart.are_apart.Given as goal

abbrev pub invariant-loop-rest : goal.invariant-loop-rest
invariant-loop-rest l = record {
  same :
      AllByRecursion (λ x. IsApartBelow (length l.to) (slice_index l.to) x (set_of l.live)) l.xs
      ↔ AllByRecursion (λ x. IsApartBelow (length l.to) (slice_index l.to) x (set_of l.live)) l.rest;
  below : IsTrue (are_below (length l.to) l.rest);
}

abbrev pub decreases-loop-rest : goal.decreases-loop-rest
decreases-loop-rest l = length l.rest
