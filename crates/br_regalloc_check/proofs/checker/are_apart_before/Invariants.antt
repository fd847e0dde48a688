-- The names before this one that are live before the statement stay apart from the others.
use Rattle.std.proofs.Common.{ℕ, ◌<◌, IsTrue, length}
use Rattle.std.specs.Prelude.{slice_index}
use Rattle.br_flatimp.specs.Liveness.{before, live}
use Rattle.br_flatimp.specs.Values.{Names}
use Rattle.br_live.specs.Tables.{rows}
use Rattle.br_regalloc_check.specs.Walks.{IsApartBelow, StandsAt}
use Rattle.br_regalloc_check.proofs.checker.are_apart_before.Given as goal

abbrev pub invariant-loop-x : goal.invariant-loop-x
invariant-loop-x l =
    (names : ℕ) (after : Names) → StandsAt (rows l.table) 0 names ((live l.s).moments after) →
    (k : ℕ) → k < l.x → IsTrue (before l.s after k) → IsApartBelow (length l.to) (slice_index l.to) k (before l.s after)
