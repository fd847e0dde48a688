-- No name before this one is live before the statement and gets the same new name.
use Rattle.std.proofs.Common.{◌≡◌, IsTrue, ℕ, ◌<◌}
use Rattle.std.specs.Prelude.{slice_index}
use Rattle.br_flatimp.specs.Liveness.{before, live}
use Rattle.br_flatimp.specs.Values.{Names}
use Rattle.br_live.specs.Tables.{rows}
use Rattle.br_regalloc_check.specs.Walks.{StandsAt}
use Rattle.br_regalloc_check.proofs.before.is_apart_before.Given as goal

abbrev pub invariant-loop-z : goal.invariant-loop-z
invariant-loop-z l =
    (names : ℕ) (after : Names) → StandsAt (rows l.table) l.at names ((live l.s).moments after) →
    (k : ℕ) → k < l.z → IsTrue (before l.s after k) → slice_index l.to k ≡ slice_index l.to l.x → k ≡ l.x
