-- No name in the words before this one is live and gets the same new name.
use Rattle.std.proofs.Common.{◌≡◌, IsTrue, ℕ, ◌/◌, ◌<◌, length}
use Rattle.std.specs.Prelude.{slice_index}
use Rattle.br_live.specs.BitSets.{set_of}
use Rattle.br_regalloc_check.proofs.apart.is_apart.Given as goal

abbrev pub invariant-loop-k : goal.invariant-loop-k
invariant-loop-k l =
    (z : ℕ) → z < length l.to → z / 32 < l.k → IsTrue (set_of l.live z)
    → slice_index l.to z ≡ slice_index l.to l.x → z ≡ l.x
