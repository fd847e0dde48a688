-- No name in the word before this one is live and gets the same new name.
use Rattle.std.proofs.Common.{◌≡◌, IsTrue, ℕ, ◌/◌, ◌<◌}
use Rattle.std.specs.Prelude.{slice_index}
use Rattle.br_live.specs.BitSets.{set_of}
use Rattle.br_regalloc_check.proofs.apart.is_apart_in_word.Given as goal

abbrev pub invariant-loop-z : goal.invariant-loop-z
invariant-loop-z l =
    (z : ℕ) → z < l.z → z / 32 ≡ l.k → IsTrue (set_of l.live z) → slice_index l.to z ≡ slice_index l.to l.x → z ≡ l.x
