use Rattle.std.proofs.Common.{◌≡◌, ℕ, ◌<◌, ◌||◌, drop}
use Rattle.br_flatimp.specs.Liveness.{is_in}
use Rattle.br_emit.specs.Registers.{has}
use Rattle.br_emit.proofs.sets.all_of.Given as goal

abbrev pub invariant-loop-x : goal.invariant-loop-x
invariant-loop-x l = (y : ℕ) → y < 32 → (has l.set y || is_in (drop l.x-index l.xs) y) ≡ is_in l.xs y
