-- None of the addresses so far has a byte.
use Rattle.std.proofs.Common.{◌≡◌, ℕ, ◌+◌, ◌<◌, ◌≤◌, None}
use Rattle.std.specs.FinMap as finite
use Rattle.br_machine.proofs.start.has_address.Given as goal

abbrev pub invariant-loop-i : goal.invariant-loop-i
invariant-loop-i l = (a : ℕ) → l.base ≤ a → a < l.base + l.i → finite.get l.memory a ≡ None
