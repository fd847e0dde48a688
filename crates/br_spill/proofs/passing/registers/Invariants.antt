-- The registers so far, and the rest.
use Rattle.std.proofs.Common.{◌≡◌, ◌+◌, ◌-◌, ◌++◌}
use Rattle.br_spill.specs.Spill.{in_order}
use Rattle.br_spill.proofs.passing.registers.Given as goal

abbrev pub invariant-loop-i : goal.invariant-loop-i
invariant-loop-i l = l.xs ++ in_order (10 + l.i) (l.count - l.i) ≡ in_order 10 l.count
