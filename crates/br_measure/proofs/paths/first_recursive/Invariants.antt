-- No function so far has a path of calls to itself.
use Rattle.std.proofs.Common.{ℕ, ◌<◌}
use Rattle.br_measure.specs.Table.{Leads}
use Rattle.br_measure.proofs.paths.first_recursive.Given as goal

abbrev pub invariant-loop-f : goal.invariant-loop-f
invariant-loop-f l = (g : ℕ) → g < l.f → Leads l.table g g → ⊥
