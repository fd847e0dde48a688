-- What is marked or left to look at is reached, and nothing that these call is forgotten. Each turn
-- takes one function from those that are left, and adds its callees only when it marks it.
use Rattle.std.proofs.Common.{◌≡◌, ℕ, ◌+◌, ◌*◌, true, false, ◌||◌, List, length, get_or, map}
use Rattle.br_measure.specs.Measure.{largest}
use Rattle.br_measure.specs.Table.{row, has, Leads}
use Rattle.br_measure.proofs.Marking.{unseen}
use Rattle.br_measure.proofs.paths.reached.Given as goal

abbrev pub invariant-loop-g : goal.invariant-loop-g
invariant-loop-g l = record {
  len : length l.seen.items ≡ length l.table;
  seen_reached : (g : ℕ) → get_or l.seen.items g false ≡ true → Leads l.table l.f g;
  left_reached : (g : ℕ) → has l.left.items g ≡ true → Leads l.table l.f g;
  first : (g : ℕ) → has (row l.table l.f) g ≡ true → (get_or l.seen.items g false || has l.left.items g) ≡ true;
  closed : (h : ℕ) → get_or l.seen.items h false ≡ true → (g : ℕ) → has (row l.table h) g ≡ true
      → (get_or l.seen.items g false || has l.left.items g) ≡ true;
}

abbrev pub decreases-loop-g : goal.decreases-loop-g
decreases-loop-g l = unseen l.seen.items * (largest (map (λ (ns : List ℕ). length ns) l.table) + 1) + length
    l.left.items
