-- What tables of sets say of statements.
use Rattle.std.specs.Prelude.{ℕ, List, map, slice_index_or}
use Rattle.br_flatimp.specs.Values.{Names}
use Rattle.br_flatimp.specs.Liveness.{nothing, Moment}
use Rattle.br_live.specs.declared.bit_set.BitSet.{BitSet}
use Rattle.br_live.specs.declared.table.LiveTable.{LiveTable}
use Rattle.br_live.specs.BitSets.{set_of}

-- the names that are live after a statement, all of them below a bound
pub record Row : Type 0 where
  pub bound : ℕ
  pub set : Names

abbrev pub row : BitSet → Row
row s = record { bound = s.bound; set = set_of s }

-- the rows of a table, by the numbers of the statements
abbrev pub rows : LiveTable → List Row
rows t = map row t.sets.items

-- that of a statement, or one with no names where there is no such statement
abbrev pub row_at : LiveTable → ℕ → Row
row_at t n = slice_index_or (rows t) n (record { bound = 0; set = nothing })

-- the rows of statements with so many names, when it is known what is live after each
abbrev pub rows_after : ℕ → List Moment → List Row
rows_after names ms = map (λ (m : Moment). record { bound = names; set = m.after }) ms
