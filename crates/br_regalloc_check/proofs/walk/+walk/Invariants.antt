-- The rows from here on are those of the statements from here on, which may be renamed exactly where all may.
use Rattle.std.proofs.Common.{◌≡◌, ◌+◌, ◌↔◌, ℕ, length, map, drop}
use Rattle.std.specs.Prelude.{slice_index, sum}
use Rattle.std.specs.List.{AllByRecursion}
use Rattle.br_flatimp.specs.Liveness.{live, moments}
use Rattle.br_flatimp.specs.Sizes.{statement_count}
use Rattle.br_flatimp.specs.Values.{Names}
use Rattle.br_live.specs.Tables.{rows}
use Rattle.br_regalloc_check.specs.Walks.{MayRenameBelow, StandsAt}
use Rattle.br_regalloc_check.proofs.walk.+walk.Given as goal

abbrev pub invariant-may_rename_all-loop-s : goal.invariant-may_rename_all-loop-s
invariant-may_rename_all-loop-s l = record {
  at : l.at + sum (map statement_count (drop l.s-index l.body)) ≡ l.initial.at + sum (map statement_count l.body);
  stands : (names : ℕ) (after : Names) → StandsAt (rows l.table) l.initial.at names (moments (map live l.body) after) →
      StandsAt (rows l.table) l.at names (moments (map live (drop l.s-index l.body)) after);
  may : (names : ℕ) (after : Names) → StandsAt (rows l.table) l.initial.at names (moments (map live l.body) after) →
      AllByRecursion (MayRenameBelow (length l.to) (slice_index l.to)) (moments (map live l.body) after)
      ↔ AllByRecursion (MayRenameBelow (length l.to) (slice_index l.to))
      (moments (map live (drop l.s-index l.body)) after);
}
