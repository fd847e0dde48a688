-- The new names so far, and those of the names from here on.
use Rattle.std.proofs.Common.{◌≡◌, ◌++◌, map, drop}
use Rattle.std.specs.Prelude.{slice_index}
use Rattle.br_regalloc_check.proofs.renamed.new_names.Given as goal

abbrev pub invariant-loop-x : goal.invariant-loop-x
invariant-loop-x l = l.made ++ map (slice_index l.to) (drop l.x-index l.xs) ≡ map (slice_index l.to) l.xs
