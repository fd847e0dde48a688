-- The statements so far, and those of the statements from here on.
use Rattle.std.proofs.Common.{◌≡◌, ◌++◌, map, drop}
use Rattle.std.specs.Prelude.{slice_index}
use Rattle.br_flatimp.specs.Renaming.{renamed}
use Rattle.br_regalloc_check.proofs.renamed.+renamed.Given as goal

abbrev pub invariant-renamed_all-loop-s : goal.invariant-renamed_all-loop-s
invariant-renamed_all-loop-s l =
    l.made ++ map (renamed (slice_index l.to)) (drop l.s-index l.body) ≡ map (renamed (slice_index l.to)) l.body
