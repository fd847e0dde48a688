-- The statements so far and those that follow raise the count as all do.
use Rattle.std.proofs.Common.{◌≡◌, drop}
use Rattle.std.specs.List.{flat_map}
use Rattle.br_flatimp.specs.Parts.{statement_names}
use Rattle.br_regalloc_check.specs.Walks.{counted}
use Rattle.br_regalloc_check.proofs.names_for.+names.Given as goal

abbrev pub invariant-count_statements-loop-s : goal.invariant-count_statements-loop-s
invariant-count_statements-loop-s l =
    counted l.names (flat_map statement_names (drop l.s-index l.body))
    ≡ counted l.initial.names (flat_map statement_names l.body)
