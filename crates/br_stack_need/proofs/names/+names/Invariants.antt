-- The statements so far and those that follow set what all set.
use Rattle.std.proofs.Common.{◌≡◌, drop}
use Rattle.std.specs.List.{flat_map}
use Rattle.br_flatimp.specs.Parts.{statement_names}
use Rattle.br_stack_need.specs.Marks.{marked}
use Rattle.br_stack_need.proofs.names.+names.Given as goal

abbrev pub invariant-mark_statements-loop-s : goal.invariant-mark_statements-loop-s
invariant-mark_statements-loop-s l =
    marked l.seen (flat_map statement_names (drop l.s-index l.body))
    ≡ marked l.initial.seen (flat_map statement_names l.body)
