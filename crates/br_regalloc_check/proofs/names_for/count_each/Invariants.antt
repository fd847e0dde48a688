-- The numbers so far and those that follow raise the count as all do.
use Rattle.std.proofs.Common.{◌≡◌, drop}
use Rattle.br_regalloc_check.specs.Walks.{counted}
use Rattle.br_regalloc_check.proofs.names_for.count_each.Given as goal

abbrev pub invariant-loop-x : goal.invariant-loop-x
invariant-loop-x l = counted l.names (drop l.x-index l.xs) ≡ counted l.initial.names l.xs
