-- The numbers so far and those that follow set what all set.
use Rattle.std.proofs.Common.{◌≡◌, drop}
use Rattle.br_stack_need.specs.Marks.{marked}
use Rattle.br_stack_need.proofs.names.mark_each.Given as goal

abbrev pub invariant-loop-x : goal.invariant-loop-x
invariant-loop-x l = marked l.seen (drop l.x-index l.xs) ≡ marked l.initial.seen l.xs
