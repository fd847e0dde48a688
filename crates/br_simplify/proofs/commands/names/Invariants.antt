-- The names so far.
use Rattle.std.proofs.Common.{◌≡◌, take}
use Rattle.br_simplify.proofs.commands.names.Given as goal

abbrev pub invariant-loop-x : goal.invariant-loop-x
invariant-loop-x l = l.copies ≡ take l.x-index l.xs
