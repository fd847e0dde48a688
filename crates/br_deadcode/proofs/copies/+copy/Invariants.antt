-- The statements so far, and those from here on.
use Rattle.std.proofs.Common.{◌≡◌, ◌++◌, drop}
use Rattle.br_deadcode.proofs.copies.+copy.Given as goal

abbrev pub invariant-copies-loop-s : goal.invariant-copies-loop-s
invariant-copies-loop-s l = l.made ++ drop l.s-index l.body ≡ l.body
