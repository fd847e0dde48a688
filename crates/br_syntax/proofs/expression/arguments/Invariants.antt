-- The arguments so far and those that follow make the whole list.
use Rattle.std.proofs.Common.{◌≡◌, drop}
use Rattle.br_syntax.specs.Shaped.{joined}
use Rattle.br_syntax.specs.Denotes.{arguments_from}
use Rattle.br_syntax.proofs.expression.arguments.Given as goal

abbrev pub invariant-loop-i : goal.invariant-loop-i
invariant-loop-i l = joined l.found (arguments_from l.i (drop l.i l.items)) ≡ arguments_from 0 l.items
