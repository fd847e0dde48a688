-- The expressions so far.
use Rattle.std.proofs.Common.{◌≡◌, map, take}
use Rattle.br_simplify.specs.Simple.{simple_expression}
use Rattle.br_simplify.proofs.expressions.expressions.Given as goal

abbrev pub invariant-loop-e : goal.invariant-loop-e
invariant-loop-e l = l.simple ≡ map simple_expression (take l.e-index l.es)
