-- The names so far, and those of the expressions from here on.
use Rattle.std.proofs.Common.{◌≡◌, drop}
use Rattle.br_flatten.specs.Places.{expressions_variables, with_names}
use Rattle.br_flatten.proofs.places.expressions.Given as goal

abbrev pub invariant-loop-e : goal.invariant-loop-e
invariant-loop-e l = with_names l.names (expressions_variables (drop l.e-index l.es))
    ≡ with_names l.initial.names (expressions_variables l.es)
