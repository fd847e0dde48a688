-- The bulk of the expressions so far.
use Rattle.std.proofs.Common.{◌≡◌, min, take}
use Rattle.br_measure.specs.Bulk.{expressions_bulk}
use Rattle.br_measure.proofs.bulk.expressions.Given as goal

abbrev pub invariant-loop-e : goal.invariant-loop-e
invariant-loop-e l = l.total ≡ min (expressions_bulk (take l.e-index l.es)) 4294967295
