use Rattle.br_flatten.specs.Places.{expression_variables}
use Rattle.br_flatten.proofs.AddedNames.{names_step}
use Rattle.br_flatten.proofs.places.expressions.Goals as goal

pub loop-e-preserved : goal.loop-e-preserved
loop-e-preserved c =
    names_step expression_variables c.args.es.now c.loop-e.e-index c.e-item.result c.loop-e.names
    c.expression.new.names _ c.loop-e-test.true c.e-item.is c.in_ok-expression.ensures c.loop-e.invariant
