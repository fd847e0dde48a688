use Rattle.br_syntax.proofs.Arguments.{arguments_step}
use Rattle.br_syntax.proofs.expression.arguments.Goals as goal

pub loop-i-preserved : goal.loop-i-preserved
loop-i-preserved c =
    arguments_step c.args.items.now c.loop-i.i c.index-items-i.result c.loop-i.found c.in_ok-found.found
    c.in_ok-argument_at.field-0 _
    c.loop-i-test.true c.index-items-i.is c.in_ok-argument_at.ensures c.in_ok-found.ensures c.loop-i.invariant
