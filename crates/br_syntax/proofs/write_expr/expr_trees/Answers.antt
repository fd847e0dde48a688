use Rattle.br_syntax.specs.Denotes.{expression}
use Rattle.br_syntax.proofs.Written.{tree_push, unplaced_push}
use Rattle.br_syntax.proofs.write_expr.expr_trees.Goals as goal

pub loop-e-preserved : goal.loop-e-preserved
loop-e-preserved c =
    rw c.in_ok-push.ensures.ok (
      tree_push expression c.loop-e.items c.args.expressions.now c.loop-e.e-index c.in_ok-expr_tree.field-0
          c.e-item.result c.loop-e-test.true c.e-item.is c.in_ok-expr_tree.ensures.denotes c.loop-e.invariant.0,
      unplaced_push c.loop-e.items c.in_ok-expr_tree.field-0 c.loop-e.invariant.1 c.in_ok-expr_tree.ensures.offsets,
    )
