use Rattle.br_syntax.proofs.UnplacedForms.{function_push}
use Rattle.br_syntax.proofs.Written.{unplaced_push}
use Rattle.br_syntax.proofs.write_program.func_trees.Goals as goal

pub loop-func-preserved : goal.loop-func-preserved
loop-func-preserved c =
    rw c.in_ok-push.ensures.ok (
      function_push c.loop-func.trees c.args.funcs.now c.loop-func.func-index c.in_ok-func_tree.field-0
          c.func-item.result c.loop-func-test.true c.func-item.is c.in_ok-func_tree.ensures.denotes
          c.loop-func.invariant.0,
      unplaced_push c.loop-func.trees c.in_ok-func_tree.field-0 c.loop-func.invariant.1
          c.in_ok-func_tree.ensures.offsets,
    )
