use Rattle.std.proofs.Common.{map}
use Rattle.br_syntax.specs.Offsets.{unplaced}
use Rattle.br_syntax.proofs.WrittenNames.{function_written, unplaced_function_tree, function_parts}
use Rattle.br_syntax.proofs.write_program.func_tree.Goals as goal

pub returns-clause-denotes : goal.returns-clause-denotes
returns-clause-denotes c =
    let parts = function_parts c.args.func.now c.requires in
    rw (
      c.in_ok-append.ensures,
      c.in_ok-push-3.ensures.ok,
      c.in_ok-push-2.ensures.ok,
      c.in_ok-push.ensures.ok,
      c.in_ok-items.ensures,
      c.in_ok-name_tree.ensures,
      c.in_ok-names_tree.ensures,
      c.in_ok-names_tree-2.ensures,
      c.as_slice.ensures,
      c.as_slice-2.ensures,
    )
    (function_written c.args.func.now.name c.args.func.now.args c.args.func.now.results
    c.in_ok-cmd_trees.field-0 (map unplaced c.args.func.now.body) parts.args_ok parts.results_ok
    (rw c.as_slice-3.ensures at c.in_ok-cmd_trees.ensures.denotes))

pub returns-clause-offsets : goal.returns-clause-offsets
returns-clause-offsets c =
    rw (
      c.in_ok-append.ensures,
      c.in_ok-push-3.ensures.ok,
      c.in_ok-push-2.ensures.ok,
      c.in_ok-push.ensures.ok,
      c.in_ok-items.ensures,
      c.in_ok-name_tree.ensures,
      c.in_ok-names_tree.ensures,
      c.in_ok-names_tree-2.ensures,
    )
    (unplaced_function_tree c.args.func.now.name _ _ c.in_ok-cmd_trees.field-0 c.in_ok-cmd_trees.ensures.offsets)
