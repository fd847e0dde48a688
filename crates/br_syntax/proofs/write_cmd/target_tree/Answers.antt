use Rattle.std.proofs.Common.{refl}
use Rattle.br_syntax.proofs.WrittenCmd.{unplaced_target}
use Rattle.br_syntax.proofs.WrittenNames.{names_written, arguments_written, unplaced-names}
use Rattle.br_syntax.proofs.write_cmd.target_tree.Goals as goal

pub returns-clause-tree : goal.returns-clause-tree
returns-clause-tree c = (
  c.in_ok-names_tree.field-0,
  c.in_ok-expr_trees.field-0,
  (
    rw (
      c.in_ok-append.ensures,
      c.in_ok-push-2.ensures.ok,
      c.in_ok-push.ensures.ok,
      c.in_ok-items.ensures,
      c.in_ok-name_tree.ensures,
    ) refl,
    rw c.in_ok-names_tree.ensures (names_written c.args.results.now c.requires.results),
    arguments_written c.in_ok-expr_trees.field-0 c.args.args.now c.requires.args c.in_ok-expr_trees.ensures.denotes,
  ),
)

pub returns-clause-offsets : goal.returns-clause-offsets
returns-clause-offsets c =
    rw (
      c.in_ok-append.ensures,
      c.in_ok-push-2.ensures.ok,
      c.in_ok-push.ensures.ok,
      c.in_ok-items.ensures,
      c.in_ok-name_tree.ensures,
      c.in_ok-names_tree.ensures,
    )
    (unplaced_target c.args.word.now _ c.args.called.now c.in_ok-expr_trees.field-0 (unplaced-names c.args.results.now)
    c.in_ok-expr_trees.ensures.offsets)
