use Rattle.br_syntax.proofs.WrittenCmd.{set_written}
use Rattle.br_syntax.proofs.write_cmd.set_tree.Goals as goal

pub returns-clause-denotes : goal.returns-clause-denotes
returns-clause-denotes c =
    rw (c.in_ok-push-2.ensures.ok, c.in_ok-push.ensures.ok, c.in_ok-items.ensures, c.in_ok-name_tree.ensures)
    (set_written c.args.variable.now c.in_ok-expr_tree.field-0 c.args.value.now c.in_ok-expr_tree.ensures.denotes)
