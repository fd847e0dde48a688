use Rattle.br_syntax.proofs.WrittenCmd.{store_written}
use Rattle.br_syntax.proofs.write_cmd.store_tree.Goals as goal

pub returns-clause-denotes : goal.returns-clause-denotes
returns-clause-denotes c =
    rw (c.in_ok-push-2.ensures.ok, c.in_ok-push.ensures.ok, c.in_ok-items.ensures)
    (store_written c.store_word.result.now c.args.size c.in_ok-expr_tree.field-0 c.in_ok-expr_tree-2.field-0
    c.args.address.now c.args.value.now
    c.store_word.ensures.meaning c.in_ok-expr_tree.ensures.denotes c.in_ok-expr_tree-2.ensures.denotes)
