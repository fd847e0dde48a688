use Rattle.br_syntax.proofs.WrittenCmd.{unset_written}
use Rattle.br_syntax.proofs.write_cmd.unset_tree.Goals as goal

pub returns-clause-denotes : goal.returns-clause-denotes
returns-clause-denotes c =
    rw (c.in_ok-push.ensures.ok, c.in_ok-items.ensures, c.in_ok-name_tree.ensures) (unset_written c.args.variable.now)
