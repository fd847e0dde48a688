use Rattle.br_syntax.proofs.WrittenCmd.{skip_written}
use Rattle.br_syntax.proofs.write_cmd.skip_tree.Goals as goal

pub returns-clause-denotes : goal.returns-clause-denotes
returns-clause-denotes c = rw c.in_ok-items.ensures skip_written
