use Rattle.std.proofs.Common.{Some}
use Rattle.br_immediates.proofs.Tables.{updated}
use Rattle.br_immediates.proofs.literals.Literals.set.Goals as goal

pub returns : goal.returns
returns c = updated c.args.x (Some c.args.n) c.args.self.now.words c.insert.new.self c.in_ok-insert.ensures.updates
