use Rattle.std.proofs.Common.{None}
use Rattle.br_immediates.proofs.Tables.{updated}
use Rattle.br_immediates.proofs.literals.Literals.forget.Goals as goal

pub returns : goal.returns
returns c = updated c.args.x None c.args.self.now.words c.remove.new.self c.remove.ensures.updates
