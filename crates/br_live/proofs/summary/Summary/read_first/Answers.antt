use Rattle.std.proofs.Common.{ap, ◌∙◌}
use Rattle.br_flatimp.specs.Values.{Names}
use Rattle.br_flatimp.specs.Liveness.{union}
use Rattle.br_live.specs.Sets.{difference}
use Rattle.br_live.specs.BitSets.{set_of}
use Rattle.br_live.proofs.Names.{hands-more}
use Rattle.br_live.proofs.summary.Summary.read_first.Goals as goal

pub returns-clause-hands : goal.returns-clause-hands
returns-clause-hands c = λ after.
    let w : Names = set_of c.args.self.now.writes in
    let r : Names = set_of c.args.self.now.reads in
    let v : Names = set_of c.args.other.now.writes in
    let q : Names = set_of c.args.other.now.reads in
    ap (λ (s : Names). union (difference after w) s) c.union_with.ensures.set ∙ hands-more after w r q v
