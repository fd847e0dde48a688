use Rattle.std.proofs.Common.{ap, ◌∙◌}
use Rattle.br_flatimp.specs.Values.{Names}
use Rattle.br_flatimp.specs.Liveness.{union}
use Rattle.br_live.specs.Sets.{common, difference}
use Rattle.br_live.specs.BitSets.{set_of}
use Rattle.br_live.proofs.Names.{hands-either}
use Rattle.br_live.proofs.summary.Summary.join.Goals as goal

pub returns-clause-hands : goal.returns-clause-hands
returns-clause-hands c = λ after.
    let w : Names = set_of c.args.self.now.writes in
    let r : Names = set_of c.args.self.now.reads in
    let v : Names = set_of c.args.other.now.writes in
    let q : Names = set_of c.args.other.now.reads in
    ap (λ (s : Names). union (difference after s) (set_of c.union_with.new.self)) c.keep_common.ensures.set
    ∙ ap (λ (s : Names). union (difference after (common w v)) s) c.union_with.ensures.set
    ∙ hands-either after w v r q
