use Rattle.std.proofs.Common.{ap, ◌∙◌}
use Rattle.br_flatimp.specs.Values.{Names}
use Rattle.br_flatimp.specs.Liveness.{union}
use Rattle.br_live.specs.Sets.{difference}
use Rattle.br_live.specs.BitSets.{set_of}
use Rattle.br_live.proofs.Names.{hands-later}
use Rattle.br_live.proofs.summary.Summary.prepend.Goals as goal

pub returns-clause-hands : goal.returns-clause-hands
returns-clause-hands c = λ after.
    let w : Names = set_of c.args.self.now.writes in
    let r : Names = set_of c.args.self.now.reads in
    let v : Names = set_of c.args.earlier.now.writes in
    let q : Names = set_of c.args.earlier.now.reads in
    ap (λ (s : Names). union (difference after s) (set_of c.union_with.new.self)) c.union_with-2.ensures.set
    ∙ ap (λ (s : Names). union (difference after (union w v)) s)
    (c.union_with.ensures.set ∙ ap (λ (s : Names). union s q) c.subtract.ensures.set)
    ∙ hands-later after w v r q
