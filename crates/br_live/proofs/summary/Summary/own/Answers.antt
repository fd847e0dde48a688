use Rattle.std.proofs.Common.{ap, ◌∙◌}
use Rattle.br_flatimp.specs.Values.{Names}
use Rattle.br_flatimp.specs.Liveness.{is_in, union}
use Rattle.br_live.specs.Sets.{difference}
use Rattle.br_live.specs.BitSets.{set_of}
use Rattle.br_live.proofs.Names.{hands-later}
use Rattle.br_live.proofs.summary.Summary.own.Goals as goal

pub returns-clause-hands : goal.returns-clause-hands
returns-clause-hands c = λ after.
    let w : Names = set_of c.args.self.now.writes in
    let r : Names = set_of c.args.self.now.reads in
    ap (λ (v : Names). union (difference after v) (set_of c.insert_all.new.self)) c.insert_all-2.ensures.set
    ∙ ap (λ (s : Names). union (difference after (union w (is_in c.args.writes.now))) s)
    (c.insert_all.ensures.set ∙ ap (λ (s : Names). union s (is_in c.args.reads.now)) c.remove_all.ensures.set)
    ∙ hands-later after w (is_in c.args.writes.now) r (is_in c.args.reads.now)
