use Rattle.std.proofs.Common.{ap, ◌∙◌}
use Rattle.br_flatimp.specs.Values.{Names}
use Rattle.br_flatimp.specs.Liveness.{is_in, union}
use Rattle.br_flatimp.specs.Parts.{own_read, own_written}
use Rattle.br_live.specs.Sets.{difference}
use Rattle.br_live.specs.BitSets.{set_of}
use Rattle.br_live.proofs.Names.{hands-later}
use Rattle.br_live.proofs.summary.Summary.put_own.Goals as goal

pub returns-clause-hands : goal.returns-clause-hands
returns-clause-hands c = λ after.
    let w : Names = set_of c.args.self.now.writes in
    let r : Names = set_of c.args.self.now.reads in
    ap (λ (v : Names). union (difference after v) (set_of c.own_names.new.self.reads)) c.own_names.ensures.writes
    ∙ ap (λ (s : Names). union (difference after (union w (is_in (own_written c.args.s.now)))) s)
    c.own_names.ensures.reads
    ∙ hands-later after w (is_in (own_written c.args.s.now)) r (is_in (own_read c.args.s.now))
