use Rattle.std.proofs.Common.{ap, ◌∙◌}
use Rattle.br_flatimp.specs.Values.{Names}
use Rattle.br_flatimp.specs.Liveness.{nothing, union}
use Rattle.br_live.specs.Sets.{difference}
use Rattle.br_live.specs.BitSets.{set_of}
use Rattle.br_live.proofs.Names.{hands-none}
use Rattle.br_live.proofs.summary.Summary.new.Goals as goal

pub returns-clause-hands : goal.returns-clause-hands
returns-clause-hands c = λ after.
    ap (λ (w : Names). union (difference after w) (set_of c.in_ok-reads.reads)) c.in_ok-writes.ensures.set
    ∙ ap (λ (r : Names). union (difference after nothing) r) c.in_ok-reads.ensures.set
    ∙ hands-none after
