use Rattle.std.proofs.Common.{subst}
use Rattle.std.specs.List.{flat_map}
use Rattle.br_flatimp.specs.Parts.{gathered, own_callees}
use Rattle.br_emit.proofs.Forgetting.{Within, owned}
use Rattle.br_emit.proofs.forgotten.narrow_callees.Goals as goal

pub returns-clause-closed : goal.returns-clause-closed
returns-clause-closed c = λ e g callee x k.
    (let within = subst (λ q. Within c.args.sets.now c.union-own.result (flat_map (gathered own_callees) q))
    c.as_slice.ensures (c.narrow_all.ensures.within e) in
    owned c.args.sets.now c.args.n c.args.f.now c.union-own.result c.set_at.result c.names_of.result x c.set_at.ensures
    (c.union-own.ensures x) (c.names_of.ensures x) (within g callee x k))
