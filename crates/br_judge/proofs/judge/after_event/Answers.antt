use Rattle.std.proofs.Common.{subst}
use Rattle.br_judge.specs.declared.place.Moved.TheVariants.{On, Over, Departs}
use Rattle.br_judge.proofs.Sets.{iff_trans}
use Rattle.br_judge.proofs.Turns.{Transfers, transfer_steps}
use Rattle.br_judge.proofs.judge.after_event.Goals as goal

pub returns-in-On : goal.returns-in-On
returns-in-On c =
    let steps = subst (λ b. Transfers b c.args.at c.args.e (On c.in-On.at)) c.bytes_for.ensures c.in-On.ensures in
    transfer_steps c.args.purpose c.args.at c.args.e (On c.in-On.at) steps

pub returns-in-Over : goal.returns-in-Over
returns-in-Over c rest =
    let steps = subst (λ b. Transfers b c.args.at c.args.e (Over c.in-Over.outcome)) c.bytes_for.ensures
    c.in-Over.ensures in
    iff_trans (transfer_steps c.args.purpose c.args.at c.args.e (Over c.in-Over.outcome) steps rest)
    (c.after_transfer.ensures rest)

pub returns-in-Departs : goal.returns-in-Departs
returns-in-Departs c =
    let steps = subst (λ b. Transfers b c.args.at c.args.e Departs) c.bytes_for.ensures c.in-Departs.ensures in
    transfer_steps c.args.purpose c.args.at c.args.e Departs steps
