use Rattle.std.proofs.Common.{ap, subst, ◌∙◌, Some, None}
use Rattle.br_judge.specs.declared.place.Moved.TheVariants.{On, Over, Departs}
use Rattle.br_judge.specs.Good.{TX, RX}
use Rattle.br_judge.proofs.Exchanges.{Waits, put_steps, get_steps}
use Rattle.br_judge.proofs.exchange.exchange.Goals as goal

pub returns-in-On : goal.returns-in-On
returns-in-On c = rw c.in-Put.is (put_steps c.args.byte c.in-Put.left c.args.e (On c.in-On.left) c.in-On.ensures)

pub returns-in-Over-Some : goal.returns-in-Over-Some
returns-in-Over-Some c =
    let over = c.in-Over-Some.is ∙ ap Over c.in-Over-Some.field-0-is in
    rw c.in-Put.is
    (put_steps c.args.byte c.in-Put.left c.args.e (Over (Some c.in-Over-Some.field-0-0))
    (subst (Waits TX c.in-Put.left c.args.e) over c.wait.ensures))

pub returns-in-Over-None : goal.returns-in-Over-None
returns-in-Over-None c =
    let over = c.in-Over-None.is ∙ ap Over c.in-Over-None.field-0-is in
    rw c.in-Put.is
    (put_steps c.args.byte c.in-Put.left c.args.e (Over None)
    (subst (Waits TX c.in-Put.left c.args.e) over c.wait.ensures))

pub returns-in-Departs : goal.returns-in-Departs
returns-in-Departs c = rw c.in-Put.is (put_steps c.args.byte c.in-Put.left c.args.e Departs c.in-Departs.ensures)

pub returns-in-Over-Some-wait : goal.returns-in-Over-Some-wait
returns-in-Over-Some-wait c =
    let over = c.in-Over-Some-wait.is ∙ ap Over c.in-Over-Some-wait.field-0-is in
    rw c.in-Get.is
    (get_steps c.args.byte c.in-Get.left c.args.e (Over (Some c.in-Over-Some-wait.w))
    (subst (Waits RX c.in-Get.left c.args.e) over c.wait-in-Get.ensures))

pub returns-in-Over-None-wait : goal.returns-in-Over-None-wait
returns-in-Over-None-wait c =
    let over = c.in-Over-None-wait.is ∙ ap Over c.in-Over-None-wait.field-0-is in
    rw c.in-Get.is
    (get_steps c.args.byte c.in-Get.left c.args.e (Over None)
    (subst (Waits RX c.in-Get.left c.args.e) over c.wait-in-Get.ensures))
