use Rattle.std.proofs.Common.{◌<◌, length, get_or, ap, subst, ◌∙◌, Some, None, refl, arith}
use Rattle.br_judge.specs.declared.place.Moved.TheVariants.{On, Over, Departs}
use Rattle.br_judge.proofs.Sets.{iff_trans}
use Rattle.br_judge.proofs.Transfers.{Exchanges, byte_steps, select_steps}
use Rattle.br_judge.proofs.word.transfer.Goals as goal

pub returns-then-is_write : goal.returns-then-is_write
returns-then-is_write c =
    let some : 0 < length c.args.bytes.now = omega (arith, c.told-bytes) in
    rw c.in-Select.is (select_steps c.args.bytes.now c.args.e some (c.if-is_write.ensures.0 refl))

pub returns-in-On : goal.returns-in-On
returns-in-On c =
    let steps = subst (λ b. Exchanges b c.in-Byte.inner c.args.e (On c.in-On.inner)) c.byte_at.ensures
    c.in-On.ensures in
    rw c.in-Byte.is
    (byte_steps c.args.bytes.now c.in-Byte.sent c.in-Byte.value c.in-Byte.inner c.args.e (On c.in-On.inner) steps)

pub returns-in-Over-Some : goal.returns-in-Over-Some
returns-in-Over-Some c o rest =
    let over = c.in-Over-Some.is ∙ ap Over c.in-Over-Some.field-0-is in
    let steps : Exchanges (get_or c.args.bytes.now c.in-Byte.sent 0) c.in-Byte.inner c.args.e
    (Over (Some c.in-Over-Some.r)) =
    subst (λ b. Exchanges b c.in-Byte.inner c.args.e (Over (Some c.in-Over-Some.r))) c.byte_at.ensures
    (subst (Exchanges c.byte_at.result c.in-Byte.inner c.args.e) over c.exchange.ensures) in
    rw c.in-Byte.is
    (iff_trans
    (byte_steps c.args.bytes.now c.in-Byte.sent c.in-Byte.value c.in-Byte.inner c.args.e
    (Over (Some c.in-Over-Some.r)) steps o rest)
    (rw c.with_byte.ensures at (c.next_byte.ensures c.args.bytes.now c.told-bytes o rest)))

pub returns-in-Over-None : goal.returns-in-Over-None
returns-in-Over-None c =
    let over = c.in-Over-None.is ∙ ap Over c.in-Over-None.field-0-is in
    let steps : Exchanges (get_or c.args.bytes.now c.in-Byte.sent 0) c.in-Byte.inner c.args.e (Over None) =
    subst (λ b. Exchanges b c.in-Byte.inner c.args.e (Over None)) c.byte_at.ensures
    (subst (Exchanges c.byte_at.result c.in-Byte.inner c.args.e) over c.exchange.ensures) in
    rw c.in-Byte.is
    (byte_steps c.args.bytes.now c.in-Byte.sent c.in-Byte.value c.in-Byte.inner c.args.e (Over None) steps)

pub returns-in-Departs : goal.returns-in-Departs
returns-in-Departs c =
    let steps = subst (λ b. Exchanges b c.in-Byte.inner c.args.e Departs) c.byte_at.ensures c.in-Departs.ensures in
    rw c.in-Byte.is (byte_steps c.args.bytes.now c.in-Byte.sent c.in-Byte.value c.in-Byte.inner c.args.e Departs steps)
