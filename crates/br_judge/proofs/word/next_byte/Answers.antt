use Rattle.std.proofs.Common.{◌≡◌, suc, ◌+◌, ◌<◌, length, drop, ◌↔◌, subst, arith, add-one}
use Rattle.br_judge.specs.declared.place.Exchange.TheVariants.{Put}
use Rattle.br_judge.specs.declared.place.Transfer.TheVariants.{Byte}
use Rattle.br_judge.specs.Places.{transferring, transfer}
use Rattle.br_judge.proofs.Transfers.{transferring_more}
use Rattle.br_judge.proofs.word.next_byte.Goals as goal

pub returns-then-sent-lt6 : goal.returns-then-sent-lt6
returns-then-sent-lt6 c bytes seven o rest =
    let within : c.args.sent + 1 < length bytes = omega arith in
    let next : c.args.sent + 1 ≡ suc c.args.sent = add-one c.args.sent in
    subst (λ q. transferring (drop q bytes) c.args.value o rest
    ↔ transfer bytes (Byte (c.args.sent + 1) c.args.value (Put 999)) o rest) next
    (transferring_more bytes (c.args.sent + 1) c.args.value within o rest)
