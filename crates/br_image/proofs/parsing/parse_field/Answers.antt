use Rattle.std.proofs.Common.{arith}
use Rattle.br_image.proofs.Decoding.{IfNone-holds}
use Rattle.br_image.proofs.Fields.{field_space, field_digits}
use Rattle.br_image.proofs.parsing.parse_field.Goals as goal

pub returns-in_err-digits-clause-none : goal.returns-in_err-digits-clause-none
returns-in_err-digits-clause-none c = IfNone-holds c.from_residual.result
    (λ n rest below e. field_space c.args.bytes.now rest n c.in_err-digits.ensures.none e)

pub returns-in_err-number-clause-none : goal.returns-in_err-number-clause-none
returns-in_err-number-clause-none c = IfNone-holds c.from_residual-in_err-number.result
    (λ n rest below e.
    let found = c.in_ok-digits.ensures.found in
    let digits = field_digits c.args.bytes.now c.in_ok-digits.digits.now c.in_ok-digits.rest.now rest n found.1
    (omega arith) found.0 e in
    c.in_err-number.ensures.none n below digits)
