use Rattle.std.proofs.Common.{◌∙◌, ◌+◌, Some, sym, ap, drop, arith}
use Rattle.std.proofs.lemmas.List.{at_drop_more, at_drop_all}
use Rattle.br_sexpr.specs.Progress.{and_digits}
use Rattle.br_sexpr.proofs.Digits.{returns_of, and_digits-none}
use Rattle.br_sexpr.proofs.number.word_in.Goals as goal

pub returns : goal.returns
returns c =
    let b = c.args.base in
    sym (at_drop_all (λ ds. and_digits b ds (Some c.loop-byte.value)) c.args.digits.now c.loop-byte.byte-index
    c.loop-byte-test.false)
    ∙ c.loop-byte.invariant ∙ returns_of b c.args.digits.now (omega arith)

pub returns-in_err-value : goal.returns-in_err-value
returns-in_err-value c =
    let b = c.args.base in
    let ds = c.args.digits.now in
    let i = c.loop-byte.byte-index in
    c.from_residual.ensures ∙ sym (and_digits-none b (drop (i + 1) ds))
    ∙ ap (and_digits b (drop (i + 1) ds)) c.in_err-value.ensures
    ∙ sym (at_drop_more (λ cs. and_digits b cs (Some c.loop-byte.value)) ds i 0 c.loop-byte-test.true)
    ∙ c.loop-byte.invariant ∙ returns_of b ds (omega arith)
