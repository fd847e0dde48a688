use Rattle.std.proofs.Common.{◌≡◌, ◌∙◌, ap, true, false, sym}
use Rattle.std.specs.Prelude.{is_some, is_ok}
use Rattle.std.specs.Int.{from_be_bytes, w32}
use Rattle.std.proofs.lemmas.Nat.{from_be_bytes-to_be_bytes_4}
use lib.Pointwise.{bytes_decides}
use Rattle.br_image.specs.Text.{word_text}
use Rattle.br_image.proofs.Decoding.{IfNone-holds, decode-word}
use Rattle.br_image.proofs.parsing.parse_word.Goals as goal

pub returns-in_err-ok-clause-none : goal.returns-in_err-ok-clause-none
returns-in_err-ok-clause-none c = IfNone-holds c.from_residual.result (λ w small e.
    let read = decode-word c.args.digits.now w small e in
    let done = rw read at c.decode_to_slice.ensures.value in
    let some : is_some c.ok.result ≡ true = c.ok.ensures.variant ∙ ap is_ok done.0 in
    let none : is_some c.ok.result ≡ false = ap is_some c.in_err-ok.was in
    absurd cc)

pub returns-else-eq-clause-none : goal.returns-else-eq-clause-none
returns-else-eq-clause-none c w small e =
    let read = decode-word c.args.digits.now w small e in
    let done = rw read at c.decode_to_slice.ensures.value in
    let word : c.from_be_bytes-word.result ≡ w = c.from_be_bytes-word.ensures
    ∙ (ap (from_be_bytes w32) done.1 ∙ from_be_bytes-to_be_bytes_4 w small) in
    let same : c.as_slice.result.now ≡ c.args.digits.now = c.as_slice.ensures
    ∙ (c.word_digits.ensures ∙ (ap word_text word ∙ sym e)) in
    let equal = (bytes_decides c.as_slice.result.now c.args.digits.now).1 same in
    let test = c.if-eq.ensures in
    absurd cc
