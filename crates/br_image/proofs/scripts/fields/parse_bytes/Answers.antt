use Rattle.std.proofs.Common.{◌≡◌, ◌∙◌, inl, inr, refl, ap, sym, Ok, Err}
use Rattle.hex.specs.Hex.{encode_lower}
use Rattle.hex.proofs.HexLemmas.{decode_of-ok}
use Rattle.br_bytes.specs.Hexadecimal.{bytes_text}
use Rattle.br_image.proofs.Bytes.{bytes_all, bytes-encoded, decode-bytes}
use Rattle.br_image.proofs.Fields.{differ, same_text}
use Rattle.br_image.proofs.scripts.fields.parse_bytes.Goals as goal

pub returns-then-eq-clause-some : goal.returns-then-eq-clause-some
returns-then-eq-clause-some c =
    let bytes = c.in-Ok.bytes.items in
    let valid = (decode_of-ok c.args.digits.now bytes c.in-Ok.ensures.ok).3 in
    let same = same_text c.as_bytes.result.now c.args.digits.now c.args.digits.now c.if-eq.ensures refl in
    let text : c.as_bytes.result.now ≡ bytes_text bytes =
    c.as_bytes.ensures.value
    ∙ (c.in_ok-text-in-Ok.ensures ∙ (ap encode_lower c.as_slice.ensures.value ∙ bytes-encoded bytes valid)) in
    rw c.from_vec.ensures (bytes_all bytes valid, sym same ∙ text)

pub returns-else-eq-clause-none : goal.returns-else-eq-clause-none
returns-else-eq-clause-none c ws h e =
    let bytes = c.in-Ok.bytes.items in
    let valid = (decode_of-ok c.args.digits.now bytes c.in-Ok.ensures.ok).3 in
    let both : Ok bytes ≡ Ok ws = sym c.in-Ok.ensures.ok ∙ decode-bytes c.args.digits.now ws h e in
    let bytes_are : bytes ≡ ws = cc in
    let text : c.as_bytes.result.now ≡ bytes_text bytes =
    c.as_bytes.ensures.value
    ∙ (c.in_ok-text-in-Ok.ensures ∙ (ap encode_lower c.as_slice.ensures.value ∙ bytes-encoded bytes valid)) in
    differ c.as_bytes.result.now c.args.digits.now c.args.digits.now c.if-eq.ensures refl
    (text ∙ (ap bytes_text bytes_are ∙ sym e))

pub returns-in_default : goal.returns-in_default
returns-in_default c = record {
  some = tt;
  none = λ ws h e. elim c.in-Err.ensures.err [
    | inl out ↦ c.in_default.not-OutOfMemory out
    | inr refused ↦ let both : Ok ws ≡ Err c.in-Err.fault = sym (decode-bytes c.args.digits.now ws h e) ∙ refused in
        absurd cc
  ];
}
