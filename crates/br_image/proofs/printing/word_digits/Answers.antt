use Rattle.std.proofs.Common.{◌∙◌, ap, arith, Result, Ok, Err}
use Rattle.std.specs.Prelude.{IsOk, OnOk}
use Rattle.hex.specs.Hex.{encode_lower}
use Rattle.br_image.proofs.Digits.{encode_lower-word}
use Rattle.br_image.proofs.printing.word_digits.Goals as goal

ok_part : {T E P : Type 0} (r : Result T E) → IsOk r → OnOk r P → P
ok_part (Ok x) h p = p
ok_part (Err e) h p = absurd (cc)

pub returns : goal.returns
returns c =
    let fits : IsOk c.encode_to_slice-written.result = c.encode_to_slice-written.ensures.fits.1 (omega arith) in
    ok_part c.encode_to_slice-written.result fits c.encode_to_slice-written.ensures.written
    ∙ (ap encode_lower c.to_be_bytes.ensures ∙ encode_lower-word c.args.word (omega arith))
