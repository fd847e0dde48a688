use Rattle.std.proofs.Common.{◌≡◌, ◌≢◌, ◌∙◌, ◌<◌, ℕ, List, ◌∷◌, sym, Option, Some, None}
use Rattle.std.specs.Prelude.{All, Result, Ok, Err, IfOk, IfNone}
use Rattle.br_base.specs.declared.failure.NoMemory.{NoMemory}
use Rattle.br_image.specs.Fields.{bytes_field}
use Rattle.br_bytes.specs.Hexadecimal.{bytes_text}
use Rattle.br_image.proofs.ScriptForms.{field_tail}
use Rattle.br_image.proofs.scripts.fields.only_bytes.Goals as goal

no_field : (r : Result (Option (List ℕ)) NoMemory) (tail digits : List ℕ) → tail ≡ 32 ∷ digits
    → IfOk r (λ o. IfNone o ((bytes : List ℕ) → All (λ b. b < 256) bytes → digits ≢ bytes_text bytes))
    → IfOk r (λ o. IfNone o ((bytes : List ℕ) → All (λ b. b < 256) bytes → tail ≢ bytes_field bytes))
no_field (Ok None) tail digits e h = λ bytes all same. h bytes all (field_tail 32 digits bytes (sym e ∙ same)).0
no_field (Ok (Some x)) tail digits e h = tt
no_field (Err m) tail digits e h = tt

pub returns-in-Some-clause-none : goal.returns-in-Some-clause-none
returns-in-Some-clause-none c =
    no_field c.parse_bytes.result c.args.tail.now c.in-Some.digits.now c.in-Some.ensures.some c.parse_bytes.ensures.none
