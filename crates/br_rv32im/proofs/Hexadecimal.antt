-- Five hexadecimal digits, as a hole with zeros in front writes them.
use Rattle.std.proofs.Common.{◌≡◌, ℕ, ◌-◌, ◌/◌, ◌%◌, ◌^◌, ◌<◌, ◌≤◌, suc, ◌∙◌, ap}
use Rattle.std.proofs.Common.{arith, false, List, [], ◌∷◌, inl, inr, eqb, refl}
use Rattle.std.proofs.lemmas.Bool.{cases_lt}
use Rattle.std.proofs.lemmas.Bool.Decides.{nat_tests}
use Rattle.std.specs.Fmt.{digits, digits_onto, padded_integral, format_spec, char_count}
use Rattle.br_words.specs.Hexadecimal.{hex_digit}

onto_last : (k n : ℕ) (acc : List ℕ) → n < 16 → digits_onto (suc k) 16 false n acc ≡ hex_digit n ∷ acc
onto_last k n acc h =
    let zero : n / 16 ≡ 0 = omega arith in
    let same : n % 16 ≡ n = omega arith in
    rw (zero, same)

onto_more : (k n : ℕ) (acc : List ℕ) → 16 ≤ n
    → digits_onto (suc k) 16 false n acc ≡ digits_onto k 16 false (n / 16) (hex_digit (n % 16) ∷ acc)
onto_more k n acc h = let some : (eqb (n / 16) 0) ≡ false = grind (arith, nat_tests) in rw some

start : (n : ℕ) → digits 16 false n ≡ digits_onto 64 16 false n []
unfolding digits
start n = refl

one : (n : ℕ) → n < 16 → digits 16 false n ≡ hex_digit n ∷ []
one n h = start n ∙ onto_last 63 n [] h

two : (n : ℕ) → 16 ≤ n → n / 16 < 16 → digits 16 false n ≡ hex_digit (n / 16) ∷ hex_digit (n % 16) ∷ []
two n l h = start n ∙ onto_more 63 n [] l ∙ onto_last 62 (n / 16) _ h

three : (n : ℕ) → 16 ≤ n / 16 → n / 16 / 16 < 16
    → digits 16 false n ≡ hex_digit (n / 16 / 16) ∷ hex_digit (n / 16 % 16) ∷ hex_digit (n % 16) ∷ []
three n l h = start n ∙ onto_more 63 n [] (omega arith) ∙ onto_more 62 (n / 16) _ l ∙ onto_last 61 (n / 16 / 16) _ h

four : (n : ℕ) → 16 ≤ n / 16 / 16 → n / 16 / 16 / 16 < 16 → digits 16 false n
    ≡ hex_digit (n / 16 / 16 / 16) ∷ hex_digit (n / 16 / 16 % 16) ∷ hex_digit (n / 16 % 16) ∷ hex_digit (n % 16) ∷ []
four n l h = start n ∙ onto_more 63 n [] (omega arith) ∙ onto_more 62 (n / 16) _ (omega arith)
    ∙ onto_more 61 (n / 16 / 16) _ l ∙ onto_last 60 (n / 16 / 16 / 16) _ h

five : (n : ℕ) → 16 ≤ n / 16 / 16 / 16 → n / 16 / 16 / 16 / 16 < 16
    → digits 16 false n ≡ hex_digit (n / 16 / 16 / 16 / 16) ∷ hex_digit (n / 16 / 16 / 16 % 16)
    ∷ hex_digit (n / 16 / 16 % 16) ∷ hex_digit (n / 16 % 16) ∷ hex_digit (n % 16) ∷ []
five n l h = start n ∙ onto_more 63 n [] (omega arith) ∙ onto_more 62 (n / 16) _ (omega arith) ∙ onto_more 61 (n / 16
    / 16) _ (omega arith) ∙ onto_more 60 (n / 16 / 16 / 16) _ l ∙ onto_last 59 (n / 16 / 16 / 16 / 16) _ h

-- what the hole writes, from the digits of the number
laid_out : List ℕ → List ℕ
laid_out = padded_integral (format_spec 32 0 4 5 (2 ^ 64 - 1)) false []

-- the five digits
placed : ℕ → List ℕ
placed n = hex_digit (n / 16 ^ 4) ∷ hex_digit (n / 16 ^ 3 % 16) ∷ hex_digit (n / 16 ^ 2 % 16) ∷ hex_digit (n / 16 % 16)
    ∷ hex_digit (n % 16) ∷ []

from_one : (n : ℕ) → n < 16 → laid_out (digits 16 false n) ≡ placed n
unfolding laid_out placed padded_integral char_count
from_one n h =
    let a : n / 16 ^ 4 ≡ 0 = omega arith in
    let b : n / 16 ^ 3 % 16 ≡ 0 = omega arith in
    let c : n / 16 ^ 2 % 16 ≡ 0 = omega arith in
    let d : n / 16 % 16 ≡ 0 = omega arith in
    let e : n % 16 ≡ n = omega arith in
    ap laid_out (one n h) ∙ rw (a, b, c, d, e)

from_two : (n : ℕ) → 16 ≤ n → n / 16 < 16 → laid_out (digits 16 false n) ≡ placed n
unfolding laid_out placed padded_integral char_count
from_two n l h =
    let a : n / 16 ^ 4 ≡ 0 = omega arith in
    let b : n / 16 ^ 3 % 16 ≡ 0 = omega arith in
    let c : n / 16 ^ 2 % 16 ≡ 0 = omega arith in
    let d : n / 16 % 16 ≡ n / 16 = omega arith in
    ap laid_out (two n l h) ∙ rw (a, b, c, d)

from_three : (n : ℕ) → 16 ≤ n / 16 → n / 16 / 16 < 16 → laid_out (digits 16 false n) ≡ placed n
unfolding laid_out placed padded_integral char_count
from_three n l h =
    let a : n / 16 ^ 4 ≡ 0 = omega arith in
    let b : n / 16 ^ 3 % 16 ≡ 0 = omega arith in
    let c : n / 16 ^ 2 % 16 ≡ n / 16 / 16 = omega arith in
    ap laid_out (three n l h) ∙ rw (a, b, c)

from_four : (n : ℕ) → 16 ≤ n / 16 / 16 → n / 16 / 16 / 16 < 16 → laid_out (digits 16 false n) ≡ placed n
unfolding laid_out placed padded_integral char_count
from_four n l h =
    let a : n / 16 ^ 4 ≡ 0 = omega arith in
    let b : n / 16 ^ 3 % 16 ≡ n / 16 / 16 / 16 = omega arith in
    let c : n / 16 ^ 2 % 16 ≡ n / 16 / 16 % 16 = omega arith in
    ap laid_out (four n l h) ∙ rw (a, b, c)

from_five : (n : ℕ) → 16 ≤ n / 16 / 16 / 16 → n / 16 / 16 / 16 / 16 < 16 → laid_out (digits 16 false n) ≡ placed n
unfolding laid_out placed padded_integral char_count
from_five n l h =
    let a : n / 16 ^ 4 ≡ n / 16 / 16 / 16 / 16 = omega arith in
    let b : n / 16 ^ 3 % 16 ≡ n / 16 / 16 / 16 % 16 = omega arith in
    let c : n / 16 ^ 2 % 16 ≡ n / 16 / 16 % 16 = omega arith in
    ap laid_out (five n l h) ∙ rw (a, b, c)

from_any : (n : ℕ) → n < 2 ^ 20 → laid_out (digits 16 false n) ≡ placed n
from_any n h =
    elim (cases_lt n 16) [
      | inl a ↦ from_one n a
      | inr a ↦
          elim (cases_lt (n / 16) 16) [
            | inl b ↦ from_two n a b
            | inr b ↦
                elim (cases_lt (n / 16 / 16) 16) [
                  | inl c ↦ from_three n b c
                  | inr c ↦
                      elim (cases_lt (n / 16 / 16 / 16) 16) [
                        | inl d ↦ from_four n c d
                        | inr d ↦
                            from_five n d (omega arith)
                      ]
                ]
          ]
    ]

pub five_digits : (n : ℕ) → n < 2 ^ 20
    → padded_integral (format_spec 32 0 4 5 (2 ^ 64 - 1)) false [] (digits 16 false n) ≡ hex_digit (n / 16 ^ 4)
    ∷ hex_digit (n / 16 ^ 3 % 16) ∷ hex_digit (n / 16 ^ 2 % 16) ∷ hex_digit (n / 16 % 16) ∷ hex_digit (n % 16) ∷ []
unfolding laid_out placed
five_digits n h = from_any n h
