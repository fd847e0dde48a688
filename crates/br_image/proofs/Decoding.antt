-- What reading a piece of a line answers.
use Rattle.std.proofs.Common.{◌≡◌, ℕ, ◌+◌, ◌-◌, ◌*◌, ◌^◌, ◌<◌, ◌≤◌, List, [], ◌∷◌, refl, ap, sym}
use Rattle.std.proofs.Common.{◌∙◌, arith, subst, length, Ok, Option, Some, None, drop, get_or}
use Rattle.std.specs.Prelude.{IfNone, All, ◌%◌, ◌/◌}
use Rattle.std.proofs.Common.{inl, inr}
use Rattle.std.proofs.lemmas.Bool.{cases_lt}
use Rattle.std.proofs.lemmas.List.{get_or_past}
use Rattle.std.proofs.lemmas.List.Elements.{All-cons, All-nil}
use Rattle.std.specs.Int.{to_be_bytes, w32}
use Rattle.std.specs.Fmt.{decimal}
use Rattle.std.specs.Str.Parse.{AllDigits, digits_value, digits_value_after}
use Rattle.std.proofs.Common.{drop-cons, add-one, suc}
use Rattle.std.specs.Char.{digit_value}
use Rattle.std.proofs.lemmas.Bool.Decides.{nat_tests}
use Rattle.std.proofs.lemmas.Str.Parse.{digit_from_value}
use Rattle.std.proofs.lemmas.Fmt.{decimal_is_IsNumeral, decimal-digits_value, first_decimal, decimal_digit}
use Rattle.std.proofs.lemmas.Str.Parse.{IsNumeralModel, numerals_by_value, tells_digits}
use Rattle.hex.specs.Hex.{IsBytes, decode_sized}
use Rattle.hex.proofs.HexLemmas.{decode_sized-encode_lower}
use Rattle.br_image.specs.Text.{word_text}
use Rattle.br_image.proofs.Digits.{encode_lower-word}

pub IfNone-holds : {T P : Type 0} (o : Option T) → P → IfNone o P
IfNone-holds None p = p
IfNone-holds (Some x) p = tt

four_bytes : (a b c d : ℕ) → IsBytes (a % 256 ∷ b % 256 ∷ c % 256 ∷ d % 256 ∷ [])
four_bytes a b c d =
    let P : ℕ → Type 0 = λ x. x < 256 in
    let ba : a % 256 < 256 = omega arith in let bb : b % 256 < 256 = omega arith in
    let bc : c % 256 < 256 = omega arith in let bd : d % 256 < 256 = omega arith in
    let all : All P (a % 256 ∷ b % 256 ∷ c % 256 ∷ d % 256 ∷ []) =
    All-cons P (a % 256) (b % 256 ∷ c % 256 ∷ d % 256 ∷ []) ba (All-cons P (b % 256) (c % 256 ∷ d % 256 ∷ []) bb
    (All-cons P (c % 256) (d % 256 ∷ []) bc (All-cons P (d % 256) [] bd (All-nil P)))) in
    λ i. elim (cases_lt i 4) [
      | inl low ↦ all i 0 low
      | inr high ↦ let past : get_or (a % 256 ∷ b % 256 ∷ c % 256 ∷ d % 256 ∷ []) i 0 ≡ 0 =
          get_or_past (a % 256 ∷ b % 256 ∷ c % 256 ∷ d % 256 ∷ []) i 0 high in rw past (omega arith)
    ]

-- the eight digits of a word are read as its bytes
pub decode-word : (digits : List ℕ) (w : ℕ) → w < 2 ^ 32 → digits ≡ word_text w
    → decode_sized digits 4 ≡ Ok (to_be_bytes w32 w)
decode-word digits w small e =
    let bytes : IsBytes (to_be_bytes w32 w) = four_bytes (w / 16777216) (w / 65536) (w / 256) w in
    rw (e ∙ sym (encode_lower-word w small)) (decode_sized-encode_lower (to_be_bytes w32 w) 4 refl bytes)

-- ---- decimal numbers

-- what is known of the digits when the first i of them were read as v
pub record DigitsRead (ds : List ℕ) (i v : ℕ) : Type 0 where
  pub value : digits_value_after 10 v (drop i ds) ≡ digits_value 10 ds
  pub front : AllDigits 10 ds → AllDigits 10 (drop i ds)
  pub back : AllDigits 10 (drop i ds) → AllDigits 10 ds

pub DigitsRead-none : (ds : List ℕ) → DigitsRead ds 0 0
DigitsRead-none ds = record { value = refl; front = λ h. h; back = λ h. h }

digit_value-of : (d : ℕ) → 48 ≤ d → d ≤ 57 → digit_value d ≡ d - 48
digit_value-of d low high = grind (arith, nat_tests)

pub DigitsRead-more : (ds : List ℕ) (i v : ℕ) → i < length ds → 48 ≤ get_or ds i 0 → get_or ds i 0 ≤ 57
    → DigitsRead ds i v
    → DigitsRead ds (i + 1) (v * 10 + (get_or ds i 0 - 48))
DigitsRead-more ds i v within low high h =
    let d = get_or ds i 0 in
    let digit = digit_value-of d low high in
    let small : digit_value d < 10 = rw digit (omega arith) in
    let cut = drop-cons ds i 0 within in
    let next : drop (i + 1) ds ≡ drop (suc i) ds = ap (λ k. drop k ds) (add-one i) in
    let P : List ℕ → Type 0 = λ t. AllDigits 10 t in
    record {
      value = ap (λ t. digits_value_after 10 (v * 10 + (d - 48)) t) next
          ∙ (ap (λ k. digits_value_after 10 (v * 10 + k) (drop (suc i) ds)) (sym digit)
          ∙ (sym (ap (λ t. digits_value_after 10 v t) cut) ∙ h.value));
      front = λ all. subst P (sym next) (subst P cut (h.front all)).1;
      back = λ rest. h.back (subst P (sym cut) (small, subst P next rest));
    }

-- the number grows with each digit
pub value_after-grows : (v : ℕ) (ds : List ℕ) → v ≤ digits_value_after 10 v ds
value_after-grows v [] = omega arith
value_after-grows v (d ∷ ds) = let more = value_after-grows (v * 10 + digit_value d) ds in omega arith

-- a number that is too large stays so
pub too_large : (ds : List ℕ) (i v most : ℕ) → i < length ds → 48 ≤ get_or ds i 0 → get_or ds i 0 ≤ 57
    → DigitsRead ds i v
    → most < v * 10 + (get_or ds i 0 - 48) → most < digits_value 10 ds
too_large ds i v most within low high h above =
    let more = (DigitsRead-more ds i v within low high h).value in
    let grows = value_after-grows (v * 10 + (get_or ds i 0 - 48)) (drop (i + 1) ds) in
    omega arith

pub digit_there : (ds : List ℕ) (i : ℕ) → i < length ds → AllDigits 10 (drop i ds)
    → (48 ≤ get_or ds i 0) × (get_or ds i 0 ≤ 57)
digit_there ds i within h =
    let P : List ℕ → Type 0 = λ t. AllDigits 10 t in
    digit_from_value (get_or ds i 0) (subst P (drop-cons ds i 0 within) h).0

own : IsNumeralModel (AllDigits 10) (digits_value 10)
own = numerals_by_value (AllDigits 10) tells_digits

-- digits with no zero before them are the text of their number
pub decimal-read : (ds : List ℕ) (n : ℕ) → AllDigits 10 ds → 0 < length ds → (get_or ds 0 0 ≡ 48 → length ds ≡ 1)
    → digits_value 10 ds ≡ n → n < 2 ^ 64 → ds ≡ decimal n
decimal-read ds n all some zero value small =
    sym (subst (λ k. decimal k ≡ ds) value (decimal-digits_value own ds all some zero (rw value small)))

pub ruleset number_steps = (DigitsRead-none, DigitsRead-more, too_large, digit_there)

pub decimal_some : (ds : List ℕ) (n most : ℕ) → most < 2 ^ 32 → n ≤ most → ds ≡ decimal n → 0 < length ds
decimal_some ds n most small below e =
    rw e (decimal_is_IsNumeral n (omega arith)).0.0

pub decimal_digits : (ds : List ℕ) (n most : ℕ) → most < 2 ^ 32 → n ≤ most → ds ≡ decimal n
    → AllDigits 10 ds × (digits_value 10 ds ≡ n)
decimal_digits ds n most small below e =
    let h = decimal_is_IsNumeral n (omega arith) in
    rw e (h.0.1, h.1)

pub decimal_zero : (ds : List ℕ) (n most : ℕ) → most < 2 ^ 32 → n ≤ most → ds ≡ decimal n → get_or ds 0 0 ≡ 48
    → length ds ≤ 1
decimal_zero ds n most small below e zero =
    elim (cases_lt 0 n) [
      | inl some ↦
          let first = first_decimal n some (omega arith) in
          let same : get_or ds 0 0 ≡ get_or (decimal n) 0 0 = ap (λ t. get_or t 0 0) e in
          absurd (omega arith)
      | inr none ↦
          let is : n ≡ 0 = omega arith in
          let one : decimal n ≡ 48 ∷ [] = rw is (decimal_digit 0 (omega arith)) in
          let len : length ds ≡ 1 = ap length (e ∙ one) in
          omega arith
    ]

pub ruleset decimal_steps = (decimal_some, decimal_digits, decimal_zero, decimal-read)
