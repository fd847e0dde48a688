-- A number in decimal is read as that number.
use Rattle.std.proofs.Common.{◌≡◌, ℕ, ◌+◌, ◌%◌, ◌^◌, ◌<◌, ◌≤◌, true, false, not, ◌&&◌, ◌==◌, nat_lt}
use Rattle.std.proofs.Common.{List, [], ◌∷◌, ◌++◌, length, Some, refl, ap, ◌∙◌, arith, ⊎_elim}
use Rattle.std.specs.Fmt.{decimal}
use Rattle.std.specs.List.{list_all}
use Rattle.std.specs.Char.{digit_value, is_digit}
use Rattle.std.specs.Str.Parse.{AllDigits, digits_value}
use Rattle.std.proofs.lemmas.Fmt.{decimal_is_IsNumeral, decimal_digit, decimal_by_steps}
use Rattle.std.proofs.lemmas.Bool.{cases_eq, and_from, lt-ltb, ne_eqb, cond-true, or_right, not_from_false}
use Rattle.std.proofs.lemmas.Bool.Decides.{nat_tests}
use Rattle.br_base.specs.Name.{is_name, starts_name, continues_name}
use Rattle.br_sexpr.specs.Number.{are_digits, is_empty, leads_no_zero, number_of}

-- which bytes are decimal digits
digit-range : (c : ℕ) → digit_value c < 10 → (48 ≤ c) × (c < 58)
digit-range c is = (grind (arith, nat_tests), grind (arith, nat_tests))

digit-continues : (c : ℕ) → digit_value c < 10 → continues_name c ≡ true
digit-continues c is = let r = digit-range c is in grind (arith, nat_tests)

digit-starts_not : (c : ℕ) → digit_value c < 10 → starts_name c ≡ false
digit-starts_not c is = let r = digit-range c is in grind (arith, nat_tests)

all-digits : (cs : List ℕ) → AllDigits 10 cs → are_digits 10 cs ≡ true
all-digits [] all = refl
all-digits (c ∷ cs) all =
    and_from (is_digit c 10) (are_digits 10 cs) (lt-ltb (digit_value c) 10 all.0) (all-digits cs all.1)

all-continue : (cs : List ℕ) → AllDigits 10 cs → list_all continues_name cs ≡ true
all-continue [] all = refl
all-continue (c ∷ cs) all =
    and_from (continues_name c) (list_all continues_name cs) (digit-continues c all.0) (all-continue cs all.1)

no-name : (cs : List ℕ) → AllDigits 10 cs → is_name cs ≡ false
no-name [] all = refl
no-name (c ∷ cs) all = ap (λ b. b && list_all continues_name cs) (digit-starts_not c all.0)

-- a number above 0 begins with no zero
abbrev LeadsNoZero : ℕ → List ℕ → Type 0
LeadsNoZero n ds = 0 < n → (c : ℕ) × (cs : List ℕ) × (ds ≡ c ∷ cs) × ((c == 48) ≡ false)

decimal-leads : (n : ℕ) → n < 2 ^ 64 → LeadsNoZero n (decimal n)
decimal-leads = decimal_by_steps LeadsNoZero
    (λ n one above. (48 + n, [], refl, ne_eqb (48 + n) 48 (λ is. absurd (omega (arith, is)))))
    (λ n ds ten less above. let w = less (omega (arith)) in
    (w.0, w.1 ++ (48 + n % 10) ∷ [], ap (λ xs. xs ++ (48 + n % 10) ∷ []) w.2, w.3))

leads-no_zero : (n : ℕ) → n < 2 ^ 64 → leads_no_zero (decimal n) ≡ true
leads-no_zero n small = ⊎_elim
    (λ none. ap (λ m. leads_no_zero (decimal m)) none ∙ ap leads_no_zero (decimal_digit 0 (omega arith)))
    (λ some. let w = decimal-leads n small (omega (arith, some)) in
    ap leads_no_zero w.2 ∙ or_right (is_empty w.1) (not (w.0 == 48)) (not_from_false (w.0 == 48) w.3))
    (cases_eq n 0)

pub record ReadsBack (n : ℕ) : Type 0 where
  pub some : 0 < length (decimal n)
  pub all : list_all continues_name (decimal n) ≡ true
  pub other : is_name (decimal n) ≡ false
  pub value : number_of (decimal n) ≡ Some n

pub decimal-reads : (n : ℕ) → n < 2 ^ 32 → ReadsBack n
decimal-reads n small =
    let numeral = decimal_is_IsNumeral n (omega (arith, small)) in
    let fits : (are_digits 10 (decimal n) && nat_lt (digits_value 10 (decimal n)) (2 ^ 32)) ≡ true =
    and_from (are_digits 10 (decimal n)) _ (all-digits (decimal n) numeral.0.1)
    (lt-ltb (digits_value 10 (decimal n)) (2 ^ 32) (omega (arith, numeral.1, small))) in
    record {
      some = numeral.0.0;
      all = all-continue (decimal n) numeral.0.1;
      other = no-name (decimal n) numeral.0.1;
      value = cond-true _ _ _ (leads-no_zero n (omega (arith, small))) ∙ cond-true _ _ _ fits ∙ ap Some numeral.1;
    }
