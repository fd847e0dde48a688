-- A number digit by digit.
use Rattle.std.proofs.Common.{◌≡◌, ℕ, ◌+◌, ◌*◌, ◌^◌, ◌<◌, ◌≤◌, Bool, true, false, cond, ltb, ◌&&◌}
use Rattle.std.proofs.Common.{List, [], ◌∷◌, Option, Some, None, refl, sym, arith, ⊎_elim, subst}
use Rattle.std.specs.Char.{digit_value, is_digit}
use Rattle.std.specs.Str.Parse.{digits_value_after}
use Rattle.std.proofs.lemmas.Bool.{cases_lt, cases_Bool, lt-ltb, le-ltb, and_right, cond-false}
use Rattle.std.proofs.Math.Nat.{mul-le-mul_left}
use Rattle.br_sexpr.specs.Number.{are_digits, word_in}
use Rattle.br_sexpr.specs.Progress.{and_digits}

digits_value_after-ge : (base n : ℕ) (ds : List ℕ) → 1 ≤ base → n ≤ digits_value_after base n ds
digits_value_after-ge base n [] low = omega arith
digits_value_after-ge base n (c ∷ ds) low =
    omega (arith, digits_value_after-ge base (n * base + digit_value c) ds low, mul-le-mul_left n low)

-- the number that the digits stand for after those of n
abbrev whole_in : ℕ → ℕ → List ℕ → Option ℕ
whole_in base n ds =
    cond (are_digits base ds && ltb (digits_value_after base n ds) (2 ^ 32)) (Some (digits_value_after base n ds)) None

pub and_digits-none : (base : ℕ) (ds : List ℕ) → and_digits base ds None ≡ None
and_digits-none base [] = refl
and_digits-none base (c ∷ ds) = refl

none_past : (base n : ℕ) (ds : List ℕ) → 1 ≤ base → 2 ^ 32 ≤ n → None ≡ whole_in base n ds
none_past base n ds low large =
    let past : ltb (digits_value_after base n ds) (2 ^ 32) ≡ false =
    le-ltb (digits_value_after base n ds) (2 ^ 32) (omega (arith, digits_value_after-ge base n ds low)) in
    let none : (are_digits base ds && ltb (digits_value_after base n ds) (2 ^ 32)) ≡ false =
    and_right (are_digits base ds) _ past in
    sym (cond-false _ _ _ none)

pub and_digits-is : (base n : ℕ) (ds : List ℕ) → 1 ≤ base → n < 2 ^ 32
    → and_digits base ds (Some n) ≡ whole_in base n ds
and_digits-is base n [] low small = rw (lt-ltb n (2 ^ 32) small) refl
and_digits-is base n (c ∷ ds) low small =
    let m : ℕ = n * base + digit_value c in
    let P : Bool → Bool → Type 0 =
    λ a b. and_digits base ds (cond (a && b) (Some m) None) ≡ cond ((a && are_digits base ds)
    && ltb (digits_value_after base m ds) (2 ^ 32)) (Some (digits_value_after base m ds)) None in
    ⊎_elim
    (λ digit. ⊎_elim
    (λ fits. subst (λ a. P a (ltb m (2 ^ 32))) (sym digit)
    (subst (P true) (sym (lt-ltb m (2 ^ 32) fits)) (and_digits-is base m ds low fits)))
    (λ large. subst (λ a. P a (ltb m (2 ^ 32))) (sym digit)
    (subst (P true) (sym (le-ltb m (2 ^ 32) large)) (none_past base m ds low large)))
    (cases_lt m (2 ^ 32)))
    (λ other. subst (λ a. P a (ltb m (2 ^ 32))) (sym other) refl)
    (cases_Bool (is_digit c base))

pub returns_of : (base : ℕ) (ds : List ℕ) → 1 ≤ base → and_digits base ds (Some 0) ≡ word_in base ds
returns_of base ds low = and_digits-is base 0 ds low (omega arith)
