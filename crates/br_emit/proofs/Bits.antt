-- Bits of words as registers of sets.
use Rattle.std.proofs.Common.{◌≡◌, ℕ, zero, suc, ◌+◌, ◌-◌, ◌*◌, ◌%◌, ◌^◌, ◌<◌, ◌≤◌, min, max, nat_lt}
use Rattle.std.proofs.Common.{Bool, true, false, not, ◌&&◌, ◌||◌, ◌==◌, List, [], ◌∷◌, ◌++◌, length}
use Rattle.std.proofs.Common.{drop, get_or, refl, sym, ap, subst, ◌∙◌, arith, bit_and, bit_or, ◌≢◌}
use Rattle.std.specs.Int.{bit_at, bit_not, w32}
use Rattle.std.proofs.lemmas.Grind.{common_steps}
use Rattle.std.proofs.lemmas.Bool.Decides.{nat_tests}
use Rattle.std.proofs.lemmas.Nat.Bits.{bit_at_or, bit_at_and, bit_at_not, bit_at-lt, bit_at-zero}
use Rattle.std.proofs.lemmas.Nat.Bits.{bit_at_ones, bit_at_set_same, bit_at_set_other}
use Rattle.br_flatimp.specs.Liveness.{is_in}
use Rattle.br_emit.specs.Registers.{has}

or_one : (a b : ℕ) → a < 2 → b < 2 → (max a b == 1) ≡ ((a == 1) || (b == 1))
or_one zero zero h k = refl
or_one zero (suc zero) h k = refl
or_one (suc zero) zero h k = refl
or_one (suc zero) (suc zero) h k = refl
or_one (suc (suc a)) b h k = absurd (omega arith)
or_one a (suc (suc b)) h k = absurd (omega arith)

and_one : (a b : ℕ) → a < 2 → b < 2 → (min a b == 1) ≡ ((a == 1) && (b == 1))
and_one zero zero h k = refl
and_one zero (suc zero) h k = refl
and_one (suc zero) zero h k = refl
and_one (suc zero) (suc zero) h k = refl
and_one (suc (suc a)) b h k = absurd (omega arith)
and_one a (suc (suc b)) h k = absurd (omega arith)

not_one : (a : ℕ) → a < 2 → ((1 - a) == 1) ≡ not (a == 1)
not_one zero h = refl
not_one (suc zero) h = refl
not_one (suc (suc a)) h = absurd (omega arith)

bit-or : (a b i : ℕ) → (bit_at (bit_or a b) i == 1) ≡ ((bit_at a i == 1) || (bit_at b i == 1))
bit-or a b i = ap (λ n. n == 1) (bit_at_or a b i) ∙ or_one (bit_at a i) (bit_at b i) (bit_at-lt a i) (bit_at-lt b i)

bit-and : (a b i : ℕ) → (bit_at (bit_and a b) i == 1) ≡ ((bit_at a i == 1) && (bit_at b i == 1))
bit-and a b i = ap (λ n. n == 1) (bit_at_and a b i) ∙ and_one (bit_at a i) (bit_at b i) (bit_at-lt a i) (bit_at-lt b i)

bit-without : (a b i : ℕ) → b < 2 ^ 32 → i < 32
    → (bit_at (bit_and a (bit_not w32 b)) i == 1) ≡ ((bit_at a i == 1) && not (bit_at b i == 1))
bit-without a b i h k =
    bit-and a (bit_not w32 b) i
    ∙ ap (λ n. (bit_at a i == 1) && (n == 1)) (bit_at_not w32 b i h k)
    ∙ ap (λ e. (bit_at a i == 1) && e) (not_one (bit_at b i) (bit_at-lt b i))

below : (x : ℕ) → nat_lt x 32 ≡ true → x < 32
below x e = grind (arith, nat_tests)

pub is_below : (x : ℕ) → x < 32 → nat_lt x 32 ≡ true
is_below x h = grind (arith, nat_tests)

-- ---- a test on one bit

pub has-bit : (set x : ℕ) → x < 32 → has set x ≡ (bit_at set x == 1)
has-bit set x h = ap (λ b. b && (bit_at set x == 1)) (is_below x h)

pub has-far : (set x : ℕ) → 32 ≤ x → has set x ≡ false
has-far set x h = let e : nat_lt x 32 ≡ false = grind (arith, nat_tests) in ap (λ b. b && (bit_at set x == 1)) e

pub has-nothing : (x : ℕ) → has 0 x ≡ false
has-nothing x = ap (λ n. nat_lt x 32 && (n == 1)) (bit_at-zero x) ∙ never (nat_lt x 32)
  where
    never : (b : Bool) → (b && false) ≡ false
    never true = refl
    never false = refl

pub has-every : (x : ℕ) → x < 32 → has 0xffffffff x ≡ true
has-every x h = has-bit 0xffffffff x h ∙ ap (λ n. n == 1) (bit_at_ones 32 x h)

-- ---- sets of two sets

pub has-or : (a b x : ℕ) → has (bit_or a b) x ≡ (has a x || has b x)
has-or a b x = by (nat_lt x 32)
  where
    by : (t : Bool) → (t && (bit_at (bit_or a b) x == 1)) ≡ ((t && (bit_at a x == 1)) || (t && (bit_at b x == 1)))
    by true = bit-or a b x
    by false = refl

pub has-and : (a b x : ℕ) → has (bit_and a b) x ≡ (has a x && has b x)
has-and a b x = by (nat_lt x 32)
  where
    by : (t : Bool) → (t && (bit_at (bit_and a b) x == 1)) ≡ ((t && (bit_at a x == 1)) && (t && (bit_at b x == 1)))
    by true = bit-and a b x
    by false = refl

pub has-without : (a b x : ℕ) → b < 2 ^ 32 → has (bit_and a (bit_not w32 b)) x ≡ (has a x && not (has b x))
has-without a b x h = by (nat_lt x 32) refl
  where
    by : (t : Bool) → nat_lt x 32 ≡ t → (t && (bit_at (bit_and a (bit_not w32 b)) x == 1))
        ≡ ((t && (bit_at a x == 1)) && not (t && (bit_at b x == 1)))
    by true e = bit-without a b x h (below x e)
    by false e = refl

-- ---- one register

pub has-just : (x y : ℕ) → x < 32 → y < 32 → has (1 * 2 ^ x % 2 ^ 32) y ≡ is_in (x ∷ []) y
has-just x y h k = by (x == y) refl
  where
    none : (n : ℕ) → bit_at (bit_or 0 n) y ≡ bit_at n y
    none n = bit_at_or 0 n y ∙ ap (λ m. max m (bit_at n y)) (bit_at-zero y) ∙ omega arith

    by : (t : Bool) → (x == y) ≡ t → has (1 * 2 ^ x % 2 ^ 32) y ≡ (t || false)
    by true e =
        let same : x ≡ y = grind (arith, nat_tests) in
        let one : bit_at (1 * 2 ^ x % 2 ^ 32) y ≡ 1 = sym (none (1 * 2 ^ x % 2 ^ 32))
        ∙ subst (λ q. bit_at (bit_or 0 (1 * 2 ^ x % 2 ^ 32)) q ≡ 1) same (bit_at_set_same w32 0 x h) in
        has-bit (1 * 2 ^ x % 2 ^ 32) y k ∙ ap (λ n. n == 1) one
    by false e =
        let other : y ≢ x = λ s. differs (sym s) e in
        let zero : bit_at (1 * 2 ^ x % 2 ^ 32) y ≡ 0 = sym (none (1 * 2 ^ x % 2 ^ 32))
        ∙ bit_at_set_other w32 0 x h y other ∙ bit_at-zero y in
        has-bit (1 * 2 ^ x % 2 ^ 32) y k ∙ ap (λ n. n == 1) zero
      where
        differs : x ≡ y → (x == y) ≡ false → ⊥
        differs s e = absurd (grind (arith, nat_tests))

-- ---- lists

pub in-append : (xs ys : List ℕ) (y : ℕ) → is_in (xs ++ ys) y ≡ (is_in xs y || is_in ys y)
in-append [] ys y = refl
in-append (x ∷ xs) ys y = by (x == y) (in-append xs ys y)
  where
    by : (t : Bool) → is_in (xs ++ ys) y ≡ (is_in xs y || is_in ys y)
        → (t || is_in (xs ++ ys) y) ≡ ((t || is_in xs y) || is_in ys y)
    by true h = refl
    by false h = h

pub or_false : (a : Bool) → (a || false) ≡ a
or_false true = refl
or_false false = refl

three : (a b r : Bool) → ((a || (b || false)) || r) ≡ (a || (b || r))
three true b r = refl
three false true r = refl
three false false r = refl

next : (xs : List ℕ) (k d : ℕ) → k < length xs → drop k xs ≡ get_or xs k d ∷ drop (k + 1) xs
next xs k d inside = grind (arith, common_steps)

pub set_step : (xs : List ℕ) (i set set' one x : ℕ) (whole : ℕ → Bool) → i < length xs → x ≡ get_or xs i 0
    → ((y : ℕ) → has set' y ≡ (has set y || has one y))
    → ((y : ℕ) → y < 32 → has one y ≡ is_in (x ∷ []) y)
    → ((y : ℕ) → y < 32 → (has set y || is_in (drop i xs) y) ≡ whole y)
    → (y : ℕ) → y < 32 → (has set' y || is_in (drop (i + 1) xs) y) ≡ whole y
set_step xs i set set' one x whole inside is joined here so_far y below =
    let rest = drop (i + 1) xs in
    ap (λ b. b || is_in rest y) (joined y ∙ ap (λ b. has set y || b) (here y below))
    ∙ three (has set y) (x == y) (is_in rest y)
    ∙ ap (λ q. has set y || is_in q y) (sym (next xs i 0 inside ∙ ap (λ q. q ∷ rest) (sym is)))
    ∙ so_far y below
