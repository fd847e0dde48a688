-- Bits of words as members of sets.
use Rattle.std.proofs.Common.{◌≡◌, ℕ, zero, suc, ◌+◌, ◌-◌, ◌*◌, ◌/◌, ◌%◌, ◌^◌, ◌<◌, min, max, Bool, true}
use Rattle.std.proofs.Common.{false, not, ◌&&◌, ◌||◌, ◌==◌, List, refl, sym, ap, ◌∙◌, arith, bit_and}
use Rattle.std.proofs.Common.{bit_or, get_or, set, length, eqb, get_or-set_same, get_or-set_other, ◌≢◌}
use Rattle.std.specs.Int.{bit_at, bit_not, w32}
use Rattle.std.proofs.lemmas.Nat.Bits.{bit_at_or, bit_at_and, bit_at_not, bit_at-lt, same_from_bits_below}
use Rattle.std.proofs.lemmas.Nat.Bits.{bit_at_set_same, bit_at_set_other, bit_at_clear_same, bit_at_clear_other}
use Rattle.std.proofs.lemmas.Bool.{eqb-true, eqb-false, eq-eqb, ne_eqb}
use Rattle.std.proofs.Math.Bool.{or-true, or-false, and-true, and-false}
use Rattle.br_live.specs.declared.words.Join.{Join}
use Rattle.br_live.specs.Sets.{joined, members}

or_one : (a b : ℕ) → a < 2 → b < 2 → (max a b == 1) ≡ ((a == 1) || (b == 1))
or_one zero zero h k = refl
or_one zero (suc zero) h k = refl
or_one (suc zero) zero h k = refl
or_one (suc zero) (suc zero) h k = refl
or_one (suc (suc a)) b h k = absurd (omega arith)
or_one a (suc (suc b)) h k = absurd (omega arith)

and_one : (a b : ℕ) → a < 2 → b < 2 → (min a b == 1) ≡ ((a == 1) && (b == 1))
and_one zero zero h k = refl
and_one zero (suc zero) h k = refl
and_one (suc zero) zero h k = refl
and_one (suc zero) (suc zero) h k = refl
and_one (suc (suc a)) b h k = absurd (omega arith)
and_one a (suc (suc b)) h k = absurd (omega arith)

not_one : (a : ℕ) → a < 2 → ((1 - a) == 1) ≡ not (a == 1)
not_one zero h = refl
not_one (suc zero) h = refl
not_one (suc (suc a)) h = absurd (omega arith)

same_one : (a b : ℕ) → a < 2 → b < 2 → (a == 1) ≡ (b == 1) → a ≡ b
same_one zero zero h k e = refl
same_one (suc zero) (suc zero) h k e = refl
same_one zero (suc zero) h k e = absurd (cc e)
same_one (suc zero) zero h k e = absurd (cc e)
same_one (suc (suc a)) b h k e = absurd (omega arith)
same_one a (suc (suc b)) h k e = absurd (omega arith)

pub bit-or : (a b i : ℕ) → (bit_at (bit_or a b) i == 1) ≡ ((bit_at a i == 1) || (bit_at b i == 1))
bit-or a b i = ap (λ n. n == 1) (bit_at_or a b i) ∙ or_one (bit_at a i) (bit_at b i) (bit_at-lt a i) (bit_at-lt b i)

pub bit-and : (a b i : ℕ) → (bit_at (bit_and a b) i == 1) ≡ ((bit_at a i == 1) && (bit_at b i == 1))
bit-and a b i = ap (λ n. n == 1) (bit_at_and a b i) ∙ and_one (bit_at a i) (bit_at b i) (bit_at-lt a i) (bit_at-lt b i)

pub bit-without : (a b i : ℕ) → b < 2 ^ 32 → i < 32
    → (bit_at (bit_and a (bit_not w32 b)) i == 1) ≡ ((bit_at a i == 1) && not (bit_at b i == 1))
bit-without a b i h k =
    bit-and a (bit_not w32 b) i
    ∙ ap (λ n. (bit_at a i == 1) && (n == 1)) (bit_at_not w32 b i h k)
    ∙ ap (λ e. (bit_at a i == 1) && e) (not_one (bit_at b i) (bit_at-lt b i))

-- two words with the same bits are one
pub same-word : (a b : ℕ) → a < 2 ^ 32 → b < 2 ^ 32 → ((i : ℕ) → i < 32 → (bit_at a i == 1) ≡ (bit_at b i == 1)) → a ≡ b
same-word a b h k same = same_from_bits_below 32 a b h k
    (λ i below. same_one (bit_at a i) (bit_at b i) (bit_at-lt a i) (bit_at-lt b i) (same i below))

-- ---- one number

-- the word of a number, with its bit set, or cleared
abbrev pub with_bit : List ℕ → ℕ → ℕ
with_bit words x = bit_or (get_or words (x / 32) 0) (1 * 2 ^ (x % 32) % 2 ^ 32)

abbrev pub without_bit : List ℕ → ℕ → ℕ
without_bit words x = bit_and (get_or words (x / 32) 0) (bit_not w32 (1 * 2 ^ (x % 32) % 2 ^ 32))

same_number : (x y : ℕ) → y / 32 ≡ x / 32 → y % 32 ≡ x % 32 → x ≡ y
same_number x y h k = omega arith

other_place : (x y : ℕ) → (y / 32 ≡ x / 32 → ⊥) → eqb x y ≡ false
other_place x y h = ne_eqb x y (λ e. h (ap (λ n. n / 32) (sym e)))

other_bit : (x y : ℕ) → (y % 32 ≡ x % 32 → ⊥) → eqb x y ≡ false
other_bit x y h = ne_eqb x y (λ e. h (ap (λ n. n % 32) (sym e)))

pub members-set : (words : List ℕ) (x y : ℕ) → x / 32 < length words
    → members (set words (x / 32) (with_bit words x)) y ≡ (members words y || eqb x y)
members-set words x y inside = by (eqb (y / 32) (x / 32)) refl
  where
    after : List ℕ
    after = set words (x / 32) (with_bit words x)

    here : get_or after (x / 32) 0 ≡ with_bit words x
    here = get_or-set_same words (x / 32) (with_bit words x) 0 inside

    below : x % 32 < 32
    below = omega arith

    in_word : (t : Bool) → eqb (y % 32) (x % 32) ≡ t → y / 32 ≡ x / 32
        → (bit_at (with_bit words x) (y % 32) == 1) ≡ ((bit_at (get_or words (x / 32) 0) (y % 32) == 1) || eqb x y)
    in_word true e q =
        let r : y % 32 ≡ x % 32 = eqb-true (y % 32) (x % 32) e in
        let one : bit_at (with_bit words x) (y % 32) ≡ 1 =
        rw r (bit_at_set_same w32 (get_or words (x / 32) 0) (x % 32) below) in
        let same : eqb x y ≡ true = eq-eqb x y (same_number x y q r) in
        ap (λ n. n == 1) one ∙ sym (ap (λ b. (bit_at (get_or words (x / 32) 0) (y % 32) == 1) || b) same
        ∙ or-true (bit_at (get_or words (x / 32) 0) (y % 32) == 1))
    in_word false e q =
        let r = eqb-false (y % 32) (x % 32) e in
        ap (λ n. n == 1) (bit_at_set_other w32 (get_or words (x / 32) 0) (x % 32) below (y % 32) r)
        ∙ sym (ap (λ b. (bit_at (get_or words (x / 32) 0) (y % 32) == 1) || b) (other_bit x y r)
        ∙ or-false (bit_at (get_or words (x / 32) 0) (y % 32) == 1))

    by : (t : Bool) → eqb (y / 32) (x / 32) ≡ t → members after y ≡ (members words y || eqb x y)
    by true e =
        let q : y / 32 ≡ x / 32 = eqb-true (y / 32) (x / 32) e in
        ap (λ k. bit_at (get_or after k 0) (y % 32) == 1) q
        ∙ ap (λ n. bit_at n (y % 32) == 1) here
        ∙ in_word (eqb (y % 32) (x % 32)) refl q
        ∙ ap (λ k. (bit_at (get_or words k 0) (y % 32) == 1) || eqb x y) (sym q)
    by false e =
        let q = eqb-false (y / 32) (x / 32) e in
        ap (λ n. bit_at n (y % 32) == 1) (get_or-set_other words (x / 32) (y / 32) (with_bit words x) 0 q)
        ∙ sym (ap (λ b. members words y || b) (other_place x y q) ∙ or-false (members words y))

pub members-clear : (words : List ℕ) (x y : ℕ) → x / 32 < length words
    → members (set words (x / 32) (without_bit words x)) y ≡ (members words y && not (eqb x y))
members-clear words x y inside = by (eqb (y / 32) (x / 32)) refl
  where
    after : List ℕ
    after = set words (x / 32) (without_bit words x)

    here : get_or after (x / 32) 0 ≡ without_bit words x
    here = get_or-set_same words (x / 32) (without_bit words x) 0 inside

    below : x % 32 < 32
    below = omega arith

    small : y % 32 < 32
    small = omega arith

    in_word : (t : Bool) → eqb (y % 32) (x % 32) ≡ t → y / 32 ≡ x / 32 → (bit_at (without_bit words x) (y % 32) == 1)
        ≡ ((bit_at (get_or words (x / 32) 0) (y % 32) == 1) && not (eqb x y))
    in_word true e q =
        let r : y % 32 ≡ x % 32 = eqb-true (y % 32) (x % 32) e in
        let none : bit_at (without_bit words x) (y % 32) ≡ 0 =
        rw r (bit_at_clear_same w32 (get_or words (x / 32) 0) (x % 32) below) in
        let same : eqb x y ≡ true = eq-eqb x y (same_number x y q r) in
        ap (λ n. n == 1) none ∙ sym (ap (λ b. (bit_at (get_or words (x / 32) 0) (y % 32) == 1) && not b) same
        ∙ and-false (bit_at (get_or words (x / 32) 0) (y % 32) == 1))
    in_word false e q =
        let r = eqb-false (y % 32) (x % 32) e in
        ap (λ n. n == 1) (bit_at_clear_other w32 (get_or words (x / 32) 0) (x % 32) below (y % 32) small r)
        ∙ sym (ap (λ b. (bit_at (get_or words (x / 32) 0) (y % 32) == 1) && not b) (other_bit x y r)
        ∙ and-true (bit_at (get_or words (x / 32) 0) (y % 32) == 1))

    by : (t : Bool) → eqb (y / 32) (x / 32) ≡ t → members after y ≡ (members words y && not (eqb x y))
    by true e =
        let q : y / 32 ≡ x / 32 = eqb-true (y / 32) (x / 32) e in
        ap (λ k. bit_at (get_or after k 0) (y % 32) == 1) q
        ∙ ap (λ n. bit_at n (y % 32) == 1) here
        ∙ in_word (eqb (y % 32) (x % 32)) refl q
        ∙ ap (λ k. (bit_at (get_or words k 0) (y % 32) == 1) && not (eqb x y)) (sym q)
    by false e =
        let q = eqb-false (y / 32) (x / 32) e in
        ap (λ n. bit_at n (y % 32) == 1) (get_or-set_other words (x / 32) (y / 32) (without_bit words x) 0 q)
        ∙ sym (ap (λ b. members words y && not b) (other_place x y q) ∙ and-true (members words y))

-- ---- word by word

pub joined-more : (how : Join) (words initial others after : List ℕ) (k word : ℕ) → get_or after k 0 ≡ word
    → ((j : ℕ) → j ≢ k → get_or after j 0 ≡ get_or words j 0)
    → ((x : ℕ) → x / 32 < k → members words x ≡ joined how (members initial x) (members others x))
    → get_or words k 0 ≡ get_or initial k 0
    → ((i : ℕ) → i < 32
    → (bit_at word i == 1) ≡ joined how (bit_at (get_or words k 0) i == 1) (bit_at (get_or others k 0) i == 1))
    → (x : ℕ) → x / 32 < k + 1 → members after x ≡ joined how (members initial x) (members others x)
joined-more how words initial others after k word here other done rest bits x inside = by (eqb (x / 32) k) refl
  where
    below : x % 32 < 32
    below = omega arith

    by : (t : Bool) → eqb (x / 32) k ≡ t → members after x ≡ joined how (members initial x) (members others x)
    by true e =
        let q : x / 32 ≡ k = eqb-true (x / 32) k e in
        ap (λ j. bit_at (get_or after j 0) (x % 32) == 1) q
        ∙ ap (λ n. bit_at n (x % 32) == 1) here
        ∙ bits (x % 32) below
        ∙ ap (λ n. joined how (bit_at n (x % 32) == 1) (bit_at (get_or others k 0) (x % 32) == 1)) rest
        ∙ ap (λ j. joined how (bit_at (get_or initial j 0) (x % 32) == 1) (bit_at (get_or others j 0) (x % 32) == 1))
        (sym q)
    by false e =
        let q = eqb-false (x / 32) k e in
        let less : x / 32 < k = omega (arith, inside, q) in
        ap (λ n. bit_at n (x % 32) == 1) (other (x / 32) q) ∙ done x less

-- words with the same members have the same bits
pub same-bits : (xs ys : List ℕ) (j : ℕ) → members xs ≡ members ys → (i : ℕ) → i < 32
    → (bit_at (get_or xs j 0) i == 1) ≡ (bit_at (get_or ys j 0) i == 1)
same-bits xs ys j same i below =
    let place : (32 * j + i) / 32 ≡ j = omega (arith, below) in
    let bit : (32 * j + i) % 32 ≡ i = omega (arith, below) in
    let at : members xs (32 * j + i) ≡ members ys (32 * j + i) = ap (λ f. f (32 * j + i)) same in
    ap (λ p. bit_at (get_or xs p 0) i == 1) (sym place)
    ∙ ap (λ b. bit_at (get_or xs ((32 * j + i) / 32) 0) b == 1) (sym bit)
    ∙ at
    ∙ ap (λ b. bit_at (get_or ys ((32 * j + i) / 32) 0) b == 1) bit ∙ ap (λ p. bit_at (get_or ys p 0) i == 1) place
