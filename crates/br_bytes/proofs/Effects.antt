-- Lemmas on what changes of ranges do to the bytes at each address.
use Rattle.std.proofs.Common.{◌≡◌, ◌≢◌, ℕ, zero, suc, ◌+◌, ◌-◌, ◌^◌, ◌<◌, ◌≤◌, Bool, true, false, nat_le}
use Rattle.std.proofs.Common.{nat_lt, List, [], ◌∷◌, ◌++◌, length, take, drop, Option, Some, None, cond}
use Rattle.std.proofs.Common.{refl, sym, ap, subst, ◌∙◌, arith, ◌==◌, length-append, length-drop, slice_set}
use Rattle.std.proofs.lemmas.Bool.Decides.{nat_tests}
use Rattle.std.proofs.lemmas.List.{length-take-le}
use Rattle.std.specs.Prelude.{slice_get}
use Rattle.br_bytes.specs.Range.{Range, end_of, or_else, byte_in, byte_of, AreApart}
use Rattle.br_bytes.specs.Changes.{joined, before, added, range_to, range_from}
use Rattle.br_bytes.proofs.Ranged.{or_assoc, below_range, within_range, above_range, some_within}

pub or_none : (o : Option ℕ) → or_else o None ≡ o
or_none None = refl
or_none (Some b) = refl

pub right_none : (o p : Option ℕ) → or_else o p ≡ None → p ≡ None
right_none None p e = e
right_none (Some b) p e = cc

pub left_none : (o p : Option ℕ) → or_else o p ≡ None → o ≡ None
left_none None p e = refl
left_none (Some b) p e = cc

-- lookups in lists that are made of others
get_left : (xs ys : List ℕ) (i : ℕ) → i < length xs → slice_get (xs ++ ys) i ≡ slice_get xs i
get_left [] ys i h = absurd (omega arith)
get_left (x ∷ xs) ys zero h = refl
get_left (x ∷ xs) ys (suc i) h = get_left xs ys i (omega arith)

get_right : (xs ys : List ℕ) (i j : ℕ) → i ≡ length xs + j → slice_get (xs ++ ys) i ≡ slice_get ys j
get_right [] ys i j e = let z : i ≡ j = omega arith in ap (slice_get ys) z
get_right (x ∷ xs) ys zero j e = absurd (omega arith)
get_right (x ∷ xs) ys (suc i) j e = get_right xs ys i j (omega arith)

get_there : (xs : List ℕ) (i : ℕ) (o : Option ℕ) → i < length xs → or_else (slice_get xs i) o ≡ slice_get xs i
get_there [] i o h = absurd (omega arith)
get_there (x ∷ xs) zero o h = refl
get_there (x ∷ xs) (suc i) o h = get_there xs i o (omega arith)

get_take : (n : ℕ) (xs : List ℕ) (i : ℕ) → i < n → slice_get (take n xs) i ≡ slice_get xs i
get_take zero xs i h = absurd (omega arith)
get_take (suc n) [] i h = refl
get_take (suc n) (x ∷ xs) zero h = refl
get_take (suc n) (x ∷ xs) (suc i) h = get_take n xs i (omega arith)

get_drop : (n : ℕ) (xs : List ℕ) (i j : ℕ) → j ≡ n + i → slice_get (drop n xs) i ≡ slice_get xs j
get_drop zero xs i j e = let z : i ≡ j = omega arith in ap (slice_get xs) z
get_drop (suc n) [] i j e = refl
get_drop (suc n) (x ∷ xs) i zero e = absurd (omega arith)
get_drop (suc n) (x ∷ xs) i (suc j) e = get_drop n xs i j (omega arith)

pub get_set_same : (xs : List ℕ) (i b : ℕ) → i < length xs → slice_get (slice_set xs i b) i ≡ Some b
get_set_same [] i b h = absurd (omega arith)
get_set_same (x ∷ xs) zero b h = refl
get_set_same (x ∷ xs) (suc i) b h = get_set_same xs i b (omega arith)

pub get_set_other : (xs : List ℕ) (i j b : ℕ) → j ≢ i → slice_get (slice_set xs i b) j ≡ slice_get xs j
get_set_other [] i j b ne = refl
get_set_other (x ∷ xs) zero zero b ne = absurd (ne refl)
get_set_other (x ∷ xs) zero (suc j) b ne = refl
get_set_other (x ∷ xs) (suc i) zero b ne = refl
get_set_other (x ∷ xs) (suc i) (suc j) b ne = get_set_other xs i j b (λ e. ne (ap suc e))

-- where an address is, of three places
pub by_place {ℓ} : {P : Type ℓ} (q a e : ℕ) → (q < a → P) → (a ≤ q → q < e → P) → (a ≤ q → e ≤ q → P) → P
by_place {P = P} q a e below inside above = first (nat_lt q a) refl
  where
    second : (t : Bool) → nat_lt q e ≡ t → a ≤ q → P
    second true is h = inside h (grind (arith, nat_tests))
    second false is h = above h (grind (arith, nat_tests))

    first : (t : Bool) → nat_lt q a ≡ t → P
    first true is = below (grind (arith, nat_tests))
    first false is = second (nat_lt q e) refl (grind (arith, nat_tests))

-- two ranges that touch, as one
joined_seen : (r s : Range) (q : ℕ) → end_of r ≡ s.start → byte_in (joined r s) q ≡ or_else (byte_in r q) (byte_in s q)
joined_seen r s q touch = by_place q r.start (end_of r)
    (λ h. below_range (joined r s) q h
    ∙ sym (ap (λ o. or_else o (byte_in s q)) (below_range r q h) ∙ below_range s q (omega arith)))
    (λ h g.
    within_range (joined r s) q h ∙ get_left r.bytes s.bytes (q - r.start) (omega arith)
    ∙ sym (ap (λ o. or_else o (byte_in s q)) (within_range r q h)
    ∙ get_there r.bytes (q - r.start) (byte_in s q) (omega arith)))
    (λ h g.
    within_range (joined r s) q h ∙ get_right r.bytes s.bytes (q - r.start) (q - s.start) (omega arith)
    ∙ sym (ap (λ o. or_else o (byte_in s q)) (above_range r q g) ∙ within_range s q (omega arith)))

before_seen : (x : Range) (rs : List Range) (q : ℕ) → byte_of (before x rs) q ≡ or_else (byte_in x q) (byte_of rs q)
before_seen x [] q = refl
before_seen x (r ∷ rs) q = go (end_of x == r.start) refl
  where
    go : (t : Bool) → (end_of x == r.start) ≡ t
        → byte_of (cond t (joined x r ∷ rs) (x ∷ r ∷ rs)) q ≡ or_else (byte_in x q) (byte_of (r ∷ rs) q)
    go false e = refl
    go true e =
        let touch : end_of x ≡ r.start = grind (arith, nat_tests) in
        ap (λ o. or_else o (byte_of rs q)) (joined_seen x r q touch)
        ∙ or_assoc (byte_in x q) (byte_in r q) (byte_of rs q)

or_swap : (r x : Range) (o : Option ℕ) (q : ℕ) → end_of r ≤ x.start
    → or_else (byte_in r q) (or_else (byte_in x q) o) ≡ or_else (byte_in x q) (or_else (byte_in r q) o)
or_swap r x o q h = by_place q x.start (end_of x)
    (λ l. let none = below_range x q l in
    ap (λ p. or_else (byte_in r q) (or_else p o)) none ∙ sym (ap (λ p. or_else p (or_else (byte_in r q) o)) none))
    (λ l g. later l)
    (λ l g. later l)
  where
    later : x.start ≤ q
        → or_else (byte_in r q) (or_else (byte_in x q) o) ≡ or_else (byte_in x q) (or_else (byte_in r q) o)
    later l = let none = above_range r q (omega arith) in
        ap (λ p. or_else p (or_else (byte_in x q) o)) none ∙ sym (ap (λ p. or_else (byte_in x q) (or_else p o)) none)

pub added_seen : (x : Range) (rs : List Range) (q : ℕ) → byte_of (added x rs) q ≡ or_else (byte_in x q) (byte_of rs q)
added_seen x [] q = refl
added_seen x (r ∷ rs) q = go (added_seen x rs q) (nat_lt (end_of r) x.start) (end_of r == x.start) refl refl
  where
    go : byte_of (added x rs) q ≡ or_else (byte_in x q) (byte_of rs q) → (t u : Bool)
        → nat_lt (end_of r) x.start ≡ t → (end_of r == x.start) ≡ u
        → byte_of (cond t (r ∷ added x rs) (cond u (before (joined r x) rs) (before x (r ∷ rs)))) q
        ≡ or_else (byte_in x q) (byte_of (r ∷ rs) q)
    go rest true u e f =
        let h : end_of r ≤ x.start = grind (arith, nat_tests) in
        ap (or_else (byte_in r q)) rest ∙ or_swap r x (byte_of rs q) q h
    go rest false true e f =
        let touch : end_of r ≡ x.start = grind (arith, nat_tests) in
        before_seen (joined r x) rs q ∙ ap (λ o. or_else o (byte_of rs q)) (joined_seen r x q touch)
        ∙ or_assoc (byte_in r q) (byte_in x q) (byte_of rs q) ∙ or_swap r x (byte_of rs q) q (omega (arith, touch))
    go rest false false e f = before_seen x (r ∷ rs) q

-- the first of ranges, if there is one, begins at an address or above
abbrev StartsFrom : ℕ → List Range → Type 0
StartsFrom a [] = Unit {0}
StartsFrom a (r ∷ rs) = a ≤ r.start

-- what is added at free addresses stands apart from what is after it
starts_free : (x r : Range) (rs : List Range) → x.start < end_of r → ((q : ℕ) → x.start ≤ q → q < end_of x
    → byte_of (r ∷ rs) q ≡ None) → 0 < length x.bytes → 0 < length r.bytes → end_of x ≤ r.start
starts_free x r rs up free some filled = go (nat_le (end_of x) r.start) (nat_le r.start x.start) refl refl
  where
    go : (t u : Bool) → nat_le (end_of x) r.start ≡ t → nat_le r.start x.start ≡ u → end_of x ≤ r.start
    go true u e f = grind (arith, nat_tests)
    go false true e f =
        let l : r.start ≤ x.start = grind (arith, nat_tests) in
        absurd (some_within r x.start l up
        (left_none (byte_in r x.start) (byte_of rs x.start) (free x.start (omega arith) (omega arith))))
    go false false e f =
        let l : x.start < r.start = grind (arith, nat_tests) in
        let g : r.start < end_of x = grind (arith, nat_tests) in
        absurd (some_within r r.start (omega arith) (omega arith)
        (left_none (byte_in r r.start) (byte_of rs r.start) (free r.start (omega arith) g)))

before_apart_too : (x : Range) (rs : List Range) (low later : ℕ) → low ≤ x.start → 0 < length x.bytes
    → end_of x ≤ 2 ^ 32 → AreApart later rs → StartsFrom (end_of x) rs → AreApart low (before x rs)
before_apart_too x [] low later l some fits a s = (l, some, fits, tt)
before_apart_too x (r ∷ rs) low later l some fits a s = go (end_of x == r.start) refl
  where
    go : (t : Bool) → (end_of x == r.start) ≡ t → AreApart low (cond t (joined x r ∷ rs) (x ∷ r ∷ rs))
    go true e =
        let touch : end_of x ≡ r.start = grind (arith, nat_tests) in
        let len = length-append x.bytes r.bytes in
        let same : end_of r ≡ end_of (joined x r) = omega (arith, len, touch) in
        (l, omega (arith, len, some), omega (arith, same, a.2), subst (λ k. AreApart (k + 1) rs) same a.3)
    go false e =
        let apart : end_of x + 1 ≤ r.start = grind (arith, nat_tests) in
        (l, some, fits, (apart, a.1, a.2, a.3))

starts_rest : (x : Range) (rs : List Range) (low : ℕ) → AreApart low rs → x.start < low
    → ((q : ℕ) → x.start ≤ q → q < end_of x → byte_of rs q ≡ None) → 0 < length x.bytes → StartsFrom (end_of x) rs
starts_rest x [] low a l free some = tt
starts_rest x (r ∷ rs) low a l free some = starts_free x r rs (omega (arith, a.0, l)) free some a.1

pub added_apart : (x : Range) (rs : List Range) (low : ℕ) → AreApart low rs → low ≤ x.start → 0 < length x.bytes
    → end_of x ≤ 2 ^ 32 → ((q : ℕ) → x.start ≤ q → q < end_of x → byte_of rs q ≡ None) → AreApart low (added x rs)
added_apart x [] low a l some fits free = (l, some, fits, tt)
added_apart x (r ∷ rs) low a l some fits free = go (λ h. added_apart x rs (end_of r + 1) a.3 h some fits rest_free)
    (nat_lt (end_of r) x.start) (end_of r == x.start) refl refl
  where
    rest_free : (q : ℕ) → x.start ≤ q → q < end_of x → byte_of rs q ≡ None
    rest_free q h g = right_none (byte_in r q) (byte_of rs q) (free q h g)

    go : (end_of r + 1 ≤ x.start → AreApart (end_of r + 1) (added x rs))
        → (t u : Bool) → nat_lt (end_of r) x.start ≡ t → (end_of r == x.start) ≡ u
        → AreApart low (cond t (r ∷ added x rs) (cond u (before (joined r x) rs) (before x (r ∷ rs))))
    go rest true u e f = let h : end_of r + 1 ≤ x.start = grind (arith, nat_tests) in (a.0, a.1, a.2, rest h)
    go rest false true e f =
        let touch : end_of r ≡ x.start = grind (arith, nat_tests) in
        let len = length-append r.bytes x.bytes in
        let same : end_of x ≡ end_of (joined r x) = omega (arith, len, touch) in
        before_apart_too (joined r x) rs low (end_of r + 1) a.0 (omega (arith, len, some))
        (omega (arith, same, fits)) a.3
        (subst (λ k. StartsFrom k rs) same (starts_rest x rs (end_of r + 1) a.3 (omega (arith, touch)) rest_free some))
    go rest false false e f =
        let up : x.start < end_of r = grind (arith, nat_tests) in
        before_apart_too x (r ∷ rs) low low l some fits a (starts_free x r rs up free some a.1)

-- what stands below an address, and from an address on
pub to_range_seen : (r : Range) (a q : ℕ) → r.start ≤ a → a ≤ end_of r → q < a → byte_in (range_to a r) q ≡ byte_in r q
to_range_seen r a q low high h = by_place q r.start (end_of r)
    (λ l. below_range (range_to a r) q l ∙ sym (below_range r q l))
    (λ l g. within_range (range_to a r) q l ∙ get_take (a - r.start) r.bytes (q - r.start) (omega arith)
    ∙ sym (within_range r q l))
    (λ l g. absurd (omega arith))

pub end_to : (r : Range) (a : ℕ) → r.start ≤ a → a ≤ end_of r → end_of (range_to a r) ≡ a
end_to r a low high = omega (arith, length-take-le (a - r.start) r.bytes (omega arith))

pub from_range_seen : (r : Range) (a q : ℕ) → r.start ≤ a → a ≤ q → byte_in (range_from a r) q ≡ byte_in r q
from_range_seen r a q low h =
    within_range (range_from a r) q h ∙ get_drop (a - r.start) r.bytes (q - a) (q - r.start) (omega arith)
    ∙ sym (within_range r q (omega arith))

pub end_from : (r : Range) (a : ℕ) → r.start ≤ a → a ≤ end_of r → end_of (range_from a r) ≡ end_of r
end_from r a low high = omega (arith, length-drop (a - r.start) r.bytes)
