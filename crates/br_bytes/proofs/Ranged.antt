-- Lemmas on ranges as lists.
use Rattle.std.proofs.Common.{◌≡◌, ◌≢◌, ℕ, zero, suc, ◌+◌, ◌-◌, ◌^◌, ◌<◌, ◌≤◌, List, [], ◌∷◌, ◌++◌, length, take}
use Rattle.std.proofs.Common.{drop, Option, Some, None, refl, sym, ap, subst, ◌∙◌, arith, get_or, slice_set}
use Rattle.std.proofs.lemmas.Bool.Decides.{nat_tests}
use Rattle.std.proofs.lemmas.List.{take_more, drop_more, set_split}
use Rattle.std.specs.Prelude.{slice_get}
use Rattle.br_bytes.specs.Range.{Range, end_of, or_else, byte_in, byte_of, AreApart}
use Rattle.br_bytes.specs.Changes.{after, EndsFrom, joined, before}

or_none : (o : Option ℕ) → or_else o None ≡ o
or_none None = refl
or_none (Some b) = refl

pub or_assoc : (o p q : Option ℕ) → or_else (or_else o p) q ≡ or_else o (or_else p q)
or_assoc None p q = refl
or_assoc (Some b) p q = refl

pub byte_of-append : (rs ss : List Range) (q : ℕ) → byte_of (rs ++ ss) q ≡ or_else (byte_of rs q) (byte_of ss q)
byte_of-append [] ss q = refl
byte_of-append (r ∷ rs) ss q =
    ap (or_else (byte_in r q)) (byte_of-append rs ss q) ∙ sym (or_assoc (byte_in r q) (byte_of rs q) (byte_of ss q))

-- lookups in lists
pub get_past : (bs : List ℕ) (i : ℕ) → length bs ≤ i → slice_get bs i ≡ None
get_past [] i h = refl
get_past (b ∷ bs) zero h = absurd (omega arith)
get_past (b ∷ bs) (suc i) h = get_past bs i (omega arith)

-- a byte of a range by cases on where the address is
pub below_range : (r : Range) (q : ℕ) → q < r.start → byte_in r q ≡ None
below_range r q h = grind (arith, nat_tests)

pub within_range : (r : Range) (q : ℕ) → r.start ≤ q → byte_in r q ≡ slice_get r.bytes (q - r.start)
within_range r q h = grind (arith, nat_tests)

pub above_range : (r : Range) (q : ℕ) → end_of r ≤ q → byte_in r q ≡ None
above_range r q h = within_range r q (omega arith) ∙ get_past r.bytes (q - r.start) (omega arith)

get_some : (xs : List ℕ) (i : ℕ) → i < length xs → slice_get xs i ≢ None
get_some [] i h e = absurd (omega arith)
get_some (x ∷ xs) zero h e = cc
get_some (x ∷ xs) (suc i) h e = get_some xs i (omega arith) e

pub some_within : (r : Range) (q : ℕ) → r.start ≤ q → q < end_of r → byte_in r q ≢ None
some_within r q low high e = get_some r.bytes (q - r.start) (omega arith) (sym (within_range r q low) ∙ e)

pub apart_later : (rs : List Range) (low high : ℕ) → low ≤ high → AreApart high rs → AreApart low rs
apart_later [] low high h a = tt
apart_later (r ∷ rs) low high h a = (omega (arith, a.0), a.1, a.2, a.3)

pub apart_back : (rs ss : List Range) (low : ℕ) → AreApart low (rs ++ ss) → AreApart (after low rs) ss
apart_back [] ss low a = a
apart_back (r ∷ rs) ss low a = apart_back rs ss (end_of r + 1) a.3

pub apart_append : (rs ss : List Range) (low : ℕ) → AreApart low rs → AreApart (after low rs) ss
    → AreApart low (rs ++ ss)
apart_append [] ss low a b = b
apart_append (r ∷ rs) ss low a b = (a.0, a.1, a.2, apart_append rs ss (end_of r + 1) a.3 b)

pub none_below : (rs : List Range) (low q : ℕ) → AreApart low rs → q < low → byte_of rs q ≡ None
none_below [] low q a h = refl
none_below (r ∷ rs) low q a h =
    rw (below_range r q (omega (arith, a.0)), none_below rs (end_of r + 1) q a.3 (omega (arith, a.0))) refl

pub after_rises : (rs : List Range) (low : ℕ) → AreApart low rs → low ≤ after low rs
after_rises [] low a = omega arith
after_rises (r ∷ rs) low a = let rest = after_rises rs (end_of r + 1) a.3 in omega (arith, a.0, rest)

pub none_above : (rs : List Range) (low q : ℕ) → AreApart low rs → after low rs ≤ q + 1 → byte_of rs q ≡ None
none_above [] low q a h = refl
none_above (r ∷ rs) low q a h =
    let rest = after_rises rs (end_of r + 1) a.3 in
    rw (above_range r q (omega (arith, rest)), none_above rs (end_of r + 1) q a.3 h) refl

-- what is after a list whose last range is known
pub after_last : (rs : List Range) (r : Range) (low : ℕ) → after low (rs ++ r ∷ []) ≡ end_of r + 1
after_last [] r low = refl
after_last (s ∷ rs) r low = after_last rs r (end_of s + 1)

-- what stands at an index of ranges that are apart
apart_suc : (rs : List Range) (low i : ℕ) (d : Range) → AreApart low rs → i < length rs
    → (low ≤ (get_or rs i d).start) × (0 < length (get_or rs i d).bytes) × (end_of (get_or rs i d) ≤ 2 ^ 32)
    × AreApart (end_of (get_or rs i d) + 1) (drop (suc i) rs)
apart_suc [] low i d a h = absurd (omega arith)
apart_suc (r ∷ rs) low zero d a h = a
apart_suc (r ∷ rs) low (suc i) d a h =
    let rest = apart_suc rs (end_of r + 1) i d a.3 (omega arith) in
    (omega (arith, a.0, rest.0), rest.1, rest.2, rest.3)

pub apart_at : (rs : List Range) (low i : ℕ) (d : Range) → AreApart low rs → i < length rs
    → (low ≤ (get_or rs i d).start) × (0 < length (get_or rs i d).bytes) × (end_of (get_or rs i d) ≤ 2 ^ 32)
    × AreApart (end_of (get_or rs i d) + 1) (drop (i + 1) rs)
apart_at rs low i d a h = let s : suc i ≡ i + 1 = omega arith in
    subst (λ k. (low ≤ (get_or rs i d).start) × (0 < length (get_or rs i d).bytes) × (end_of (get_or rs i d) ≤ 2 ^ 32)
    × AreApart (end_of (get_or rs i d) + 1) (drop k rs)) s (apart_suc rs low i d a h)

pub apart_end : (rs : List Range) (low i : ℕ) (d : Range) → AreApart low rs → i < length rs
    → end_of (get_or rs i d) ≤ 2 ^ 32
apart_end rs low i d a h = (apart_suc rs low i d a h).2

-- what is after the first of ranges, one more each time
pub after_more : (rs : List Range) (low i : ℕ) (d : Range) → i < length rs
    → after low (take (i + 1) rs) ≡ end_of (get_or rs i d) + 1
after_more rs low i d h = ap (after low) (take_more rs i d h) ∙ after_last (take i rs) (get_or rs i d) low

pub ends_at : (rs : List Range) (at i : ℕ) (d : Range) → i < length rs → EndsFrom at (drop i rs)
    → at ≤ end_of (get_or rs i d)
ends_at rs at i d h e = subst (EndsFrom at) (drop_more rs i d h) e

-- a range that touches the next becomes one with it, and one that does not stays
pub before_touching : (x r : Range) (rs : List Range) → end_of x ≡ r.start → before x (r ∷ rs) ≡ joined x r ∷ rs
before_touching x r rs e = grind (arith, nat_tests)

pub before_apart : (x r : Range) (rs : List Range) → end_of x ≢ r.start → before x (r ∷ rs) ≡ x ∷ r ∷ rs
before_apart x r rs ne = grind (arith, nat_tests)

pub put_touching : (rs : List Range) (i : ℕ) (x y d : Range) → i < length rs → end_of x ≡ (get_or rs i d).start
    → y ≡ joined x (get_or rs i d) → slice_set rs i y ≡ take i rs ++ before x (drop i rs)
put_touching rs i x y d h e is =
    let s : suc i ≡ i + 1 = omega arith in
    set_split rs i y h
    ∙ ap (λ k. take i rs ++ y ∷ drop k rs) s
    ∙ ap (λ z. take i rs ++ z ∷ drop (i + 1) rs) is
    ∙ ap (λ zs. take i rs ++ zs) (sym (before_touching x (get_or rs i d) (drop (i + 1) rs) e))
    ∙ ap (λ zs. take i rs ++ before x zs) (sym (drop_more rs i d h))
