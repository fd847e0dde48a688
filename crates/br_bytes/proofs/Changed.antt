-- Lemmas on what changes make of ranges, at the index that a search gives.
use Rattle.std.proofs.Common.{◌≡◌, ◌≢◌, ℕ, zero, suc, ◌+◌, ◌-◌, ◌^◌, ◌<◌, ◌≤◌, Bool, true, false, nat_le}
use Rattle.std.proofs.Common.{nat_lt, List, [], ◌∷◌, ◌++◌, length, take, drop, Option, Some, None, IsTrue}
use Rattle.std.proofs.Common.{is_some, refl, sym, ap, subst, ◌∙◌, arith, length-append, get_or, slice_set}
use Rattle.std.proofs.lemmas.Bool.Decides.{nat_tests}
use Rattle.std.proofs.lemmas.List.{drop_more, take-append-drop, take_all, get_or_at, set_at, length-take-le}
use Rattle.br_bytes.specs.Range.{Range, end_of, or_else, byte_in, byte_of, AreApart}
use Rattle.br_bytes.specs.Changes.{after, EndsFrom, joined, before, added, range_to}
use Rattle.br_bytes.specs.Changes.{range_from, ranges_to, ranges_from, with_byte}
use Rattle.br_bytes.proofs.Ranged.{byte_of-append, none_below, none_above, after_rises, apart_later}
use Rattle.br_bytes.proofs.Ranged.{apart_back, apart_at, below_range, above_range, some_within}

pub take_apart : (rs : List Range) (low i : ℕ) → AreApart low rs → AreApart low (take i rs)
take_apart rs low zero a = tt
take_apart [] low (suc i) a = tt
take_apart (r ∷ rs) low (suc i) a = (a.0, a.1, a.2, take_apart rs (end_of r + 1) i a.3)

pub drop_apart : (rs : List Range) (low i : ℕ) → AreApart low rs → AreApart low (drop i rs)
drop_apart rs low zero a = a
drop_apart [] low (suc i) a = tt
drop_apart (r ∷ rs) low (suc i) a =
    apart_later (drop i rs) low (end_of r + 1) (omega (arith, a.0)) (drop_apart rs (end_of r + 1) i a.3)

-- the first of ranges that are skipped ends where the search says
skipped : (r : Range) (rs : List Range) (low i at : ℕ) → AreApart low (r ∷ rs) → after low (take (suc i) (r ∷ rs)) ≤ at
    → end_of r + 1 ≤ at
skipped r rs low i at a h = let up = after_rises (take i rs) (end_of r + 1) (take_apart rs (end_of r + 1) i a.3) in
    omega (arith, up, h)

pub parts_at : (rs : List Range) (i : ℕ) (d : Range) → i < length rs → rs ≡ take i rs ++ get_or rs i d ∷ drop (i + 1) rs
parts_at rs i d h = sym (take-append-drop i rs) ∙ ap (λ zs. take i rs ++ zs) (drop_more rs i d h)

-- what ranges have at an address, by the search for it
pub none_found : (rs : List Range) (i a : ℕ) → AreApart 0 rs → length rs ≤ i → after 0 (take i rs) ≤ a + 1
    → byte_of rs a ≡ None
none_found rs i a apart past h = none_above rs 0 a apart (subst (λ zs. after 0 zs ≤ a + 1) (take_all i rs past) h)

pub byte_found : (rs : List Range) (i a : ℕ) (d : Range) → AreApart 0 rs → i < length rs → after 0 (take i rs) ≤ a + 1
    → a + 1 ≤ end_of (get_or rs i d) → byte_of rs a ≡ byte_in (get_or rs i d) a
byte_found rs i a d apart h below above =
    let r = get_or rs i d in
    let front : byte_of (take i rs) a ≡ None = none_above (take i rs) 0 a (take_apart rs 0 i apart) below in
    let back : byte_of (drop (i + 1) rs) a ≡ None =
    none_below (drop (i + 1) rs) (end_of r + 1) a (apart_at rs 0 i d apart h).3 (omega (arith, above)) in
    ap (λ zs. byte_of zs a) (parts_at rs i d h)
    ∙ byte_of-append (take i rs) (r ∷ drop (i + 1) rs) a
    ∙ ap (λ o. or_else o (or_else (byte_in r a) (byte_of (drop (i + 1) rs) a))) front
    ∙ ap (or_else (byte_in r a)) back
    ∙ or_none (byte_in r a)
  where
    or_none : (o : Option ℕ) → or_else o None ≡ o
    or_none None = refl
    or_none (Some b) = refl

some_not_none : (o : Option ℕ) → IsTrue (is_some o) → o ≡ None → ⊥
some_not_none None h e = cc
some_not_none (Some b) h e = cc

pub found_within : (rs : List Range) (i a : ℕ) → AreApart 0 rs → after 0 (take i rs) ≤ a + 1
    → IsTrue (is_some (byte_of rs a)) → i < length rs
found_within rs i a apart below there = go (nat_lt i (length rs)) refl
  where
    go : (b : Bool) → nat_lt i (length rs) ≡ b → i < length rs
    go true e = grind (arith, nat_tests)
    go false e = let past : length rs ≤ i = grind (arith, nat_tests) in
        absurd (some_not_none (byte_of rs a) there (none_found rs i a apart past below))

pub found_start : (rs : List Range) (i a : ℕ) (d : Range) → AreApart 0 rs → i < length rs → after 0 (take i rs) ≤ a + 1
    → a + 1 ≤ end_of (get_or rs i d) → IsTrue (is_some (byte_of rs a)) → (get_or rs i d).start ≤ a
found_start rs i a d apart h below above there = go (nat_le (get_or rs i d).start a) refl
  where
    go : (b : Bool) → nat_le (get_or rs i d).start a ≡ b → (get_or rs i d).start ≤ a
    go true e = grind (arith, nat_tests)
    go false e = let low : a < (get_or rs i d).start = grind (arith, nat_tests) in absurd (some_not_none (byte_of rs a)
        there (byte_found rs i a d apart h below above ∙ below_range (get_or rs i d) a low))

-- a byte more or less
with_byte_later : (r : Range) (rs : List Range) (a b : ℕ) → end_of r ≤ a → with_byte a b (r ∷ rs) ≡ r ∷ with_byte a b rs
with_byte_later r rs a b h = grind (arith, nat_tests)

with_byte_here : (r : Range) (rs : List Range) (a b : ℕ) → a < end_of r
    → with_byte a b (r ∷ rs) ≡ record { start = r.start; bytes = slice_set r.bytes (a - r.start) b } ∷ rs
with_byte_here r rs a b h = grind (arith, nat_tests)

pub with_byte_at : (rs : List Range) (low i a b : ℕ) (d : Range)
    → AreApart low rs → i < length rs → after low (take i rs) ≤ a + 1 → a + 1 ≤ end_of (get_or rs i d) → slice_set rs
    i (record { start = (get_or rs i d).start; bytes = slice_set (get_or rs i d).bytes (a - (get_or rs i d).start) b })
    ≡ with_byte a b rs
with_byte_at [] low i a b d apart h below above = absurd (omega arith)
with_byte_at (r ∷ rs) low zero a b d apart h below above = sym (with_byte_here r rs a b (omega (arith, above)))
with_byte_at (r ∷ rs) low (suc i) a b d apart h below above =
    let s = skipped r rs low i (a + 1) apart below in
    ap (λ zs. r ∷ zs) (with_byte_at rs (end_of r + 1) i a b d apart.3 (omega arith) below above)
    ∙ sym (with_byte_later r rs a b (omega (arith, s)))

-- what is kept on both sides of a cut
to_later : (r : Range) (rs : List Range) (a : ℕ) → end_of r ≤ a → ranges_to a (r ∷ rs) ≡ r ∷ ranges_to a rs
to_later r rs a h = grind (arith, nat_tests)

pub to_cut : (r : Range) (rs : List Range) (a : ℕ) → r.start < a → a < end_of r
    → ranges_to a (r ∷ rs) ≡ range_to a r ∷ []
to_cut r rs a h g = grind (arith, nat_tests)

pub to_none : (r : Range) (rs : List Range) (a : ℕ) → a ≤ r.start → a < end_of r → ranges_to a (r ∷ rs) ≡ []
to_none r rs a h g = grind (arith, nat_tests)

pub from_later : (r : Range) (rs : List Range) (a : ℕ) → end_of r ≤ a → ranges_from a (r ∷ rs) ≡ ranges_from a rs
from_later r rs a h = grind (arith, nat_tests)

pub from_cut : (r : Range) (rs : List Range) (a : ℕ) → r.start < a → a < end_of r
    → ranges_from a (r ∷ rs) ≡ range_from a r ∷ rs
from_cut r rs a h g = grind (arith, nat_tests)

pub from_all : (r : Range) (rs : List Range) (a : ℕ) → a ≤ r.start → a < end_of r → ranges_from a (r ∷ rs) ≡ r ∷ rs
from_all r rs a h g = grind (arith, nat_tests)

pub to_skips : (rs : List Range) (low i a : ℕ) → AreApart low rs → after low (take i rs) ≤ a + 1
    → ranges_to a rs ≡ take i rs ++ ranges_to a (drop i rs)
to_skips rs low zero a apart h = refl
to_skips [] low (suc i) a apart h = refl
to_skips (r ∷ rs) low (suc i) a apart h =
    let s = skipped r rs low i (a + 1) apart h in
    to_later r rs a (omega (arith, s)) ∙ ap (λ zs. r ∷ zs) (to_skips rs (end_of r + 1) i a apart.3 h)

pub from_skips : (rs : List Range) (low i a : ℕ) → AreApart low rs → after low (take i rs) ≤ a + 1
    → ranges_from a rs ≡ ranges_from a (drop i rs)
from_skips rs low zero a apart h = refl
from_skips [] low (suc i) a apart h = refl
from_skips (r ∷ rs) low (suc i) a apart h =
    let s = skipped r rs low i (a + 1) apart h in
    from_later r rs a (omega (arith, s)) ∙ from_skips rs (end_of r + 1) i a apart.3 h

-- what is added comes after the ranges that end below it
added_later : (x r : Range) (rs : List Range) → end_of r < x.start → added x (r ∷ rs) ≡ r ∷ added x rs
added_later x r rs h = grind (arith, nat_tests)

pub added_after : (x r : Range) (rs : List Range) → end_of r ≡ x.start → added x (r ∷ rs) ≡ before (joined r x) rs
added_after x r rs h = grind (arith, nat_tests)

pub added_before : (x r : Range) (rs : List Range) → x.start < end_of r → added x (r ∷ rs) ≡ before x (r ∷ rs)
added_before x r rs h = grind (arith, nat_tests)

pub added_skips : (rs : List Range) (low i : ℕ) (x : Range) → AreApart low rs → after low (take i rs) ≤ x.start
    → added x rs ≡ take i rs ++ added x (drop i rs)
added_skips rs low zero x apart h = refl
added_skips [] low (suc i) x apart h = refl
added_skips (r ∷ rs) low (suc i) x apart h =
    let s = skipped r rs low i x.start apart h in
    added_later x r rs (omega (arith, s)) ∙ ap (λ zs. r ∷ zs) (added_skips rs (end_of r + 1) i x apart.3 h)

-- what is left from an address on, when the ranges that end below it are gone
some_end : (rs : List Range) (e : ℕ) → AreApart 0 rs → EndsFrom (e + 1) rs → 0 < length rs → e + 1 ≤ 2 ^ 32
some_end [] e a h l = absurd (omega arith)
some_end (r ∷ rs) e a h l = omega (arith, a.2, h)

some_left : (rs ps L : List Range) (i : ℕ) → i ≤ length rs → L ≡ take i rs ++ ps → i < length L → 0 < length ps
some_left rs ps L i h is l = omega (arith, ap length is, length-append (take i rs) ps, length-take-le i rs h)

pub cut_fits : (rs L : List Range) (i n e : ℕ) → AreApart 0 rs → i ≤ length rs → EndsFrom (e + 1) (drop n (drop i rs))
    → L ≡ take i rs ++ drop n (drop i rs) → i < length L → e + 1 ≤ 2 ^ 32
cut_fits rs L i n e apart h above is l = some_end (drop n (drop i rs)) e
    (drop_apart (drop i rs) 0 n (drop_apart rs 0 i apart)) above (some_left rs (drop n (drop i rs)) L i h is l)

from_drop : (rs : List Range) (i n e : ℕ) → AreApart 0 rs → after 0 (take n (drop i rs)) ≤ e + 1
    → ranges_from e (drop i rs) ≡ ranges_from e (drop n (drop i rs))
from_drop rs i n e apart below = from_skips (drop i rs) 0 n e (drop_apart rs 0 i apart) below

pub cut_first : (rs L : List Range) (i n e : ℕ) (x y : Range)
    → AreApart 0 rs → i ≤ length rs → after 0 (take n (drop i rs)) ≤ e + 1 → EndsFrom (e + 1) (drop n (drop i rs))
    → L ≡ take i rs ++ drop n (drop i rs) → i < length L → x ≡ get_or L i x → x.start < e → y ≡ range_from e x
    → slice_set L i y ≡ take i rs ++ ranges_from e (drop i rs)
cut_first rs L i n e x y apart h below above is l at low new = go (drop n (drop i rs)) refl
  where
    go : (ps : List Range) → drop n (drop i rs) ≡ ps → slice_set L i y ≡ take i rs ++ ranges_from e (drop i rs)
    go [] q = absurd (let some = some_left rs (drop n (drop i rs)) L i h is l in omega (arith, some, ap length q))
    go (r ∷ ps) q =
        let is2 : L ≡ take i rs ++ r ∷ ps = is ∙ ap (λ zs. take i rs ++ zs) q in
        let same : x ≡ r = at ∙ ap (λ zs. get_or zs i x) is2 ∙ get_or_at (take i rs) r ps x i (length-take-le i rs h) in
        let up : e + 1 ≤ end_of r = subst (EndsFrom (e + 1)) q above in
        let lower : r.start < e = subst (λ z. z.start < e) same low in
        ap (λ zs. slice_set zs i y) is2
        ∙ set_at (take i rs) r ps y i (length-take-le i rs h)
        ∙ ap (λ z. take i rs ++ z ∷ ps) (new ∙ ap (range_from e) same)
        ∙ ap (λ zs. take i rs ++ zs)
        (sym (from_drop rs i n e apart below ∙ ap (ranges_from e) q ∙ from_cut r ps e lower (omega (arith, up))))

pub cut_kept : (rs L : List Range) (i n e : ℕ) (x : Range) → AreApart 0 rs → i ≤ length rs
    → after 0 (take n (drop i rs)) ≤ e + 1 → EndsFrom (e + 1) (drop n (drop i rs)) → L ≡ take i rs ++ drop n (drop i rs)
    → i < length L → x ≡ get_or L i x → e ≤ x.start → L ≡ take i rs ++ ranges_from e (drop i rs)
cut_kept rs L i n e x apart h below above is l at high = go (drop n (drop i rs)) refl
  where
    go : (ps : List Range) → drop n (drop i rs) ≡ ps → L ≡ take i rs ++ ranges_from e (drop i rs)
    go [] q = absurd (let some = some_left rs (drop n (drop i rs)) L i h is l in omega (arith, some, ap length q))
    go (r ∷ ps) q =
        let is2 : L ≡ take i rs ++ r ∷ ps = is ∙ ap (λ zs. take i rs ++ zs) q in
        let same : x ≡ r = at ∙ ap (λ zs. get_or zs i x) is2 ∙ get_or_at (take i rs) r ps x i (length-take-le i rs h) in
        let up : e + 1 ≤ end_of r = subst (EndsFrom (e + 1)) q above in
        let higher : e ≤ r.start = subst (λ z. e ≤ z.start) same high in
        is2 ∙ ap (λ zs. take i rs ++ zs)
        (sym (from_drop rs i n e apart below ∙ ap (ranges_from e) q ∙ from_all r ps e higher (omega (arith, up))))

pub cut_past : (rs L : List Range) (i n e : ℕ) → AreApart 0 rs → i ≤ length rs → after 0 (take n (drop i rs)) ≤ e + 1
    → L ≡ take i rs ++ drop n (drop i rs) → length L ≤ i → L ≡ take i rs ++ ranges_from e (drop i rs)
cut_past rs L i n e apart h below is l = go (drop n (drop i rs)) refl
  where
    go : (ps : List Range) → drop n (drop i rs) ≡ ps → L ≡ take i rs ++ ranges_from e (drop i rs)
    go (r ∷ ps) q = absurd (omega
        (arith, l, ap length is, ap length q, length-append (take i rs) (drop n (drop i rs)), length-take-le i rs h))
    go [] q = is ∙ ap (λ zs. take i rs ++ zs) (q ∙ sym (from_drop rs i n e apart below ∙ ap (ranges_from e) q))

-- the i-th range ends sooner
pub set_apart : (rs : List Range) (low i a : ℕ) (x y : Range) → AreApart low rs → i < length rs → x ≡ get_or rs i x
    → y ≡ range_to a x → x.start < a → a < end_of x → AreApart low (slice_set rs i y)
set_apart [] low i a x y apart h at is l g = absurd (omega arith)
set_apart (r ∷ rs) low zero a x y apart h at is l g =
    let cut : AreApart low (range_to a r ∷ rs) =
    ends_sooner (subst (λ z. z.start < a) at l) (subst (λ z. a < end_of z) at g) in
    subst (λ z. AreApart low (z ∷ rs)) (sym (is ∙ ap (range_to a) at)) cut
  where
    ends_sooner : r.start < a → a < end_of r → AreApart low (range_to a r ∷ rs)
    ends_sooner l g =
        let len : length (take (a - r.start) r.bytes) ≡ a - r.start =
        length-take-le (a - r.start) r.bytes (omega arith) in (
          apart.0,
          omega (arith, len),
          omega (arith, len, apart.2),
          apart_later rs (r.start
              + length (take (a - r.start) r.bytes) + 1) (end_of r + 1) (omega (arith, len)) apart.3,
        )
set_apart (r ∷ rs) low (suc i) a x y apart h at is l g =
    (apart.0, apart.1, apart.2, set_apart rs (end_of r + 1) i a x y apart.3 (omega arith) at is l g)

pub cut_up : (rs L : List Range) (i n e : ℕ) (x : Range) → i ≤ length rs → EndsFrom (e + 1) (drop n (drop i rs))
    → L ≡ take i rs ++ drop n (drop i rs) → i < length L → x ≡ get_or L i x → e + 1 ≤ end_of x
cut_up rs L i n e x h above is l at = go (drop n (drop i rs)) refl
  where
    go : (ps : List Range) → drop n (drop i rs) ≡ ps → e + 1 ≤ end_of x
    go [] q = absurd (let some = some_left rs (drop n (drop i rs)) L i h is l in omega (arith, some, ap length q))
    go (r ∷ ps) q =
        let is2 : L ≡ take i rs ++ r ∷ ps = is ∙ ap (λ zs. take i rs ++ zs) q in
        let same : x ≡ r = at ∙ ap (λ zs. get_or zs i x) is2 ∙ get_or_at (take i rs) r ps x i (length-take-le i rs h) in
        let up : e + 1 ≤ end_of r = subst (EndsFrom (e + 1)) q above in
        subst (λ z. e + 1 ≤ end_of z) (sym same) up

-- what the search tells of an address at or above the one that it looks for
pub found_none : (rs : List Range) (i q : ℕ) (d : Range) → AreApart 0 rs → i < length rs → after 0 (take i rs) ≤ q + 1
    → q < (get_or rs i d).start → byte_of rs q ≡ None
found_none rs i q d apart h below low =
    byte_found rs i q d apart h below (omega arith) ∙ below_range (get_or rs i d) q low

pub found_some : (rs : List Range) (i q : ℕ) (d : Range) → AreApart 0 rs → i < length rs → after 0 (take i rs) ≤ q + 1
    → (get_or rs i d).start ≤ q → q < end_of (get_or rs i d) → IsTrue (is_some (byte_of rs q))
found_some rs i q d apart h below low high =
    subst (λ o. IsTrue (is_some o)) (sym (byte_found rs i q d apart h below (omega arith)))
    (there (byte_in (get_or rs i d) q) (some_within (get_or rs i d) q low high))
  where
    there : (o : Option ℕ) → o ≢ None → IsTrue (is_some o)
    there None ne = absurd (ne refl)
    there (Some b) ne = refl

pub found_end : (rs : List Range) (i : ℕ) (d : Range) → AreApart 0 rs → i < length rs
    → byte_of rs (end_of (get_or rs i d)) ≡ None
found_end rs i d apart h =
    let r = get_or rs i d in
    let q = end_of r in
    let back = apart_back (take i rs) (r ∷ drop (i + 1) rs) 0 (subst (AreApart 0) (parts_at rs i d h) apart) in
    ap (λ zs. byte_of zs q) (parts_at rs i d h)
    ∙ byte_of-append (take i rs) (r ∷ drop (i + 1) rs) q
    ∙ ap (λ o. or_else o (or_else (byte_in r q) (byte_of (drop (i + 1) rs) q)))
    (none_above (take i rs) 0 q (take_apart rs 0 i apart) (omega (arith, back.0)))
    ∙ ap (λ o. or_else o (byte_of (drop (i + 1) rs) q)) (above_range r q (omega arith))
    ∙ none_below (drop (i + 1) rs) (q + 1) q back.3 (omega arith)
