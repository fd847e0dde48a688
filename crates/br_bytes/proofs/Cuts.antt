-- Lemmas on the ranges on both sides of a cut, and on a byte that is another.
use Rattle.std.proofs.Common.{◌≡◌, ◌≢◌, ℕ, ◌+◌, ◌-◌, ◌<◌, ◌≤◌, Bool, true, false, nat_le, nat_lt, List, []}
use Rattle.std.proofs.Common.{◌∷◌, Option, Some, None, IsTrue, is_some, cond, refl, sym, ap, subst, ◌∙◌, arith}
use Rattle.std.proofs.lemmas.Bool.Decides.{nat_tests}
use Rattle.std.proofs.lemmas.List.{length-set}
use Rattle.br_bytes.specs.Range.{Range, end_of, or_else, byte_in, byte_of, AreApart}
use Rattle.br_bytes.specs.Changes.{after, range_to, range_from, ranges_to, ranges_from, set_in, with_byte}
use Rattle.br_bytes.proofs.Ranged.{below_range, within_range, above_range, none_below}
use Rattle.br_bytes.proofs.Effects.{by_place, to_range_seen, end_to, from_range_seen}
use Rattle.br_bytes.proofs.Effects.{end_from, get_set_same, get_set_other}

-- below the cut
pub to_within : (rs : List Range) (low a q : ℕ) → AreApart low rs → q < a → byte_of (ranges_to a rs) q ≡ byte_of rs q
to_within [] low a q apart h = refl
to_within (r ∷ rs) low a q apart h =
    go (to_within rs (end_of r + 1) a q apart.3 h) (nat_le (end_of r) a) (nat_lt r.start a) refl refl
  where
    go : byte_of (ranges_to a rs) q ≡ byte_of rs q → (t u : Bool) → nat_le (end_of r) a ≡ t → nat_lt r.start a ≡ u
        → byte_of (cond t (r ∷ ranges_to a rs) (cond u (range_to a r ∷ []) [])) q ≡ byte_of (r ∷ rs) q
    go rest true u e f = ap (or_else (byte_in r q)) rest
    go rest false true e f =
        let up : a < end_of r = grind (arith, nat_tests) in
        let low : r.start < a = grind (arith, nat_tests) in
        ap (λ o. or_else o None) (to_range_seen r a q (omega arith) (omega arith) h)
        ∙ ap (or_else (byte_in r q)) (sym (none_below rs (end_of r + 1) q apart.3 (omega arith)))
    go rest false false e f =
        let high : a ≤ r.start = grind (arith, nat_tests) in
        sym (ap (λ o. or_else o (byte_of rs q)) (below_range r q (omega arith))
        ∙ none_below rs (end_of r + 1) q apart.3 (omega arith))

pub to_none_above : (rs : List Range) (a q : ℕ) → a ≤ q → byte_of (ranges_to a rs) q ≡ None
to_none_above [] a q h = refl
to_none_above (r ∷ rs) a q h = go (to_none_above rs a q h) (nat_le (end_of r) a) (nat_lt r.start a) refl refl
  where
    go : byte_of (ranges_to a rs) q ≡ None → (t u : Bool) → nat_le (end_of r) a ≡ t → nat_lt r.start a ≡ u
        → byte_of (cond t (r ∷ ranges_to a rs) (cond u (range_to a r ∷ []) [])) q ≡ None
    go rest true u e f =
        let up : end_of r ≤ a = grind (arith, nat_tests) in
        ap (λ o. or_else o (byte_of (ranges_to a rs) q)) (above_range r q (omega arith)) ∙ rest
    go rest false true e f =
        let up : a < end_of r = grind (arith, nat_tests) in
        let low : r.start < a = grind (arith, nat_tests) in
        let same = end_to r a (omega arith) (omega arith) in
        ap (λ o. or_else o None) (above_range (range_to a r) q (omega (arith, same)))
    go rest false false e f = refl

-- from the cut on
pub from_within : (rs : List Range) (low a q : ℕ) → AreApart low rs → a ≤ q
    → byte_of (ranges_from a rs) q ≡ byte_of rs q
from_within [] low a q apart h = refl
from_within (r ∷ rs) low a q apart h =
    go (from_within rs (end_of r + 1) a q apart.3 h) (nat_le (end_of r) a) (nat_lt r.start a) refl refl
  where
    go : byte_of (ranges_from a rs) q ≡ byte_of rs q → (t u : Bool) → nat_le (end_of r) a ≡ t → nat_lt r.start a ≡ u
        → byte_of (cond t (ranges_from a rs) (cond u (range_from a r ∷ rs) (r ∷ rs))) q ≡ byte_of (r ∷ rs) q
    go rest true u e f =
        let up : end_of r ≤ a = grind (arith, nat_tests) in
        rest ∙ ap (λ o. or_else o (byte_of rs q)) (sym (above_range r q (omega arith)))
    go rest false true e f =
        let low : r.start < a = grind (arith, nat_tests) in
        ap (λ o. or_else o (byte_of rs q)) (from_range_seen r a q (omega arith) h)
    go rest false false e f = refl

pub from_none_below : (rs : List Range) (low a q : ℕ) → AreApart low rs → q < a → byte_of (ranges_from a rs) q ≡ None
from_none_below [] low a q apart h = refl
from_none_below (r ∷ rs) low a q apart h =
    go (from_none_below rs (end_of r + 1) a q apart.3 h) (nat_le (end_of r) a) (nat_lt r.start a) refl refl
  where
    go : byte_of (ranges_from a rs) q ≡ None → (t u : Bool) → nat_le (end_of r) a ≡ t → nat_lt r.start a ≡ u
        → byte_of (cond t (ranges_from a rs) (cond u (range_from a r ∷ rs) (r ∷ rs))) q ≡ None
    go rest true u e f = rest
    go rest false true e f =
        let up : a < end_of r = grind (arith, nat_tests) in
        ap (λ o. or_else o (byte_of rs q)) (below_range (range_from a r) q h)
        ∙ none_below rs (end_of r + 1) q apart.3 (omega arith)
    go rest false false e f =
        let high : a ≤ r.start = grind (arith, nat_tests) in
        ap (λ o. or_else o (byte_of rs q)) (below_range r q (omega arith))
        ∙ none_below rs (end_of r + 1) q apart.3 (omega (arith, apart.1))

-- both sides stand apart
pub to_apart : (rs : List Range) (low a : ℕ) → AreApart low rs → AreApart low (ranges_to a rs)
to_apart [] low a apart = tt
to_apart (r ∷ rs) low a apart =
    go (to_apart rs (end_of r + 1) a apart.3) (nat_le (end_of r) a) (nat_lt r.start a) refl refl
  where
    go : AreApart (end_of r + 1) (ranges_to a rs) → (t u : Bool) → nat_le (end_of r) a ≡ t → nat_lt r.start a ≡ u
        → AreApart low (cond t (r ∷ ranges_to a rs) (cond u (range_to a r ∷ []) []))
    go rest true u e f = (apart.0, apart.1, apart.2, rest)
    go rest false true e f =
        let up : a < end_of r = grind (arith, nat_tests) in
        let low : r.start < a = grind (arith, nat_tests) in
        let same = end_to r a (omega arith) (omega arith) in
        (apart.0, omega (arith, same), omega (arith, same, apart.2), tt)
    go rest false false e f = tt

pub to_after : (rs : List Range) (low a : ℕ) → AreApart low rs → low ≤ a + 1 → after low (ranges_to a rs) ≤ a + 1
to_after [] low a apart l = l
to_after (r ∷ rs) low a apart l =
    go (to_after rs (end_of r + 1) a apart.3) (nat_le (end_of r) a) (nat_lt r.start a) refl refl
  where
    go : (end_of r + 1 ≤ a + 1 → after (end_of r + 1) (ranges_to a rs) ≤ a + 1) → (t u : Bool) → nat_le (end_of r) a ≡ t
        → nat_lt r.start a ≡ u → after low (cond t (r ∷ ranges_to a rs) (cond u (range_to a r ∷ []) [])) ≤ a + 1
    go rest true u e f = let up : end_of r ≤ a = grind (arith, nat_tests) in rest (omega arith)
    go rest false true e f =
        let up : a < end_of r = grind (arith, nat_tests) in
        let low : r.start < a = grind (arith, nat_tests) in
        let same = end_to r a (omega arith) (omega arith) in
        omega (arith, same)
    go rest false false e f = l

pub from_apart : (rs : List Range) (low k a : ℕ) → AreApart low rs → k ≤ a → AreApart k (ranges_from a rs)
from_apart [] low k a apart l = tt
from_apart (r ∷ rs) low k a apart l =
    go (from_apart rs (end_of r + 1) k a apart.3 l) (nat_le (end_of r) a) (nat_lt r.start a) refl refl
  where
    go : AreApart k (ranges_from a rs) → (t u : Bool) → nat_le (end_of r) a ≡ t → nat_lt r.start a ≡ u
        → AreApart k (cond t (ranges_from a rs) (cond u (range_from a r ∷ rs) (r ∷ rs)))
    go rest true u e f = rest
    go rest false true e f =
        let up : a < end_of r = grind (arith, nat_tests) in
        let low : r.start < a = grind (arith, nat_tests) in
        let same = end_from r a (omega arith) (omega arith) in
        (l, omega (arith, same), omega (arith, same, apart.2), subst (λ z. AreApart (z + 1) rs) (sym same) apart.3)
    go rest false false e f =
        let high : a ≤ r.start = grind (arith, nat_tests) in
        (omega arith, apart.1, apart.2, apart.3)

-- a byte that is another
not_none : (o : Option ℕ) → IsTrue (is_some o) → o ≢ None
not_none None h e = cc
not_none (Some b) h e = cc

there_later : (o p : Option ℕ) → o ≡ None → IsTrue (is_some (or_else o p)) → IsTrue (is_some p)
there_later None p e h = h
there_later (Some b) p e h = cc

there_start : (r : Range) (rs : List Range) (a : ℕ) → AreApart (end_of r + 1) rs → a < end_of r
    → IsTrue (is_some (byte_of (r ∷ rs) a)) → r.start ≤ a
there_start r rs a apart up there = go (nat_le r.start a) refl
  where
    go : (t : Bool) → nat_le r.start a ≡ t → r.start ≤ a
    go true e = grind (arith, nat_tests)
    go false e =
        let l : a < r.start = grind (arith, nat_tests) in
        absurd (not_none (byte_of (r ∷ rs) a) there (ap (λ o. or_else o (byte_of rs a)) (below_range r a l)
        ∙ none_below rs (end_of r + 1) a apart (omega arith)))

pub with_here : (rs : List Range) (low a b : ℕ) → AreApart low rs → IsTrue (is_some (byte_of rs a))
    → byte_of (with_byte a b rs) a ≡ Some b
with_here [] low a b apart there = cc
with_here (r ∷ rs) low a b apart there = go (with_here rs (end_of r + 1) a b apart.3) (nat_le (end_of r) a) refl
  where
    go : (IsTrue (is_some (byte_of rs a)) → byte_of (with_byte a b rs) a ≡ Some b) → (t : Bool)
        → nat_le (end_of r) a ≡ t → byte_of (cond t (r ∷ with_byte a b rs) (set_in r a b ∷ rs)) a ≡ Some b
    go rest true e =
        let up : end_of r ≤ a = grind (arith, nat_tests) in
        let none = above_range r a up in
        ap (λ o. or_else o (byte_of (with_byte a b rs) a)) none
        ∙ rest (there_later (byte_in r a) (byte_of rs a) none there)
    go rest false e =
        let up : a < end_of r = grind (arith, nat_tests) in
        let start = there_start r rs a apart.3 up there in
        ap (λ o. or_else o (byte_of rs a))
        (within_range (set_in r a b) a start ∙ get_set_same r.bytes (a - r.start) b (omega (arith, start)))

pub with_other : (rs : List Range) (low a b q : ℕ) → AreApart low rs → IsTrue (is_some (byte_of rs a)) → q ≢ a
    → byte_of (with_byte a b rs) q ≡ byte_of rs q
with_other [] low a b q apart there ne = refl
with_other (r ∷ rs) low a b q apart there ne =
    go (λ h. with_other rs (end_of r + 1) a b q apart.3 h ne) (nat_le (end_of r) a) refl
  where
    go : (IsTrue (is_some (byte_of rs a)) → byte_of (with_byte a b rs) q ≡ byte_of rs q) → (t : Bool)
        → nat_le (end_of r) a ≡ t → byte_of (cond t (r ∷ with_byte a b rs) (set_in r a b ∷ rs)) q ≡ byte_of (r ∷ rs) q
    go rest true e =
        let up : end_of r ≤ a = grind (arith, nat_tests) in
        ap (or_else (byte_in r q)) (rest (there_later (byte_in r a) (byte_of rs a) (above_range r a up) there))
    go rest false e =
        let up : a < end_of r = grind (arith, nat_tests) in
        let start = there_start r rs a apart.3 up there in
        ap (λ o. or_else o (byte_of rs q)) (by_place q r.start r.start
        (λ l. below_range (set_in r a b) q l ∙ sym (below_range r q l))
        (λ l g. absurd (omega arith))
        (λ l g. within_range (set_in r a b) q l
        ∙ get_set_other r.bytes (a - r.start) (q - r.start) b (λ s. ne (omega (arith, s, start)))
        ∙ sym (within_range r q l)))

pub with_apart : (rs : List Range) (low a b : ℕ) → AreApart low rs → AreApart low (with_byte a b rs)
with_apart [] low a b apart = tt
with_apart (r ∷ rs) low a b apart = go (with_apart rs (end_of r + 1) a b apart.3) (nat_le (end_of r) a)
  where
    go : AreApart (end_of r + 1) (with_byte a b rs) → (t : Bool)
        → AreApart low (cond t (r ∷ with_byte a b rs) (set_in r a b ∷ rs))
    go rest true = (apart.0, apart.1, apart.2, rest)
    go rest false =
        let len = length-set r.bytes (a - r.start) b in
        let same : end_of r ≡ end_of (set_in r a b) = omega (arith, len) in (
          apart.0,
          omega (arith, len, apart.1),
          omega (arith, same, apart.2),
          subst (λ k. AreApart (k + 1) rs) same apart.3,
        )
