-- Lemmas on a memory without a range.
use Rattle.std.proofs.Common.{◌≡◌, ℕ, ◌+◌, ◌<◌, ◌≤◌, Bool, true, false, not, ◌&&◌, nat_le, nat_lt, is_some}
use Rattle.std.proofs.Common.{List, [], ◌∷◌, length, Option, Some, None, cond, refl, sym, ap, ◌∙◌, arith}
use Rattle.std.proofs.lemmas.Bool.Decides.{nat_tests}
use Rattle.std.specs.FinMap as map
use Rattle.std.specs.Cmp.{nat_cmp_total}
use Rattle.br_bytes.specs.Memory.{Memory}
use Rattle.br_bytes.specs.Buffers.{are_free, without_range}
use Rattle.br_bytes.specs.Ranges.{IsFirstTaken}

pub get-without : (m : Memory) (a n q : ℕ)
    → map.get (without_range m a n) q ≡ cond (not (nat_le a q && nat_lt q (a + n))) (map.get m q) None
get-without m a n q = map.get-retain_keys m (λ q. not (nat_le a q && nat_lt q (a + n))) q
    (λ x e. ap (λ q. not (nat_le a q && nat_lt q (a + n))) (sym (map.nat_cmp-IsAntisymmetric q x e)))

pub get-without_in : (m : Memory) (a n q : ℕ) → a ≤ q → q < a + n → map.get (without_range m a n) q ≡ None
get-without_in m a n q low high = let e = get-without m a n q in grind (arith, nat_tests)

pub get-without_below : (m : Memory) (a n q : ℕ) → q < a → map.get (without_range m a n) q ≡ map.get m q
get-without_below m a n q low = let e = get-without m a n q in grind (arith, nat_tests)

pub get-without_above : (m : Memory) (a n q : ℕ) → a + n ≤ q → map.get (without_range m a n) q ≡ map.get m q
get-without_above m a n q high = let e = get-without m a n q in grind (arith, nat_tests)

-- memories that answer alike are one
pub same_memory : (m n : Memory) → ((q : ℕ) → map.get m q ≡ map.get n q) → m ≡ n
same_memory m n h = map.same_map nat_cmp_total map.nat_cmp-IsAntisymmetric m n h

pub without_none : (m : Memory) (a n : ℕ) → n ≡ 0 → without_range m a n ≡ m
without_none m a n e = same_memory _ _ (λ q. let g = get-without m a n q in grind (arith, nat_tests))

are_free_first : (t : Bool) (r : Bool) → not t && r ≡ true → t ≡ false
are_free_first true r h = cc
are_free_first false r h = refl

are_free_rest : (t : Bool) (r : Bool) → not t && r ≡ true → r ≡ true
are_free_rest true r h = cc
are_free_rest false r h = h

none_at : (o : Option ℕ) → is_some o ≡ false → o ≡ None
none_at None e = refl
none_at (Some b) e = cc

-- what is free has no byte
pub free_is_none : (bs : List ℕ) (m : Memory) (a q : ℕ) → are_free m a bs ≡ true → a ≤ q → q < a + length bs
    → map.get m q ≡ None
free_is_none [] m a q h low high = absurd (omega arith)
free_is_none (b ∷ bs) m a q h low high = first_or_later (nat_lt a q) refl
    (free_is_none bs m (a + 1) q (are_free_rest (map.contains_key m a) (are_free m (a + 1) bs) h))
  where
    first_or_later : (later : Bool) → nat_lt a q ≡ later → (a + 1 ≤ q → q < a + 1 + length bs → map.get m q ≡ None)
        → map.get m q ≡ None
    first_or_later false is rest =
        let l : q ≤ a = grind (arith, nat_tests) in
        let s : q ≡ a = omega arith in
        ap (map.get m) s ∙ none_at (map.get m a) (are_free_first (map.contains_key m a) (are_free m (a + 1) bs) h)
    first_or_later true is rest =
        let l : a < q = grind (arith, nat_tests) in
        rest (omega arith) (omega arith)

pub free_from_none : (bs : List ℕ) (m : Memory) (a : ℕ) → ((q : ℕ) → a ≤ q → q < a + length bs → map.get m q ≡ None)
    → are_free m a bs ≡ true
free_from_none [] m a h = refl
free_from_none (b ∷ bs) m a h =
    let first = h a (omega arith) (omega arith) in
    let rest = free_from_none bs m (a + 1) (λ q low high. h q (omega arith) (omega arith)) in
    rw (first, rest) refl

-- where an address is taken, the range is not free
pub taken_not_free : (bs : List ℕ) (m : Memory) (a at : ℕ) → IsFirstTaken m a (length bs) at → are_free m a bs ≡ false
taken_not_free bs m a at h = go (are_free m a bs) refl
  where
    go : (b : Bool) → are_free m a bs ≡ b → are_free m a bs ≡ false
    go false e = e
    go true e = let none = free_is_none bs m a at e h.0 h.1 in absurd (clash (map.get m at) none h.2)
      where
        clash : (o : Option ℕ) → o ≡ None → is_some o ≡ true → ⊥
        clash None e t = cc
        clash (Some b) e t = cc
