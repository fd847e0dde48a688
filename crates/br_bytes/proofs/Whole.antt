-- Lemmas on ranges of which a memory has each byte.
use Rattle.std.proofs.Common.{◌≡◌, ℕ, zero, suc, ◌+◌, ◌/◌, ◌%◌, ◌^◌, ◌<◌, ◌≤◌, Bool, true, false, nat_lt, is_some}
use Rattle.std.proofs.Common.{IsTrue, List, [], ◌∷◌, Option, Some, None, cond, refl, sym, ap, subst, ◌∙◌, arith}
use Rattle.std.proofs.lemmas.Bool.Decides.{nat_tests}
use Rattle.std.specs.Ordering.{nat_cmp, eq_by_cmp}
use Rattle.std.specs.FinMap as map
use Rattle.std.specs.Cmp.{nat_cmp_total}
use Rattle.std.specs.Option.{option_map}
use Rattle.br_bytes.specs.Number.{number_of, low_bytes}
use Rattle.br_bytes.specs.Memory.{Memory, place, in_front, bytes_at, put_number, with_bytes}
use Rattle.br_bytes.specs.Ranges.{is_whole}

next_alike : (a b : ℕ) → place a ≡ place b → place (a + 1) ≡ place (b + 1)
next_alike a b e = omega (arith, e)

-- only the places of addresses count
pub bytes_at-alike : (n : ℕ) (m : Memory) (a b : ℕ) → place a ≡ place b → bytes_at m a n ≡ bytes_at m b n
bytes_at-alike zero m a b e = refl
bytes_at-alike (suc n) m a b e = rw (e, bytes_at-alike n m (a + 1) (b + 1) (next_alike a b e)) refl

pub with_bytes-alike : (bs : List ℕ) (m : Memory) (a b : ℕ) → place a ≡ place b → with_bytes m a bs ≡ with_bytes m b bs
with_bytes-alike [] m a b e = refl
with_bytes-alike (x ∷ xs) m a b e = rw (e, with_bytes-alike xs m (a + 1) (b + 1) (next_alike a b e)) refl

front_first : (b : Option ℕ) (bs : Option (List ℕ)) → IsTrue (is_some (in_front b bs)) → IsTrue (is_some b)
front_first (Some b) bs h = refl
front_first None bs h = cc

front_rest : (b : Option ℕ) (bs : Option (List ℕ)) → IsTrue (is_some (in_front b bs)) → IsTrue (is_some bs)
front_rest (Some b) (Some bs) h = refl
front_rest (Some b) None h = cc
front_rest None bs h = cc

pub whole_first : (m : Memory) (a n k : ℕ) → n ≡ suc k → IsTrue (is_whole m a n) → IsTrue (map.contains_key m (place a))
whole_first m a n k e h =
    front_first (map.get m (place a)) (bytes_at m (a + 1) k) (subst (λ n. IsTrue (is_whole m a n)) e h)

pub whole_rest : (m : Memory) (a n k : ℕ) → n ≡ suc k → IsTrue (is_whole m a n) → IsTrue (is_whole m (a + 1) k)
whole_rest m a n k e h =
    front_rest (map.get m (place a)) (bytes_at m (a + 1) k) (subst (λ n. IsTrue (is_whole m a n)) e h)

pub whole_alike : (m : Memory) (a b n : ℕ) → place a ≡ place b → IsTrue (is_whole m a n) → IsTrue (is_whole m b n)
whole_alike m a b n e h = subst (λ o. IsTrue (is_some o)) (bytes_at-alike n m a b e) h

contains-cond : (t : Bool) (b : ℕ) (o : Option ℕ) → IsTrue (is_some o) → IsTrue (is_some (cond t (Some b) o))
contains-cond true b o h = refl
contains-cond false b o h = h

contains-insert : (m : Memory) (k b q : ℕ) → IsTrue (map.contains_key m q)
    → IsTrue (map.contains_key (map.insert m k b) q)
contains-insert m k b q h = subst (λ o. IsTrue (is_some o)) (sym (map.get-insert nat_cmp_total m k b q))
    (contains-cond (eq_by_cmp nat_cmp q k) b (map.get m q) h)

pub contains-with_bytes : (bs : List ℕ) (m : Memory) (a q : ℕ) → IsTrue (map.contains_key m q)
    → IsTrue (map.contains_key (with_bytes m a bs) q)
contains-with_bytes [] m a q h = h
contains-with_bytes (b ∷ bs) m a q h =
    contains-insert (with_bytes m (a + 1) bs) (place a) b q (contains-with_bytes bs m (a + 1) q h)

-- the lowest byte is put after the others
pub put_lowest : (m : Memory) (a n k v : ℕ) → a < 2 ^ 32 → n ≡ suc k
    → map.insert (with_bytes m (place (a + 1)) (low_bytes k (v / 256))) a (v % 256) ≡ with_bytes m a (low_bytes n v)
put_lowest m a n k v small e =
    let here : place a ≡ a = omega arith in
    let next : place (place (a + 1)) ≡ place (a + 1) = omega arith in
    subst (λ n. map.insert (with_bytes m (place (a + 1)) (low_bytes k (v / 256))) a (v % 256)
    ≡ with_bytes m a (low_bytes n v)) (sym e)
    (ap (λ m. map.insert m a (v % 256)) (with_bytes-alike (low_bytes k (v / 256)) m (place (a + 1)) (a + 1) next)
    ∙ ap (λ q. map.insert (with_bytes m (a + 1) (low_bytes k (v / 256))) q (v % 256)) (sym here))

-- a number is there where its bytes are
pub get_some : (o : Option (List ℕ)) → is_some (option_map number_of o) ≡ is_some o
get_some None = refl
get_some (Some bs) = refl

pub put_some : (m : Memory) (a n v : ℕ) → is_some (put_number m a n v) ≡ is_whole m a n
put_some m a n v = go (bytes_at m a n)
  where
    go : (o : Option (List ℕ)) → is_some (option_map (λ _. with_bytes m a (low_bytes n v)) o) ≡ is_some o
    go None = refl
    go (Some bs) = refl

pub put_is : (m : Memory) (a n v : ℕ) → IsTrue (is_whole m a n)
    → put_number m a n v ≡ Some (with_bytes m a (low_bytes n v))
put_is m a n v h = go (bytes_at m a n) h
  where
    go : (o : Option (List ℕ)) → IsTrue (is_some o)
        → option_map (λ _. with_bytes m a (low_bytes n v)) o ≡ Some (with_bytes m a (low_bytes n v))
    go None e = cc
    go (Some bs) e = refl

-- a range with a byte missing at its front, and with one there
pub whole_none : (m : Memory) (a k : ℕ) → map.get m (place a) ≡ None → is_whole m a (suc k) ≡ false
whole_none m a k e = rw e refl

pub whole_step : (m : Memory) (a k : ℕ) → IsTrue (map.contains_key m (place a))
    → is_whole m a (suc k) ≡ is_whole m (a + 1) k
whole_step m a k h = go (map.get m (place a)) (bytes_at m (a + 1) k) h
  where
    go : (b : Option ℕ) (bs : Option (List ℕ)) → IsTrue (is_some b) → is_some (in_front b bs) ≡ is_some bs
    go (Some b) (Some bs) h = refl
    go (Some b) None h = refl
    go None bs h = cc

-- a range is whole where each of its bytes is there
pub whole_all : (n : ℕ) (m : Memory) (a : ℕ) → a + n ≤ 2 ^ 32
    → ((q : ℕ) → a ≤ q → q < a + n → IsTrue (map.contains_key m q)) → is_whole m a n ≡ true
whole_all zero m a fits all = refl
whole_all (suc k) m a fits all =
    let here : a ≡ place a = omega arith in
    whole_step m a k (subst (λ q. IsTrue (map.contains_key m q)) here (all a (omega arith) (omega arith)))
    ∙ whole_all k m (a + 1) (omega arith) (λ q l h. all q (omega arith) (omega arith))

none_there : (o : Option ℕ) → is_some o ≡ false → o ≡ None
none_there None e = refl
none_there (Some b) e = cc

pub whole_not : (n : ℕ) (m : Memory) (a q : ℕ) → a + n ≤ 2 ^ 32 → a ≤ q → q < a + n → map.get m q ≡ None
    → is_whole m a n ≡ false
whole_not zero m a q fits l h none = absurd (omega arith)
whole_not (suc k) m a q fits l h none =
    go (whole_not k m (a + 1) q (omega arith)) (nat_lt a q) (is_some (map.get m (place a))) refl refl
  where
    go : (a + 1 ≤ q → q < a + 1 + k → map.get m q ≡ None → is_whole m (a + 1) k ≡ false) → (t u : Bool) → nat_lt a q ≡ t
        → is_some (map.get m (place a)) ≡ u → is_whole m a (suc k) ≡ false
    go rest t false e f = whole_none m a k (none_there (map.get m (place a)) f)
    go rest true true e f =
        let g : a < q = grind (arith, nat_tests) in
        whole_step m a k f ∙ rest (omega arith) (omega arith) none
    go rest false true e f =
        let g : q ≤ a = grind (arith, nat_tests) in
        let here : q ≡ place a = omega arith in
        whole_none m a k (ap (map.get m) (sym here) ∙ none)
