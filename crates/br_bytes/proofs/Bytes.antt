-- Lemmas on bytes in a memory.
use Rattle.std.proofs.Common.{◌≡◌, ◌≢◌, ℕ, zero, suc, ◌+◌, ◌%◌, ◌^◌, ◌<◌, List, [], ◌∷◌, length}
use Rattle.std.proofs.Common.{Option, Some, None, cond, refl, sym, ap, subst, ◌∙◌, arith}
use Rattle.std.specs.Ordering.{nat_cmp, is_eq}
use Rattle.std.specs.declared.cmp.Ordering.{Ordering}
use Rattle.std.specs.declared.cmp.Ordering.TheVariants.{Less, Equal, Greater}
use Rattle.std.specs.FinMap as map
use Rattle.std.specs.Cmp.{nat_cmp_total}
use Rattle.std.specs.Option.{option_map}
use Rattle.br_words.specs.declared.size.Size.{Size}
use Rattle.br_words.specs.declared.size.Size.TheVariants.{One, Two, Four}
use Rattle.br_words.specs.Size.{size_of}
use Rattle.br_bytes.specs.Number.{number_of, low_bytes}
use Rattle.br_bytes.proofs.Words.{length-low_bytes}
use Rattle.br_bytes.specs.Memory.{Memory, place, bytes_at, get_number, put_number, with_bytes}

-- one insertion, at its key and elsewhere
pub get-insert_same : (m : Memory) (k b : ℕ) → map.get (map.insert m k b) k ≡ Some b
get-insert_same m k b = grind (map.gets, arith)

pub get-insert_other : (m : Memory) (k b q : ℕ) → q ≢ k → map.get (map.insert m k b) q ≡ map.get m q
get-insert_other m k b q ne = map.get-insert nat_cmp_total m k b q ∙ from (nat_cmp q k) refl
  where
    from : (o : Ordering) → nat_cmp q k ≡ o → cond (is_eq o) (Some b) (map.get m q) ≡ map.get m q
    from Less e = refl
    from Equal e = absurd (ne (map.nat_cmp-IsAntisymmetric q k e))
    from Greater e = refl

-- the i-th place after the first is the place i + 1
next_place : (a i : ℕ) → place (a + 1 + i) ≡ place (a + suc i)
next_place a i = let e : a + 1 + i ≡ a + suc i = omega arith in ap place e

-- places that are fewer than 2 ^ 32 apart differ
pub place_apart : (a i : ℕ) → i + 1 < 2 ^ 32 → place a ≢ place (a + 1 + i)
place_apart a i h = λ e. omega (arith, e)

pub get-with_bytes_other : (bs : List ℕ) (m : Memory) (a q : ℕ) → ((i : ℕ) → i < length bs → q ≢ place (a + i))
    → map.get (with_bytes m a bs) q ≡ map.get m q
get-with_bytes_other [] m a q apart = refl
get-with_bytes_other (b ∷ bs) m a q apart =
    let first : q ≢ place a = λ e. apart 0 (omega arith) (e ∙ (let z : a ≡ a + 0 = omega arith in ap place z)) in
    get-insert_other (with_bytes m (a + 1) bs) (place a) b q first
    ∙ get-with_bytes_other bs m (a + 1) q (λ i h e. apart (suc i) (omega arith) (e ∙ next_place a i))

bytes_at-insert_other : (n : ℕ) (m : Memory) (k b a : ℕ) → ((i : ℕ) → i < n → k ≢ place (a + i))
    → bytes_at (map.insert m k b) a n ≡ bytes_at m a n
bytes_at-insert_other zero m k b a apart = refl
bytes_at-insert_other (suc n) m k b a apart =
    let first : place a ≢ k = λ e. apart 0 (omega arith) (sym e ∙ (let z : a ≡ a + 0 = omega arith in ap place z)) in
    let rest = bytes_at-insert_other n m k b (a + 1) (λ i h e. apart (suc i) (omega arith) (e ∙ next_place a i)) in
    rw (get-insert_other m k b (place a) first, rest) refl

pub bytes_at-with_bytes : (bs : List ℕ) (m : Memory) (a : ℕ) → length bs < 2 ^ 32
    → bytes_at (with_bytes m a bs) a (length bs) ≡ Some bs
bytes_at-with_bytes [] m a h = refl
bytes_at-with_bytes (b ∷ bs) m a h =
    let rest = bytes_at-insert_other (length bs) (with_bytes m (a + 1) bs) (place a) b (a + 1)
    (λ i l. place_apart a i (omega arith)) in
    let here = bytes_at-with_bytes bs m (a + 1) (omega arith) in
    rw (get-insert_same (with_bytes m (a + 1) bs) (place a) b, rest, here) refl

pub number_of-low_bytes : (size : Size) (v : ℕ) → number_of (low_bytes (size_of size) v) ≡ v % 256 ^ size_of size
number_of-low_bytes One v = omega arith
number_of-low_bytes Two v = omega arith
number_of-low_bytes Four v = omega arith

-- where a put gives a memory, it is the one with the bytes
pub put_number-some : (n : ℕ) (before after : Memory) (a v : ℕ) → put_number before a n v ≡ Some after
    → after ≡ with_bytes before a (low_bytes n v)
put_number-some n before after a v is = from (bytes_at before a n) is
  where
    from : (o : Option (List ℕ)) → option_map (λ _. with_bytes before a (low_bytes n v)) o ≡ Some after
        → after ≡ with_bytes before a (low_bytes n v)
    from None e = cc
    from (Some bs) e = cc

small : (size : Size) → size_of size < 2 ^ 32
small One = omega arith
small Two = omega arith
small Four = omega arith

pub get-put : (before after : Memory) (a v : ℕ) (size : Size) → put_number before a (size_of size) v ≡ Some after
    → get_number after a (size_of size) ≡ Some (v % 256 ^ size_of size)
get-put before after a v size is =
    let n = size_of size in
    let len = length-low_bytes n v in
    let there = subst (λ k. bytes_at (with_bytes before a (low_bytes n v)) a k ≡ Some (low_bytes n v)) len
    (bytes_at-with_bytes (low_bytes n v) before a (subst (λ k. k < 2 ^ 32) (sym len) (small size))) in
    subst (λ m. get_number m a n ≡ Some (v % 256 ^ n)) (sym (put_number-some n before after a v is))
    (ap (option_map number_of) there ∙ ap Some (number_of-low_bytes size v))

pub get_outside-put : (before after : Memory) (a v q : ℕ) (size : Size) → put_number before a (size_of size) v
    ≡ Some after → ((i : ℕ) → i < size_of size → q ≢ place (a + i)) → map.get after q ≡ map.get before q
get_outside-put before after a v q size is apart =
    let n = size_of size in
    let len = length-low_bytes n v in
    subst (λ m. map.get m q ≡ map.get before q) (sym (put_number-some n before after a v is))
    (get-with_bytes_other (low_bytes n v) before a q (λ i h. apart i (subst (λ k. i < k) len h)))
