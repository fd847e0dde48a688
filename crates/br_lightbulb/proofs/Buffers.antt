-- Bytes of a buffer.
use Rattle.std.proofs.Common.{◌≡◌, ◌≢◌, ◌⊎◌, inl, inr, ℕ, zero, suc, ◌+◌, ◌-◌, ◌*◌, ◌^◌, ◌<◌}
use Rattle.std.proofs.Common.{◌≤◌, List, [], ◌∷◌, length, Some, cond, refl, ap, ◌∙◌, arith}
use Rattle.std.specs.Prelude.{slice_index}
use Rattle.std.specs.Ordering.{nat_cmp, is_eq}
use Rattle.std.specs.declared.cmp.Ordering.{Ordering}
use Rattle.std.specs.declared.cmp.Ordering.TheVariants.{Less, Equal, Greater}
use Rattle.std.specs.FinMap as map
use Rattle.std.specs.Cmp.{nat_cmp_total}
use Rattle.br_words.specs.declared.operation.BinOp.TheVariants.{Add}
use Rattle.br_words.specs.Words.{value_of_op}
use Rattle.br_bytes.specs.Number.{low_bytes}
use Rattle.br_bytes.specs.Memory.{Memory, place, get_number, put_number, with_bytes}
use Rattle.br_lightbulb.specs.Shows.{IsBuffer}

get-insert_same : (m : Memory) (k b : ℕ) → map.get (map.insert m k b) k ≡ Some b
get-insert_same m k b = grind (map.gets, arith)

get-insert_other : (m : Memory) (k b q : ℕ) → q ≢ k → map.get (map.insert m k b) q ≡ map.get m q
get-insert_other m k b q ne = map.get-insert nat_cmp_total m k b q ∙ from (nat_cmp q k) refl
  where
    from : (o : Ordering) → nat_cmp q k ≡ o → cond (is_eq o) (Some b) (map.get m q) ≡ map.get m q
    from Less e = refl
    from Equal e = absurd (ne (map.nat_cmp-IsAntisymmetric q k e))
    from Greater e = refl

here : (a n : ℕ) → a + suc n ≤ 2 ^ 32 → place a ≡ a
here a n h = omega arith

-- what stands where bytes were put
pub within : (bs : List ℕ) (m : Memory) (a j : ℕ) → a + length bs ≤ 2 ^ 32 → j < length bs →
    map.get (with_bytes m a bs) (a + j) ≡ Some (slice_index bs j)
within [] m a j fits less = absurd (none j less)
  where
    none : (j : ℕ) → j < 0 → ⊥
    none j h = omega arith
within (b ∷ bs) m a zero fits less =
    let e : a + 0 ≡ place a = omega arith in
    ap (map.get (with_bytes m a (b ∷ bs))) e ∙ get-insert_same (with_bytes m (a + 1) bs) (place a) b
within (b ∷ bs) m a (suc j) fits less =
    let e : a + suc j ≡ a + 1 + j = omega arith in
    let apart : a + 1 + j ≢ place a = λ h. omega (arith, h) in
    ap (map.get (with_bytes m a (b ∷ bs))) e ∙ get-insert_other (with_bytes m (a + 1) bs) (place a) b (a + 1 + j) apart
    ∙ within bs m (a + 1) j (omega arith) (omega arith)

-- and elsewhere
pub outside : (bs : List ℕ) (m : Memory) (a q : ℕ) → a + length bs ≤ 2 ^ 32 →
    ((q < a) ⊎ (a + length bs ≤ q)) → map.get (with_bytes m a bs) q ≡ map.get m q
outside [] m a q fits side = refl
outside (b ∷ bs) m a q fits (inl low) =
    let apart : q ≢ place a = λ h. omega (arith, h) in
    get-insert_other (with_bytes m (a + 1) bs) (place a) b q apart
    ∙ outside bs m (a + 1) q (omega arith) (inl (omega arith))
outside (b ∷ bs) m a q fits (inr high) =
    let apart : q ≢ place a = λ h. omega (arith, h) in
    get-insert_other (with_bytes m (a + 1) bs) (place a) b q apart
    ∙ outside bs m (a + 1) q (omega arith) (inr (omega arith))

-- a buffer, once its bytes are in memory
pub new_buffer : (m : Memory) (p n : ℕ) (bs : List ℕ) → length bs ≡ n → p + n ≤ 2 ^ 32 →
    IsBuffer (with_bytes m p bs) p n
new_buffer m p n bs many fits =
    record { below = fits; there = λ j less. (slice_index bs j, within bs m p j (omega arith) (omega arith)) }

-- which side of a place an address is at
pub sides : (q a n : ℕ) → ((q < a) ⊎ (a + n ≤ q)) ⊎ ((j : ℕ) × (j < n) × (q ≡ a + j))
sides q a n = by low high
  where
    low : (q < a) ⊎ (a ≤ q)
    low = grind arith

    high : (q < a + n) ⊎ (a + n ≤ q)
    high = grind arith

    by : ((q < a) ⊎ (a ≤ q)) → ((q < a + n) ⊎ (a + n ≤ q)) → ((q < a) ⊎ (a + n ≤ q)) ⊎ ((j : ℕ) × (j < n) × (q ≡ a + j))
    by (inl h) k = inl (inl h)
    by (inr h) (inr k) = inl (inr k)
    by (inr h) (inl k) = inr (q - a, omega arith, omega arith)

-- a byte of a buffer
byte_there : (m : Memory) (p n j q : ℕ) → IsBuffer m p n → j < n → q ≡ p + j → (b : ℕ) × (map.get m (place q) ≡ Some b)
byte_there m p n j q b less e = go (b.there j less)
  where
    same : p + n ≤ 2 ^ 32 → place q ≡ p + j
    same h = omega arith

    go : (v : ℕ) × (map.get m (p + j) ≡ Some v) → (v : ℕ) × (map.get m (place q) ≡ Some v)
    go (v, h) = (v, ap (map.get m) (same b.below) ∙ h)

-- a word stored in a buffer
pub stored : (m : Memory) (p n i w : ℕ) → IsBuffer m p n → i + 4 ≤ n →
    put_number m (p + i) 4 w ≡ Some (with_bytes m (p + i) (low_bytes 4 w))
stored m p n i w b fits =
    all (byte_there m p n i (p + i) b (omega arith) refl)
    (byte_there m p n (i + 1) (p + i + 1) b (omega arith) (omega arith))
    (byte_there m p n (i + 2) (p + i + 1 + 1) b (omega arith) (omega arith))
    (byte_there m p n (i + 3) (p + i + 1 + 1 + 1) b (omega arith) (omega arith))
  where
    all : (v : ℕ) × (map.get m (place (p + i)) ≡ Some v) → (v : ℕ) × (map.get m (place (p + i + 1)) ≡ Some v) →
        (v : ℕ) × (map.get m (place (p + i + 1 + 1)) ≡ Some v) →
        (v : ℕ) × (map.get m (place (p + i + 1 + 1 + 1)) ≡ Some v) →
        put_number m (p + i) 4 w ≡ Some (with_bytes m (p + i) (low_bytes 4 w))
    all (v0, h0) (v1, h1) (v2, h2) (v3, h3) = rw (h0, h1, h2, h3) refl

-- a byte of a buffer is loaded
pub loads : (m : Memory) (p i b : ℕ) → p + 1520 ≤ 2 ^ 32 → i < 1520 → map.get m (p + i) ≡ Some b →
    get_number m (value_of_op Add p i) 1 ≡ Some b
loads m p i b fits less h =
    let k : place (value_of_op Add p i) ≡ p + i = omega arith in
    let e : map.get m (place (value_of_op Add p i)) ≡ Some b = ap (map.get m) k ∙ h in
    rw e (ap Some (alone b))
  where
    alone : (b : ℕ) → b + 256 * 0 ≡ b
    alone b = omega arith

pub still_buffer : (m : Memory) (p n a : ℕ) (bs : List ℕ) → IsBuffer m p n → a + length bs ≤ 2 ^ 32 →
    IsBuffer (with_bytes m a bs) p n
still_buffer m p n a bs b fits = record { below = b.below; there = λ j less. by j less (sides (p + j) a (length bs)) }
  where
    by : (j : ℕ) → j < n → (((p + j < a) ⊎ (a + length bs ≤ p + j)) ⊎ ((k : ℕ) × (k < length bs) × (p + j ≡ a + k))) →
        (v : ℕ) × (map.get (with_bytes m a bs) (p + j) ≡ Some v)
    by j less (inl side) = go (b.there j less)
      where
        go : (v : ℕ) × (map.get m (p + j) ≡ Some v) → (v : ℕ) × (map.get (with_bytes m a bs) (p + j) ≡ Some v)
        go (v, h) = (v, outside bs m a (p + j) fits side ∙ h)
    by j less (inr (k, short, e)) = (slice_index bs k, ap (map.get (with_bytes m a bs)) e ∙ within bs m a k fits short)
