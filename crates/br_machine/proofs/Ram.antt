-- Bytes of RAM: what a write leaves elsewhere, and what a read finds.
use Rattle.std.proofs.Common.{◌≡◌, ◌≢◌, ◌⊎◌, inl, inr, ℕ, zero, suc, ◌+◌, ◌/◌, ◌%◌, ◌^◌, ◌<◌}
use Rattle.std.proofs.Common.{◌≤◌, List, [], ◌∷◌, length, take, drop, refl, ap, ◌∙◌, arith}
use Rattle.std.proofs.Math.ListN.{length-set}
use Rattle.std.proofs.lemmas.List.{get_or-set_other, get_or-set_same, take-set-le}
use Rattle.std.specs.Prelude.{slice_index, slice_set}
use Rattle.br_bytes.specs.Number.{number_of, low_bytes}
use Rattle.br_machine.specs.State.{bytes_from, with_bytes_from}

pub length-with_bytes_from : (bs ram : List ℕ) (p : ℕ) → length (with_bytes_from ram p bs) ≡ length ram
length-with_bytes_from [] ram p = refl
length-with_bytes_from (b ∷ bs) ram p = length-with_bytes_from bs (slice_set ram p b) (p + 1) ∙ length-set ram p b

-- a place before the bytes, or after them
pub index-with_bytes_from : (bs ram : List ℕ) (p q : ℕ) → (q < p) ⊎ (p + length bs ≤ q)
    → slice_index (with_bytes_from ram p bs) q ≡ slice_index ram q
index-with_bytes_from [] ram p q apart = refl
index-with_bytes_from (b ∷ bs) ram p q apart =
    index-with_bytes_from bs (slice_set ram p b) (p + 1) q (further apart) ∙ get_or-set_other ram p q b 0 (other apart)
  where
    further : (q < p) ⊎ (p + suc (length bs) ≤ q) → (q < p + 1) ⊎ (p + 1 + length bs ≤ q)
    further (inl h) = inl (omega arith)
    further (inr h) = inr (omega arith)

    other : (q < p) ⊎ (p + suc (length bs) ≤ q) → q ≢ p
    other (inl h) = omega arith
    other (inr h) = omega arith

-- what was written is read
pub bytes_from-with_bytes_from : (bs ram : List ℕ) (p : ℕ) → p + length bs ≤ length ram
    → bytes_from (with_bytes_from ram p bs) p (length bs) ≡ bs
bytes_from-with_bytes_from [] ram p h = refl
bytes_from-with_bytes_from (b ∷ bs) ram p h =
    let here : slice_index (with_bytes_from (slice_set ram p b) (p + 1) bs) p ≡ b =
    index-with_bytes_from bs (slice_set ram p b) (p + 1) p (inl (omega arith))
    ∙ get_or-set_same ram p b 0 (omega arith) in
    let rest = bytes_from-with_bytes_from bs (slice_set ram p b) (p + 1) (omega (arith, length-set ram p b)) in
    rw (here, rest) refl

-- RAMs that agree on n places from p on have the same bytes there
pub bytes_from-same : (n : ℕ) (ram ram' : List ℕ) (p : ℕ)
    → ((q : ℕ) → p ≤ q → q < p + n → slice_index ram' q ≡ slice_index ram q) → bytes_from ram' p n ≡ bytes_from ram p n
bytes_from-same zero ram ram' p same = refl
bytes_from-same (suc n) ram ram' p same =
    let here = same p (omega arith) (omega arith) in
    let rest = bytes_from-same n ram ram' (p + 1) (λ q l h. same q (omega arith) (omega arith)) in
    rw (here, rest) refl

-- a stretch of RAM that lies apart from a byte stays
take_drop-set : (ram : List ℕ) (n k p b : ℕ) → (p < k) ⊎ (k + n ≤ p)
    → take n (drop k (slice_set ram p b)) ≡ take n (drop k ram)
take_drop-set [] n k p b apart = refl
take_drop-set (x ∷ ram) n zero p b (inl h) = absurd (omega arith)
take_drop-set (x ∷ ram) n zero p b (inr h) = take-set-le n (x ∷ ram) p b (omega arith)
take_drop-set (x ∷ ram) n (suc k) zero b apart = refl
take_drop-set (x ∷ ram) n (suc k) (suc p) b (inl h) = take_drop-set ram n k p b (inl (omega arith))
take_drop-set (x ∷ ram) n (suc k) (suc p) b (inr h) = take_drop-set ram n k p b (inr (omega arith))

-- a stretch of RAM before the bytes, or after them, stays
pub take_drop-with_bytes_from : (bs ram : List ℕ) (n k p : ℕ) → (p + length bs ≤ k) ⊎ (k + n ≤ p)
    → take n (drop k (with_bytes_from ram p bs)) ≡ take n (drop k ram)
take_drop-with_bytes_from [] ram n k p apart = refl
take_drop-with_bytes_from (b ∷ bs) ram n k p apart =
    take_drop-with_bytes_from bs (slice_set ram p b) n k (p + 1) (further apart)
    ∙ take_drop-set ram n k p b (here apart)
  where
    further : (p + suc (length bs) ≤ k) ⊎ (k + n ≤ p) → (p + 1 + length bs ≤ k) ⊎ (k + n ≤ p + 1)
    further (inl h) = inl (omega arith)
    further (inr h) = inr (omega arith)

    here : (p + suc (length bs) ≤ k) ⊎ (k + n ≤ p) → (p < k) ⊎ (k + n ≤ p)
    here (inl h) = inl (omega arith)
    here (inr h) = inr (omega arith)

pub low_bytes_4-is : (v : ℕ) → v % 256 ∷ v / 256 % 256 ∷ v / 65536 % 256 ∷ v / 16777216 % 256 ∷ [] ≡ low_bytes 4 v
low_bytes_4-is v =
    let third : v / 65536 % 256 ≡ v / 256 / 256 % 256 = omega arith in
    let fourth : v / 16777216 % 256 ≡ v / 256 / 256 / 256 % 256 = omega arith in
    rw (third, fourth) refl

-- a word is the number of its four bytes
pub number_of-low_bytes_4 : (v : ℕ) → v < 2 ^ 32 → number_of (low_bytes 4 v) ≡ v
number_of-low_bytes_4 v h = omega arith

-- a word that was written is read
pub word_at-with_bytes_from : (ram : List ℕ) (p v : ℕ) → v < 2 ^ 32 → p + 4 ≤ length ram
    → number_of (bytes_from (with_bytes_from ram p (low_bytes 4 v)) p 4) ≡ v
word_at-with_bytes_from ram p v h room =
    ap number_of (bytes_from-with_bytes_from (low_bytes 4 v) ram p room) ∙ number_of-low_bytes_4 v h
