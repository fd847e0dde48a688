-- Lemmas on the bytes of numbers and of words.
use Rattle.std.proofs.Common.{◌≡◌, ℕ, zero, suc, ◌+◌, ◌*◌, ◌/◌, ◌<◌, List, [], ◌∷◌}
use Rattle.std.proofs.Common.{◌++◌, length, Some, refl, ap, ◌∙◌, arith, length-append}
use Rattle.std.specs.Prelude.{slice_get, slice_index}
use Rattle.std.proofs.lemmas.List.{get_or_append_left, get_or-append-add}
use Rattle.br_bytes.specs.Number.{low_bytes, word_bytes}
use Rattle.br_bytes.specs.Buffers.{AreBytes}

pub length-low_bytes : (n v : ℕ) → length (low_bytes n v) ≡ n
length-low_bytes zero v = refl
length-low_bytes (suc n) v = ap suc (length-low_bytes n (v / 256))

pub AreBytes-low_bytes : (n v : ℕ) → AreBytes (low_bytes n v)
AreBytes-low_bytes zero v = tt
AreBytes-low_bytes (suc n) v = (omega arith, AreBytes-low_bytes n (v / 256))

pub AreBytes-append : (xs ys : List ℕ) → AreBytes xs → AreBytes ys → AreBytes (xs ++ ys)
AreBytes-append [] ys small all = all
AreBytes-append (x ∷ xs) ys small all = (small.0, AreBytes-append xs ys small.1 all)

pub length-word_bytes : (words : List ℕ) → length (word_bytes words) ≡ 4 * length words
length-word_bytes [] = refl
length-word_bytes (w ∷ words) =
    omega (arith, length-append (low_bytes 4 w) (word_bytes words), length-low_bytes 4 w, length-word_bytes words)

pub AreBytes-word_bytes : (words : List ℕ) → AreBytes (word_bytes words)
AreBytes-word_bytes [] = tt
AreBytes-word_bytes (w ∷ words) =
    AreBytes-append (low_bytes 4 w) (word_bytes words) (AreBytes-low_bytes 4 w) (AreBytes-word_bytes words)

-- the bytes of a word stand at four times its number
pub word_bytes-at : (words : List ℕ) (j w i : ℕ) → slice_get words j ≡ Some w → i < 4
    → slice_index (word_bytes words) (4 * j + i) ≡ slice_index (low_bytes 4 w) i
word_bytes-at [] j w i there few = absurd (cc)
word_bytes-at (v ∷ words) zero w i there few =
    let is : v ≡ w = cc in
    let place : 4 * 0 + i ≡ i = omega arith in
    ap (slice_index (word_bytes (v ∷ words))) place
    ∙ get_or_append_left (low_bytes 4 v) (word_bytes words) 0 i (omega (arith, length-low_bytes 4 v))
    ∙ ap (λ u. slice_index (low_bytes 4 u) i) is
word_bytes-at (v ∷ words) (suc j) w i there few =
    let place : 4 * suc j + i ≡ length (low_bytes 4 v) + (4 * j + i) = omega (arith, length-low_bytes 4 v) in
    ap (slice_index (word_bytes (v ∷ words))) place
    ∙ get_or-append-add (low_bytes 4 v) (word_bytes words) (4 * j + i) 0
    ∙ word_bytes-at words j w i there few
