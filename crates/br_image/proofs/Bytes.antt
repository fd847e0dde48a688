-- Bytes and their digits.
use Rattle.std.proofs.Common.{◌≡◌, ℕ, suc, ◌/◌, ◌%◌, ◌^◌, ◌<◌, ◌≤◌, List, [], ◌∷◌, ◌++◌, refl, ap, sym}
use Rattle.std.proofs.Common.{◌∙◌, arith, length, length-append, get_or, take, drop, inl, inr, Ok}
use Rattle.std.specs.Prelude.{All, slice_index, ◌≢◌}
use Rattle.std.proofs.lemmas.Bool.{cases_lt}
use Rattle.std.proofs.lemmas.List.{get_or_past}
use Rattle.std.proofs.lemmas.List.Elements.{All-cons, All-nil, All-head, All-tail}
use Rattle.hex.specs.Hex.{IsBytes, encode_with, encode_lower, lower_digits, decode_of}
use Rattle.hex.proofs.HexLemmas.{decode_of-encode_lower}
use Rattle.br_image.specs.Text.{word_text}
use Rattle.br_words.specs.Hexadecimal.{hex_digit}
use Rattle.br_image.specs.Fields.{bytes_field, word_fields}
use Rattle.br_bytes.specs.Hexadecimal.{bytes_text}
use Rattle.br_image.proofs.Digits.{digit_at}
use Rattle.br_image.proofs.Pieces.{Free, Free-append}
use Rattle.br_image.proofs.Forms.{Free-digit, Free-word, word_text-injective}

IsByte : ℕ → Type 0
IsByte b = b < 256

pub bytes_all : (xs : List ℕ) → IsBytes xs → All (λ b. b < 256) xs
bytes_all [] h = All-nil (λ b. b < 256)
bytes_all (b ∷ xs) h = All-cons (λ b. b < 256) b xs (h 0) (bytes_all xs (λ i. h (suc i)))

pub all_bytes : (xs : List ℕ) → All (λ b. b < 256) xs → IsBytes xs
all_bytes xs h i = elim (cases_lt i (length xs)) [
  | inl low ↦ h i 0 low
  | inr high ↦ let past : get_or xs i 0 ≡ 0 = get_or_past xs i 0 high in rw past (omega arith)
]

pub bytes-encoded : (xs : List ℕ) → IsBytes xs → encode_lower xs ≡ bytes_text xs
unfolding encode_with
bytes-encoded [] h = refl
bytes-encoded (b ∷ xs) h =
    let small : b < 256 = h 0 in
    let high : slice_index lower_digits (b / 16) ≡ hex_digit (b / 16) = digit_at (b / 16) (omega arith) in
    let low : slice_index lower_digits (b % 16) ≡ hex_digit (b % 16) = digit_at (b % 16) (omega arith) in
    let rest : encode_lower xs ≡ bytes_text xs = bytes-encoded xs (λ i. h (suc i)) in
    ap (λ d. d ∷ slice_index lower_digits (b % 16) ∷ encode_with lower_digits xs) high
    ∙ (ap (λ d. hex_digit (b / 16) ∷ d ∷ encode_with lower_digits xs) low
    ∙ ap (λ t. hex_digit (b / 16) ∷ hex_digit (b % 16) ∷ t) rest)

-- the digits of bytes are read as them
pub decode-bytes : (digits bytes : List ℕ) → All (λ b. b < 256) bytes → digits ≡ bytes_text bytes
    → decode_of digits ≡ Ok bytes
decode-bytes digits bytes h e =
    let all = all_bytes bytes h in
    rw (e ∙ sym (bytes-encoded bytes all)) (decode_of-encode_lower bytes all)

pub bytes_text-injective : (xs ys : List ℕ) → All (λ b. b < 256) xs → All (λ b. b < 256) ys
    → bytes_text xs ≡ bytes_text ys → xs ≡ ys
bytes_text-injective xs ys h k e =
    let same : Ok xs ≡ Ok ys = sym (decode-bytes (bytes_text xs) xs h refl) ∙ decode-bytes (bytes_text xs) ys k e in
    cc

pub Free-bytes : (c : ℕ) (xs : List ℕ) → c < 48 → Free c (bytes_text xs)
Free-bytes c [] low = tt
Free-bytes c (b ∷ xs) low = (Free-digit c (b / 16) low, (Free-digit c (b % 16) low, Free-bytes c xs low))

pub Free-bytes_field : (xs : List ℕ) → Free 10 (bytes_field xs)
Free-bytes_field [] = tt
Free-bytes_field (b ∷ xs) = ((λ e. absurd (omega arith)), Free-bytes 10 (b ∷ xs) (omega arith))

pub bytes_field-injective : (xs ys : List ℕ) → All (λ b. b < 256) xs → All (λ b. b < 256) ys
    → bytes_field xs ≡ bytes_field ys → xs ≡ ys
bytes_field-injective [] [] h k e = refl
bytes_field-injective [] (y ∷ ys) h k e = absurd cc
bytes_field-injective (x ∷ xs) [] h k e = absurd cc
bytes_field-injective (x ∷ xs) (y ∷ ys) h k e = bytes_text-injective (x ∷ xs) (y ∷ ys) h k (ap (λ t. drop 1 t) e)

-- ---- fields of words

pub word_front : (v w : ℕ) (r s : List ℕ) → v < 2 ^ 32 → w < 2 ^ 32 → word_text v ++ r ≡ word_text w ++ s
    → (v ≡ w) × (r ≡ s)
word_front v w r s h k e =
    let texts : word_text v ≡ word_text w = ap (λ t. take 8 t) e in
    let rests : r ≡ s = ap (λ t. drop 8 t) e in
    (word_text-injective v w h k texts, rests)

-- the words of the first fields are the first words
pub fields_front : (vs ws r : List ℕ) → All (λ w. w < 2 ^ 32) vs → All (λ w. w < 2 ^ 32) ws
    → word_fields vs ++ r ≡ word_fields ws
    → (us : List ℕ) × All (λ w. w < 2 ^ 32) us × (ws ≡ vs ++ us) × (r ≡ word_fields us)
fields_front [] ws r h k e = (ws, k, refl, e)
fields_front (v ∷ vs) [] r h k e = absurd cc
fields_front (v ∷ vs) (w ∷ ws) r h k e =
    let P : ℕ → Type 0 = λ w. w < 2 ^ 32 in
    let front = word_front v w (word_fields vs ++ r) (word_fields ws) (All-head P v vs h) (All-head P w ws k)
    (ap (λ t. drop 1 t) e) in
    let more = fields_front vs ws r (All-tail P v vs h) (All-tail P w ws k) front.1 in
    let head = front.0 in
    let tail = more.2 in
    (more.0, more.1, cc, more.3)

pub Free-word_fields : (ws : List ℕ) → Free 10 (word_fields ws)
Free-word_fields [] = tt
Free-word_fields (w ∷ ws) = (
  (λ e. absurd (omega arith)),
  Free-append 10 (word_text w) (word_fields ws) (Free-word 10 w (omega arith)) (Free-word_fields ws),
)

none_left : (left us : List ℕ) → 0 < length left → length us ≡ 0 → left ≢ word_fields us
none_left left [] some few e = let len = ap length e in absurd (omega arith)
none_left left (u ∷ us) some few e = absurd (omega arith)

-- more fields than there may be
pub full_words : (tail left words ws : List ℕ) (most : ℕ) → All (λ w. w < 2 ^ 32) words
    → tail ≡ word_fields words ++ left → most ≤ length words → 0 < length left
    → length ws ≤ most → All (λ w. w < 2 ^ 32) ws → tail ≢ word_fields ws
full_words tail left words ws most h d full some few k e =
    let front = fields_front words ws left h k (sym d ∙ e) in
    let len = ap length front.2 ∙ length-append words front.0 in
    none_left left front.0 some (omega arith) front.3

first_left : (left us : List ℕ) → 0 < length left → ((w : ℕ) (rest : List ℕ) → w < 2 ^ 32
    → left ≢ 32 ∷ (word_text w ++ rest)) → All (λ w. w < 2 ^ 32) us → left ≢ word_fields us
first_left left [] some none h e = let len = ap length e in absurd (omega arith)
first_left left (u ∷ us) some none h e = none u (word_fields us) (All-head (λ w. w < 2 ^ 32) u us h) e

-- a field that is no word
pub no_word : (tail left words ws : List ℕ) → All (λ w. w < 2 ^ 32) words → tail ≡ word_fields words ++ left
    → 0 < length left
    → ((w : ℕ) (rest : List ℕ) → w < 2 ^ 32 → left ≢ 32 ∷ (word_text w ++ rest)) → All (λ w. w < 2 ^ 32) ws
    → tail ≢ word_fields ws
no_word tail left words ws h d some none k e =
    let front = fields_front words ws left h k (sym d ∙ e) in
    first_left left front.0 some none front.1 front.3
