-- The eight digits of a word.
use Rattle.std.proofs.Common.{◌≡◌, ℕ, ◌/◌, ◌%◌, ◌^◌, ◌<◌, zero, suc, Bool, true, refl, arith, inl, inr}
use Rattle.std.specs.Prelude.{slice_index, ◌==◌, ◌&&◌}
use Rattle.std.specs.Int.{to_be_bytes, w32}
use Rattle.hex.specs.Hex.{encode_with, encode_lower, lower_digits}
use Rattle.br_image.specs.Text.{word_text}
use Rattle.br_words.specs.Hexadecimal.{hex_digit}
use Rattle.std.proofs.lemmas.Bool.{and_parts, cases_lt, eqb-true}

-- the test of the first places of the table, which computes
abbrev all_at_place : ℕ → Bool
all_at_place zero = true
all_at_place (suc n) = (slice_index lower_digits n == hex_digit n) && all_at_place n

at_place : (n k : ℕ) → all_at_place n ≡ true → k < n → slice_index lower_digits k ≡ hex_digit k
at_place zero k h lt = absurd (omega arith)
at_place (suc n) k h lt =
    let parts = and_parts (slice_index lower_digits n == hex_digit n) (all_at_place n) h in
    elim (cases_lt k n) [
      | inl below ↦ at_place n k parts.1 below
      | inr top ↦
          let e : k ≡ n = omega arith in
          rw e (eqb-true (slice_index lower_digits n) (hex_digit n) parts.0)
    ]

-- a digit stands at its place in the table
pub digit_at : (d : ℕ) → d < 16 → slice_index lower_digits d ≡ hex_digit d
digit_at d h = at_place 16 d refl h

four : (w a b : ℕ) → a < 16 → a ≡ b → slice_index lower_digits a ≡ hex_digit b
four w a b h e = rw (← e) (digit_at a h)

-- what encoding the four bytes of a word gives
pub encode_lower-word : (w : ℕ) → w < 2 ^ 32 → encode_lower (to_be_bytes w32 w) ≡ word_text w
unfolding encode_with
encode_lower-word w h =
    let e0 = four w (w / 16777216 % 256 / 16) (w / 268435456 % 16) (omega arith) (omega arith) in
    let e1 = four w (w / 16777216 % 256 % 16) (w / 16777216 % 16) (omega arith) (omega arith) in
    let e2 = four w (w / 65536 % 256 / 16) (w / 1048576 % 16) (omega arith) (omega arith) in
    let e3 = four w (w / 65536 % 256 % 16) (w / 65536 % 16) (omega arith) (omega arith) in
    let e4 = four w (w / 256 % 256 / 16) (w / 4096 % 16) (omega arith) (omega arith) in
    let e5 = four w (w / 256 % 256 % 16) (w / 256 % 16) (omega arith) (omega arith) in
    let e6 = four w (w % 256 / 16) (w / 16 % 16) (omega arith) (omega arith) in
    let e7 = four w (w % 256 % 16) (w % 16) (omega arith) (omega arith) in
    cc
