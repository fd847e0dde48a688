-- The fields and the immediate of a word of each format are those that it was made of.
use Rattle.std.proofs.Common.{◌≡◌, ℕ, ◌+◌, ◌*◌, ◌%◌, ◌^◌, ◌<◌, ◌∙◌, ap, arith, ℤ, pos, negsuc}
use Rattle.std.proofs.lemmas.Int.{ints}
use Rattle.br_words.specs.Bits.{field, low_bits, signed_bits}
use Rattle.br_rv32im.specs.Row.{opcode, rd, funct3, rs1, rs2, funct7, imm_i, imm_s, imm_b, imm_u, imm_j}
use Rattle.br_rv32im.specs.Encoding.{r_word, i_word, s_word, b_word, u_word, j_word, FitsSignedBits, IsEven}

-- ---- two's complement

low-lt_12 : (z : ℤ) → low_bits 12 z < 2 ^ 12
low-lt_12 (pos k) = omega arith
low-lt_12 (negsuc k) = omega arith

low-lt_13 : (z : ℤ) → low_bits 13 z < 2 ^ 13
low-lt_13 (pos k) = omega arith
low-lt_13 (negsuc k) = omega arith

low-lt_21 : (z : ℤ) → low_bits 21 z < 2 ^ 21
low-lt_21 (pos k) = omega arith
low-lt_21 (negsuc k) = omega arith

low-even_13 : (z : ℤ) → IsEven z → low_bits 13 z % 2 ≡ 0
low-even_13 (pos k) h = omega arith
low-even_13 (negsuc k) h = omega arith

low-even_21 : (z : ℤ) → IsEven z → low_bits 21 z % 2 ≡ 0
low-even_21 (pos k) h = omega arith
low-even_21 (negsuc k) h = omega arith

signed-low_12 : (z : ℤ) → FitsSignedBits 12 z → signed_bits 12 (low_bits 12 z) ≡ z
signed-low_12 (pos k) h = grind (arith, ints)
signed-low_12 (negsuc k) h = grind (arith, ints)

signed-low_13 : (z : ℤ) → FitsSignedBits 13 z → signed_bits 13 (low_bits 13 z) ≡ z
signed-low_13 (pos k) h = grind (arith, ints)
signed-low_13 (negsuc k) h = grind (arith, ints)

signed-low_21 : (z : ℤ) → FitsSignedBits 21 z → signed_bits 21 (low_bits 21 z) ≡ z
signed-low_21 (pos k) h = grind (arith, ints)
signed-low_21 (negsuc k) h = grind (arith, ints)

low-signed_12 : (x : ℕ) → x < 2 ^ 12 → low_bits 12 (signed_bits 12 x) ≡ x
low-signed_12 x h = grind (arith, ints)

low-signed_13 : (x : ℕ) → x < 2 ^ 13 → low_bits 13 (signed_bits 13 x) ≡ x
low-signed_13 x h = grind (arith, ints)

low-signed_21 : (x : ℕ) → x < 2 ^ 21 → low_bits 21 (signed_bits 21 x) ≡ x
low-signed_21 x h = grind (arith, ints)

signed-fits_12 : (x : ℕ) → x < 2 ^ 12 → FitsSignedBits 12 (signed_bits 12 x)
signed-fits_12 x h = grind (arith, ints)

signed-fits_13 : (x : ℕ) → x < 2 ^ 13 → FitsSignedBits 13 (signed_bits 13 x)
signed-fits_13 x h = grind (arith, ints)

signed-fits_21 : (x : ℕ) → x < 2 ^ 21 → FitsSignedBits 21 (signed_bits 21 x)
signed-fits_21 x h = grind (arith, ints)

signed-even_13 : (x : ℕ) → x < 2 ^ 13 → x % 2 ≡ 0 → IsEven (signed_bits 13 x)
signed-even_13 x h e = grind (arith, ints)

signed-even_21 : (x : ℕ) → x < 2 ^ 21 → x % 2 ≡ 0 → IsEven (signed_bits 21 x)
signed-even_21 x h e = grind (arith, ints)

-- ---- the fields, by format

pub fields-r : (o a b c d e : ℕ) → o < 128 → a < 8 → b < 128 → c < 32 → d < 32 → e < 32 → let w = r_word o a b c d e in
    (opcode w ≡ o) × (funct3 w ≡ a) × (funct7 w ≡ b) × (rd w ≡ c) × (rs1 w ≡ d) × (rs2 w ≡ e) × (w < 2 ^ 32)
fields-r o a b c d e ho ha hb hc hd he =
    (omega arith, omega arith, omega arith, omega arith, omega arith, omega arith, omega arith)

pub fields-i : (o a c d : ℕ) (z : ℤ) → o < 128 → a < 8 → c < 32 → d < 32 → FitsSignedBits 12 z → let w =
    i_word o a c d z in (opcode w ≡ o) × (funct3 w ≡ a) × (rd w ≡ c) × (rs1 w ≡ d) × (imm_i w ≡ z) × (w < 2 ^ 32)
fields-i o a c d z ho ha hc hd f =
    let l = low-lt_12 z in
    let e : field 31 20 (i_word o a c d z) ≡ low_bits 12 z = omega arith in
    (omega arith, omega arith, omega arith, omega arith, ap (signed_bits 12) e ∙ signed-low_12 z f, omega arith)

pub fields-s : (o a d e : ℕ) (z : ℤ) → o < 128 → a < 8 → d < 32 → e < 32 → FitsSignedBits 12 z → let w =
    s_word o a d e z in (opcode w ≡ o) × (funct3 w ≡ a) × (rs1 w ≡ d) × (rs2 w ≡ e) × (imm_s w ≡ z) × (w < 2 ^ 32)
fields-s o a d e z ho ha hd he f =
    let l = low-lt_12 z in
    let b : field 31 25 (s_word o a d e z) * 2 ^ 5 + field 11 7 (s_word o a d e z) ≡ low_bits 12 z = omega arith in
    (omega arith, omega arith, omega arith, omega arith, ap (signed_bits 12) b ∙ signed-low_12 z f, omega arith)

-- what the fields of an immediate of 13 bits are put together to
parts_of_b : ℕ → ℕ
parts_of_b w = field 31 31 w * 2 ^ 12 + field 7 7 w * 2 ^ 11 + field 30 25 w * 2 ^ 5 + field 11 8 w * 2

pub fields-b : (o a d e : ℕ) (z : ℤ) → o < 128 → a < 8 → d < 32 → e < 32 → FitsSignedBits 13 z → IsEven z → let w =
    b_word o a d e z in (opcode w ≡ o) × (funct3 w ≡ a) × (rs1 w ≡ d) × (rs2 w ≡ e) × (imm_b w ≡ z) × (w < 2 ^ 32)
unfolding parts_of_b
fields-b o a d e z ho ha hd he f v =
    let l = low-lt_13 z in
    let v' = low-even_13 z v in
    let b : parts_of_b (b_word o a d e z) ≡ low_bits 13 z = omega arith in
    (omega arith, omega arith, omega arith, omega arith, ap (signed_bits 13) b ∙ signed-low_13 z f, omega arith)

pub fields-u : (o c x : ℕ) → o < 128 → c < 32 → x < 2 ^ 20 → let w = u_word o c x in
    (opcode w ≡ o) × (rd w ≡ c) × (imm_u w ≡ x) × (w < 2 ^ 32)
fields-u o c x ho hc hx = (omega arith, omega arith, omega arith, omega arith)

-- what the fields of an immediate of 21 bits are put together to
parts_of_j : ℕ → ℕ
parts_of_j w = field 31 31 w * 2 ^ 20 + field 19 12 w * 2 ^ 12 + field 20 20 w * 2 ^ 11 + field 30 21 w * 2

pub fields-j : (o c : ℕ) (z : ℤ) → o < 128 → c < 32 → FitsSignedBits 21 z → IsEven z → let w = j_word o c z in
    (opcode w ≡ o) × (rd w ≡ c) × (imm_j w ≡ z) × (w < 2 ^ 32)
unfolding parts_of_j
fields-j o c z ho hc f v =
    let l = low-lt_21 z in
    let v' = low-even_21 z v in
    let b : parts_of_j (j_word o c z) ≡ low_bits 21 z = omega arith in
    (omega arith, omega arith, ap (signed_bits 21) b ∙ signed-low_21 z f, omega arith)

-- ---- a word is made of its fields

pub made-r : (w : ℕ) → w < 2 ^ 32
    → (w ≡ r_word (opcode w) (funct3 w) (funct7 w) (rd w) (rs1 w) (rs2 w)) × (rd w < 32) × (rs1 w < 32) × (rs2 w < 32)
made-r w h = (omega arith, omega arith, omega arith, omega arith)

pub made-i : (w : ℕ) → w < 2 ^ 32 → (w ≡ i_word (opcode w) (funct3 w) (rd w) (rs1 w) (imm_i w)) × (rd w < 32)
    × (rs1 w < 32) × FitsSignedBits 12 (imm_i w)
made-i w h =
    let l : field 31 20 w < 2 ^ 12 = omega arith in
    let e = low-signed_12 (field 31 20 w) l in
    (rw e (omega arith), omega arith, omega arith, signed-fits_12 (field 31 20 w) l)

pub made-s : (w : ℕ) → w < 2 ^ 32 → (w ≡ s_word (opcode w) (funct3 w) (rs1 w) (rs2 w) (imm_s w)) × (rs1 w < 32)
    × (rs2 w < 32) × FitsSignedBits 12 (imm_s w)
made-s w h =
    let l : field 31 25 w * 2 ^ 5 + field 11 7 w < 2 ^ 12 = omega arith in
    let e = low-signed_12 (field 31 25 w * 2 ^ 5 + field 11 7 w) l in
    (rw e (omega arith), omega arith, omega arith, signed-fits_12 _ l)

pub made-b : (w : ℕ) → w < 2 ^ 32 → (w ≡ b_word (opcode w) (funct3 w) (rs1 w) (rs2 w) (imm_b w)) × (rs1 w < 32)
    × (rs2 w < 32) × FitsSignedBits 13 (imm_b w) × IsEven (imm_b w)
unfolding parts_of_b
made-b w h =
    let l : parts_of_b w < 2 ^ 13 = omega arith in
    let v : parts_of_b w % 2 ≡ 0 = omega arith in
    let e = low-signed_13 (parts_of_b w) l in
    (rw e (omega arith), omega arith, omega arith, signed-fits_13 _ l, signed-even_13 _ l v)

pub made-u : (w : ℕ) → w < 2 ^ 32 → (w ≡ u_word (opcode w) (rd w) (imm_u w)) × (rd w < 32) × (imm_u w < 2 ^ 20)
made-u w h = (omega arith, omega arith, omega arith)

pub made-j : (w : ℕ) → w < 2 ^ 32
    → (w ≡ j_word (opcode w) (rd w) (imm_j w)) × (rd w < 32) × FitsSignedBits 21 (imm_j w) × IsEven (imm_j w)
unfolding parts_of_j
made-j w h =
    let l : parts_of_j w < 2 ^ 21 = omega arith in
    let v : parts_of_j w % 2 ≡ 0 = omega arith in
    let e = low-signed_21 (parts_of_j w) l in
    (rw e (omega arith), omega arith, signed-fits_21 _ l, signed-even_21 _ l v)
