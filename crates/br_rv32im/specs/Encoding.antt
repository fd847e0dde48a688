-- The word that an instruction is, and the instructions that are words (RISC-V unprivileged
-- manual, base instruction formats and immediate encoding variants).
use Rattle.std.specs.Prelude.{◌≡◌, ℕ, ◌+◌, ◌-◌, ◌*◌, ◌%◌, ◌^◌, ◌<◌, ℤ}
use Rattle.std.specs.Prelude.{pos, negsuc, ◌≤ℤ◌, ◌<ℤ◌, unsigned_abs}
use Rattle.br_words.specs.Bits.{field, low_bits}
use Rattle.br_rv32im.specs.declared.instruction.Ins.{Ins}
use Rattle.br_rv32im.specs.declared.instruction.Ins.TheVariants.{Upper, Jal, Jalr, Branch, Load}
use Rattle.br_rv32im.specs.declared.instruction.Ins.TheVariants.{Store, Imm, Shift, Reg, Ecall}
use Rattle.br_rv32im.specs.Codes.{opcode_of_upper, opcode_jal, opcode_jalr, opcode_branch}
use Rattle.br_rv32im.specs.Codes.{opcode_load, opcode_store, opcode_imm, opcode_reg}
use Rattle.br_rv32im.specs.Codes.{word_of_ecall, funct3_of_jalr, funct3_of_branch}
use Rattle.br_rv32im.specs.Codes.{funct3_of_load, funct3_of_store, funct3_of_imm}
use Rattle.br_rv32im.specs.Codes.{funct3_of_shift, funct7_of_shift, funct3_of_reg, funct7_of_reg}

-- ---- the six formats

-- three registers
abbrev pub r_word : (opcode funct3 funct7 rd rs1 rs2 : ℕ) → ℕ
r_word opcode funct3 funct7 rd rs1 rs2 =
    funct7 * 2 ^ 25 + rs2 * 2 ^ 20 + rs1 * 2 ^ 15 + funct3 * 2 ^ 12 + rd * 2 ^ 7 + opcode

-- imm[11:0] at 31..20
abbrev pub i_word : (opcode funct3 rd rs1 : ℕ) (imm : ℤ) → ℕ
i_word opcode funct3 rd rs1 imm =
    low_bits 12 imm * 2 ^ 20 + rs1 * 2 ^ 15 + funct3 * 2 ^ 12 + rd * 2 ^ 7 + opcode

-- imm[11:5] at 31..25, imm[4:0] at 11..7
abbrev pub s_word : (opcode funct3 rs1 rs2 : ℕ) (imm : ℤ) → ℕ
s_word opcode funct3 rs1 rs2 imm =
    let bits = low_bits 12 imm
    in field 11 5 bits * 2 ^ 25 + rs2 * 2 ^ 20 + rs1 * 2 ^ 15 + funct3 * 2 ^ 12
    + field 4 0 bits * 2 ^ 7 + opcode

-- imm[12] at 31, imm[10:5] at 30..25, imm[4:1] at 11..8, imm[11] at 7
abbrev pub b_word : (opcode funct3 rs1 rs2 : ℕ) (imm : ℤ) → ℕ
b_word opcode funct3 rs1 rs2 imm =
    let bits = low_bits 13 imm
    in field 12 12 bits * 2 ^ 31 + field 10 5 bits * 2 ^ 25 + rs2 * 2 ^ 20 + rs1 * 2 ^ 15
    + funct3 * 2 ^ 12
    + field 4 1 bits * 2 ^ 8 + field 11 11 bits * 2 ^ 7 + opcode

-- imm[31:12] at 31..12
abbrev pub u_word : (opcode rd imm : ℕ) → ℕ
u_word opcode rd imm = imm * 2 ^ 12 + rd * 2 ^ 7 + opcode

-- imm[20] at 31, imm[10:1] at 30..21, imm[11] at 20, imm[19:12] at 19..12
abbrev pub j_word : (opcode rd : ℕ) (imm : ℤ) → ℕ
j_word opcode rd imm =
    let bits = low_bits 21 imm
    in field 20 20 bits * 2 ^ 31 + field 10 1 bits * 2 ^ 21 + field 11 11 bits * 2 ^ 20
    + field 19 12 bits * 2 ^ 12
    + rd * 2 ^ 7 + opcode

-- ---- the word that an instruction is

-- its codes and its fields in its format
unfoldable pub word_of : Ins → ℕ
word_of (Upper o rd imm) = u_word (opcode_of_upper o) rd imm
word_of (Jal rd imm) = j_word opcode_jal rd imm
word_of (Jalr rd rs1 imm) = i_word opcode_jalr funct3_of_jalr rd rs1 imm
word_of (Branch o rs1 rs2 imm) = b_word opcode_branch (funct3_of_branch o) rs1 rs2 imm
word_of (Load o rd rs1 imm) = i_word opcode_load (funct3_of_load o) rd rs1 imm
word_of (Store o rs1 rs2 imm) = s_word opcode_store (funct3_of_store o) rs1 rs2 imm
word_of (Imm o rd rs1 imm) = i_word opcode_imm (funct3_of_imm o) rd rs1 imm
word_of (Shift o rd rs1 amount) =
    r_word opcode_imm (funct3_of_shift o) (funct7_of_shift o) rd rs1 amount
word_of (Reg o rd rs1 rs2) = r_word opcode_reg (funct3_of_reg o) (funct7_of_reg o) rd rs1 rs2
word_of Ecall = word_of_ecall

-- ---- the instructions whose fields are in range

-- a number of n bits
abbrev pub FitsBits : ℕ → ℕ → Type 0
FitsBits n x = x < 2 ^ n

-- a signed number of n bits in two's complement
abbrev pub FitsSignedBits : ℕ → ℤ → Type 0
FitsSignedBits n z = (negsuc (2 ^ (n - 1) - 1) ≤ℤ z) × (z <ℤ pos (2 ^ (n - 1)))

-- a jump or branch offset has no bit 0
abbrev pub IsEven : ℤ → Type 0
IsEven z = unsigned_abs z % 2 ≡ 0

-- each register is one of the 32, and the immediate is one that the format can hold
abbrev pub Fits : Ins → Type 0
Fits (Upper o rd imm) = FitsBits 5 rd × FitsBits 20 imm
Fits (Jal rd imm) = FitsBits 5 rd × FitsSignedBits 21 imm × IsEven imm
Fits (Jalr rd rs1 imm) = FitsBits 5 rd × FitsBits 5 rs1 × FitsSignedBits 12 imm
Fits (Branch o rs1 rs2 imm) = FitsBits 5 rs1 × FitsBits 5 rs2 × FitsSignedBits 13 imm × IsEven imm
Fits (Load o rd rs1 imm) = FitsBits 5 rd × FitsBits 5 rs1 × FitsSignedBits 12 imm
Fits (Store o rs1 rs2 imm) = FitsBits 5 rs1 × FitsBits 5 rs2 × FitsSignedBits 12 imm
Fits (Imm o rd rs1 imm) = FitsBits 5 rd × FitsBits 5 rs1 × FitsSignedBits 12 imm
Fits (Shift o rd rs1 amount) = FitsBits 5 rd × FitsBits 5 rs1 × FitsBits 5 amount
Fits (Reg o rd rs1 rs2) = FitsBits 5 rd × FitsBits 5 rs1 × FitsBits 5 rs2
Fits Ecall = Unit {0}
