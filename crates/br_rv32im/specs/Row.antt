-- The instruction that a word is (RISC-V unprivileged manual, base instruction formats and
-- immediate encoding variants).
use Rattle.std.specs.Prelude.{ℕ, ◌+◌, ◌*◌, ◌^◌, ◌==◌, if◌then◌else◌, ℤ, Option, None, Some}
use Rattle.std.specs.Option.{option_map, option_or}
use Rattle.br_words.specs.Bits.{field, signed_bits}
use Rattle.br_rv32im.specs.declared.instruction.Ins.{Ins}
use Rattle.br_rv32im.specs.declared.instruction.Ins.TheVariants.{Upper, Jal, Jalr, Branch, Load}
use Rattle.br_rv32im.specs.declared.instruction.Ins.TheVariants.{Store, Imm, Shift, Reg, Ecall}
use Rattle.br_rv32im.specs.declared.instruction.UpperOp.TheVariants.{Lui, Auipc}
use Rattle.br_rv32im.specs.Codes.{opcode_of_upper, opcode_jal, opcode_jalr, opcode_branch}
use Rattle.br_rv32im.specs.Codes.{opcode_load, opcode_store, opcode_imm, opcode_reg}
use Rattle.br_rv32im.specs.Codes.{word_of_ecall, funct3_of_jalr, branch_coded, load_coded}
use Rattle.br_rv32im.specs.Codes.{store_coded, imm_coded, shift_coded, reg_coded}

-- ---- the fields of a word

-- the format, and the kind of the instruction
abbrev pub opcode : ℕ → ℕ
opcode w = field 6 0 w

-- the register that is written
abbrev pub rd : ℕ → ℕ
rd w = field 11 7 w

-- the instruction among those of an opcode
abbrev pub funct3 : ℕ → ℕ
funct3 w = field 14 12 w

-- the first register that is read
abbrev pub rs1 : ℕ → ℕ
rs1 w = field 19 15 w

-- the second register that is read
abbrev pub rs2 : ℕ → ℕ
rs2 w = field 24 20 w

-- the instruction among those of an opcode and a funct3
abbrev pub funct7 : ℕ → ℕ
funct7 w = field 31 25 w

-- the amount of a shift stands where rs2 stands
abbrev pub shamt : ℕ → ℕ
shamt w = field 24 20 w

-- ---- its immediate in each format

-- imm[11:0] at 31..20
abbrev pub imm_i : ℕ → ℤ
imm_i w = signed_bits 12 (field 31 20 w)

-- imm[11:5] at 31..25, imm[4:0] at 11..7
abbrev pub imm_s : ℕ → ℤ
imm_s w = signed_bits 12 (field 31 25 w * 2 ^ 5 + field 11 7 w)

-- imm[12] at 31, imm[11] at 7, imm[10:5] at 30..25, imm[4:1] at 11..8; bit 0 is 0
abbrev pub imm_b : ℕ → ℤ
imm_b w =
    signed_bits 13
    (field 31 31 w * 2 ^ 12 + field 7 7 w * 2 ^ 11 + field 30 25 w * 2 ^ 5 + field 11 8 w * 2)

-- imm[31:12] at 31..12, as a number of 20 bits
abbrev pub imm_u : ℕ → ℕ
imm_u w = field 31 12 w

-- imm[20] at 31, imm[19:12] at 19..12, imm[11] at 20, imm[10:1] at 30..21; bit 0 is 0
abbrev pub imm_j : ℕ → ℤ
imm_j w =
    signed_bits 21 (field 31 31 w * 2 ^ 20 + field 19 12 w * 2 ^ 12 + field 20 20 w * 2 ^ 11
    + field 30 21 w * 2)

-- ---- the rows by opcode

-- JALR is the only instruction of its opcode
abbrev pub jalr_row : ℕ → Option Ins
jalr_row w = if funct3 w == funct3_of_jalr then Some (Jalr (rd w) (rs1 w) (imm_i w)) else None

-- the branches
abbrev pub branch_row : ℕ → Option Ins
branch_row w = option_map (λ o. Branch o (rs1 w) (rs2 w) (imm_b w)) (branch_coded (funct3 w))

-- the loads
abbrev pub load_row : ℕ → Option Ins
load_row w = option_map (λ o. Load o (rd w) (rs1 w) (imm_i w)) (load_coded (funct3 w))

-- the stores
abbrev pub store_row : ℕ → Option Ins
store_row w = option_map (λ o. Store o (rs1 w) (rs2 w) (imm_s w)) (store_coded (funct3 w))

-- a register and an immediate; no funct3 is that of a shift and of another operation
abbrev pub imm_row : ℕ → Option Ins
imm_row w =
    option_or
    (option_map (λ o. Imm o (rd w) (rs1 w) (imm_i w)) (imm_coded (funct3 w)))
    (option_map (λ o. Shift o (rd w) (rs1 w) (shamt w)) (shift_coded (funct3 w) (funct7 w)))

-- two registers
abbrev pub reg_row : ℕ → Option Ins
reg_row w = option_map (λ o. Reg o (rd w) (rs1 w) (rs2 w)) (reg_coded (funct3 w) (funct7 w))

-- the instruction that a word is, or nothing where it is none of the 46
unfoldable pub row_of : ℕ → Option Ins
row_of w =
    if opcode w == opcode_of_upper Lui then Some (Upper Lui (rd w) (imm_u w))
    else if opcode w == opcode_of_upper Auipc then Some (Upper Auipc (rd w) (imm_u w))
    else if opcode w == opcode_jal then Some (Jal (rd w) (imm_j w))
    else if opcode w == opcode_jalr then jalr_row w
    else if opcode w == opcode_branch then branch_row w
    else if opcode w == opcode_load then load_row w
    else if opcode w == opcode_store then store_row w
    else if opcode w == opcode_imm then imm_row w
    else if opcode w == opcode_reg then reg_row w
    else if w == word_of_ecall then Some Ecall
    else None
