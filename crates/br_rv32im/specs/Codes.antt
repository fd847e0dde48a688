-- The codes that the manual gives the instructions of each format (RISC-V unprivileged manual,
-- "RV32/64G Instruction Set Listings", RV32I and RV32M). Which instruction has a code is read off
-- the same table: it is the one of the list that has it.
use Rattle.std.specs.Prelude.{ℕ, List, [], ◌∷◌, ◌==◌, ◌&&◌, Option}
use Rattle.std.specs.List.{find}
use Rattle.br_rv32im.specs.declared.instruction.BranchOp.{BranchOp}
use Rattle.br_rv32im.specs.declared.instruction.BranchOp.TheVariants.{Beq, Bne, Blt}
use Rattle.br_rv32im.specs.declared.instruction.BranchOp.TheVariants.{Bge, Bltu, Bgeu}
use Rattle.br_rv32im.specs.declared.instruction.ImmOp.{ImmOp}
use Rattle.br_rv32im.specs.declared.instruction.ImmOp.TheVariants.{Addi, Slti, Sltiu}
use Rattle.br_rv32im.specs.declared.instruction.ImmOp.TheVariants.{Xori, Ori, Andi}
use Rattle.br_rv32im.specs.declared.instruction.LoadOp.{LoadOp}
use Rattle.br_rv32im.specs.declared.instruction.LoadOp.TheVariants.{Lb, Lh, Lw, Lbu, Lhu}
use Rattle.br_rv32im.specs.declared.instruction.RegOp.{RegOp}
use Rattle.br_rv32im.specs.declared.instruction.RegOp.TheVariants.{Add, Sub, Sll, Slt, Sltu}
use Rattle.br_rv32im.specs.declared.instruction.RegOp.TheVariants.{Xor, Srl, Sra, Or, And}
use Rattle.br_rv32im.specs.declared.instruction.RegOp.TheVariants.{Mul, Mulh, Mulhsu, Mulhu}
use Rattle.br_rv32im.specs.declared.instruction.RegOp.TheVariants.{Div, Divu, Rem, Remu}
use Rattle.br_rv32im.specs.declared.instruction.ShiftOp.{ShiftOp}
use Rattle.br_rv32im.specs.declared.instruction.ShiftOp.TheVariants.{Slli, Srli, Srai}
use Rattle.br_rv32im.specs.declared.instruction.StoreOp.{StoreOp}
use Rattle.br_rv32im.specs.declared.instruction.StoreOp.TheVariants.{Sb, Sh, Sw}
use Rattle.br_rv32im.specs.declared.instruction.UpperOp.{UpperOp}
use Rattle.br_rv32im.specs.declared.instruction.UpperOp.TheVariants.{Lui, Auipc}

-- ---- opcodes

-- LUI and AUIPC, the U format
abbrev pub opcode_of_upper : UpperOp → ℕ
opcode_of_upper Lui = 0b0110111
opcode_of_upper Auipc = 0b0010111

-- JAL, the J format
abbrev pub opcode_jal : ℕ
opcode_jal = 0b1101111

-- JALR
abbrev pub opcode_jalr : ℕ
opcode_jalr = 0b1100111

-- the branches, the B format
abbrev pub opcode_branch : ℕ
opcode_branch = 0b1100011

-- the loads
abbrev pub opcode_load : ℕ
opcode_load = 0b0000011

-- the stores, the S format
abbrev pub opcode_store : ℕ
opcode_store = 0b0100011

-- a register and an immediate, the shifts among them
abbrev pub opcode_imm : ℕ
opcode_imm = 0b0010011

-- two registers, the R format
abbrev pub opcode_reg : ℕ
opcode_reg = 0b0110011

-- the whole word of ECALL, whose opcode has other instructions too
abbrev pub word_of_ecall : ℕ
word_of_ecall = 0x00000073

-- ---- funct3 and funct7

-- the only funct3 of its opcode
abbrev pub funct3_of_jalr : ℕ
funct3_of_jalr = 0b000

-- of each branch
abbrev pub funct3_of_branch : BranchOp → ℕ
funct3_of_branch Beq = 0b000
funct3_of_branch Bne = 0b001
funct3_of_branch Blt = 0b100
funct3_of_branch Bge = 0b101
funct3_of_branch Bltu = 0b110
funct3_of_branch Bgeu = 0b111

-- of each load
abbrev pub funct3_of_load : LoadOp → ℕ
funct3_of_load Lb = 0b000
funct3_of_load Lh = 0b001
funct3_of_load Lw = 0b010
funct3_of_load Lbu = 0b100
funct3_of_load Lhu = 0b101

-- of each store
abbrev pub funct3_of_store : StoreOp → ℕ
funct3_of_store Sb = 0b000
funct3_of_store Sh = 0b001
funct3_of_store Sw = 0b010

-- of each operation on a register and an immediate
abbrev pub funct3_of_imm : ImmOp → ℕ
funct3_of_imm Addi = 0b000
funct3_of_imm Slti = 0b010
funct3_of_imm Sltiu = 0b011
funct3_of_imm Xori = 0b100
funct3_of_imm Ori = 0b110
funct3_of_imm Andi = 0b111

-- of each shift by a constant amount
abbrev pub funct3_of_shift : ShiftOp → ℕ
funct3_of_shift Slli = 0b001
funct3_of_shift Srli = 0b101
funct3_of_shift Srai = 0b101

-- where a shift by a constant amount has its funct7, the others have immediate bits
abbrev pub funct7_of_shift : ShiftOp → ℕ
funct7_of_shift Slli = 0b0000000
funct7_of_shift Srli = 0b0000000
funct7_of_shift Srai = 0b0100000

-- of each operation on two registers
abbrev pub funct3_of_reg : RegOp → ℕ
funct3_of_reg Add = 0b000
funct3_of_reg Sub = 0b000
funct3_of_reg Sll = 0b001
funct3_of_reg Slt = 0b010
funct3_of_reg Sltu = 0b011
funct3_of_reg Xor = 0b100
funct3_of_reg Srl = 0b101
funct3_of_reg Sra = 0b101
funct3_of_reg Or = 0b110
funct3_of_reg And = 0b111
funct3_of_reg Mul = 0b000
funct3_of_reg Mulh = 0b001
funct3_of_reg Mulhsu = 0b010
funct3_of_reg Mulhu = 0b011
funct3_of_reg Div = 0b100
funct3_of_reg Divu = 0b101
funct3_of_reg Rem = 0b110
funct3_of_reg Remu = 0b111

-- and its funct7: 0000001 for the M extension
abbrev pub funct7_of_reg : RegOp → ℕ
funct7_of_reg Add = 0b0000000
funct7_of_reg Sub = 0b0100000
funct7_of_reg Sll = 0b0000000
funct7_of_reg Slt = 0b0000000
funct7_of_reg Sltu = 0b0000000
funct7_of_reg Xor = 0b0000000
funct7_of_reg Srl = 0b0000000
funct7_of_reg Sra = 0b0100000
funct7_of_reg Or = 0b0000000
funct7_of_reg And = 0b0000000
funct7_of_reg Mul = 0b0000001
funct7_of_reg Mulh = 0b0000001
funct7_of_reg Mulhsu = 0b0000001
funct7_of_reg Mulhu = 0b0000001
funct7_of_reg Div = 0b0000001
funct7_of_reg Divu = 0b0000001
funct7_of_reg Rem = 0b0000001
funct7_of_reg Remu = 0b0000001

-- ---- the operations of a format, and the one that has a code

-- all of them
abbrev pub branches : List BranchOp
branches = Beq ∷ Bne ∷ Blt ∷ Bge ∷ Bltu ∷ Bgeu ∷ []

-- the branch that has a funct3
abbrev pub branch_coded : ℕ → Option BranchOp
branch_coded funct3 = find (λ o. funct3_of_branch o == funct3) branches

-- all of them
abbrev pub loads : List LoadOp
loads = Lb ∷ Lh ∷ Lw ∷ Lbu ∷ Lhu ∷ []

-- the load that has a funct3
abbrev pub load_coded : ℕ → Option LoadOp
load_coded funct3 = find (λ o. funct3_of_load o == funct3) loads

-- all of them
abbrev pub stores : List StoreOp
stores = Sb ∷ Sh ∷ Sw ∷ []

-- the store that has a funct3
abbrev pub store_coded : ℕ → Option StoreOp
store_coded funct3 = find (λ o. funct3_of_store o == funct3) stores

-- all of them
abbrev pub imms : List ImmOp
imms = Addi ∷ Slti ∷ Sltiu ∷ Xori ∷ Ori ∷ Andi ∷ []

-- the operation on an immediate that has a funct3
abbrev pub imm_coded : ℕ → Option ImmOp
imm_coded funct3 = find (λ o. funct3_of_imm o == funct3) imms

-- all of them
abbrev pub shifts : List ShiftOp
shifts = Slli ∷ Srli ∷ Srai ∷ []

-- the shift that has a funct3 and a funct7
abbrev pub shift_coded : ℕ → ℕ → Option ShiftOp
shift_coded funct3 funct7 =
    find (λ o. (funct3_of_shift o == funct3) && (funct7_of_shift o == funct7)) shifts

-- all of them
abbrev pub regs : List RegOp
regs =
    Add ∷ Sub ∷ Sll ∷ Slt ∷ Sltu ∷ Xor ∷ Srl ∷ Sra ∷ Or ∷ And
    ∷ Mul ∷ Mulh ∷ Mulhsu ∷ Mulhu ∷ Div ∷ Divu ∷ Rem ∷ Remu ∷ []

-- the operation on registers that has a funct3 and a funct7
abbrev pub reg_coded : ℕ → ℕ → Option RegOp
reg_coded funct3 funct7 =
    find (λ o. (funct3_of_reg o == funct3) && (funct7_of_reg o == funct7)) regs
