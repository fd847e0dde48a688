-- The text of an instruction in a listing: the mnemonic and the operands in the
-- order of the manual's assembly language.
use Rattle.std.specs.Prelude.{ℕ, ◌/◌, ◌%◌, ◌^◌, List, [], ◌∷◌, ◌++◌, ℤ, codes}
use Rattle.std.specs.Fmt.{decimal, signed_decimal}
use Rattle.br_words.specs.Hexadecimal.{hex_digit}
use Rattle.br_rv32im.specs.declared.instruction.Ins.{Ins}
use Rattle.br_rv32im.specs.declared.instruction.Ins.TheVariants.{Upper, Jal, Jalr, Branch, Load}
use Rattle.br_rv32im.specs.declared.instruction.Ins.TheVariants.{Store, Imm, Shift, Reg, Ecall}
use Rattle.br_rv32im.specs.declared.instruction.BranchOp.{BranchOp}
use Rattle.br_rv32im.specs.declared.instruction.BranchOp.TheVariants.{Beq, Bne, Blt}
use Rattle.br_rv32im.specs.declared.instruction.BranchOp.TheVariants.{Bge, Bltu, Bgeu}
use Rattle.br_rv32im.specs.declared.instruction.ImmOp.{ImmOp}
use Rattle.br_rv32im.specs.declared.instruction.ImmOp.TheVariants.{Addi, Slti, Sltiu}
use Rattle.br_rv32im.specs.declared.instruction.ImmOp.TheVariants.{Xori, Ori, Andi}
use Rattle.br_rv32im.specs.declared.instruction.LoadOp.{LoadOp}
use Rattle.br_rv32im.specs.declared.instruction.LoadOp.TheVariants.{Lb, Lh, Lw, Lbu, Lhu}
use Rattle.br_rv32im.specs.declared.instruction.RegOp.{RegOp}
use Rattle.br_rv32im.specs.declared.instruction.RegOp.TheVariants.{Add, Sub, Sll, Slt, Sltu}
use Rattle.br_rv32im.specs.declared.instruction.RegOp.TheVariants.{Xor, Srl, Sra, Or, And}
use Rattle.br_rv32im.specs.declared.instruction.RegOp.TheVariants.{Mul, Mulh, Mulhsu, Mulhu}
use Rattle.br_rv32im.specs.declared.instruction.RegOp.TheVariants.{Div, Divu, Rem, Remu}
use Rattle.br_rv32im.specs.declared.instruction.ShiftOp.{ShiftOp}
use Rattle.br_rv32im.specs.declared.instruction.ShiftOp.TheVariants.{Slli, Srli, Srai}
use Rattle.br_rv32im.specs.declared.instruction.StoreOp.{StoreOp}
use Rattle.br_rv32im.specs.declared.instruction.StoreOp.TheVariants.{Sb, Sh, Sw}
use Rattle.br_rv32im.specs.declared.instruction.UpperOp.{UpperOp}
use Rattle.br_rv32im.specs.declared.instruction.UpperOp.TheVariants.{Lui, Auipc}

-- ---- mnemonics

-- of LUI and AUIPC
abbrev pub mnemonic_of_upper : UpperOp → List ℕ
mnemonic_of_upper Lui = codes "lui"
mnemonic_of_upper Auipc = codes "auipc"

-- of the branches
abbrev pub mnemonic_of_branch : BranchOp → List ℕ
mnemonic_of_branch Beq = codes "beq"
mnemonic_of_branch Bne = codes "bne"
mnemonic_of_branch Blt = codes "blt"
mnemonic_of_branch Bge = codes "bge"
mnemonic_of_branch Bltu = codes "bltu"
mnemonic_of_branch Bgeu = codes "bgeu"

-- of the loads
abbrev pub mnemonic_of_load : LoadOp → List ℕ
mnemonic_of_load Lb = codes "lb"
mnemonic_of_load Lh = codes "lh"
mnemonic_of_load Lw = codes "lw"
mnemonic_of_load Lbu = codes "lbu"
mnemonic_of_load Lhu = codes "lhu"

-- of the stores
abbrev pub mnemonic_of_store : StoreOp → List ℕ
mnemonic_of_store Sb = codes "sb"
mnemonic_of_store Sh = codes "sh"
mnemonic_of_store Sw = codes "sw"

-- of the operations on an immediate
abbrev pub mnemonic_of_imm : ImmOp → List ℕ
mnemonic_of_imm Addi = codes "addi"
mnemonic_of_imm Slti = codes "slti"
mnemonic_of_imm Sltiu = codes "sltiu"
mnemonic_of_imm Xori = codes "xori"
mnemonic_of_imm Ori = codes "ori"
mnemonic_of_imm Andi = codes "andi"

-- of the shifts by a constant amount
abbrev pub mnemonic_of_shift : ShiftOp → List ℕ
mnemonic_of_shift Slli = codes "slli"
mnemonic_of_shift Srli = codes "srli"
mnemonic_of_shift Srai = codes "srai"

-- of the operations on registers
abbrev pub mnemonic_of_reg : RegOp → List ℕ
mnemonic_of_reg Add = codes "add"
mnemonic_of_reg Sub = codes "sub"
mnemonic_of_reg Sll = codes "sll"
mnemonic_of_reg Slt = codes "slt"
mnemonic_of_reg Sltu = codes "sltu"
mnemonic_of_reg Xor = codes "xor"
mnemonic_of_reg Srl = codes "srl"
mnemonic_of_reg Sra = codes "sra"
mnemonic_of_reg Or = codes "or"
mnemonic_of_reg And = codes "and"
mnemonic_of_reg Mul = codes "mul"
mnemonic_of_reg Mulh = codes "mulh"
mnemonic_of_reg Mulhsu = codes "mulhsu"
mnemonic_of_reg Mulhu = codes "mulhu"
mnemonic_of_reg Div = codes "div"
mnemonic_of_reg Divu = codes "divu"
mnemonic_of_reg Rem = codes "rem"
mnemonic_of_reg Remu = codes "remu"

-- ---- operands

-- a register by its number: `x5`
abbrev pub register : ℕ → List ℕ
register r = codes "x" ++ decimal r

-- a number of 20 bits: `0x` and its five hexadecimal digits
abbrev pub hex_20 : ℕ → List ℕ
hex_20 n =
    codes "0x"
    ++ hex_digit (n / 16 ^ 4) ∷ hex_digit (n / 16 ^ 3 % 16) ∷ hex_digit (n / 16 ^ 2 % 16)
    ∷ hex_digit (n / 16 % 16) ∷ hex_digit (n % 16) ∷ []

-- an address by its offset from a register: `-4(x2)`
abbrev pub address : ℤ → ℕ → List ℕ
address offset base = signed_decimal offset ++ (codes "(" ++ (register base ++ codes ")"))

-- ---- the text: a mnemonic, and after a space its operands with `, ` between them

-- two operands
abbrev pub with_two : (mnemonic a b : List ℕ) → List ℕ
with_two mnemonic a b = mnemonic ++ (codes " " ++ (a ++ (codes ", " ++ b)))

-- three operands
abbrev pub with_three : (mnemonic a b c : List ℕ) → List ℕ
with_three mnemonic a b c = with_two mnemonic a (b ++ (codes ", " ++ c))

-- the text of an instruction
unfoldable pub listing_of : Ins → List ℕ
listing_of (Upper o rd imm) = with_two (mnemonic_of_upper o) (register rd) (hex_20 imm)
listing_of (Jal rd imm) = with_two (codes "jal") (register rd) (signed_decimal imm)
listing_of (Jalr rd rs1 imm) = with_two (codes "jalr") (register rd) (address imm rs1)
listing_of (Branch o rs1 rs2 imm) =
    with_three (mnemonic_of_branch o) (register rs1) (register rs2) (signed_decimal imm)
listing_of (Load o rd rs1 imm) = with_two (mnemonic_of_load o) (register rd) (address imm rs1)
listing_of (Store o rs1 rs2 imm) = with_two (mnemonic_of_store o) (register rs2) (address imm rs1)
listing_of (Imm o rd rs1 imm) =
    with_three (mnemonic_of_imm o) (register rd) (register rs1) (signed_decimal imm)
listing_of (Shift o rd rs1 amount) =
    with_three (mnemonic_of_shift o) (register rd) (register rs1) (decimal amount)
listing_of (Reg o rd rs1 rs2) =
    with_three (mnemonic_of_reg o) (register rd) (register rs1) (register rs2)
listing_of Ecall = codes "ecall"
