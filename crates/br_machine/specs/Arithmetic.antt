-- What instructions compute, by numbers (RISC-V unprivileged manual, chapters 2.4 to 2.6 and the M
-- extension). An immediate that stands for a word is that word modulo 2 ^ 32.
use Rattle.std.specs.Prelude.{ℕ, ◌+◌, ◌-◌, ◌*◌, ◌/◌, ◌%◌, ◌^◌, Bool, not}
use Rattle.std.specs.Prelude.{nat_lt, ◌==◌, if◌then◌else◌, ℤ, pos, ◌*ℤ◌, int_lt}
use Rattle.std.specs.Prelude.{int_div, int_rem, bit_and, bit_or, bit_xor}
use Rattle.br_words.specs.Words.{signed, wrapped, floor_div, flag, shift_amount}
use Rattle.br_rv32im.specs.declared.instruction.BranchOp.{BranchOp}
use Rattle.br_rv32im.specs.declared.instruction.BranchOp.TheVariants.{Beq, Bne, Blt}
use Rattle.br_rv32im.specs.declared.instruction.BranchOp.TheVariants.{Bge, Bltu, Bgeu}
use Rattle.br_rv32im.specs.declared.instruction.ImmOp.{ImmOp}
use Rattle.br_rv32im.specs.declared.instruction.ImmOp.TheVariants.{Addi, Slti, Sltiu}
use Rattle.br_rv32im.specs.declared.instruction.ImmOp.TheVariants.{Xori, Ori, Andi}
use Rattle.br_rv32im.specs.declared.instruction.RegOp.{RegOp}
use Rattle.br_rv32im.specs.declared.instruction.RegOp.TheVariants.{Add, Sub, Sll, Slt, Sltu}
use Rattle.br_rv32im.specs.declared.instruction.RegOp.TheVariants.{Xor, Srl, Sra, Or, And}
use Rattle.br_rv32im.specs.declared.instruction.RegOp.TheVariants.{Mul, Mulh, Mulhsu, Mulhu}
use Rattle.br_rv32im.specs.declared.instruction.RegOp.TheVariants.{Div, Divu, Rem, Remu}
use Rattle.br_rv32im.specs.declared.instruction.ShiftOp.{ShiftOp}
use Rattle.br_rv32im.specs.declared.instruction.ShiftOp.TheVariants.{Slli, Srli, Srai}

-- a word and a signed number, modulo 2 ^ 32
abbrev pub plus : ℕ → ℤ → ℕ
plus a imm = (a + wrapped imm) % 2 ^ 32

-- the upper 32 bits of a product of 64 bits
abbrev pub upper_half : ℤ → ℕ
upper_half product = wrapped (floor_div product (2 ^ 32))

-- a quotient rounded toward zero; 2 ^ 32 - 1 where the divisor is 0; -2 ^ 31 by -1 is -2 ^ 31
abbrev pub signed_quotient : ℕ → ℕ → ℕ
signed_quotient a b = if b == 0 then 2 ^ 32 - 1 else wrapped (int_div (signed a) (signed b))

-- the remainder, with the sign of the dividend; the dividend where the divisor is 0
abbrev pub signed_remainder : ℕ → ℕ → ℕ
signed_remainder a b = if b == 0 then a else wrapped (int_rem (signed a) (signed b))

-- a word shifted right with copies of its sign
abbrev pub shifted_signed : ℕ → ℕ → ℕ
shifted_signed a amount = wrapped (floor_div (signed a) (2 ^ amount))

-- what a word and a word give
abbrev pub reg_value : RegOp → ℕ → ℕ → ℕ
reg_value Add a b = (a + b) % 2 ^ 32
reg_value Sub a b = (a + (2 ^ 32 - b)) % 2 ^ 32
reg_value Sll a b = a * 2 ^ shift_amount b % 2 ^ 32
reg_value Slt a b = flag (int_lt (signed a) (signed b))
reg_value Sltu a b = flag (nat_lt a b)
reg_value Xor a b = bit_xor a b
reg_value Srl a b = a / 2 ^ shift_amount b
reg_value Sra a b = shifted_signed a (shift_amount b)
reg_value Or a b = bit_or a b
reg_value And a b = bit_and a b
reg_value Mul a b = a * b % 2 ^ 32
reg_value Mulh a b = upper_half (signed a *ℤ signed b)
reg_value Mulhsu a b = upper_half (signed a *ℤ pos b)
reg_value Mulhu a b = a * b / 2 ^ 32
reg_value Div a b = signed_quotient a b
reg_value Divu a b = if b == 0 then 2 ^ 32 - 1 else a / b
reg_value Rem a b = signed_remainder a b
reg_value Remu a b = if b == 0 then a else a % b

-- what a word and an immediate give: as two words do, the second being the immediate modulo 2 ^ 32
abbrev pub imm_value : ImmOp → ℕ → ℕ → ℕ
imm_value Addi = reg_value Add
imm_value Slti = reg_value Slt
imm_value Sltiu = reg_value Sltu
imm_value Xori = reg_value Xor
imm_value Ori = reg_value Or
imm_value Andi = reg_value And

-- a word shifted by a constant amount
abbrev pub shift_value : ShiftOp → ℕ → ℕ → ℕ
shift_value Slli a amount = a * 2 ^ amount % 2 ^ 32
shift_value Srli a amount = a / 2 ^ amount
shift_value Srai a amount = shifted_signed a amount

-- whether a branch is taken
abbrev pub is_taken : BranchOp → ℕ → ℕ → Bool
is_taken Beq a b = a == b
is_taken Bne a b = not (a == b)
is_taken Blt a b = int_lt (signed a) (signed b)
is_taken Bge a b = not (int_lt (signed a) (signed b))
is_taken Bltu a b = nat_lt a b
is_taken Bgeu a b = not (nat_lt a b)
