-- Words, the numbers below 2 ^ 32, and the operations on them, by numbers alone. Those on a divisor
-- of 0 and on shifts are RV32IM's (RISC-V unprivileged manual, chapter 2.4 and the M extension).
use Rattle.std.specs.Prelude.{ℕ, ◌+◌, ◌-◌, ◌*◌, ◌/◌, ◌%◌, ◌^◌, ◌<◌, Bool, nat_lt, ◌==◌}
use Rattle.std.specs.Prelude.{if◌then◌else◌, ℤ, pos, negsuc, int_lt, bit_and, bit_or, bit_xor}
use Rattle.br_words.specs.Bits.{signed_bits, low_bits}
use Rattle.br_words.specs.declared.operation.BinOp.{BinOp}
use Rattle.br_words.specs.declared.operation.BinOp.TheVariants.{Add, Sub, Mul, Mulhuu, Divu}
use Rattle.br_words.specs.declared.operation.BinOp.TheVariants.{Remu, And, Or, Xor, Sru}
use Rattle.br_words.specs.declared.operation.BinOp.TheVariants.{Slu, Srs, Lts, Ltu, Eq}

-- a word is a number below 2 ^ 32
abbrev pub IsWord : ℕ → Type 0
IsWord a = a < 2 ^ 32

-- the signed number that a word stands for: from 2 ^ 31 up it is the word minus 2 ^ 32
abbrev pub signed : ℕ → ℤ
signed a = signed_bits 32 a

-- the word that a signed number leaves modulo 2 ^ 32
abbrev pub wrapped : ℤ → ℕ
wrapped z = low_bits 32 z

-- a signed number divided by a positive one, rounded down
abbrev pub floor_div : ℤ → ℕ → ℤ
floor_div (pos n) d = pos (n / d)
floor_div (negsuc n) d = negsuc (n / d)

-- 1 for true, 0 for false
abbrev pub flag : Bool → ℕ
flag b = if b then 1 else 0

-- the amount of a shift: the low five bits
abbrev pub shift_amount : ℕ → ℕ
shift_amount b = b % 32

-- what an operation makes of two words
abbrev pub value_of_op : BinOp → ℕ → ℕ → ℕ
value_of_op Add a b = (a + b) % 2 ^ 32
value_of_op Sub a b = (a + (2 ^ 32 - b)) % 2 ^ 32
value_of_op Mul a b = a * b % 2 ^ 32
value_of_op Mulhuu a b = a * b / 2 ^ 32
value_of_op Divu a b = if b == 0 then 2 ^ 32 - 1 else a / b
value_of_op Remu a b = if b == 0 then a else a % b
value_of_op And a b = bit_and a b
value_of_op Or a b = bit_or a b
value_of_op Xor a b = bit_xor a b
value_of_op Sru a b = a / 2 ^ shift_amount b
value_of_op Slu a b = a * 2 ^ shift_amount b % 2 ^ 32
value_of_op Srs a b = wrapped (floor_div (signed a) (2 ^ shift_amount b))
value_of_op Lts a b = flag (int_lt (signed a) (signed b))
value_of_op Ltu a b = flag (nat_lt a b)
value_of_op Eq a b = flag (a == b)
