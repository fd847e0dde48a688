-- Which literals are constants of operations.
use Rattle.std.specs.Prelude.{ℕ, ◌^◌, Bool, true, false, ◌&&◌, Option}
use Rattle.std.specs.Prelude.{Some, None, ℤ, nat_lt, if◌then◌else◌}
use Rattle.br_words.specs.declared.operation.BinOp.{BinOp}
use Rattle.br_words.specs.declared.operation.BinOp.TheVariants as op
use Rattle.br_words.specs.Words.{signed}
use Rattle.br_flatimp.specs.WellFormed.{fits_operation}

-- the constant that an operation may have in the place of a literal on its right
abbrev pub constant : BinOp → Option ℕ → Option ℤ
constant op None = None
constant op (Some n) =
    if nat_lt n (2 ^ 32) && fits_operation op (signed n) then Some (signed n) else None

-- Whether an operation may have its operands exchanged. Those
-- that may have no constant are left out.
abbrev pub commutes : BinOp → Bool
commutes op.Add = true
commutes op.And = true
commutes op.Or = true
commutes op.Xor = true
commutes op.Eq = true
commutes op.Sub = false
commutes op.Mul = false
commutes op.Mulhuu = false
commutes op.Divu = false
commutes op.Remu = false
commutes op.Sru = false
commutes op.Slu = false
commutes op.Srs = false
commutes op.Lts = false
commutes op.Ltu = false

-- the constant that an operation may have in the place of a literal on its left
abbrev pub left_constant : BinOp → Option ℕ → Option ℤ
left_constant op literal = if commutes op then constant op literal else None

-- the byte offset that an operation with this literal adds to the word of its other operand
abbrev pub byte_offset : BinOp → Option ℕ → Option ℤ
byte_offset op.Add literal = constant op.Add literal
byte_offset op.Sub literal = None
byte_offset op.Mul literal = None
byte_offset op.Mulhuu literal = None
byte_offset op.Divu literal = None
byte_offset op.Remu literal = None
byte_offset op.And literal = None
byte_offset op.Or literal = None
byte_offset op.Xor literal = None
byte_offset op.Sru literal = None
byte_offset op.Slu literal = None
byte_offset op.Srs literal = None
byte_offset op.Lts literal = None
byte_offset op.Ltu literal = None
byte_offset op.Eq literal = None
