-- The constant in the place of a literal is the same word, and operands may be exchanged where they are.
use Rattle.std.proofs.Common.{◌≡◌, ℕ, ◌-◌, ◌%◌, ◌^◌, ◌<◌, ◌==◌, ◌&&◌, Bool, true, false, if◌then◌else◌}
use Rattle.std.proofs.Common.{Option, Some, None, ℤ, pos, negsuc, nat_lt, refl, sym, ap, ◌∙◌, arith}
use Rattle.std.proofs.lemmas.Bool.Decides.{nat_tests}
use Rattle.std.proofs.lemmas.Nat.{and_comm, or_comm, xor_comm}
use Rattle.br_words.specs.declared.operation.BinOp.{BinOp}
use Rattle.br_words.specs.declared.operation.BinOp.TheVariants as op
use Rattle.br_words.specs.Words.{signed, wrapped, flag, value_of_op}
use Rattle.br_flatimp.specs.Values.{moved}
use Rattle.br_flatimp.specs.WellFormed.{fits_operation, is_immediate}
use Rattle.br_flatten.specs.Constants.{constant, commutes, left_constant, byte_offset}
use Rattle.br_flatten.proofs.Numbers.{and-first, and-second}

-- a constant of an operation in the place of a literal
pub record Stands (op : BinOp) (literal : Option ℕ) (c : ℤ) : Type 0 where
  pub word : ℕ
  pub is : literal ≡ Some word
  pub same : wrapped c ≡ word
  pub fits : fits_operation op c ≡ true

back : (n : ℕ) → nat_lt n (2 ^ 32) ≡ true → wrapped (signed n) ≡ n
back n less = by (nat_lt n (2 ^ 31)) refl
  where
    below : n < 2 ^ 32
    below = grind (arith, nat_tests)

    by : (b : Bool) → nat_lt n (2 ^ 31) ≡ b → wrapped (if b then pos n else negsuc (2 ^ 32 - 1 - n)) ≡ n
    by true e = whole n below
      where
        whole : (n : ℕ) → n < 2 ^ 32 → n % 2 ^ 32 ≡ n
        whole n less = omega (arith, less)
    by false e = turned n below
      where
        turned : (n : ℕ) → n < 2 ^ 32 → 2 ^ 32 - 1 - (2 ^ 32 - 1 - n) % 2 ^ 32 ≡ n
        turned n less = omega (arith, less)

pub stands : (op : BinOp) (literal : Option ℕ) (c : ℤ) → constant op literal ≡ Some c → Stands op literal c
stands op None c e = absurd (cc e)
stands op (Some n) c e = by (nat_lt n (2 ^ 32) && fits_operation op (signed n)) refl e
  where
    by : (b : Bool) → (nat_lt n (2 ^ 32) && fits_operation op (signed n)) ≡ b
        → (if b then Some (signed n) else None) ≡ Some c → Stands op (Some n) c
    by true fits e =
        let same : signed n ≡ c = cc e in
        record {
          word = n;
          is = refl;
          same = ap wrapped (sym same) ∙ back n (and-first (nat_lt n (2 ^ 32)) (fits_operation op (signed n)) fits);
          fits = ap (fits_operation op) (sym same) ∙ and-second (nat_lt n (2 ^ 32)) (fits_operation op (signed n)) fits;
        }
    by false fits e = absurd (cc e)

-- a constant in the place of a literal on the left
pub record Exchanged (o : BinOp) (literal : Option ℕ) (c : ℤ) : Type 0 where
  pub stands : Stands o literal c
  pub exchanges : (a b : ℕ) → value_of_op o a b ≡ value_of_op o b a

commuting : (o : BinOp) → commutes o ≡ true → (a b : ℕ) → value_of_op o a b ≡ value_of_op o b a
commuting op.Add e a b = omega arith
commuting op.And e a b = and_comm a b
commuting op.Or e a b = or_comm a b
commuting op.Xor e a b = xor_comm a b
commuting op.Eq e a b = ap flag (equal a b)
  where
    equal : (a b : ℕ) → (a == b) ≡ (b == a)
    equal a b = grind (arith, nat_tests)
commuting op.Sub e a b = absurd (cc e)
commuting op.Mul e a b = absurd (cc e)
commuting op.Mulhuu e a b = absurd (cc e)
commuting op.Divu e a b = absurd (cc e)
commuting op.Remu e a b = absurd (cc e)
commuting op.Sru e a b = absurd (cc e)
commuting op.Slu e a b = absurd (cc e)
commuting op.Srs e a b = absurd (cc e)
commuting op.Lts e a b = absurd (cc e)
commuting op.Ltu e a b = absurd (cc e)

pub exchanged : (o : BinOp) (literal : Option ℕ) (c : ℤ) → left_constant o literal ≡ Some c → Exchanged o literal c
exchanged o literal c e = by (commutes o) refl e
  where
    by : (b : Bool) → commutes o ≡ b → (if b then constant o literal else None) ≡ Some c → Exchanged o literal c
    by true free e = record { stands = stands o literal c e; exchanges = commuting o free }
    by false kept e = absurd (cc e)

-- a byte offset in the place of a literal
pub record Offset (o : BinOp) (literal : Option ℕ) (c : ℤ) : Type 0 where
  pub word : ℕ
  pub is : literal ≡ Some word
  pub moves : (a : ℕ) → moved a c ≡ value_of_op o a word
  pub exchanges : (a b : ℕ) → value_of_op o a b ≡ value_of_op o b a
  pub fits : is_immediate c ≡ true

pub offset-stands : (o : BinOp) (literal : Option ℕ) (c : ℤ) → byte_offset o literal ≡ Some c → Offset o literal c
offset-stands op.Add literal c e =
    let z = stands op.Add literal c e in
    record {
      word = z.word;
      is = z.is;
      moves = λ a. ap (value_of_op op.Add a) z.same;
      exchanges = commuting op.Add refl;
      fits = z.fits;
    }
offset-stands op.Sub literal c e = absurd (cc e)
offset-stands op.Mul literal c e = absurd (cc e)
offset-stands op.Mulhuu literal c e = absurd (cc e)
offset-stands op.Divu literal c e = absurd (cc e)
offset-stands op.Remu literal c e = absurd (cc e)
offset-stands op.And literal c e = absurd (cc e)
offset-stands op.Or literal c e = absurd (cc e)
offset-stands op.Xor literal c e = absurd (cc e)
offset-stands op.Sru literal c e = absurd (cc e)
offset-stands op.Slu literal c e = absurd (cc e)
offset-stands op.Srs literal c e = absurd (cc e)
offset-stands op.Lts literal c e = absurd (cc e)
offset-stands op.Ltu literal c e = absurd (cc e)
offset-stands op.Eq literal c e = absurd (cc e)
