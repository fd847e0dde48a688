-- The words of names, of operands and of tests.
use Rattle.std.specs.Prelude.{ℕ, Bool, not, List, [], ◌∷◌, Option, Some}
use Rattle.std.specs.Prelude.{None, ℤ, int_lt, nat_lt, ◌==◌, if◌then◌else◌}
use Rattle.br_words.specs.Words.{signed, wrapped, flag, value_of_op}
use Rattle.br_words.specs.declared.operation.BinOp.TheVariants as op
use Rattle.br_bytes.specs.Memory.{in_front}
use Rattle.br_flatimp.specs.declared.program.Operand.{Operand}
use Rattle.br_flatimp.specs.declared.program.Operand.TheVariants as operand
use Rattle.br_flatimp.specs.declared.program.Rel.{Rel}
use Rattle.br_flatimp.specs.declared.program.Rel.TheVariants.{Eq, Ne, Lts, Ges, Ltu, Geu}
use Rattle.br_flatimp.specs.declared.program.Cond.{Cond}
use Rattle.br_flatimp.specs.declared.program.Cond.TheVariants.{NonZero, Compare}

-- the words of names, where they are set
abbrev pub Locals : Type 0
Locals = ℕ → Option ℕ

-- a set of names
abbrev pub Names : Type 0
Names = ℕ → Bool

-- no name is set
abbrev pub no_locals : Locals
no_locals x = None

abbrev pub with_local : ℕ → ℕ → Locals → Locals
with_local x v locals y = if y == x then Some v else locals y

-- the names of a set are not set
abbrev pub without_names : Names → Locals → Locals
without_names set locals y = if set y then None else locals y

-- Names set to words in turn, and not set where no word is left. A well formed
-- program has as many words here as names.
abbrev pub with_locals : List ℕ → List ℕ → Locals → Locals
with_locals [] vs locals = locals
with_locals (x ∷ xs) (v ∷ vs) locals = with_locals xs vs (with_local x v locals)
with_locals (x ∷ xs) [] locals = with_locals xs [] (without_names (λ y. y == x) locals)

-- the words of names in turn, or None where one is not set
abbrev pub words_of : List ℕ → Locals → Option (List ℕ)
words_of [] locals = Some []
words_of (x ∷ xs) locals = in_front (locals x) (words_of xs locals)

-- a constant counts modulo 2 ^ 32
abbrev pub operand_word : Operand → Locals → Option ℕ
operand_word (operand.Name y) locals = locals y
operand_word (operand.Const c) locals = Some (wrapped c)

-- an address and a byte offset, which counts modulo 2 ^ 32
abbrev pub moved : ℕ → ℤ → ℕ
moved a offset = value_of_op op.Add a (wrapped offset)

-- whether two words compare so
abbrev pub compares : Rel → ℕ → ℕ → Bool
compares Eq a b = a == b
compares Ne a b = not (a == b)
compares Lts a b = int_lt (signed a) (signed b)
compares Ges a b = not (int_lt (signed a) (signed b))
compares Ltu a b = nat_lt a b
compares Geu a b = not (nat_lt a b)

abbrev pub compared : Rel → Option ℕ → Option ℕ → Option ℕ
compared rel (Some a) (Some b) = Some (flag (compares rel a b))
compared rel (Some a) None = None
compared rel None b = None

-- a word that is not 0 where the test holds, or None where a name that it reads is not set
abbrev pub test_word : Cond → Locals → Option ℕ
test_word (NonZero y) locals = locals y
test_word (Compare rel y z) locals = compared rel (locals y) (locals z)
