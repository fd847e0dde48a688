-- The word that an expression stands for, where it stands for one.
use Rattle.std.specs.Prelude.{ℕ, List, [], ◌∷◌, Option, Some, None, ◌==◌, if◌then◌else◌}
use Rattle.std.specs.Str.{bytes_eq}
use Rattle.std.specs.Option.{option_and_then}
use Rattle.br_words.specs.Words.{value_of_op}
use Rattle.br_words.specs.Size.{size_of}
use Rattle.br_bytes.specs.Memory.{Memory, get_number}
use Rattle.br_bytes.specs.Buffers.{table_number}
use Rattle.br_syntax.specs.declared.program.Expr.{Expr}
use Rattle.br_syntax.specs.declared.program.Expr.TheOpen.{Expr-F}
use Rattle.br_syntax.specs.declared.program.Expr.TheFolds.{fold-Expr}

-- a name, as its bytes
abbrev pub Name : Type 0
Name = List ℕ

-- the local variables: a partial map from names to words
abbrev pub Locals : Type 0
Locals = Name → Option ℕ

-- no variable is set
abbrev pub no_locals : Locals
no_locals x = None

abbrev pub with_local : Name → ℕ → Locals → Locals
with_local x v locals y = if bytes_eq y x then Some v else locals y

abbrev pub without_local : Name → Locals → Locals
without_local x locals y = if bytes_eq y x then None else locals y

-- an operation on two words, or None where one is missing
abbrev pub both : (ℕ → ℕ → ℕ) → Option ℕ → Option ℕ → Option ℕ
both f None b = None
both f (Some a) None = None
both f (Some a) (Some b) = Some (f a b)

-- the first of two where a word is not 0, else the second; with no word, none is selected
abbrev pub selected : Option ℕ → Option ℕ → Option ℕ → Option ℕ
selected None a b = None
selected (Some v) a b = if v == 0 then b else a

-- an expression, given what its parts stand for
abbrev pub value_step : Locals → Memory → Expr-F (Option ℕ) → Option ℕ
value_step locals m (Expr-F.Literal n) = Some n
value_step locals m (Expr-F.Var x) = locals x
value_step locals m (Expr-F.Load size a) = option_and_then (λ a. get_number m a (size_of size)) a
value_step locals m (Expr-F.Table size bytes i) =
    option_and_then (λ i. table_number bytes i (size_of size)) i
value_step locals m (Expr-F.Op op a b) = both (value_of_op op) a b
value_step locals m (Expr-F.Ite test a b) = selected test a b

-- the word that an expression stands for, or None where it is undefined
abbrev pub value : Locals → Memory → Expr → Option ℕ
value locals m = fold-Expr (Option ℕ) (value_step locals m)

-- the words of expressions in turn, or None where one is undefined
abbrev pub values : Locals → Memory → List Expr → Option (List ℕ)
values locals m [] = Some []
values locals m (e ∷ es) =
    option_and_then (λ v. option_and_then (λ vs. Some (v ∷ vs)) (values locals m es))
    (value locals m e)
