-- Programs with constants in place of names that literals set.
use Rattle.std.specs.Prelude.{ℕ, ◌^◌, Bool, true, List, [], ◌∷◌, map}
use Rattle.std.specs.Prelude.{Option, Some, None, nat_lt, if◌then◌else◌}
use Rattle.std.specs.List.{list_all}
use Rattle.br_words.specs.Words.{signed}
use Rattle.br_words.specs.declared.operation.BinOp.{BinOp}
use Rattle.br_flatimp.specs.declared.program.Operand.{Operand}
use Rattle.br_flatimp.specs.declared.program.Operand.TheVariants as operand
use Rattle.br_flatimp.specs.declared.program.Stmt.{Stmt}
use Rattle.br_flatimp.specs.declared.program.Stmt.TheOpen.{Stmt-F}
use Rattle.br_flatimp.specs.declared.program.Stmt.TheViews.{roll-Stmt}
use Rattle.br_flatimp.specs.declared.program.Stmt.TheFolds.{fold-Stmt}
use Rattle.br_flatimp.specs.declared.program.FlatFunc.{FlatFunc}
use Rattle.br_flatimp.specs.Parts.{written, throughout}
use Rattle.br_flatimp.specs.Liveness.{is_in}
use Rattle.br_flatimp.specs.Missed.{is_straight, literal, fits_literal}

-- the words that literals gave names, where they still have them at a place in a list
abbrev pub Literals : Type 0
Literals = ℕ → Option ℕ

abbrev pub no_literals : Literals
no_literals x = None

-- a name has a word of a literal, or none
abbrev pub with_literal : ℕ → Option ℕ → Literals → Literals
with_literal x o known y = if is_in (x ∷ []) y then o else known y

-- after a statement: it may change what it writes, and what is not straight may change all names
abbrev pub literals_after : {X : Type 0} → Stmt-F X → Literals → Literals
literals_after y known x =
    if is_straight y then (if is_in (written y) x then literal y else known x) else None

-- ---- operands

-- a name, or in its place the word of a literal, where as a signed number it fits the operation
abbrev pub operand_of : BinOp → ℕ → Option ℕ → Operand
operand_of op y None = operand.Name y
operand_of op y (Some n) =
    if fits_literal op (Some n) then operand.Const (signed n) else operand.Name y

abbrev pub with_constant : BinOp → Literals → Operand → Operand
with_constant op known (operand.Name y) = operand_of op y (known y)
with_constant op known (operand.Const c) = operand.Const c

-- a statement, its parts aside
abbrev pub with_operand : {X : Type 0} → Literals → Stmt-F X → Stmt-F X
with_operand known (Stmt-F.Op x op y z) = Stmt-F.Op x op y (with_constant op known z)
with_operand known (Stmt-F.Lit x n) = Stmt-F.Lit x n
with_operand known (Stmt-F.Copy x y) = Stmt-F.Copy x y
with_operand known (Stmt-F.Load x size y offset) = Stmt-F.Load x size y offset
with_operand known (Stmt-F.Store size y z offset) = Stmt-F.Store size y z offset
with_operand known (Stmt-F.Table x size bytes y) = Stmt-F.Table x size bytes y
with_operand known (Stmt-F.Stackalloc x n body) = Stmt-F.Stackalloc x n body
with_operand known (Stmt-F.If test first second) = Stmt-F.If test first second
with_operand known (Stmt-F.Loop first test last) = Stmt-F.Loop first test last
with_operand known (Stmt-F.Call xs g ys) = Stmt-F.Call xs g ys
with_operand known (Stmt-F.Read x y) = Stmt-F.Read x y
with_operand known (Stmt-F.Write y z) = Stmt-F.Write y z

-- ---- statements

-- a statement with other lists in place of its parts
abbrev pub with_parts : {X Y : Type 0} → (List X → List Y) → Stmt-F X → Stmt-F Y
with_parts f (Stmt-F.Stackalloc x n body) = Stmt-F.Stackalloc x n (f body)
with_parts f (Stmt-F.If test first second) = Stmt-F.If test (f first) (f second)
with_parts f (Stmt-F.Loop first test last) = Stmt-F.Loop (f first) test (f last)
with_parts f (Stmt-F.Lit x n) = Stmt-F.Lit x n
with_parts f (Stmt-F.Copy x y) = Stmt-F.Copy x y
with_parts f (Stmt-F.Op x op y z) = Stmt-F.Op x op y z
with_parts f (Stmt-F.Load x size y offset) = Stmt-F.Load x size y offset
with_parts f (Stmt-F.Store size y z offset) = Stmt-F.Store size y z offset
with_parts f (Stmt-F.Table x size bytes y) = Stmt-F.Table x size bytes y
with_parts f (Stmt-F.Call xs g ys) = Stmt-F.Call xs g ys
with_parts f (Stmt-F.Read x y) = Stmt-F.Read x y
with_parts f (Stmt-F.Write y z) = Stmt-F.Write y z

-- what stands for a statement in a list, given the words of literals before it, and those after it
pub record Turn : Type 0 where
  pub made : Literals → Stmt
  pub after : Literals → Literals

-- statements in turn
abbrev pub made_all : Literals → List Turn → List Stmt
made_all known [] = []
made_all known (c ∷ cs) = c.made known ∷ made_all (c.after known) cs

-- In the parts of a statement nothing is known at first.
abbrev pub turn_step : Stmt-F Turn → Turn
turn_step y = record {
  made = λ known. roll-Stmt (with_operand known (with_parts (made_all no_literals) y));
  after = literals_after y;
}

abbrev pub turn : Stmt → Turn
turn = fold-Stmt Turn turn_step

abbrev pub with_constants : Literals → List Stmt → List Stmt
with_constants known body = made_all known (map turn body)

-- ---- functions and programs

abbrev pub function_with_constants : FlatFunc → FlatFunc
function_with_constants f = record {
  name = f.name;
  args = f.args;
  results = f.results;
  names = f.names;
  body = with_constants no_literals f.body;
}

abbrev pub program_with_constants : List FlatFunc → List FlatFunc
program_with_constants = map function_with_constants

-- ---- literals that are words

abbrev pub is_word : Option ℕ → Bool
is_word (Some n) = nat_lt n (2 ^ 32)
is_word None = true

-- a literal is a word, as the type of statements says
abbrev pub literal_fits : {X : Type 0} → Stmt-F X → Bool
literal_fits y = is_word (literal y)

abbrev pub function_literals_fit : FlatFunc → Bool
function_literals_fit f = list_all (throughout literal_fits) f.body
