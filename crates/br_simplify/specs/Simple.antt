-- Expressions, commands and functions in simpler forms that mean the same.
use Rattle.std.specs.Prelude.{ℕ, ◌-◌, ◌^◌, Bool, true, false, ◌&&◌, List, map, Option}
use Rattle.std.specs.Prelude.{Some, None, unwrap_or, nat_lt, ◌==◌, if◌then◌else◌}
use Rattle.std.specs.Int.{w32, trailing_zeros}
use Rattle.std.specs.Option.{option_and_then}
use Rattle.br_words.specs.declared.operation.BinOp.{BinOp}
use Rattle.br_words.specs.declared.operation.BinOp.TheVariants as op
use Rattle.br_words.specs.Words.{value_of_op}
use Rattle.br_syntax.specs.declared.program.Expr.{Expr, out-Expr}
use Rattle.br_syntax.specs.declared.program.Expr.TheOpen.{Expr-F}
use Rattle.br_syntax.specs.declared.program.Expr.TheViews.{roll-Expr}
use Rattle.br_syntax.specs.declared.program.Expr.TheFolds.{fold-Expr}
use Rattle.br_syntax.specs.declared.program.Cmd.{Cmd}
use Rattle.br_syntax.specs.declared.program.Cmd.TheOpen.{Cmd-F}
use Rattle.br_syntax.specs.declared.program.Cmd.TheViews.{roll-Cmd}
use Rattle.br_syntax.specs.declared.program.Cmd.TheFolds.{fold-Cmd}
use Rattle.br_syntax.specs.declared.program.Func.{Func}
use Rattle.br_simplify.specs.declared.operations.Form.{Form}
use Rattle.br_simplify.specs.declared.conditions.Test.{Test}

-- ---- operations

-- whether an operation may have its operands exchanged
abbrev pub commutes : BinOp → Bool
commutes op.Add = true
commutes op.Mul = true
commutes op.Mulhuu = true
commutes op.And = true
commutes op.Or = true
commutes op.Xor = true
commutes op.Eq = true
commutes op.Sub = false
commutes op.Divu = false
commutes op.Remu = false
commutes op.Sru = false
commutes op.Slu = false
commutes op.Srs = false
commutes op.Lts = false
commutes op.Ltu = false

-- the exponent of a power of two that is a word
abbrev pub exponent : ℕ → Option ℕ
exponent n =
    if nat_lt (trailing_zeros w32 n) 32 && (2 ^ trailing_zeros w32 n == n)
    then Some (trailing_zeros w32 n) else None

-- A product and a quotient by a power of two are shifts by its
-- exponent, and a remainder is an `and`.
abbrev pub by_power : BinOp → ℕ → ℕ → Form
by_power op.Mul n k = record { op = op.Slu; literal = k }
by_power op.Divu n k = record { op = op.Sru; literal = k }
by_power op.Remu n k = record { op = op.And; literal = n - 1 }
by_power op.Add n k = record { op = op.Add; literal = n }
by_power op.Sub n k = record { op = op.Sub; literal = n }
by_power op.Mulhuu n k = record { op = op.Mulhuu; literal = n }
by_power op.And n k = record { op = op.And; literal = n }
by_power op.Or n k = record { op = op.Or; literal = n }
by_power op.Xor n k = record { op = op.Xor; literal = n }
by_power op.Sru n k = record { op = op.Sru; literal = n }
by_power op.Slu n k = record { op = op.Slu; literal = n }
by_power op.Srs n k = record { op = op.Srs; literal = n }
by_power op.Lts n k = record { op = op.Lts; literal = n }
by_power op.Ltu n k = record { op = op.Ltu; literal = n }
by_power op.Eq n k = record { op = op.Eq; literal = n }

abbrev pub by_exponent : BinOp → ℕ → Option ℕ → Form
by_exponent o n (Some k) = by_power o n k
by_exponent o n None = record { op = o; literal = n }

-- the operation and the literal that do what an operation does with a literal on its right
abbrev pub simple_form : BinOp → ℕ → Form
simple_form o n = by_exponent o n (exponent n)

-- ---- expressions

-- the literal that an expression is
abbrev pub literal_step : Expr-F Expr → Option ℕ
literal_step (Expr-F.Literal n) = Some n
literal_step (Expr-F.Var x) = None
literal_step (Expr-F.Load size a) = None
literal_step (Expr-F.Table size bytes i) = None
literal_step (Expr-F.Op o a b) = None
literal_step (Expr-F.Ite test a b) = None

abbrev pub literal : Expr → Option ℕ
literal e = literal_step (out-Expr e)

-- an operation on an expression and a literal
abbrev pub with_literal : Form → Expr → Expr
with_literal f a = roll-Expr (Expr-F.Op f.op a (roll-Expr (Expr-F.Literal f.literal)))

-- An operation: on two literals it is computed, and a literal goes to its right where it may.
abbrev pub by_literals : BinOp → Expr → Expr → Option ℕ → Option ℕ → Expr
by_literals o a b (Some m) (Some n) = roll-Expr (Expr-F.Literal (value_of_op o m n))
by_literals o a b None (Some n) = with_literal (simple_form o n) a
by_literals o a b (Some m) None =
    if commutes o then with_literal (simple_form o m) b else roll-Expr (Expr-F.Op o a b)
by_literals o a b None None = roll-Expr (Expr-F.Op o a b)

abbrev pub simple_operation : BinOp → Expr → Expr → Expr
simple_operation o a b = by_literals o a b (literal a) (literal b)

-- ---- tests

-- whether an operation with this literal on its right asks whether the word on its left is 0
abbrev pub asks_zero : BinOp → Option ℕ → Bool
asks_zero op.Eq None = false
asks_zero op.Eq (Some n) = n == 0
asks_zero op.Lts right = false
asks_zero op.Ltu right = false
asks_zero op.Add right = false
asks_zero op.Sub right = false
asks_zero op.Mul right = false
asks_zero op.Mulhuu right = false
asks_zero op.Divu right = false
asks_zero op.Remu right = false
asks_zero op.And right = false
asks_zero op.Or right = false
asks_zero op.Xor right = false
asks_zero op.Sru right = false
asks_zero op.Slu right = false
asks_zero op.Srs right = false

-- the expression of which another asks whether its word is 0
abbrev pub asked_step : Expr-F Expr → Option Expr
asked_step (Expr-F.Op o a b) = if asks_zero o (literal b) then Some a else None
asked_step (Expr-F.Literal n) = None
asked_step (Expr-F.Var x) = None
asked_step (Expr-F.Load size a) = None
asked_step (Expr-F.Table size bytes i) = None
asked_step (Expr-F.Ite test a b) = None

abbrev pub asked : Expr → Option Expr
asked e = asked_step (out-Expr e)

-- whether an operation compares its words
abbrev pub is_comparison : BinOp → Bool
is_comparison op.Lts = true
is_comparison op.Ltu = true
is_comparison op.Eq = true
is_comparison op.Add = false
is_comparison op.Sub = false
is_comparison op.Mul = false
is_comparison op.Mulhuu = false
is_comparison op.Divu = false
is_comparison op.Remu = false
is_comparison op.And = false
is_comparison op.Or = false
is_comparison op.Xor = false
is_comparison op.Sru = false
is_comparison op.Slu = false
is_comparison op.Srs = false

-- whether an expression compares two words
abbrev pub compares_step : Expr-F Expr → Bool
compares_step (Expr-F.Op o a b) = is_comparison o
compares_step (Expr-F.Literal n) = false
compares_step (Expr-F.Var x) = false
compares_step (Expr-F.Load size a) = false
compares_step (Expr-F.Table size bytes i) = false
compares_step (Expr-F.Ite test a b) = false

abbrev pub compares : Expr → Bool
compares e = compares_step (out-Expr e)

-- A test of whether the word is 0 of a test of whether another word is 0 is a test of that word.
abbrev pub simple_test : Expr → Expr
simple_test e = unwrap_or (option_and_then asked (asked e)) e

-- A test with a part for each answer. One of whether a word is 0 is a test of that word, and then
-- the parts are exchanged; one of a comparison stays, since the opposite comparison may be tested.
abbrev pub test_of : Expr → Option Expr → Test
test_of e None = record { word = e; exchanged = false }
test_of e (Some a) =
    if compares a then record { word = e; exchanged = false }
    else record { word = a; exchanged = true }

abbrev pub part_test : Expr → Test
part_test e = test_of (simple_test e) (asked (simple_test e))

-- a conditional expression, which is one of its parts where the test is a literal
abbrev pub choice_by : Expr → Expr → Option ℕ → Test → Expr
choice_by a b (Some n) t = if n == 0 then b else a
choice_by a b None t =
    if t.exchanged then roll-Expr (Expr-F.Ite t.word b a) else roll-Expr (Expr-F.Ite t.word a b)

abbrev pub simple_choice : Expr → Expr → Expr → Expr
simple_choice test a b = choice_by a b (literal test) (part_test test)

-- an expression, given its parts in their simplest form
abbrev pub expression_step : Expr-F Expr → Expr
expression_step (Expr-F.Literal n) = roll-Expr (Expr-F.Literal n)
expression_step (Expr-F.Var x) = roll-Expr (Expr-F.Var x)
expression_step (Expr-F.Load size a) = roll-Expr (Expr-F.Load size a)
expression_step (Expr-F.Table size bytes i) = roll-Expr (Expr-F.Table size bytes i)
expression_step (Expr-F.Op o a b) = simple_operation o a b
expression_step (Expr-F.Ite test a b) = simple_choice test a b

abbrev pub simple_expression : Expr → Expr
simple_expression = fold-Expr Expr expression_step

-- ---- commands

-- an `if`, which is one of its parts where the test is a literal
abbrev pub if_by : List Cmd → List Cmd → Option ℕ → Test → Cmd
if_by first second (Some n) t = roll-Cmd (Cmd-F.Seq (if n == 0 then second else first))
if_by first second None t =
    if t.exchanged then roll-Cmd (Cmd-F.If t.word second first) else roll-Cmd (Cmd-F.If t.word first second)

abbrev pub simple_if : Expr → List Cmd → List Cmd → Cmd
simple_if e first second = if_by first second (literal e) (part_test e)

-- whether a literal is 0
abbrev pub is_zero : Option ℕ → Bool
is_zero (Some n) = n == 0
is_zero None = false

-- a loop, which is nothing where the test is 0
abbrev pub simple_while : Expr → List Cmd → Cmd
simple_while e body =
    if is_zero (literal e) then roll-Cmd Cmd-F.Skip else roll-Cmd (Cmd-F.While (simple_test e) body)

-- a command, given the commands in it in their simplest form
abbrev pub command_step : Cmd-F Cmd → Cmd
command_step Cmd-F.Skip = roll-Cmd Cmd-F.Skip
command_step (Cmd-F.Set x e) = roll-Cmd (Cmd-F.Set x (simple_expression e))
command_step (Cmd-F.Unset x) = roll-Cmd (Cmd-F.Unset x)
command_step (Cmd-F.Store size a e) =
    roll-Cmd (Cmd-F.Store size (simple_expression a) (simple_expression e))
command_step (Cmd-F.Stackalloc x n body) = roll-Cmd (Cmd-F.Stackalloc x n body)
command_step (Cmd-F.If e first second) = simple_if (simple_expression e) first second
command_step (Cmd-F.While e body) = simple_while (simple_expression e) body
command_step (Cmd-F.Seq body) = roll-Cmd (Cmd-F.Seq body)
command_step (Cmd-F.Call at xs callee es) =
    roll-Cmd (Cmd-F.Call at xs callee (map simple_expression es))
command_step (Cmd-F.Interact at xs action es) =
    roll-Cmd (Cmd-F.Interact at xs action (map simple_expression es))

abbrev pub simple_command : Cmd → Cmd
simple_command = fold-Cmd Cmd command_step

-- ---- functions and programs

abbrev pub simple_function : Func → Func
simple_function f = record {
  at = f.at;
  name = f.name;
  args = f.args;
  results = f.results;
  body = map simple_command f.body;
}

abbrev pub simple_program : List Func → List Func
simple_program = map simple_function
