-- How large a program is: a sum over its parts. Names, sizes and the bytes of a table are no parts.
use Rattle.std.specs.Prelude.{ℕ, ◌+◌, ◌/◌, List, map, sum, length}
use Rattle.br_syntax.specs.declared.program.Expr.{Expr}
use Rattle.br_syntax.specs.declared.program.Expr.TheOpen.{Expr-F}
use Rattle.br_syntax.specs.declared.program.Expr.TheFolds.{fold-Expr}
use Rattle.br_syntax.specs.declared.program.Cmd.{Cmd}
use Rattle.br_syntax.specs.declared.program.Cmd.TheOpen.{Cmd-F}
use Rattle.br_syntax.specs.declared.program.Cmd.TheFolds.{fold-Cmd}
use Rattle.br_syntax.specs.declared.program.Func.{Func}

-- the words that so many bytes take, the last maybe in part
abbrev pub words_for : ℕ → ℕ
words_for bytes = (bytes + 3) / 4

-- an expression, given the bulk of its parts
abbrev pub expression_step : Expr-F ℕ → ℕ
expression_step (Expr-F.Literal n) = 1
expression_step (Expr-F.Var x) = 1
expression_step (Expr-F.Load size a) = 1 + a
expression_step (Expr-F.Table size bytes i) = 1 + words_for (length bytes) + i
expression_step (Expr-F.Op op a b) = 1 + a + b
expression_step (Expr-F.Ite test a b) = 1 + test + a + b

abbrev pub expression_bulk : Expr → ℕ
expression_bulk = fold-Expr ℕ expression_step

abbrev pub expressions_bulk : List Expr → ℕ
expressions_bulk es = sum (map expression_bulk es)

-- a command, given the bulk of the commands in it
abbrev pub command_step : Cmd-F ℕ → ℕ
command_step Cmd-F.Skip = 1
command_step (Cmd-F.Set x e) = 1 + expression_bulk e
command_step (Cmd-F.Unset x) = 1
command_step (Cmd-F.Store size a e) = 1 + expression_bulk a + expression_bulk e
command_step (Cmd-F.Stackalloc x n body) = 1 + sum body
command_step (Cmd-F.If e first second) = 1 + expression_bulk e + sum first + sum second
command_step (Cmd-F.While e body) = 1 + expression_bulk e + sum body
command_step (Cmd-F.Seq body) = 1 + sum body
command_step (Cmd-F.Call at xs callee es) = 1 + length es + length xs + expressions_bulk es
command_step (Cmd-F.Interact at xs action es) = 1 + expressions_bulk es

abbrev pub command_bulk : Cmd → ℕ
command_bulk = fold-Cmd ℕ command_step

abbrev pub commands_bulk : List Cmd → ℕ
commands_bulk cs = sum (map command_bulk cs)

abbrev pub function_bulk : Func → ℕ
function_bulk f = 8 + length f.args + length f.results + commands_bulk f.body

abbrev pub bulk : List Func → ℕ
bulk fs = sum (map function_bulk fs)

-- the largest bulk of a program
abbrev pub largest_bulk : ℕ
largest_bulk = 32768
