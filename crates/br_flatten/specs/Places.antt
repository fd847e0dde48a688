-- The variables of a function in the order of their first place
-- in the text. That order numbers them.
use Rattle.std.specs.Prelude.{List, [], ◌∷◌, ◌++◌, map}
use Rattle.std.specs.List.{flat_map}
use Rattle.br_syntax.specs.declared.program.Expr.{Expr}
use Rattle.br_syntax.specs.declared.program.Expr.TheOpen.{Expr-F}
use Rattle.br_syntax.specs.declared.program.Expr.TheFolds.{fold-Expr}
use Rattle.br_syntax.specs.declared.program.Cmd.{Cmd}
use Rattle.br_syntax.specs.declared.program.Cmd.TheOpen.{Cmd-F}
use Rattle.br_syntax.specs.declared.program.Cmd.TheFolds.{fold-Cmd}
use Rattle.br_syntax.specs.declared.program.Func.{Func}
use Rattle.br_source_meaning.specs.Values.{Name}
pub use Rattle.br_numbering.specs.Names.{with_name, with_names}

-- ---- variables, as often as they stand in the text

abbrev pub all_of : List (List Name) → List Name
all_of = flat_map (λ xs. xs)

abbrev pub variables_step : Expr-F (List Name) → List Name
variables_step (Expr-F.Literal n) = []
variables_step (Expr-F.Var x) = x ∷ []
variables_step (Expr-F.Load size a) = a
variables_step (Expr-F.Table size bytes i) = i
variables_step (Expr-F.Op op a b) = a ++ b
variables_step (Expr-F.Ite test a b) = test ++ (a ++ b)

abbrev pub expression_variables : Expr → List Name
expression_variables = fold-Expr (List Name) variables_step

abbrev pub expressions_variables : List Expr → List Name
expressions_variables es = all_of (map expression_variables es)

abbrev pub command_variables_step : Cmd-F (List Name) → List Name
command_variables_step Cmd-F.Skip = []
command_variables_step (Cmd-F.Set x e) = x ∷ expression_variables e
command_variables_step (Cmd-F.Unset x) = []
command_variables_step (Cmd-F.Store size a e) = expression_variables a ++ expression_variables e
command_variables_step (Cmd-F.Stackalloc x n body) = x ∷ all_of body
command_variables_step (Cmd-F.If e first second) =
    expression_variables e ++ (all_of first ++ all_of second)
command_variables_step (Cmd-F.While e body) = expression_variables e ++ all_of body
command_variables_step (Cmd-F.Seq body) = all_of body
command_variables_step (Cmd-F.Call at xs callee es) = xs ++ expressions_variables es
command_variables_step (Cmd-F.Interact at xs action es) = xs ++ expressions_variables es

abbrev pub command_variables : Cmd → List Name
command_variables = fold-Cmd (List Name) command_variables_step

abbrev pub commands_variables : List Cmd → List Name
commands_variables cs = all_of (map command_variables cs)

abbrev pub function_variables : Func → List Name
function_variables f = f.args ++ (f.results ++ commands_variables f.body)

-- ---- names in the order of their first place

abbrev pub first_places : Func → List Name
first_places f = with_names [] (function_variables f)
