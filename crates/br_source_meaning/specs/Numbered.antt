-- What stands for commands of the source where numbers stand in place of names.
use Rattle.std.specs.Prelude.{◌≡◌, ℕ, List, map}
use Rattle.br_syntax.specs.declared.program.Expr.{Expr}
use Rattle.br_syntax.specs.declared.program.Expr.TheVariants as expression
use Rattle.br_syntax.specs.declared.program.Cmd.{Cmd}
use Rattle.br_syntax.specs.declared.program.Cmd.TheVariants as command
use Rattle.br_syntax.specs.declared.program.Func.{Func}
use Rattle.br_source_meaning.specs.Values.{Name}
use Rattle.br_source_meaning.specs.Names.{name_at, names_at, Numbers}
use Rattle.br_source_meaning.specs.declared.numbered.Target.{Target}
use Rattle.br_source_meaning.specs.declared.numbered.Target.TheVariants.{Number, Missing}
use Rattle.br_source_meaning.specs.declared.numbered.NumberedExpr.{NumberedExpr}
use Rattle.br_source_meaning.specs.declared.numbered.NumberedExpr.TheOpen.{NumberedExpr-F}
use Rattle.br_source_meaning.specs.declared.numbered.NumberedExpr.TheFolds.{fold-NumberedExpr}
use Rattle.br_source_meaning.specs.declared.numbered.NumberedCmd.{NumberedCmd}
use Rattle.br_source_meaning.specs.declared.numbered.NumberedCmd.TheOpen.{NumberedCmd-F}
use Rattle.br_source_meaning.specs.declared.numbered.NumberedCmd.TheFolds.{fold-NumberedCmd}
use Rattle.br_source_meaning.specs.declared.numbered.NumberedFunc.{NumberedFunc}

-- the name of a callee
abbrev pub target_name : List Name → Target → Name
target_name names (Number k) = name_at names k
target_name names (Missing x) = x.now

-- an expression, given those in it, where a function's variables have these names
abbrev pub named_expr_step : List Name → NumberedExpr-F Expr → Expr
named_expr_step own (NumberedExpr-F.Literal n) = expression.Literal n
named_expr_step own (NumberedExpr-F.Var k) = expression.Var (name_at own k)
named_expr_step own (NumberedExpr-F.Load size a) = expression.Load size a
named_expr_step own (NumberedExpr-F.Table size bytes i) = expression.Table size bytes.now i
named_expr_step own (NumberedExpr-F.Op o a b) = expression.Op o a b
named_expr_step own (NumberedExpr-F.Ite test a b) = expression.Ite test a b

-- the expression of the source
abbrev pub named_expr : List Name → NumberedExpr → Expr
named_expr own = fold-NumberedExpr Expr (named_expr_step own)

abbrev pub named_exprs : List Name → List NumberedExpr → List Expr
named_exprs own = map (named_expr own)

-- a command, given those in it, where functions have these names and the variables of its own
-- function those
abbrev pub named_step : List Name → List Name → NumberedCmd-F Cmd → Cmd
named_step names own NumberedCmd-F.Skip = command.Skip
named_step names own (NumberedCmd-F.Set k e) = command.Set (name_at own k) (named_expr own e)
named_step names own (NumberedCmd-F.Unset k) = command.Unset (name_at own k)
named_step names own (NumberedCmd-F.Store size a e) =
    command.Store size (named_expr own a) (named_expr own e)
named_step names own (NumberedCmd-F.Stackalloc k n body) = command.Stackalloc (name_at own k) n body
named_step names own (NumberedCmd-F.If e first second) = command.If (named_expr own e) first second
named_step names own (NumberedCmd-F.While e body) = command.While (named_expr own e) body
named_step names own (NumberedCmd-F.Seq body) = command.Seq body
named_step names own (NumberedCmd-F.Call at ks callee es) =
    command.Call at (names_at own ks) (target_name names callee) (named_exprs own es)
named_step names own (NumberedCmd-F.Interact at ks action es) =
    command.Interact at (names_at own ks) action.now (named_exprs own es)

-- the command of the source
abbrev pub named_command : List Name → List Name → NumberedCmd → Cmd
named_command names own = fold-NumberedCmd Cmd (named_step names own)

abbrev pub named_commands : List Name → List Name → List NumberedCmd → List Cmd
named_commands names own = map (named_command names own)

-- the names of the results of a function are those of the source
abbrev pub HasSourceResults : NumberedFunc → Type 0
HasSourceResults f = names_at f.names f.results ≡ f.func.now.results

-- the function of the source
abbrev pub named_function : List Name → NumberedFunc → Func
named_function names f = record {
  at = f.func.now.at;
  name = f.func.now.name;
  args = names_at f.names f.args;
  results = names_at f.names f.results;
  body = named_commands names f.names f.body;
}

-- ---- what got numbers, where the variables of the function had the old names and then have the
-- new ones

abbrev pub NumbersVariables : List Name → List Name → List ℕ → List Name → Type 0
NumbersVariables old new ks xs = Numbers old new (λ own. names_at own ks) xs

abbrev pub NumbersExpr : List Name → List Name → NumberedExpr → Expr → Type 0
NumbersExpr old new n e = Numbers old new (λ own. named_expr own n) e

abbrev pub NumbersExprs : List Name → List Name → List NumberedExpr → List Expr → Type 0
NumbersExprs old new ns es = Numbers old new (λ own. named_exprs own ns) es

-- where functions have these names
abbrev pub NumbersCommand : List Name → List Name → List Name → NumberedCmd → Cmd → Type 0
NumbersCommand names old new n c = Numbers old new (λ own. named_command names own n) c

abbrev pub NumbersCommands : List Name → List Name → List Name → List NumberedCmd → List Cmd
    → Type 0
NumbersCommands names old new ns cs = Numbers old new (λ own. named_commands names own ns) cs
