-- The variables of expressions and commands of more than one part.
use Rattle.std.proofs.Common.{◌≡◌, ℕ, List, ◌++◌, sym, ap, ◌∙◌}
use Rattle.br_words.specs.declared.size.Size.{Size}
use Rattle.br_words.specs.declared.operation.BinOp.{BinOp}
use Rattle.br_syntax.specs.declared.program.Expr.{Expr}
use Rattle.br_syntax.specs.declared.program.Expr.TheOpen.{Expr-F}
use Rattle.br_syntax.specs.declared.program.Expr.TheFolds.{fold-roll-Expr}
use Rattle.br_syntax.specs.declared.program.Expr.TheVariants as expr
use Rattle.br_syntax.specs.declared.program.Cmd.{Cmd}
use Rattle.br_syntax.specs.declared.program.Cmd.TheOpen.{Cmd-F}
use Rattle.br_syntax.specs.declared.program.Cmd.TheFolds.{fold-roll-Cmd}
use Rattle.br_syntax.specs.declared.program.Cmd.TheVariants as cmd
use Rattle.br_source_meaning.specs.Values.{Name}
use Rattle.br_flatten.specs.Places.{variables_step, expression_variables, expressions_variables}
use Rattle.br_flatten.specs.Places.{command_variables_step, command_variables, commands_variables, with_names}
use Rattle.br_flatten.proofs.AddedNames.{with_names-append}

pub variables-op : (op : BinOp) (a b : Expr)
    → expression_variables (expr.Op op a b) ≡ expression_variables a ++ expression_variables b
variables-op op a b =
    ap expression_variables (sym (expr.rolls-Op op a b)) ∙ fold-roll-Expr (List Name) variables_step (Expr-F.Op op a b)

pub variables-ite : (c a b : Expr) → expression_variables (expr.Ite c a b)
    ≡ expression_variables c ++ (expression_variables a ++ expression_variables b)
variables-ite c a b =
    ap expression_variables (sym (expr.rolls-Ite c a b)) ∙ fold-roll-Expr (List Name) variables_step (Expr-F.Ite c a b)

pub variables-store : (size : Size) (a e : Expr)
    → command_variables (cmd.Store size a e) ≡ expression_variables a ++ expression_variables e
variables-store size a e = ap command_variables (sym (cmd.rolls-Store size a e))
    ∙ fold-roll-Cmd (List Name) command_variables_step (Cmd-F.Store size a e)

pub variables-if : (e : Expr) (first second : List Cmd) → command_variables (cmd.If e first second)
    ≡ expression_variables e ++ (commands_variables first ++ commands_variables second)
variables-if e first second = ap command_variables (sym (cmd.rolls-If e first second))
    ∙ fold-roll-Cmd (List Name) command_variables_step (Cmd-F.If e first second)

pub variables-while : (e : Expr) (body : List Cmd)
    → command_variables (cmd.While e body) ≡ expression_variables e ++ commands_variables body
variables-while e body = ap command_variables (sym (cmd.rolls-While e body))
    ∙ fold-roll-Cmd (List Name) command_variables_step (Cmd-F.While e body)

pub variables-call : (at : ℕ) (xs : List Name) (callee : Name) (es : List Expr)
    → command_variables (cmd.Call at xs callee es) ≡ xs ++ expressions_variables es
variables-call at xs callee es = ap command_variables (sym (cmd.rolls-Call at xs callee es))
    ∙ fold-roll-Cmd (List Name) command_variables_step (Cmd-F.Call at xs callee es)

pub variables-interact : (at : ℕ) (xs : List Name) (action : Name) (es : List Expr)
    → command_variables (cmd.Interact at xs action es) ≡ xs ++ expressions_variables es
variables-interact at xs action es = ap command_variables (sym (cmd.rolls-Interact at xs action es))
    ∙ fold-roll-Cmd (List Name) command_variables_step (Cmd-F.Interact at xs action es)

-- a fact about names that come to others in turn
pub in_two : (old middle new : List Name) (xs ys whole : List Name) → whole ≡ xs ++ ys → middle ≡ with_names old xs
    → new ≡ with_names middle ys → new ≡ with_names old whole
in_two old middle new xs ys whole is one two =
    two ∙ ap (λ ns. with_names ns ys) one ∙ sym (with_names-append old xs ys) ∙ ap (with_names old) (sym is)

pub ruleset variables = (
  with_names-append,
  variables-op,
  variables-ite,
  variables-store,
  variables-if,
  variables-while,
  variables-call,
  variables-interact,
)
