-- What numbered expressions and commands do, form by form.
use Rattle.std.proofs.Common.{◌≡◌, ℕ, List, map, Option, Bor, sym, ap, ◌∙◌}
use Rattle.br_words.specs.declared.size.Size.{Size}
use Rattle.br_words.specs.declared.operation.BinOp.{BinOp}
use Rattle.br_bytes.specs.Memory.{Memory}
use Rattle.br_syntax.specs.declared.program.Expr.{Expr}
use Rattle.br_syntax.specs.declared.program.Expr.TheOpen.{Expr-F}
use Rattle.br_syntax.specs.declared.program.Expr.TheVariants as expression
use Rattle.br_syntax.specs.declared.program.Expr.TheFolds.{fold-roll-Expr}
use Rattle.br_syntax.specs.declared.program.Cmd.{Cmd}
use Rattle.br_syntax.specs.declared.program.Cmd.TheOpen.{Cmd-F}
use Rattle.br_syntax.specs.declared.program.Cmd.TheVariants as source
use Rattle.br_syntax.specs.declared.program.Cmd.TheFolds.{fold-roll-Cmd}
use Rattle.br_source_meaning.specs.Values.{Name, Locals, value_step, value}
use Rattle.br_source_meaning.specs.Runs.{State, Run, Callee, command_step, run}
use Rattle.br_source_meaning.specs.Names.{name_at, names_at}
use Rattle.br_source_meaning.specs.Numbered.{target_name, named_expr_step, named_expr, named_exprs, named_step}
use Rattle.br_source_meaning.specs.Numbered.{named_command, named_commands}
use Rattle.br_source_meaning.specs.declared.numbered.Target.{Target}
use Rattle.br_source_meaning.specs.declared.numbered.NumberedExpr.{NumberedExpr}
use Rattle.br_source_meaning.specs.declared.numbered.NumberedExpr.TheOpen.{NumberedExpr-F}
use Rattle.br_source_meaning.specs.declared.numbered.NumberedExpr.TheVariants as expr
use Rattle.br_source_meaning.specs.declared.numbered.NumberedExpr.TheFolds.{fold-roll-NumberedExpr}
use Rattle.br_source_meaning.specs.declared.numbered.NumberedCmd.{NumberedCmd}
use Rattle.br_source_meaning.specs.declared.numbered.NumberedCmd.TheOpen.{NumberedCmd-F}
use Rattle.br_source_meaning.specs.declared.numbered.NumberedCmd.TheVariants as numbered
use Rattle.br_source_meaning.specs.declared.numbered.NumberedCmd.TheFolds.{fold-roll-NumberedCmd}

-- ---- the forms of the source

module _ (own : List Name) where
  pub named-Literal : (n : ℕ) → named_expr own (expr.Literal n) ≡ expression.Literal n
  named-Literal n = ap (named_expr own) (sym (expr.rolls-Literal n))
      ∙ fold-roll-NumberedExpr Expr (named_expr_step own) (NumberedExpr-F.Literal n)

  pub named-Var : (k : ℕ) → named_expr own (expr.Var k) ≡ expression.Var (name_at own k)
  named-Var k = ap (named_expr own) (sym (expr.rolls-Var k))
      ∙ fold-roll-NumberedExpr Expr (named_expr_step own) (NumberedExpr-F.Var k)

  pub named-Load : (size : Size) (a : NumberedExpr) → named_expr own (expr.Load size a)
      ≡ expression.Load size (named_expr own a)
  named-Load size a = ap (named_expr own) (sym (expr.rolls-Load size a))
      ∙ fold-roll-NumberedExpr Expr (named_expr_step own) (NumberedExpr-F.Load size a)

  pub named-Table : (size : Size) (bytes : Bor (List ℕ)) (i : NumberedExpr) → named_expr own (expr.Table size bytes i)
      ≡ expression.Table size bytes.now (named_expr own i)
  named-Table size bytes i = ap (named_expr own) (sym (expr.rolls-Table size bytes i))
      ∙ fold-roll-NumberedExpr Expr (named_expr_step own) (NumberedExpr-F.Table size bytes i)

  pub named-Op : (o : BinOp) (a b : NumberedExpr) → named_expr own (expr.Op o a b)
      ≡ expression.Op o (named_expr own a) (named_expr own b)
  named-Op o a b = ap (named_expr own) (sym (expr.rolls-Op o a b))
      ∙ fold-roll-NumberedExpr Expr (named_expr_step own) (NumberedExpr-F.Op o a b)

  pub named-Ite : (test a b : NumberedExpr) → named_expr own (expr.Ite test a b)
      ≡ expression.Ite (named_expr own test) (named_expr own a) (named_expr own b)
  named-Ite test a b = ap (named_expr own) (sym (expr.rolls-Ite test a b))
      ∙ fold-roll-NumberedExpr Expr (named_expr_step own) (NumberedExpr-F.Ite test a b)

module _ (names own : List Name) where
  pub named-Skip : named_command names own numbered.Skip ≡ source.Skip
  named-Skip = ap (named_command names own) (sym numbered.rolls-Skip)
      ∙ fold-roll-NumberedCmd Cmd (named_step names own) NumberedCmd-F.Skip

  pub named-Set : (k : ℕ) (e : NumberedExpr) → named_command names own (numbered.Set k e)
      ≡ source.Set (name_at own k) (named_expr own e)
  named-Set k e = ap (named_command names own) (sym (numbered.rolls-Set k e))
      ∙ fold-roll-NumberedCmd Cmd (named_step names own) (NumberedCmd-F.Set k e)

  pub named-Unset : (k : ℕ) → named_command names own (numbered.Unset k) ≡ source.Unset (name_at own k)
  named-Unset k = ap (named_command names own) (sym (numbered.rolls-Unset k))
      ∙ fold-roll-NumberedCmd Cmd (named_step names own) (NumberedCmd-F.Unset k)

  pub named-Store : (size : Size) (a e : NumberedExpr) → named_command names own (numbered.Store size a e)
      ≡ source.Store size (named_expr own a) (named_expr own e)
  named-Store size a e = ap (named_command names own) (sym (numbered.rolls-Store size a e))
      ∙ fold-roll-NumberedCmd Cmd (named_step names own) (NumberedCmd-F.Store size a e)

  pub named-Stackalloc : (k n : ℕ) (body : List NumberedCmd) → named_command names own (numbered.Stackalloc k n body)
      ≡ source.Stackalloc (name_at own k) n (named_commands names own body)
  named-Stackalloc k n body = ap (named_command names own) (sym (numbered.rolls-Stackalloc k n body))
      ∙ fold-roll-NumberedCmd Cmd (named_step names own) (NumberedCmd-F.Stackalloc k n body)

  pub named-If : (e : NumberedExpr) (first second : List NumberedCmd)
      → named_command names own (numbered.If e first second)
      ≡ source.If (named_expr own e) (named_commands names own first) (named_commands names own second)
  named-If e first second = ap (named_command names own) (sym (numbered.rolls-If e first second))
      ∙ fold-roll-NumberedCmd Cmd (named_step names own) (NumberedCmd-F.If e first second)

  pub named-While : (e : NumberedExpr) (body : List NumberedCmd) → named_command names own (numbered.While e body)
      ≡ source.While (named_expr own e) (named_commands names own body)
  named-While e body = ap (named_command names own) (sym (numbered.rolls-While e body))
      ∙ fold-roll-NumberedCmd Cmd (named_step names own) (NumberedCmd-F.While e body)

  pub named-Seq : (body : List NumberedCmd) → named_command names own (numbered.Seq body)
      ≡ source.Seq (named_commands names own body)
  named-Seq body = ap (named_command names own) (sym (numbered.rolls-Seq body))
      ∙ fold-roll-NumberedCmd Cmd (named_step names own) (NumberedCmd-F.Seq body)

  pub named-Call : (at : ℕ) (ks : List ℕ) (callee : Target) (es : List NumberedExpr)
      → named_command names own (numbered.Call at ks callee es)
      ≡ source.Call at (names_at own ks) (target_name names callee) (named_exprs own es)
  named-Call at ks callee es = ap (named_command names own) (sym (numbered.rolls-Call at ks callee es))
      ∙ fold-roll-NumberedCmd Cmd (named_step names own) (NumberedCmd-F.Call at ks callee es)

  pub named-Interact : (at : ℕ) (ks : List ℕ) (action : Bor (List ℕ)) (es : List NumberedExpr)
      → named_command names own (numbered.Interact at ks action es)
      ≡ source.Interact at (names_at own ks) action.now (named_exprs own es)
  named-Interact at ks action es = ap (named_command names own) (sym (numbered.rolls-Interact at ks action es))
      ∙ fold-roll-NumberedCmd Cmd (named_step names own) (NumberedCmd-F.Interact at ks action es)

-- ---- what they stand for and do

module _ (own : List Name) (locals : Locals) (m : Memory) where
  pub value-Literal : (n : ℕ) (e : NumberedExpr) → e ≡ expr.Literal n → value locals m (named_expr own e)
      ≡ value_step locals m (Expr-F.Literal n)
  value-Literal n e is =
      ap (λ e. value locals m (named_expr own e)) is
      ∙ ap (value locals m) (named-Literal own n ∙ sym (expression.rolls-Literal n))
      ∙ fold-roll-Expr (Option ℕ) (value_step locals m) (Expr-F.Literal n)

  pub value-Var : (k : ℕ) (e : NumberedExpr) → e ≡ expr.Var k → value locals m (named_expr own e)
      ≡ value_step locals m (Expr-F.Var (name_at own k))
  value-Var k e is =
      ap (λ e. value locals m (named_expr own e)) is
      ∙ ap (value locals m) (named-Var own k ∙ sym (expression.rolls-Var (name_at own k)))
      ∙ fold-roll-Expr (Option ℕ) (value_step locals m) (Expr-F.Var (name_at own k))

  pub value-Load : (size : Size) (a : NumberedExpr) (e : NumberedExpr) → e ≡ expr.Load size a
      → value locals m (named_expr own e) ≡ value_step locals m (Expr-F.Load size (value locals m (named_expr own a)))
  value-Load size a e is =
      ap (λ e. value locals m (named_expr own e)) is
      ∙ ap (value locals m) (named-Load own size a ∙ sym (expression.rolls-Load size (named_expr own a)))
      ∙ fold-roll-Expr (Option ℕ) (value_step locals m) (Expr-F.Load size (named_expr own a))

  pub value-Table : (size : Size) (bytes : Bor (List ℕ)) (i : NumberedExpr) (e : NumberedExpr) → e
      ≡ expr.Table size bytes i → value locals m (named_expr own e)
      ≡ value_step locals m (Expr-F.Table size bytes.now (value locals m (named_expr own i)))
  value-Table size bytes i e is =
      ap (λ e. value locals m (named_expr own e)) is
      ∙ ap (value locals m) (named-Table own size bytes i
      ∙ sym (expression.rolls-Table size bytes.now (named_expr own i)))
      ∙ fold-roll-Expr (Option ℕ) (value_step locals m) (Expr-F.Table size bytes.now (named_expr own i))

  pub value-Op : (o : BinOp) (a b : NumberedExpr) (e : NumberedExpr) → e ≡ expr.Op o a b
      → value locals m (named_expr own e)
      ≡ value_step locals m (Expr-F.Op o (value locals m (named_expr own a)) (value locals m (named_expr own b)))
  value-Op o a b e is =
      ap (λ e. value locals m (named_expr own e)) is
      ∙ ap (value locals m) (named-Op own o a b ∙ sym (expression.rolls-Op o (named_expr own a) (named_expr own b)))
      ∙ fold-roll-Expr (Option ℕ) (value_step locals m) (Expr-F.Op o (named_expr own a) (named_expr own b))

  pub value-Ite : (test a b : NumberedExpr) (e : NumberedExpr) → e ≡ expr.Ite test a b
      → value locals m (named_expr own e)
      ≡ value_step locals m
      (Expr-F.Ite (value locals m (named_expr own test)) (value locals m (named_expr own a))
      (value locals m (named_expr own b)))
  value-Ite test a b e is =
      ap (λ e. value locals m (named_expr own e)) is
      ∙ ap (value locals m) (named-Ite own test a b
      ∙ sym (expression.rolls-Ite (named_expr own test) (named_expr own a) (named_expr own b)))
      ∙ fold-roll-Expr (Option ℕ) (value_step locals m)
      (Expr-F.Ite (named_expr own test) (named_expr own a) (named_expr own b))

module _ (names own : List Name) (call : Callee) (s : State) where
  pub runs-Skip : (c : NumberedCmd) → c ≡ numbered.Skip → run call (named_command names own c) s
      ≡ command_step call Cmd-F.Skip s
  runs-Skip c is =
      ap (λ c. run call (named_command names own c) s) is
      ∙ ap (λ d. run call d s) (named-Skip names own ∙ sym source.rolls-Skip)
      ∙ ap (λ f. f s) (fold-roll-Cmd (State → Run) (command_step call) Cmd-F.Skip)

  pub runs-Set : (k : ℕ) (e : NumberedExpr) (c : NumberedCmd) → c ≡ numbered.Set k e
      → run call (named_command names own c) s ≡ command_step call (Cmd-F.Set (name_at own k) (named_expr own e)) s
  runs-Set k e c is =
      ap (λ c. run call (named_command names own c) s) is
      ∙ ap (λ d. run call d s) (named-Set names own k e ∙ sym (source.rolls-Set (name_at own k) (named_expr own e)))
      ∙ ap (λ f. f s) (fold-roll-Cmd (State → Run) (command_step call) (Cmd-F.Set (name_at own k) (named_expr own e)))

  pub runs-Unset : (k : ℕ) (c : NumberedCmd) → c ≡ numbered.Unset k → run call (named_command names own c) s
      ≡ command_step call (Cmd-F.Unset (name_at own k)) s
  runs-Unset k c is =
      ap (λ c. run call (named_command names own c) s) is
      ∙ ap (λ d. run call d s) (named-Unset names own k ∙ sym (source.rolls-Unset (name_at own k)))
      ∙ ap (λ f. f s) (fold-roll-Cmd (State → Run) (command_step call) (Cmd-F.Unset (name_at own k)))

  pub runs-Store : (size : Size) (a e : NumberedExpr) (c : NumberedCmd) → c ≡ numbered.Store size a e
      → run call (named_command names own c) s
      ≡ command_step call (Cmd-F.Store size (named_expr own a) (named_expr own e)) s
  runs-Store size a e c is =
      ap (λ c. run call (named_command names own c) s) is
      ∙ ap (λ d. run call d s) (named-Store names own size a e
      ∙ sym (source.rolls-Store size (named_expr own a) (named_expr own e)))
      ∙ ap (λ f. f s) (fold-roll-Cmd (State → Run) (command_step call)
      (Cmd-F.Store size (named_expr own a) (named_expr own e)))

  pub runs-Stackalloc : (k n : ℕ) (body : List NumberedCmd) (c : NumberedCmd) → c ≡ numbered.Stackalloc k n body
      → run call (named_command names own c) s
      ≡ command_step call (Cmd-F.Stackalloc (name_at own k) n (map (run call) (named_commands names own body))) s
  runs-Stackalloc k n body c is =
      ap (λ c. run call (named_command names own c) s) is
      ∙ ap (λ d. run call d s) (named-Stackalloc names own k n body
      ∙ sym (source.rolls-Stackalloc (name_at own k) n (named_commands names own body)))
      ∙ ap (λ f. f s) (fold-roll-Cmd (State → Run) (command_step call)
      (Cmd-F.Stackalloc (name_at own k) n (named_commands names own body)))

  pub runs-If : (e : NumberedExpr) (first second : List NumberedCmd) (c : NumberedCmd) → c ≡ numbered.If e first second
      → run call (named_command names own c) s
      ≡ command_step call
      (Cmd-F.If (named_expr own e) (map (run call) (named_commands names own first))
      (map (run call) (named_commands names own second))) s
  runs-If e first second c is =
      ap (λ c. run call (named_command names own c) s) is
      ∙ ap (λ d. run call d s) (named-If names own e first second
      ∙ sym (source.rolls-If (named_expr own e) (named_commands names own first) (named_commands names own second)))
      ∙ ap (λ f. f s) (fold-roll-Cmd (State → Run) (command_step call)
      (Cmd-F.If (named_expr own e) (named_commands names own first) (named_commands names own second)))

  pub runs-Seq : (body : List NumberedCmd) (c : NumberedCmd) → c ≡ numbered.Seq body
      → run call (named_command names own c) s
      ≡ command_step call (Cmd-F.Seq (map (run call) (named_commands names own body))) s
  runs-Seq body c is =
      ap (λ c. run call (named_command names own c) s) is
      ∙ ap (λ d. run call d s) (named-Seq names own body ∙ sym (source.rolls-Seq (named_commands names own body)))
      ∙ ap (λ f. f s) (fold-roll-Cmd (State → Run) (command_step call) (Cmd-F.Seq (named_commands names own body)))

  pub runs-Call : (at : ℕ) (ks : List ℕ) (callee : Target) (es : List NumberedExpr) (c : NumberedCmd) → c
      ≡ numbered.Call at ks callee es → run call (named_command names own c) s
      ≡ command_step call (Cmd-F.Call at (names_at own ks) (target_name names callee) (named_exprs own es)) s
  runs-Call at ks callee es c is =
      ap (λ c. run call (named_command names own c) s) is
      ∙ ap (λ d. run call d s) (named-Call names own at ks callee es
      ∙ sym (source.rolls-Call at (names_at own ks) (target_name names callee) (named_exprs own es)))
      ∙ ap (λ f. f s) (fold-roll-Cmd (State → Run) (command_step call)
      (Cmd-F.Call at (names_at own ks) (target_name names callee) (named_exprs own es)))

  pub runs-Interact : (at : ℕ) (ks : List ℕ) (action : Bor (List ℕ)) (es : List NumberedExpr) (c : NumberedCmd) → c
      ≡ numbered.Interact at ks action es → run call (named_command names own c) s
      ≡ command_step call (Cmd-F.Interact at (names_at own ks) action.now (named_exprs own es)) s
  runs-Interact at ks action es c is =
      ap (λ c. run call (named_command names own c) s) is
      ∙ ap (λ d. run call d s) (named-Interact names own at ks action es
      ∙ sym (source.rolls-Interact at (names_at own ks) action.now (named_exprs own es)))
      ∙ ap (λ f. f s) (fold-roll-Cmd (State → Run) (command_step call)
      (Cmd-F.Interact at (names_at own ks) action.now (named_exprs own es)))
