-- Each expression has a bulk.
use Rattle.std.proofs.Common.{ℕ, ◌≤◌, subst, sym, arith}
use Rattle.br_syntax.specs.declared.program.Expr.{Expr, map-Expr}
use Rattle.br_syntax.specs.declared.program.Expr.TheOpen.{Expr-F}
use Rattle.br_syntax.specs.declared.program.Expr.TheFolds.{fold-roll-Expr, ind-Expr}
use Rattle.br_measure.specs.Bulk.{expression_bulk, expression_step}

step-some : (y : Expr-F ℕ) → 1 ≤ expression_step y
step-some (Expr-F.Literal n) = omega arith
step-some (Expr-F.Var x) = omega arith
step-some (Expr-F.Load size a) = omega arith
step-some (Expr-F.Table size bytes i) = omega arith
step-some (Expr-F.Op op a b) = omega arith
step-some (Expr-F.Ite c a b) = omega arith

pub bulk-some : (e : Expr) → 1 ≤ expression_bulk e
bulk-some = ind-Expr (λ e. 1 ≤ expression_bulk e) (λ x y is.
    subst (λ n. 1 ≤ n) (sym (fold-roll-Expr ℕ expression_step x)) (step-some (map-Expr Expr ℕ expression_bulk x)))

pub ruleset weights = (bulk-some)
