-- Commands as proofs take them apart: each with those after it.
use Rattle.std.proofs.Common.{◌≡◌, ℕ, List, [], ◌∷◌, Option, Some, map, codes, refl, sym, ap, ◌∙◌}
use Rattle.std.specs.Option.{option_and_then}
use Rattle.br_words.specs.declared.operation.BinOp.{BinOp}
use Rattle.br_words.specs.declared.size.Size.TheVariants as size
use Rattle.br_words.specs.Words.{value_of_op}
use Rattle.br_bytes.specs.Memory.{Memory, get_number}
use Rattle.br_syntax.specs.declared.program.Expr.{Expr}
use Rattle.br_syntax.specs.declared.program.Expr.TheVariants as expr
use Rattle.br_syntax.specs.declared.program.Expr.TheOpen.{Expr-F}
use Rattle.br_syntax.specs.declared.program.Expr.TheFolds.{fold-roll-Expr}
use Rattle.br_syntax.specs.declared.program.Cmd.{Cmd}
use Rattle.br_syntax.specs.declared.program.Cmd.TheVariants as cmd
use Rattle.br_source_meaning.specs.Values.{Name, Locals, both, value, value_step, values}

-- ---- expressions

pub data Exp : Type 0 where
  lit : ℕ → Exp
  var : Name → Exp
  op : BinOp → Exp → Exp → Exp
  byte : Exp → Exp

-- the tree
abbrev pub tree : Exp → Expr
tree (lit k) = expr.Literal k
tree (var x) = expr.Var x
tree (op o a b) = expr.Op o (tree a) (tree b)
tree (byte a) = expr.Load size.One (tree a)

-- the word
abbrev pub val : Locals → Memory → Exp → Option ℕ
val l m (lit k) = Some k
val l m (var x) = l x
val l m (op o a b) = both (value_of_op o) (val l m a) (val l m b)
val l m (byte a) = option_and_then (λ a. get_number m a 1) (val l m a)

pub value_is : (l : Locals) (m : Memory) (e : Exp) → value l m (tree e) ≡ val l m e
value_is l m (lit k) = ap (value l m) (sym (expr.rolls-Literal k))
    ∙ fold-roll-Expr (Option ℕ) (value_step l m) (Expr-F.Literal k)
value_is l m (var x) = ap (value l m) (sym (expr.rolls-Var x))
    ∙ fold-roll-Expr (Option ℕ) (value_step l m) (Expr-F.Var x)
value_is l m (op o a b) =
    ap (value l m) (sym (expr.rolls-Op o (tree a) (tree b)))
    ∙ fold-roll-Expr (Option ℕ) (value_step l m) (Expr-F.Op o (tree a) (tree b))
    ∙ ap (λ u. both (value_of_op o) u (value l m (tree b))) (value_is l m a)
    ∙ ap (both (value_of_op o) (val l m a)) (value_is l m b)
value_is l m (byte a) =
    ap (value l m) (sym (expr.rolls-Load size.One (tree a)))
    ∙ fold-roll-Expr (Option ℕ) (value_step l m) (Expr-F.Load size.One (tree a))
    ∙ ap (option_and_then (λ a. get_number m a 1)) (value_is l m a)

abbrev pub vals : Locals → Memory → List Exp → Option (List ℕ)
vals l m [] = Some []
vals l m (e ∷ es) = option_and_then (λ v. option_and_then (λ vs. Some (v ∷ vs)) (vals l m es)) (val l m e)

pub values_are : (l : Locals) (m : Memory) (es : List Exp) → values l m (map tree es) ≡ vals l m es
values_are l m [] = refl
values_are l m (e ∷ es) =
    ap (λ o. option_and_then (λ v. option_and_then (λ vs. Some (v ∷ vs)) (values l m (map tree es))) o) (value_is l m e)
    ∙ ap (λ o. option_and_then (λ v. option_and_then (λ vs. Some (v ∷ vs)) o) (val l m e)) (values_are l m es)

-- ---- commands

pub data Commands : Type 0 where
  done : Commands
  set : Name → Exp → Commands → Commands
  cond : Exp → Commands → Commands → Commands → Commands
  repeat : Exp → Commands → Commands → Commands
  call : List Name → Name → List Exp → Commands → Commands
  read : Name → ℕ → Commands → Commands
  write : ℕ → Exp → Commands → Commands
  store : Exp → Exp → Commands → Commands
  buffer : Name → ℕ → Commands → Commands → Commands

-- their trees
abbrev pub trees : Commands → List Cmd
trees done = []
trees (set x e more) = cmd.Set x (tree e) ∷ trees more
trees (cond e first second more) = cmd.If (tree e) (trees first) (trees second) ∷ trees more
trees (repeat e body more) = cmd.While (tree e) (trees body) ∷ trees more
trees (call xs f es more) = cmd.Call 0 xs f (map tree es) ∷ trees more
trees (read x a more) = cmd.Interact 0 (x ∷ []) (codes "MMIOREAD") (expr.Literal a ∷ []) ∷ trees more
trees (write a e more) = cmd.Interact 0 [] (codes "MMIOWRITE") (expr.Literal a ∷ tree e ∷ []) ∷ trees more
trees (store a e more) = cmd.Store size.Four (tree a) (tree e) ∷ trees more
trees (buffer x n body more) = cmd.Stackalloc x n (trees body) ∷ trees more
