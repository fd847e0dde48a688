-- What the trees of expressions stand for.
use Rattle.std.proofs.Common.{◌≡◌, ℕ, true, List, [], ◌∷◌, Ok, Some, refl, ◌∙◌}
use Rattle.br_words.specs.declared.size.Size.{Size}
use Rattle.br_words.specs.declared.operation.BinOp.{BinOp}
use Rattle.br_sexpr.specs.declared.tree.Tree.{Tree}
use Rattle.br_sexpr.specs.declared.tree.Tree.TheVariants as tree
use Rattle.br_syntax.specs.declared.program.Expr.{Expr}
use Rattle.br_syntax.specs.declared.program.Expr.TheVariants as expr
use Rattle.br_syntax.specs.declared.word.ExprWord.TheVariants as e
use Rattle.br_syntax.specs.Word.{expr_word}
use Rattle.br_syntax.specs.Denotes.{bytes, expression}
use Rattle.br_syntax.specs.Offsets.{is_unplaced}
use Rattle.br_syntax.proofs.Equations.{expression-name, expression-number, expression-list}
use Rattle.br_syntax.proofs.Written.{unplaced-name, unplaced-number, unplaced-list}

pub load_written : (word : List ℕ) (size : Size) (x : Tree) (a : Expr) → expr_word word ≡ Some (e.Load size)
    → expression x ≡ Ok a → expression (tree.List 0 (tree.Name 0 word ∷ x ∷ [])) ≡ Ok (expr.Load size a)
load_written word size x a means inner =
    expression-list 0 (tree.Name 0 word ∷ x ∷ []) ∙ rw (tree.outs-Name, means, inner) refl

pub table_written : (word : List ℕ) (size : Size) (x y : Tree) (table : List ℕ) (a : Expr)
    → expr_word word ≡ Some (e.Table size) → bytes x ≡ Ok table → expression y ≡ Ok a
    → expression (tree.List 0 (tree.Name 0 word ∷ x ∷ y ∷ [])) ≡ Ok (expr.Table size table a)
table_written word size x y table a means first second =
    expression-list 0 (tree.Name 0 word ∷ x ∷ y ∷ []) ∙ rw (tree.outs-Name, means, first, second) refl

pub op_written : (word : List ℕ) (operation : BinOp) (x y : Tree) (a b : Expr)
    → expr_word word ≡ Some (e.Op operation) → expression x ≡ Ok a → expression y ≡ Ok b
    → expression (tree.List 0 (tree.Name 0 word ∷ x ∷ y ∷ [])) ≡ Ok (expr.Op operation a b)
op_written word operation x y a b means first second =
    expression-list 0 (tree.Name 0 word ∷ x ∷ y ∷ []) ∙ rw (tree.outs-Name, means, first, second) refl

pub ite_written : (word : List ℕ) (x y z : Tree) (a b c : Expr) → expr_word word ≡ Some e.Ite
    → expression x ≡ Ok a → expression y ≡ Ok b → expression z ≡ Ok c
    → expression (tree.List 0 (tree.Name 0 word ∷ x ∷ y ∷ z ∷ [])) ≡ Ok (expr.Ite a b c)
ite_written word x y z a b c means first second third =
    expression-list 0 (tree.Name 0 word ∷ x ∷ y ∷ z ∷ []) ∙ rw (tree.outs-Name, means, first, second, third) refl

pub unplaced_two : (word : List ℕ) (x : Tree) → is_unplaced x ≡ true
    → is_unplaced (tree.List 0 (tree.Name 0 word ∷ x ∷ [])) ≡ true
unplaced_two word x inner = unplaced-list 0 (tree.Name 0 word ∷ x ∷ []) ∙ rw (unplaced-name, inner) refl

pub unplaced_three : (word : List ℕ) (x y : Tree) → is_unplaced x ≡ true → is_unplaced y ≡ true
    → is_unplaced (tree.List 0 (tree.Name 0 word ∷ x ∷ y ∷ [])) ≡ true
unplaced_three word x y first second =
    unplaced-list 0 (tree.Name 0 word ∷ x ∷ y ∷ []) ∙ rw (unplaced-name, first, second) refl

pub unplaced_four : (word : List ℕ) (x y z : Tree) → is_unplaced x ≡ true → is_unplaced y ≡ true → is_unplaced z ≡ true
    → is_unplaced (tree.List 0 (tree.Name 0 word ∷ x ∷ y ∷ z ∷ [])) ≡ true
unplaced_four word x y z first second third =
    unplaced-list 0 (tree.Name 0 word ∷ x ∷ y ∷ z ∷ []) ∙ rw (unplaced-name, first, second, third) refl

pub ruleset expressions = (
  expression-name,
  expression-number,
  load_written,
  table_written,
  op_written,
  ite_written,
  unplaced-name,
  unplaced-number,
  unplaced_two,
  unplaced_three,
  unplaced_four,
)
