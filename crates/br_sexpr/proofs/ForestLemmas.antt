-- The equations of the folds over trees.
use Rattle.std.proofs.Common.{◌≡◌, ℕ, ◌+◌, max, List, [], ◌∷◌, ◌++◌, refl, sym, ap, ◌∙◌, arith, append_assoc}
use Rattle.std.proofs.lemmas.List.{append-nil}
use Rattle.br_sexpr.specs.declared.tree.Tree.{Tree}
use Rattle.br_sexpr.specs.declared.tree.Tree.TheOpen as layer
use Rattle.br_sexpr.specs.declared.tree.Tree.TheViews as view
use Rattle.br_sexpr.specs.declared.tree.Tree.TheVariants.{rolls-Name, rolls-Number, rolls-List}
use Rattle.br_sexpr.specs.declared.tree.Tree.TheFolds.{fold-roll-Tree}
use Rattle.br_sexpr.specs.Token.{Token, opens, closes, names, numbers}
use Rattle.br_sexpr.specs.Forest.{joined, token_step, tree_tokens, forest_tokens}
use Rattle.br_sexpr.specs.Forest.{height_step, tree_height, forest_height}

pub tokens-name : (at : ℕ) (text : List ℕ) → tree_tokens (view.made-Name at text) ≡ names at text ∷ []
tokens-name at text =
    ap tree_tokens (sym (rolls-Name at text)) ∙ fold-roll-Tree (List Token) token_step (layer.Name at text)

pub tokens-number : (at value : ℕ) → tree_tokens (view.made-Number at value) ≡ numbers at value ∷ []
tokens-number at value =
    ap tree_tokens (sym (rolls-Number at value)) ∙ fold-roll-Tree (List Token) token_step (layer.Number at value)

pub tokens-list : (at : ℕ) (items : List Tree)
    → tree_tokens (view.List at items) ≡ opens at ∷ (forest_tokens items ++ closes 0 ∷ [])
tokens-list at items =
    ap tree_tokens (sym (rolls-List at items)) ∙ fold-roll-Tree (List Token) token_step (layer.List at items)

pub height-name : (at : ℕ) (text : List ℕ) → tree_height (view.made-Name at text) ≡ 0
height-name at text = ap tree_height (sym (rolls-Name at text)) ∙ fold-roll-Tree ℕ height_step (layer.Name at text)

pub height-number : (at value : ℕ) → tree_height (view.made-Number at value) ≡ 0
height-number at value =
    ap tree_height (sym (rolls-Number at value)) ∙ fold-roll-Tree ℕ height_step (layer.Number at value)

pub height-list : (at : ℕ) (items : List Tree) → tree_height (view.List at items) ≡ forest_height items + 1
height-list at items = ap tree_height (sym (rolls-List at items)) ∙ fold-roll-Tree ℕ height_step (layer.List at items)

pub joined-append : (xs ys : List (List Token)) → joined (xs ++ ys) ≡ joined xs ++ joined ys
joined-append [] ys = refl
joined-append (x ∷ xs) ys = ap (λ ts. x ++ ts) (joined-append xs ys) ∙ sym (append_assoc x (joined xs) (joined ys))

-- one more tree at the end
pub tokens-push : (trees : List Tree) (t : Tree)
    → forest_tokens (trees ++ t ∷ []) ≡ forest_tokens trees ++ tree_tokens t
tokens-push [] t = append-nil (tree_tokens t)
tokens-push (u ∷ trees) t = ap (λ ts. tree_tokens u ++ ts) (tokens-push trees t)
    ∙ sym (append_assoc (tree_tokens u) (forest_tokens trees) (tree_tokens t))

pub height-push : (trees : List Tree) (t : Tree)
    → forest_height (trees ++ t ∷ []) ≡ max (forest_height trees) (tree_height t)
height-push [] t = omega arith
height-push (u ∷ trees) t = omega (arith, height-push trees t)
