-- Trees with the offsets of their text, and their tokens.
use Rattle.std.proofs.Common.{◌≡◌, ℕ, ◌+◌, max, List, [], ◌∷◌, ◌++◌, refl, ap, ◌∙◌, append_assoc}
use Rattle.br_sexpr.specs.declared.tree.Tree.{Tree}
use Rattle.br_sexpr.specs.declared.tree.Tree.TheVariants as tree
use Rattle.br_sexpr.specs.Token.{Token, opens, closes, names, numbers}
use Rattle.br_sexpr.specs.Forest.{forest_tokens, forest_height}
use Rattle.br_sexpr.proofs.ForestLemmas.{tokens-name, tokens-number, tokens-list}
use Rattle.br_sexpr.proofs.ForestLemmas.{height-name, height-number, height-list}

-- trees, each with those after it
pub data Forest : Type 0 where
  nil : Forest
  name : ℕ → List ℕ → Forest → Forest
  number : ℕ → ℕ → Forest → Forest
  list : ℕ → Forest → Forest → Forest

abbrev pub trees : Forest → List Tree
trees nil = []
trees (name at text more) = tree.Name at text ∷ trees more
trees (number at value more) = tree.Number at value ∷ trees more
trees (list at items more) = tree.List at (trees items) ∷ trees more

abbrev pub tokens : Forest → List Token
tokens nil = []
tokens (name at text more) = names at text ∷ tokens more
tokens (number at value more) = numbers at value ∷ tokens more
tokens (list at items more) = opens at ∷ (tokens items ++ closes 0 ∷ tokens more)

pub tokens_are : (f : Forest) → forest_tokens (trees f) ≡ tokens f
tokens_are nil = refl
tokens_are (name at text more) = ap (λ ts. ts ++ forest_tokens (trees more)) (tokens-name at text)
    ∙ ap (λ ts. names at text ∷ ts) (tokens_are more)
tokens_are (number at value more) = ap (λ ts. ts ++ forest_tokens (trees more)) (tokens-number at value)
    ∙ ap (λ ts. numbers at value ∷ ts) (tokens_are more)
tokens_are (list at items more) =
    ap (λ ts. ts ++ forest_tokens (trees more)) (tokens-list at (trees items))
    ∙ ap (λ ts. opens at ∷ ts) (append_assoc (forest_tokens (trees items)) (closes 0 ∷ []) (forest_tokens (trees more)))
    ∙ ap (λ ts. opens at ∷ (ts ++ closes 0 ∷ forest_tokens (trees more))) (tokens_are items)
    ∙ ap (λ ts. opens at ∷ (tokens items ++ closes 0 ∷ ts)) (tokens_are more)

abbrev pub height : Forest → ℕ
height nil = 0
height (name at text more) = max 0 (height more)
height (number at value more) = max 0 (height more)
height (list at items more) = max (height items + 1) (height more)

pub height_is : (f : Forest) → forest_height (trees f) ≡ height f
height_is nil = refl
height_is (name at text more) = ap (λ h. max h (forest_height (trees more))) (height-name at text)
    ∙ ap (max 0) (height_is more)
height_is (number at value more) = ap (λ h. max h (forest_height (trees more))) (height-number at value)
    ∙ ap (max 0) (height_is more)
height_is (list at items more) =
    ap (λ h. max h (forest_height (trees more))) (height-list at (trees items))
    ∙ ap (λ h. max (h + 1) (forest_height (trees more))) (height_is items)
    ∙ ap (max (height items + 1)) (height_is more)
