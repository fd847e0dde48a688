-- Trees: their tokens, and how deep they are.
use Rattle.std.specs.Prelude.{ℕ, ◌+◌, max, List, [], ◌∷◌, ◌++◌, map}
use Rattle.br_sexpr.specs.declared.tree.Tree.{Tree}
use Rattle.br_sexpr.specs.declared.tree.Tree.TheOpen as layer
use Rattle.br_sexpr.specs.declared.tree.Tree.TheFolds.{fold-Tree}
use Rattle.br_sexpr.specs.Token.{Token, opens, closes, names, numbers}

-- lists one after another
abbrev pub joined : List (List Token) → List Token
joined [] = []
joined (ts ∷ tss) = ts ++ joined tss

abbrev pub token_step : layer.Tree-F (List Token) → List Token
token_step (layer.Name at text) = names at text ∷ []
token_step (layer.Number at value) = numbers at value ∷ []
token_step (layer.List at items) = opens at ∷ (joined items ++ closes 0 ∷ [])

-- the tokens of a tree, with 0 for the offset of each `)`
abbrev pub tree_tokens : Tree → List Token
tree_tokens = fold-Tree (List Token) token_step

-- the tokens of trees, in order
abbrev pub forest_tokens : List Tree → List Token
forest_tokens trees = joined (map tree_tokens trees)

abbrev pub largest : List ℕ → ℕ
largest [] = 0
largest (n ∷ ns) = max n (largest ns)

abbrev pub height_step : layer.Tree-F ℕ → ℕ
height_step (layer.Name at text) = 0
height_step (layer.Number at value) = 0
height_step (layer.List at items) = largest items + 1

-- how many lists stand in one another in a tree
abbrev pub tree_height : Tree → ℕ
tree_height = fold-Tree ℕ height_step

abbrev pub forest_height : List Tree → ℕ
forest_height trees = largest (map tree_height trees)
