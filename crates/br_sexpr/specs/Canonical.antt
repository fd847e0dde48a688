-- The one text that trees are printed as.
use Rattle.std.specs.Prelude.{◌≡◌, ℕ, ◌^◌, ◌≤◌, Bool, List, [], ◌∷◌, ◌++◌, map, IsTrue, nat_lt}
use Rattle.std.specs.List.{flat_map, list_all}
use Rattle.std.specs.Fmt.{decimal}
use Rattle.br_sexpr.specs.declared.tree.Tree.{Tree}
use Rattle.br_sexpr.specs.declared.tree.Tree.TheOpen as layer
use Rattle.br_sexpr.specs.declared.tree.Tree.TheFolds.{fold-Tree}
use Rattle.br_sexpr.specs.declared.tree.Tree.TheViews as made
use Rattle.br_sexpr.specs.declared.tree.Tree.TheViews.{made-Name, made-Number}
use Rattle.br_base.specs.Name.{is_name}
use Rattle.br_sexpr.specs.Forest.{forest_height}

-- each text after a space
abbrev pub spaced : List (List ℕ) → List ℕ
spaced [] = []
spaced (x ∷ xs) = 32 ∷ (x ++ spaced xs)

-- texts with one space between
abbrev pub with_spaces : List (List ℕ) → List ℕ
with_spaces [] = []
with_spaces (x ∷ xs) = x ++ spaced xs

-- a name as it is, a number in decimal, a list in parentheses
abbrev pub text_step : layer.Tree-F (List ℕ) → List ℕ
text_step (layer.Name at text) = text
text_step (layer.Number at value) = decimal value
text_step (layer.List at items) = 40 ∷ (with_spaces items ++ 41 ∷ [])

abbrev pub tree_text : Tree → List ℕ
tree_text = fold-Tree (List ℕ) text_step

-- each tree in a line of its own
abbrev pub canonical : List Tree → List ℕ
canonical trees = flat_map (λ t. tree_text t ++ 10 ∷ []) trees

-- a tree with every offset 0
abbrev pub bare_step : layer.Tree-F Tree → Tree
bare_step (layer.Name at text) = made-Name 0 text
bare_step (layer.Number at value) = made-Number 0 value
bare_step (layer.List at items) = made.List 0 items

abbrev pub bare : Tree → Tree
bare = fold-Tree Tree bare_step

-- the trees are the same up to their offsets
abbrev pub AreSameUpToOffsets : List Tree → List Tree → Type 0
AreSameUpToOffsets ts us = map bare ts ≡ map bare us

abbrev pub sound_step : layer.Tree-F Bool → Bool
sound_step (layer.Name at text) = is_name text
sound_step (layer.Number at value) = nat_lt value (2 ^ 32)
sound_step (layer.List at items) = list_all (λ b. b) items

-- its names are names, and its numbers are below 2^32
abbrev pub is_sound : Tree → Bool
is_sound = fold-Tree Bool sound_step

-- trees that a text may stand for
pub record ArePrintable (trees : List Tree) : Type 0 where
  pub sound : IsTrue (list_all is_sound trees)
  pub shallow : forest_height trees ≤ 256
