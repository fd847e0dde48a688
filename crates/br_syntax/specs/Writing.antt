-- Trees that commands are written as.
use Rattle.std.specs.Prelude.{◌≡◌, ℕ, List, ◌∷◌, Ok}
use Rattle.br_sexpr.specs.declared.tree.Tree.{Tree}
use Rattle.br_sexpr.specs.declared.tree.Tree.TheVariants as tree
use Rattle.br_syntax.specs.declared.program.Expr.{Expr}
use Rattle.br_syntax.specs.declared.program.Cmd.{Cmd}
use Rattle.br_syntax.specs.Denotes.{names, arguments_from, commands}

-- a list of this word and trees that stand for these commands
abbrev pub IsBodyTree : Tree → List ℕ → List Cmd → Type 0
IsBodyTree t word body = (trees : List Tree)
    × ((t ≡ tree.List 0 (tree.Name 0 word ∷ trees)) × (commands trees ≡ Ok body))

-- a list of this word, these results, this name and trees that stand for these arguments
abbrev pub IsTargetTree : Tree → List ℕ → List (List ℕ) → List ℕ → List Expr → Type 0
IsTargetTree t word results called arguments =
    (listed : Tree) × (trees : List Tree)
    × ((t ≡ tree.List 0 (tree.Name 0 word ∷ listed ∷ tree.Name 0 called ∷ trees))
    × (names listed ≡ Ok results) × (arguments_from 0 trees ≡ Ok arguments))
