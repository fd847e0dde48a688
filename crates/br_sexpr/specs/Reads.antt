-- What a text stands for.
use Rattle.std.specs.Prelude.{◌≡◌, ℕ, ◌≤◌, List, map}
use Rattle.br_sexpr.specs.declared.tree.Tree.{Tree}
use Rattle.br_sexpr.specs.declared.tree.TextFault.{TextFault}
use Rattle.br_sexpr.specs.Layout.{Piece, IsLayout}
use Rattle.br_sexpr.specs.Token.{kept, tokens_of}
use Rattle.br_sexpr.specs.Faults.{IsFault}
use Rattle.br_sexpr.specs.Forest.{forest_tokens, forest_height}

-- the most bytes of a source text
abbrev pub most_bytes : ℕ
most_bytes = 1048576

-- The text is blanks, comments and tokens, the tokens are those of the trees in
-- order, and no list stands in 256 others.
pub record Reads (text : List ℕ) (trees : List Tree) : Type 0 where
  pub pieces : List Piece
  pub layout : IsLayout pieces text
  pub tokens : map kept (tokens_of 0 pieces) ≡ forest_tokens trees
  pub shallow : forest_height trees ≤ 256

-- the text has this fault
pub record HasFault (text : List ℕ) (f : TextFault) : Type 0 where
  pub pieces : List Piece
  pub layout : IsLayout pieces text
  pub fault : IsFault (tokens_of 0 pieces) f
