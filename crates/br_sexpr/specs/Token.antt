-- The tokens of a text, each with the offset of its first byte.
use Rattle.std.specs.Prelude.{ℕ, ◌+◌, List, [], ◌∷◌, ◌++◌, length}
use Rattle.std.specs.Prelude.{Option, Some, None, if◌then◌else◌}
use Rattle.br_base.specs.Name.{is_name}
use Rattle.br_sexpr.specs.Layout.{Piece, blank, comment, opening, closing, run, stray, spelling}
use Rattle.br_sexpr.specs.Number.{number_of}

pub data Token : Type 0 where
  opens : ℕ → Token
  closes : ℕ → Token
  names : ℕ → List ℕ → Token
  numbers : ℕ → ℕ → Token
  -- a run that begins with a digit and is no number
  misspells : ℕ → Token
  -- a byte of no token
  strays : ℕ → Token

-- the number at an offset, or that there is none
abbrev pub number_token : ℕ → Option ℕ → Token
number_token at (Some n) = numbers at n
number_token at None = misspells at

-- a run that begins with a letter or `_` is a name; any other begins with a digit
abbrev pub token_of_run : ℕ → List ℕ → Token
token_of_run at bytes = if is_name bytes then names at bytes else number_token at (number_of bytes)

-- blanks and comments are no tokens
abbrev pub tokens_at : ℕ → Piece → List Token
tokens_at at (blank b) = []
tokens_at at (comment bs) = []
tokens_at at opening = opens at ∷ []
tokens_at at closing = closes at ∷ []
tokens_at at (run bs) = token_of_run at bs ∷ []
tokens_at at (stray b) = strays at ∷ []

-- the tokens of a text of these pieces, the first of which stands at an offset
abbrev pub tokens_of : ℕ → List Piece → List Token
tokens_of at [] = []
tokens_of at (p ∷ ps) = tokens_at at p ++ tokens_of (at + length (spelling p)) ps

-- a token without the offset of a `)`, which no tree keeps
abbrev pub kept : Token → Token
kept (opens at) = opens at
kept (closes at) = closes 0
kept (names at bytes) = names at bytes
kept (numbers at n) = numbers at n
kept (misspells at) = misspells at
kept (strays at) = strays at
