-- What lies between the tokens of a text.
use Rattle.std.specs.Prelude.{◌≡◌, ℕ, ◌+◌, Bool, true, false, List, [], ◌∷◌, ◌++◌, length, IsTrue}
use Rattle.std.specs.List.{list_all}
use Rattle.br_sexpr.specs.declared.tree.TextFault.{TextFault}
use Rattle.br_sexpr.specs.declared.tree.TextFault.TheVariants.{BadByte, BadNumber}
use Rattle.br_sexpr.specs.declared.tree.TextFault.TheVariants.{ExtraClose, Unclosed, TooDeep}
use Rattle.br_sexpr.specs.Layout.{Piece, blank, comment, opening, closing}
use Rattle.br_sexpr.specs.Layout.{run, stray, spelling, IsLayout}
use Rattle.br_sexpr.specs.Token.{Token, tokens_at}

abbrev pub is_gap : Piece → Bool
is_gap (blank b) = true
is_gap (comment bs) = true
is_gap opening = false
is_gap closing = false
is_gap (run bs) = false
is_gap (stray b) = false

-- blanks and comments, or nothing
abbrev pub IsGap : List ℕ → Type 0
IsGap bytes = (ps : List Piece) × IsTrue (list_all is_gap ps) × IsLayout ps bytes

-- The text, which stands at an offset, is a gap, the bytes of a token, a gap, and so on. Each token
-- has the offset where its bytes stand.
abbrev pub Alternates : ℕ → List ℕ → List Token → Type 0
Alternates at text [] = IsGap text
Alternates at text (t ∷ ts) = (gap : List ℕ) × (p : Piece) × (rest : List ℕ)
    × (text ≡ gap ++ (spelling p ++ rest)) × IsGap gap
    × (tokens_at (at + length gap) p ≡ t ∷ [])
    × Alternates (at + length gap + length (spelling p)) rest ts

-- where a fault stands
abbrev pub offset_of : TextFault → ℕ
offset_of (BadByte at) = at
offset_of (BadNumber at) = at
offset_of (ExtraClose at) = at
offset_of (Unclosed at) = at
offset_of (TooDeep at) = at
