-- A text cut into blanks, comments, parentheses and runs.
use Rattle.std.specs.Prelude.{◌≡◌, ℕ, ◌<◌, Bool, true, not, ◌||◌, List}
use Rattle.std.specs.Prelude.{[], ◌∷◌, ◌++◌, length, IsTrue, ⊤, ◌==◌}
use Rattle.std.specs.List.{list_all}
use Rattle.br_base.specs.Name.{continues_name}

pub data Piece : Type 0 where
  blank : ℕ → Piece
  -- what stands after the `;`
  comment : List ℕ → Piece
  opening : Piece
  closing : Piece
  run : List ℕ → Piece
  stray : ℕ → Piece

-- the bytes of a piece
abbrev pub spelling : Piece → List ℕ
spelling (blank b) = b ∷ []
spelling (comment bs) = 59 ∷ bs
spelling opening = 40 ∷ []
spelling closing = 41 ∷ []
spelling (run bs) = bs
spelling (stray b) = b ∷ []

-- space, tab, line feed and carriage return
abbrev pub is_blank : ℕ → Bool
is_blank b = (b == 32) || (b == 9) || (b == 10) || (b == 13)

-- anything but a line feed
abbrev pub stays_in_line : ℕ → Bool
stays_in_line b = not (b == 10)

-- a byte that begins no other piece
abbrev pub is_stray : ℕ → Bool
is_stray b = not (is_blank b || (b == 59) || (b == 40) || (b == 41) || continues_name b)

-- what a piece is made of
abbrev pub IsPiece : Piece → Type 0
IsPiece (blank b) = IsTrue (is_blank b)
IsPiece (comment bs) = IsTrue (list_all stays_in_line bs)
IsPiece opening = ⊤
IsPiece closing = ⊤
IsPiece (run bs) = (0 < length bs) × IsTrue (list_all continues_name bs)
IsPiece (stray b) = IsTrue (is_stray b)

-- there is no byte, or the first one fails the test
abbrev pub stops : (ℕ → Bool) → List ℕ → Bool
stops p [] = true
stops p (b ∷ bs) = not (p b)

-- A comment ends at the end of its line, and a run where its bytes do: neither could be longer.
abbrev pub EndsBefore : Piece → List ℕ → Type 0
EndsBefore (comment bs) rest = IsTrue (stops stays_in_line rest)
EndsBefore (run bs) rest = IsTrue (stops continues_name rest)
EndsBefore (blank b) rest = ⊤
EndsBefore opening rest = ⊤
EndsBefore closing rest = ⊤
EndsBefore (stray b) rest = ⊤

-- the text is these pieces, one after another
abbrev pub IsLayout : List Piece → List ℕ → Type 0
IsLayout [] text = text ≡ []
IsLayout (p ∷ ps) text =
    (rest : List ℕ) × (text ≡ spelling p ++ rest) × IsPiece p × EndsBefore p rest × IsLayout ps rest
