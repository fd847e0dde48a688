-- What a piece of a text is the spelling of.
use Rattle.std.specs.Prelude.{ℕ, ◌≡◌, ◌≢◌, List, [], ◌∷◌, ◌++◌, All, Option, Some, None}
use Rattle.std.specs.Fmt.{decimal}
use Rattle.br_words.specs.declared.layout.Layout.{Layout}
use Rattle.br_image.specs.declared.images.Entry.{Entry}
use Rattle.br_image.specs.declared.lines.Line.{Line}
use Rattle.br_image.specs.Lines.{IsLine, line_text}

-- no byte is this one
abbrev pub Lacks : ℕ → List ℕ → Type 0
Lacks c bytes = All (λ b. b ≢ c) bytes

-- nothing, or something that begins with a space
abbrev pub IsTail : List ℕ → Type 0
IsTail [] = Unit {0}
IsTail (b ∷ bytes) = b ≡ 32

-- what stands in an entry's line after the name
abbrev pub numbers_text : ℕ → ℕ → ℕ → ℕ → List ℕ
numbers_text args results offset need =
    decimal args ++ 32 ∷ (decimal results ++ 32 ∷ (decimal offset ++ 32 ∷ decimal need))

-- what stands there after `entry `
abbrev pub fields_text : Entry → List ℕ
fields_text e = e.name ++ 32 ∷ numbers_text e.args e.results e.offset e.need

-- the line that some bytes are, if they are one, in a text whose layout is this
abbrev pub IsLineOf : Layout → List ℕ → Option Line → Type 0
IsLineOf layout bytes (Some l) = IsLine layout l × (bytes ≡ line_text l)
IsLineOf layout bytes None = (l : Line) → IsLine layout l → bytes ≢ line_text l
