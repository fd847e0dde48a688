-- The lines of a text, each in one of five forms.
use Rattle.std.specs.Prelude.{ℕ, ◌*◌, ◌<◌, ◌≤◌, ◌^◌, List, [], ◌∷◌, ◌++◌, codes, length, map}
use Rattle.std.specs.List.{flat_map}
use Rattle.br_base.specs.Name.{IsName}
use Rattle.br_words.specs.declared.layout.Layout.{Layout}
use Rattle.br_words.specs.declared.layout.Layout.TheVariants.{Two}
use Rattle.br_words.specs.Layout.{most_words, most_stack}
use Rattle.br_image.specs.declared.images.Entry.{Entry}
use Rattle.br_image.specs.declared.lines.Line.{Line}
use Rattle.br_image.specs.declared.lines.Line.TheVariants.{Header, Function, Count, Word, End}
use Rattle.br_image.specs.Text.{header_text, entry_text, code_text, word_text, line}

-- what stands in a line
abbrev pub line_text : Line → List ℕ
line_text (Header layout) = header_text layout
line_text (Function e) = entry_text e
line_text (Count n) = code_text n
line_text (Word w) = word_text w
line_text End = codes "end"

-- an entry line's name is a name, and its numbers are in their ranges
pub record IsEntryLine (e : Entry) : Type 0 where
  pub name : IsName e.name
  pub args : e.args ≤ 8
  pub results : e.results ≤ 8
  pub offset : e.offset < 4 * most_words Two
  pub need : e.need ≤ most_stack

-- the numbers and the name of a line are in their ranges, in a text whose layout is this
abbrev pub IsLine : Layout → Line → Type 0
IsLine layout (Header own) = Unit {0}
IsLine layout (Function e) = IsEntryLine e
IsLine layout (Count n) = n ≤ most_words layout
IsLine layout (Word w) = w < 2 ^ 32
IsLine layout End = Unit {0}

-- the layout of a text that begins with these lines: that of the first line,
-- and the larger one where that tells none
abbrev pub layout_after : List Line → Layout
layout_after [] = Two
layout_after (Header layout ∷ more) = layout
layout_after (Function e ∷ more) = Two
layout_after (Count n ∷ more) = Two
layout_after (Word w ∷ more) = Two
layout_after (End ∷ more) = Two

abbrev pub text_of : List Line → List ℕ
text_of lines = flat_map (λ l. line (line_text l)) lines

-- the lines of an image with these parts
abbrev pub lines_of : Layout → List Entry → List ℕ → List Line
lines_of layout entries code =
    Header layout ∷ (map Function entries ++ Count (length code) ∷ (map Word code ++ End ∷ []))
