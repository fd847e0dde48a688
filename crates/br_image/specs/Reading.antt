-- How far the reading of a text has come.
use Rattle.std.specs.Prelude.{ℕ, ◌≡◌, ◌≢◌, ◌+◌, ◌<◌, ◌≤◌, ◌^◌, List, ◌∷◌, ◌++◌}
use Rattle.std.specs.Prelude.{All, length, map, drop, take, slice_get, Some}
use Rattle.br_words.specs.declared.layout.Layout.{Layout}
use Rattle.br_words.specs.Layout.{most_words}
use Rattle.br_image.specs.Faults.{IsOffset}
use Rattle.br_image.specs.declared.images.Entry.{Entry}
use Rattle.br_image.specs.declared.lines.Line.{Line}
use Rattle.br_image.specs.declared.lines.Line.TheVariants.{Header, Function, Count, Word}
use Rattle.br_image.specs.declared.faults.ImageFault.{ImageFault}
use Rattle.br_image.specs.declared.faults.ImageFault.TheVariants.{BadLine, BadOrder}
use Rattle.br_image.specs.declared.faults.ImageFault.TheVariants.{BadOffset, Truncated}
use Rattle.br_image.specs.Limits.{HaveDifferentNames}
use Rattle.br_image.specs.Lines.{IsLine, IsEntryLine, line_text, text_of}
use Rattle.br_image.specs.Forms.{Lacks}

-- the first line of the rest, which is line n, is no line of a text whose layout is this
abbrev pub IsLineFault : Layout → ℕ → List ℕ → ImageFault → Type 0
IsLineFault layout n rest (BadLine m) = (m ≡ n) × (bytes : List ℕ) × (more : List ℕ) × (rest
    ≡ bytes ++ 10 ∷ more) × Lacks 10 bytes × ((l : Line) → IsLine layout l → bytes ≢ line_text l)
IsLineFault layout n rest (BadOrder m) = ⊥
IsLineFault layout n rest (BadOffset m) = ⊥
IsLineFault layout n rest (Truncated m) = (m ≡ n) × Lacks 10 rest

-- the first line and lines of these entries
abbrev pub entries_read : Layout → List Entry → List Line
entries_read layout entries = Header layout ∷ map Function entries

-- the bytes before a place are the first line and lines of these entries
pub record EntriesRead (layout : Layout) (text : List ℕ) (entries : List Entry)
    (at : ℕ) : Type 0 where
  pub within : at ≤ length text
  pub many : length entries < at
  pub spelled : text ≡ text_of (entries_read layout entries) ++ drop at text
  pub forms : All IsEntryLine entries
  pub names : HaveDifferentNames entries

-- those lines, the number of words and lines of these words
abbrev pub words_read : Layout → List Entry → ℕ → List ℕ → List Line
words_read layout entries count code =
    Header layout ∷ (map Function entries ++ Count count ∷ map Word code)

-- the bytes before a place are those lines
pub record WordsRead (layout : Layout) (text : List ℕ) (entries : List Entry) (count : ℕ)
    (code : List ℕ) (at : ℕ) : Type 0 where
  pub within : at ≤ length text
  pub many : length entries + length code < at
  pub spelled : text ≡ text_of (words_read layout entries count code) ++ drop at text
  pub forms : All IsEntryLine entries
  pub names : HaveDifferentNames entries
  pub counted : count ≤ most_words layout
  pub words : All (λ w. w < 2 ^ 32) code
  pub few : length code ≤ count

-- the first entry with an offset that is not in the code
abbrev pub IsFirstBad : ℕ → List Entry → ℕ → Type 0
IsFirstBad words entries k = (entry : Entry) × (slice_get entries k ≡ Some entry)
    × ¬ IsOffset words entry.offset × All (λ e. IsOffset words e.offset) (take k entries)
