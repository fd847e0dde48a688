-- What is wrong with a text that is the text of no image. Lines count from 1.
use Rattle.std.specs.Prelude.{ℕ, ◌≡◌, ◌≢◌, ◌+◌, ◌*◌, ◌%◌, ◌<◌, ◌⊎◌, List, []}
use Rattle.std.specs.Prelude.{◌∷◌, ◌++◌, All, length, take, slice_get, Some}
use Rattle.br_words.specs.declared.layout.Layout.{Layout}
use Rattle.br_image.specs.declared.images.Entry.{Entry}
use Rattle.br_image.specs.declared.lines.Line.{Line}
use Rattle.br_image.specs.declared.lines.Line.TheVariants.{End}
use Rattle.br_image.specs.declared.faults.ImageFault.{ImageFault}
use Rattle.br_image.specs.declared.faults.ImageFault.TheVariants.{BadLine, BadOrder}
use Rattle.br_image.specs.declared.faults.ImageFault.TheVariants.{BadOffset, Truncated}
use Rattle.br_image.specs.Limits.{HaveDifferentNames}
use Rattle.br_image.specs.Text.{line}
use Rattle.br_image.specs.Lines.{IsLine, layout_after, line_text, text_of, lines_of}
use Rattle.br_image.specs.Forms.{Lacks}

-- an image, its offsets aside, has these lines and then some more
abbrev pub BeginsImage : List Line → Type 0
BeginsImage lines =
    (layout : Layout) × (entries : List Entry) × (code : List ℕ) × (more : List Line)
    × HaveDifferentNames entries × (lines ++ more ≡ lines_of layout entries code)

-- lines that begin an image, none of them `end`, stand before line n,
-- and rest is that line and what follows
pub record Reaches (text : List ℕ) (n : ℕ) (before : List Line) (rest : List ℕ) : Type 0 where
  pub number : n ≡ length before + 1
  pub spelled : text ≡ text_of before ++ rest
  pub forms : All (IsLine (layout_after before)) before
  pub order : BeginsImage before
  pub going : All (λ l. l ≢ End) before

-- line n is the first with a fault, and it is of no form
pub record IsBadLine (text : List ℕ) (n : ℕ) : Type 0 where
  pub before : List Line
  pub bytes : List ℕ
  pub rest : List ℕ
  pub reaches : Reaches text n before (line bytes ++ rest)
  pub single : Lacks 10 bytes
  pub formless : (l : Line) → IsLine (layout_after before) l → bytes ≢ line_text l

-- line n is the first with a fault, and no image has it after the lines before it
pub record IsMisplaced (text : List ℕ) (n : ℕ) : Type 0 where
  pub before : List Line
  pub next : Line
  pub rest : List ℕ
  pub reaches : Reaches text n before (line (line_text next) ++ rest)
  pub form : IsLine (layout_after before) next
  pub misplaced : ¬ BeginsImage (before ++ next ∷ [])

-- line n is the first after `end`
pub record IsBehindEnd (text : List ℕ) (n : ℕ) : Type 0 where
  pub layout : Layout
  pub entries : List Entry
  pub code : List ℕ
  pub rest : List ℕ
  pub number : n ≡ length (lines_of layout entries code) + 1
  pub spelled : text ≡ text_of (lines_of layout entries code) ++ rest
  pub forms : All (IsLine layout) (lines_of layout entries code)
  pub names : HaveDifferentNames entries
  pub more : rest ≢ []

-- the text ends before line n has its line feed
pub record IsTruncated (text : List ℕ) (n : ℕ) : Type 0 where
  pub before : List Line
  pub rest : List ℕ
  pub reaches : Reaches text n before rest
  pub cut_off : Lacks 10 rest

-- the offset is a multiple of 4 inside the code
abbrev pub IsOffset : ℕ → ℕ → Type 0
IsOffset words offset = (offset % 4 ≡ 0) × (offset < 4 * words)

-- the text is an image's but for offsets, and line n is the first
-- entry whose offset is not in the code
pub record IsBadOffset (text : List ℕ) (n : ℕ) : Type 0 where
  pub layout : Layout
  pub entries : List Entry
  pub code : List ℕ
  pub place : ℕ
  pub entry : Entry
  pub number : n ≡ place + 2
  pub spelled : text ≡ text_of (lines_of layout entries code)
  pub forms : All (IsLine layout) (lines_of layout entries code)
  pub names : HaveDifferentNames entries
  pub there : slice_get entries place ≡ Some entry
  pub bad : ¬ IsOffset (length code) entry.offset
  pub first : All (λ e. IsOffset (length code) e.offset) (take place entries)

-- the text has this fault
abbrev pub IsFault : List ℕ → ImageFault → Type 0
IsFault text (BadLine n) = IsBadLine text n
IsFault text (BadOrder n) = IsMisplaced text n ⊎ IsBehindEnd text n
IsFault text (BadOffset n) = IsBadOffset text n
IsFault text (Truncated n) = IsTruncated text n
