-- Texts of lines, where it depends on the lines before which line may stand.
use Rattle.std.specs.Prelude.{ℕ, ◌≡◌, ◌≢◌, ◌+◌, List, [], ◌∷◌, ◌++◌, length}
use Rattle.std.specs.List.{flat_map}
use Rattle.br_image.specs.Text.{line}
use Rattle.br_image.specs.Forms.{Lacks}

-- the text of lines that have these contents
abbrev pub lines_text : {L : Type 0} → (L → List ℕ) → List L → List ℕ
lines_text content lines = flat_map (λ l. line (content l)) lines

-- lines that may stand there, and are not the whole, stand before line n,
-- and rest is that line and what follows
pub record GoesOn {L : Type 0} (content : L → List ℕ) (MayStand IsWhole : List L → Type 0)
    (text : List ℕ) (n : ℕ) (before : List L) (rest : List ℕ) : Type 0 where
  pub number : n ≡ length before + 1
  pub spelled : text ≡ lines_text content before ++ rest
  pub stand : MayStand before
  pub going : ¬ IsWhole before

-- line n is the first that may not stand there
pub record IsWrongLine {L : Type 0} (content : L → List ℕ) (MayStand IsWhole : List L → Type 0)
    (text : List ℕ) (n : ℕ) : Type 0 where
  pub before : List L
  pub bytes : List ℕ
  pub rest : List ℕ
  pub goes_on : GoesOn content MayStand IsWhole text n before (line bytes ++ rest)
  pub single : Lacks 10 bytes
  pub wrong : (l : L) → MayStand (before ++ l ∷ []) → bytes ≢ content l

-- the text ends before line n has its line feed, and after lines that may stand there
pub record IsCutOff {L : Type 0} (content : L → List ℕ) (MayStand IsWhole : List L → Type 0)
    (text : List ℕ) (n : ℕ) : Type 0 where
  pub before : List L
  pub rest : List ℕ
  pub goes_on : GoesOn content MayStand IsWhole text n before rest
  pub cut_off : Lacks 10 rest
