-- The commands: their words, how much they read, what they make of it, and what they refuse.
use Rattle.std.specs.Prelude.{ℕ, ◌≡◌, ◌<◌, List, [], ◌∷◌, length}
use Rattle.std.specs.Prelude.{codes, map, ⊤, String, Bool, true, false}
use Rattle.std.specs.declared.alloc.Global.{Global}
use Rattle.std.specs.String.{string_bytes}
use Rattle.br_bytes.specs.declared.run.Event.{Event}
use Rattle.br_sexpr.specs.declared.tree.Tree.{Tree}
use Rattle.br_sexpr.specs.Reads.{most_bytes, Reads}
use Rattle.br_sexpr.specs.Canonical.{canonical}
use Rattle.br_syntax.specs.declared.program.Func.{Func}
use Rattle.br_syntax.specs.Denotes.{Denotes}
use Rattle.br_image.specs.declared.images.Image.{Image as ProgramImage}
use Rattle.br_image.specs.Printed.{image_text}
use Rattle.br_image.specs.Faults.{IsFault}
use Rattle.br_image.specs.Traces.{IsTrace, IsTraceFault}
use Rattle.br_texts.specs.Verdict.{IsVerdict}
use Rattle.br_lightbulb.specs.Firmware.{IsFirmwareUpToOffsets}
use Rattle.br_listing.specs.Text.{list_text}
use Rattle.br_compile.specs.declared.refusal.Refusal.{Refusal}
use Rattle.br_compile.specs.declared.refusal.Refusal.TheVariants.{InputTooLong, Text, Shape, Names}
use Rattle.br_compile.specs.Refusal.{Accepts, IsFaultOf}
use Rattle.br_compile.specs.Implements.{Implements}
use Rattle.br_top.specs.declared.command.Command.{Command}
use Rattle.br_top.specs.declared.command.Command.TheVariants.{Compile, Print, List as Listing}
use Rattle.br_top.specs.declared.command.Command.TheVariants.{Run, Interp, Firmware, Judge}
use Rattle.br_top.specs.declared.trouble.Reason.{Reason}
use Rattle.br_top.specs.declared.trouble.Reason.TheVariants.{TooLong, Source, Image, Trace}
use Rattle.br_top.specs.Scripted.{AddsRun, AddsInterp, RefusesRun, RefusesInterp}

-- the words of a command
abbrev pub words_of : Command → List (List ℕ)
words_of Compile = codes "compile" ∷ []
words_of Print = codes "print" ∷ []
words_of Listing = codes "list" ∷ []
words_of Run = codes "run" ∷ []
words_of Interp = codes "interp" ∷ []
words_of Firmware = codes "firmware" ∷ []
words_of Judge = codes "judge" ∷ []

-- these texts are the words of the command
abbrev pub AreWordsOf : List (String Global) → Command → Type 0
AreWordsOf words command = map string_bytes words ≡ words_of command

-- these texts are the words of some command
abbrev pub AreWords : List (String Global) → Type 0
AreWords words = (command : Command) × AreWordsOf words command

-- whether a command reads its input
abbrev pub reads_input : Command → Bool
reads_input Compile = true
reads_input Print = true
reads_input Listing = true
reads_input Run = true
reads_input Interp = true
reads_input Firmware = false
reads_input Judge = true

-- the most bytes of any other input than a source text, a script and a text after it together
abbrev pub most_other_bytes : ℕ
most_other_bytes = 16777216

-- how many bytes of input a command reads at most, which is 0 where it does not read it
abbrev pub limit_of : Command → ℕ
limit_of Compile = most_bytes
limit_of Print = most_bytes
limit_of Listing = most_other_bytes
limit_of Run = most_other_bytes
limit_of Interp = most_other_bytes
limit_of Firmware = 0
limit_of Judge = most_other_bytes

-- the text of an image that implements the program of these bytes, which are an accepted text
pub record AddsImage (bytes text : List ℕ) : Type 0 where
  pub program : List Func
  pub image : ProgramImage
  pub accepted : Accepts bytes program
  pub implemented : Implements image program
  pub printed : text ≡ image_text image

-- the canonical text of the trees that these bytes are read as, which stand for a program
pub record AddsCanonical (bytes text : List ℕ) : Type 0 where
  pub trees : List Tree
  pub program : List Func
  pub read : Reads bytes trees
  pub denoted : Denotes trees program
  pub printed : text ≡ canonical trees

-- the listing of the image that these bytes are the text of
pub record AddsListing (bytes text : List ℕ) : Type 0 where
  pub image : ProgramImage
  pub read : bytes ≡ image_text image
  pub listed : text ≡ list_text image

-- the canonical text of trees that stand for the firmware, whatever its offsets are
pub record AddsFirmware (text : List ℕ) : Type 0 where
  pub trees : List Tree
  pub program : List Func
  pub denoted : Denotes trees program
  pub firmware : IsFirmwareUpToOffsets program
  pub printed : text ≡ canonical trees

-- the verdict on the events that these bytes tell
pub record AddsVerdict (bytes text : List ℕ) : Type 0 where
  pub events : List Event
  pub told : IsTrace bytes events
  pub judged : IsVerdict events text

-- for these bytes the command adds this text to its output
abbrev pub Adds : Command → List ℕ → List ℕ → Type 0
Adds Compile bytes text = AddsImage bytes text
Adds Print bytes text = AddsCanonical bytes text
Adds Listing bytes text = AddsListing bytes text
Adds Run bytes text = AddsRun bytes text
Adds Interp bytes text = AddsInterp bytes text
Adds Firmware bytes text = AddsFirmware text
Adds Judge bytes text = AddsVerdict bytes text

-- the refusal is for a fault of the text or of its shape, which come before all others
abbrev pub IsOfShape : Refusal → Type 0
IsOfShape InputTooLong = ⊥
IsOfShape (Text fault) = ⊤
IsOfShape (Shape fault) = ⊤
IsOfShape (Names fault) = ⊥

-- the command refuses these bytes, for this reason; one that
-- does not read its input refuses nothing
abbrev pub Refuses : Command → List ℕ → Reason → Type 0
Refuses Firmware bytes reason = ⊥
Refuses command bytes TooLong = limit_of command < length bytes
Refuses Compile bytes (Source refusal) = IsFaultOf bytes refusal
Refuses Compile bytes other = ⊥
Refuses Print bytes (Source refusal) = IsFaultOf bytes refusal × IsOfShape refusal
Refuses Print bytes other = ⊥
Refuses Listing bytes (Image fault) = IsFault bytes fault
Refuses Listing bytes other = ⊥
Refuses Run bytes reason = RefusesRun bytes reason
Refuses Interp bytes reason = RefusesInterp bytes reason
Refuses Judge bytes (Trace fault) = IsTraceFault bytes fault
Refuses Judge bytes other = ⊥
