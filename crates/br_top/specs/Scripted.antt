-- What the commands that read a script add for their input, and why they refuse it.
use Rattle.std.specs.Prelude.{ℕ, ◌≡◌, ◌≢◌, ◌<◌, ◌≤◌, List, length, drop, Some, None}
use Rattle.br_syntax.specs.declared.program.Func.{Func}
use Rattle.br_syntax.specs.Functions.{function_named}
use Rattle.br_image.specs.declared.images.Entry.{Entry}
use Rattle.br_image.specs.declared.images.Image.{Image as ProgramImage}
use Rattle.br_image.specs.declared.scripts.values.RunScript.{RunScript}
use Rattle.br_image.specs.declared.scripts.values.InterpScript.{InterpScript}
use Rattle.br_image.specs.Printed.{image_text}
use Rattle.br_image.specs.Faults.{IsFault}
use Rattle.br_image.specs.Scripts.{run_parts, interp_parts, IsRunScript}
use Rattle.br_image.specs.Scripts.{IsInterpScript, IsScriptFault}
use Rattle.br_sexpr.specs.Reads.{most_bytes}
use Rattle.br_compile.specs.Refusal.{Accepts, IsFaultOf}
use Rattle.br_texts.specs.Entries.{entry_named}
use Rattle.br_texts.specs.RunText.{IsRunText}
use Rattle.br_texts.specs.InterpText.{interp_text}
use Rattle.br_top.specs.declared.trouble.Reason.{Reason}
use Rattle.br_top.specs.declared.trouble.Reason.TheVariants.{Source, Image, Script, TextTooLong}
use Rattle.br_top.specs.declared.trouble.Reason.TheVariants.{UnknownEntry, WrongCount}

-- ---- the run of an image

-- the bytes are a run script, and after it the text of an image
pub record HoldsRun (bytes : List ℕ) (script : RunScript) (image : ProgramImage) : Type 0 where
  pub at : ℕ
  pub scripted : IsRunScript bytes script at
  pub read : drop at bytes ≡ image_text image

-- what the run of the script on the image shows, which calls the entry that the script names
pub record AddsRun (bytes text : List ℕ) : Type 0 where
  pub script : RunScript
  pub image : ProgramImage
  pub entry : Entry
  pub holds : HoldsRun bytes script image
  pub named : entry_named image.entries script.call ≡ Some entry
  pub counted : length script.args ≡ entry.args
  pub shown : IsRunText script image entry text

-- why a script cannot call an entry of an image: none has the name, or it takes another number of
-- arguments, which is told
abbrev pub IsEntryFault : ProgramImage → RunScript → Reason → Type 0
IsEntryFault image script UnknownEntry = entry_named image.entries script.call ≡ None
IsEntryFault image script (WrongCount count) =
    (entry : Entry) × (entry_named image.entries script.call ≡ Some entry) × (count ≡ entry.args)
    × (length script.args ≢ count)
IsEntryFault image script other = ⊥

-- why the bytes are refused: for the script, else for the image, else for the entry
abbrev pub RefusesRun : List ℕ → Reason → Type 0
RefusesRun bytes (Script fault) = IsScriptFault run_parts bytes fault
RefusesRun bytes (Image fault) =
    (script : RunScript) × (at : ℕ) × IsRunScript bytes script at × IsFault (drop at bytes) fault
RefusesRun bytes UnknownEntry =
    (script : RunScript) × (image : ProgramImage) × HoldsRun bytes script image
    × IsEntryFault image script UnknownEntry
RefusesRun bytes (WrongCount count) =
    (script : RunScript) × (image : ProgramImage) × HoldsRun bytes script image
    × IsEntryFault image script (WrongCount count)
RefusesRun bytes other = ⊥

-- ---- the run of a source program

-- the bytes are an interp script, and after it a text that is accepted as a program
pub record HoldsInterp (bytes : List ℕ) (script : InterpScript) (program : List Func) : Type 0 where
  pub at : ℕ
  pub scripted : IsInterpScript bytes script at
  pub accepted : Accepts (drop at bytes) program

-- what the run of the script on the program shows, which calls the function that the script names
pub record AddsInterp (bytes text : List ℕ) : Type 0 where
  pub script : InterpScript
  pub program : List Func
  pub function : Func
  pub holds : HoldsInterp bytes script program
  pub named : function_named program script.call ≡ Some function
  pub counted : length script.args ≡ length function.args
  pub shown : text ≡ interp_text script program function

-- why a source text is refused: for its length, else for its first fault
abbrev pub RefusesText : List ℕ → Reason → Type 0
RefusesText text TextTooLong = most_bytes < length text
RefusesText text (Source refusal) = (length text ≤ most_bytes) × IsFaultOf text refusal
RefusesText text other = ⊥

-- why a script cannot call a function of a program, as for an entry
abbrev pub IsFunctionFault : List Func → InterpScript → Reason → Type 0
IsFunctionFault program script UnknownEntry = function_named program script.call ≡ None
IsFunctionFault program script (WrongCount count) =
    (function : Func) × (function_named program script.call ≡ Some function)
    × (count ≡ length function.args) × (length script.args ≢ count)
IsFunctionFault program script other = ⊥

-- why the bytes are refused: for the script, else for the text, else for the function
abbrev pub RefusesInterp : List ℕ → Reason → Type 0
RefusesInterp bytes (Script fault) = IsScriptFault interp_parts bytes fault
RefusesInterp bytes TextTooLong =
    (script : InterpScript) × (at : ℕ) × IsInterpScript bytes script at
    × RefusesText (drop at bytes) TextTooLong
RefusesInterp bytes (Source refusal) =
    (script : InterpScript) × (at : ℕ) × IsInterpScript bytes script at
    × RefusesText (drop at bytes) (Source refusal)
RefusesInterp bytes UnknownEntry =
    (script : InterpScript) × (program : List Func) × HoldsInterp bytes script program
    × IsFunctionFault program script UnknownEntry
RefusesInterp bytes (WrongCount count) =
    (script : InterpScript) × (program : List Func) × HoldsInterp bytes script program
    × IsFunctionFault program script (WrongCount count)
RefusesInterp bytes other = ⊥
