-- What a run of an image adds a text for is not refused.
use Rattle.std.proofs.Common.{◌≡◌, ◌≤◌, ℕ, List, length, drop, subst, sym, ap, ◌∙◌, arith}
use Rattle.br_base.specs.declared.failure.OrMemory.{OrMemory}
use Rattle.br_base.specs.declared.failure.OrMemory.TheVariants.{Memory as Wanting, Fault}
use Rattle.br_image.specs.declared.faults.ImageFault.{ImageFault}
use Rattle.br_image.specs.declared.images.Image.{Image as ProgramImage}
use Rattle.br_image.specs.declared.scripts.values.RunScript.{RunScript}
use Rattle.br_image.specs.declared.scripts.values.ScriptFault.{ScriptFault}
use Rattle.br_image.specs.Faults.{IsFault}
use Rattle.br_base.specs.Faults.{IfFault}
use Rattle.br_image.specs.Printed.{image_text}
use Rattle.br_image.specs.Scripts.{run_parts, IsRunScript, IsScriptFault}
use Rattle.br_top.specs.declared.command.Command.TheVariants.{Run}
use Rattle.br_top.specs.declared.trouble.Reason.TheVariants.{TooLong, Source, Image, Script, TextTooLong}
use Rattle.br_top.specs.declared.trouble.Reason.TheVariants.{UnknownEntry, WrongCount, Trace}
use Rattle.br_top.specs.declared.trouble.Trouble.{Trouble}
use Rattle.br_top.specs.declared.trouble.Trouble.TheVariants.{Memory, ReadFault, Refused}
use Rattle.br_top.specs.Answers.{IsUnrefused}
use Rattle.br_top.specs.Commands.{Refuses}
use Rattle.br_top.specs.Scripted.{HoldsRun, AddsRun, IsEntryFault}
use Rattle.br_top.specs.Troubles.{IsRefusedFor, trouble_of, image_reason}

-- a fault of what follows a script
pub image_refused : (bytes : List ℕ) (s : RunScript) (at : ℕ) → IsRunScript bytes s at → (cause : OrMemory ImageFault) →
    IfFault cause (IsFault (drop at bytes)) → IsRefusedFor (Refuses Run bytes) (trouble_of image_reason cause)
image_refused bytes s at script Wanting faulty = tt
image_refused bytes s at script (Fault fault) faulty = (s, at, script, faulty)

-- a script that cannot call an entry of the image after it
pub entry_refused : (bytes : List ℕ) (s : RunScript) (i : ProgramImage) → HoldsRun bytes s i → (trouble : Trouble) →
    IsRefusedFor (IsEntryFault i s) trouble → IsRefusedFor (Refuses Run bytes) trouble
entry_refused bytes s i holds Memory refused = tt
entry_refused bytes s i holds ReadFault refused = refused
entry_refused bytes s i holds (Refused TooLong) refused = absurd refused
entry_refused bytes s i holds (Refused (Source refusal)) refused = absurd refused
entry_refused bytes s i holds (Refused (Image fault)) refused = absurd refused
entry_refused bytes s i holds (Refused (Script fault)) refused = absurd refused
entry_refused bytes s i holds (Refused TextTooLong) refused = absurd refused
entry_refused bytes s i holds (Refused (Trace fault)) refused = absurd refused
entry_refused bytes s i holds (Refused UnknownEntry) refused = (s, i, holds, refused)
entry_refused bytes s i holds (Refused (WrongCount count)) refused = (s, i, holds, refused)

-- what holds of run scripts and of the texts of images
pub record Laws : Type 0 where
  pub no_fault : (text : List ℕ) (s : RunScript) (at : ℕ) (f : ScriptFault) → IsRunScript text s at
      → IsScriptFault run_parts text f → ⊥
  pub one_script : (text : List ℕ) (s t : RunScript) (at to : ℕ) → IsRunScript text s at → IsRunScript text t to
      → (s ≡ t) × (at ≡ to)
  pub no_image_fault : (text : List ℕ) (i : ProgramImage) (f : ImageFault) → text ≡ image_text i → IsFault text f → ⊥
  pub one_image : (i j : ProgramImage) → image_text i ≡ image_text j → i ≡ j

-- bytes hold one script and one image
one_run : Laws → (bytes : List ℕ) (s t : RunScript) (i j : ProgramImage) → HoldsRun bytes s i → HoldsRun bytes t j
    → (s ≡ t) × (i ≡ j)
one_run laws bytes s t i j first second =
    let same = laws.one_script bytes s t first.at second.at first.scripted second.scripted in
    (same.0, laws.one_image i j (sym first.read ∙ ap (λ at. drop at bytes) same.1 ∙ second.read))

pub run_unrefused : Laws → (bytes text : List ℕ) → length bytes ≤ 16777216 → AddsRun bytes text → IsUnrefused Run bytes
run_unrefused laws bytes text short adds TooLong refused = omega (arith, short, refused)
run_unrefused laws bytes text short adds (Source refusal) refused = refused
run_unrefused laws bytes text short adds TextTooLong refused = refused
run_unrefused laws bytes text short adds (Trace fault) refused = refused
run_unrefused laws bytes text short adds (Script fault) refused =
    laws.no_fault bytes adds.script adds.holds.at fault adds.holds.scripted refused
run_unrefused laws bytes text short adds (Image fault) refused =
    let same = laws.one_script bytes adds.script refused.0 adds.holds.at refused.1 adds.holds.scripted refused.2 in
    let faulty = subst (λ (at : ℕ). IsFault (drop at bytes) fault) (sym same.1) refused.3 in
    laws.no_image_fault (drop adds.holds.at bytes) adds.image fault adds.holds.read faulty
run_unrefused laws bytes text short adds UnknownEntry refused =
    let same = one_run laws bytes adds.script refused.0 adds.image refused.1 adds.holds refused.2 in
    let here = adds.named in
    let none = refused.3 in
    let scripts = same.0 in
    let images = same.1 in
    cc
run_unrefused laws bytes text short adds (WrongCount count) refused =
    let same = one_run laws bytes adds.script refused.0 adds.image refused.1 adds.holds refused.2 in
    let here = adds.named in
    let there = refused.3.1 in
    let number = refused.3.2 in
    let scripts = same.0 in
    let images = same.1 in
    let counted = adds.counted in
    refused.3.3 cc
