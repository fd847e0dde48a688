-- What a run of a source program adds a text for is not refused.
use Rattle.std.proofs.Common.{◌≡◌, ◌≤◌, ℕ, List, length, drop, subst, sym, arith}
use Rattle.br_syntax.specs.declared.program.Func.{Func}
use Rattle.br_image.specs.declared.scripts.values.InterpScript.{InterpScript}
use Rattle.br_image.specs.declared.scripts.values.ScriptFault.{ScriptFault}
use Rattle.br_image.specs.Scripts.{interp_parts, IsInterpScript, IsScriptFault}
use Rattle.br_compile.specs.declared.refusal.Refusal.{Refusal}
use Rattle.br_compile.specs.Refusal.{Accepts, IsFaultOf}
use Rattle.br_top.specs.declared.command.Command.TheVariants.{Interp}
use Rattle.br_top.specs.declared.trouble.Reason.TheVariants.{TooLong, Source, Image, Script, TextTooLong}
use Rattle.br_top.specs.declared.trouble.Reason.TheVariants.{UnknownEntry, WrongCount, Trace}
use Rattle.br_top.specs.declared.trouble.Trouble.{Trouble}
use Rattle.br_top.specs.declared.trouble.Trouble.TheVariants.{Memory, ReadFault, Refused}
use Rattle.br_top.specs.Answers.{IsUnrefused}
use Rattle.br_top.specs.Commands.{Refuses}
use Rattle.br_top.specs.Scripted.{HoldsInterp, AddsInterp, IsFunctionFault, RefusesText}
use Rattle.br_top.specs.Troubles.{IsRefusedFor}

-- a text after a script that is refused
pub text_refused : (bytes : List ℕ) (s : InterpScript) (at : ℕ) → IsInterpScript bytes s at → (trouble : Trouble) →
    IsRefusedFor (RefusesText (drop at bytes)) trouble → IsRefusedFor (Refuses Interp bytes) trouble
text_refused bytes s at script Memory refused = tt
text_refused bytes s at script ReadFault refused = refused
text_refused bytes s at script (Refused TooLong) refused = absurd refused
text_refused bytes s at script (Refused (Source refusal)) refused = (s, at, script, refused)
text_refused bytes s at script (Refused (Image fault)) refused = absurd refused
text_refused bytes s at script (Refused (Script fault)) refused = absurd refused
text_refused bytes s at script (Refused TextTooLong) refused = (s, at, script, refused)
text_refused bytes s at script (Refused UnknownEntry) refused = absurd refused
text_refused bytes s at script (Refused (Trace fault)) refused = absurd refused
text_refused bytes s at script (Refused (WrongCount count)) refused = absurd refused

-- a script that cannot call a function of the program after it
pub function_refused : (bytes : List ℕ) (s : InterpScript) (fs : List Func) → HoldsInterp bytes s fs
    → (trouble : Trouble) →
    IsRefusedFor (IsFunctionFault fs s) trouble → IsRefusedFor (Refuses Interp bytes) trouble
function_refused bytes s fs holds Memory refused = tt
function_refused bytes s fs holds ReadFault refused = refused
function_refused bytes s fs holds (Refused TooLong) refused = absurd refused
function_refused bytes s fs holds (Refused (Source refusal)) refused = absurd refused
function_refused bytes s fs holds (Refused (Image fault)) refused = absurd refused
function_refused bytes s fs holds (Refused (Script fault)) refused = absurd refused
function_refused bytes s fs holds (Refused TextTooLong) refused = absurd refused
function_refused bytes s fs holds (Refused (Trace fault)) refused = absurd refused
function_refused bytes s fs holds (Refused UnknownEntry) refused = (s, fs, holds, refused)
function_refused bytes s fs holds (Refused (WrongCount count)) refused = (s, fs, holds, refused)

-- what holds of interp scripts and of source texts
pub record Laws : Type 0 where
  pub no_fault : (text : List ℕ) (s : InterpScript) (at : ℕ) (f : ScriptFault) → IsInterpScript text s at
      → IsScriptFault interp_parts text f → ⊥
  pub one_script : (text : List ℕ) (s t : InterpScript) (at to : ℕ) → IsInterpScript text s at
      → IsInterpScript text t to → (s ≡ t) × (at ≡ to)
  pub no_text_fault : (text : List ℕ) (fs : List Func) (r : Refusal) → Accepts text fs → IsFaultOf text r → ⊥
  pub one_program : (text : List ℕ) (fs gs : List Func) → Accepts text fs → Accepts text gs → fs ≡ gs

-- bytes hold one script and one program
one_interp : Laws → (bytes : List ℕ) (s t : InterpScript) (fs gs : List Func) → HoldsInterp bytes s fs
    → HoldsInterp bytes t gs → (s ≡ t) × (fs ≡ gs)
one_interp laws bytes s t fs gs first second =
    let same = laws.one_script bytes s t first.at second.at first.scripted second.scripted in
    let other = subst (λ (at : ℕ). Accepts (drop at bytes) gs) (sym same.1) second.accepted in
    (same.0, laws.one_program (drop first.at bytes) fs gs first.accepted other)

-- the text after the script is where another reading of the script ends
same_place : Laws → (bytes : List ℕ) (s t : InterpScript) (at to : ℕ) → IsInterpScript bytes s at
    → IsInterpScript bytes t to → to ≡ at
same_place laws bytes s t at to first second = let same = laws.one_script bytes s t at to first second in sym same.1

pub interp_unrefused : Laws → (bytes text : List ℕ) → length bytes ≤ 16777216 → AddsInterp bytes text
    → IsUnrefused Interp bytes
interp_unrefused laws bytes text short adds TooLong refused = omega (arith, short, refused)
interp_unrefused laws bytes text short adds (Image fault) refused = refused
interp_unrefused laws bytes text short adds (Trace fault) refused = refused
interp_unrefused laws bytes text short adds (Script fault) refused =
    laws.no_fault bytes adds.script adds.holds.at fault adds.holds.scripted refused
interp_unrefused laws bytes text short adds TextTooLong refused =
    let place = same_place laws bytes adds.script refused.0 adds.holds.at refused.1 adds.holds.scripted refused.2 in
    let long = subst (λ (at : ℕ). 1048577 ≤ length (drop at bytes)) place refused.3 in
    let fits = adds.holds.accepted.0.0 in
    omega (arith, long, fits)
interp_unrefused laws bytes text short adds (Source refusal) refused =
    let place = same_place laws bytes adds.script refused.0 adds.holds.at refused.1 adds.holds.scripted refused.2 in
    let faulty = subst (λ (at : ℕ). IsFaultOf (drop at bytes) refusal) place refused.3.1 in
    laws.no_text_fault (drop adds.holds.at bytes) adds.program refusal adds.holds.accepted faulty
interp_unrefused laws bytes text short adds UnknownEntry refused =
    let same = one_interp laws bytes adds.script refused.0 adds.program refused.1 adds.holds refused.2 in
    let here = adds.named in
    let none = refused.3 in
    let scripts = same.0 in
    let programs = same.1 in
    cc
interp_unrefused laws bytes text short adds (WrongCount count) refused =
    let same = one_interp laws bytes adds.script refused.0 adds.program refused.1 adds.holds refused.2 in
    let here = adds.named in
    let there = refused.3.1 in
    let number = refused.3.2 in
    let scripts = same.0 in
    let programs = same.1 in
    let counted = adds.counted in
    refused.3.3 cc
