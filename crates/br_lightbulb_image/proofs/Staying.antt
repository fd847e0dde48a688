-- An image that implements the firmware stays in the trace language.
use Rattle.std.proofs.Common.{◌≡◌, ℕ, ◌⊎◌, inl, inr, List, [], ◌++◌, length, Some, sym, ap, subst, ◌∙◌, append_assoc}
use Rattle.br_words.specs.declared.layout.Layout.{Layout}
use Rattle.br_bytes.specs.declared.run.Choice.{Choice}
use Rattle.br_bytes.specs.declared.run.Outcome.TheVariants.{Undefined}
use Rattle.br_bytes.specs.Memory.{Memory}
use Rattle.br_bytes.specs.Called.{Called}
use Rattle.br_sexpr.specs.declared.tree.Tree.{Tree}
use Rattle.br_sexpr.specs.Reads.{Reads}
use Rattle.br_syntax.specs.declared.program.Func.{Func}
use Rattle.br_syntax.specs.Denotes.{Denotes}
use Rattle.br_syntax.specs.Functions.{function_named}
use Rattle.br_syntax.specs.Offsets.{IsEqualUpToOffsets}
use Rattle.br_source_meaning.specs.Calls.{call}
use Rattle.br_judge.specs.Good.{Good}
use Rattle.br_lightbulb.specs.Firmware.{IsFirmwareUpToOffsets}
use Rattle.br_lightbulb.specs.Names as name
use Rattle.br_lightbulb.specs.Polls.{firmware}
use Rattle.br_lightbulb.specs.Shows.{StaysGood}
use Rattle.br_image.specs.declared.images.Entry.{Entry}
use Rattle.br_image.specs.declared.images.Image.{Image}
use Rattle.br_machine.specs.Start.{Leftover, start}
use Rattle.br_machine.specs.Steps.{Moment, after_steps}
use Rattle.br_compile.specs.FirstSteps.{ShowsFront, FollowsAtFirst, first_moment}
use Rattle.br_compile.specs.Implements.{Follows, Implements}
use Rattle.br_compile.specs.Refusal.{Accepts}
use Rattle.br_lightbulb_image.specs.Images.{IsFirmwareText, StaysGoodFor, ImageStaysGood}
use Rattle.br_lightbulb_image.proofs.Functions.{has_main, main_is_first}
use Rattle.br_lightbulb_image.proofs.Entries.{function_of_entry, entry_of_function}

-- what the crates below say of texts, of the firmware and of images
pub record Laws : Type 0 where
  pub one_reading : (text : List ℕ) (ts us : List Tree) → Reads text ts → Reads text us → ts ≡ us
  pub one_program : (trees : List Tree) (fs gs : List Func) → Denotes trees fs → Denotes trees gs → fs ≡ gs
  pub trees : (fs : List Func) → IsFirmwareUpToOffsets fs → IsEqualUpToOffsets fs firmware
  pub stays : (fs : List Func) (f : Func) → IsFirmwareUpToOffsets fs → function_named fs name.main ≡ Some f
      → (m : Memory) (answers : List ℕ) (choices : List Choice) (fuel : ℕ)
      → StaysGood (call fs f [] m answers choices fuel)
  pub first_steps : (layout : Layout) (code : List ℕ) (fs : List Func) (f : Func) (entry : Entry) (args : List ℕ)
      (m : Memory) (answers : List ℕ) (j : Leftover) (n : ℕ)
      → Follows layout code fs f entry args m answers j n → FollowsAtFirst layout code fs f entry args m answers j n

-- the program that a text is accepted as is the one that it stands for
accepted_firmware : Laws → (text : List ℕ) (fs : List Func) → Accepts text fs → IsFirmwareText text
    → IsFirmwareUpToOffsets fs
accepted_firmware laws text fs ((short, ts, reads, denotes), sound) (gs, (us, reads', denotes'), is) =
    let same : ts ≡ us = laws.one_reading text ts us reads reads' in
    let there : Denotes us fs = subst (λ xs. Denotes xs fs) same denotes in
    subst IsFirmwareUpToOffsets (laws.one_program us gs fs denotes' there) is

-- steps that show the first events of a call that stays in the language stay in it too
stays_for : (n : ℕ) (m : Moment) (called : Called) → StaysGood called
    → (called.outcome ≡ Undefined) ⊎ ShowsFront n m called.trace → StaysGoodFor n m
stays_for n m called good (inl undefined) = absurd (good.0 undefined)
stays_for n m called (defined, (rest, is)) (inr shown) =
    let events = (after_steps n m).trace in
    record {
      no_trap = shown.no_trap;
      good = (
        shown.rest ++ rest,
        subst Good (ap (λ es. es ++ rest) shown.front ∙ append_assoc events shown.rest rest) is,
      );
    }

pub image_stays : Laws → (text : List ℕ) (fs : List Func) (i : Image)
    → Accepts text fs → Implements i fs → IsFirmwareText text → ImageStaysGood i
image_stays laws text fs i accepts does is =
    let fine = accepted_firmware laws text fs accepts is in
    let equal = laws.trees fs fine in
    let last = has_main fs equal in
    let its = entry_of_function fs fs i.entries does.described 9 last.0 last.1 in
    record {
      main = (9, its.0, (its.1, its.2.0 ∙ last.2), its.2.1 ∙ ap length last.3);
      stays = λ n entry named m inside answers are j left steps.
          let found = function_of_entry fs fs i.entries does.described n entry named.0 in
          let f = found.0 in
          let first = main_is_first fs equal n f found.1 (sym found.2.0 ∙ named.1) in
          let followed = does.follows n f entry found.1 named.0 [] (sym (ap length first.1)) tt m inside answers are
          j left steps in
          let shown = laws.first_steps i.layout i.code fs f entry [] m answers j steps followed in
          stays_for steps (first_moment (start i.layout i.code entry.offset [] m j) answers)
          (call fs f [] m answers shown.0 steps) (laws.stays fs f fine first.0 m answers shown.0 steps) shown.2;
    }
