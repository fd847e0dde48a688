-- What it means that an image implements a program (Integration Verification across Software and
-- Hardware for a Simple Embedded System, PLDI 2021: the compiler's theorem and the machine's).
use Rattle.std.specs.Prelude.{◌≡◌, ◌⊎◌, ℕ, ◌+◌, ◌*◌, ◌≤◌, List, [], ◌∷◌, length, Some, slice_get}
use Rattle.br_words.specs.declared.layout.Layout.{Layout}
use Rattle.br_bytes.specs.declared.run.Choice.{Choice}
use Rattle.br_bytes.specs.declared.run.Outcome.TheVariants.{Undefined}
use Rattle.br_bytes.specs.Memory.{Memory}
use Rattle.br_bytes.specs.Buffers.{AreWords, AreChoices}
use Rattle.br_syntax.specs.declared.program.Func.{Func}
use Rattle.br_measure.specs.Bulk.{bulk}
use Rattle.br_measure.specs.Measure.{measure}
use Rattle.br_source_meaning.specs.Calls.{call}
use Rattle.br_image.specs.declared.images.Entry.{Entry}
use Rattle.br_image.specs.declared.images.Image.{Image}
use Rattle.br_machine.specs.Start.{Leftover, IsLeftover, IsInData, start}
use Rattle.br_emit.specs.Reaches.{Reaches}

-- words of code, and steps for each unit of fuel, for each unit of bulk
abbrev pub rate : ℕ
rate = 24

-- The image follows the program in a call: there are choices of buffers with which the source's
-- call either is undefined, or does not end for want of a choice and is shown by the machine, its
-- end, its trace and its memory, in at most (fuel + 1) * 24 * bulk steps.
abbrev pub Follows : Layout → List ℕ → List Func → Func → Entry → List ℕ → Memory → List ℕ
    → Leftover → ℕ → Type 0
Follows layout code fs f entry args m answers j fuel =
    (choices : List Choice) × AreChoices choices ×
    (let called = call fs f args m answers choices fuel in
    (called.outcome ≡ Undefined)
    ⊎ Reaches (start layout code entry.offset args m j) answers called.outcome called.trace
    called.memory fuel entry.need ((fuel + 1) * rate * bulk fs))

-- what an entry says of its function
abbrev pub Describes : List Func → Func → Entry → Type 0
Describes fs f entry =
    (entry.name ≡ f.name) × (entry.args ≡ length f.args) × (entry.results ≡ length f.results)
    × (entry.need ≤ measure fs f)

-- one entry for each function, in the order of the text
abbrev pub AllDescribed : List Func → List Func → List Entry → Type 0
AllDescribed fs [] [] = Unit {0}
AllDescribed fs (f ∷ rest) (entry ∷ entries) = Describes fs f entry × AllDescribed fs rest entries
AllDescribed fs [] (entry ∷ entries) = ⊥
AllDescribed fs (f ∷ rest) [] = ⊥

-- The image implements the program: an entry for each function, at most 24 words of code for each
-- unit of bulk, and for every function, arguments, memory in the data region, answers of devices,
-- leftover contents and fuel it follows the program.
pub record Implements (i : Image) (fs : List Func) : Type 0 where
  pub described : AllDescribed fs fs i.entries
  pub short : length i.code ≤ rate * bulk fs
  pub follows : (n : ℕ) (f : Func) (entry : Entry) → slice_get fs n ≡ Some f
      → slice_get i.entries n ≡ Some entry
      → (args : List ℕ) → length args ≡ length f.args → AreWords args
      → (m : Memory) → IsInData m
      → (answers : List ℕ) → AreWords answers
      → (j : Leftover) → IsLeftover j
      → (fuel : ℕ) → Follows i.layout i.code fs f entry args m answers j fuel
