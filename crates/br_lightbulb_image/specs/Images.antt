-- What an image of the firmware does on the machine.
use Rattle.std.specs.Prelude.{◌≡◌, ℕ, ◌<◌, List, [], Some, slice_get}
use Rattle.br_bytes.specs.Memory.{Memory}
use Rattle.br_bytes.specs.Buffers.{AreWords}
use Rattle.br_syntax.specs.declared.program.Func.{Func}
use Rattle.br_judge.specs.Good.{BeginsGood}
use Rattle.br_lightbulb.specs.Firmware.{IsProgramOf, IsFirmwareUpToOffsets}
use Rattle.br_lightbulb.specs.Names as name
use Rattle.br_image.specs.declared.images.Entry.{Entry}
use Rattle.br_image.specs.declared.images.Image.{Image}
use Rattle.br_machine.specs.Start.{Leftover, IsLeftover, IsInData, start}
use Rattle.br_machine.specs.Steps.{Moment, next_step, after_steps}
use Rattle.br_compile.specs.FirstSteps.{DoesNotTrap, first_moment}

-- the text is that of trees that stand for the firmware, whatever its offsets are
abbrev pub IsFirmwareText : List ℕ → Type 0
IsFirmwareText text = (fs : List Func) × IsProgramOf text fs × IsFirmwareUpToOffsets fs

-- none of the first n steps traps, and a member of the trace
-- language begins with the events of them
pub record StaysGoodFor (n : ℕ) (m : Moment) : Type 0 where
  pub no_trap : (k : ℕ) → k < n → DoesNotTrap (next_step (after_steps k m)).1
  pub good : BeginsGood (after_steps n m).trace

-- the entry of this number is that of `main`
abbrev pub IsMain : Image → ℕ → Entry → Type 0
IsMain i n entry = (slice_get i.entries n ≡ Some entry) × (entry.name ≡ name.main)

-- The image has an entry `main` without arguments. From there, for every memory in the data region,
-- answers of devices and leftover contents, every number of steps stays in the trace language.
pub record ImageStaysGood (i : Image) : Type 0 where
  pub main : (n : ℕ) × (entry : Entry) × IsMain i n entry × (entry.args ≡ 0)
  pub stays : (n : ℕ) (entry : Entry) → IsMain i n entry
      → (m : Memory) → IsInData m
      → (answers : List ℕ) → AreWords answers
      → (j : Leftover) → IsLeftover j
      → (steps : ℕ)
      → StaysGoodFor steps (first_moment (start i.layout i.code entry.offset [] m j) answers)
