-- What the first steps of a call show, however many.
use Rattle.std.specs.Prelude.{◌≡◌, ◌⊎◌, ℕ, ◌<◌, List, [], ◌++◌, length, Some, slice_get}
use Rattle.br_words.specs.declared.layout.Layout.{Layout}
use Rattle.br_bytes.specs.declared.run.Event.{Event}
use Rattle.br_bytes.specs.declared.run.Choice.{Choice}
use Rattle.br_bytes.specs.declared.run.Outcome.TheVariants.{Undefined}
use Rattle.br_bytes.specs.Memory.{Memory}
use Rattle.br_bytes.specs.Buffers.{AreWords, AreChoices}
use Rattle.br_syntax.specs.declared.program.Func.{Func}
use Rattle.br_source_meaning.specs.Calls.{call}
use Rattle.br_image.specs.declared.images.Entry.{Entry}
use Rattle.br_image.specs.declared.images.Image.{Image}
use Rattle.br_machine.specs.declared.stepped.Stepped.{Stepped}
use Rattle.br_machine.specs.declared.stepped.Stepped.TheVariants.{Ran, Read, Wrote}
use Rattle.br_machine.specs.declared.stepped.Stepped.TheVariants.{Waiting, Halted, Trapped}
use Rattle.br_machine.specs.State.{MachineState}
use Rattle.br_machine.specs.Start.{Leftover, IsLeftover, IsInData, start}
use Rattle.br_machine.specs.Steps.{Moment, next_step, after_steps}

abbrev pub DoesNotTrap : Stepped → Type 0
DoesNotTrap Ran = Unit {0}
DoesNotTrap (Read a v) = Unit {0}
DoesNotTrap (Wrote a v) = Unit {0}
DoesNotTrap (Waiting a) = Unit {0}
DoesNotTrap Halted = Unit {0}
DoesNotTrap (Trapped trap pc) = ⊥

-- a machine with these answers and no events yet
abbrev pub first_moment : MachineState → List ℕ → Moment
first_moment s answers = record { machine = s; answers = answers; trace = [] }

-- none of the first n steps traps, and the events of them are a front of this trace
pub record ShowsFront (n : ℕ) (m : Moment) (trace : List Event) : Type 0 where
  pub no_trap : (k : ℕ) → k < n → DoesNotTrap (next_step (after_steps k m)).1
  pub rest : List Event
  pub front : trace ≡ (after_steps n m).trace ++ rest

-- For some choices of buffers, the source's call with n units of fuel is undefined, or the
-- first n steps show a front of its trace.
abbrev pub FollowsAtFirst : Layout → List ℕ → List Func → Func → Entry → List ℕ → Memory → List ℕ
    → Leftover → ℕ → Type 0
FollowsAtFirst layout code fs f entry args m answers j n =
    (choices : List Choice) × AreChoices choices ×
    (let called = call fs f args m answers choices n in
    (called.outcome ≡ Undefined) ⊎ ShowsFront n
    (first_moment (start layout code entry.offset args m j) answers) called.trace)

-- What an image that implements a program shows after any number of steps, also
-- where it never ends: for every function, arguments, memory in the data region,
-- answers of devices and leftover contents.
pub record ImplementsAtFirst (i : Image) (fs : List Func) : Type 0 where
  pub follows : (n : ℕ) (f : Func) (entry : Entry) → slice_get fs n ≡ Some f
      → slice_get i.entries n ≡ Some entry
      → (args : List ℕ) → length args ≡ length f.args → AreWords args
      → (m : Memory) → IsInData m
      → (answers : List ℕ) → AreWords answers
      → (j : Leftover) → IsLeftover j
      → (steps : ℕ) → FollowsAtFirst i.layout i.code fs f entry args m answers j steps
