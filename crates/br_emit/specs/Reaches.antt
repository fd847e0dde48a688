-- What the machine has to do so that it shows the end of a call:
-- its outcome, its trace and its memory.
use Rattle.std.specs.Prelude.{◌≡◌, ℕ, ◌+◌, ◌-◌, ◌<◌, ◌≤◌, List, []}
use Rattle.std.specs.Prelude.{slice_get, Option, Some, None, unwrap_or}
use Rattle.std.specs.FinMap as map
use Rattle.br_bytes.specs.declared.run.Event.{Event}
use Rattle.br_bytes.specs.declared.run.Outcome.{Outcome}
use Rattle.br_bytes.specs.declared.run.Outcome.TheVariants.{Done, Waiting, OutOfFuel}
use Rattle.br_bytes.specs.declared.run.Outcome.TheVariants.{Undefined, NoChoice}
use Rattle.br_bytes.specs.Memory.{Memory}
use Rattle.br_machine.specs.declared.stepped.Stepped.TheVariants as stepped
use Rattle.br_words.specs.Layout.{data_base, stack_base, stack_end}
use Rattle.br_machine.specs.State.{MachineState, register, byte_of}
use Rattle.br_machine.specs.Step.{step}
use Rattle.br_machine.specs.Steps.{Moment, Runs}

-- the words stand in x10, x11 and so on
abbrev pub HoldsResults : List ℕ → MachineState → Type 0
HoldsResults words s = (i v : ℕ) → slice_get words i ≡ Some v → register s (10 + i) ≡ v

-- How the machine stands after so many steps that show a call to its end. Done: it is at ECALL with
-- the results. Waiting: every answer was taken, and it waits at that address. Out of fuel: it has
-- made at least as many steps as there was fuel. Nothing shows the other two ends.
abbrev pub ShowsEnd : Outcome → ℕ → ℕ → Moment → Type 0
ShowsEnd (Done words) fuel steps m =
    ((next : Option ℕ) → (step m.machine next).1 ≡ stepped.Halted) × HoldsResults words m.machine
ShowsEnd (Waiting a) fuel steps m = (m.answers ≡ []) × ((step m.machine None).1 ≡ stepped.Waiting a)
ShowsEnd OutOfFuel fuel steps m = fuel ≤ steps
ShowsEnd Undefined fuel steps m = ⊥
ShowsEnd NoChoice fuel steps m = ⊥

-- each byte of the data region is the memory's where it has the address, and else as at the start
abbrev pub ShowsMemory : Memory → MachineState → MachineState → Type 0
ShowsMemory m start end =
    (a : ℕ) → data_base ≤ a → a < stack_base
    → byte_of end a ≡ unwrap_or (map.get m a) (byte_of start a)

-- From a start and with these answers, the machine makes at most `bound` steps, of which
-- each is Ran, Read or Wrote, none changes a byte of the code region, and none loads or
-- stores a byte of the stack region more than `need` below its end. They show the call's
-- outcome, its whole trace and its memory.
pub record Reaches (start : MachineState) (answers : List ℕ) (outcome : Outcome)
    (trace : List Event) (memory : Memory) (fuel need bound : ℕ) : Type 0 where
  pub steps : ℕ
  pub within : steps ≤ bound
  pub last : Moment
  pub runs : Runs (stack_end - need) steps
      (record { machine = start; answers = answers; trace = [] }) last
  pub shows_trace : last.trace ≡ trace
  pub shows_memory : ShowsMemory memory start last.machine
  pub shows_end : ShowsEnd outcome fuel steps last
