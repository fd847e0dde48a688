-- A run of the machine: steps until one does not go on, or as many as a limit allows.
use Rattle.std.specs.Prelude.{ℕ, ◌<◌, List, IsSome}
use Rattle.br_bytes.specs.declared.run.Event.{Event}
use Rattle.br_machine.specs.declared.running.End.{End}
use Rattle.br_machine.specs.declared.running.End.TheVariants as end
use Rattle.br_machine.specs.declared.stepped.Stepped.{Stepped}
use Rattle.br_machine.specs.declared.stepped.Stepped.TheVariants.{Ran, Read, Wrote}
use Rattle.br_machine.specs.declared.stepped.Stepped.TheVariants.{Waiting, Halted, Trapped}
use Rattle.br_machine.specs.State.{MachineState}
use Rattle.br_machine.specs.Steps.{Moment, moment_after, next_step, after_steps}

-- a machine that has taken none of these answers yet, after these events
abbrev pub at_start : MachineState → List ℕ → List Event → Moment
at_start s answers events = record { machine = s; answers = answers; trace = events }

-- the step at a moment goes on
abbrev pub GoesOn : Moment → Type 0
GoesOn m = IsSome (moment_after m (next_step m))

-- each of the first n steps goes on
abbrev pub AllGoOn : ℕ → Moment → Type 0
AllGoOn n m = (k : ℕ) → k < n → GoesOn (after_steps k m)

-- the end of a run at a step that ended so: still running, where the step went on
abbrev pub end_of : Stepped → End
end_of Ran = end.Running
end_of (Read a v) = end.Running
end_of (Wrote a v) = end.Running
end_of (Waiting a) = end.Waiting a
end_of Halted = end.Halted
end_of (Trapped trap pc) = end.Trapped trap pc
