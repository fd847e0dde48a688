-- The lines that show a run: its events, its end, and bytes of its memory.
use Rattle.std.specs.Prelude.{ℕ, List, [], ◌∷◌, ◌++◌, codes}
use Rattle.std.specs.List.{flat_map}
use Rattle.br_bytes.specs.declared.run.Event.{Event}
use Rattle.br_bytes.specs.declared.run.Event.TheVariants.{Read, Write}
use Rattle.br_bytes.specs.declared.run.Outcome.{Outcome}
use Rattle.br_bytes.specs.declared.run.Outcome.TheVariants as outcome
use Rattle.br_machine.specs.declared.running.End.{End}
use Rattle.br_machine.specs.declared.running.End.TheVariants as end
use Rattle.br_machine.specs.declared.stepped.Trap.{Trap}
use Rattle.br_machine.specs.declared.stepped.Trap.TheVariants.{Illegal, FetchOutside}
use Rattle.br_machine.specs.declared.stepped.Trap.TheVariants.{FetchMisaligned, AccessOutside}
use Rattle.br_machine.specs.declared.stepped.Trap.TheVariants.{DeviceAccess, CodeWrite}
use Rattle.br_image.specs.Text.{word_text, line}
use Rattle.br_bytes.specs.Hexadecimal.{bytes_text}
use Rattle.br_image.specs.Fields.{word_fields}

-- ---- events

-- an event: what was done, at which address, with which value
abbrev pub event_text : Event → List ℕ
event_text (Read a v) = codes "read " ++ word_text a ++ 32 ∷ word_text v
event_text (Write a v) = codes "write " ++ word_text a ++ 32 ∷ word_text v

abbrev pub event_lines : List Event → List ℕ
event_lines events = flat_map (λ e. line (event_text e)) events

-- ---- ends

abbrev pub trap_text : Trap → List ℕ
trap_text Illegal = codes "illegal"
trap_text FetchOutside = codes "fetchoutside"
trap_text FetchMisaligned = codes "fetchmisaligned"
trap_text AccessOutside = codes "accessoutside"
trap_text DeviceAccess = codes "deviceaccess"
trap_text CodeWrite = codes "codewrite"

-- the end of a run of an image; a call that has ended has these results
abbrev pub end_text : List ℕ → End → List ℕ
end_text results end.Halted = codes "halted" ++ word_fields results
end_text results (end.Waiting a) = codes "waiting " ++ word_text a
end_text results (end.Trapped trap pc) = codes "trapped " ++ trap_text trap ++ 32 ∷ word_text pc
end_text results end.Running = codes "running"

-- the end of a run of a source program
abbrev pub outcome_text : Outcome → List ℕ
outcome_text (outcome.Done words) = codes "done" ++ word_fields words
outcome_text (outcome.Waiting a) = codes "waiting " ++ word_text a
outcome_text outcome.OutOfFuel = codes "outoffuel"
outcome_text outcome.Undefined = codes "undefined"
outcome_text outcome.NoChoice = codes "nochoice"

-- ---- memory

-- some bytes, from an address on
abbrev pub bytes_line : ℕ → List ℕ → List ℕ
bytes_line a bytes = line (codes "mem " ++ word_text a ++ 32 ∷ bytes_text bytes)
