-- One step of the machine: it fetches, decodes, tests the rules in their order, and has its effect.
use Rattle.std.specs.Prelude.{ℕ, ◌+◌, ◌-◌, ◌*◌, Bool, ◌&&◌, nat_le}
use Rattle.std.specs.Prelude.{nat_lt, if◌then◌else◌, Option, Some, None}
use Rattle.br_bytes.specs.Number.{number_of}
use Rattle.br_rv32im.specs.declared.instruction.Ins.{Ins}
use Rattle.br_rv32im.specs.Row.{row_of}
use Rattle.br_machine.specs.declared.stepped.Stepped.{Stepped}
use Rattle.br_machine.specs.declared.stepped.Stepped.TheVariants.{Trapped}
use Rattle.br_machine.specs.declared.stepped.Trap.{Trap}
use Rattle.br_machine.specs.declared.stepped.Trap.TheVariants.{FetchOutside, Illegal}
use Rattle.br_words.specs.Layout.{code_base, ram_base}
use Rattle.br_machine.specs.State.{MachineState, bytes_from}
use Rattle.br_machine.specs.Traps.{trap_of}
use Rattle.br_machine.specs.Effects.{effect}

-- pc is the address of a byte of the code
abbrev pub is_in_code : MachineState → Bool
is_in_code s =
    nat_le (code_base s.layout) s.pc && nat_lt s.pc (code_base s.layout + 4 * s.code_words)

-- the word at pc
abbrev pub fetched : MachineState → ℕ
fetched s = number_of (bytes_from s.ram (s.pc - ram_base s.layout) 4)

-- a broken rule changes nothing
abbrev pub trapped : Trap → MachineState → MachineState × Stepped
trapped trap s = (s, Trapped trap s.pc)

-- what is done unless a rule is broken
abbrev pub unless : Option Trap → MachineState × Stepped → MachineState → MachineState × Stepped
unless (Some trap) done s = trapped trap s
unless None done s = done

-- an instruction, unless it breaks a rule
abbrev pub obey : Ins → Option Trap → MachineState → Option ℕ → MachineState × Stepped
obey i trap s next = unless trap (effect i s next) s

-- the instruction at pc, unless there is none
abbrev pub execute : Option Ins → MachineState → Option ℕ → MachineState × Stepped
execute None s next = trapped Illegal s
execute (Some i) s next = obey i (trap_of i s) s next

-- one step, with the answer that a device would give next: the machine after it, and how it ended
abbrev pub step : MachineState → Option ℕ → MachineState × Stepped
step s next = if is_in_code s then execute (row_of (fetched s)) s next else trapped FetchOutside s
