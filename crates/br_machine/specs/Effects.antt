-- What an instruction does that breaks no rule, by cases on the instruction (RISC-V unprivileged
-- manual, chapters 2.4 to 2.6 and the M extension).
use Rattle.std.specs.Prelude.{ℕ, ◌+◌, ◌-◌, ◌*◌, ◌%◌, ◌^◌, if◌then◌else◌, Option, Some, None}
use Rattle.br_words.specs.Words.{wrapped}
use Rattle.br_words.specs.Layout.{ram_base}
use Rattle.br_words.specs.Bits.{sign_extended}
use Rattle.br_bytes.specs.Number.{number_of, low_bytes}
use Rattle.br_rv32im.specs.declared.instruction.Ins.{Ins}
use Rattle.br_rv32im.specs.declared.instruction.Ins.TheVariants.{Upper, Jal, Jalr, Branch, Load}
use Rattle.br_rv32im.specs.declared.instruction.Ins.TheVariants.{Store, Imm, Shift, Reg, Ecall}
use Rattle.br_rv32im.specs.declared.instruction.UpperOp.TheVariants.{Lui, Auipc}
use Rattle.br_rv32im.specs.declared.instruction.LoadOp.{LoadOp}
use Rattle.br_rv32im.specs.declared.instruction.LoadOp.TheVariants.{Lb, Lh, Lw, Lbu, Lhu}
use Rattle.br_machine.specs.declared.stepped.Stepped.{Stepped}
use Rattle.br_machine.specs.declared.stepped.Stepped.TheVariants.{Ran, Read, Wrote, Waiting, Halted}
use Rattle.br_machine.specs.State.{MachineState, register, with_register}
use Rattle.br_machine.specs.State.{bytes_from, with_bytes_from}
use Rattle.br_machine.specs.Arithmetic.{plus, reg_value, imm_value, shift_value, is_taken}
use Rattle.br_machine.specs.Traps.{load_size, store_size, address, jalr_target, in_ram}

abbrev pub at_pc : ℕ → MachineState → MachineState
at_pc a s = record s { pc = a }

-- the address of the instruction after this one
abbrev pub next_pc : MachineState → ℕ
next_pc s = (s.pc + 4) % 2 ^ 32

-- goes on after this instruction
abbrev pub moved_on : MachineState → MachineState
moved_on s = at_pc (next_pc s) s

-- a register takes a value, and the machine goes on after this instruction
abbrev pub computes : ℕ → ℕ → MachineState → MachineState
computes rd v s = with_register rd v (moved_on s)

-- a register takes the address after this instruction, and the machine goes on at another
abbrev pub jumps : ℕ → ℕ → MachineState → MachineState
jumps rd target s = with_register rd (next_pc s) (at_pc target s)

-- what a load makes of the bytes that it reads
abbrev pub loaded : LoadOp → ℕ → ℕ
loaded Lb v = sign_extended 8 v
loaded Lh v = sign_extended 16 v
loaded Lw v = v
loaded Lbu v = v
loaded Lhu v = v

-- a device word is read: with no answer nothing happens
abbrev pub device_read : ℕ → ℕ → MachineState → Option ℕ → MachineState × Stepped
device_read rd a s (Some v) = (computes rd v s, Read a v)
device_read rd a s None = (s, Waiting a)

-- a load from an address: of bytes of RAM, or of a device word
abbrev pub load_effect : LoadOp → ℕ → ℕ → MachineState → Option ℕ → MachineState × Stepped
load_effect op rd a s next =
    let n = load_size op
    in if in_ram s.layout a n
    then (computes rd (loaded op (number_of (bytes_from s.ram (a - ram_base s.layout) n))) s, Ran)
    else device_read rd a s next

-- an instruction, with the answer that a device would give next
abbrev pub effect : Ins → MachineState → Option ℕ → MachineState × Stepped
effect (Upper Lui rd field) s next = (computes rd (field * 4096) s, Ran)
effect (Upper Auipc rd field) s next = (computes rd ((s.pc + field * 4096) % 2 ^ 32) s, Ran)
effect (Jal rd imm) s next = (jumps rd (plus s.pc imm) s, Ran)
effect (Jalr rd rs1 imm) s next = (jumps rd (jalr_target s rs1 imm) s, Ran)
effect (Branch op rs1 rs2 imm) s next = (
  at_pc (if is_taken op (register s rs1) (register s rs2) then plus s.pc imm else next_pc s) s,
  Ran,
)
effect (Load op rd rs1 imm) s next = load_effect op rd (address s rs1 imm) s next
effect (Store op rs1 rs2 imm) s next =
    let a = address s rs1 imm
    in let n = store_size op
    in let v = register s rs2
    in if in_ram s.layout a n
    then (
      record (moved_on s) {
        ram = with_bytes_from s.ram (a - ram_base s.layout)
            (low_bytes n v);
      },
      Ran,
    )
    else (moved_on s, Wrote a v)
effect (Imm op rd rs1 imm) s next =
    (computes rd (imm_value op (register s rs1) (wrapped imm)) s, Ran)
effect (Shift op rd rs1 amount) s next =
    (computes rd (shift_value op (register s rs1) amount) s, Ran)
effect (Reg op rd rs1 rs2) s next =
    (computes rd (reg_value op (register s rs1) (register s rs2)) s, Ran)
effect Ecall s next = (s, Halted)
