-- Which rules an instruction would break at a moment. A word that is no instruction and a
-- pc outside the code are tested before.
use Rattle.std.specs.Prelude.{◌≡◌, ◌⊎◌, ℕ, ◌+◌, ◌*◌, ◌/◌, ◌%◌, Bool, ◌&&◌, nat_lt, nat_le}
use Rattle.std.specs.Prelude.{min, max, ◌==◌, if◌then◌else◌, ℤ, Option, Some, None}
use Rattle.br_words.specs.Device.{in_device_window}
use Rattle.br_words.specs.declared.layout.Layout.{Layout}
use Rattle.br_words.specs.Layout.{code_base, ram_base, ram_end}
use Rattle.br_rv32im.specs.declared.instruction.Ins.{Ins}
use Rattle.br_rv32im.specs.declared.instruction.Ins.TheVariants.{Upper, Jal, Jalr, Branch, Load}
use Rattle.br_rv32im.specs.declared.instruction.Ins.TheVariants.{Store, Imm, Shift, Reg, Ecall}
use Rattle.br_rv32im.specs.declared.instruction.LoadOp.{LoadOp}
use Rattle.br_rv32im.specs.declared.instruction.LoadOp.TheVariants.{Lb, Lh, Lw, Lbu, Lhu}
use Rattle.br_rv32im.specs.declared.instruction.StoreOp.{StoreOp}
use Rattle.br_rv32im.specs.declared.instruction.StoreOp.TheVariants.{Sb, Sh, Sw}
use Rattle.br_machine.specs.declared.stepped.Trap.{Trap}
use Rattle.br_machine.specs.declared.stepped.Trap.TheVariants.{FetchMisaligned, CodeWrite}
use Rattle.br_machine.specs.declared.stepped.Trap.TheVariants.{DeviceAccess, AccessOutside}
use Rattle.br_machine.specs.State.{MachineState, register}
use Rattle.br_machine.specs.Arithmetic.{plus, is_taken}

-- how many bytes a load moves
abbrev pub load_size : LoadOp → ℕ
load_size Lb = 1
load_size Lh = 2
load_size Lw = 4
load_size Lbu = 1
load_size Lhu = 2

-- how many bytes a store moves
abbrev pub store_size : StoreOp → ℕ
store_size Sb = 1
store_size Sh = 2
store_size Sw = 4

-- a load and a store move 1, 2 or 4 bytes
abbrev pub IsMoved : ℕ → Type 0
IsMoved n = (n ≡ 1) ⊎ (n ≡ 2) ⊎ (n ≡ 4)

-- the address in a register and an immediate
abbrev pub address : MachineState → ℕ → ℤ → ℕ
address s base imm = plus (register s base) imm

-- where a JALR leads: the lowest bit is cleared
abbrev pub jalr_target : MachineState → ℕ → ℤ → ℕ
jalr_target s base imm = address s base imm / 2 * 2

-- n bytes from `a` on are in RAM
abbrev pub in_ram : Layout → ℕ → ℕ → Bool
in_ram l a n = nat_le (ram_base l) a && nat_le (a + n) (ram_end l)

-- n bytes from `a` on and k bytes from `b` on have one in common
abbrev pub meet : ℕ → ℕ → ℕ → ℕ → Bool
meet a n b k = nat_lt (max a b) (min (a + n) (b + k))

-- a jump to a target that is no multiple of 4
abbrev pub jump_trap : ℕ → Option Trap
jump_trap target = if target % 4 == 0 then None else Some FetchMisaligned

-- an access outside RAM: in a device window it has to be of four bytes at a multiple of 4
abbrev pub device_trap : ℕ → ℕ → Option Trap
device_trap a n =
    if in_device_window a
    then (if (n == 4) && (a % 4 == 0) then None else Some DeviceAccess)
    else Some AccessOutside

abbrev pub load_trap : Layout → ℕ → ℕ → Option Trap
load_trap l a n = if in_ram l a n then None else device_trap a n

-- a store in RAM may touch no byte of the code
abbrev pub store_trap : Layout → ℕ → ℕ → ℕ → Option Trap
store_trap l code_words a n =
    if in_ram l a n
    then (if meet a n (code_base l) (4 * code_words) then Some CodeWrite else None)
    else device_trap a n

-- the rule that an instruction breaks, or None
abbrev pub trap_of : Ins → MachineState → Option Trap
trap_of (Jal rd imm) s = jump_trap (plus s.pc imm)
trap_of (Jalr rd rs1 imm) s = jump_trap (jalr_target s rs1 imm)
trap_of (Branch op rs1 rs2 imm) s =
    if is_taken op (register s rs1) (register s rs2) then jump_trap (plus s.pc imm) else None
trap_of (Load op rd rs1 imm) s = load_trap s.layout (address s rs1 imm) (load_size op)
trap_of (Store op rs1 rs2 imm) s =
    store_trap s.layout s.code_words (address s rs1 imm) (store_size op)
trap_of (Upper op rd field) s = None
trap_of (Imm op rd rs1 imm) s = None
trap_of (Shift op rd rs1 amount) s = None
trap_of (Reg op rd rs1 rs2) s = None
trap_of Ecall s = None
