-- The pages of RAM, of 4,096 bytes each, and which of them are
-- made. Page 0 begins at RAM's low end.
use Rattle.std.specs.Prelude.{◌≡◌, ℕ, ◌+◌, ◌*◌, ◌/◌, ◌<◌, ◌≤◌, Bool, false, ◌&&◌, is_none}
use Rattle.std.specs.Prelude.{IsSome, List, length, slice_index_or, Option, Some, None}
use Rattle.std.specs.FinMap as map
use Rattle.br_bytes.specs.Memory.{Memory}
use Rattle.br_words.specs.declared.layout.Layout.{Layout}
use Rattle.br_words.specs.Layout.{ram_base}
use Rattle.br_rv32im.specs.declared.instruction.Ins.{Ins}
use Rattle.br_rv32im.specs.declared.instruction.Ins.TheVariants.{Upper, Jal, Jalr, Branch, Load}
use Rattle.br_rv32im.specs.declared.instruction.Ins.TheVariants.{Store, Imm, Shift, Reg, Ecall}
use Rattle.br_rv32im.specs.Row.{row_of}
use Rattle.br_machine.specs.declared.stepped.Trap.{Trap}
use Rattle.br_machine.specs.State.{MachineState, IsMachine, ram_size}
use Rattle.br_machine.specs.Traps.{address, meet, store_size, trap_of}
use Rattle.br_machine.specs.Step.{is_in_code, fetched}

-- a machine, and for each page of its RAM whether it is made
pub record Paged : Type 0 where
  pub state : MachineState
  pub made : List Bool

abbrev pub page_size : ℕ
page_size = 4096

-- how many pages RAM has
abbrev pub page_count : Layout → ℕ
page_count l = ram_size l / page_size

-- the first address of a page
abbrev pub page_base : Layout → ℕ → ℕ
page_base l page = ram_base l + page_size * page

abbrev pub is_made : Paged → ℕ → Bool
is_made m page = slice_index_or m.made page false

-- what holds of every machine with its pages
pub record IsPaged (m : Paged) : Type 0 where
  pub machine : IsMachine m.state
  pub pages : length m.made ≡ page_count m.state.layout

-- a memory has an address of this page
abbrev pub HasAddressIn : Memory → Layout → ℕ → Type 0
HasAddressIn m l page =
    (a : ℕ) × (page_base l page ≤ a) × (a < page_base l page + page_size) × IsSome (map.get m a)

-- ---- what a step stores

-- an instruction stores a byte of a page
abbrev pub stores_in : Ins → MachineState → ℕ → Bool
stores_in (Store op rs1 rs2 imm) s page =
    meet (address s rs1 imm) (store_size op) (page_base s.layout page) page_size
stores_in (Upper op rd field) s page = false
stores_in (Jal rd imm) s page = false
stores_in (Jalr rd rs1 imm) s page = false
stores_in (Branch op rs1 rs2 imm) s page = false
stores_in (Load op rd rs1 imm) s page = false
stores_in (Imm op rd rs1 imm) s page = false
stores_in (Shift op rd rs1 amount) s page = false
stores_in (Reg op rd rs1 rs2) s page = false
stores_in Ecall s page = false

-- an instruction stores a byte of a page, unless it breaks a rule
abbrev pub obeyed_in : Ins → Option Trap → MachineState → ℕ → Bool
obeyed_in i trap s page = stores_in i s page && is_none trap

-- the instruction at pc stores a byte of a page, if there is one
abbrev pub executed_in : Option Ins → MachineState → ℕ → Bool
executed_in None s page = false
executed_in (Some i) s page = obeyed_in i (trap_of i s) s page

-- a step stores a byte of a page
abbrev pub step_stores_in : MachineState → ℕ → Bool
step_stores_in s page = is_in_code s && executed_in (row_of (fetched s)) s page
