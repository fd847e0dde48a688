-- The machine at a moment.
use Rattle.std.specs.Prelude.{◌≡◌, ℕ, zero, suc, ◌+◌, ◌-◌, ◌%◌, ◌^◌, ◌<◌, ◌≤◌}
use Rattle.std.specs.Prelude.{List, [], ◌∷◌, length, slice_index, slice_set}
use Rattle.std.specs.List.{AllByRecursion}
use Rattle.br_words.specs.declared.layout.Layout.{Layout}
use Rattle.br_words.specs.Layout.{code_base, ram_base, ram_end, most_words}

pub record MachineState : Type 0 where
  -- where its code and its RAM stand
  pub layout : Layout
  -- the 32 registers, x0 first
  pub registers : List ℕ
  -- the address of the next instruction
  pub pc : ℕ
  -- the bytes of RAM, the lowest address first
  pub ram : List ℕ
  -- how many words of code stand at the low end of the code region
  pub code_words : ℕ

-- how many bytes RAM has
abbrev pub ram_size : Layout → ℕ
ram_size l = ram_end l - ram_base l

-- where the code region begins in RAM, counted from RAM's low end
abbrev pub code_place : Layout → ℕ
code_place l = code_base l - ram_base l

-- What holds of every machine: sizes, that registers and pc are words and RAM is of
-- bytes, and that pc is a multiple of 4.
pub record IsMachine (s : MachineState) : Type 0 where
  pub registers : length s.registers ≡ 32
  pub words : AllByRecursion (λ v. v < 2 ^ 32) s.registers
  pub pc : s.pc < 2 ^ 32
  pub aligned : s.pc % 4 ≡ 0
  pub ram : length s.ram ≡ ram_size s.layout
  pub bytes : AllByRecursion (λ b. b < 256) s.ram
  pub code : s.code_words ≤ most_words s.layout

-- what a register reads as: x0 reads 0 (RISC-V unprivileged manual, chapter 2.1)
abbrev pub register : MachineState → ℕ → ℕ
register s zero = 0
register s (suc r) = slice_index s.registers (suc r)

-- the machine with a register set: x0 keeps no write
abbrev pub with_register : ℕ → ℕ → MachineState → MachineState
with_register zero v s = s
with_register (suc r) v s = record s { registers = slice_set s.registers (suc r) v }

-- n bytes of RAM from a place on, counted from RAM's low end
abbrev pub bytes_from : List ℕ → ℕ → ℕ → List ℕ
bytes_from ram place zero = []
bytes_from ram place (suc n) = slice_index ram place ∷ bytes_from ram (place + 1) n

-- RAM with these bytes from a place on
abbrev pub with_bytes_from : List ℕ → ℕ → List ℕ → List ℕ
with_bytes_from ram place [] = ram
with_bytes_from ram place (b ∷ bs) = with_bytes_from (slice_set ram place b) (place + 1) bs

-- the byte at an address of RAM
abbrev pub byte_of : MachineState → ℕ → ℕ
byte_of s a = slice_index s.ram (a - ram_base s.layout)
