-- The machine when a call begins.
use Rattle.std.specs.Prelude.{◌≡◌, ℕ, ◌+◌, ◌-◌, ◌*◌, ◌^◌, ◌<◌, List, [], ◌∷◌}
use Rattle.std.specs.Prelude.{◌++◌, length, slice_set, replicate, unwrap_or}
use Rattle.std.specs.List.{AllByRecursion}
use Rattle.std.specs.FinMap as map
use Rattle.br_bytes.specs.Memory.{Memory}
pub use Rattle.br_bytes.specs.Memory.{IsInData}
pub use Rattle.br_bytes.specs.Number.{word_bytes as code_bytes}
use Rattle.br_words.specs.declared.layout.Layout.{Layout}
use Rattle.br_words.specs.declared.layout.Layout.TheVariants.{One, Two}
use Rattle.br_words.specs.Layout.{code_base, code_end, data_base, stack_end}
use Rattle.br_machine.specs.State.{MachineState}

-- what the machine holds by chance before a call: its registers, and
-- the bytes of the data and stack regions
pub record Leftover : Type 0 where
  pub registers : List ℕ
  pub bytes : List ℕ

pub record IsLeftover (j : Leftover) : Type 0 where
  pub registers : length j.registers ≡ 32
  pub words : AllByRecursion (λ v. v < 2 ^ 32) j.registers
  pub bytes : length j.bytes ≡ stack_end - data_base
  pub small : AllByRecursion (λ b. b < 256) j.bytes

-- registers with words in a register and those after it, in turn
abbrev pub with_words : ℕ → List ℕ → List ℕ → List ℕ
with_words r [] registers = registers
with_words r (v ∷ vs) registers = with_words (r + 1) vs (slice_set registers r v)

-- bytes from `a` on, with those of the memory where it has the address
abbrev pub overlaid : Memory → ℕ → List ℕ → List ℕ
overlaid m a [] = []
overlaid m a (b ∷ bs) = unwrap_or (map.get m a) b ∷ overlaid m (a + 1) bs

-- the code region: the code, and zeros after it
unfoldable pub filled : Layout → List ℕ → List ℕ
filled l code = code_bytes code ++ replicate (code_end l - code_base l - 4 * length code) 0

-- the code region, and the leftover bytes with the memory over
-- them, in the order of their addresses
unfoldable pub start_ram : Layout → List ℕ → Memory → Leftover → List ℕ
start_ram One code m j = filled One code ++ overlaid m data_base j.bytes
start_ram Two code m j = overlaid m data_base j.bytes ++ filled Two code

-- the machine as a call begins at an offset into the code: the
-- arguments stand in x10, x11 and so on
abbrev pub start : Layout → List ℕ → ℕ → List ℕ → Memory → Leftover → MachineState
start l code offset args m j = record {
  layout = l;
  registers = with_words 10 args (slice_set j.registers 0 0);
  pc = code_base l + offset;
  ram = start_ram l code m j;
  code_words = length code;
}
