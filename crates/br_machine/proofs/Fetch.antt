-- Code at a place of RAM, and what a step does with the instruction there.
use Rattle.std.proofs.Common.{◌≡◌, ℕ, zero, suc, ◌+◌, ◌-◌, ◌*◌, ◌^◌, ◌<◌, List, []}
use Rattle.std.proofs.Common.{◌∷◌, length, Option, Some, true, refl, ap, ◌∙◌, arith}
use Rattle.std.specs.Prelude.{slice_get, slice_index, if◌then◌else◌}
use Rattle.br_bytes.specs.Number.{number_of, low_bytes}
use Rattle.br_rv32im.specs.declared.instruction.Ins.{Ins}
use Rattle.br_rv32im.specs.Row.{row_of}
use Rattle.br_machine.specs.declared.stepped.Trap.TheVariants.{FetchOutside}
use Rattle.br_words.specs.Layout.{code_base, ram_base}
use Rattle.br_machine.specs.State.{MachineState, code_place, bytes_from}
use Rattle.br_machine.specs.Traps.{trap_of}
use Rattle.br_machine.specs.Step.{step, is_in_code, fetched, execute, obey, trapped}
use Rattle.br_machine.specs.Start.{code_bytes}
use Rattle.br_bytes.proofs.Words.{word_bytes-at}
use Rattle.br_machine.proofs.Ram.{number_of-low_bytes_4}
use Rattle.br_machine.proofs.Regions.{regions}

-- the machine has these words as its code
pub record HasCode (code : List ℕ) (s : MachineState) : Type 0 where
  pub count : s.code_words ≡ length code
  pub bytes : (i : ℕ) → i < 4 * length code
      → slice_index s.ram (code_place s.layout + i) ≡ slice_index (code_bytes code) i

pub within_code : (code : List ℕ) (j w : ℕ) → slice_get code j ≡ Some w → j < length code
within_code [] j w at = absurd (cc)
within_code (c ∷ code) zero w at = omega arith
within_code (c ∷ code) (suc j) w at = omega (arith, within_code code j w at)

four_bytes : (ram : List ℕ) (q : ℕ) (bs : List ℕ) → ((i : ℕ) → i < 4 → slice_index ram (q + i) ≡ slice_index bs i)
    → bytes_from ram q 4 ≡ slice_index bs 0 ∷ slice_index bs 1 ∷ slice_index bs 2 ∷ slice_index bs 3 ∷ []
four_bytes ram q bs place =
    let zeroth : slice_index ram q ≡ slice_index bs 0 = ap (slice_index ram) (omega arith) ∙ place 0 (omega arith) in
    let first : slice_index ram (q + 1) ≡ slice_index bs 1 = place 1 (omega arith) in
    let second : slice_index ram (q + 1 + 1) ≡ slice_index bs 2 = ap (slice_index ram) (omega arith)
    ∙ place 2 (omega arith) in
    let third : slice_index ram (q + 1 + 1 + 1) ≡ slice_index bs 3 = ap (slice_index ram) (omega arith)
    ∙ place 3 (omega arith) in
    rw (zeroth, first, second, third) refl

-- four bytes of the code are the number of its word
pub word_at-code : (code ram : List ℕ) (from j w : ℕ)
    → ((i : ℕ) → i < 4 * length code → slice_index ram (from + i) ≡ slice_index (code_bytes code) i)
    → slice_get code j ≡ Some w → w < 2 ^ 32 → number_of (bytes_from ram (from + 4 * j) 4) ≡ w
word_at-code code ram from j w bytes at small =
    let inside = within_code code j w at in
    let place : (i : ℕ) → i < 4 → slice_index ram (from + 4 * j + i) ≡ slice_index (low_bytes 4 w) i =
    λ i h. ap (slice_index ram) (let e : from + 4 * j + i ≡ from + (4 * j + i) = omega arith in e)
    ∙ bytes (4 * j + i) (omega arith) ∙ word_bytes-at code j w i at h in
    ap number_of (four_bytes ram (from + 4 * j) (low_bytes 4 w) place) ∙ number_of-low_bytes_4 w small

-- the word at pc is that of the code
pub fetched-code : (code : List ℕ) (s : MachineState) (j w : ℕ) → HasCode code s → slice_get code j ≡ Some w
    → w < 2 ^ 32 → s.pc ≡ code_base s.layout + 4 * j → fetched s ≡ w
fetched-code code s j w has at small pc =
    let p : s.pc - ram_base s.layout ≡ code_place s.layout + 4 * j = omega (arith, (regions s.layout).code_in) in
    ap (λ q. number_of (bytes_from s.ram q 4)) p ∙ word_at-code code s.ram (code_place s.layout) j w has.bytes at small

is_in_code-at : (code : List ℕ) (s : MachineState) (j w : ℕ) → HasCode code s → slice_get code j ≡ Some w
    → s.pc ≡ code_base s.layout + 4 * j → is_in_code s ≡ true
is_in_code-at code s j w has at pc =
    let inside = within_code code j w at in
    let count = has.count in
    grind arith

-- a step obeys the instruction that stands at pc
pub step-at : (code : List ℕ) (s : MachineState) (j w : ℕ) (i : Ins) (next : Option ℕ)
    → HasCode code s → slice_get code j ≡ Some w → w < 2 ^ 32 → row_of w ≡ Some i → s.pc ≡ code_base s.layout + 4 * j
    → step s next ≡ obey i (trap_of i s) s next
step-at code s j w i next has at small row pc =
    let inside = is_in_code-at code s j w has at pc in
    let word = fetched-code code s j w has at small pc in
    ap (λ b. if b then execute (row_of (fetched s)) s next else trapped FetchOutside s) inside
    ∙ ap (λ v. execute (row_of v) s next) word ∙ ap (λ r. execute r s next) row
