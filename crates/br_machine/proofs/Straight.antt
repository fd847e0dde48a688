-- Straight code: one instruction at a time, and one stretch of steps after another.
use Rattle.std.proofs.Common.{◌≡◌, ◌≢◌, inl, inr, ℕ, zero, suc, ◌+◌, ◌-◌, ◌*◌, ◌^◌, ◌<◌, ◌≤◌}
use Rattle.std.proofs.Common.{List, [], ◌∷◌, ◌++◌, length, Some, None, Bool, true, false}
use Rattle.std.proofs.Common.{refl, sym, ap, subst, ◌∙◌, arith, append_assoc, length-append}
use Rattle.std.specs.Prelude.{slice_get, slice_index, ◌==◌, nat_lt, ◌%◌, ◌&&◌, if◌then◌else◌, ℤ}
use Rattle.std.proofs.Math.ListN.{length-set}
use Rattle.std.proofs.lemmas.Bool.{eqb-true}
use Rattle.std.proofs.lemmas.Bool.Decides.{nat_tests}
use Rattle.std.proofs.lemmas.List.{get_or-set_other, get_or-set_same}
use Rattle.br_bytes.specs.declared.run.Event.TheVariants as event
use Rattle.br_bytes.specs.Number.{number_of, low_bytes}
use Rattle.br_words.specs.Device.{is_device_word, in_device_window}
use Rattle.br_rv32im.specs.declared.instruction.Ins.{Ins}
use Rattle.br_rv32im.specs.declared.instruction.Ins.TheVariants.{Load, Store}
use Rattle.br_rv32im.specs.declared.instruction.LoadOp.TheVariants.{Lw}
use Rattle.br_rv32im.specs.declared.instruction.StoreOp.TheVariants.{Sw}
use Rattle.br_rv32im.specs.Row.{row_of}
use Rattle.br_machine.specs.declared.stepped.Stepped.{Stepped}
use Rattle.br_machine.specs.declared.stepped.Stepped.TheVariants.{Ran, Wrote}
use Rattle.br_words.specs.declared.layout.Layout.{Layout}
use Rattle.br_words.specs.Layout.{code_base, code_end, data_base, ram_base, ram_end, most_words, stack_end}
use Rattle.br_machine.specs.State.{MachineState, code_place, register, with_register, bytes_from, with_bytes_from}
use Rattle.br_machine.specs.Traps.{trap_of, in_ram, meet, load_trap, store_trap, address}
use Rattle.br_machine.specs.Effects.{effect, computes, moved_on, device_read}
use Rattle.br_machine.specs.Step.{fetched, obey}
use Rattle.br_machine.specs.Steps.{Moment, moment_after, next_answer, code_region, accessed, IsAbove, StepsTo, Runs}
use Rattle.br_machine.proofs.Fetch.{HasCode, step-at, fetched-code}
use Rattle.br_machine.proofs.Ram.{take_drop-with_bytes_from}
use Rattle.br_machine.proofs.Regions.{regions}

-- ---- stretches of steps

-- one stretch after another
pub Runs-append : (low n k : ℕ) (a b c : Moment) → Runs low n a b → Runs low k b c → Runs low (n + k) a c
Runs-append low zero k a b c first second =
    let same : k ≡ 0 + k = omega arith in
    subst (λ i. Runs low i a c) same (subst (λ m. Runs low k m c) (sym first) second)
Runs-append low (suc n) k a b c first second =
    let same : suc (n + k) ≡ suc n + k = omega arith in
    subst (λ i. Runs low i a c) same (first.0, first.1, Runs-append low n k first.0 b c first.2 second)

-- a stretch of one step
pub Runs_one : (low : ℕ) (m next : Moment) → StepsTo low m next → Runs low 1 m next
Runs_one low m next s = (next, s, refl)

-- ---- registers

pub ram-with_register : (r v : ℕ) (s : MachineState) → (with_register r v s).ram ≡ s.ram
ram-with_register zero v s = refl
ram-with_register (suc r) v s = refl

pub pc-with_register : (r v : ℕ) (s : MachineState) → (with_register r v s).pc ≡ s.pc
pc-with_register zero v s = refl
pc-with_register (suc r) v s = refl

pub layout-with_register : (r v : ℕ) (s : MachineState) → (with_register r v s).layout ≡ s.layout
layout-with_register zero v s = refl
layout-with_register (suc r) v s = refl

pub code_words-with_register : (r v : ℕ) (s : MachineState) → (with_register r v s).code_words ≡ s.code_words
code_words-with_register zero v s = refl
code_words-with_register (suc r) v s = refl

pub length-with_register : (r v : ℕ) (s : MachineState) → length (with_register r v s).registers ≡ length s.registers
length-with_register zero v s = refl
length-with_register (suc r) v s = length-set s.registers (suc r) v

pub register-with_register_same : (r v : ℕ) (s : MachineState) → r ≢ 0 → r < length s.registers
    → register (with_register r v s) r ≡ v
register-with_register_same zero v s ne h = absurd (ne refl)
register-with_register_same (suc r) v s ne h = get_or-set_same s.registers (suc r) v 0 h

pub register-with_register_other : (r q v : ℕ) (s : MachineState) → q ≢ r
    → register (with_register r v s) q ≡ register s q
register-with_register_other zero q v s ne = refl
register-with_register_other (suc r) zero v s ne = refl
register-with_register_other (suc r) (suc q) v s ne = get_or-set_other s.registers (suc r) (suc q) v 0 ne

-- ---- one instruction of code

-- no byte is accessed
pub IsAbove-none : (low : ℕ) → IsAbove low (0, 0)
IsAbove-none low b from to in_stack = absurd (omega arith)

-- an instruction that breaks no rule leads on to what its effect says
pub steps_by : (code : List ℕ) (low : ℕ) (m next : Moment) (j w : ℕ) (i : Ins) (s : MachineState) (how : Stepped)
    → HasCode code m.machine → slice_get code j ≡ Some w → w < 2 ^ 32 → row_of w ≡ Some i
    → m.machine.pc ≡ code_base m.machine.layout + 4 * j
    → trap_of i m.machine ≡ None → effect i m.machine (next_answer m) ≡ (s, how) → moment_after m (s, how) ≡ Some next
    → code_region next.machine ≡ code_region m.machine → IsAbove low (accessed (Some i) m.machine)
    → StepsTo low m next
steps_by code low m next j w i s how has at small row pc fine does leads region above = record {
  after = ap (moment_after m) (step-at code m.machine j w i (next_answer m) has at small row pc
      ∙ ap (λ t. obey i t m.machine (next_answer m)) fine ∙ does) ∙ leads;
  code = region;
  stack =
      let read : row_of (fetched m.machine) ≡ Some i =
      ap row_of (fetched-code code m.machine j w has at small pc) ∙ row in
      subst (λ r. IsAbove low (accessed r m.machine)) (sym read) above;
}

code_region-computes : (rd v : ℕ) (s : MachineState) → code_region (computes rd v s) ≡ code_region s
code_region-computes zero v s = refl
code_region-computes (suc rd) v s = refl

-- an instruction that sets a register and goes on after itself
pub step_computes : (code : List ℕ) (low : ℕ) (m : Moment) (j w : ℕ) (i : Ins) (rd v : ℕ)
    → HasCode code m.machine → slice_get code j ≡ Some w → w < 2 ^ 32 → row_of w ≡ Some i
    → m.machine.pc ≡ code_base m.machine.layout + 4 * j
    → trap_of i m.machine ≡ None → effect i m.machine (next_answer m) ≡ (computes rd v m.machine, Ran)
    → IsAbove low (accessed (Some i) m.machine)
    → StepsTo low m (record m { machine = computes rd v m.machine })
step_computes code low m j w i rd v has at small row pc fine does above =
    steps_by code low m (record m { machine = computes rd v m.machine }) j w i (computes rd v m.machine) Ran has at
    small row pc fine does refl (code_region-computes rd v m.machine) above

-- ---- words of RAM and of devices

in_ram-true : (l : Layout) (a n : ℕ) → ram_base l ≤ a → a + n ≤ ram_end l → in_ram l a n ≡ true
in_ram-true l a n from to = grind arith

-- what is in the data region or in the stack region touches no code
apart_from_code : (l : Layout) (code_words a n : ℕ) → code_words ≤ most_words l → data_base ≤ a → a + n ≤ stack_end
    → meet a n (code_base l) (4 * code_words) ≡ false
apart_from_code l code_words a n few from to =
    let r = regions l in
    let e = r.words in
    not_below _ _ (elim r.apart [
      | inl h ↦ omega arith
      | inr h ↦ omega arith
    ])
  where
    not_below : (x y : ℕ) → y ≤ x → nat_lt x y ≡ false
    not_below x y h = grind arith

store_trap-none : (l : Layout) (code_words a : ℕ) → code_words ≤ most_words l → data_base ≤ a → a + 4 ≤ stack_end
    → store_trap l code_words a 4 ≡ None
store_trap-none l code_words a few from to =
    let r = regions l in
    let inside = in_ram-true l a 4 (omega (arith, r.data_in)) (omega (arith, r.stack_to)) in
    let apart = apart_from_code l code_words a 4 few from to in
    rw (inside, apart) refl

load_trap-none : (l : Layout) (a : ℕ) → ram_base l ≤ a → a + 4 ≤ ram_end l → load_trap l a 4 ≡ None
load_trap-none l a from to = let inside = in_ram-true l a 4 from to in rw inside refl

-- a machine that has put a word into RAM, and goes on
abbrev pub stored : ℕ → ℕ → MachineState → MachineState
stored a v s = record (moved_on s) { ram = with_bytes_from s.ram (a - ram_base s.layout) (low_bytes 4 v) }

-- a word of RAM
abbrev pub ram_word : MachineState → ℕ → ℕ
ram_word s a = number_of (bytes_from s.ram (a - ram_base s.layout) 4)

-- a word is stored in the data region or in the stack region, and not below the bound
pub step_stores_word : (code : List ℕ) (low : ℕ) (m : Moment) (j w rs1 rs2 a : ℕ) (imm : ℤ)
    → HasCode code m.machine → length code ≤ most_words m.machine.layout → slice_get code j ≡ Some w → w < 2 ^ 32
    → row_of w ≡ Some (Store Sw rs1 rs2 imm) → m.machine.pc ≡ code_base m.machine.layout + 4 * j
    → address m.machine rs1 imm ≡ a → data_base ≤ a → a + 4 ≤ stack_end → IsAbove low (a, 4)
    → StepsTo low m (record m { machine = stored a (register m.machine rs2) m.machine })
step_stores_word code low m j w rs1 rs2 a imm has few at small row pc is from to above =
    let s = m.machine in
    let l = s.layout in
    let r = regions l in
    let inside = in_ram-true l a 4 (omega (arith, r.data_in)) (omega (arith, r.stack_to)) in
    let fine : trap_of (Store Sw rs1 rs2 imm) s ≡ None =
    ap (λ b. store_trap l s.code_words b 4) is ∙ store_trap-none l s.code_words a (omega (arith, has.count)) from to in
    let does : effect (Store Sw rs1 rs2 imm) s (next_answer m) ≡ (stored a (register s rs2) s, Ran) =
    ap (λ b. if in_ram s.layout b 4 then (stored b (register s rs2) s, Ran) else (moved_on s, Wrote b (register s rs2)))
    is
    ∙ ap (λ t. if t then (stored a (register s rs2) s, Ran) else (moved_on s, Wrote a (register s rs2))) inside in
    steps_by code low m _ j w (Store Sw rs1 rs2 imm) (stored a (register s rs2) s) Ran has at small row pc
    fine does refl
    (take_drop-with_bytes_from (low_bytes 4 (register s rs2)) s.ram (code_end l - code_base l) (code_place l)
    (a - ram_base l) (elim r.apart [
      | inl h ↦ inr (omega (arith, r.code_in, r.data_in))
      | inr h ↦ inl (omega (arith, r.code_in, r.data_in))
    ]))
    (subst (λ b. IsAbove low (b, 4)) (sym is) above)

-- a word is loaded from RAM, and not from below the bound
pub step_loads_word : (code : List ℕ) (low : ℕ) (m : Moment) (j w rd rs1 a : ℕ) (imm : ℤ)
    → HasCode code m.machine → slice_get code j ≡ Some w → w < 2 ^ 32 → row_of w ≡ Some (Load Lw rd rs1 imm)
    → m.machine.pc ≡ code_base m.machine.layout + 4 * j
    → address m.machine rs1 imm ≡ a → ram_base m.machine.layout ≤ a → a + 4 ≤ ram_end m.machine.layout
    → IsAbove low (a, 4)
    → StepsTo low m (record m { machine = computes rd (ram_word m.machine a) m.machine })
step_loads_word code low m j w rd rs1 a imm has at small row pc is from to above =
    let s = m.machine in
    let inside = in_ram-true s.layout a 4 from to in
    let fine : trap_of (Load Lw rd rs1 imm) s ≡ None = ap (λ b. load_trap s.layout b 4) is
    ∙ load_trap-none s.layout a from to in
    let does : effect (Load Lw rd rs1 imm) s (next_answer m) ≡ (computes rd (ram_word s a) s, Ran) =
    ap (λ b. if in_ram s.layout b 4 then (computes rd (ram_word s b) s, Ran) else device_read rd b s (next_answer m)) is
    ∙ ap (λ t. if t then (computes rd (ram_word s a) s, Ran) else device_read rd a s (next_answer m)) inside in
    step_computes code low m j w (Load Lw rd rs1 imm) rd (ram_word s a) has at small row pc fine does
    (subst (λ b. IsAbove low (b, 4)) (sym is) above)

pub and_parts : (x y : Bool) → (x && y) ≡ true → (x ≡ true) × (y ≡ true)
and_parts true true h = (refl, refl)
and_parts true false h = (refl, h)
and_parts false y h = (h, cc)

-- the device windows are below RAM
pub window_below : (a : ℕ) → in_device_window a ≡ true → a < 0x10025000
window_below a h = grind (arith, nat_tests)

before_ram : (l : Layout) (a : ℕ) → a < 0x10025000 → in_ram l a 4 ≡ false
before_ram l a h = let above = (regions l).above in grind arith

device_word_parts : (l : Layout) (a : ℕ) → is_device_word a ≡ true
    → (a % 4 ≡ 0) × (in_device_window a ≡ true) × (in_ram l a 4 ≡ false)
device_word_parts l a h =
    let parts = and_parts (a % 4 == 0) (in_device_window a) h in
    (eqb-true (a % 4) 0 parts.0, parts.1, before_ram l a (window_below a parts.1))

-- a device word is below RAM
above_devices : (low a : ℕ) → is_device_word a ≡ true → IsAbove low (a, 4)
above_devices low a h b from to in_stack =
    let below = window_below a (and_parts (a % 4 == 0) (in_device_window a) h).1 in absurd (omega arith)

-- a word is written to a device
pub step_writes_word : (code : List ℕ) (low : ℕ) (m : Moment) (j w rs1 rs2 a : ℕ) (imm : ℤ)
    → HasCode code m.machine → slice_get code j ≡ Some w → w < 2 ^ 32 → row_of w ≡ Some (Store Sw rs1 rs2 imm)
    → m.machine.pc ≡ code_base m.machine.layout + 4 * j
    → address m.machine rs1 imm ≡ a → is_device_word a ≡ true
    → StepsTo low m
    (record m { machine = moved_on m.machine; trace = m.trace ++ event.Write a (register m.machine rs2) ∷ [] })
step_writes_word code low m j w rs1 rs2 a imm has at small row pc is device =
    let s = m.machine in
    let parts = device_word_parts s.layout a device in
    let fine : trap_of (Store Sw rs1 rs2 imm) s ≡ None = ap (λ b. store_trap s.layout s.code_words b 4) is ∙ (
    let even : (a % 4 == 0) ≡ true = grind (arith, parts.0) in
    let window = parts.1 in let outside = parts.2 in
    rw (outside, window, even) refl) in
    let does : effect (Store Sw rs1 rs2 imm) s (next_answer m) ≡ (moved_on s, Wrote a (register s rs2)) =
    ap (λ b. if in_ram s.layout b 4 then (stored b (register s rs2) s, Ran) else (moved_on s, Wrote b (register s rs2)))
    is
    ∙ ap (λ t. if t then (stored a (register s rs2) s, Ran) else (moved_on s, Wrote a (register s rs2))) (parts.2) in
    steps_by code low m _ j w (Store Sw rs1 rs2 imm) (moved_on s) (Wrote a (register s rs2)) has at small row pc fine
    does refl refl
    (subst (λ b. IsAbove low (b, 4)) (sym is) (above_devices low a device))

-- ---- code at a place

-- these words stand in the code from word j on
abbrev pub HasAt : List ℕ → ℕ → List ℕ → Type 0
HasAt code j [] = Unit {0}
HasAt code j (w ∷ ws) = (slice_get code j ≡ Some w) × HasAt code (j + 1) ws

pub HasAt-front : (code : List ℕ) (j : ℕ) (ws vs : List ℕ) → HasAt code j (ws ++ vs) → HasAt code j ws
HasAt-front code j [] vs has = tt
HasAt-front code j (w ∷ ws) vs has = (has.0, HasAt-front code (j + 1) ws vs has.1)

pub HasAt-back : (code : List ℕ) (j : ℕ) (ws vs : List ℕ) → HasAt code j (ws ++ vs) → HasAt code (j + length ws) vs
HasAt-back code j [] vs has = let same : j ≡ j + 0 = omega arith in subst (λ i. HasAt code i vs) same has
HasAt-back code j (w ∷ ws) vs has =
    let same : j + 1 + length ws ≡ j + suc (length ws) = omega arith in
    subst (λ i. HasAt code i vs) same (HasAt-back code (j + 1) ws vs has.1)

-- a list stands in itself, after whatever is in front of it
pub HasAt-whole : (front ws : List ℕ) → HasAt (front ++ ws) (length front) ws
HasAt-whole front [] = tt
HasAt-whole front (w ∷ ws) =
    let whole : (front ++ w ∷ []) ++ ws ≡ front ++ w ∷ ws = append_assoc front (w ∷ []) ws in
    let len : length (front ++ w ∷ []) ≡ length front + 1 = length-append front (w ∷ []) in (
      slice_get-seam front w ws,
      subst (λ i. HasAt (front ++ w ∷ ws) i ws) len (subst
          (λ c. HasAt c (length (front ++ w ∷ [])) ws) whole (HasAt-whole (front ++ w ∷ []) ws)),
    )
  where
    slice_get-seam : (front : List ℕ) (w : ℕ) (ws : List ℕ) → slice_get (front ++ w ∷ ws) (length front) ≡ Some w
    slice_get-seam [] w ws = refl
    slice_get-seam (x ∷ front) w ws = slice_get-seam front w ws

-- code that RAM keeps is the machine's code still
pub HasCode-same : (code : List ℕ) (s s' : MachineState) → HasCode code s → s'.layout ≡ s.layout
    → s'.code_words ≡ s.code_words → ((p : ℕ) → p < 4 * length code
    → slice_index s'.ram (code_place s.layout + p) ≡ slice_index s.ram (code_place s.layout + p)) → HasCode code s'
HasCode-same code s s' has where_it_stands count same = record {
  count = count ∙ has.count;
  bytes = λ i h. ap (λ l. slice_index s'.ram (code_place l + i)) where_it_stands ∙ same i h ∙ has.bytes i h;
}

pub HasCode-computes : (code : List ℕ) (s : MachineState) (rd v : ℕ) → HasCode code s → HasCode code (computes rd v s)
HasCode-computes code s rd v has =
    HasCode-same code
    s (computes rd v s) has (layout-with_register rd v (moved_on s)) (code_words-with_register rd v (moved_on s))
    (λ p h. ap (λ ram. slice_index ram (code_place s.layout + p)) (ram-with_register rd v (moved_on s)))
