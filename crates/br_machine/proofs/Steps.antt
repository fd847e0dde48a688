-- How a step comes about, and what it keeps: by cases on what traps and on the instruction.
use Rattle.std.proofs.Common.{◌≡◌, ◌≢◌, ◌⊎◌, inl, inr, ℕ, zero, suc, ◌+◌, ◌-◌, ◌*◌, ◌%◌, ◌^◌, ◌≤◌, take}
use Rattle.std.proofs.Common.{drop, length, Option, Some, None, Bool, true, false, refl, sym, ap, ◌∙◌, arith}
use Rattle.std.specs.Prelude.{if◌then◌else◌, min, max}
use Rattle.std.proofs.lemmas.Bool.{cases_lt, false≢true}
use Rattle.std.proofs.lemmas.Bool.Decides.{nat_tests}
use Rattle.br_bytes.specs.Number.{number_of, low_bytes}
use Rattle.br_rv32im.specs.declared.instruction.Ins.{Ins}
use Rattle.br_rv32im.specs.declared.instruction.Ins.TheVariants.{Upper, Jal, Jalr, Branch, Load}
use Rattle.br_rv32im.specs.declared.instruction.Ins.TheVariants.{Store, Imm, Shift, Reg, Ecall}
use Rattle.br_rv32im.specs.declared.instruction.UpperOp.TheVariants.{Lui, Auipc}
use Rattle.br_rv32im.specs.declared.instruction.StoreOp.{StoreOp}
use Rattle.br_rv32im.specs.declared.instruction.StoreOp.TheVariants.{Sb, Sh, Sw}
use Rattle.br_rv32im.specs.Row.{row_of}
use Rattle.br_machine.specs.declared.stepped.Stepped.{Stepped}
use Rattle.br_machine.specs.declared.stepped.Stepped.TheVariants.{Ran, Read, Wrote, Waiting, Halted, Trapped}
use Rattle.br_machine.specs.declared.stepped.Trap.{Trap}
use Rattle.br_machine.specs.declared.stepped.Trap.TheVariants.{FetchOutside, Illegal, CodeWrite}
use Rattle.br_words.specs.declared.layout.Layout.{Layout}
use Rattle.br_words.specs.Layout.{code_base, ram_base}
use Rattle.br_machine.specs.State.{MachineState, code_place, bytes_from, register, with_bytes_from}
use Rattle.br_machine.specs.Traps.{trap_of, in_ram, meet, store_trap, device_trap, load_size, store_size, address}
use Rattle.br_machine.specs.Effects.{effect, computes, jumps, moved_on, at_pc, loaded, device_read}
use Rattle.br_machine.specs.Step.{step, is_in_code, fetched, execute, obey, trapped}
use Rattle.br_machine.proofs.Regions.{regions}
use Rattle.br_bytes.proofs.Words.{length-low_bytes}
use Rattle.br_machine.proofs.Ram.{take_drop-with_bytes_from}
use Rattle.br_machine.proofs.Straight.{ram-with_register, layout-with_register, code_words-with_register}

-- a choice of two has what both have
pub by_test : {A : Type 0} (P : A → Type 0) (b : Bool) (x y : A) → (b ≡ true → P x) → (b ≡ false → P y)
    → P (if b then x else y)
by_test P true x y at_true at_false = at_true refl
by_test P false x y at_true at_false = at_false refl

-- a step traps, or an instruction that breaks no rule has its effect
pub by_step : (P : MachineState × Stepped → Type 0) (s : MachineState) (next : Option ℕ)
    → ((t : Trap) → P (trapped t s))
    → ((i : Ins) → row_of (fetched s) ≡ Some i → trap_of i s ≡ None → P (effect i s next))
    → P (step s next)
by_step P s next traps acts =
    by_test P (is_in_code s) (execute (row_of (fetched s)) s next) (trapped FetchOutside s)
    (λ inside. executed (row_of (fetched s)) refl) (λ outside. traps FetchOutside)
  where
    obeyed : (i : Ins) (t : Option Trap) → row_of (fetched s) ≡ Some i → trap_of i s ≡ t → P (obey i t s next)
    obeyed i (Some t) row trap = traps t
    obeyed i None row trap = acts i row trap

    executed : (o : Option Ins) → row_of (fetched s) ≡ o → P (execute o s next)
    executed None row = traps Illegal
    executed (Some i) row = obeyed i (trap_of i s) row refl

-- bytes that meet no others end before them or begin after them, or one of the two is empty
apart_from : (a n b k : ℕ) → meet a n b k ≡ false → n ≢ 0 → k ≢ 0 → (a + n ≤ b) ⊎ (b + k ≤ a)
apart_from a n b k h some more = let least : min (a + n) (b + k) ≤ max a b = grind (arith, nat_tests) in least_is least
  where
    least_is : min (a + n) (b + k) ≤ max a b → (a + n ≤ b) ⊎ (b + k ≤ a)
    least_is least = elim (cases_lt b (a + n)) [
      | inl p ↦ inr (omega arith)
      | inr p ↦ inl p
    ]

-- a store in RAM that breaks no rule ends before the code's bytes or begins after them
stored_apart : (l : Layout) (words a n : ℕ) → in_ram l a n ≡ true → store_trap l words a n ≡ None → n ≢ 0 → words ≢ 0
    → (a - ram_base l + n ≤ code_place l) ⊎ (code_place l + 4 * words ≤ a - ram_base l)
stored_apart l words a n inside none some more =
    tested (meet a n (code_base l) (4 * words)) refl
    (ap (λ b. if b then (if meet a n (code_base l) (4 * words) then Some CodeWrite else None) else device_trap a n)
    (sym inside) ∙ none)
  where
    low : ram_base l ≤ a
    low = grind (arith, nat_tests)

    placed : (a + n ≤ code_base l) ⊎ (code_base l + 4 * words ≤ a)
        → (a - ram_base l + n ≤ code_place l) ⊎ (code_place l + 4 * words ≤ a - ram_base l)
    placed (inl h) = inl (omega (arith, low, (regions l).code_in))
    placed (inr h) = inr (omega (arith, low, (regions l).code_in))

    tested : (b : Bool) → meet a n (code_base l) (4 * words) ≡ b → (if b then Some CodeWrite else None) ≡ None
        → (a - ram_base l + n ≤ code_place l) ⊎ (code_place l + 4 * words ≤ a - ram_base l)
    tested true is e = absurd (cc)
    tested false is e = placed (apart_from a n (code_base l) (4 * words) is some (omega arith))

-- ---- what every step keeps

-- a step went on
abbrev pub goes_on : Stepped → Bool
goes_on Ran = true
goes_on (Read a v) = true
goes_on (Wrote a v) = true
goes_on (Waiting a) = false
goes_on Halted = false
goes_on (Trapped trap pc) = false

pub record Keeps (s : MachineState) (p : MachineState × Stepped) : Type 0 where
  pub unchanged : (goes_on p.1 ≡ true) ⊎ (p.0 ≡ s)
  pub code : take (4 * s.code_words) (drop (code_place s.layout) p.0.ram)
      ≡ take (4 * s.code_words) (drop (code_place s.layout) s.ram)
  pub words : p.0.code_words ≡ s.code_words
  pub layout : p.0.layout ≡ s.layout

keeps_all : (s : MachineState) (how : Stepped) → Keeps s (s, how)
keeps_all s how = record { unchanged = inr refl; code = refl; words = refl; layout = refl }

keeps_computed : (rd v : ℕ) (s : MachineState) (how : Stepped) → goes_on how ≡ true → Keeps s (computes rd v s, how)
keeps_computed rd v s how on = record {
  unchanged = inl on;
  code = ap (λ ram. take (4 * s.code_words) (drop (code_place s.layout) ram)) (ram-with_register rd v (moved_on s));
  words = code_words-with_register rd v (moved_on s);
  layout = layout-with_register rd v (moved_on s);
}

keeps_jumped : (rd target : ℕ) (s : MachineState) → Keeps s (jumps rd target s, Ran)
keeps_jumped rd target s = record {
  unchanged = inl refl;
  code = ap (λ ram. take (4 * s.code_words) (drop (code_place s.layout) ram))
      (ram-with_register rd ((s.pc + 4) % 2 ^ 32) (at_pc target s));
  words = code_words-with_register rd ((s.pc + 4) % 2 ^ 32) (at_pc target s);
  layout = layout-with_register rd ((s.pc + 4) % 2 ^ 32) (at_pc target s);
}

keeps_read : (rd a : ℕ) (s : MachineState) (next : Option ℕ) → Keeps s (device_read rd a s next)
keeps_read rd a s (Some v) = keeps_computed rd v s (Read a v) refl
keeps_read rd a s None = keeps_all s (Waiting a)

some_bytes : (o : StoreOp) → store_size o ≢ 0
some_bytes Sb = omega arith
some_bytes Sh = omega arith
some_bytes Sw = omega arith

keeps_stored : (a v : ℕ) (o : StoreOp) (s : MachineState) → store_trap s.layout s.code_words a (store_size o) ≡ None
    → Keeps s (if in_ram s.layout a (store_size o) then
    (record (moved_on s) { ram = with_bytes_from s.ram (a - ram_base s.layout) (low_bytes (store_size o) v) }, Ran)
    else (moved_on s, Wrote a v))
keeps_stored a v o s none =
    by_test (Keeps s) (in_ram s.layout a (store_size o)) _ _
    (λ inside. record { unchanged = inl refl; code = code_kept s.code_words inside none; words = refl; layout = refl })
    (λ outside. record { unchanged = inl refl; code = refl; words = refl; layout = refl })
  where
    size : length (low_bytes (store_size o) v) ≡ store_size o
    size = length-low_bytes (store_size o) v

    code_kept : (words : ℕ) → in_ram s.layout a (store_size o) ≡ true
        → store_trap s.layout words a (store_size o) ≡ None
        → take (4 * words)
        (drop (code_place s.layout) (with_bytes_from s.ram (a - ram_base s.layout) (low_bytes (store_size o) v)))
        ≡ take (4 * words) (drop (code_place s.layout) s.ram)
    code_kept zero inside none = refl
    code_kept (suc words) inside none =
        take_drop-with_bytes_from (low_bytes (store_size o) v) s.ram (4 * suc words) (code_place s.layout)
        (a - ram_base s.layout)
        (elim (stored_apart s.layout (suc words) a (store_size o) inside none (some_bytes o) (omega arith)) [
          | inl h ↦ inl (omega (arith, size))
          | inr h ↦ inr h
        ])

pub keeps_effect : (i : Ins) (s : MachineState) (next : Option ℕ) → trap_of i s ≡ None → Keeps s (effect i s next)
keeps_effect (Upper Lui rd field) s next fine = keeps_computed rd _ s Ran refl
keeps_effect (Upper Auipc rd field) s next fine = keeps_computed rd _ s Ran refl
keeps_effect (Jal rd imm) s next fine = keeps_jumped rd _ s
keeps_effect (Jalr rd rs1 imm) s next fine = keeps_jumped rd _ s
keeps_effect (Branch op rs1 rs2 imm) s next fine =
    record { unchanged = inl refl; code = refl; words = refl; layout = refl }
keeps_effect (Load op rd rs1 imm) s next fine =
    let a = address s rs1 imm in
    by_test (Keeps s) (in_ram s.layout a (load_size op)) _ _
    (λ inside.
    keeps_computed rd (loaded op (number_of (bytes_from s.ram (a - ram_base s.layout) (load_size op)))) s Ran refl)
    (λ outside. keeps_read rd a s next)
keeps_effect (Store op rs1 rs2 imm) s next fine = keeps_stored (address s rs1 imm) (register s rs2) op s fine
keeps_effect (Imm op rd rs1 imm) s next fine = keeps_computed rd _ s Ran refl
keeps_effect (Shift op rd rs1 amount) s next fine = keeps_computed rd _ s Ran refl
keeps_effect (Reg op rd rs1 rs2) s next fine = keeps_computed rd _ s Ran refl
keeps_effect Ecall s next fine = keeps_all s Halted

pub keeps_step : (s : MachineState) (next : Option ℕ) → Keeps s (step s next)
keeps_step s next =
    by_step (Keeps s) s next (λ t. keeps_all s (Trapped t s.pc)) (λ i row fine. keeps_effect i s next fine)

-- a step that does not go on changes nothing
pub step-ended : (s : MachineState) (next : Option ℕ) (how : Stepped) → goes_on how ≡ false → (step s next).1 ≡ how
    → (step s next).0 ≡ s
step-ended s next how ends is = decided (keeps_step s next).unchanged
  where
    decided : (goes_on (step s next).1 ≡ true) ⊎ ((step s next).0 ≡ s) → (step s next).0 ≡ s
    decided (inl on) = absurd (false≢true (sym ends ∙ ap goes_on (sym is) ∙ on))
    decided (inr e) = e
