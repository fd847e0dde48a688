-- Machines stay machines: what instructions compute are words.
use Rattle.std.proofs.Common.{◌≡◌, ℕ, zero, suc, ◌+◌, ◌-◌, ◌*◌, ◌%◌, ◌^◌, ◌<◌, List, []}
use Rattle.std.proofs.Common.{◌∷◌, Option, Some, None, Bool, true, false, refl, ◌∙◌, arith}
use Rattle.std.specs.Prelude.{if◌then◌else◌, ℤ, pos, negsuc, ◌==◌, int_div, int_rem, IfSome, slice_index, slice_set}
use Rattle.std.specs.List.{AllByRecursion}
use Rattle.std.specs.Int.Bits.{and_lt, or_lt, xor_lt}
use Rattle.std.proofs.lemmas.Bool.{eqb-true}
use Rattle.std.proofs.lemmas.Bool.Decides.{nat_tests}
use Rattle.std.proofs.lemmas.Grind.{common_steps}
use Rattle.br_bytes.specs.Number.{number_of, low_bytes}
use Rattle.br_bytes.proofs.Words.{AreBytes-low_bytes}
use Rattle.br_words.specs.Words.{IsWord, signed, wrapped, flag}
use Rattle.br_rv32im.specs.declared.instruction.Ins.{Ins}
use Rattle.br_rv32im.specs.declared.instruction.Ins.TheVariants.{Upper, Jal, Jalr, Branch, Load}
use Rattle.br_rv32im.specs.declared.instruction.Ins.TheVariants.{Store, Imm, Shift, Reg, Ecall}
use Rattle.br_rv32im.specs.declared.instruction.UpperOp.TheVariants.{Lui, Auipc}
use Rattle.br_rv32im.specs.declared.instruction.LoadOp.{LoadOp}
use Rattle.br_rv32im.specs.declared.instruction.LoadOp.TheVariants.{Lb, Lh, Lw, Lbu, Lhu}
use Rattle.br_rv32im.specs.declared.instruction.StoreOp.{StoreOp}
use Rattle.br_rv32im.specs.declared.instruction.ImmOp.{ImmOp}
use Rattle.br_rv32im.specs.declared.instruction.ImmOp.TheVariants.{Addi, Slti, Sltiu, Xori, Ori, Andi}
use Rattle.br_rv32im.specs.declared.instruction.RegOp.{RegOp}
use Rattle.br_rv32im.specs.declared.instruction.RegOp.TheVariants.{Add, Sub, Sll, Slt, Sltu, Xor, Srl, Sra, Or, And}
use Rattle.br_rv32im.specs.declared.instruction.RegOp.TheVariants.{Mul, Mulh, Mulhsu, Mulhu, Div, Divu, Rem, Remu}
use Rattle.br_rv32im.specs.declared.instruction.ShiftOp.{ShiftOp}
use Rattle.br_rv32im.specs.declared.instruction.ShiftOp.TheVariants.{Slli, Srli, Srai}
use Rattle.br_rv32im.specs.Encoding.{Fits}
use Rattle.br_rv32im.specs.Row.{row_of}
use Rattle.br_machine.specs.declared.stepped.Stepped.{Stepped}
use Rattle.br_machine.specs.declared.stepped.Stepped.TheVariants.{Ran, Wrote}
use Rattle.br_machine.specs.declared.stepped.Trap.TheVariants.{FetchMisaligned}
use Rattle.br_words.specs.Layout.{ram_base}
use Rattle.br_machine.specs.State.{MachineState, IsMachine, bytes_from, register, with_register, with_bytes_from}
use Rattle.br_machine.specs.Arithmetic.{plus, reg_value, imm_value, shift_value, is_taken}
use Rattle.br_machine.specs.Traps.{in_ram, load_size, store_size, address, jalr_target, jump_trap, trap_of}
use Rattle.br_machine.specs.Effects.{effect, computes, jumps, moved_on, at_pc, next_pc, loaded, device_read}
use Rattle.br_machine.specs.Step.{step, fetched}
use Rattle.br_machine.proofs.Ram.{length-with_bytes_from}
use Rattle.br_machine.proofs.Straight.{length-with_register}
use Rattle.br_machine.proofs.Steps.{by_test, by_step}

-- ---- lists of small numbers

pub all_below-set : (n : ℕ) (xs : List ℕ) (i v : ℕ) → AllByRecursion (λ x. x < n) xs → v < n
    → AllByRecursion (λ x. x < n) (slice_set xs i v)
all_below-set n [] i v all small = tt
all_below-set n (x ∷ xs) zero v all small = (small, all.1)
all_below-set n (x ∷ xs) (suc i) v all small = (all.0, all_below-set n xs i v all.1 small)

pub all_below-index : (n : ℕ) (xs : List ℕ) (i : ℕ) → 0 < n → AllByRecursion (λ x. x < n) xs → slice_index xs i < n
all_below-index n [] i some all = some
all_below-index n (x ∷ xs) zero some all = all.0
all_below-index n (x ∷ xs) (suc i) some all = all_below-index n xs i some all.1

all_below-bytes_from : (ram : List ℕ) (p n : ℕ) → AllByRecursion (λ b. b < 256) ram
    → AllByRecursion (λ b. b < 256) (bytes_from ram p n)
all_below-bytes_from ram p zero all = tt
all_below-bytes_from ram p (suc n) all =
    (all_below-index 256 ram p (omega arith) all, all_below-bytes_from ram (p + 1) n all)

all_below-with_bytes_from : (bs ram : List ℕ) (p : ℕ) → AllByRecursion (λ b. b < 256) bs
    → AllByRecursion (λ b. b < 256) ram → AllByRecursion (λ b. b < 256) (with_bytes_from ram p bs)
all_below-with_bytes_from [] ram p small all = all
all_below-with_bytes_from (b ∷ bs) ram p small all =
    all_below-with_bytes_from bs (slice_set ram p b) (p + 1) small.1 (all_below-set 256 ram p b all small.0)

-- ---- what is read of a machine

pub register_below : (s : MachineState) (r : ℕ) → IsMachine s → register s r < 2 ^ 32
register_below s zero is = omega arith
register_below s (suc r) is = all_below-index (2 ^ 32) s.registers (suc r) (omega arith) is.words

byte_below : (s : MachineState) (p : ℕ) → IsMachine s → slice_index s.ram p < 256
byte_below s p is = all_below-index 256 s.ram p (omega arith) is.bytes

pub loaded_below : (o : LoadOp) (s : MachineState) (p : ℕ) → IsMachine s
    → loaded o (number_of (bytes_from s.ram p (load_size o))) < 2 ^ 32
loaded_below Lb s p is = let b = byte_below s p is in grind (arith, nat_tests)
loaded_below Lh s p is = let b = byte_below s p is in let c = byte_below s (p + 1) is in grind (arith, nat_tests)
loaded_below Lw s p is =
    let b = byte_below s p is in let c = byte_below s (p + 1) is in
    let d = byte_below s (p + 1 + 1) is in let e = byte_below s (p + 1 + 1 + 1) is in omega arith
loaded_below Lbu s p is = let b = byte_below s p is in omega arith
loaded_below Lhu s p is = let b = byte_below s p is in let c = byte_below s (p + 1) is in omega arith

pub fetched_below : (s : MachineState) → IsMachine s → fetched s < 2 ^ 32
fetched_below s is = loaded_below Lw s (s.pc - ram_base s.layout) is

-- ---- what instructions compute

wrapped_below : (z : ℤ) → wrapped z < 2 ^ 32
wrapped_below (pos n) = omega arith
wrapped_below (negsuc n) = omega arith

flag_below : (b : Bool) → flag b < 2 ^ 32
flag_below true = omega arith
flag_below false = omega arith

quotient_below : (b : Bool) (z : ℤ) → (if b then 2 ^ 32 - 1 else wrapped z) < 2 ^ 32
quotient_below true z = omega arith
quotient_below false z = wrapped_below z

remainder_below : (b : Bool) (a : ℕ) (z : ℤ) → a < 2 ^ 32 → (if b then a else wrapped z) < 2 ^ 32
remainder_below true a z p = p
remainder_below false a z p = wrapped_below z

reg_below : (o : RegOp) (a b : ℕ) → a < 2 ^ 32 → b < 2 ^ 32 → reg_value o a b < 2 ^ 32
reg_below Add a b p q = omega arith
reg_below Sub a b p q = omega arith
reg_below Sll a b p q = omega arith
reg_below Slt a b p q = flag_below _
reg_below Sltu a b p q = flag_below _
reg_below Xor a b p q = xor_lt 32 a b p q
reg_below Srl a b p q = grind (arith, common_steps)
reg_below Sra a b p q = wrapped_below _
reg_below Or a b p q = or_lt 32 a b p q
reg_below And a b p q = and_lt 32 a b p q
reg_below Mul a b p q = omega arith
reg_below Mulh a b p q = wrapped_below _
reg_below Mulhsu a b p q = wrapped_below _
reg_below Mulhu a b p q = grind (arith, common_steps)
reg_below Div a b p q = quotient_below (b == 0) (int_div (signed a) (signed b))
reg_below Divu a b p q = grind (arith, nat_tests)
reg_below Rem a b p q = remainder_below (b == 0) a (int_rem (signed a) (signed b)) p
reg_below Remu a b p q = grind (arith, nat_tests)

imm_below : (o : ImmOp) (a b : ℕ) → a < 2 ^ 32 → b < 2 ^ 32 → imm_value o a b < 2 ^ 32
imm_below Addi = reg_below Add
imm_below Slti = reg_below Slt
imm_below Sltiu = reg_below Sltu
imm_below Xori = reg_below Xor
imm_below Ori = reg_below Or
imm_below Andi = reg_below And

shift_below : (o : ShiftOp) (a n : ℕ) → a < 2 ^ 32 → shift_value o a n < 2 ^ 32
shift_below Slli a n p = omega arith
shift_below Srli a n p = grind (arith, common_steps)
shift_below Srai a n p = wrapped_below _

-- ---- the machine after an effect

after_register : (rd v pc : ℕ) (s : MachineState) → IsMachine s → v < 2 ^ 32 → pc < 2 ^ 32 → pc % 4 ≡ 0
    → IsMachine (with_register rd v (at_pc pc s))
after_register zero v pc s is small low even = record {
  registers = is.registers;
  words = is.words;
  pc = low;
  aligned = even;
  ram = is.ram;
  bytes = is.bytes;
  code = is.code;
}
after_register (suc rd) v pc s is small low even = record {
  registers = length-with_register (suc rd) v s ∙ is.registers;
  words = all_below-set (2 ^ 32) s.registers (suc rd) v is.words small;
  pc = low;
  aligned = even;
  ram = is.ram;
  bytes = is.bytes;
  code = is.code;
}

next_aligned : (s : MachineState) → IsMachine s → next_pc s % 4 ≡ 0
next_aligned s is = omega (arith, is.aligned)

-- a jump that breaks no rule leads to a multiple of 4
jump_aligned : (target : ℕ) → jump_trap target ≡ None → target % 4 ≡ 0
jump_aligned target fine = tested (target % 4 == 0) refl fine
  where
    tested : (b : Bool) → (target % 4 == 0) ≡ b → (if b then None else Some FetchMisaligned) ≡ None → target % 4 ≡ 0
    tested true is e = eqb-true (target % 4) 0 is
    tested false is e = absurd (cc)

computed : (rd v : ℕ) (s : MachineState) → IsMachine s → v < 2 ^ 32 → IsMachine (computes rd v s)
computed rd v s is small = after_register rd v (next_pc s) s is small (omega arith) (next_aligned s is)

jumped : (rd target : ℕ) (s : MachineState) → IsMachine s → target < 2 ^ 32 → jump_trap target ≡ None
    → IsMachine (jumps rd target s)
jumped rd target s is low fine = after_register rd (next_pc s) target s is (omega arith) low (jump_aligned target fine)

moved : (s : MachineState) → IsMachine s → IsMachine (moved_on s)
moved s is = after_register 0 0 (next_pc s) s is (omega arith) (omega arith) (next_aligned s is)

read : (rd a : ℕ) (s : MachineState) (next : Option ℕ) → IsMachine s → IfSome next IsWord
    → IsMachine (device_read rd a s next).0
read rd a s (Some v) is word = computed rd v s is word
read rd a s None is word = is

stored : (a v : ℕ) (o : StoreOp) (s : MachineState) → IsMachine s
    → IsMachine
    (record (moved_on s) { ram = with_bytes_from s.ram (a - ram_base s.layout) (low_bytes (store_size o) v) })
stored a v o s is = record {
  registers = is.registers;
  words = is.words;
  pc = omega arith;
  aligned = next_aligned s is;
  ram = length-with_bytes_from (low_bytes (store_size o) v) s.ram (a - ram_base s.layout) ∙ is.ram;
  bytes = all_below-with_bytes_from (low_bytes (store_size o) v) s.ram (a - ram_base s.layout)
      (AreBytes-low_bytes (store_size o) v) is.bytes;
  code = is.code;
}

branched : (b : Bool) (target : ℕ) (s : MachineState) → IsMachine s → target < 2 ^ 32
    → (if b then jump_trap target else None) ≡ None
    → IsMachine (at_pc (if b then target else next_pc s) s)
branched true target s is low fine = after_register 0 0 target s is (omega arith) low (jump_aligned target fine)
branched false target s is low fine = moved s is

made : (i : Ins) (s : MachineState) (next : Option ℕ) → trap_of i s ≡ None → Fits i → IsMachine s → IfSome next IsWord
    → IsMachine (effect i s next).0
made (Upper Lui rd field) s next fine fits is word = computed rd (field * 4096) s is (omega (arith, fits.1))
made (Upper Auipc rd field) s next fine fits is word = computed rd ((s.pc + field * 4096) % 2 ^ 32) s is (omega arith)
made (Jal rd imm) s next fine fits is word = jumped rd (plus s.pc imm) s is (omega arith) fine
made (Jalr rd rs1 imm) s next fine fits is word = jumped rd (jalr_target s rs1 imm) s is (omega arith) fine
made (Branch op rs1 rs2 imm) s next fine fits is word =
    branched (is_taken op (register s rs1) (register s rs2)) (plus s.pc imm) s is (omega arith) fine
made (Load op rd rs1 imm) s next fine fits is word =
    let a = address s rs1 imm in
    by_test (λ (p : MachineState × Stepped). IsMachine p.0) (in_ram s.layout a (load_size op))
    (computes rd (loaded op (number_of (bytes_from s.ram (a - ram_base s.layout) (load_size op)))) s, Ran)
    (device_read rd a s next)
    (λ inside. computed rd (loaded op (number_of (bytes_from s.ram (a - ram_base s.layout) (load_size op)))) s is
    (loaded_below op s (a - ram_base s.layout) is))
    (λ outside. read rd a s next is word)
made (Store op rs1 rs2 imm) s next fine fits is word =
    let a = address s rs1 imm in
    let v = register s rs2 in
    by_test (λ (p : MachineState × Stepped). IsMachine p.0) (in_ram s.layout a (store_size op))
    (record (moved_on s) { ram = with_bytes_from s.ram (a - ram_base s.layout) (low_bytes (store_size op) v) }, Ran)
    (moved_on s, Wrote a v)
    (λ inside. stored a v op s is)
    (λ outside. moved s is)
made (Imm op rd rs1 imm) s next fine fits is word =
    computed rd (imm_value op (register s rs1) (wrapped imm)) s is
    (imm_below op (register s rs1) (wrapped imm) (register_below s rs1 is) (wrapped_below imm))
made (Shift op rd rs1 amount) s next fine fits is word =
    computed rd (shift_value op (register s rs1) amount) s is
    (shift_below op (register s rs1) amount (register_below s rs1 is))
made (Reg op rd rs1 rs2) s next fine fits is word =
    computed rd (reg_value op (register s rs1) (register s rs2)) s is
    (reg_below op (register s rs1) (register s rs2) (register_below s rs1 is) (register_below s rs2 is))
made Ecall s next fine fits is word = is

-- a step makes a machine, where words are instructions whose fields are in range
pub IsMachine-step : ((w : ℕ) (i : Ins) → IsWord w → row_of w ≡ Some i → Fits i)
    → (s : MachineState) (next : Option ℕ) → IsMachine s → IfSome next IsWord → IsMachine (step s next).0
IsMachine-step in_range s next is word =
    by_step (λ (p : MachineState × Stepped). IsMachine p.0) s next (λ t. is)
    (λ i row fine. made i s next fine (in_range (fetched s) i (fetched_below s is) row) is word)
