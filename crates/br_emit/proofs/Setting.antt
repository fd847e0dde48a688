-- Pieces of code that set a register.
use Rattle.std.proofs.Common.{◌≡◌, ◌≢◌, ℕ, zero, suc, ◌+◌, ◌*◌, ◌<◌, List, [], ◌∷◌}
use Rattle.std.proofs.Common.{Option, Some, None, refl, sym, ap, subst, ◌∙◌, arith, drop}
use Rattle.std.specs.Prelude.{slice_get, IfSome, ℤ}
use Rattle.br_words.specs.Words.{IsWord, wrapped}
use Rattle.br_bytes.specs.declared.run.Event.{Event}
use Rattle.br_bytes.specs.Buffers.{AreWords}
use Rattle.br_rv32im.specs.declared.instruction.Ins.{Ins}
use Rattle.br_rv32im.specs.declared.instruction.Ins.TheVariants.{Upper, Imm, Shift, Reg}
use Rattle.br_rv32im.specs.declared.instruction.UpperOp.TheVariants.{Lui}
use Rattle.br_rv32im.specs.declared.instruction.ImmOp.{ImmOp}
use Rattle.br_rv32im.specs.declared.instruction.ShiftOp.{ShiftOp}
use Rattle.br_rv32im.specs.declared.instruction.RegOp.{RegOp}
use Rattle.br_rv32im.specs.Encoding.{Fits}
use Rattle.br_machine.specs.declared.stepped.Stepped.{Stepped}
use Rattle.br_machine.specs.declared.stepped.Stepped.TheVariants as stepped
use Rattle.br_machine.specs.State.{MachineState, IsMachine, register}
use Rattle.br_machine.specs.Arithmetic.{reg_value, imm_value, shift_value}
use Rattle.br_machine.specs.Effects.{computes}
use Rattle.br_machine.specs.Step.{step}
use Rattle.br_machine.specs.Steps.{Moment, moment_after, next_answer, next_step, code_region, StepsTo, Runs}
use Rattle.br_emit.proofs.Stepping.{machine, at, Good, Has, put, reads, Good-put, register-machine}
use Rattle.br_emit.proofs.Stepping.{reads-put_same, reads-put_other, step_sets, IsAbove-none}
use Rattle.br_emit.proofs.Pieces.{Ground, Ready, runs-append, runs_one}

-- ---- what stays through many steps

first_word : (answers : List ℕ) → AreWords answers → IfSome (slice_get answers 0) IsWord
first_word [] h = tt
first_word (v ∷ vs) h = h.0

words-drop : (answers : List ℕ) → AreWords answers → AreWords (drop 1 answers)
words-drop [] h = tt
words-drop (v ∷ vs) h = h.1

record Onward (m next : Moment) (s : MachineState) : Type 0 where
  same : next.machine ≡ s
  words : AreWords m.answers → AreWords next.answers

onward : (m next : Moment) (q : MachineState × Stepped) → moment_after m q ≡ Some next → Onward m next q.0
onward m next (s, stepped.Ran) h =
    let is : record m { machine = s } ≡ next = cc in
    record { same = ap (λ n. n.machine) (sym is); words = λ w. subst (λ n. AreWords n.answers) is w }
onward m next (s, stepped.Read a v) h = by m next s a v h
  where
    by : (m next : Moment) (s : MachineState) (a v : ℕ) → moment_after m (s, stepped.Read a v) ≡ Some next
        → Onward m next s
    by m next s a v h = record {
      same = sym (ap machine_of h);
      words = λ w. subst (λ o. IfSome o (λ n. AreWords n.answers)) h (words-drop m.answers w);
    }
      where
        machine_of : Option Moment → MachineState
        machine_of (Some n) = n.machine
        machine_of None = s
onward m next (s, stepped.Wrote a v) h = by m next s a v h
  where
    by : (m next : Moment) (s : MachineState) (a v : ℕ) → moment_after m (s, stepped.Wrote a v) ≡ Some next
        → Onward m next s
    by m next s a v h =
        record { same = sym (ap machine_of h); words = λ w. subst (λ o. IfSome o (λ n. AreWords n.answers)) h w }
      where
        machine_of : Option Moment → MachineState
        machine_of (Some n) = n.machine
        machine_of None = s
onward m next (s, stepped.Waiting a) h = absurd (cc)
onward m next (s, stepped.Halted) h = absurd (cc)
onward m next (s, stepped.Trapped trap pc) h = absurd (cc)

record Stays (m next : Moment) : Type 0 where
  is : IsMachine next.machine
  words : AreWords next.answers
  same : code_region next.machine ≡ code_region m.machine

stays : (g : Ground) (low n : ℕ) (m next : Moment) → IsMachine m.machine → AreWords m.answers → Runs low n m next
    → Stays m next
stays g low zero m next is words runs = record {
  is = subst (λ q. IsMachine q.machine) runs is;
  words = subst (λ q. AreWords q.answers) runs words;
  same = ap (λ q. code_region q.machine) (sym runs);
}
stays g low (suc n) m next is words runs =
    let o = onward m runs.0 (next_step m) runs.1.after in
    let rest = stays g low n runs.0 next
    (subst IsMachine (sym o.same) (g.makes m.machine (next_answer m) is (first_word m.answers words)))
    (o.words words) runs.2 in
    record { is = rest.is; words = rest.words; same = rest.same ∙ runs.1.code }

pub ready_runs : (g : Ground) (registers ram answers registers' ram' answers' : List ℕ)
    (trace trace' : List Event) (j j' n : ℕ)
    → Ready g.code registers ram answers j
    → Runs g.low n (at g.code j registers ram answers trace) (at g.code j' registers' ram' answers' trace')
    → Ready g.code registers' ram' answers' j'
ready_runs g registers ram answers registers' ram' answers' trace trace' j j' n ready runs =
    let s = stays g g.low n (at g.code j registers ram answers trace) (at g.code j' registers' ram' answers' trace')
    ready.is ready.are_words runs in
    record { is = s.is; holds = s.same ∙ ready.holds; are_words = s.words }

pub good_of : (code registers ram answers : List ℕ) (j : ℕ) → Ready code registers ram answers j
    → Good code registers ram
good_of code registers ram answers j ready =
    let is = ready.is in
    record { few = is.code; all = is.registers; whole = is.ram; holds = ready.holds }

-- ---- code that sets a register, and no other

pub record Sets (g : Ground) (j k : ℕ) (registers ram answers : List ℕ) (trace : List Event) (x v n : ℕ) : Type 0 where
  pub registers' : List ℕ
  pub good : Good g.code registers' ram
  pub runs : Runs g.low n (at g.code j registers ram answers trace) (at g.code (j + k) registers' ram answers trace)
  pub value : reads registers' x ≡ v
  pub others : (y : ℕ) → y ≢ x → reads registers' y ≡ reads registers y

-- one setting after another of the same register
pub sets_again : (g : Ground) (j k i : ℕ) (registers ram answers : List ℕ) (trace : List Event) (x v w n l : ℕ)
    → (first : Sets g j k registers ram answers trace x v n) → Sets g (j + k) i first.registers' ram answers trace x w l
    → Sets g j (k + i) registers ram answers trace x w (n + l)
sets_again g j k i registers ram answers trace x v w n l first second =
    let same : j + k + i ≡ j + (k + i) = omega arith in
    record {
      registers' = second.registers';
      good = second.good;
      runs = subst (λ q. Runs g.low (n + l) (at g.code j registers ram answers trace)
          (at g.code q second.registers' ram answers trace)) same
          (runs-append g.low n l _ _ _ first.runs second.runs);
      value = second.value;
      others = λ y ne. second.others y ne ∙ first.others y ne;
    }

-- one instruction
pub one_sets : (g : Ground) (j : ℕ) (registers ram answers : List ℕ) (trace : List Event) (i : Ins) (x v : ℕ)
    → Good g.code registers ram → x ≢ 0 → x < 32
    → StepsTo g.low (at g.code j registers ram answers trace) (at g.code (j + 1) (put x v registers) ram answers trace)
    → Sets g j 1 registers ram answers trace x v 1
one_sets g j registers ram answers trace i x v good ne small step =
    let all = good.all in
    record {
      registers' = put x v registers;
      good = Good-put g.code registers ram x v good;
      runs = runs_one g.low _ _ step;
      value = reads-put_same x v registers ne (omega arith);
      others = λ y other. reads-put_other x y v registers other;
    }

pub imm_sets : (g : Ground) (j : ℕ) (registers ram answers : List ℕ) (trace : List Event) (op : ImmOp)
    (x y a : ℕ) (imm : ℤ)
    → Good g.code registers ram → Has g.code j (Imm op x y imm) → Fits (Imm op x y imm) → x ≢ 0 → reads registers y ≡ a
    → Sets g j 1 registers ram answers trace x (imm_value op a (wrapped imm)) 1
imm_sets g j registers ram answers trace op x y a imm good has fits ne is =
    let s = machine g.code j registers ram in
    let small : x < 32 = omega (arith, fits.0) in
    let does = ap (λ q. (computes x (imm_value op q (wrapped imm)) s, stepped.Ran))
    (register-machine g.code registers ram j y ∙ is) in
    one_sets g j registers ram answers trace (Imm op x y imm) x (imm_value op a (wrapped imm)) good ne small
    (step_sets g.table g.code registers ram answers trace g.low j (Imm op x y imm) x (imm_value op a (wrapped imm)) good
    has fits refl does (IsAbove-none g.low))

pub shift_sets : (g : Ground) (j : ℕ) (registers ram answers : List ℕ) (trace : List Event) (op : ShiftOp)
    (x y a amount : ℕ)
    → Good g.code registers ram → Has g.code j (Shift op x y amount) → Fits (Shift op x y amount) → x ≢ 0
    → reads registers y ≡ a
    → Sets g j 1 registers ram answers trace x (shift_value op a amount) 1
shift_sets g j registers ram answers trace op x y a amount good has fits ne is =
    let s = machine g.code j registers ram in
    let small : x < 32 = omega (arith, fits.0) in
    let does = ap (λ q. (computes x (shift_value op q amount) s, stepped.Ran))
    (register-machine g.code registers ram j y ∙ is) in
    one_sets g j registers ram answers trace (Shift op x y amount) x (shift_value op a amount) good ne small
    (step_sets g.table g.code registers ram answers trace g.low j (Shift op x y amount) x (shift_value op a amount) good
    has fits refl does (IsAbove-none g.low))

pub reg_sets : (g : Ground) (j : ℕ) (registers ram answers : List ℕ) (trace : List Event) (op : RegOp) (x y z a b : ℕ)
    → Good g.code registers ram → Has g.code j (Reg op x y z) → Fits (Reg op x y z) → x ≢ 0 → reads registers y ≡ a
    → reads registers z ≡ b
    → Sets g j 1 registers ram answers trace x (reg_value op a b) 1
reg_sets g j registers ram answers trace op x y z a b good has fits ne is also =
    let s = machine g.code j registers ram in
    let small : x < 32 = omega (arith, fits.0) in
    let does = ap (λ q. (computes x (reg_value op q (register s z)) s, stepped.Ran))
    (register-machine g.code registers ram j y ∙ is)
    ∙ ap (λ q. (computes x (reg_value op a q) s, stepped.Ran)) (register-machine g.code registers ram j z ∙ also) in
    one_sets g j registers ram answers trace (Reg op x y z) x (reg_value op a b) good ne small
    (step_sets g.table g.code registers ram answers trace g.low j (Reg op x y z) x (reg_value op a b) good has fits refl
    does (IsAbove-none g.low))

pub lui_sets : (g : Ground) (j : ℕ) (registers ram answers : List ℕ) (trace : List Event) (x field : ℕ)
    → Good g.code registers ram → Has g.code j (Upper Lui x field) → Fits (Upper Lui x field) → x ≢ 0
    → Sets g j 1 registers ram answers trace x (field * 4096) 1
lui_sets g j registers ram answers trace x field good has fits ne =
    let small : x < 32 = omega (arith, fits.0) in
    one_sets g j registers ram answers trace (Upper Lui x field) x (field * 4096) good ne small
    (step_sets g.table g.code registers ram answers trace g.low j (Upper Lui x field) x (field * 4096) good has fits
    refl refl (IsAbove-none g.low))
