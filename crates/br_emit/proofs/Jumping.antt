-- Pieces of code that go on elsewhere.
use Rattle.std.proofs.Common.{◌≡◌, ◌≢◌, ◌⊎◌, inl, inr, ℕ, suc, ◌+◌, ◌-◌, ◌*◌, ◌/◌, ◌%◌, ◌^◌, ◌<◌, ◌≤◌}
use Rattle.std.proofs.Common.{◌==◌, nat_lt, nat_le, not, ◌||◌, if◌then◌else◌, List, [], ◌∷◌, length, Some}
use Rattle.std.proofs.Common.{None, Bool, true, false, refl, sym, ap, subst, ◌∙◌, arith, ℤ, pos, negsuc}
use Rattle.std.specs.Prelude.{int_lt}
use Rattle.std.proofs.lemmas.Bool.{ltb-true, ltb-false}
use Rattle.std.proofs.lemmas.Bool.Decides.{nat_tests}
use Rattle.br_words.specs.Words.{wrapped, signed}
use Rattle.br_bytes.specs.declared.run.Event.{Event}
use Rattle.br_rv32im.specs.declared.instruction.BranchOp.{BranchOp}
use Rattle.br_rv32im.specs.declared.instruction.BranchOp.TheVariants.{Beq, Bne, Blt, Bge, Bltu, Bgeu}
use Rattle.br_rv32im.specs.declared.instruction.Ins.TheVariants.{Upper, Jal, Jalr, Branch}
use Rattle.br_rv32im.specs.declared.instruction.UpperOp.TheVariants.{Auipc}
use Rattle.br_rv32im.specs.Encoding.{Fits}
use Rattle.br_machine.specs.declared.stepped.Stepped.TheVariants as stepped
use Rattle.br_machine.specs.declared.stepped.Trap.TheVariants.{FetchMisaligned}
use Rattle.br_machine.specs.State.{register}
use Rattle.br_machine.specs.Arithmetic.{plus, is_taken}
use Rattle.br_machine.specs.Traps.{jump_trap, trap_of}
use Rattle.br_machine.specs.Effects.{at_pc, next_pc}
use Rattle.br_machine.specs.Steps.{StepsTo, Runs}
use Rattle.br_emit.specs.Code.{Does, low_part, high_part, jump_items, over_items, Branching}
use Rattle.br_emit.specs.Code.{opposite_branch, otherwise, branch_item, skip_items, back_items}
use Rattle.br_emit.proofs.Stepping.{machine, at, Good, Has, put, reads, within_code, Good-put, register-machine}
use Rattle.br_emit.proofs.Stepping.{reads-put_same, reads-put_other, step_sets, step_goes, IsAbove-none}
use Rattle.br_emit.proofs.Pieces.{Ground, Rests, Placed, runs-append, runs_one}

-- some steps, at most so many, lead from word j to word `to`, and change no register but x1 where that may be
pub record Moves (g : Ground) (j to : ℕ) (registers ram answers : List ℕ) (trace : List Event)
    (limit : ℕ) : Type 0 where
  pub registers' : List ℕ
  pub good : Good g.code registers' ram
  pub steps : ℕ
  pub some : 1 ≤ steps
  pub few : steps ≤ limit
  pub runs : Runs g.low steps (at g.code j registers ram answers trace) (at g.code to registers' ram answers trace)
  pub others : (y : ℕ) → Rests g y → reads registers' y ≡ reads registers y

-- ---- jumps

-- the same with the address of the word after the piece in x1
pub record Jumps (g : Ground) (j next to link : ℕ) (registers ram answers : List ℕ) (trace : List Event) : Type 0 where
  pub moves : Moves g j to registers ram answers trace 2
  pub link_is : link ≡ 1 → reads moves.registers' 1 ≡ 0x80300000 + 4 * next

pub wrapped-signed : (w : ℕ) → w < 2 ^ 32 → wrapped (signed w) ≡ w
wrapped-signed w small = by (nat_lt w (2 ^ 31)) refl
  where
    by : (b : Bool) → nat_lt w (2 ^ 31) ≡ b → wrapped (if b then pos w else negsuc (2 ^ 32 - 1 - w)) ≡ w
    by true e = omega arith
    by false e = let l = ltb-false w (2 ^ 31) e in omega arith

far_value : (pc w : ℕ) → w < 2 ^ 32
    → ((pc + high_part w % 2 ^ 20 * 4096) % 2 ^ 32 + wrapped (low_part w)) % 2 ^ 32 ≡ (pc + w) % 2 ^ 32
far_value pc w small = by (nat_lt (w % 4096) 2048) refl
  where
    by : (b : Bool) → nat_lt (w % 4096) 2048 ≡ b → ((pc + (w + 2048) / 4096 % 2 ^ 20 * 4096) % 2 ^ 32
        + wrapped (if b then pos (w % 4096) else negsuc (4095 - w % 4096))) % 2 ^ 32 ≡ (pc + w) % 2 ^ 32
    by true e = let l = ltb-true (w % 4096) 2048 e in omega arith
    by false e = let l = ltb-false (w % 4096) 2048 e in omega arith

pub aligned : (a : ℕ) → a % 4 ≡ 0 → jump_trap a ≡ None
aligned a h = ap (λ r. if r == 0 then None else Some FetchMisaligned) h

-- x0, or x1 where it may be changed
abbrev pub IsLink : Ground → ℕ → Type 0
IsLink g link = (link ≡ 0) ⊎ ((link ≡ 1) × (g.touched 1 ≡ true))

pub rests_not : (g : Ground) (y : ℕ) → g.touched 1 ≡ true → Rests g y → y ≢ 1
rests_not g y touched rests is = clash (sym touched ∙ rests is)
  where
    clash : true ≡ false → ⊥
    clash e = absurd (cc)

reads-put_link : (g : Ground) (link y v : ℕ) (registers : List ℕ) → IsLink g link → Rests g y
    → reads (put link v registers) y ≡ reads registers y
reads-put_link g link y v registers (inl z) rests = ap (λ r. reads (put r v registers) y) z
reads-put_link g link y v registers (inr o) rests =
    reads-put_other link y v registers (λ is. rests_not g y o.1 rests (is ∙ o.0))

-- x1 may be changed, or each jump inside the code is near
abbrev MayGo : Ground → ℕ → ℕ → Type 0
MayGo g j to = g.touched 1 ≡ false → (j ≤ length g.code) × (to ≤ length g.code)

far_touches : (g : Ground) (j to w : ℕ) → MayGo g j to → w < 2 ^ 32
    → (0x80300000 + 4 * j + w) % 2 ^ 32 ≡ 0x80300000 + 4 * to
    → (nat_lt w (2 ^ 20) || nat_le (2 ^ 32 - 2 ^ 20) w) ≡ false → g.touched 1 ≡ true
far_touches g j to w may small leads far = by (g.touched 1) refl
  where
    neither : (a b : Bool) → (a || b) ≡ false → (a ≡ false) × (b ≡ false)
    neither false false e = (refl, refl)
    neither false true e = absurd (cc)
    neither true b e = absurd (cc)

    apart : (j to w n : ℕ) → n < 262144 → j ≤ n → to ≤ n → 2 ^ 20 ≤ w → w < 2 ^ 32 - 2 ^ 20
        → (0x80300000 + 4 * j + w) % 2 ^ 32 ≡ 0x80300000 + 4 * to → ⊥
    apart j to w n few h k above below leads = absurd (omega arith)

    by : (b : Bool) → g.touched 1 ≡ b → b ≡ true
    by true e = refl
    by false e =
        let short = g.short e in
        let inside = may e in
        let both = neither (nat_lt w (2 ^ 20)) (nat_le (2 ^ 32 - 2 ^ 20) w) far in
        let above : 2 ^ 20 ≤ w = ltb-false w (2 ^ 20) both.0 in
        let below : w < 2 ^ 32 - 2 ^ 20 = (let e2 = both.1 in grind (arith, nat_tests)) in
        absurd (apart j to w (length g.code) short inside.0 inside.1 above below leads)

reads_link : (link v : ℕ) (registers : List ℕ) → length registers ≡ 32 → link ≡ 1 → reads (put link v registers) 1 ≡ v
reads_link link v registers all is =
    ap (λ r. reads (put r v registers) 1) is ∙ reads-put_same 1 v registers (omega arith) (omega arith)

pub jumps_by : (g : Ground) (j to link w : ℕ) (registers ram answers : List ℕ) (trace : List Event)
    → Good g.code registers ram → Placed g.code j (jump_items link w) → IsLink g link → MayGo g j to → w < 2 ^ 32
    → (0x80300000 + 4 * j + w) % 2 ^ 32 ≡ 0x80300000 + 4 * to → j < 2000000
    → Jumps g j (j + length (jump_items link w)) to link registers ram answers trace
jumps_by g j to link w registers ram answers trace good placed is_link may small leads inside =
    by (nat_lt w (2 ^ 20) || nat_le (2 ^ 32 - 2 ^ 20) w) refl placed
  where
    all : length registers ≡ 32
    all = good.all

    by : (b : Bool) → (nat_lt w (2 ^ 20) || nat_le (2 ^ 32 - 2 ^ 20) w) ≡ b
        → Placed g.code j (if b then Does (Jal link (signed w)) ∷ []
        else Does (Upper Auipc 1 (high_part w % 2 ^ 20)) ∷ Does (Jalr link 1 (low_part w)) ∷ [])
        → Jumps g j (j + length (if b then Does (Jal link (signed w)) ∷ []
        else Does (Upper Auipc 1 (high_part w % 2 ^ 20)) ∷ Does (Jalr link 1 (low_part w)) ∷ [])) to link registers
        ram answers trace
    by true e p =
        let v = (0x80300000 + 4 * j + 4) % 2 ^ 32 in
        let target : plus (0x80300000 + 4 * j) (signed w) ≡ 0x80300000 + 4 * to =
        ap (λ q. (0x80300000 + 4 * j + q) % 2 ^ 32) (wrapped-signed w small) ∙ leads in
        let fine : trap_of (Jal link (signed w)) (machine g.code j registers ram) ≡ None =
        aligned (plus (0x80300000 + 4 * j) (signed w)) (ap (λ a. a % 4) target ∙ omega arith) in
        record {
          moves = record {
            registers' = put link v registers;
            good = Good-put g.code registers ram link v good;
            steps = 1;
            some = omega arith;
            few = omega arith;
            runs = runs_one g.low _ _
                (step_goes g.table g.code registers ram answers trace g.low j to (Jal link (signed w)) link v
                (plus (0x80300000 + 4 * j) (signed w)) good p.0 p.1 fine refl target (IsAbove-none g.low));
            others = λ y rests. reads-put_link g link y v registers is_link rests;
          };
          link_is = λ o. reads_link link v registers all o ∙ omega arith;
        }
    by false e p =
        let touched = far_touches g j to w may small leads e in
        let x = (0x80300000 + 4 * j + high_part w % 2 ^ 20 * 4096) % 2 ^ 32 in
        let first = step_sets g.table g.code registers ram answers trace g.low j (Upper Auipc 1 (high_part w % 2 ^ 20))
        1 x good p.0 p.1 refl refl (IsAbove-none g.low) in
        let registers1 = put 1 x registers in
        let good1 = Good-put g.code registers ram 1 x good in
        let one : reads registers1 1 ≡ x = reads-put_same 1 x registers (omega arith) (omega arith) in
        let v = (0x80300000 + 4 * (j + 1) + 4) % 2 ^ 32 in
        let a = (register (machine g.code (j + 1) registers1 ram) 1 + wrapped (low_part w)) % 2 ^ 32 in
        let sum : a ≡ 0x80300000 + 4 * to = ap (λ q. (q + wrapped (low_part w)) % 2 ^ 32) one
        ∙ far_value (0x80300000 + 4 * j) w small ∙ leads in
        let target : a / 2 * 2 ≡ 0x80300000 + 4 * to = ap (λ q. q / 2 * 2) sum ∙ even to in
        let fine : trap_of (Jalr link 1 (low_part w)) (machine g.code (j + 1) registers1 ram) ≡ None =
        aligned (a / 2 * 2) (ap (λ q. q % 4) target ∙ multiple to) in
        record {
          moves = record {
            registers' = put link v registers1;
            good = Good-put g.code registers1 ram link v good1;
            steps = 2;
            some = omega arith;
            few = omega arith;
            runs = (
              _,
              first,
              runs_one g.low _ _ (step_goes g.table g.code registers1 ram answers trace g.low (j + 1) to
                  (Jalr link 1 (low_part w)) link v (a / 2 * 2) good1 p.2.0 p.2.1 fine refl target
                  (IsAbove-none g.low)),
            );
            others = λ y rests. reads-put_link g link y v registers1 is_link rests
                ∙ reads-put_other 1 y x registers (rests_not g y touched rests);
          };
          link_is = λ o. reads_link link v registers1 good1.all o ∙ after j inside;
        }
      where
        even : (to : ℕ) → (0x80300000 + 4 * to) / 2 * 2 ≡ 0x80300000 + 4 * to
        even to = omega arith

        multiple : (to : ℕ) → (0x80300000 + 4 * to) % 4 ≡ 0
        multiple to = omega arith

        after : (j : ℕ) → j < 2000000 → (0x80300000 + 4 * (j + 1) + 4) % 2 ^ 32 ≡ 0x80300000 + 4 * (j + 2)
        after j h = omega arith

-- ---- jumps forward over words

abbrev over_near : ℕ → Bool
over_near n = nat_lt (4 * (n + 1)) (2 ^ 20)

near_length : (link w : ℕ) → nat_lt w (2 ^ 20) ≡ true → length (jump_items link w) ≡ 1
near_length link w h = rw h refl

far_length : (link w : ℕ) → nat_lt w (2 ^ 20) ≡ false → nat_le (2 ^ 32 - 2 ^ 20) w ≡ false
    → length (jump_items link w) ≡ 2
far_length link w h k = rw (h, k) refl

pub over_jumps : (g : Ground) (j n link : ℕ) (registers ram answers : List ℕ) (trace : List Event)
    → Good g.code registers ram → Placed g.code j (over_items link n) → IsLink g link
    → j + length (over_items link n) + n ≤ length g.code
    → Jumps g j (j + length (over_items link n)) (j + length (over_items link n) + n) link registers ram answers trace
over_jumps g j n link registers ram answers trace good placed is_link inside = by (over_near n) refl placed inside
  where
    by : (b : Bool) → over_near n ≡ b
        → Placed g.code j (if b then jump_items link (4 * (n + 1)) else jump_items link (4 * (n + 2)))
        → j + length (if b then jump_items link (4 * (n + 1)) else jump_items link (4 * (n + 2))) + n ≤ length g.code
        → Jumps g j (j + length (if b then jump_items link (4 * (n + 1)) else jump_items link (4 * (n + 2))))
        (j + length (if b then jump_items link (4 * (n + 1)) else jump_items link (4 * (n + 2))) + n) link registers
        ram answers trace
    by true e p inside =
        let few = good.few in
        let l = ltb-true (4 * (n + 1)) (2 ^ 20) e in
        let one = near_length link (4 * (n + 1)) e in
        let leads : (0x80300000 + 4 * j + 4 * (n + 1)) % 2 ^ 32
        ≡ 0x80300000 + 4 * (j + length (jump_items link (4 * (n + 1))) + n) = omega arith in
        jumps_by g j (j + length (jump_items link (4 * (n + 1))) + n) link (4 * (n + 1)) registers ram answers trace
        good p is_link (λ e. (omega arith, inside)) (omega arith) leads (omega arith)
    by false e p inside =
        let few = good.few in
        let l = ltb-false (4 * (n + 1)) (2 ^ 20) e in
        let first : nat_lt (4 * (n + 2)) (2 ^ 20) ≡ false = not_below (4 * (n + 2)) (2 ^ 20) (omega arith) in
        let second : nat_le (2 ^ 32 - 2 ^ 20) (4 * (n + 2)) ≡ false =
        not_above (2 ^ 32 - 2 ^ 20) (4 * (n + 2)) (omega arith) in
        let two = far_length link (4 * (n + 2)) first second in
        let leads : (0x80300000 + 4 * j + 4 * (n + 2)) % 2 ^ 32
        ≡ 0x80300000 + 4 * (j + length (jump_items link (4 * (n + 2))) + n) = omega arith in
        jumps_by g j (j + length (jump_items link (4 * (n + 2))) + n) link (4 * (n + 2)) registers ram answers trace
        good p is_link (λ e. (omega arith, inside)) (omega arith) leads (omega arith)
      where
        not_below : (a b : ℕ) → b ≤ a → nat_lt a b ≡ false
        not_below a b h = grind (arith, nat_tests)

        not_above : (a b : ℕ) → b < a → nat_le a b ≡ false
        not_above a b h = grind (arith, nat_tests)

-- ---- branches

not_not : (b : Bool) → not (not b) ≡ b
not_not true = refl
not_not false = refl

pub taken-opposite : (how : BranchOp) (a b : ℕ) → is_taken (opposite_branch how) a b ≡ not (is_taken how a b)
taken-opposite Beq a b = refl
taken-opposite Bne a b = sym (not_not (a == b))
taken-opposite Blt a b = refl
taken-opposite Bge a b = sym (not_not (int_lt (signed a) (signed b)))
taken-opposite Bltu a b = refl
taken-opposite Bgeu a b = sym (not_not (nat_lt a b))

-- whether a branch is taken
abbrev pub takes : Branching → List ℕ → Bool
takes c registers = is_taken c.how (reads registers c.left) (reads registers c.right)

pub branch_moves : (g : Ground) (j to : ℕ) (c : Branching) (distance : ℤ) (registers ram answers : List ℕ)
    (trace : List Event) (taken : Bool)
    → Good g.code registers ram → Has g.code j (Branch c.how c.left c.right distance)
    → Fits (Branch c.how c.left c.right distance) → takes c registers ≡ taken
    → plus (0x80300000 + 4 * j) distance ≡ 0x80300000 + 4 * to → j < 2000000
    → Moves g j (if taken then to else j + 1) registers ram answers trace 1
branch_moves g j to c distance registers ram answers trace taken good has fits is leads inside = record {
  registers' = registers;
  good = good;
  steps = 1;
  some = omega arith;
  few = omega arith;
  runs = runs_one g.low _ _ (by taken same);
  others = λ y ne. refl;
}
  where
    same : is_taken c.how (register (machine g.code j registers ram) c.left)
        (register (machine g.code j registers ram) c.right) ≡ taken
    same =
        ap (λ q. is_taken c.how q (register (machine g.code j registers ram) c.right))
        (register-machine g.code registers ram j c.left)
        ∙ ap (λ q. is_taken c.how (reads registers c.left) q) (register-machine g.code registers ram j c.right) ∙ is

    by : (t : Bool) → is_taken c.how (register (machine g.code j registers ram) c.left) (register
        (machine g.code j registers ram) c.right) ≡ t
        → StepsTo g.low (at g.code j registers ram answers trace)
        (at g.code (if t then to else j + 1) registers ram answers trace)
    by true e =
        let m = machine g.code j registers ram in
        let fine = ap (λ t. if t then jump_trap (plus (0x80300000 + 4 * j) distance) else None) e
        ∙ aligned (plus (0x80300000 + 4 * j) distance) (ap (λ a. a % 4) leads ∙ omega arith) in
        step_goes g.table g.code registers ram answers trace g.low j to (Branch c.how c.left c.right distance) 0 0
        (plus (0x80300000 + 4 * j) distance) good has fits fine
        (ap (λ t. (at_pc (if t then plus (0x80300000 + 4 * j) distance else next_pc m) m, stepped.Ran)) e) leads
        (IsAbove-none g.low)
    by false e =
        let m = machine g.code j registers ram in
        let fine = ap (λ t. if t then jump_trap (plus (0x80300000 + 4 * j) distance) else None) e in
        step_goes g.table g.code registers ram answers trace g.low j (j + 1) (Branch c.how c.left c.right distance) 0 0
        ((0x80300000 + 4 * j + 4) % 2 ^ 32) good has fits fine
        (ap (λ t. (at_pc (if t then plus (0x80300000 + 4 * j) distance else next_pc m) m, stepped.Ran)) e) (omega arith)
        (IsAbove-none g.low)

-- one move after another
moves_then : (g : Ground) (j middle to : ℕ) (registers ram answers : List ℕ) (trace : List Event) (n k : ℕ)
    → (first : Moves g j middle registers ram answers trace n) → Moves g middle to first.registers' ram answers trace k
    → Moves g j to registers ram answers trace (n + k)
moves_then g j middle to registers ram answers trace n k first second =
    let a1 = first.some in let a2 = first.few in let b1 = second.some in let b2 = second.few in
    record {
      registers' = second.registers';
      good = second.good;
      steps = first.steps + second.steps;
      some = omega arith;
      few = omega arith;
      runs = runs-append g.low first.steps second.steps _ _ _ first.runs second.runs;
      others = λ y ne. second.others y ne ∙ first.others y ne;
    }

moves_wider : (g : Ground) (j to : ℕ) (registers ram answers : List ℕ) (trace : List Event) (n k : ℕ) → n ≤ k
    → Moves g j to registers ram answers trace n → Moves g j to registers ram answers trace k
moves_wider g j to registers ram answers trace n k le m =
    let a = m.few in
    record {
      registers' = m.registers';
      good = m.good;
      steps = m.steps;
      some = m.some;
      few = omega arith;
      runs = m.runs;
      others = m.others;
    }

pub jump_length : (link w : ℕ) → length (jump_items link w) ≤ 2
jump_length link w = at_most (nat_lt w (2 ^ 20) || nat_le (2 ^ 32 - 2 ^ 20) w)
  where
    at_most : (b : Bool) → length (if b then Does (Jal link (signed w)) ∷ []
        else Does (Upper Auipc 1 (high_part w % 2 ^ 20)) ∷ Does (Jalr link 1 (low_part w)) ∷ []) ≤ 2
    at_most true = omega arith
    at_most false = omega arith

pub over_length : (link n : ℕ) → length (over_items link n) ≤ 2
over_length link n = from (over_near n)
  where
    from : (b : Bool) → length (if b then jump_items link (4 * (n + 1)) else jump_items link (4 * (n + 2))) ≤ 2
    from true = jump_length link (4 * (n + 1))
    from false = jump_length link (4 * (n + 2))

-- a branch with the opposite relation over a jump, or one that is near
pub skip_moves : (g : Ground) (j n : ℕ) (c : Branching) (registers ram answers : List ℕ) (trace : List Event)
    (taken : Bool)
    → Good g.code registers ram → Placed g.code j (skip_items c n) → takes c registers ≡ taken
    → j + length (skip_items c n) + n ≤ length g.code
    → Moves g j (if taken then j + length (skip_items c n) + n else j + length (skip_items c n)) registers ram
    answers trace 3
skip_moves g j n c registers ram answers trace taken good placed is inside =
    by (nat_lt (4 * (n + 1)) 4096) refl placed inside
  where
    by : (b : Bool) → nat_lt (4 * (n + 1)) 4096 ≡ b
        → Placed g.code j (if b then branch_item c (pos (4 * (n + 1))) ∷ []
        else branch_item (otherwise c) (pos (4 * (1 + length (over_items 0 n)))) ∷ over_items 0 n)
        → j + length (if b then branch_item c (pos (4 * (n + 1))) ∷ []
        else branch_item (otherwise c) (pos (4 * (1 + length (over_items 0 n)))) ∷ over_items 0 n) + n
        ≤ length g.code
        → Moves g j (if taken then j + length (if b then branch_item c (pos (4 * (n + 1))) ∷ []
        else branch_item (otherwise c) (pos (4 * (1 + length (over_items 0 n)))) ∷ over_items 0 n) + n
        else j + length (if b then branch_item c (pos (4 * (n + 1))) ∷ []
        else branch_item (otherwise c) (pos (4 * (1 + length (over_items 0 n)))) ∷ over_items 0 n)) registers ram
        answers trace 3
    by true e p inside =
        let few = good.few in
        let l = ltb-true (4 * (n + 1)) 4096 e in
        moves_wider g j _ registers ram answers trace 1 3 (omega arith)
        (branch_moves g j (j + 1 + n) c (pos (4 * (n + 1))) registers ram answers trace taken good p.0 p.1 is
        (omega arith) (omega arith))
    by false e p inside = beyond taken is (over_length 0 n) p inside
      where
        beyond : (taken : Bool) → takes c registers ≡ taken → length (over_items 0 n) ≤ 2
            → Placed g.code j (branch_item (otherwise c) (pos (4 * (1 + length (over_items 0 n)))) ∷ over_items 0 n)
            → j + suc (length (over_items 0 n)) + n ≤ length g.code
            → Moves g j (if taken then j + suc (length (over_items 0 n)) + n else j + suc (length (over_items 0 n)))
            registers ram answers trace 3
        beyond true is few p inside =
            let most = good.few in
            let len = length (over_items 0 n) in
            let not_taken : takes (otherwise c) registers ≡ false =
            taken-opposite c.how (reads registers c.left) (reads registers c.right) ∙ ap not is in
            let first = branch_moves g j (j + 1 + len) (otherwise c) (pos (4 * (1 + len))) registers ram answers trace
            false good p.0 p.1 not_taken (omega arith) (omega arith) in
            let jump = over_jumps g (j + 1) n 0 first.registers' ram answers trace first.good p.2 (inl refl)
            (omega arith) in
            let same : j + 1 + len + n ≡ j + suc len + n = omega arith in
            subst (λ to. Moves g j to registers ram answers trace 3) same
            (moves_then g j (j + 1) (j + 1 + len + n) registers ram answers trace 1 2 first jump.moves)
        beyond false is few p inside =
            let most = good.few in
            let len = length (over_items 0 n) in
            let opposite_taken : takes (otherwise c) registers ≡ true =
            taken-opposite c.how (reads registers c.left) (reads registers c.right) ∙ ap not is in
            let same : j + 1 + len ≡ j + suc len = omega arith in
            subst (λ to. Moves g j to registers ram answers trace 3) same
            (moves_wider g j (j + 1 + len) registers ram answers trace 1 3 (omega arith)
            (branch_moves g j (j + 1 + len) (otherwise c) (pos (4 * (1 + len))) registers ram answers trace true good
            p.0 p.1 opposite_taken (omega arith) (omega arith)))

pub skip_length : (c : Branching) (n : ℕ) → length (skip_items c n) ≤ 3
skip_length c n = by (nat_lt (4 * (n + 1)) 4096)
  where
    by : (b : Bool) → length (if b then branch_item c (pos (4 * (n + 1))) ∷ []
        else branch_item (otherwise c) (pos (4 * (1 + length (over_items 0 n)))) ∷ over_items 0 n) ≤ 3
    by true = omega arith
    by false = omega (arith, over_length 0 n)

pub skip_some : (c : Branching) (n : ℕ) → 1 ≤ length (skip_items c n)
skip_some c n = by (nat_lt (4 * (n + 1)) 4096)
  where
    by : (b : Bool) → 1 ≤ length (if b then branch_item c (pos (4 * (n + 1))) ∷ []
        else branch_item (otherwise c) (pos (4 * (1 + length (over_items 0 n)))) ∷ over_items 0 n)
    by true = omega arith
    by false = omega arith

-- back over words
pub back_moves : (g : Ground) (j n : ℕ) (c : Branching) (registers ram answers : List ℕ) (trace : List Event)
    (taken : Bool)
    → Good g.code registers ram → Placed g.code j (back_items c n) → takes c registers ≡ taken → n ≤ j → j + 1 < 2000000
    → Moves g j (if taken then j - n else j + length (back_items c n)) registers ram answers trace 3
back_moves g j n c registers ram answers trace taken good placed is room inside = by (nat_le (4 * n) 4096) refl placed
  where
    by : (b : Bool) → nat_le (4 * n) 4096 ≡ b
        → Placed g.code j (if b then branch_item c (signed ((2 ^ 32 - 4 * n) % 2 ^ 32)) ∷ [] else branch_item (otherwise
        c) (pos (4 * (1 + length (jump_items 0 (2 ^ 32 - 4 * (n + 1)))))) ∷ jump_items 0 (2 ^ 32 - 4 * (n + 1)))
        → Moves g j (if taken then j - n else j + length (if b then branch_item c (signed ((2 ^ 32 - 4 * n) % 2 ^ 32))
        ∷ [] else branch_item (otherwise c) (pos (4 * (1 + length (jump_items 0 (2 ^ 32 - 4 * (n + 1))))))
        ∷ jump_items 0 (2 ^ 32 - 4 * (n + 1)))) registers ram answers trace 3
    by true e p =
        let to : plus (0x80300000 + 4 * j) (signed ((2 ^ 32 - 4 * n) % 2 ^ 32)) ≡ 0x80300000 + 4 * (j - n) =
        back_leads j n room inside in
        moves_wider g j _ registers ram answers trace 1 3 (omega arith)
        (branch_moves g j (j - n) c (signed ((2 ^ 32 - 4 * n) % 2 ^ 32)) registers ram answers trace taken good p.0 p.1
        is to (omega arith))
      where
        back_leads : (j n : ℕ) → n ≤ j → j + 1 < 2000000
            → plus (0x80300000 + 4 * j) (signed ((2 ^ 32 - 4 * n) % 2 ^ 32)) ≡ 0x80300000 + 4 * (j - n)
        back_leads j n room inside =
            let w : ℕ = (2 ^ 32 - 4 * n) % 2 ^ 32 in
            ap (λ q. (0x80300000 + 4 * j + q) % 2 ^ 32) (wrapped-signed w (omega arith)) ∙ omega arith
    by false e p = beyond taken is (jump_length 0 (2 ^ 32 - 4 * (n + 1))) p
      where
        beyond : (taken : Bool) → takes c registers ≡ taken → length (jump_items 0 (2 ^ 32 - 4 * (n + 1))) ≤ 2
            → Placed g.code j (branch_item (otherwise c) (pos (4 * (1 + length (jump_items 0 (2 ^ 32 - 4 * (n + 1))))))
            ∷ jump_items 0 (2 ^ 32 - 4 * (n + 1)))
            → Moves g j (if taken then j - n else j + suc (length (jump_items 0 (2 ^ 32 - 4 * (n + 1))))) registers ram
            answers trace 3
        beyond true is few p =
            let here = within_code g.code j _ p.0 in
            let len = length (jump_items 0 (2 ^ 32 - 4 * (n + 1))) in
            let not_taken : takes (otherwise c) registers ≡ false =
            taken-opposite c.how (reads registers c.left) (reads registers c.right) ∙ ap not is in
            let first = branch_moves g j (j + 1 + len) (otherwise c) (pos (4 * (1 + len))) registers ram answers trace
            false good p.0 p.1 not_taken (omega arith) (omega arith) in
            let jump = jumps_by g (j + 1) (j - n) 0 (2 ^ 32 - 4 * (n + 1)) first.registers' ram answers trace first.good
            p.2 (inl refl) (λ e. (omega arith, omega arith)) (omega arith) (omega arith) (omega arith) in
            moves_then g j (j + 1) (j - n) registers ram answers trace 1 2 first jump.moves
        beyond false is few p =
            let len = length (jump_items 0 (2 ^ 32 - 4 * (n + 1))) in
            let opposite_taken : takes (otherwise c) registers ≡ true =
            taken-opposite c.how (reads registers c.left) (reads registers c.right) ∙ ap not is in
            let same : j + 1 + len ≡ j + suc len = omega arith in
            subst (λ to. Moves g j to registers ram answers trace 3) same
            (moves_wider g j (j + 1 + len) registers ram answers trace 1 3 (omega arith)
            (branch_moves g j (j + 1 + len) (otherwise c) (pos (4 * (1 + len))) registers ram answers trace true good
            p.0 p.1 opposite_taken (omega arith) (omega arith)))

pub back_some : (c : Branching) (n : ℕ) → 1 ≤ length (back_items c n)
back_some c n = by (nat_le (4 * n) 4096)
  where
    by : (b : Bool)
        → 1 ≤ length (if b then branch_item c (signed ((2 ^ 32 - 4 * n) % 2 ^ 32)) ∷ [] else branch_item (otherwise c)
        (pos (4 * (1 + length (jump_items 0 (2 ^ 32 - 4 * (n + 1)))))) ∷ jump_items 0 (2 ^ 32 - 4 * (n + 1)))
    by true = omega arith
    by false = omega arith

pub back_length : (c : Branching) (n : ℕ) → length (back_items c n) ≤ 3
back_length c n = by (nat_le (4 * n) 4096)
  where
    by : (b : Bool)
        → length (if b then branch_item c (signed ((2 ^ 32 - 4 * n) % 2 ^ 32)) ∷ [] else branch_item (otherwise c)
        (pos (4 * (1 + length (jump_items 0 (2 ^ 32 - 4 * (n + 1)))))) ∷ jump_items 0 (2 ^ 32 - 4 * (n + 1))) ≤ 3
    by true = omega arith
    by false = omega (arith, jump_length 0 (2 ^ 32 - 4 * (n + 1)))
