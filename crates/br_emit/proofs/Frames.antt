-- What a function does to the stack before and after its body: it saves registers, and restores them.
use Rattle.std.proofs.Common.{◌≡◌, ◌≢◌, ◌⊎◌, inl, inr, ℕ, zero, suc, ◌+◌, ◌-◌, ◌*◌, ◌/◌, ◌%◌, ◌^◌}
use Rattle.std.proofs.Common.{◌<◌, ◌≤◌, ◌==◌, if◌then◌else◌, List, [], ◌∷◌, ◌++◌, length, take, None}
use Rattle.std.proofs.Common.{Bool, true, false, refl, sym, ap, subst, ◌∙◌, arith, pos, length-append}
use Rattle.std.specs.Prelude.{slice_index}
use Rattle.std.specs.List.{AllByRecursion}
use Rattle.std.proofs.lemmas.Bool.Decides.{nat_tests}
use Rattle.br_bytes.specs.declared.run.Event.{Event}
use Rattle.br_bytes.specs.Number.{number_of, low_bytes}
use Rattle.br_words.specs.Words.{wrapped}
use Rattle.br_rv32im.specs.declared.instruction.Ins.TheVariants.{Imm, Reg, Jalr}
use Rattle.br_rv32im.specs.declared.instruction.LoadOp.TheVariants.{Lw}
use Rattle.br_rv32im.specs.declared.instruction.StoreOp.TheVariants.{Sw}
use Rattle.br_rv32im.specs.declared.instruction.ImmOp.TheVariants.{Addi}
use Rattle.br_rv32im.specs.declared.instruction.RegOp.TheVariants.{Add}
use Rattle.br_machine.specs.State.{register, bytes_from, with_bytes_from}
use Rattle.br_machine.specs.Traps.{trap_of}
use Rattle.br_machine.specs.Arithmetic.{plus}
use Rattle.br_machine.specs.Steps.{Runs}
use Rattle.br_emit.specs.Code.{Does, low_part, is_short, constant_items}
use Rattle.br_emit.specs.Code.{move_items, save_items, restore_items, exit_items}
use Rattle.br_emit.proofs.Stepping.{machine, at, Good, reads, put, Good-put, reads-put_same}
use Rattle.br_emit.proofs.Stepping.{reads-put_other, step_sets, step_goes, IsAbove-none}
use Rattle.br_emit.proofs.Held.{length-with_bytes_from, index-with_bytes_from, index-written}
use Rattle.br_emit.proofs.Held.{index-bytes_from, length-low_bytes, drop-with_bytes_from}
use Rattle.br_emit.proofs.Pieces.{Ground, Placed, placed-front, placed-back, runs-append}
use Rattle.br_emit.proofs.Setting.{Sets, imm_sets, reg_sets}
use Rattle.br_emit.proofs.Operations.{short_value, constant_sets, word_reads}
use Rattle.br_emit.proofs.Accesses.{load_steps, load_sets, store_steps}
use Rattle.br_emit.proofs.Jumping.{aligned}

-- ---- the stack pointer moves

-- some steps set the stack pointer, and change no other register but x1
pub record Points (g : Ground) (j to n : ℕ) (registers ram answers : List ℕ) (trace : List Event)
    (v limit : ℕ) : Type 0 where
  pub registers' : List ℕ
  pub good : Good g.code registers' ram
  pub steps : ℕ
  pub few : steps ≤ limit
  pub runs : Runs g.low steps (at g.code j registers ram answers trace) (at g.code to registers' ram answers trace)
  pub value : reads registers' 2 ≡ v
  pub others : (y : ℕ) → y ≢ 2 → y ≢ 1 → reads registers' y ≡ reads registers y
  pub kept : is_short n ≡ true → reads registers' 1 ≡ reads registers 1

pub move_points : (g : Ground) (j : ℕ) (registers ram answers : List ℕ) (trace : List Event) (n a v : ℕ)
    → Good g.code registers ram → Placed g.code j (move_items n) → reads registers 2 ≡ a
    → (a + n) % 2 ^ 32 ≡ v → a < 2 ^ 32
    → Points g j (j + length (move_items n)) n registers ram answers trace v 3
move_points g j registers ram answers trace n a v good placed is sum small = by (n == 0) (is_short n) refl refl placed
  where
    clash : true ≡ false → ⊥
    clash e = absurd (cc)

    from_sets : (k steps : ℕ) (w : ℕ) → Sets g j k registers ram answers trace 2 w steps → w ≡ v → steps ≤ 3
        → Points g j (j + k) n registers ram answers trace v 3
    from_sets k steps w sets same few = record {
      registers' = sets.registers';
      good = sets.good;
      steps = steps;
      few = few;
      runs = sets.runs;
      value = sets.value ∙ same;
      others = λ y ne one. sets.others y ne;
      kept = λ short. sets.others 1 (omega arith);
    }

    by : (b c : Bool) → (n == 0) ≡ b → is_short n ≡ c
        → Placed g.code j (if b then [] else if c then Does (Imm Addi 2 2 (low_part n)) ∷ []
        else constant_items 1 n ++ Does (Reg Add 2 2 1) ∷ [])
        → Points g j (j + length (if b then [] else if c then Does (Imm Addi 2 2 (low_part n)) ∷ []
        else constant_items 1 n ++ Does (Reg Add 2 2 1) ∷ [])) n registers ram answers trace v 3
    by true c e k p =
        let none : n ≡ 0 = grind (arith, nat_tests) in
        let here : j ≡ j + 0 = omega arith in
        record {
          registers' = registers;
          good = good;
          steps = 0;
          few = omega arith;
          runs = ap (λ q. at g.code q registers ram answers trace) here;
          value = is ∙ omega arith;
          others = λ y ne one. refl;
          kept = λ short. refl;
        }
    by false true e k p =
        let short = short_value n k in
        let value : (a + wrapped (low_part n)) % 2 ^ 32 ≡ v = omega arith in
        from_sets 1 1 _ (imm_sets g j registers ram answers trace Addi 2 2 a (low_part n) good p.0 p.1 (omega arith) is)
        value (omega arith)
    by false false e k_is p =
        let first = constant_sets g j registers ram answers trace 1 n good
        (placed-front g.code j (constant_items 1 n) (Does (Reg Add 2 2 1) ∷ []) p) (omega arith) in
        let last = placed-back g.code j (constant_items 1 n) (Does (Reg Add 2 2 1) ∷ []) p in
        let sets = first.sets in
        let k = length (constant_items 1 n) in
        let pointer : reads sets.registers' 2 ≡ a = sets.others 2 (omega arith) ∙ is in
        let second = reg_sets g (j + k) sets.registers' ram answers trace Add 2 2 1 a n sets.good last.0 last.1
        (omega arith) pointer sets.value in
        let few = first.few in
        let size : j + k + 1 ≡ j + length (constant_items 1 n ++ Does (Reg Add 2 2 1) ∷ []) =
        omega (arith, length-append (constant_items 1 n) (Does (Reg Add 2 2 1) ∷ [])) in
        record {
          registers' = second.registers';
          good = second.good;
          steps = first.steps + 1;
          few = omega arith;
          runs = subst (λ q. Runs g.low (first.steps + 1) (at g.code j registers ram answers trace)
              (at g.code q second.registers' ram answers trace)) size
              (runs-append g.low first.steps
              1 (at g.code j registers ram answers trace) (at g.code (j + k) sets.registers' ram answers trace)
              (at g.code (j + k + 1) second.registers' ram answers trace) sets.runs second.runs);
          value = second.value ∙ sum;
          others = λ y ne one. second.others y ne ∙ sets.others y one;
          kept = λ short. absurd (clash (sym short ∙ k_is));
        }

-- ---- words of the stack

-- the word at an address of RAM
abbrev pub word_at : List ℕ → ℕ → ℕ
word_at ram a = number_of (bytes_from ram (a - 0x80100000) 4)

bytes_same : (n : ℕ) (ram ram' : List ℕ) (p : ℕ)
    → ((q : ℕ) → p ≤ q → q < p + n → slice_index ram' q ≡ slice_index ram q) → bytes_from ram' p n ≡ bytes_from ram p n
bytes_same zero ram ram' p same = refl
bytes_same (suc n) ram ram' p same =
    let here = same p (omega arith) (omega arith) in
    let rest = bytes_same n ram ram' (p + 1) (λ q l h. same q (omega arith) (omega arith)) in
    rw (here, rest) refl

-- a word stays where its bytes stay
pub word_same : (ram ram' : List ℕ) (a : ℕ) → 0x80100000 ≤ a → ((q : ℕ) → a ≤ q → q < a + 4
    → slice_index ram' (q - 0x80100000) ≡ slice_index ram (q - 0x80100000)) → word_at ram' a ≡ word_at ram a
word_same ram ram' a low same =
    ap number_of (bytes_same 4 ram ram' (a - 0x80100000) (λ q l h.
    let is : q + 0x80100000 - 0x80100000 ≡ q = omega arith in
    subst (λ k. slice_index ram' k ≡ slice_index ram k) is (same (q + 0x80100000) (omega arith) (omega arith))))

number_of-low : (w : ℕ) → w < 2 ^ 32 → number_of (low_bytes 4 w) ≡ w
number_of-low w small = omega arith

read_written : (bs ram : List ℕ) (p : ℕ) → p + length bs ≤ length ram
    → bytes_from (with_bytes_from ram p bs) p (length bs) ≡ bs
read_written bs ram p room = same_list (length bs) bs (bytes_from (with_bytes_from ram p bs) p (length bs)) refl
    (length-is (with_bytes_from ram p bs) (length bs) p)
    (λ i l. index-bytes_from (with_bytes_from ram p bs) (length bs) p i l ∙ index-written bs ram p i l room)
  where
    length-is : (ram : List ℕ) (n p : ℕ) → length (bytes_from ram p n) ≡ n
    length-is ram zero p = refl
    length-is ram (suc n) p = let is = length-is ram n (p + 1) in omega arith

    same_list : (n : ℕ) (xs ys : List ℕ) → length xs ≡ n → length ys ≡ n
        → ((i : ℕ) → i < n → slice_index ys i ≡ slice_index xs i) → ys ≡ xs
    same_list n [] [] a b h = refl
    same_list n [] (y ∷ ys) a b h = absurd (omega arith)
    same_list n (x ∷ xs) [] a b h = absurd (omega arith)
    same_list n (x ∷ xs) (y ∷ ys) a b h =
        let first : y ≡ x = h 0 (omega arith) in
        let rest = same_list (length xs) xs ys refl (omega arith) (λ i l. h (suc i) (omega arith)) in
        rw (first, rest) refl

-- ---- saving

-- registers stand in words from an address on
abbrev pub Stored : List ℕ → List ℕ → ℕ → List ℕ → Type 0
Stored registers ram a [] = Unit {0}
Stored registers ram a (r ∷ rs) = (word_at ram a ≡ reads registers r) × Stored registers ram (a + 4) rs

pub record Saved (g : Ground) (j to : ℕ) (registers ram answers : List ℕ) (trace : List Event) (a n : ℕ)
    (rs : List ℕ) : Type 0 where
  pub ram' : List ℕ
  pub good : Good g.code registers ram'
  pub runs : Runs g.low n (at g.code j registers ram answers trace) (at g.code to registers ram' answers trace)
  pub stored : Stored registers ram' a rs
  pub others : (q : ℕ) → 0x80100000 ≤ q → (q < a) ⊎ (a + 4 * length rs ≤ q)
      → slice_index ram' (q - 0x80100000) ≡ slice_index ram (q - 0x80100000)

good_stored : (code registers ram bs : List ℕ) (p : ℕ) → Good code registers ram → p + length bs ≤ 2097152
    → Good code registers (with_bytes_from ram p bs)
good_stored code registers ram bs p good room = record {
  few = good.few;
  all = good.all;
  whole = length-with_bytes_from bs ram p ∙ good.whole;
  holds = ap (λ q. take 4194304 q) (drop-with_bytes_from bs ram 2097152 p room) ∙ good.holds;
}

pub saves_run : (g : Ground) (rs : List ℕ) (j i a : ℕ) (registers ram answers : List ℕ) (trace : List Event)
    → Good g.code registers ram → AllByRecursion (λ v. v < 2 ^ 32) registers → Placed g.code j (save_items i rs)
    → reads registers 2 + 4 * i ≡ a → g.low ≤ a → a + 4 * length rs ≤ 0x80300000
    → Saved g j (j + length (save_items i rs)) registers ram answers trace a (length rs) rs
saves_run g [] j i a registers ram answers trace good words placed here low high =
    let same : j ≡ j + 0 = omega arith in
    record {
      ram' = ram;
      good = good;
      runs = ap (λ q. at g.code q registers ram answers trace) same;
      stored = tt;
      others = λ q from apart. refl;
    }
saves_run g (r ∷ rs) j i a registers ram answers trace good words placed here low high =
    let bottom = g.bottom in
    let v = reads registers r in
    let small = word_reads registers r words in
    let address_is : plus (reads registers 2) (pos (4 * i)) ≡ a =
    (let sum : (reads registers 2 + 4 * i % 2 ^ 32) % 2 ^ 32 ≡ a = omega arith in sum) in
    let ram1 = with_bytes_from ram (a - 0x80100000) (low_bytes 4 v) in
    let len = length-low_bytes 4 v in
    let step = store_steps g j registers ram answers trace Sw 2 r a v (pos (4 * i)) good placed.0 placed.1 address_is
    refl (omega arith) (omega arith) (λ c from to in_stack. omega arith) in
    let good1 = good_stored g.code registers ram (low_bytes 4 v) (a - 0x80100000) good (omega arith) in
    let rest = saves_run g rs (j + 1) (i + 1) (a + 4) registers ram1 answers trace good1 words placed.2 (omega arith)
    (omega arith) (omega arith) in
    let whole = good.whole in
    let written : word_at ram1 a ≡ v =
    ap number_of (subst (λ n. bytes_from ram1 (a - 0x80100000) n ≡ low_bytes 4 v) len
    (read_written (low_bytes 4 v) ram (a - 0x80100000) (omega arith))) ∙ number_of-low v small in
    let size : j + 1 + length (save_items (i + 1) rs) ≡ j + suc (length (save_items (i + 1) rs)) = omega arith in
    record {
      ram' = rest.ram';
      good = rest.good;
      runs = (
        at g.code (j + 1) registers ram1 answers trace,
        step,
        subst (λ q. Runs g.low (length rs) (at g.code
            (j + 1) registers ram1 answers trace) (at g.code q registers rest.ram' answers trace)) size rest.runs,
      );
      stored = (
        word_same ram1 rest.ram' a (omega arith) (λ q from to. rest.others q (omega arith) (inl to))
            ∙ written,
        rest.stored,
      );
      others = λ q from apart. rest.others q from (further q apart)
          ∙ index-with_bytes_from (low_bytes 4 v) ram (a - 0x80100000) (q - 0x80100000) (aside q from apart);
    }
  where
    further : (q : ℕ) → (q < a) ⊎ (a + 4 * suc (length rs) ≤ q) → (q < a + 4) ⊎ (a + 4 + 4 * length rs ≤ q)
    further q (inl h) = inl (omega arith)
    further q (inr h) = inr (omega arith)

    aside : (q : ℕ) → 0x80100000 ≤ q → (q < a) ⊎ (a + 4 * suc (length rs) ≤ q) → (q - 0x80100000 < a - 0x80100000)
        ⊎ (a - 0x80100000 + length (low_bytes 4 (reads registers r)) ≤ q - 0x80100000)
    aside q from (inl h) = let bottom = g.bottom in inl (omega arith)
    aside q from (inr h) = let bottom = g.bottom in let len = length-low_bytes 4 (reads registers r) in
        inr (omega arith)

-- ---- restoring

-- a register that may be restored
abbrev pub IsKept : ℕ → Type 0
IsKept q = (1 ≤ q) × (q ≢ 2)

-- numbers rise
abbrev pub Rises : List ℕ → Type 0
Rises [] = Unit {0}
Rises (r ∷ rs) = AllByRecursion (λ q. r < q) rs × Rises rs

-- a number is none of these
abbrev pub NoneOf : ℕ → List ℕ → Type 0
NoneOf y = AllByRecursion (λ q. y ≢ q)

pub record Restored (g : Ground) (j to : ℕ) (registers ram answers : List ℕ) (trace : List Event) (a n : ℕ)
    (rs : List ℕ) : Type 0 where
  pub registers' : List ℕ
  pub good : Good g.code registers' ram
  pub runs : Runs g.low n (at g.code j registers ram answers trace) (at g.code to registers' ram answers trace)
  pub stored : Stored registers' ram a rs
  pub others : (y : ℕ) → NoneOf y rs → reads registers' y ≡ reads registers y

none_of : (r : ℕ) (rs : List ℕ) → AllByRecursion (λ q. r < q) rs → NoneOf r rs
none_of r [] h = tt
none_of r (q ∷ rs) h = (let l = h.0 in omega arith, none_of r rs h.1)

pub restores_run : (g : Ground) (rs : List ℕ) (j i a : ℕ) (registers ram answers : List ℕ) (trace : List Event)
    → Good g.code registers ram → Placed g.code j (restore_items i rs) → Rises rs → AllByRecursion IsKept rs
    → reads registers 2 + 4 * i ≡ a → g.low ≤ a → a + 4 * length rs ≤ 0x80300000
    → Restored g j (j + length (restore_items i rs)) registers ram answers trace a (length rs) rs
restores_run g [] j i a registers ram answers trace good placed rises names here low high =
    let same : j ≡ j + 0 = omega arith in
    record {
      registers' = registers;
      good = good;
      runs = ap (λ q. at g.code q registers ram answers trace) same;
      stored = tt;
      others = λ y none. refl;
    }
restores_run g (r ∷ rs) j i a registers ram answers trace good placed rises names here low high =
    let bottom = g.bottom in
    let big = names.0.0 in
    let not_two = names.0.1 in
    let address_is : plus (reads registers 2) (pos (4 * i)) ≡ a =
    (let sum : (reads registers 2 + 4 * i % 2 ^ 32) % 2 ^ 32 ≡ a = omega arith in sum) in
    let first = load_sets g j registers ram answers trace Lw r 2 a (pos (4 * i)) good placed.0 placed.1 (omega arith)
    address_is (omega arith) (omega arith) (λ c from to in_stack. omega arith) in
    let pointer : reads first.registers' 2 ≡ reads registers 2 = first.others 2 (λ e. not_two (sym e)) in
    let rest = restores_run g rs (j + 1) (i + 1) (a + 4) first.registers' ram answers trace first.good placed.2 rises.1
    names.1 (omega arith) (omega arith) (omega arith) in
    let size : j + 1 + length (restore_items (i + 1) rs) ≡ j + suc (length (restore_items (i + 1) rs)) = omega arith in
    record {
      registers' = rest.registers';
      good = rest.good;
      runs =
          let count : 1 + length rs ≡ suc (length rs) = omega arith in
          subst (λ n. Runs g.low n (at g.code j registers ram answers trace)
          (at g.code (j + suc (length (restore_items (i + 1) rs))) rest.registers' ram answers trace)) count
          (subst (λ q. Runs g.low (1 + length rs) (at g.code j registers ram answers trace)
          (at g.code q rest.registers' ram answers trace)) size
          (runs-append g.low 1 (length rs) (at g.code j registers ram answers trace)
          (at g.code (j + 1) first.registers' ram answers trace) (at g.code
          (j + 1 + length (restore_items (i + 1) rs)) rest.registers' ram answers trace) first.runs rest.runs));
      stored = (sym (rest.others r (none_of r rs rises.0) ∙ first.value), rest.stored);
      others = λ y none. rest.others y none.1 ∙ first.others y none.0;
    }

-- ---- going back

pub record Exits (g : Ground) (j to : ℕ) (registers ram answers : List ℕ) (trace : List Event) : Type 0 where
  pub registers' : List ℕ
  pub runs : Runs g.low 1 (at g.code j registers ram answers trace) (at g.code to registers' ram answers trace)
  pub others : (y : ℕ) → reads registers' y ≡ reads registers y

-- the caller goes on
pub exit_run : (g : Ground) (j to : ℕ) (registers ram answers : List ℕ) (trace : List Event)
    → Good g.code registers ram → Placed g.code j exit_items → reads registers 1 ≡ 0x80300000 + 4 * to → to < 2000000
    → Exits g j to registers ram answers trace
exit_run g j to registers ram answers trace good placed back near =
    let t = (register (machine g.code j registers ram) 1 + 0 % 2 ^ 32) % 2 ^ 32 / 2 * 2 in
    let target : t ≡ 0x80300000 + 4 * to = ap (λ q. (q + 0 % 2 ^ 32) % 2 ^ 32 / 2 * 2) back ∙ even to near in
    let fine : trap_of (Jalr 0 1 (pos 0)) (machine g.code j registers ram) ≡ None =
    aligned t (ap (λ q. q % 4) target ∙ multiple to) in
    let step = step_goes g.table g.code registers ram answers trace g.low j to (Jalr 0 1 (pos 0)) 0
    ((0x80300000 + 4 * j + 4) % 2 ^ 32) t good placed.0 placed.1 fine refl target (IsAbove-none g.low) in
    record {
      registers' = registers;
      runs = (at g.code to registers ram answers trace, step, refl);
      others = λ y. refl;
    }
  where
    even : (to : ℕ) → to < 2000000 → (0x80300000 + 4 * to + 0 % 2 ^ 32) % 2 ^ 32 / 2 * 2 ≡ 0x80300000 + 4 * to
    even to near = omega arith

    multiple : (to : ℕ) → (0x80300000 + 4 * to) % 4 ≡ 0
    multiple to = omega arith
