-- Tables of bytes, in code.
use Rattle.std.proofs.Common.{◌≢◌, ◌≡◌, inl, inr, ℕ, zero, suc, ◌+◌, ◌-◌, ◌*◌, ◌%◌, ◌^◌, ◌<◌, ◌≤◌, nat_le}
use Rattle.std.proofs.Common.{if◌then◌else◌, List, [], ◌∷◌, ◌++◌, length, take, drop, drop-cons, Option, Some, None}
use Rattle.std.proofs.Common.{Bool, true, false, IsTrue, refl, sym, ap, subst, ◌∙◌, arith, pos, length-append}
use Rattle.std.specs.Prelude.{slice_index}
use Rattle.std.proofs.lemmas.Bool.Decides.{nat_tests}
use Rattle.br_words.specs.declared.size.Size.{Size}
use Rattle.br_words.specs.Size.{size_of}
use Rattle.br_bytes.specs.declared.run.Event.{Event}
use Rattle.br_bytes.specs.declared.run.Choice.{Choice}
use Rattle.br_bytes.specs.Number.{number_of, low_bytes}
use Rattle.br_bytes.specs.Buffers.{table_number}
use Rattle.br_bytes.specs.Runs.{Goes, with_defined}
use Rattle.br_flatimp.specs.declared.program.Stmt.TheOpen.{Stmt-F}
use Rattle.br_flatimp.specs.WellFormed.{are_registers}
use Rattle.br_flatimp.specs.Runs.{Forgets, Callee, set_to, statement_step}
use Rattle.br_flatimp.specs.Sizes.{words_for}
use Rattle.br_rv32im.specs.declared.instruction.Ins.TheVariants.{Load, Reg}
use Rattle.br_rv32im.specs.declared.instruction.RegOp.TheVariants.{Add}
use Rattle.br_machine.specs.State.{bytes_from}
use Rattle.br_machine.specs.Arithmetic.{plus}
use Rattle.br_machine.specs.Traps.{load_size}
use Rattle.br_machine.specs.Effects.{loaded}
use Rattle.br_machine.specs.Steps.{Runs}
use Rattle.br_machine.specs.Start.{code_bytes}
use Rattle.br_emit.specs.Code.{Item, Does, Raw, load_op, over_items, table_words, table_items, statement_items, Targets}
use Rattle.br_emit.proofs.Stepping.{at, Good, reads, code_bytes-at, ram-code}
use Rattle.br_emit.proofs.Pieces.{other_rests, Rests, Ground, Placed, placed-front}
use Rattle.br_emit.proofs.Pieces.{placed-back, runs-append, Shown, Simulates, given}
use Rattle.br_emit.proofs.Setting.{reg_sets, good_of}
use Rattle.br_emit.proofs.Operations.{SetsWithin}
use Rattle.br_emit.proofs.Leaves.{sets_with_link, IsName, Touches, first_name}
use Rattle.br_emit.proofs.Leaves.{nonzero, name_value, sets_on, wrong_at_once}
use Rattle.br_emit.proofs.Accesses.{load_sets, load_size_is, loaded_is, some_bytes}
use Rattle.br_emit.proofs.Jumping.{over_jumps, rests_not}
use Rattle.br_emit.proofs.Control.{placed_within}

-- ---- the bytes in code

four_bytes : (a b c d i : ℕ) → a < 256 → b < 256 → c < 256 → d < 256 → i < 4
    → slice_index (low_bytes 4 (number_of (a ∷ b ∷ c ∷ d ∷ []))) i ≡ slice_index (a ∷ b ∷ c ∷ d ∷ []) i
four_bytes a b c d zero ha hb hc hd l = omega arith
four_bytes a b c d (suc zero) ha hb hc hd l = omega arith
four_bytes a b c d (suc (suc zero)) ha hb hc hd l = omega arith
four_bytes a b c d (suc (suc (suc zero))) ha hb hc hd l = omega arith
four_bytes a b c d (suc (suc (suc (suc i)))) ha hb hc hd l = absurd (omega arith)

raw_bytes : (code : List ℕ) (p a b c d i : ℕ) (rest : List Item) → Placed code p (Raw a b c d ∷ rest) → i < 4
    → slice_index (code_bytes code) (4 * p + i) ≡ slice_index (a ∷ b ∷ c ∷ d ∷ []) i
raw_bytes code p a b c d i rest placed l =
    let fits = placed.1 in
    code_bytes-at code p (number_of (a ∷ b ∷ c ∷ d ∷ [])) i placed.0 l
    ∙ four_bytes a b c d i fits.0 fits.1 fits.2 fits.3 l

-- each byte of a table stands in the code
table_bytes : (code bytes : List ℕ) (p i : ℕ) → Placed code p (table_words bytes) → i < length bytes
    → slice_index (code_bytes code) (4 * p + i) ≡ slice_index bytes i
table_bytes code [] p i placed l = absurd (omega arith)
table_bytes code (a ∷ []) p zero placed l = raw_bytes code p a 0 0 0 0 [] placed (omega arith)
table_bytes code (a ∷ []) p (suc i) placed l = absurd (omega arith)
table_bytes code (a ∷ b ∷ []) p zero placed l = raw_bytes code p a b 0 0 0 [] placed (omega arith)
table_bytes code (a ∷ b ∷ []) p (suc zero) placed l = raw_bytes code p a b 0 0 1 [] placed (omega arith)
table_bytes code (a ∷ b ∷ []) p (suc (suc i)) placed l = absurd (omega arith)
table_bytes code (a ∷ b ∷ c ∷ []) p zero placed l = raw_bytes code p a b c 0 0 [] placed (omega arith)
table_bytes code (a ∷ b ∷ c ∷ []) p (suc zero) placed l = raw_bytes code p a b c 0 1 [] placed (omega arith)
table_bytes code (a ∷ b ∷ c ∷ []) p (suc (suc zero)) placed l = raw_bytes code p a b c 0 2 [] placed (omega arith)
table_bytes code (a ∷ b ∷ c ∷ []) p (suc (suc (suc i))) placed l = absurd (omega arith)
table_bytes code (a ∷ b ∷ c ∷ d ∷ bytes) p zero placed l =
    raw_bytes code p a b c d 0 (table_words bytes) placed (omega arith)
table_bytes code (a ∷ b ∷ c ∷ d ∷ bytes) p (suc zero) placed l =
    raw_bytes code p a b c d 1 (table_words bytes) placed (omega arith)
table_bytes code (a ∷ b ∷ c ∷ d ∷ bytes) p (suc (suc zero)) placed l =
    raw_bytes code p a b c d 2 (table_words bytes) placed (omega arith)
table_bytes code (a ∷ b ∷ c ∷ d ∷ bytes) p (suc (suc (suc zero))) placed l =
    raw_bytes code p a b c d 3 (table_words bytes) placed (omega arith)
table_bytes code (a ∷ b ∷ c ∷ d ∷ bytes) p (suc (suc (suc (suc i)))) placed l =
    let place : 4 * p + suc (suc (suc (suc i))) ≡ 4 * (p + 1) + i = omega arith in
    ap (slice_index (code_bytes code)) place ∙ table_bytes code bytes (p + 1) i placed.2 (omega arith)

-- the words of a table are those that its bytes take
pub table_length : (bytes : List ℕ) → length (table_words bytes) ≡ words_for (length bytes)
table_length [] = refl
table_length (a ∷ []) = refl
table_length (a ∷ b ∷ []) = refl
table_length (a ∷ b ∷ c ∷ []) = refl
table_length (a ∷ b ∷ c ∷ d ∷ bytes) = omega (arith, table_length bytes)

-- bytes of RAM that are those of a list from a place on
read_bytes : (n i p : ℕ) (ram bytes : List ℕ) → i + n ≤ length bytes → ((k : ℕ) → k < n
    → slice_index ram (p + k) ≡ slice_index bytes (i + k)) → bytes_from ram p n ≡ take n (drop i bytes)
read_bytes zero i p ram bytes room same = refl
read_bytes (suc n) i p ram bytes room same =
    let inside : i < length bytes = omega arith in
    let here : slice_index ram p ≡ slice_index bytes i = ap (slice_index ram) (omega arith) ∙ same 0 (omega arith)
    ∙ ap (slice_index bytes) (omega arith) in
    let rest : bytes_from ram (p + 1) n ≡ take n (drop (suc i) bytes) =
    read_bytes n (suc i) (p + 1) ram bytes (omega arith) (λ k l. ap (slice_index ram) (omega arith)
    ∙ same (suc k) (omega arith) ∙ ap (slice_index bytes) (omega arith)) in
    let split : drop i bytes ≡ slice_index bytes i ∷ drop (suc i) bytes = drop-cons bytes i 0 inside in
    ap (λ q. q ∷ bytes_from ram (p + 1) n) here ∙ ap (λ q. slice_index bytes i ∷ q) rest ∙ ap (take (suc n)) (sym split)

-- ---- reads of a table

-- some steps set a register, and change no other but x1
record TableSets (g : Ground) (j k : ℕ) (registers ram answers : List ℕ) (trace : List Event)
    (x v limit : ℕ) : Type 0 where
  steps : ℕ
  few : steps ≤ limit
  registers' : List ℕ
  runs : Runs g.low steps (at g.code j registers ram answers trace) (at g.code (j + k) registers' ram answers trace)
  value : reads registers' x ≡ v
  others : (y : ℕ) → y ≢ x → Rests g y → reads registers' y ≡ reads registers y

table_sets : (g : Ground) (j : ℕ) (registers ram answers : List ℕ) (trace : List Event) (x : ℕ) (size : Size)
    (bytes : List ℕ) (y i : ℕ)
    → g.touched 1 ≡ true → Good g.code registers ram → Placed g.code j (table_items x size bytes y) → IsName x
    → IsName y → reads registers y ≡ i → i + size_of size ≤ length bytes
    → TableSets g j (length (table_items x size bytes y)) registers ram answers trace x
    (number_of (take (size_of size) (drop i bytes))) 4
table_sets g j registers ram answers trace x size bytes y i links good placed name name' is room =
    let words = table_words bytes in
    let n = length words in
    let over = over_items 1 n in
    let tail = Does (Reg Add 1 1 y) ∷ Does (Load (load_op size) x 1 (pos 0)) ∷ [] in
    let p0 = placed-front g.code j over (words ++ tail) placed in
    let q0 = placed-back g.code j over (words ++ tail) placed in
    let start = j + length over in
    let p1 = placed-front g.code start words tail q0 in
    let p2 = placed-back g.code start words tail q0 in
    let to = start + n in
    let few = good.few in
    let end = last_inside g.code to (Does (Load (load_op size) x 1 (pos 0))) (Does (Reg Add 1 1 y)) p2 in
    let jump = over_jumps g j n 1 registers ram answers trace good p0 (inr (refl, links)) (omega arith) in
    let m = jump.moves in
    let low' = name'.low in
    let low = name.low in
    let base = 0x80300000 + 4 * start in
    let one : reads m.registers' 1 ≡ base = jump.link_is refl in
    let offset : reads m.registers' y ≡ i = m.others y (other_rests g y (omega arith)) ∙ is in
    let sum = reg_sets g to m.registers' ram answers trace Add 1 1 y base i m.good p2.0 p2.1 (omega arith) one offset in
    let long = table_length bytes in
    let a = base + i in
    let some = some_bytes size in
    let value : (base + i) % 2 ^ 32 ≡ a = omega arith in
    let at_one : reads sum.registers' 1 ≡ a = sum.value ∙ value in
    let address_is : plus (reads sum.registers' 1) (pos 0) ≡ a = ap (λ q. plus q (pos 0)) at_one
    ∙ (let same : (a + 0 % 2 ^ 32) % 2 ^ 32 ≡ a = omega arith in same) in
    let size_is = load_size_is size in
    let under = g.under in
    let top = g.top in
    let load = load_sets g (to + 1) sum.registers' ram answers trace (load_op size) x 1 a (pos 0) sum.good p2.2.0 p2.2.1
    (nonzero x name) address_is (omega arith) (omega arith) (λ q from to in_stack. omega arith) in
    let place : a - 0x80100000 ≡ 2097152 + (4 * start + i) = omega arith in
    let read : bytes_from ram (a - 0x80100000) (size_of size) ≡ take (size_of size) (drop i bytes) =
    read_bytes (size_of size) i (a - 0x80100000) ram bytes room (λ k l.
    let there : a - 0x80100000 + k ≡ 2097152 + (4 * start + (i + k)) = omega arith in
    ap (slice_index ram) there ∙ ram-code g.code registers ram (4 * start + (i + k)) good (omega arith)
    ∙ table_bytes g.code bytes start (i + k) p1 (omega arith)) in
    let loaded_value : loaded (load_op size) (number_of (bytes_from ram (a - 0x80100000) (load_size (load_op size))))
    ≡ number_of (take (size_of size) (drop i bytes)) =
    loaded_is size _ ∙ ap (λ k. number_of (bytes_from ram (a - 0x80100000) k)) size_is ∙ ap number_of read in
    let l1 = length-append over (words ++ tail) in
    let l2 = length-append words tail in
    let end_is : to + 1 + 1 ≡ j + length (over ++ (words ++ tail)) = omega arith in
    let f = m.few in
    record {
      steps = m.steps + (1 + 1);
      few = omega arith;
      registers' = load.registers';
      runs = subst (λ q. Runs g.low (m.steps + (1 + 1))
          (at g.code j registers ram answers trace) (at g.code q load.registers' ram answers trace)) end_is
          (runs-append g.low m.steps (1 + 1) _ _ _ m.runs (runs-append g.low 1 1 _ _ _ sum.runs load.runs));
      value = load.value ∙ loaded_value;
      others = λ q ne rests. load.others q ne ∙ sum.others q (rests_not g q links rests) ∙ m.others q rests;
    }
  where
    last_inside : (code : List ℕ) (p : ℕ) (last first : Item) → Placed code p (first ∷ last ∷ []) → p + 2 ≤ length code
    last_inside code p last first placed =
        elim (placed_within code p (first ∷ last ∷ []) placed) [ inl e ↦ absurd (cc) | inr l ↦ l ]

pub table_simulates : (g : Ground) (targets : Targets) (forgets : Forgets) (call : Callee) (x : ℕ) (size : Size)
    (bytes : List ℕ) (y : ℕ)
    → IsTrue (are_registers (x ∷ [])) → Touches g x → Touches g 1 → IsTrue (are_registers (y ∷ []))
    → Simulates g (statement_step forgets call (Stmt-F.Table x size bytes y))
    (statement_items targets (Stmt-F.Table x size bytes y)) 0 (4 + words_for (length bytes))
table_simulates g targets forgets call x size bytes y named touches links named' free j s registers ram room multiple
    inside deep placed ready stands = by (s.locals y) refl
  where
    goes : (o : Option ℕ) → s.locals y ≡ o → (rest : List Choice)
        → statement_step forgets call (Stmt-F.Table x size bytes y) (given s rest) ≡ with_defined o (given s rest) (λ i.
        with_defined (table_number bytes i (size_of size)) (given s rest) (λ v. Goes (set_to x v (given s rest))))
    goes o e rest = ap (λ o. with_defined o (given s rest) (λ i.
        with_defined (table_number bytes i (size_of size)) (given s rest) (λ v. Goes (set_to x v (given s rest))))) e

    number : (i : ℕ) → s.locals y ≡ Some i → (t : Bool) → nat_le (i + size_of size) (length bytes) ≡ t
        → Shown g (statement_step forgets call (Stmt-F.Table x size bytes y)) s (at g.code j registers ram s.answers
        s.trace) ram (g.sp + free) (j + length (table_items x size bytes y)) (4 + words_for (length bytes))
    number i e false h = wrong_at_once g (statement_step forgets call (Stmt-F.Table x size bytes y)) s registers ram
        (g.sp + free) j (j + length (table_items x size bytes y)) (4 + words_for (length bytes))
        (λ rest. goes (Some i) e rest
        ∙ ap (λ t. with_defined (if t then Some (number_of (take (size_of size) (drop i bytes))) else None)
        (given s rest) (λ v. Goes (set_to x v (given s rest)))) h)
    number i e true h =
        let name = (first_name x [] named).0 in
        let name' = (first_name y [] named').0 in
        let fits : i + size_of size ≤ length bytes = grind (arith, nat_tests) in
        let sets = table_sets g j registers ram
        s.answers s.trace x size bytes y i links (good_of g.code registers ram s.answers j ready) placed name name'
        (name_value s (g.sp + free) g.sp registers ram y i stands name' e) fits in
        let few = sets.few in
        sets_with_link g (statement_step forgets call (Stmt-F.Table x size bytes y)) s registers ram (g.sp + free)
        j (length (table_items x size bytes y)) x (number_of (take (size_of size) (drop i bytes)))
        (4 + words_for (length bytes))
        (λ rest. goes (Some i) e rest
        ∙ ap (λ t. with_defined (if t then Some (number_of (take (size_of size) (drop i bytes))) else None)
        (given s rest) (λ v. Goes (set_to x v (given s rest)))) h) name touches ready stands
        sets.registers' sets.steps (omega arith) sets.runs sets.value sets.others

    by : (o : Option ℕ) → s.locals y ≡ o
        → Shown g (statement_step forgets call (Stmt-F.Table x size bytes y)) s (at g.code j registers ram s.answers
        s.trace) ram (g.sp + free) (j + length (table_items x size bytes y)) (4 + words_for (length bytes))
    by None e = wrong_at_once g (statement_step forgets call (Stmt-F.Table x size bytes y)) s registers ram
        (g.sp + free) j (j + length (table_items x size bytes y)) (4 + words_for (length bytes)) (goes None e)
    by (Some i) e = number i e (nat_le (i + size_of size) (length bytes)) refl
