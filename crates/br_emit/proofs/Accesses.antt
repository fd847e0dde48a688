-- Loads, stores, and reads and writes of device words, in code.
use Rattle.std.proofs.Common.{◌≡◌, ◌≢◌, ◌⊎◌, inl, inr, ℕ, ◌+◌, ◌-◌, ◌*◌, ◌%◌, ◌^◌, ◌<◌, ◌≤◌, nat_lt}
use Rattle.std.proofs.Common.{nat_le, ◌&&◌, if◌then◌else◌, max, min, List, [], ◌∷◌, length, take, Option}
use Rattle.std.proofs.Common.{Some, None, true, false, IsTrue, refl, sym, ap, subst, ◌∙◌, arith, ℤ}
use Rattle.std.specs.Prelude.{slice_get, slice_index}
use Rattle.std.specs.Option.{option_map}
use Rattle.std.specs.FinMap as map
use Rattle.std.proofs.lemmas.Bool.Decides.{nat_tests}
use Rattle.br_words.specs.declared.layout.Layout.TheVariants as layout
use Rattle.br_words.specs.declared.size.Size.{Size}
use Rattle.br_words.specs.declared.size.Size.TheVariants.{One, Two, Four}
use Rattle.br_words.specs.Size.{size_of}
use Rattle.br_bytes.specs.declared.run.Event.{Event}
use Rattle.br_bytes.specs.declared.run.Choice.{Choice}
use Rattle.br_bytes.specs.Number.{number_of, low_bytes}
use Rattle.br_bytes.specs.Memory.{Memory, bytes_at, get_number, put_number, with_bytes}
use Rattle.br_bytes.specs.Runs.{Goes, with_defined}
use Rattle.br_flatimp.specs.declared.program.Stmt.TheOpen.{Stmt-F}
use Rattle.br_flatimp.specs.Values.{moved}
use Rattle.br_flatimp.specs.WellFormed.{are_registers}
use Rattle.br_flatimp.specs.Runs.{Forgets, Callee, set_to, statement_step}
use Rattle.br_rv32im.specs.declared.instruction.Ins.TheVariants.{Load, Store}
use Rattle.br_rv32im.specs.declared.instruction.LoadOp.{LoadOp}
use Rattle.br_rv32im.specs.declared.instruction.StoreOp.{StoreOp}
use Rattle.br_rv32im.specs.Encoding.{Fits}
use Rattle.br_machine.specs.declared.stepped.Stepped.TheVariants as stepped
use Rattle.br_machine.specs.declared.stepped.Trap.TheVariants.{CodeWrite}
use Rattle.br_machine.specs.State.{MachineState, register, bytes_from, with_bytes_from}
use Rattle.br_machine.specs.Arithmetic.{plus}
use Rattle.br_machine.specs.Traps.{trap_of, load_size, store_size, in_ram, meet, load_trap, store_trap, device_trap}
use Rattle.br_machine.specs.Effects.{effect, computes, moved_on, loaded, device_read}
use Rattle.br_machine.specs.Steps.{IsAbove, StepsTo}
use Rattle.br_emit.specs.Code.{load_op, store_op, statement_items, Targets}
use Rattle.br_emit.proofs.Stepping.{machine, at, Good, Has, put, reads}
use Rattle.br_emit.proofs.Stepping.{register-machine, within_code, step_sets, steps_by}
use Rattle.br_emit.proofs.Held.{Held, Where, Outside, Inside, where_is, found}
use Rattle.br_emit.proofs.Held.{index-with_bytes_from, drop-with_bytes_from, length-low_bytes}
use Rattle.br_emit.proofs.Held.{get-with_bytes_other, get-written, index-written}
use Rattle.br_emit.proofs.Pieces.{Ground, Kept, Shown, On, Simulates, given, runs_one}
use Rattle.br_emit.proofs.Setting.{Sets, one_sets, ready_runs, good_of}
use Rattle.br_emit.proofs.Leaves.{Touches, first_name, nonzero, name_value, sets_on, wrong_at_once}

-- ---- loads

both-true : (a b c d : ℕ) → a ≤ b → c ≤ d → (nat_le a b && nat_le c d) ≡ true
both-true a b c d h k = grind arith

-- a load of bytes of RAM
pub load_steps : (g : Ground) (j : ℕ) (registers ram answers : List ℕ) (trace : List Event) (op : LoadOp)
    (x y a : ℕ) (offset : ℤ)
    → Good g.code registers ram → Has g.code j (Load op x y offset) → Fits (Load op x y offset)
    → plus (reads registers y) offset ≡ a → 0x80100000 ≤ a → a + load_size op ≤ 0x80700000
    → IsAbove g.low (a, load_size op)
    → StepsTo g.low (at g.code j registers ram answers trace) (at g.code (j + 1)
    (put x (loaded op (number_of (bytes_from ram (a - 0x80100000) (load_size op)))) registers) ram answers trace)
load_steps g j registers ram answers trace op x y a offset good has fits is low high above =
    let s = machine g.code j registers ram in
    let v = loaded op (number_of (bytes_from ram (a - 0x80100000) (load_size op))) in
    let address_is : plus (register s y) offset ≡ a =
    ap (λ q. plus q offset) (register-machine g.code registers ram j y) ∙ is in
    let inside : in_ram layout.Two a (load_size op) ≡ true =
    both-true 0x80100000 a (a + load_size op) 0x80700000 low high in
    let fine : trap_of (Load op x y offset) s ≡ None = ap (λ q. load_trap layout.Two q (load_size op)) address_is
    ∙ ap (λ t. if t then None else device_trap a (load_size op)) inside in
    let does : effect (Load op x y offset) s (slice_get answers 0) ≡ (computes x v s, stepped.Ran) =
    ap (λ q. if in_ram layout.Two q (load_size op)
    then (computes x (loaded op (number_of (bytes_from ram (q - 0x80100000) (load_size op)))) s, stepped.Ran)
    else device_read x q s (slice_get answers 0)) address_is
    ∙ ap (λ t. if t then (computes x v s, stepped.Ran) else device_read x a s (slice_get answers 0)) inside in
    step_sets g.table g.code registers ram answers trace g.low j (Load op x y offset) x v good has fits fine does
    (subst (λ q. IsAbove g.low (q, load_size op)) (sym address_is) above)

pub load_sets : (g : Ground) (j : ℕ) (registers ram answers : List ℕ) (trace : List Event) (op : LoadOp)
    (x y a : ℕ) (offset : ℤ)
    → Good g.code registers ram → Has g.code j (Load op x y offset) → Fits (Load op x y offset) → x ≢ 0
    → plus (reads registers y) offset ≡ a → 0x80100000 ≤ a → a + load_size op ≤ 0x80700000
    → IsAbove g.low (a, load_size op)
    → Sets g j 1 registers ram answers trace x
    (loaded op (number_of (bytes_from ram (a - 0x80100000) (load_size op)))) 1
load_sets g j registers ram answers trace op x y a offset good has fits ne is low high above =
    let small : x < 32 = omega (arith, fits.0) in
    one_sets g j registers ram answers trace (Load op x y offset) x
    (loaded op (number_of (bytes_from ram (a - 0x80100000) (load_size op)))) good ne small
    (load_steps g j registers ram answers trace op x y a offset good has fits is low high above)

pub load_size_is : (size : Size) → load_size (load_op size) ≡ size_of size
load_size_is One = refl
load_size_is Two = refl
load_size_is Four = refl

pub loaded_is : (size : Size) (v : ℕ) → loaded (load_op size) v ≡ v
loaded_is One v = refl
loaded_is Two v = refl
loaded_is Four v = refl

pub some_bytes : (size : Size) → 0 < size_of size
some_bytes One = omega arith
some_bytes Two = omega arith
some_bytes Four = omega arith

-- what is there of bytes, and of the number in them
record Number (m : Memory) (a n v : ℕ) : Type 0 where
  bytes : List ℕ
  there : bytes_at m a n ≡ Some bytes
  is : number_of bytes ≡ v

number_there : (m : Memory) (a n v : ℕ) → get_number m a n ≡ Some v → Number m a n v
number_there m a n v h = by (bytes_at m a n) refl h
  where
    by : (o : Option (List ℕ)) → bytes_at m a n ≡ o → option_map number_of o ≡ Some v → Number m a n v
    by None e h = absurd (cc)
    by (Some bs) e h = record { bytes = bs; there = e; is = cc }

pub load_simulates : (g : Ground) (targets : Targets) (forgets : Forgets) (call : Callee) (x : ℕ) (size : Size)
    (y : ℕ) (offset : ℤ)
    → IsTrue (are_registers (x ∷ [])) → Touches g x → IsTrue (are_registers (y ∷ []))
    → Simulates g (statement_step forgets call (Stmt-F.Load x size y offset))
    (statement_items targets (Stmt-F.Load x size y offset)) 0 1
load_simulates g targets forgets call x size y offset named touches named' free j s registers ram room multiple inside
    deep placed ready stands = by (s.locals y) refl
  where
    goes : (o : Option ℕ) → s.locals y ≡ o → (rest : List Choice)
        → statement_step forgets call (Stmt-F.Load x size y offset) (given s rest)
        ≡ with_defined o (given s rest) (λ a. with_defined (get_number s.memory (moved a offset) (size_of size))
        (given s rest) (λ v. Goes (set_to x v (given s rest))))
    goes o e rest = ap (λ p. with_defined p (given s rest) (λ a. with_defined
        (get_number s.memory (moved a offset) (size_of size)) (given s rest) (λ v. Goes (set_to x v (given s rest))))) e

    number : (a : ℕ) → s.locals y ≡ Some a → (o : Option ℕ) → get_number s.memory (moved a offset) (size_of size) ≡ o
        → Shown g (statement_step forgets call (Stmt-F.Load x size y offset)) s
        (at g.code j registers ram s.answers s.trace) ram (g.sp + free) (j + 1) 1
    number a e None k = wrong_at_once g (statement_step forgets call (Stmt-F.Load x size y offset)) s registers ram
        (g.sp + free) j (j + 1) 1
        (λ rest. goes (Some a) e rest
        ∙ ap (λ p. with_defined p (given s rest) (λ v. Goes (set_to x v (given s rest)))) k)
    number a e (Some v) k =
        let name = (first_name x [] named).0 in
        let name' = (first_name y [] named').0 in
        let q = moved a offset in
        let n = size_of size in
        let number = number_there s.memory q n v k in
        let f = found (g.sp + free) n q s.memory ram number.bytes stands.held (omega arith) number.there in
        let some = some_bytes size in
        let low = f.low some in
        let high = f.high some in
        let under = g.under in
        let size_is = load_size_is size in
        let is = name_value s (g.sp + free) g.sp registers ram y a stands name' e in
        let address_is : plus (reads registers y) offset ≡ q = ap (λ r. plus r offset) is in
        let above : IsAbove g.low (q, load_size (load_op size)) =
        λ c from to in_stack. (let far = f.apart c from (omega arith) in_stack in omega arith) in
        let sets = load_sets g j registers ram s.answers s.trace (load_op size) x y q offset (good_of g.code registers
        ram s.answers j ready) placed.0 placed.1 (nonzero x name) address_is low (omega arith) above in
        let value : loaded (load_op size) (number_of (bytes_from ram (q - 0x80100000) (load_size (load_op size)))) ≡ v =
        loaded_is size _ ∙ ap (λ k. number_of (bytes_from ram (q - 0x80100000) k)) size_is ∙ ap number_of f.is
        ∙ number.is in
        sets_on g (statement_step forgets call (Stmt-F.Load x size y offset)) s registers ram (g.sp + free) j 1 x v 1
        (λ rest. goes (Some a) e rest
        ∙ ap (λ p. with_defined p (given s rest) (λ v. Goes (set_to x v (given s rest)))) k) name
        touches ready stands
        (record {
          steps = 1;
          few = omega arith;
          sets = subst (λ w. Sets g j 1 registers ram s.answers s.trace x w 1) value sets;
        })

    by : (o : Option ℕ) → s.locals y ≡ o
        → Shown g (statement_step forgets call (Stmt-F.Load x size y offset)) s
        (at g.code j registers ram s.answers s.trace) ram (g.sp + free) (j + 1) 1
    by None e = wrong_at_once g (statement_step forgets call (Stmt-F.Load x size y offset)) s registers ram
        (g.sp + free) j (j + 1) 1 (goes None e)
    by (Some a) e = number a e (get_number s.memory (moved a offset) (size_of size)) refl

-- ---- stores

-- a store of bytes of RAM below the code
pub store_steps : (g : Ground) (j : ℕ) (registers ram answers : List ℕ) (trace : List Event) (op : StoreOp)
    (y z a v : ℕ) (offset : ℤ)
    → Good g.code registers ram → Has g.code j (Store op y z offset) → Fits (Store op y z offset)
    → plus (reads registers y) offset ≡ a → reads registers z ≡ v → 0x80100000 ≤ a → a + store_size op ≤ 0x80300000
    → IsAbove g.low (a, store_size op)
    → StepsTo g.low (at g.code j registers ram answers trace)
    (at g.code (j + 1) registers (with_bytes_from ram (a - 0x80100000) (low_bytes (store_size op) v)) answers trace)
store_steps g j registers ram answers trace op y z a v offset good has fits is also low high above =
    let s = machine g.code j registers ram in
    let few = good.few in
    let here = within_code g.code j _ has in
    let ram' = with_bytes_from ram (a - 0x80100000) (low_bytes (store_size op) v) in
    let s' : MachineState = record {
      layout = layout.Two;
      registers = registers;
      pc =
          (0x80300000 + 4 * j + 4) % 2 ^ 32;
      ram = ram';
      code_words = length g.code;
    } in
    let address_is : plus (register s y) offset ≡ a =
    ap (λ q. plus q offset) (register-machine g.code registers ram j y) ∙ is in
    let value_is : register s z ≡ v = register-machine g.code registers ram j z ∙ also in
    let inside : in_ram layout.Two a (store_size op) ≡ true =
    both-true 0x80100000 a (a + store_size op) 0x80700000 low (omega arith) in
    let apart : meet a (store_size op) 0x80300000 (4 * length g.code) ≡ false =
    apart_is a (a + store_size op) 0x80300000 (0x80300000 + 4 * length g.code) (omega arith) in
    let fine : trap_of (Store op y z offset) s ≡ None =
    ap (λ q. store_trap layout.Two (length g.code) q (store_size op)) address_is
    ∙ ap (λ t. if t then (if meet a (store_size op) 0x80300000 (4 * length g.code) then Some CodeWrite else None)
    else device_trap a (store_size op)) inside
    ∙ ap (λ t. if t then Some CodeWrite else None) apart in
    let does : effect (Store op y z offset) s (slice_get answers 0) ≡ (s', stepped.Ran) =
    ap (λ q. if in_ram layout.Two q (store_size op) then (
      record (moved_on s) {
        ram = with_bytes_from
            ram (q - 0x80100000) (low_bytes (store_size op) (register s z));
      },
      stepped.Ran,
    )
    else (moved_on s, stepped.Wrote q (register s z))) address_is
    ∙ ap (λ t. if t then (
      record (moved_on s) {
        ram = with_bytes_from ram (a - 0x80100000) (low_bytes (store_size op)
            (register s z));
      },
      stepped.Ran,
    ) else (moved_on s, stepped.Wrote a (register s z))) inside
    ∙ ap (λ w.
    (record (moved_on s) { ram = with_bytes_from ram (a - 0x80100000) (low_bytes (store_size op) w) }, stepped.Ran))
    value_is in
    let next : (0x80300000 + 4 * j + 4) % 2 ^ 32 ≡ 0x80300000 + 4 * (j + 1) = omega arith in
    steps_by g.table g.code registers ram answers trace g.low j (Store op y z offset)
    (at g.code (j + 1) registers ram' answers trace) s' stepped.Ran good has fits fine does
    (ap (λ q. Some (record {
      machine = record {
        layout = layout.Two;
        registers = registers;
        pc = q;
        ram = ram';
        code_words = length g.code;
      };
      answers = answers;
      trace = trace;
    })) next)
    (ap (λ q. take 4194304 q) (drop-with_bytes_from (low_bytes (store_size op) v) ram 2097152 (a - 0x80100000)
    (omega (arith, length-low_bytes (store_size op) v))))
    (subst (λ q. IsAbove g.low (q, store_size op)) (sym address_is) above)
  where
    apart_is : (a b c d : ℕ) → b ≤ c → nat_lt (max a c) (min b d) ≡ false
    apart_is a b c d h = not_less (max a c) (min b d) (omega arith)
      where
        not_less : (p q : ℕ) → q ≤ p → nat_lt p q ≡ false
        not_less p q h = grind (arith, nat_tests)

-- bytes put into a memory and into RAM
put_held : (b : ℕ) (m : Memory) (ram bs : List ℕ) (a : ℕ) → Held b m ram → length ram ≡ 6291456 → 0x80100000 ≤ a
    → a + length bs ≤ 0x80300000
    → ((q : ℕ) → a ≤ q → q < a + length bs → 0x80200000 ≤ q → b ≤ q)
    → Held b (with_bytes m a bs) (with_bytes_from ram (a - 0x80100000) bs)
put_held b m ram bs a held whole low high apart = record {
  bytes = λ q v is. bytes q v is (where_is q a (length bs));
  from = λ q v is. from q v is (where_is q a (length bs));
  to = λ q v is. to q v is (where_is q a (length bs));
  apart = λ q v is in_stack. away q v is in_stack (where_is q a (length bs));
}
  where
    out : (q v : ℕ) → map.get (with_bytes m a bs) q ≡ Some v → (q < a) ⊎ (a + length bs ≤ q) → map.get m q ≡ Some v
    out q v is h = sym (get-with_bytes_other bs m a q (omega arith) h) ∙ is

    bytes : (q v : ℕ) → map.get (with_bytes m a bs) q ≡ Some v → Where q a (length bs)
        → slice_index (with_bytes_from ram (a - 0x80100000) bs) (q - 0x80100000) ≡ v
    bytes q v is (Outside h) =
        let was = out q v is h in
        let in_ram = held.from q v was in
        index-with_bytes_from bs ram (a - 0x80100000) (q - 0x80100000) (aside q in_ram h) ∙ held.bytes q v was
      where
        aside : (q : ℕ) → 0x80100000 ≤ q → (q < a) ⊎ (a + length bs ≤ q)
            → (q - 0x80100000 < a - 0x80100000) ⊎ (a - 0x80100000 + length bs ≤ q - 0x80100000)
        aside q h (inl l) = inl (omega arith)
        aside q h (inr r) = inr (omega arith)
    bytes q v is (Inside i l same) =
        let here : q - 0x80100000 ≡ a - 0x80100000 + i = omega arith in
        let written = get-written bs m a i l (omega arith) in
        let value : slice_index bs i ≡ v = some_is (sym written ∙ ap (map.get (with_bytes m a bs)) (sym same) ∙ is) in
        ap (slice_index (with_bytes_from ram (a - 0x80100000) bs)) here
        ∙ index-written bs ram (a - 0x80100000) i l (omega arith) ∙ value
      where
        some_is : {p r : ℕ} → Some p ≡ Some r → p ≡ r
        some_is e = cc

    from : (q v : ℕ) → map.get (with_bytes m a bs) q ≡ Some v → Where q a (length bs) → 0x80100000 ≤ q
    from q v is (Outside h) = held.from q v (out q v is h)
    from q v is (Inside i l same) = omega arith

    to : (q v : ℕ) → map.get (with_bytes m a bs) q ≡ Some v → Where q a (length bs) → q < 0x80300000
    to q v is (Outside h) = held.to q v (out q v is h)
    to q v is (Inside i l same) = omega arith

    away : (q v : ℕ) → map.get (with_bytes m a bs) q ≡ Some v → 0x80200000 ≤ q → Where q a (length bs) → b ≤ q
    away q v is in_stack (Outside h) = held.apart q v (out q v is h) in_stack
    away q v is in_stack (Inside i l same) = apart q (omega arith) (omega arith) in_stack

-- bytes that are put where the memory has some
pub put_kept : (b : ℕ) (m : Memory) (ram bs : List ℕ) (a : ℕ) → a + length bs ≤ 0x80300000 → 0x80100000 ≤ a
    → ((q : ℕ) → a ≤ q → q < a + length bs → map.get m q ≢ None)
    → Kept b m (with_bytes m a bs) ram (with_bytes_from ram (a - 0x80100000) bs)
put_kept b m ram bs a high low there = record {
  domain = λ q apart none. domain q none (where_is q a (length bs));
  fresh = λ q apart none. fresh q none (where_is q a (length bs));
  stays = λ q apart none. stays q apart.0 none (where_is q a (length bs));
}
  where
    domain : (q : ℕ) → map.get (with_bytes m a bs) q ≡ None → Where q a (length bs) → map.get m q ≡ None
    domain q none (Outside h) = sym (get-with_bytes_other bs m a q (omega arith) h) ∙ none
    domain q none (Inside i l same) =
        absurd (clash (sym (get-written bs m a i l (omega arith)) ∙ ap (map.get (with_bytes m a bs)) (sym same) ∙ none))
      where
        clash : {v : ℕ} → Some v ≡ None → ⊥
        clash e = absurd (cc)

    fresh : (q : ℕ) → map.get m q ≡ None → Where q a (length bs) → map.get (with_bytes m a bs) q ≡ None
    fresh q none (Outside h) = get-with_bytes_other bs m a q (omega arith) h ∙ none
    fresh q none (Inside i l same) = absurd (there q (omega arith) (omega arith) none)

    stays : (q : ℕ) → 0x80100000 ≤ q → map.get (with_bytes m a bs) q ≡ None → Where q a (length bs)
        → slice_index (with_bytes_from ram (a - 0x80100000) bs) (q - 0x80100000) ≡ slice_index ram (q - 0x80100000)
    stays q in_ram none (Outside h) = index-with_bytes_from bs ram (a - 0x80100000) (q - 0x80100000) (aside q in_ram h)
      where
        aside : (q : ℕ) → 0x80100000 ≤ q → (q < a) ⊎ (a + length bs ≤ q)
            → (q - 0x80100000 < a - 0x80100000) ⊎ (a - 0x80100000 + length bs ≤ q - 0x80100000)
        aside q h (inl l) = inl (omega arith)
        aside q h (inr r) = inr (omega arith)
    stays q in_ram none (Inside i l same) =
        absurd (there q (omega arith) (omega arith) (domain q none (Inside i l same)))

store_size_is : (size : Size) → store_size (store_op size) ≡ size_of size
store_size_is One = refl
store_size_is Two = refl
store_size_is Four = refl

-- what is there of bytes that are put, and what they leave
record Put (m : Memory) (a n v : ℕ) (m' : Memory) : Type 0 where
  bytes : List ℕ
  there : bytes_at m a n ≡ Some bytes
  is : m' ≡ with_bytes m a (low_bytes n v)

put_there : (m m' : Memory) (a n v : ℕ) → put_number m a n v ≡ Some m' → Put m a n v m'
put_there m m' a n v h = by (bytes_at m a n) refl h
  where
    by : (o : Option (List ℕ)) → bytes_at m a n ≡ o → option_map (λ _. with_bytes m a (low_bytes n v)) o ≡ Some m'
        → Put m a n v m'
    by None e h = absurd (cc)
    by (Some bs) e h = record { bytes = bs; there = e; is = cc }

pub store_simulates : (g : Ground) (targets : Targets) (forgets : Forgets) (call : Callee) (size : Size)
    (y z : ℕ) (offset : ℤ)
    → IsTrue (are_registers (y ∷ z ∷ []))
    → Simulates g (statement_step forgets call (Stmt-F.Store size y z offset))
    (statement_items targets (Stmt-F.Store size y z offset)) 0 1
store_simulates g targets forgets call size y z offset named free j s registers ram room multiple inside deep placed
    ready stands = by (s.locals y) (s.locals z) refl refl
  where
    goes : (o p : Option ℕ) → s.locals y ≡ o → s.locals z ≡ p → (rest : List Choice)
        → statement_step forgets call (Stmt-F.Store size y z offset) (given s rest)
        ≡ with_defined o (given s rest) (λ a. with_defined p (given s rest) (λ v. with_defined (put_number s.memory
        (moved a offset) (size_of size) v) (given s rest) (λ m. Goes (record (given s rest) { memory = m }))))
    goes o p e k rest =
        ap (λ o. with_defined o (given s rest)
        (λ a. with_defined (s.locals z) (given s rest) (λ v. with_defined (put_number s.memory (moved a offset)
        (size_of size) v) (given s rest) (λ m. Goes (record (given s rest) { memory = m }))))) e
        ∙ ap (λ p.
        with_defined o (given s rest) (λ a. with_defined p (given s rest) (λ v. with_defined (put_number s.memory
        (moved a offset) (size_of size) v) (given s rest) (λ m. Goes (record (given s rest) { memory = m }))))) k

    put : (a v : ℕ) → s.locals y ≡ Some a → s.locals z ≡ Some v → (o : Option Memory)
        → put_number s.memory (moved a offset) (size_of size) v ≡ o
        → Shown g (statement_step forgets call (Stmt-F.Store size y z offset)) s
        (at g.code j registers ram s.answers s.trace) ram (g.sp + free) (j + 1) 1
    put a v e k None h = wrong_at_once g (statement_step forgets call (Stmt-F.Store size y z offset)) s registers ram
        (g.sp + free) j (j + 1) 1
        (λ rest. goes (Some a) (Some v) e k rest
        ∙ ap (λ p. with_defined p (given s rest) (λ m. Goes (record (given s rest) { memory = m }))) h)
    put a v e k (Some m') h =
        let two = first_name y (z ∷ []) named in
        let other = (first_name z [] two.1).0 in
        let q = moved a offset in
        let n = size_of size in
        let b = g.sp + free in
        let bs = low_bytes n v in
        let put = put_there s.memory m' q n v h in
        let f = found b n q s.memory ram put.bytes stands.held (omega arith) put.there in
        let some = some_bytes size in
        let low = f.low some in
        let high = f.high some in
        let under = g.under in
        let size_is = store_size_is size in
        let len = length-low_bytes n v in
        let good = good_of g.code registers ram s.answers j ready in
        let ram' = with_bytes_from ram (q - 0x80100000) bs in
        let is = name_value s b g.sp registers ram y a stands two.0 e in
        let also = name_value s b g.sp registers ram z v stands other k in
        let address_is : plus (reads registers y) offset ≡ q = ap (λ r. plus r offset) is in
        let above : IsAbove g.low (q, store_size (store_op size)) =
        λ c from to in_stack. (let far = f.apart c from (omega arith) in_stack in omega arith) in
        let steps = store_steps g j registers ram s.answers s.trace (store_op size) y z q v offset good placed.0
        placed.1 address_is also low (omega arith) above in
        let steps' = subst (λ k. StepsTo g.low (at g.code j registers ram s.answers s.trace) (at g.code (j + 1)
        registers (with_bytes_from ram (q - 0x80100000) (low_bytes k v)) s.answers s.trace)) size_is steps in
        let runs = runs_one g.low (at g.code j registers ram s.answers s.trace)
        (at g.code (j + 1) registers ram' s.answers s.trace) steps' in
        let held : Held b (with_bytes s.memory q bs) ram' = put_held b s.memory ram bs q stands.held good.whole low
        (omega arith) (λ c from to in_stack. f.apart c from (omega arith) in_stack) in
        On (record {
          choices = [];
          chosen = tt;
          after = record s { memory = m' };
          goes = λ rest. goes (Some a) (Some v) e k rest
              ∙ ap (λ p. with_defined p (given s rest) (λ m. Goes (record (given s rest) { memory = m }))) h;
          registers = registers;
          ram' = ram';
          steps = 1;
          runs = runs;
          ready = ready_runs g registers ram s.answers registers ram' s.answers s.trace s.trace j (j + 1) 1 ready runs;
          stands = record {
            values = stands.values;
            held = subst (λ m. Held b m ram') (sym put.is) held;
            pointer = stands.pointer;
          };
          untouched = λ y low out. refl;
          kept = subst (λ m. Kept b s.memory m ram ram') (sym put.is)
              (put_kept b s.memory ram bs q (omega arith) low (λ c from to. f.there c from (omega arith)));
          paced = record { takes = omega arith; least = omega arith; most = omega arith };
        })

    by : (o p : Option ℕ) → s.locals y ≡ o → s.locals z ≡ p
        → Shown g (statement_step forgets call (Stmt-F.Store size y z offset)) s
        (at g.code j registers ram s.answers s.trace) ram (g.sp + free) (j + 1) 1
    by None p e k = wrong_at_once g (statement_step forgets call (Stmt-F.Store size y z offset)) s registers ram
        (g.sp + free) j (j + 1) 1 (goes None p e k)
    by (Some a) None e k = wrong_at_once g (statement_step forgets call (Stmt-F.Store size y z offset)) s registers ram
        (g.sp + free) j (j + 1) 1 (goes (Some a) None e k)
    by (Some a) (Some v) e k = put a v e k (put_number s.memory (moved a offset) (size_of size) v) refl
