-- Reads and writes of device words, in code.
use Rattle.std.proofs.Common.{◌≡◌, ◌⊎◌, inl, inr, ℕ, ◌+◌, ◌-◌, ◌*◌, ◌%◌, ◌^◌, ◌<◌, ◌≤◌, ◌==◌, nat_lt}
use Rattle.std.proofs.Common.{nat_le, ◌&&◌, ◌||◌, if◌then◌else◌, List, [], ◌∷◌, ◌++◌, length, Option, Some}
use Rattle.std.proofs.Common.{None, Bool, true, false, IsTrue, refl, sym, ap, subst, ◌∙◌, arith, pos}
use Rattle.std.specs.Prelude.{slice_get}
use Rattle.std.proofs.lemmas.Bool.{ltb-true}
use Rattle.std.proofs.lemmas.Bool.Decides.{nat_tests}
use Rattle.br_words.specs.declared.layout.Layout.TheVariants as layout
use Rattle.br_words.specs.Device.{in_device_window, is_device_word}
use Rattle.br_bytes.specs.declared.run.Event.TheVariants as event
use Rattle.br_bytes.specs.declared.run.Choice.{Choice}
use Rattle.br_bytes.specs.Number.{number_of, low_bytes}
use Rattle.br_bytes.specs.Runs.{Waiting, Undefined, Goes, Ends, with_defined}
use Rattle.br_bytes.specs.Runs.{choose, read_device, write_device, happens}
use Rattle.br_flatimp.specs.declared.program.Stmt.TheOpen.{Stmt-F}
use Rattle.br_flatimp.specs.Values.{with_local}
use Rattle.br_flatimp.specs.WellFormed.{are_registers}
use Rattle.br_flatimp.specs.Runs.{State, Run, Forgets, Callee, statement_step}
use Rattle.br_rv32im.specs.declared.instruction.Ins.TheVariants.{Load, Store}
use Rattle.br_rv32im.specs.declared.instruction.LoadOp.TheVariants.{Lw}
use Rattle.br_rv32im.specs.declared.instruction.StoreOp.TheVariants.{Sw}
use Rattle.br_machine.specs.declared.stepped.Stepped.TheVariants as stepped
use Rattle.br_machine.specs.declared.stepped.Trap.TheVariants.{CodeWrite, DeviceAccess, AccessOutside}
use Rattle.br_machine.specs.State.{register, with_register, bytes_from, with_bytes_from}
use Rattle.br_machine.specs.Arithmetic.{plus}
use Rattle.br_machine.specs.Traps.{trap_of, in_ram, meet, load_trap, store_trap, device_trap}
use Rattle.br_machine.specs.Effects.{effect, computes, moved_on, device_read}
use Rattle.br_machine.specs.Step.{step, obey}
use Rattle.br_machine.specs.Steps.{IsAbove}
use Rattle.br_emit.specs.Code.{Does, statement_items, Targets}
use Rattle.br_emit.proofs.Stepping.{machine, at, put, register-machine, with_register-machine}
use Rattle.br_emit.proofs.Stepping.{reads-put_same, reads-put_other, within_code, step-at, steps_by}
use Rattle.br_emit.proofs.Pieces.{Ground, Placed, Ready, Stands, kept_refl, Shown, On, Out, Simulates, given, runs_one}
use Rattle.br_emit.proofs.Setting.{ready_runs, good_of}
use Rattle.br_emit.proofs.Leaves.{both, Touches, true_false, IsName, first_name}
use Rattle.br_emit.proofs.Leaves.{nonzero, name_value, wrong_at_once, values_set}

-- what a device word is to the machine
record Device (a : ℕ) : Type 0 where
  multiple : (a % 4 == 0) ≡ true
  window : in_device_window a ≡ true
  small : a < 0x10025000

device : (a : ℕ) → is_device_word a ≡ true → Device a
device a h =
    let two = both (a % 4 == 0) (in_device_window a) h in
    record { multiple = two.0; window = two.1; small = below a two.1 }
  where
    one : (a low high top : ℕ) → high ≤ top → (b : Bool) → (nat_le low a && nat_lt a high) ≡ b → IsTrue b → a < top
    one a low high top le b e h =
        let two = both (nat_le low a) (nat_lt a high) (e ∙ h) in
        let l = ltb-true a high two.1 in
        omega arith

    either : (p q : Bool) → IsTrue (p || q) → IsTrue p ⊎ IsTrue q
    either true q h = inl refl
    either false q h = inr h

    below : (a : ℕ) → in_device_window a ≡ true → a < 0x10025000
    below a h =
        elim (either (nat_le 0x10012000 a && nat_lt a 0x10013000 || nat_le 0x10013000 a && nat_lt a 0x10014000)
        (nat_le 0x10024000 a && nat_lt a 0x10025000) h) [
          | inl p ↦ elim (either (nat_le 0x10012000 a && nat_lt a 0x10013000)
              (nat_le 0x10013000 a && nat_lt a 0x10014000) p) [
                | inl q ↦
                    one a 0x10012000 0x10013000 0x10025000 (omega arith)
                    (nat_le 0x10012000 a && nat_lt a 0x10013000) refl q
                | inr q ↦
                    one a 0x10013000 0x10014000 0x10025000 (omega arith)
                    (nat_le 0x10013000 a && nat_lt a 0x10014000) refl q
              ]
          | inr p ↦
              one a 0x10024000 0x10025000 0x10025000 (omega arith) (nat_le 0x10024000 a && nat_lt a 0x10025000) refl p
        ]

outside : (a : ℕ) → a < 0x10025000 → in_ram layout.Two a 4 ≡ false
outside a h = front (nat_le 0x80100000 a) (nat_le (a + 4) 0x80700000) (not_above 0x80100000 a (omega arith))
  where
    not_above : (p q : ℕ) → q < p → nat_le p q ≡ false
    not_above p q h = grind (arith, nat_tests)

    front : (p q : Bool) → p ≡ false → (p && q) ≡ false
    front false q h = refl
    front true q h = absurd (cc)

fine_device : (a : ℕ) → Device a → device_trap a 4 ≡ None
fine_device a d =
    ap (λ t. if t then (if a % 4 == 0 then None else Some DeviceAccess) else Some AccessOutside) d.window
    ∙ ap (λ t. if t then None else Some DeviceAccess) d.multiple

fine_load : (a : ℕ) → Device a → load_trap layout.Two a 4 ≡ None
fine_load a d = ap (λ t. if t then None else device_trap a 4) (outside a d.small) ∙ fine_device a d

fine_store : (words a : ℕ) → Device a → store_trap layout.Two words a 4 ≡ None
fine_store words a d =
    ap (λ t. if t then (if meet a 4 0x80300000 (4 * words) then Some CodeWrite else None) else device_trap a 4)
    (outside a d.small) ∙ fine_device a d

above_device : (low a : ℕ) → a < 0x10025000 → IsAbove low (a, 4)
above_device low a h b from to in_stack = absurd (omega arith)

-- the second of two where a test does not hold
pub choose_second : (t : Bool) (p q : Run) → t ≡ false → choose t p q ≡ q
choose_second true p q h = absurd (cc)
choose_second false p q h = refl

pub choose_first : (t : Bool) (p q : Run) → t ≡ true → choose t p q ≡ p
choose_first true p q h = refl
choose_first false p q h = absurd (cc)

-- ---- reads

read_effect : (g : Ground) (j : ℕ) (registers ram : List ℕ) (x y a : ℕ) (next : Option ℕ)
    → plus (register (machine g.code j registers ram) y) (pos 0) ≡ a → Device a
    → effect (Load Lw x y (pos 0)) (machine g.code j registers ram) next
    ≡ device_read x a (machine g.code j registers ram) next
read_effect g j registers ram x y a next is d =
    let s = machine g.code j registers ram in
    ap (λ q. if in_ram layout.Two q 4 then (computes x (number_of (bytes_from ram (q - 0x80100000) 4)) s, stepped.Ran)
    else device_read x q s next) is
    ∙ ap (λ t. if t then (computes x (number_of (bytes_from ram (a - 0x80100000) 4)) s, stepped.Ran)
    else device_read x a s next) (outside a d.small)

same_address : (a : ℕ) → a < 0x10025000 → plus a (pos 0) ≡ a
same_address a h = omega arith

-- with answers told apart from the state
read_shown : (g : Ground) (forgets : Forgets) (call : Callee) (x y a j b : ℕ) (s : State)
    (registers ram answers : List ℕ)
    → IsName x → Touches g x → IsName y → Placed g.code j (Does (Load Lw x y (pos 0)) ∷ []) → s.locals y ≡ Some a
    → is_device_word a ≡ true
    → Ready g.code registers ram answers j → Stands b g.sp s registers ram
    → Shown g (statement_step forgets call (Stmt-F.Read x y)) (record s { answers = answers })
    (at g.code j registers ram answers s.trace) ram b (j + 1) 1
read_shown g forgets call x y a j b s registers ram [] name touches name' placed e word ready stands =
    let d = device a word in
    let good = good_of g.code registers ram [] j ready in
    let m = machine g.code j registers ram in
    let is : plus (register m y) (pos 0) ≡ a =
    ap (λ q. plus q (pos 0)) (register-machine g.code registers ram j y
    ∙ name_value s b g.sp registers ram y a stands name' e) ∙ same_address a d.small in
    let fine : trap_of (Load Lw x y (pos 0)) m ≡ None = ap (λ q. load_trap layout.Two q 4) is ∙ fine_load a d in
    let waits : step m None ≡ (m, stepped.Waiting a) =
    step-at g.table g.code registers ram j (Load Lw x y (pos 0)) None good placed.0 placed.1
    ∙ ap (λ t. obey (Load Lw x y (pos 0)) t m None) fine ∙ read_effect g j registers ram x y a None is d in
    Out (record {
      choices = [];
      chosen = tt;
      after = record s { answers = [] };
      how = Waiting a;
      ends = λ rest.
          ap (λ o. with_defined o (given (record s { answers = [] }) rest)
          (λ a. read_device (with_local x) a (given (record s { answers = [] }) rest))) e
          ∙ ap (λ t. choose t (Ends (Waiting a) (given (record s { answers = [] }) rest))
          (Ends Undefined (given (record s { answers = [] }) rest))) word;
      registers = registers;
      ram' = ram;
      place = j;
      steps = 0;
      runs = refl;
      bytes = stands.held.bytes;
      kept = kept_refl b s.memory ram;
      paced = record { takes = omega arith; least = omega arith; most = omega arith };
      shown = (refl, ap (λ q. q.1) waits);
    })
read_shown g forgets call x y a j b s registers ram (v ∷ answers) name touches name' placed e word ready stands =
    let d = device a word in
    let good = good_of g.code registers ram (v ∷ answers) j ready in
    let few = good.few in
    let all = good.all in
    let high = name.high in
    let low = name.low in
    let here = within_code g.code j _ placed.0 in
    let m = machine g.code j registers ram in
    let is : plus (register m y) (pos 0) ≡ a =
    ap (λ q. plus q (pos 0)) (register-machine g.code registers ram j y
    ∙ name_value s b g.sp registers ram y a stands name' e) ∙ same_address a d.small in
    let fine : trap_of (Load Lw x y (pos 0)) m ≡ None = ap (λ q. load_trap layout.Two q 4) is ∙ fine_load a d in
    let registers' = put x v registers in
    let trace' = s.trace ++ event.Read a v ∷ [] in
    let pc : (0x80300000 + 4 * j + 4) % 2 ^ 32 ≡ 0x80300000 + 4 * (j + 1) = omega arith in
    let moved : computes x v m ≡ machine g.code (j + 1) registers' ram =
    ap (λ q. with_register x v (record m { pc = q })) pc ∙ with_register-machine g.code registers ram (j + 1) x v in
    let steps = steps_by g.table g.code registers ram (v ∷ answers) s.trace g.low j (Load Lw x y (pos 0)) (at g.code
    (j + 1) registers' ram answers trace') (computes x v m) (stepped.Read a v) good placed.0 placed.1 fine
    (read_effect g j registers ram x y a (Some v) is d)
    (ap (λ q. Some (record { machine = q; answers = answers; trace = trace' })) moved) refl
    (subst (λ q. IsAbove g.low (q, 4)) (sym is) (above_device g.low a d.small)) in
    let runs = runs_one g.low (at g.code j registers ram (v ∷ answers) s.trace)
    (at g.code (j + 1) registers' ram answers trace') steps in
    let after : State = record s { locals = with_local x v s.locals; trace = trace'; answers = answers } in
    On (record {
      choices = [];
      chosen = tt;
      after = after;
      goes = λ rest.
          ap (λ o. with_defined o (given (record s { answers = v ∷ answers }) rest)
          (λ a. read_device (with_local x) a (given (record s { answers = v ∷ answers }) rest))) e
          ∙ ap (λ t. choose t (Goes (given after rest))
          (Ends Undefined (given (record s { answers = v ∷ answers }) rest))) word;
      registers = registers';
      ram' = ram;
      steps = 1;
      runs = runs;
      ready = ready_runs g registers ram (v ∷ answers) registers' ram answers s.trace trace' j (j + 1) 1 ready runs;
      stands = record {
        values = values_set s.locals registers registers' x v stands.values (reads-put_same x v registers
            (nonzero x name) (omega arith)) (λ q ne one. reads-put_other x q v registers ne);
        held = stands.held;
        pointer = reads-put_other x 2 v registers (omega arith) ∙ stands.pointer;
      };
      untouched = λ y low out.
          reads-put_other x y v registers (λ same. absurd (true_false (sym touches ∙ ap g.touched (sym same) ∙ out)));
      kept = kept_refl b s.memory ram;
      paced = record { takes = omega arith; least = omega arith; most = omega arith };
    })

pub read_simulates : (g : Ground) (targets : Targets) (forgets : Forgets) (call : Callee) (x y : ℕ)
    → IsTrue (are_registers (x ∷ [])) → Touches g x → IsTrue (are_registers (y ∷ []))
    → Simulates g (statement_step forgets call (Stmt-F.Read x y)) (statement_items targets (Stmt-F.Read x y)) 0 1
read_simulates g targets forgets call x y named touches named' free j s registers ram room multiple inside deep placed
    ready stands = by (s.locals y) refl
  where
    word : (a : ℕ) → s.locals y ≡ Some a → (t : Bool) → is_device_word a ≡ t
        → Shown g (statement_step forgets call (Stmt-F.Read x y)) s (at g.code j registers ram s.answers s.trace) ram
        (g.sp + free) (j + 1) 1
    word a e false h =
        wrong_at_once g (statement_step forgets call (Stmt-F.Read x y)) s registers ram (g.sp + free) j (j + 1) 1
        (λ rest. ap (λ o. with_defined o (given s rest) (λ a. read_device (with_local x) a (given s rest))) e
        ∙ choose_second (is_device_word a) _ _ h)
    word a e true h = read_shown g forgets call x y a j (g.sp + free) s registers ram s.answers
        (first_name x [] named).0 touches (first_name y [] named').0 placed e h ready stands

    by : (o : Option ℕ) → s.locals y ≡ o
        → Shown g (statement_step forgets call (Stmt-F.Read x y)) s (at g.code j registers ram s.answers s.trace) ram
        (g.sp + free) (j + 1) 1
    by None e =
        wrong_at_once g (statement_step forgets call (Stmt-F.Read x y)) s registers ram (g.sp + free) j (j + 1) 1
        (λ rest. ap (λ o. with_defined o (given s rest) (λ a. read_device (with_local x) a (given s rest))) e)
    by (Some a) e = word a e (is_device_word a) refl

-- ---- writes

pub write_simulates : (g : Ground) (targets : Targets) (forgets : Forgets) (call : Callee) (y z : ℕ)
    → IsTrue (are_registers (y ∷ z ∷ []))
    → Simulates g (statement_step forgets call (Stmt-F.Write y z)) (statement_items targets (Stmt-F.Write y z)) 0 1
write_simulates g targets forgets call y z named free j s registers ram room multiple inside deep placed ready stands =
    by (s.locals y) (s.locals z) refl refl
  where
    goes : (o p : Option ℕ) → s.locals y ≡ o → s.locals z ≡ p → (rest : List Choice)
        → statement_step forgets call (Stmt-F.Write y z) (given s rest)
        ≡ with_defined o (given s rest) (λ a. with_defined p (given s rest) (λ v. write_device a v (given s rest)))
    goes o p e k rest =
        ap (λ o. with_defined o (given s rest)
        (λ a. with_defined (s.locals z) (given s rest) (λ v. write_device a v (given s rest)))) e
        ∙ ap (λ p.
        with_defined o (given s rest) (λ a. with_defined p (given s rest) (λ v. write_device a v (given s rest)))) k

    word : (a v : ℕ) → s.locals y ≡ Some a → s.locals z ≡ Some v → (t : Bool) → is_device_word a ≡ t
        → Shown g (statement_step forgets call (Stmt-F.Write y z)) s (at g.code j registers ram s.answers s.trace) ram
        (g.sp + free) (j + 1) 1
    word a v e k false h =
        wrong_at_once g (statement_step forgets call (Stmt-F.Write y z)) s registers ram (g.sp + free) j (j + 1) 1
        (λ rest. goes (Some a) (Some v) e k rest
        ∙ ap (λ t. choose t (Goes (happens (event.Write a v) (given s rest))) (Ends Undefined (given s rest))) h)
    word a v e k true h =
        let two = first_name y (z ∷ []) named in
        let other = (first_name z [] two.1).0 in
        let b = g.sp + free in
        let d = device a h in
        let good = good_of g.code registers ram s.answers j ready in
        let few = good.few in
        let here = within_code g.code j _ placed.0 in
        let m = machine g.code j registers ram in
        let is : plus (register m y) (pos 0) ≡ a =
        ap (λ q. plus q (pos 0)) (register-machine g.code registers ram j y
        ∙ name_value s b g.sp registers ram y a stands two.0 e) ∙ same_address a d.small in
        let also : register m z ≡ v = register-machine g.code registers ram j z
        ∙ name_value s b g.sp registers ram z v stands other k in
        let fine : trap_of (Store Sw y z (pos 0)) m ≡ None = ap (λ q. store_trap layout.Two (length g.code) q 4) is
        ∙ fine_store (length g.code) a d in
        let trace' = s.trace ++ event.Write a v ∷ [] in
        let does : effect (Store Sw y z (pos 0)) m (slice_get s.answers 0) ≡ (moved_on m, stepped.Wrote a v) =
        ap (λ q. if in_ram layout.Two q 4 then (
          record (moved_on m) {
            ram = with_bytes_from ram (q - 0x80100000)
                (low_bytes 4 (register m z));
          },
          stepped.Ran,
        ) else (moved_on m, stepped.Wrote q (register m z))) is
        ∙ ap (λ t. if t
        then (
          record (moved_on m) { ram = with_bytes_from ram (a - 0x80100000) (low_bytes 4 (register m z)) },
          stepped.Ran,
        ) else (moved_on m, stepped.Wrote a (register m z))) (outside a d.small)
        ∙ ap (λ w. (moved_on m, stepped.Wrote a w)) also in
        let pc : (0x80300000 + 4 * j + 4) % 2 ^ 32 ≡ 0x80300000 + 4 * (j + 1) = omega arith in
        let steps = steps_by g.table g.code registers ram s.answers s.trace g.low j (Store Sw y z (pos 0)) (at g.code
        (j + 1) registers ram s.answers trace') (moved_on m) (stepped.Wrote a v) good placed.0 placed.1 fine does
        (ap (λ q. Some (record { machine = record m { pc = q }; answers = s.answers; trace = trace' })) pc) refl
        (subst (λ q. IsAbove g.low (q, 4)) (sym is) (above_device g.low a d.small)) in
        let runs = runs_one g.low (at g.code j registers ram s.answers s.trace)
        (at g.code (j + 1) registers ram s.answers trace') steps in
        On (record {
          choices = [];
          chosen = tt;
          after = happens (event.Write a v) s;
          goes = λ rest. goes (Some a) (Some v) e k rest
              ∙ ap (λ t. choose t (Goes (happens (event.Write a v) (given s rest))) (Ends Undefined (given s rest))) h;
          registers = registers;
          ram' = ram;
          steps = 1;
          runs = runs;
          ready = ready_runs g registers ram s.answers registers ram s.answers s.trace trace' j (j + 1) 1 ready runs;
          stands = record { values = stands.values; held = stands.held; pointer = stands.pointer };
          untouched = λ y low out. refl;
          kept = kept_refl b s.memory ram;
          paced = record { takes = omega arith; least = omega arith; most = omega arith };
        })

    by : (o p : Option ℕ) → s.locals y ≡ o → s.locals z ≡ p
        → Shown g (statement_step forgets call (Stmt-F.Write y z)) s (at g.code j registers ram s.answers s.trace) ram
        (g.sp + free) (j + 1) 1
    by None p e k = wrong_at_once g (statement_step forgets call (Stmt-F.Write y z)) s registers ram (g.sp + free) j
        (j + 1) 1 (goes None p e k)
    by (Some a) None e k = wrong_at_once g (statement_step forgets call (Stmt-F.Write y z)) s registers ram
        (g.sp + free) j (j + 1) 1 (goes (Some a) None e k)
    by (Some a) (Some v) e k = word a v e k (is_device_word a) refl
