-- Buffers, in code: the choice that a run takes is the place and the bytes that the machine has there.
use Rattle.std.proofs.Common.{◌≢◌, ◌≡◌, ◌⊎◌, inl, inr, ℕ, zero, suc, ◌+◌, ◌-◌, ◌%◌, ◌^◌, ◌<◌, ◌≤◌, ◌==◌}
use Rattle.std.proofs.Common.{nat_lt, nat_le, if◌then◌else◌, List, [], ◌∷◌, ◌++◌, length, Option, Some, None}
use Rattle.std.proofs.Common.{Bool, true, false, IsTrue, refl, sym, ap, subst, ◌∙◌, arith, pos, length-append}
use Rattle.std.specs.Prelude.{slice_index}
use Rattle.std.specs.List.{AllByRecursion}
use Rattle.std.specs.FinMap as map
use Rattle.std.proofs.lemmas.Bool.{ltb-true}
use Rattle.std.proofs.lemmas.Bool.Decides.{nat_tests}
use Rattle.br_bytes.specs.declared.run.Event.{Event}
use Rattle.br_bytes.specs.declared.run.Choice.{Choice}
use Rattle.br_bytes.specs.Memory.{Memory, with_bytes}
use Rattle.br_bytes.specs.Buffers.{AreBytes, is_good, are_free, without_range}
use Rattle.br_bytes.specs.Runs.{NoChoice, Goes, Ends, then_do, choose, with_buffer}
use Rattle.br_flatimp.specs.Values.{with_local}
use Rattle.br_flatimp.specs.WellFormed.{are_registers}
use Rattle.br_flatimp.specs.Runs.{State, Run}
use Rattle.br_rv32im.specs.declared.instruction.Ins.TheVariants.{Imm, Reg}
use Rattle.br_rv32im.specs.declared.instruction.ImmOp.TheVariants.{Addi}
use Rattle.br_rv32im.specs.declared.instruction.RegOp.TheVariants.{Add}
use Rattle.br_machine.specs.State.{bytes_from}
use Rattle.br_machine.specs.Steps.{Runs}
use Rattle.br_emit.specs.Code.{Item, Does, constant_items, place_items}
use Rattle.br_emit.proofs.Stepping.{at, Good, reads}
use Rattle.br_emit.proofs.Held.{Held, Where, Outside, Inside, where_is, length-bytes_from, index-bytes_from}
use Rattle.br_emit.proofs.Held.{get-with_bytes_other, get-written, get-without_in, get-without_out}
use Rattle.br_emit.proofs.Pieces.{Ground, Placed, placed-front, placed-back, runs-append}
use Rattle.br_emit.proofs.Pieces.{Stands, Apart, Kept, Shown, On, Out, Wrong, Simulates, given}
use Rattle.br_emit.proofs.Setting.{Sets, sets_again, imm_sets, reg_sets, ready_runs, good_of}
use Rattle.br_emit.proofs.Operations.{SetsWithin, constant_sets}
use Rattle.br_emit.proofs.Leaves.{IsName, Touches, true_false, first_name, nonzero, values_set}

-- ---- the address of a buffer

place_sets : (g : Ground) (j : ℕ) (registers ram answers : List ℕ) (trace : List Event) (x distance : ℕ)
    → Good g.code registers ram → Placed g.code j (place_items x distance) → IsName x → reads registers 2 ≡ g.sp
    → g.sp + distance ≤ 0x80300000
    → SetsWithin g j (length (place_items x distance)) registers ram answers trace x (g.sp + distance) 3
place_sets g j registers ram answers trace x distance good placed name pointer inside =
    by (nat_lt distance 2048) refl placed
  where
    by : (b : Bool) → nat_lt distance 2048 ≡ b → Placed g.code j (if b then Does (Imm Addi x 2 (pos distance)) ∷ []
        else constant_items x distance ++ Does (Reg Add x x 2) ∷ [])
        → SetsWithin g j (length (if b then Does (Imm Addi x 2 (pos distance)) ∷ [] else constant_items x distance
        ++ Does (Reg Add x x 2) ∷ [])) registers ram answers trace x (g.sp + distance) 3
    by true e p =
        let l = ltb-true distance 2048 e in
        let value : (g.sp + distance % 2 ^ 32) % 2 ^ 32 ≡ g.sp + distance = omega arith in
        record {
          steps = 1;
          few = omega arith;
          sets = subst (λ v. Sets g j 1 registers ram answers trace x v 1) value (imm_sets g j registers ram answers
              trace Addi x 2 g.sp (pos distance) good p.0 p.1 (nonzero x name) pointer);
        }
    by false e p =
        let low = name.low in
        let k = length (constant_items x distance) in
        let first = constant_sets g j registers ram answers trace x distance good
        (placed-front g.code j (constant_items x distance) (Does (Reg Add x x 2) ∷ []) p) (nonzero x name) in
        let last = placed-back g.code j (constant_items x distance) (Does (Reg Add x x 2) ∷ []) p in
        let sets = first.sets in
        let pointer' : reads sets.registers' 2 ≡ g.sp = sets.others 2 (omega arith) ∙ pointer in
        let second = reg_sets g (j + k) sets.registers' ram answers trace Add x x 2 distance g.sp sets.good last.0
        last.1 (nonzero x name) sets.value pointer' in
        let few = first.few in
        let value : (distance + g.sp) % 2 ^ 32 ≡ g.sp + distance = omega arith in
        let all = sets_again g j k 1 registers ram answers trace x distance ((distance + g.sp) % 2 ^ 32) first.steps 1
        sets second in
        let size : k + 1 ≡ length (constant_items x distance ++ Does (Reg Add x x 2) ∷ []) =
        omega (arith, length-append (constant_items x distance) (Does (Reg Add x x 2) ∷ [])) in
        record {
          steps = first.steps + 1;
          few = omega arith;
          sets = subst (λ v. Sets g j (length (constant_items x distance ++ Does (Reg Add x x 2) ∷ []))
              registers ram answers trace x v (first.steps + 1)) value (subst
              (λ q. Sets g j q registers ram answers trace x ((distance + g.sp) % 2 ^ 32) (first.steps + 1)) size all);
        }

-- ---- the choice

-- bytes of RAM are bytes
are_bytes : (ram : List ℕ) (p n : ℕ) → AllByRecursion (λ b. b < 256) ram → AreBytes (bytes_from ram p n)
are_bytes ram p zero h = tt
are_bytes ram p (suc n) h = (one ram p h, are_bytes ram (p + 1) n h)
  where
    one : (xs : List ℕ) (i : ℕ) → AllByRecursion (λ b. b < 256) xs → slice_index xs i < 256
    one [] i h = omega arith
    one (x ∷ xs) zero h = h.0
    one (x ∷ xs) (suc i) h = one xs i h.1

-- below the buffers the memory has nothing
none_below : (b q : ℕ) (m : Memory) (ram : List ℕ) → Held b m ram → 0x80200000 ≤ q → q < b → map.get m q ≡ None
none_below b q m ram held low high = by (map.get m q) refl
  where
    by : (o : Option ℕ) → map.get m q ≡ o → o ≡ None
    by None e = refl
    by (Some v) e = let far = held.apart q v e low in absurd (omega arith)

free_from_none : (bs : List ℕ) (m : Memory) (a : ℕ) → ((q : ℕ) → a ≤ q → q < a + length bs → map.get m q ≡ None)
    → are_free m a bs ≡ true
free_from_none [] m a h = refl
free_from_none (b ∷ bs) m a h =
    let first = h a (omega arith) (omega arith) in
    let rest = free_from_none bs m (a + 1) (λ q low high. h q (omega arith) (omega arith)) in
    rw (first, rest) refl

good_choice : (n a : ℕ) (m : Memory) (bytes : List ℕ) → a % 4 ≡ 0 → length bytes ≡ n → 0x80200000 ≤ a
    → a + n ≤ 0x80300000 → are_free m a bytes ≡ true
    → is_good n m (record { addr = a; bytes = bytes }) ≡ true
good_choice n a m bytes multiple size low high free =
    let t1 : (a % 4 == 0) ≡ true = same (a % 4) 0 multiple in
    let t2 : (length bytes == n) ≡ true = same (length bytes) n size in
    let t3 : nat_le 0x80200000 a ≡ true = below 0x80200000 a low in
    let t4 : nat_le (a + n) 0x80300000 ≡ true = below (a + n) 0x80300000 high in
    rw (t1, t2, t3, t4, free) refl
  where
    same : (p q : ℕ) → p ≡ q → (p == q) ≡ true
    same p q h = grind (arith, nat_tests)

    below : (p q : ℕ) → p ≤ q → nat_le p q ≡ true
    below p q h = grind (arith, nat_tests)

-- the memory with the bytes that stand there
buffer_held : (b a n : ℕ) (m : Memory) (ram : List ℕ) → Held b m ram → 0x80200000 ≤ a → a + n ≡ b → b ≤ 0x80300000
    → Held a (with_bytes m a (bytes_from ram (a - 0x80100000) n)) ram
buffer_held b a n m ram held low end high = record {
  bytes = λ q v is. bytes q v is (where_is q a n);
  from = λ q v is. from q v is (where_is q a n);
  to = λ q v is. to q v is (where_is q a n);
  apart = λ q v is in_stack. away q v is in_stack (where_is q a n);
}
  where
    size : length (bytes_from ram (a - 0x80100000) n) ≡ n
    size = length-bytes_from ram n (a - 0x80100000)

    out : (q v : ℕ) → map.get (with_bytes m a (bytes_from ram (a - 0x80100000) n)) q ≡ Some v → (q < a) ⊎ (a + n ≤ q)
        → map.get m q ≡ Some v
    out q v is h = sym (get-with_bytes_other (bytes_from ram (a - 0x80100000) n) m a q (omega (arith, size))
        (subst (λ k. (q < a) ⊎ (a + k ≤ q)) (sym size) h)) ∙ is

    bytes : (q v : ℕ) → map.get (with_bytes m a (bytes_from ram (a - 0x80100000) n)) q ≡ Some v → Where q a n
        → slice_index ram (q - 0x80100000) ≡ v
    bytes q v is (Outside h) = held.bytes q v (out q v is h)
    bytes q v is (Inside i l same) =
        let here : q - 0x80100000 ≡ a - 0x80100000 + i = omega arith in
        let written = get-written (bytes_from ram (a - 0x80100000) n) m a i (omega (arith, size))
        (omega (arith, size)) in
        let value : slice_index (bytes_from ram (a - 0x80100000) n) i ≡ v =
        some_is (sym written ∙ ap (map.get (with_bytes m a (bytes_from ram (a - 0x80100000) n))) (sym same) ∙ is) in
        ap (slice_index ram) here ∙ sym (index-bytes_from ram n (a - 0x80100000) i l) ∙ value
      where
        some_is : {p r : ℕ} → Some p ≡ Some r → p ≡ r
        some_is e = cc

    from : (q v : ℕ) → map.get (with_bytes m a (bytes_from ram (a - 0x80100000) n)) q ≡ Some v → Where q a n
        → 0x80100000 ≤ q
    from q v is (Outside h) = held.from q v (out q v is h)
    from q v is (Inside i l same) = omega arith

    to : (q v : ℕ) → map.get (with_bytes m a (bytes_from ram (a - 0x80100000) n)) q ≡ Some v → Where q a n
        → q < 0x80300000
    to q v is (Outside h) = held.to q v (out q v is h)
    to q v is (Inside i l same) = omega arith

    away : (q v : ℕ) → map.get (with_bytes m a (bytes_from ram (a - 0x80100000) n)) q ≡ Some v → 0x80200000 ≤ q
        → Where q a n → a ≤ q
    away q v is in_stack (Outside h) = let far = held.apart q v (out q v is h) in_stack in omega arith
    away q v is in_stack (Inside i l same) = omega arith

-- the memory after the buffer is gone
gone_held : (b a n : ℕ) (m : Memory) (ram : List ℕ) → Held a m ram → 0x80200000 ≤ a → a + n ≡ b
    → Held b (without_range m a n) ram
gone_held b a n m ram held low end = record {
  bytes = λ q v is. held.bytes q v (was q v is (where_is q a n)).0;
  from = λ q v is. held.from q v (was q v is (where_is q a n)).0;
  to = λ q v is. held.to q v (was q v is (where_is q a n)).0;
  apart = λ q v is in_stack. beyond q v (was q v is (where_is q a n)) in_stack;
}
  where
    was : (q v : ℕ) → map.get (without_range m a n) q ≡ Some v → Where q a n
        → (map.get m q ≡ Some v) × ((q < a) ⊎ (a + n ≤ q))
    was q v is (Outside h) = (sym (get-without_out m a n q h) ∙ is, h)
    was q v is (Inside i l same) = absurd (clash (sym (get-without_in m a n q (omega arith) (omega arith)) ∙ is))
      where
        clash : None ≡ Some v → ⊥
        clash e = absurd (cc)

    beyond : (q v : ℕ) → (map.get m q ≡ Some v) × ((q < a) ⊎ (a + n ≤ q)) → 0x80200000 ≤ q → b ≤ q
    beyond q v (e, inl h) in_stack = let far = held.apart q v e in_stack in absurd (omega arith)
    beyond q v (e, inr h) in_stack = omega arith

-- ---- buffers

-- an address apart from the buffers is apart from one buffer more
further : (b a n q : ℕ) → a + n ≡ b → 0x80200000 ≤ a → Apart b q → Apart a q × ((q < a) ⊎ (a + n ≤ q))
further b a n q end low (from, to, inl h) = ((from, to, inl h), inl (omega arith))
further b a n q end low (from, to, inr h) = ((from, to, inr (omega arith)), inr (omega arith))

pub buffer_simulates : (g : Ground) (x n : ℕ) (body : State → Run) (is : ℕ → List Item) (nest bulk : ℕ)
    → IsTrue (are_registers (x ∷ [])) → Touches g x → n % 4 ≡ 0 → Simulates g body is nest bulk
    → Simulates g (with_buffer (with_local x) n body) (λ free. place_items x (free - n) ++ is (free - n))
    (n + nest) (3 + bulk)
buffer_simulates g x n body is nest bulk named touches fours sim free j s registers ram room multiple inside deep placed
    ready stands =
    let a = g.sp + (free - n) in
    let b = g.sp + free in
    let bottom = g.bottom in
    let under = g.under in
    let aligned = g.aligned in
    let end_is : a + n ≡ b = omega arith in
    let low : 0x80200000 ≤ a = omega arith in
    let name = (first_name x [] named).0 in
    let place = place_items x (free - n) in
    let k = length place in
    let good = good_of g.code registers ram s.answers j ready in
    let p1 = placed-front g.code j place (is (free - n)) placed in
    let p2 = placed-back g.code j place (is (free - n)) placed in
    let within = place_sets g j registers ram s.answers s.trace x (free - n) good p1 name stands.pointer
    (omega arith) in
    let sets = within.sets in
    let low' = name.low in
    let bytes = bytes_from ram (a - 0x80100000) n in
    let size = length-bytes_from ram n (a - 0x80100000) in
    let c : Choice = record { addr = a; bytes = bytes } in
    let s1 : State = record s { locals = with_local x a s.locals; memory = with_bytes s.memory a bytes } in
    let ready1 = ready_runs g registers ram s.answers sets.registers' ram s.answers s.trace s.trace j (j + k)
    within.steps ready sets.runs in
    let stands1 : Stands a g.sp s1 sets.registers' ram = record {
      values =
          values_set s.locals registers sets.registers' x a stands.values sets.value (λ y ne one. sets.others y ne);
      held = buffer_held b a n s.memory ram stands.held low end_is (omega arith);
      pointer = sets.others 2 (omega arith) ∙ stands.pointer;
    } in
    let fine : is_good n s.memory c ≡ true =
    good_choice n a s.memory bytes (omega arith) size low (omega arith)
    (free_from_none bytes s.memory a
    (λ q from to. none_below b q s.memory ram stands.held (omega arith) (omega (arith, size)))) in
    let machine = ready.is in
    let chosen_bytes = are_bytes ram (a - 0x80100000) n machine.bytes in
    let run = sim (free - n) (j + k) s1 sets.registers' ram (omega arith) (omega arith) (omega arith) deep p2
    ready1 stands1 in
    let size2 : j + k + length (is (free - n)) ≡ j + length (place ++ is (free - n)) =
    omega (arith, length-append place (is (free - n))) in
    subst (λ q. Shown g (with_buffer (with_local x) n body) s (at g.code j registers ram s.answers s.trace) ram b q
    (3 + bulk)) size2
    (after_place
    a low end_is chosen_bytes fine sets.registers' within.steps (j + k) (j + k + length (is (free - n))) within.few
    (λ y low out. sets.others y (λ same. absurd (true_false (sym touches ∙ ap g.touched (sym same) ∙ out))))
    sets.runs run)
  where
    kept : (a : ℕ) → 0x80200000 ≤ a → a + n ≡ g.sp + free → (m' : Memory) (ram' bs : List ℕ) → length bs ≡ n
        → Kept a (with_bytes s.memory a bs) m' ram ram' → Kept (g.sp + free) s.memory m' ram ram'
    kept a low end m' ram' bs size k = record {
      domain =
          λ q apart none. (let f = further (g.sp + free) a n q end low apart in sym (get-with_bytes_other bs s.memory a
          q (omega (arith, size)) (subst (λ i. (q < a) ⊎ (a + i ≤ q)) (sym size) f.1)) ∙ k.domain q f.0 none);
      fresh = λ q apart none. (let f = further (g.sp + free) a n q end low apart in k.fresh q f.0 (get-with_bytes_other
          bs s.memory a q (omega (arith, size)) (subst (λ i. (q < a) ⊎ (a + i ≤ q)) (sym size) f.1) ∙ none));
      stays = λ q apart none. (let f = further (g.sp + free) a n q end low apart in k.stays q f.0 none);
    }

    gone : (a : ℕ) → 0x80200000 ≤ a → a + n ≡ g.sp + free → (m m' : Memory) (ram' : List ℕ)
        → Kept (g.sp + free) m m' ram ram' → Kept (g.sp + free) m (without_range m' a n) ram ram'
    gone a low end m m' ram' k = record {
      domain = λ q apart none. (let f = further (g.sp + free) a n q end low apart in
          k.domain q apart (sym (get-without_out m' a n q f.1) ∙ none));
      fresh = λ q apart none.
          (let f = further (g.sp + free) a n q end low apart in get-without_out m' a n q f.1 ∙ k.fresh q apart none);
      stays = λ q apart none. (let f = further (g.sp + free) a n q end low apart in
          k.stays q apart (sym (get-without_out m' a n q f.1) ∙ none));
    }

    after_place : (a : ℕ) → 0x80200000 ≤ a → a + n ≡ g.sp + free → AreBytes (bytes_from ram (a - 0x80100000) n)
        → is_good n s.memory (record { addr = a; bytes = bytes_from ram (a - 0x80100000) n }) ≡ true
        → (registers' : List ℕ) (steps k end : ℕ) → steps ≤ 3
        → ((y : ℕ) → y ≢ 2 → g.touched y ≡ false → reads registers' y ≡ reads registers y) → Runs g.low steps (at
        g.code j registers ram s.answers s.trace) (at g.code k registers' ram s.answers s.trace)
        → Shown g body (record s {
          locals = with_local x a s.locals;
          memory = with_bytes s.memory a (bytes_from ram (a - 0x80100000) n);
        })
        (at g.code k registers' ram s.answers s.trace) ram a end bulk
        → Shown g (with_buffer (with_local x) n body) s (at g.code j registers ram s.answers s.trace) ram (g.sp + free)
        end (3 + bulk)
    after_place a low top chosen fine registers' steps k end few same runs (On w) =
        let bs = bytes_from ram (a - 0x80100000) n in
        let size = length-bytes_from ram n (a - 0x80100000) in
        let d : Choice = record { addr = a; bytes = bs } in
        let a1 = w.paced.takes in let a2 = w.paced.least in let a3 = w.paced.most in
        let leave : State → Run = λ t. Goes (record t { memory = without_range t.memory a n }) in
        On (record {
          choices = d ∷ w.choices;
          chosen = ((omega arith, chosen), w.chosen);
          after = record w.after { memory = without_range w.after.memory a n };
          goes = λ rest.
              ap (λ t. choose t (then_do
              (body (given (record s { locals = with_local x a s.locals; memory = with_bytes s.memory a bs })
              (w.choices ++ rest))) leave) (Ends NoChoice (given s (d ∷ (w.choices ++ rest))))) fine
              ∙ ap (λ r. then_do r leave) (w.goes rest);
          registers = w.registers;
          ram' = w.ram';
          steps = steps + w.steps;
          runs = runs-append g.low steps w.steps (at g.code j registers ram s.answers s.trace)
              (at g.code k registers' ram s.answers s.trace) _ runs w.runs;
          ready = w.ready;
          stands = record {
            values = w.stands.values;
            held =
                gone_held (g.sp + free) a n w.after.memory w.ram' w.stands.held low top;
            pointer = w.stands.pointer;
          };
          untouched = λ y low out. w.untouched y low out ∙ same y low out;
          kept = gone a low top s.memory w.after.memory w.ram' (kept a low top w.after.memory w.ram' bs size w.kept);
          paced = record { takes = a1; least = omega arith; most = omega arith };
        })
    after_place a low top chosen fine registers' steps k end few same runs (Out w) =
        let bs = bytes_from ram (a - 0x80100000) n in
        let size = length-bytes_from ram n (a - 0x80100000) in
        let d : Choice = record { addr = a; bytes = bs } in
        let a1 = w.paced.takes in let a2 = w.paced.least in let a3 = w.paced.most in
        let leave : State → Run = λ t. Goes (record t { memory = without_range t.memory a n }) in
        Out (record {
          choices = d ∷ w.choices;
          chosen = ((omega arith, chosen), w.chosen);
          after = w.after;
          how = w.how;
          ends = λ rest.
              ap (λ t. choose t (then_do
              (body (given (record s { locals = with_local x a s.locals; memory = with_bytes s.memory a bs })
              (w.choices ++ rest))) leave) (Ends NoChoice (given s (d ∷ (w.choices ++ rest))))) fine
              ∙ ap (λ r. then_do r leave) (w.ends rest);
          registers = w.registers;
          ram' = w.ram';
          place = w.place;
          steps = steps + w.steps;
          runs = runs-append g.low steps w.steps (at g.code j registers ram s.answers s.trace)
              (at g.code k registers' ram s.answers s.trace) _ runs w.runs;
          bytes = w.bytes;
          kept = kept a low top w.after.memory w.ram' bs size w.kept;
          paced = record { takes = a1; least = omega arith; most = omega arith };
          shown = w.shown;
        })
    after_place a low top chosen fine registers' steps k end few same runs (Wrong w) =
        let bs = bytes_from ram (a - 0x80100000) n in
        let d : Choice = record { addr = a; bytes = bs } in
        let leave : State → Run = λ t. Goes (record t { memory = without_range t.memory a n }) in
        Wrong (record {
          choices = d ∷ w.choices;
          chosen = ((omega arith, chosen), w.chosen);
          after = w.after;
          ends = λ rest.
              ap (λ t. choose t (then_do
              (body (given (record s { locals = with_local x a s.locals; memory = with_bytes s.memory a bs })
              (w.choices ++ rest))) leave) (Ends NoChoice (given s (d ∷ (w.choices ++ rest))))) fine
              ∙ ap (λ r. then_do r leave) (w.ends rest);
        })
