-- A call, in code, given the calls in the function that is called.
use Rattle.std.proofs.Common.{◌≡◌, ◌≢◌, ◌⊎◌, inl, inr, ℕ, zero, suc, ◌+◌, ◌-◌, ◌*◌, ◌%◌, ◌^◌, ◌<◌}
use Rattle.std.proofs.Common.{◌≤◌, ◌&&◌, ◌||◌, ◌==◌, not, nat_le, nat_lt, if◌then◌else◌, List, []}
use Rattle.std.proofs.Common.{◌∷◌, ◌++◌, map, length, sum, Option, Some, None, Bool, true, false}
use Rattle.std.proofs.Common.{IsTrue, negsuc, refl, sym, ap, subst, ◌∙◌, arith, append_assoc}
use Rattle.std.specs.Prelude.{slice_get, slice_index}
use Rattle.std.specs.List.{AllByRecursion, list_all}
use Rattle.std.specs.FinMap as map
use Rattle.std.proofs.lemmas.Bool.Decides.{nat_tests}
use Rattle.br_bytes.specs.declared.run.Choice.{Choice}
use Rattle.br_bytes.specs.Memory.{Memory}
use Rattle.br_bytes.specs.Runs.{Undefined, Goes, Ends, with_defined, with_fuel, in_turn, back_in, returned}
use Rattle.br_flatimp.specs.declared.program.Stmt.TheOpen.{Stmt-F}
use Rattle.br_flatimp.specs.declared.program.FlatFunc.{FlatFunc}
use Rattle.br_flatimp.specs.Values.{Locals, no_locals, with_locals, without_names, words_of}
use Rattle.br_flatimp.specs.Parts.{throughout}
use Rattle.br_flatimp.specs.Liveness.{is_in}
use Rattle.br_flatimp.specs.WellFormed.{is_passing}
use Rattle.br_flatimp.specs.Sizes.{statement_bulk, nest}
use Rattle.br_flatimp.specs.Runs as flat
use Rattle.br_flatimp.specs.Runs.{State, Run, Forgets, Callee, statement_step, enter, function_of}
use Rattle.br_rv32im.specs.declared.instruction.Ins.TheVariants.{Imm}
use Rattle.br_rv32im.specs.declared.instruction.ImmOp.TheVariants.{Addi}
use Rattle.br_emit.specs.Code.{Does, Targets, call_items, all_items, registers, changes}
use Rattle.br_emit.specs.Code.{is_saved, saves, keeps_link, links, touches, framed, framed_bytes}
use Rattle.br_emit.specs.Code.{save_items, restore_items, move_items, exit_items, callable_items}
use Rattle.br_emit.proofs.Stepping.{at, reads, within_code}
use Rattle.br_emit.proofs.Held.{Held}
use Rattle.br_emit.proofs.Pieces.{Ground, Placed, placed-front, placed-back, runs-append, Ready}
use Rattle.br_emit.proofs.Pieces.{Stands, Apart, Kept, Paced, Shown, On, Out, Wrong, given}
use Rattle.br_emit.proofs.Setting.{ready_runs, good_of}
use Rattle.br_emit.proofs.Frames.{word_at, word_same, Stored, IsKept, Rises, NoneOf}
use Rattle.br_emit.proofs.Passing.{Standing, words_stand, of_length, in_order}
use Rattle.br_emit.proofs.Passing.{where_from, filter_rises, none_left, kept_word}
use Rattle.br_emit.proofs.Statements.{all_simulate}
use Rattle.br_emit.proofs.Calls.{World, ground, CallsAt, Leaps, leaps, Opened}
use Rattle.br_emit.proofs.Calls.{opens, Returns, FromFrame, FromLink, closes}

-- ---- memory around a call

-- RAM that differs only below a place of the stack still holds a memory above it
held_below : (b a : ℕ) (m : Memory) (ram ram' : List ℕ) → Held b m ram → a ≤ b → 0x80200000 ≤ a
    → ((q : ℕ) → 0x80100000 ≤ q → (q < a) ⊎ (b ≤ q)
    → slice_index ram' (q - 0x80100000) ≡ slice_index ram (q - 0x80100000)) → Held a m ram'
held_below b a m ram ram' held le low same = record {
  bytes = λ q v is. same q (held.from q v is) (by q v is (nat_le 0x80200000 q) refl) ∙ held.bytes q v is;
  from = held.from;
  to = held.to;
  apart = λ q v is in_stack. (let far = held.apart q v is in_stack in omega arith);
}
  where
    by : (q v : ℕ) → map.get m q ≡ Some v → (t : Bool) → nat_le 0x80200000 q ≡ t → (q < a) ⊎ (b ≤ q)
    by q v is true e = let in_stack : 0x80200000 ≤ q = grind (arith, nat_tests) in inr (held.apart q v is in_stack)
    by q v is false e = let below : q < 0x80200000 = grind (arith, nat_tests) in inl (omega arith)

-- what the memory has not between two places it has not afterwards
pub held_above : (b a : ℕ) (m m' : Memory) (ram ram0 ram' : List ℕ) → Held b m ram → Held a m' ram' → a ≤ b
    → 0x80200000 ≤ a → b ≤ 0x80300000 → Kept a m m' ram0 ram' → Held b m' ram'
held_above b a m m' ram ram0 ram' held held' le low high kept = record {
  bytes = held'.bytes;
  from = held'.from;
  to = held'.to;
  apart = λ q v is in_stack. by q v is in_stack (nat_le b q) refl;
}
  where
    none : (q : ℕ) → 0x80200000 ≤ q → q < b → (o : Option ℕ) → map.get m q ≡ o → o ≡ None
    none q in_stack less None e = refl
    none q in_stack less (Some v) e = let far = held.apart q v e in_stack in absurd (omega arith)

    by : (q v : ℕ) → map.get m' q ≡ Some v → 0x80200000 ≤ q → (t : Bool) → nat_le b q ≡ t → b ≤ q
    by q v is in_stack true e = grind (arith, nat_tests)
    by q v is in_stack false e =
        let below : q < b = grind (arith, nat_tests) in
        let far = held'.apart q v is in_stack in
        let fresh = kept.fresh q (omega arith, omega arith, inr far) (none q in_stack below (map.get m q) refl) in
        absurd (clash (sym is ∙ fresh))
      where
        clash : {v : ℕ} → Some v ≡ None → ⊥
        clash e = absurd (cc)

-- what is kept with a lower bound is kept with a higher one, from a RAM that is the same there
kept_above : (b a : ℕ) (m m' : Memory) (ram ram0 ram' : List ℕ) → a ≤ b → Kept a m m' ram0 ram'
    → ((q : ℕ) → 0x80100000 ≤ q → (q < 0x80200000) ⊎ (b ≤ q)
    → slice_index ram0 (q - 0x80100000) ≡ slice_index ram (q - 0x80100000)) → Kept b m m' ram ram'
kept_above b a m m' ram ram0 ram' le kept same = record {
  domain = λ q apart none. kept.domain q (lower q apart) none;
  fresh = λ q apart none. kept.fresh q (lower q apart) none;
  stays = λ q apart none. kept.stays q (lower q apart) none ∙ same q apart.0 apart.2;
}
  where
    lower : (q : ℕ) → Apart b q → Apart a q
    lower q (from, to, inl h) = (from, to, inl h)
    lower q (from, to, inr h) = (from, to, inr (omega arith))

-- words of the stack that the memory has not stay
stored_stays : (a : ℕ) (rs registers ram0 ram' : List ℕ) → 0x80100000 ≤ a
    → ((q : ℕ) → a ≤ q → q < a + 4 * length rs → slice_index ram' (q - 0x80100000) ≡ slice_index ram0 (q - 0x80100000))
    → Stored registers ram0 a rs → Stored registers ram' a rs
stored_stays a [] registers ram0 ram' low same h = tt
stored_stays a (r ∷ rs) registers ram0 ram' low same h = (
  word_same ram0 ram' a low (λ q from to. same q from (omega arith)) ∙ h.0,
  stored_stays (a + 4) rs registers ram0 ram' (omega arith) (λ q from to. same q (omega arith) (omega arith)) h.1,
)

-- ---- a call

-- past the last register nothing is read
reads_beyond : (registers : List ℕ) (y : ℕ) → length registers ≡ 32 → 32 ≤ y → reads registers y ≡ 0
reads_beyond registers zero all far = refl
reads_beyond registers (suc y) all far = beyond registers (suc y) (omega arith)
  where
    beyond : (xs : List ℕ) (i : ℕ) → length xs ≤ i → slice_index xs i ≡ 0
    beyond [] i h = refl
    beyond (x ∷ xs) zero h = absurd (omega arith)
    beyond (x ∷ xs) (suc i) h = beyond xs i (omega arith)

-- registers that agree up to the last agree
same_anywhere : (registers registers4 : List ℕ) (y : ℕ) → length registers ≡ 32 → length registers4 ≡ 32
    → (y ≤ 31 → reads registers4 y ≡ reads registers y) → reads registers4 y ≡ reads registers y
same_anywhere registers registers4 y all all4 same = by (nat_le y 31) refl
  where
    by : (t : Bool) → nat_le y 31 ≡ t → reads registers4 y ≡ reads registers y
    by true e = same (grind (arith, nat_tests))
    by false e =
        let far : 32 ≤ y = grind (arith, nat_tests) in
        reads_beyond registers4 y all4 far ∙ sym (reads_beyond registers y all far)

-- a call stands in the code
call_within : (code : List ℕ) (near : Bool) (target j : ℕ) → Placed code j (call_items near target) → j < length code
call_within code true target j placed = within_code code j _ placed.0
call_within code false target j placed = within_code code j _ placed.0

call_short : (near : Bool) (target : ℕ) → length (call_items near target) ≤ 2
call_short true target = omega arith
call_short false target = omega arith

callable_within : (code : List ℕ) (targets : Targets) (forgets : Forgets) (n : ℕ) (f : FlatFunc) (place : ℕ)
    → Placed code place (callable_items targets forgets n f) → place < length code
callable_within code targets forgets n f place placed =
    let rs = framed targets.near forgets n f in
    let bytes = framed_bytes targets.near forgets n f in
    let tail = move_items bytes ++ exit_items in
    let a = move_items ((2 ^ 32 - bytes) % 2 ^ 32) in
    let b = save_items 0 rs in
    let c = move_items ((2 ^ 32 - nest f) % 2 ^ 32) in
    let d = all_items targets f.body (nest f) in
    let e = move_items (nest f) in
    let r = restore_items 0 rs in
    let q1 = placed-back code place a (b ++ (c ++ (d ++ (e ++ (r ++ tail))))) placed in
    let q2 = placed-back code (place + length a) b (c ++ (d ++ (e ++ (r ++ tail)))) q1 in
    let q3 = placed-back code (place + length a + length b) c (d ++ (e ++ (r ++ tail))) q2 in
    let q4 = placed-back code (place + length a + length b + length c) d (e ++ (r ++ tail)) q3 in
    let q5 = placed-back code (place + length a + length b + length c + length d) e (r ++ tail) q4 in
    let q6 = placed-back code (place + length a + length b + length c + length d + length e) r tail q5 in
    let q7 = placed-back code (place + length a + length b + length c + length d + length e + length r)
    (move_items bytes) exit_items q6 in
    let last = within_code code
    (place + length a + length b + length c + length d + length e + length r + length (move_items bytes)) _ q7.0 in
    omega arith

-- what is fixed of a call from the function n to the function h
pub record Site (w : World) (n : ℕ) (f : FlatFunc) (sp : ℕ) (xs ys : List ℕ) (h : ℕ) (c : FlatFunc) : Type 0 where
  pub under : w.low ≤ sp
  pub top : sp ≤ 0x80300000
  pub four : sp % 4 ≡ 0
  pub callee : slice_get w.fs h ≡ Some c
  pub is_called : w.called h ≡ true
  pub room : w.low + w.need h ≤ sp
  pub passing_xs : IsTrue (is_passing xs)
  pub passing_ys : IsTrue (is_passing ys)
  pub same_xs : xs ≡ c.results
  pub same_ys : ys ≡ c.args
  pub linking : touches w.targets.near w.forgets f 1 ≡ true
  pub touched : (y : ℕ) → touches w.targets.near w.forgets f y ≡ false → (is_in xs y ≡ false) × (w.forgets h y ≡ false)

-- the stack pointer in the function that is called
inner_under : (w : World) (n : ℕ) (f : FlatFunc) (sp : ℕ) (xs ys : List ℕ) (h : ℕ) (c : FlatFunc)
    → Site w n f sp xs ys h c → w.low ≤ sp - framed_bytes w.targets.near w.forgets h c - nest c
inner_under w n f sp xs ys h c site =
    let fn = w.functions h c site.callee in
    let needs = fn.needs in
    let room = site.room in
    let top = site.top in
    let four = site.four in
    let fours = fn.fours in
    let bottom = w.bottom in
    omega arith

inner_top : (w : World) (n : ℕ) (f : FlatFunc) (sp : ℕ) (xs ys : List ℕ) (h : ℕ) (c : FlatFunc)
    → Site w n f sp xs ys h c → sp - framed_bytes w.targets.near w.forgets h c - nest c ≤ 0x80300000
inner_top w n f sp xs ys h c site =
    let fn = w.functions h c site.callee in
    let needs = fn.needs in
    let room = site.room in
    let top = site.top in
    let four = site.four in
    let fours = fn.fours in
    let bottom = w.bottom in
    omega arith

inner_four : (w : World) (n : ℕ) (f : FlatFunc) (sp : ℕ) (xs ys : List ℕ) (h : ℕ) (c : FlatFunc)
    → Site w n f sp xs ys h c → (sp - framed_bytes w.targets.near w.forgets h c - nest c) % 4 ≡ 0
inner_four w n f sp xs ys h c site =
    let fn = w.functions h c site.callee in
    let needs = fn.needs in
    let room = site.room in
    let top = site.top in
    let four = site.four in
    let fours = fn.fours in
    let bottom = w.bottom in
    omega arith

inner_room : (w : World) (n : ℕ) (f : FlatFunc) (sp : ℕ) (xs ys : List ℕ) (h : ℕ) (c : FlatFunc)
    → Site w n f sp xs ys h c → w.low + w.limit h ≤ sp - framed_bytes w.targets.near w.forgets h c - nest c
inner_room w n f sp xs ys h c site =
    let fn = w.functions h c site.callee in
    let needs = fn.needs in
    let room = site.room in
    let top = site.top in
    let four = site.four in
    let fours = fn.fours in
    let bottom = w.bottom in
    omega arith

-- what the function that is called rests on
abbrev inner : (w : World) (n : ℕ) (f : FlatFunc) (sp : ℕ) (xs ys : List ℕ) (h : ℕ) (c : FlatFunc) (d : ℕ)
    → Site w n f sp xs ys h c → Ground
inner w n f sp xs ys h c d site = ground w h c d (sp - framed_bytes w.targets.near w.forgets h c - nest c)
    (inner_under w n f sp xs ys h c site) (inner_top w n f sp xs ys h c site) (inner_four w n f sp xs ys h c site)

-- the registers in a frame
record Frame (near : Bool) (forgets : Forgets) (n : ℕ) (f : FlatFunc) : Type 0 where
  rises : Rises (framed near forgets n f)
  kept : AllByRecursion IsKept (framed near forgets n f)
  few : length (framed near forgets n f) ≤ 30

frame : (near : Bool) (forgets : Forgets) (n : ℕ) (f : FlatFunc) → Frame near forgets n f
frame near forgets n f =
    let saved = filter_rises (is_saved forgets n f) 3 29 in
    let short = saved.2 in
    record {
      rises = rising (touches near forgets f 1) (saves forgets n f) saved.0 saved.1;
      kept = keeping (touches near forgets f 1) (saves forgets n f) saved.1;
      few = few (touches near forgets f 1) (saves forgets n f) short;
    }
  where
    above : (rs : List ℕ) → AllByRecursion (λ q. 3 ≤ q) rs → AllByRecursion (λ q. 1 < q) rs
    above [] h = tt
    above (r ∷ rs) h = (let l = h.0 in omega arith, above rs h.1)

    kept_all : (rs : List ℕ) → AllByRecursion (λ q. 3 ≤ q) rs → AllByRecursion IsKept rs
    kept_all [] h = tt
    kept_all (r ∷ rs) h = (let l = h.0 in (omega arith, omega arith), kept_all rs h.1)

    rising : (t : Bool) (rs : List ℕ) → Rises rs → AllByRecursion (λ q. 3 ≤ q) rs → Rises (if t then 1 ∷ rs else rs)
    rising true rs h k = (above rs k, h)
    rising false rs h k = h

    keeping : (t : Bool) (rs : List ℕ) → AllByRecursion (λ q. 3 ≤ q) rs
        → AllByRecursion IsKept (if t then 1 ∷ rs else rs)
    keeping true rs k = ((omega arith, omega arith), kept_all rs k)
    keeping false rs k = kept_all rs k

    few : (t : Bool) (rs : List ℕ) → length rs ≤ 29 → length (if t then 1 ∷ rs else rs) ≤ 30
    few true rs h = omega arith
    few false rs h = omega arith

-- where the parts of a function stand that is called
record Parts (code : List ℕ) (targets : Targets) (forgets : Forgets) (h place : ℕ) (c : FlatFunc) : Type 0 where
  start : ℕ
  start_is : start ≡ place + length (move_items ((2 ^ 32 - framed_bytes targets.near forgets h c) % 2 ^ 32))
      + length (save_items 0 (framed targets.near forgets h c)) + length (move_items ((2 ^ 32 - nest c) % 2 ^ 32))
  before : Placed code place (move_items ((2 ^ 32 - framed_bytes targets.near forgets h c) % 2 ^ 32)
      ++ (save_items 0 (framed targets.near forgets h c) ++ move_items ((2 ^ 32 - nest c) % 2 ^ 32)))
  body : Placed code start (all_items targets c.body (nest c))
  after : Placed code (start + length (all_items targets c.body (nest c))) (move_items (nest c) ++ (restore_items 0
      (framed targets.near forgets h c) ++ (move_items (framed_bytes targets.near forgets h c) ++ exit_items)))

parts : (code : List ℕ) (targets : Targets) (forgets : Forgets) (h place : ℕ) (c : FlatFunc)
    → Placed code place (callable_items targets forgets h c) → Parts code targets forgets h place c
parts code targets forgets h place c placed =
    let rs = framed targets.near forgets h c in
    let bytes = framed_bytes targets.near forgets h c in
    let first = move_items ((2 ^ 32 - bytes) % 2 ^ 32) in
    let save = save_items 0 rs in
    let move = move_items ((2 ^ 32 - nest c) % 2 ^ 32) in
    let body = all_items targets c.body (nest c) in
    let tail = move_items (nest c) ++ (restore_items 0 rs ++ (move_items bytes ++ exit_items)) in
    let q0 = placed-back code place first (save ++ (move ++ (body ++ tail))) placed in
    let q1 = placed-back code (place + length first) save (move ++ (body ++ tail)) q0 in
    let q2 = placed-back code (place + length first + length save) move (body ++ tail) q1 in
    let whole : (first ++ (save ++ move)) ++ (body ++ tail) ≡ first ++ (save ++ (move ++ (body ++ tail))) =
    append_assoc first (save ++ move) (body ++ tail) ∙ ap (λ q. first ++ q) (append_assoc save move (body ++ tail)) in
    record {
      start = place + length first + length save + length move;
      start_is = refl;
      before = placed-front code place (first ++ (save ++ move)) (body ++ tail)
          (subst (Placed code place) (sym whole) placed);
      body = placed-front code (place + length first + length save + length move) body tail q2;
      after = placed-back code (place + length first + length save + length move) body tail q2;
    }

-- the function's body, from the call on
record Inside (w : World) (n : ℕ) (f : FlatFunc) (sp : ℕ) (xs ys : List ℕ) (h : ℕ) (c : FlatFunc) (d : ℕ)
    (site : Site w n f sp xs ys h c) (j k : ℕ) (s : State) (registers ram vs : List ℕ) : Type 0 where
  place : ℕ
  parts_of : Parts w.code w.targets w.forgets h place c
  leap : Leaps (ground w n f (suc d) sp site.under site.top site.four) j
      (j + length (call_items w.targets.near (w.targets.at h))) place registers ram s.answers s.trace
  opened : Opened (ground w n f (suc d) sp site.under site.top site.four) place parts_of.start sp (framed_bytes
      w.targets.near w.forgets h c) (nest c) (framed w.targets.near w.forgets h c) leap.registers' ram s.answers s.trace
  run : Shown
      (inner w n f sp xs ys h c d site) (in_turn (map (flat.run w.forgets (function_of w.forgets w.fs d)) c.body))
      (record s { locals = with_locals c.args vs no_locals; fuel = k })
      (at w.code parts_of.start opened.registers' opened.ram' s.answers s.trace)
      opened.ram' (sp - framed_bytes w.targets.near w.forgets h c)
      (parts_of.start + length (all_items w.targets c.body (nest c))) (sum (map statement_bulk c.body))

enters : (w : World) (n : ℕ) (f : FlatFunc) (sp : ℕ) (xs ys : List ℕ) (h : ℕ) (c : FlatFunc) (d : ℕ) (site : Site w n f
    sp xs ys h c) → CallsAt w d
    → (free j k : ℕ) (s : State) (registers ram vs : List ℕ)
    → sp + free ≤ 0x80300000 → k ≤ d → words_of ys s.locals ≡ Some vs
    → Placed w.code j (call_items w.targets.near (w.targets.at h)) → Ready w.code registers ram s.answers j
    → Stands (sp + free) sp s registers ram
    → Inside w n f sp xs ys h c d site j k s registers ram vs
enters w n f sp xs ys h c d site again free j k s registers ram vs inside deep words placed ready stands =
    let g = ground w n f (suc d) sp site.under site.top site.four in
    let fn = w.functions h c site.callee in
    let where_to = fn.placed site.is_called in
    let place = where_to.0 in
    let ps = parts w.code w.targets w.forgets h place c where_to.2 in
    let good = good_of w.code registers ram s.answers j ready in
    let few = good.few in
    let j_in = call_within w.code w.targets.near (w.targets.at h) j placed in
    let place_in = callable_within w.code w.targets w.forgets h c place where_to.2 in
    let leap = leaps g w.targets.near j place (w.targets.at h) registers ram s.answers s.trace site.linking good placed
    where_to.1 (omega (arith, where_to.1)) (omega arith) w.reach j_in place_in in
    let ready1 = ready_runs g registers ram s.answers leap.registers' ram s.answers s.trace s.trace j place leap.steps
    ready leap.runs in
    let regs = frame w.targets.near w.forgets h c in
    let few_regs = regs.few in
    let pointer1 : reads leap.registers' 2 ≡ sp = leap.others 2 (omega arith) ∙ stands.pointer in
    let needs = fn.needs in
    let room = site.room in
    let bottom = w.bottom in
    let opened = opens g place sp (nest c) (framed w.targets.near w.forgets h c) leap.registers' ram s.answers s.trace
    ready1 regs.kept regs.few ps.before pointer1 site.top (omega arith) in
    let opened' = subst (λ q. Opened g place q sp (framed_bytes w.targets.near w.forgets h c) (nest c)
    (framed w.targets.near w.forgets h c) leap.registers' ram s.answers s.trace) (sym ps.start_is) opened in
    let ready2 = ready_runs g leap.registers' ram s.answers opened'.registers' opened'.ram' s.answers s.trace s.trace
    place ps.start opened'.steps ready1 opened'.runs in
    let bytes = framed_bytes w.targets.near w.forgets h c in
    let base : sp - bytes - nest c + nest c ≡ sp - bytes = omega arith in
    let standing : Standing 10 vs opened'.registers' =
    words_stand 10 ys vs s.locals opened'.registers' site.passing_ys words
    (λ x v low high is. opened'.others x (omega arith) (omega arith) ∙ leap.others x (omega arith)
    ∙ stands.values x v (omega arith) (omega (arith, few_names ys c site.same_ys fn.few_args)) is) in
    let held1 = held_below (sp + free) (sp - bytes) s.memory ram opened'.ram' stands.held (omega arith) (omega arith)
    (λ q from apart. opened'.bytes_stay q from (over q apart)) in
    let u0 : State = record s { locals = with_locals c.args vs no_locals; fuel = k } in
    let stands2 : Stands (sp - bytes - nest c + nest c) (sp - bytes - nest c) u0 opened'.registers' opened'.ram' =
    record {
      values = λ x v low high is. args_stand x v (where_from 10 c.args vs no_locals x v fn.args
          (ap length (sym site.same_ys) ∙ words_length ys vs s.locals words) is).from standing;
      held = subst (λ b. Held b s.memory opened'.ram') (sym base) held1;
      pointer = opened'.pointer;
    } in
    let sim = all_simulate (inner w n f sp xs ys h c d site) w.targets w.forgets (function_of w.forgets w.fs d) w.fs
    (again h c (sp - framed_bytes w.targets.near w.forgets h c - nest c)
    (inner_under w n f sp xs ys h c site) (inner_top w n f sp xs ys h c site) (inner_four w n f sp xs ys h c site)
    (inner_room w n f sp xs ys h c site) site.callee)
    c.body fn.body (let bulk = fn.bulk in omega arith) in
    let run = sim (nest c) ps.start u0 opened'.registers' opened'.ram' (omega arith) fn.fours (omega arith) deep ps.body
    ready2 stands2 in
    record {
      place = place;
      parts_of = ps;
      leap = leap;
      opened = opened';
      run = subst (λ b. Shown (inner w n f sp xs ys h c d site)
          (in_turn (map (flat.run w.forgets (function_of w.forgets w.fs d)) c.body)) u0
          (at w.code ps.start opened'.registers' opened'.ram' s.answers s.trace) opened'.ram' b
          (ps.start + length (all_items w.targets c.body (nest c))) (sum (map statement_bulk c.body))) base run;
    }
  where
    over : (q : ℕ) → (q < sp - framed_bytes w.targets.near w.forgets h c) ⊎ (sp + free ≤ q)
        → (q < sp - framed_bytes w.targets.near w.forgets h c) ⊎ (sp ≤ q)
    over q (inl l) = inl l
    over q (inr l) = inr (omega arith)

    few_names : (ys : List ℕ) (c : FlatFunc) → ys ≡ c.args → length c.args ≤ 8 → length ys ≤ 8
    few_names ys c same few = subst (λ q. length q ≤ 8) (sym same) few

    words_length : (ys vs : List ℕ) (locals : Locals) → words_of ys locals ≡ Some vs → length ys ≡ length vs
    words_length ys vs locals is = of_length ys vs locals is

    args_stand : (x v : ℕ) {registers : List ℕ}
        → ((i : ℕ) × (slice_get vs i ≡ Some v) × (x ≡ 10 + i) × (i < length c.args))
        ⊎ ((no_locals x ≡ Some v) × (is_in c.args x ≡ false)) → Standing 10 vs registers → reads registers x ≡ v
    args_stand x v (inl (i, is, there, less)) standing = ap (reads _) there ∙ standing.at i v is
    args_stand x v (inr (is, out)) standing = absurd (clash is)
      where
        clash : None ≡ Some v → ⊥
        clash e = absurd (cc)

-- ---- after the body

-- a register that is no name of a function is not changed by it
pub changes_of : (near : Bool) (forgets : Forgets) (f : FlatFunc) (y : ℕ) → touches near forgets f y ≡ false
    → changes forgets f y ≡ false
changes_of near forgets f y out = first (changes forgets f y) ((y == 1) && links near f) out
  where
    first : (a b : Bool) → (a || b) ≡ false → a ≡ false
    first false b e = refl
    first true b e = absurd (cc)

touches_far : (near : Bool) (forgets : Forgets) (f : FlatFunc) (y : ℕ) → 3 ≤ y → changes forgets f y ≡ false
    → touches near forgets f y ≡ false
touches_far near forgets f y low out =
    let other : (y == 1) ≡ false = grind (arith, nat_tests) in
    ap (λ b. b || ((y == 1) && links near f)) out ∙ ap (λ b. b && links near f) other

none_framed : (near : Bool) (forgets : Forgets) (n : ℕ) (f : FlatFunc) (y : ℕ) → NoneOf y (saves forgets n f) → y ≢ 1
    → NoneOf y (framed near forgets n f)
none_framed near forgets n f y none one = by (touches near forgets f 1)
  where
    by : (t : Bool) → NoneOf y (if t then 1 ∷ saves forgets n f else saves forgets n f)
    by true = (one, none)
    by false = none

-- the words of what a function saves, after that of x1
saves_stored : (t : Bool) (ss registers ram : List ℕ) (a : ℕ) → Stored registers ram a (if t then 1 ∷ ss else ss)
    → Stored registers ram (if t then a + 4 else a) ss
saves_stored true ss registers ram a h = h.1
saves_stored false ss registers ram a h = h

-- where the return address is after the body
returns_by : (near : Bool) (forgets : Forgets) (n : ℕ) (f : FlatFunc) (a to : ℕ)
    (registers1 registers2 registers3 ram : List ℕ)
    → reads registers1 1 ≡ 0x80300000 + 4 * to → (nest f ≤ 2047 → reads registers2 1 ≡ reads registers1 1)
    → (touches near forgets f 1 ≡ false → reads registers3 1 ≡ reads registers2 1)
    → (t : Bool) → touches near forgets f 1 ≡ t
    → Stored registers1 ram a (if t then 1 ∷ saves forgets n f else saves forgets n f)
    → Returns registers3 ram a (nest f) to (if t then 1 ∷ saves forgets n f else saves forgets n f)
returns_by near forgets n f a to registers1 registers2 registers3 ram back opened untouched true e stored =
    FromFrame (saves forgets n f) refl (stored.0 ∙ back)
returns_by near forgets n f a to registers1 registers2 registers3 ram back opened untouched false e stored =
    let saved = filter_rises (is_saved forgets n f) 3 29 in
    let small = nest_short (changes forgets f 1) (not near) (not (list_all (throughout keeps_link) f.body)) e in
    FromLink (none (saves forgets n f) saved.1) small (untouched e ∙ opened small ∙ back)
  where
    none : (rs : List ℕ) → AllByRecursion (λ q. 3 ≤ q) rs → NoneOf 1 rs
    none [] h = tt
    none (r ∷ rs) h = (let l = h.0 in omega arith, none rs h.1)

    nest_short : (a b c : Bool) → (a || (true && (b || (c || nat_lt 2047 (nest f))))) ≡ false → nest f ≤ 2047
    nest_short false false false e = grind (arith, nat_tests)
    nest_short true b c e = absurd (cc)
    nest_short false true c e = absurd (cc)
    nest_short false false true e = absurd (cc)

-- the registers that a call leaves as they were
stays_through : (w : World) (n : ℕ) (f : FlatFunc) (sp : ℕ) (xs ys : List ℕ) (h : ℕ) (c : FlatFunc) (place to : ℕ)
    (registers registers1 registers2 registers3 registers4 ram ram2 ram3 answers : List ℕ)
    → ((y : ℕ) → y ≢ 1 → reads registers1 y ≡ reads registers y)
    → ((y : ℕ) → y ≢ 2 → y ≢ 1 → reads registers2 y ≡ reads registers1 y)
    → ((y : ℕ) → 3 ≤ y → changes w.forgets c y ≡ false → reads registers3 y ≡ reads registers2 y)
    → ((y : ℕ) → NoneOf y (saves w.forgets h c) → y ≢ 2 → y ≢ 1 → reads registers4 y ≡ reads registers3 y)
    → Stored registers1 ram3 place (saves w.forgets h c) → Stored registers4 ram3 place (saves w.forgets h c)
    → (y : ℕ) → 3 ≤ y → y ≤ 31 → is_in c.results y ≡ false → w.forgets h y ≡ false
    → reads registers4 y ≡ reads registers y
stays_through w n f sp xs ys h c place to registers registers1 registers2 registers3 registers4 ram ram2 ram3 answers e1
    e2 e3 e4 saved restored y low high out kept = by (changes w.forgets c y) refl
  where
    test : (b : Bool) → changes w.forgets c y ≡ b → is_saved w.forgets h c y ≡ b
    test b e = ap (λ q. q && not (is_in c.results y) && not (w.forgets h y)) e
        ∙ ap (λ q. b && not q && not (w.forgets h y)) out ∙ ap (λ q. b && true && not q) kept ∙ same b
      where
        same : (b : Bool) → (b && true && true) ≡ b
        same true = refl
        same false = refl

    by : (b : Bool) → changes w.forgets c y ≡ b → reads registers4 y ≡ reads registers y
    by true e = kept_word (is_saved w.forgets h c) y 3 29 place registers1 registers4 ram3 (test true e) low
        (omega arith) restored saved ∙ e1 y (omega arith)
    by false e =
        e4 y (none_left (is_saved w.forgets h c) y 3 29 (test false e)) (omega arith) (omega arith)
        ∙ e3 y low e ∙ e2 y (omega arith) (omega arith) ∙ e1 y (omega arith)

-- what a call does, in terms of the body
pub call_is : (w : World) (n : ℕ) (f : FlatFunc) (sp : ℕ) (xs ys : List ℕ) (h : ℕ) (c : FlatFunc) (d : ℕ)
    → Site w n f sp xs ys h c → (k : ℕ) (s : State) (vs : List ℕ) → words_of ys s.locals ≡ Some vs → (cs : List Choice)
    → statement_step w.forgets (function_of w.forgets w.fs (suc d)) (Stmt-F.Call xs h ys)
    (given (record s { fuel = suc k }) cs)
    ≡ back_in (with_locals xs) (without_names (w.forgets h) s.locals)
    (returned (words_of c.results) (in_turn (map (flat.run w.forgets (function_of w.forgets w.fs d)) c.body)
    (given (record s { locals = with_locals c.args vs no_locals; fuel = k }) cs)))
call_is w n f sp xs ys h c d site k s vs words cs =
    ap (λ o. with_defined o (given (record s { fuel = suc k }) cs)
    (λ vs. with_fuel (given (record s { fuel = suc k }) cs) (λ t. back_in (with_locals xs)
    (without_names (w.forgets h) s.locals) (function_of w.forgets w.fs (suc d) h vs t)))) words
    ∙ ap (λ o. back_in (with_locals xs) (without_names (w.forgets h) s.locals)
    (enter w.forgets (function_of w.forgets w.fs d) o vs (given (record s { fuel = k }) cs))) site.callee

-- a function's results, where they have words
abbrev ends_as : List ℕ → Locals → Option (List ℕ) → State → Run
ends_as xs outer (Some ws) t = Goes (record t { locals = with_locals xs ws outer })
ends_as xs outer None t = Ends Undefined t

-- what the body's end is to the caller
returns_to : (xs : List ℕ) (outer : Locals) (results : List ℕ) (t : State) (o : Option (List ℕ))
    → words_of results t.locals ≡ o
    → back_in (with_locals xs) outer (returned (words_of results) (Goes t)) ≡ ends_as xs outer o t
returns_to xs outer results t None e = rw e refl
returns_to xs outer results t (Some ws) e = rw e refl

-- a call, where its arguments have words and a unit of fuel is left
pub call_shown : (w : World) (n : ℕ) (f : FlatFunc) (sp : ℕ) (xs ys : List ℕ) (h : ℕ) (c : FlatFunc) (d : ℕ)
    (site : Site w n f sp xs ys h c) → CallsAt w d
    → (free j k : ℕ) (s : State) (registers ram vs : List ℕ)
    → sp + free ≤ 0x80300000 → k ≤ d → words_of ys s.locals ≡ Some vs
    → Placed w.code j (call_items w.targets.near (w.targets.at h)) → Ready w.code registers ram s.answers j
    → Stands (sp + free) sp s registers ram
    → Shown (ground w n f (suc d) sp site.under site.top site.four) (statement_step w.forgets
    (function_of w.forgets w.fs (suc d)) (Stmt-F.Call xs h ys)) (record s { fuel = suc k })
    (at w.code j registers ram s.answers s.trace) ram (sp + free)
    (j + length (call_items w.targets.near (w.targets.at h))) 2
call_shown w n f sp xs ys h c d site again free j k s registers ram vs inside deep words placed ready stands =
    let i = enters w n f sp xs ys h c d site again free j k s registers ram vs inside deep words placed ready stands in
    by i.place i.parts_of i.leap i.opened i.run
  where
    body : State → Run
    body = in_turn (map (flat.run w.forgets (function_of w.forgets w.fs d)) c.body)

    same_below : (a : ℕ) (ram2 : List ℕ) → a ≡ sp - framed_bytes w.targets.near w.forgets h c → ((q : ℕ)
        → 0x80100000 ≤ q → (q < a) ⊎ (sp ≤ q) → slice_index ram2 (q - 0x80100000) ≡ slice_index ram (q - 0x80100000))
        → (q : ℕ) → 0x80100000 ≤ q → (q < 0x80200000) ⊎ (sp + free ≤ q)
        → slice_index ram2 (q - 0x80100000) ≡ slice_index ram (q - 0x80100000)
    same_below a ram2 is same q from (inl l) =
        let fn = w.functions h c site.callee in
        let needs = fn.needs in
        let room = site.room in
        let bottom = w.bottom in
        same q from (inl (omega arith))
    same_below a ram2 is same q from (inr l) = same q from (inr (omega arith))

    nothing_there : (q : ℕ) → 0x80200000 ≤ q → q < sp → map.get s.memory q ≡ None
    nothing_there q from to = by (map.get s.memory q) refl
      where
        by : (o : Option ℕ) → map.get s.memory q ≡ o → o ≡ None
        by None e = refl
        by (Some v) e = let far = stands.held.apart q v e from in absurd (omega arith)

    pace : (u v : State) (fuel : ℕ) (m steps total : ℕ) → u.fuel ≡ k → m ≤ 80 → 1 ≤ m
        → 80 + sum (map statement_bulk c.body) ≤ w.total
        → Paced (inner w n f sp xs ys h c d site) u v steps (sum (map statement_bulk c.body))
        → Paced (ground w n f (suc d) sp site.under site.top site.four) (record s { fuel = suc k }) v (m + steps) 2
    pace u v fuel m steps total is few some fits p =
        let a1 = p.takes in let a2 = p.least in let a3 = p.most in
        let one : suc k - v.fuel ≡ suc (u.fuel - v.fuel) = omega arith in
        let product : (suc k - v.fuel) * w.total ≡ w.total + (u.fuel - v.fuel) * w.total = ap (λ q. q * w.total) one
        ∙ more (u.fuel - v.fuel) w.total in
        record { takes = omega arith; least = omega arith; most = omega (arith, product) }
      where
        more : (d t : ℕ) → suc d * t ≡ t + d * t
        more d t = grind arith

    by : (place : ℕ) (ps : Parts w.code w.targets w.forgets h place c)
        → (leap : Leaps (ground w n f (suc d) sp site.under site.top site.four) j
        (j + length (call_items w.targets.near (w.targets.at h))) place registers ram s.answers s.trace)
        → (opened : Opened (ground w n f (suc d) sp site.under site.top site.four) place ps.start sp
        (framed_bytes w.targets.near w.forgets h c) (nest c) (framed w.targets.near w.forgets h c) leap.registers'
        ram s.answers s.trace)
        → Shown
        (inner w n f sp xs ys h c d site) (in_turn (map (flat.run w.forgets (function_of w.forgets w.fs d)) c.body))
        (record s { locals = with_locals c.args vs no_locals; fuel = k })
        (at w.code ps.start opened.registers' opened.ram' s.answers s.trace) opened.ram'
        (sp - framed_bytes w.targets.near w.forgets h c) (ps.start + length (all_items w.targets c.body (nest c)))
        (sum (map statement_bulk c.body))
        → Shown (ground w n f (suc d) sp site.under site.top site.four) (statement_step w.forgets
        (function_of w.forgets w.fs (suc d)) (Stmt-F.Call xs h ys)) (record s { fuel = suc k })
        (at w.code j registers ram s.answers s.trace) ram (sp + free)
        (j + length (call_items w.targets.near (w.targets.at h))) 2
    by place ps leap opened (Wrong b) = Wrong (record {
      choices = b.choices;
      chosen = b.chosen;
      after = b.after;
      ends = λ rest.
          call_is w n f sp xs ys h c d site k s vs words (b.choices ++ rest)
          ∙ ap (λ r. back_in (with_locals xs) (without_names (w.forgets h) s.locals) (returned (words_of c.results) r))
          (b.ends rest);
    })
    by place ps leap opened (Out b) =
        let fn = w.functions h c site.callee in
        let regs = frame w.targets.near w.forgets h c in
        let short = regs.few in
        let few = opened.few in
        let some = leap.some in
        let few_leap = leap.few in
        let needs = fn.needs in
        Out (record {
          choices = b.choices;
          chosen = b.chosen;
          after = b.after;
          how = b.how;
          ends = λ rest.
              call_is w n f sp xs ys h c d site k s vs words (b.choices ++ rest)
              ∙ ap (λ r. back_in (with_locals xs) (without_names (w.forgets h) s.locals)
              (returned (words_of c.results) r)) (b.ends rest);
          registers = b.registers;
          ram' = b.ram';
          place = b.place;
          steps = leap.steps + opened.steps + b.steps;
          runs = runs-append w.low (leap.steps + opened.steps) b.steps (at w.code j registers ram s.answers s.trace)
              (at w.code ps.start opened.registers' opened.ram' s.answers s.trace)
              (at w.code b.place b.registers b.ram' b.after.answers b.after.trace)
              (runs-append w.low leap.steps opened.steps
              (at w.code j registers ram s.answers s.trace) (at w.code place leap.registers' ram s.answers s.trace)
              (at w.code ps.start opened.registers' opened.ram' s.answers s.trace) leap.runs opened.runs) b.runs;
          bytes = b.bytes;
          kept = kept_above (sp + free) (sp - framed_bytes w.targets.near w.forgets h c)
              s.memory b.after.memory ram opened.ram' b.ram' (omega arith) b.kept
              (same_below (sp - framed_bytes w.targets.near w.forgets h c) opened.ram' refl opened.bytes_stay);
          paced = pace (record s { locals = with_locals c.args vs no_locals; fuel = k }) b.after 0
              (leap.steps + opened.steps) b.steps 0 refl (omega arith) (omega arith) fn.bulk b.paced;
          shown = b.shown;
        })
    by place ps leap opened (On b) = results (words_of c.results b.after.locals) refl
      where
        results : (o : Option (List ℕ)) → words_of c.results b.after.locals ≡ o
            → Shown (ground w n f (suc d) sp site.under site.top site.four) (statement_step w.forgets
            (function_of w.forgets w.fs (suc d)) (Stmt-F.Call xs h ys)) (record s { fuel = suc k })
            (at w.code j registers ram s.answers s.trace) ram (sp + free)
            (j + length (call_items w.targets.near (w.targets.at h))) 2
        results None e = Wrong (record {
          choices = b.choices;
          chosen = b.chosen;
          after = λ rest. given b.after rest;
          ends = λ rest.
              call_is w n f sp xs ys h c d site k s vs words (b.choices ++ rest)
              ∙ ap (λ r. back_in (with_locals xs) (without_names (w.forgets h) s.locals)
              (returned (words_of c.results) r)) (b.goes rest)
              ∙ returns_to xs (without_names (w.forgets h) s.locals) c.results (given b.after rest) None e;
        })
        results (Some ws) e =
            let fn = w.functions h c site.callee in
            let g = ground w n f (suc d) sp site.under site.top site.four in
            let rs = framed w.targets.near w.forgets h c in
            let bytes = framed_bytes w.targets.near w.forgets h c in
            let link = touches w.targets.near w.forgets c 1 in
            let saved = filter_rises (is_saved w.forgets h c) 3 29 in
            let regs = frame w.targets.near w.forgets h c in
            let short = regs.few in
            let few = opened.few in
            let some = leap.some in
            let few_leap = leap.few in
            let needs = fn.needs in
            let room = site.room in
            let bottom = w.bottom in
            let few_results = fn.few_results in
            let outer = without_names (w.forgets h) s.locals in
            let last = ps.start + length (all_items w.targets c.body (nest c)) in
            let good3 = good_of w.code b.registers b.ram' b.after.answers last b.ready in
            let stays : (q : ℕ) → sp - bytes ≤ q → q < sp
            → slice_index b.ram' (q - 0x80100000) ≡ slice_index opened.ram' (q - 0x80100000) =
            λ q from to.
            (let apart : Apart (sp - bytes) q = (omega arith, (let top = site.top in omega arith), inr from) in
            b.kept.stays q apart (b.kept.fresh q apart (nothing_there q (omega arith) to))) in
            let next = j + length (call_items w.targets.near (w.targets.at h)) in
            let near : next < 2000000 = (let good = good_of w.code registers ram s.answers j ready in
            let most = good.few in let here = call_within w.code w.targets.near (w.targets.at h) j placed in
            let short = call_short w.targets.near (w.targets.at h) in omega arith) in
            let stored3 : Stored leap.registers' b.ram' (sp - bytes) rs =
            stored_stays (sp - bytes) rs leap.registers' opened.ram' b.ram' (omega arith)
            (λ q from to. stays q (omega arith) (omega arith)) opened.stored in
            let returns = returns_by w.targets.near w.forgets h c (sp - bytes) next leap.registers' opened.registers'
            b.registers b.ram' leap.back opened.link (b.untouched 1 (omega arith)) link refl stored3 in
            let closed = closes g last next sp (nest c) rs b.registers b.ram' b.after.answers b.after.trace good3
            regs.rises regs.kept regs.few ps.after b.stands.pointer site.top (omega arith) returns near in
            let through = stays_through w n f sp xs ys h c (if link then sp - bytes + 4 else sp - bytes) next registers
            leap.registers' opened.registers' b.registers closed.registers' ram opened.ram' b.ram' s.answers
            leap.others opened.others
            (λ y low out. b.untouched y (omega arith) (touches_far w.targets.near w.forgets c y low out))
            (λ y none ne one. closed.others y (none_framed w.targets.near w.forgets h c y none one) ne one)
            (saves_stored link (saves w.forgets h c) leap.registers' b.ram' (sp - bytes) stored3)
            (saves_stored link (saves w.forgets h c) closed.registers' b.ram' (sp - bytes) closed.stored) in
            let standing : Standing 10 ws b.registers = words_stand 10 c.results ws b.after.locals b.registers
            fn.results e (λ x v low high is. b.stands.values x v (omega arith) (omega arith) is) in
            let passed : (y : ℕ) → is_in c.results y ≡ true → 3 ≤ y → reads closed.registers' y ≡ reads b.registers y =
            λ y is low. closed.others y (none_framed w.targets.near w.forgets h c y (none_left (is_saved w.forgets h c)
            y 3 29 (not_saved y is)) (omega arith)) (omega arith) (omega arith) in
            let after : State = record b.after { locals = with_locals xs ws outer } in
            let runs = runs-append w.low (leap.steps + opened.steps) (b.steps + closed.steps) (at w.code
            j registers ram s.answers s.trace) (at w.code ps.start opened.registers' opened.ram' s.answers s.trace)
            (at w.code next closed.registers' b.ram' b.after.answers b.after.trace)
            (runs-append w.low leap.steps opened.steps
            (at w.code j registers ram s.answers s.trace) (at w.code place leap.registers' ram s.answers s.trace)
            (at w.code ps.start opened.registers' opened.ram' s.answers s.trace) leap.runs opened.runs)
            (runs-append w.low b.steps closed.steps (at w.code ps.start opened.registers' opened.ram' s.answers s.trace)
            (at w.code last b.registers b.ram' b.after.answers b.after.trace)
            (at w.code next closed.registers' b.ram' b.after.answers b.after.trace) b.runs closed.runs) in
            let ready4 = ready_runs g registers ram s.answers closed.registers' b.ram' b.after.answers s.trace
            b.after.trace j next (leap.steps + opened.steps + (b.steps + closed.steps)) ready runs in
            On (record {
              choices = b.choices;
              chosen = b.chosen;
              after = after;
              goes = λ rest.
                  call_is w n f sp xs ys h c d site k s vs words (b.choices ++ rest)
                  ∙ ap (λ r. back_in (with_locals xs) outer (returned (words_of c.results) r)) (b.goes rest)
                  ∙ returns_to xs outer c.results (given b.after rest) (Some ws) e;
              registers = closed.registers';
              ram' = b.ram';
              steps = leap.steps + opened.steps + (b.steps + closed.steps);
              runs = runs;
              ready = ready4;
              stands = record {
                values = λ x v low high is.
                    value_of ws closed.registers' x v low high
                    (where_from 10 xs ws outer x v site.passing_xs
                    (ap length site.same_xs ∙ of_length c.results ws b.after.locals e) is).from
                    (λ i u at less. passed (10 + i) (among c.results i fn.results
                    (subst (λ q. i < length q) site.same_xs less)) (omega arith) ∙ standing.at i u at) through;
                held = held_above (sp + free) (sp - bytes) s.memory b.after.memory ram opened.ram' b.ram' stands.held
                    b.stands.held (omega arith) (omega arith) inside b.kept;
                pointer = closed.pointer;
              };
              untouched =
                  λ y low out. untouched_by closed.registers' (let is4 = ready4.is in is4.registers) y low out through;
              kept = kept_above (sp + free) (sp - bytes) s.memory b.after.memory ram opened.ram' b.ram' (omega arith)
                  b.kept (same_below (sp - bytes) opened.ram' refl opened.bytes_stay);
              paced = both_ends closed.steps closed.few fn.bulk few some few_leap short b.paced;
            })
          where
            not_saved : (y : ℕ) → is_in c.results y ≡ true → is_saved w.forgets h c y ≡ false
            not_saved y is = ap (λ q. changes w.forgets c y && not q && not (w.forgets h y)) is
                ∙ never (changes w.forgets c y) (w.forgets h y)
              where
                never : (p q : Bool) → (p && false && not q) ≡ false
                never true q = refl
                never false q = refl

            among : (rs : List ℕ) (i : ℕ) → IsTrue (is_passing rs) → i < length rs → is_in rs (10 + i) ≡ true
            among rs i order less = in_order 10 rs i order less

            both_ends : (last : ℕ) → last ≤ 7 + length (framed w.targets.near w.forgets h c)
                → 80 + sum (map statement_bulk c.body) ≤ w.total
                → opened.steps ≤ 6 + length (framed w.targets.near w.forgets h c) → 1 ≤ leap.steps → leap.steps ≤ 2
                → length (framed w.targets.near w.forgets h c) ≤ 30
                → Paced (inner w n f sp xs ys h c d site)
                (record s { locals = with_locals c.args vs no_locals; fuel = k }) b.after b.steps
                (sum (map statement_bulk c.body))
                → Paced (ground w n f (suc d) sp site.under site.top site.four) (record s { fuel = suc k })
                (record b.after { locals = with_locals xs ws (without_names (w.forgets h) s.locals) })
                (leap.steps + opened.steps + (b.steps + last)) 2
            both_ends last few_last fits few some few_leap short p =
                let q = pace (record s { locals = with_locals c.args vs no_locals; fuel = k }) b.after 0
                (leap.steps + opened.steps + last) b.steps 0 refl (omega arith) (omega arith) fits p in
                let a1 = q.takes in let a2 = q.least in let a3 = q.most in
                record { takes = a1; least = omega arith; most = omega arith }

            value_of : (ws registers4 : List ℕ) (x v : ℕ) → 3 ≤ x → x ≤ 31
                → ((i : ℕ) × (slice_get ws i ≡ Some v) × (x ≡ 10 + i) × (i < length xs))
                ⊎ ((without_names (w.forgets h) s.locals x ≡ Some v) × (is_in xs x ≡ false))
                → ((i u : ℕ) → slice_get ws i ≡ Some u → i < length xs → reads registers4 (10 + i) ≡ u)
                → ((y : ℕ) → 3 ≤ y → y ≤ 31 → is_in c.results y ≡ false → w.forgets h y ≡ false
                → reads registers4 y ≡ reads registers y)
                → reads registers4 x ≡ v
            value_of ws registers4 x v low high (inl (i, here, there, less)) passed_on through =
                ap (reads registers4) there ∙ passed_on i v here less
            value_of ws registers4 x v low high (inr (is, out)) passed_on through = forgotten (w.forgets h x) refl is
              where
                forgotten : (b : Bool) → w.forgets h x ≡ b → (if b then None else s.locals x) ≡ Some v
                    → reads registers4 x ≡ v
                forgotten true e is = absurd (cc)
                forgotten false e is = through x low high (subst (λ q. is_in q x ≡ false) site.same_xs out) e
                    ∙ stands.values x v low high is

            untouched_by : (registers4 : List ℕ) → length registers4 ≡ 32 → (y : ℕ) → y ≢ 2
                → touches w.targets.near w.forgets f y ≡ false
                → ((y : ℕ) → 3 ≤ y → y ≤ 31 → is_in c.results y ≡ false → w.forgets h y ≡ false
                → reads registers4 y ≡ reads registers y) → reads registers4 y ≡ reads registers y
            untouched_by registers4 all4 zero low out through = refl
            untouched_by registers4 all4 (suc zero) low out through = absurd (clash (sym site.linking ∙ out))
              where
                clash : true ≡ false → ⊥
                clash e = absurd (cc)
            untouched_by registers4 all4 (suc (suc zero)) low out through = absurd (low refl)
            untouched_by registers4 all4 (suc (suc (suc y))) low out through =
                let all = ready.is in
                let two = site.touched (suc (suc (suc y))) out in
                same_anywhere registers registers4
                (suc (suc (suc y))) all.registers all4 (λ high. through (suc (suc (suc y))) (omega arith) high
                (subst (λ q. is_in q (suc (suc (suc y))) ≡ false) site.same_xs two.0) two.1)
