-- Entries, in code: a call from outside.
use Rattle.std.proofs.Common.{not, ◌&&◌, nat_lt, ◌≡◌, ◌≢◌, ◌⊎◌, inl, inr, ℕ, zero, suc, ◌+◌, ◌-◌, ◌*◌, ◌%◌}
use Rattle.std.proofs.Common.{◌<◌, ◌≤◌, ◌||◌, List, [], ◌∷◌, ◌++◌, map, length, sum, Option, Some, None, Bool}
use Rattle.std.proofs.Common.{true, false, IsTrue, refl, sym, ap, subst, ◌∙◌, arith, append-nil, append_assoc}
use Rattle.std.specs.Prelude.{slice_get, slice_index, unwrap_or, IfSome}
use Rattle.br_words.specs.Words.{IsWord}
use Rattle.std.specs.List.{list_all, list_any, flat_map}
use Rattle.std.specs.FinMap as map
use Rattle.std.proofs.Math.Nat.{mul-le-mul_left, mul-le-mul_right}
use Rattle.br_words.specs.declared.layout.Layout.TheVariants.{Two}
use Rattle.br_bytes.specs.declared.run.Choice.{Choice}
use Rattle.br_bytes.specs.declared.run.Outcome.TheVariants as outcome
use Rattle.br_bytes.specs.Memory.{Memory}
use Rattle.br_bytes.specs.Buffers.{AreWords}
use Rattle.br_bytes.specs.Called.{Called}
use Rattle.br_bytes.specs.Runs.{End, Waiting, OutOfFuel, Undefined, NoChoice, Goes, Ends}
use Rattle.br_bytes.specs.Runs.{in_turn, back_in, returned, Stops, seen, outcome_of}
use Rattle.br_flatimp.specs.declared.program.FlatFunc.{FlatFunc}
use Rattle.br_flatimp.specs.declared.program.Stmt.{roll-Stmt}
use Rattle.br_flatimp.specs.declared.program.Stmt.TheOpen.{Stmt-F}
use Rattle.br_flatimp.specs.declared.program.Stmt.TheFolds.{fold-roll-Stmt}
use Rattle.br_flatimp.specs.Parts.{throughout, written, parts, callees, own_callees}
use Rattle.br_flatimp.specs.Values.{Locals, no_locals, with_locals, without_names, words_of}
use Rattle.br_flatimp.specs.WellFormed.{is_passing}
use Rattle.br_flatimp.specs.Liveness.{is_in}
use Rattle.br_flatimp.specs.Sizes.{statement_bulk, nest}
use Rattle.br_flatimp.specs.Runs as flat
use Rattle.br_flatimp.specs.Runs.{State, Run, Forgets, statement_step, enter, function_of, begin, call_forgetting}
use Rattle.br_rv32im.specs.declared.instruction.Ins.TheVariants.{Ecall, Upper}
use Rattle.br_rv32im.specs.declared.instruction.UpperOp.TheVariants.{Lui}
use Rattle.br_machine.specs.declared.stepped.Stepped.TheVariants as stepped
use Rattle.br_machine.specs.State.{MachineState, IsMachine}
use Rattle.br_machine.specs.Step.{step}
use Rattle.br_machine.specs.Steps.{Runs}
use Rattle.br_machine.specs.Start.{Leftover, IsLeftover, IsInData, start_ram, start}
use Rattle.br_emit.specs.Code.{Item, Does, stack_items, direct_items, call_items, entry_items}
use Rattle.br_emit.specs.Code.{all_items, keeps_link, changes, touches, written_names}
use Rattle.br_emit.specs.Laid.{Laid, EntryShown}
use Rattle.br_emit.specs.Reaches.{Reaches, HoldsResults, ShowsEnd, ShowsMemory}
use Rattle.br_emit.proofs.Stepping.{Table, machine, at, Good, reads, register-machine, step-at, within_code}
use Rattle.br_emit.proofs.Pieces.{Ground, Placed, placed-front, placed-back, runs-append}
use Rattle.br_emit.proofs.Pieces.{Stands, Kept, AtEnd, Shown, On, Out, Wrong, given}
use Rattle.br_emit.proofs.Setting.{lui_sets, ready_runs, good_of}
use Rattle.br_emit.proofs.Operations.{constant_sets}
use Rattle.br_emit.proofs.Passing.{Standing, words_stand, words_set, of_length, where_from}
use Rattle.br_emit.proofs.Statements.{all_simulate}
use Rattle.br_emit.proofs.Calls.{World, ground}
use Rattle.br_emit.proofs.Calling.{changes_of, Site, call_is, call_shown}
use Rattle.br_emit.proofs.Deep.{calls_at}
use Rattle.br_emit.proofs.Starting.{first_registers, args_stand, start_ready, start_held}

-- the data region, at an end
shows_memory : (b : ℕ) (m m' : Memory) (code registers registers' ram ram' : List ℕ) (j j' : ℕ)
    → ((a v : ℕ) → map.get m' a ≡ Some v → slice_index ram' (a - 0x80100000) ≡ v) → Kept b m m' ram ram'
    → ShowsMemory m' (machine code j registers ram) (machine code j' registers' ram')
shows_memory b m m' code registers registers' ram ram' j j' bytes kept a from to = by (map.get m' a) refl
  where
    by : (o : Option ℕ) → map.get m' a ≡ o
        → slice_index ram' (a - 0x80100000) ≡ unwrap_or o (slice_index ram (a - 0x80100000))
    by (Some v) e = bytes a v e
    by None e = kept.stays a (from, omega arith, inl to) e

shown_end : (how : End) (t : State) (fuel steps place : ℕ) (code registers ram : List ℕ)
    → AtEnd how t (at code place registers ram t.answers t.trace) → fuel ≤ t.fuel + steps
    → ShowsEnd (outcome_of how) fuel steps (at code place registers ram t.answers t.trace)
shown_end (Waiting a) t fuel steps place code registers ram shown least = shown
shown_end OutOfFuel t fuel steps place code registers ram shown least = omega arith
shown_end Undefined t fuel steps place code registers ram shown least = shown
shown_end NoChoice t fuel steps place code registers ram shown least = shown

-- ECALL ends the call
halts : (g : Ground) (registers ram : List ℕ) (j : ℕ) → Good g.code registers ram → Placed g.code j (Does Ecall ∷ [])
    → (next : Option ℕ) → (step (machine g.code j registers ram) next).1 ≡ stepped.Halted
halts g registers ram j good placed next =
    ap (λ q. q.1) (step-at g.table g.code registers ram j Ecall next good placed.0 placed.1)

reads_results : (ws registers : List ℕ) (code ram : List ℕ) (j : ℕ) → Standing 10 ws registers
    → HoldsResults ws (machine code j registers ram)
reads_results ws registers code ram j standing i v is =
    register-machine code registers ram j (10 + i) ∙ standing.at i v is

-- what is left to see, when a body has been shown and ECALL stands after it
pub finish : (g : Ground) (body : State → Run) (u : State) (results : List ℕ) (before place first end bulk bound fuel
    need : ℕ) (args answers registers : List ℕ) (m : Memory) (j : Leftover) (called : List Choice → Called)
    → u.memory ≡ m → u.trace ≡ [] → u.answers ≡ answers → fuel ≤ u.fuel
    → IsTrue (is_passing results) → length results ≤ 8
    → ((choices : List Choice) → called choices ≡ seen (returned (words_of results) (body (given u choices))))
    → g.low ≡ 0x80300000 - need
    → Runs g.low before (at g.code place (first_registers args j) (start_ram Two g.code m j) answers [])
    (at g.code first registers (start_ram Two g.code m j) answers [])
    → ((n used : ℕ) → n ≤ bulk + used * g.total → used ≤ u.fuel → before + n ≤ bound)
    → Placed g.code end (Does Ecall ∷ [])
    → Shown g body u (at g.code first registers (start_ram Two g.code m j) u.answers u.trace) (start_ram Two g.code m j)
    0x80300000 end bulk
    → EntryShown g.code (4 * place) args m answers j fuel need bound called
finish g body u results before place first end bulk bound fuel need args answers registers m j called is_m no_trace
    is_answers enough passing few called_is low_is runs within last (Wrong b) = (
      b.choices,
      b.chosen,
      inl (ap (λ c. c.outcome) (called_is b.choices
          ∙ ap (λ cs. seen (returned (words_of results) (body (given u cs)))) (sym (append-nil b.choices))
          ∙ ap (λ r. seen (returned (words_of results) r)) (b.ends []))),
    )
finish g body u results before place first end bulk bound fuel need args answers registers m j called is_m no_trace
    is_answers enough passing few called_is low_is runs within last (Out b) =
    let ram0 = start_ram Two g.code m j in
    let is : called b.choices ≡ seen (Stops b.how b.after) =
    called_is b.choices ∙ ap (λ cs. seen (returned (words_of results) (body (given u cs)))) (sym (append-nil b.choices))
    ∙ ap (λ r. seen (returned (words_of results) r)) (b.ends []) in
    let a1 = b.paced.takes in let a2 = b.paced.least in let a3 = b.paced.most in
    let runs2 = subst (λ q. Runs g.low b.steps (at g.code first registers ram0 q u.trace)
    (at g.code b.place b.registers b.ram' b.after.answers b.after.trace)) is_answers b.runs in
    let runs3 = subst (λ q. Runs g.low b.steps (at g.code first registers ram0 answers q)
    (at g.code b.place b.registers b.ram' b.after.answers b.after.trace)) no_trace runs2 in
    let reaches : Reaches (start Two g.code (4 * place) args m j) answers (outcome_of b.how) b.after.trace
    b.after.memory fuel need bound = record {
      steps = before + b.steps;
      within = within b.steps (u.fuel - b.after.fuel) a3 (omega arith);
      last = at g.code b.place b.registers b.ram' b.after.answers b.after.trace;
      runs = subst (λ q. Runs q (before + b.steps) (at g.code place (first_registers args j) ram0 answers [])
          (at g.code b.place b.registers b.ram' b.after.answers b.after.trace)) low_is
          (runs-append g.low before b.steps (at g.code place (first_registers args j) ram0 answers [])
          (at g.code first registers ram0 answers [])
          (at g.code b.place b.registers b.ram' b.after.answers b.after.trace) runs runs3);
      shows_trace = refl;
      shows_memory = shows_memory 0x80300000 u.memory b.after.memory g.code (first_registers args j) b.registers ram0
          b.ram' place b.place b.bytes b.kept;
      shows_end =
          shown_end b.how b.after fuel (before + b.steps) b.place g.code b.registers b.ram' b.shown (omega arith);
    } in (
      b.choices,
      b.chosen,
      inr (subst (λ k. Reaches (start Two g.code (4 * place) args m j) answers k.outcome k.trace
          k.memory fuel need bound) (sym is) reaches),
    )
finish g body u results before place first end bulk bound fuel need args answers registers m j called is_m no_trace
    is_answers enough passing few called_is low_is runs within last (On b) = by (words_of results b.after.locals) refl
  where
    by : (o : Option (List ℕ)) → words_of results b.after.locals ≡ o
        → EntryShown g.code (4 * place) args m answers j fuel need bound called
    by None e = (
      b.choices,
      b.chosen,
      inl (ap (λ c. c.outcome) (called_is b.choices
          ∙ ap (λ cs. seen (returned (words_of results) (body (given u cs)))) (sym (append-nil b.choices))
          ∙ ap (λ r. seen (returned (words_of results) r)) (b.goes [])) ∙ rw e refl),
    )
    by (Some ws) e =
        let ram0 = start_ram Two g.code m j in
        let is : called b.choices ≡ seen (returned (words_of results) (Goes (given b.after []))) =
        called_is b.choices
        ∙ ap (λ cs. seen (returned (words_of results) (body (given u cs)))) (sym (append-nil b.choices))
        ∙ ap (λ r. seen (returned (words_of results) r)) (b.goes []) in
        let is2 : called b.choices
        ≡ record { outcome = outcome.Done ws; trace = b.after.trace; memory = b.after.memory } = is ∙ (rw e refl) in
        let a1 = b.paced.takes in let a2 = b.paced.least in let a3 = b.paced.most in
        let good = good_of g.code b.registers b.ram' b.after.answers end b.ready in
        let standing = words_stand 10 results ws b.after.locals b.registers passing e
        (λ x v low high is. b.stands.values x v (omega arith) (omega arith) is) in
        let runs2 = subst (λ q. Runs g.low b.steps (at g.code first registers ram0 q u.trace)
        (at g.code end b.registers b.ram' b.after.answers b.after.trace)) is_answers b.runs in
        let runs3 = subst (λ q. Runs g.low b.steps (at g.code first registers ram0 answers q)
        (at g.code end b.registers b.ram' b.after.answers b.after.trace)) no_trace runs2 in
        let reaches : Reaches (start Two g.code (4 * place) args m j) answers (outcome.Done ws) b.after.trace
        b.after.memory fuel need bound = record {
          steps = before + b.steps;
          within = within b.steps (u.fuel - b.after.fuel) a3 (omega arith);
          last = at g.code end b.registers b.ram' b.after.answers b.after.trace;
          runs = subst (λ q. Runs q (before + b.steps) (at g.code place (first_registers args j) ram0 answers [])
              (at g.code end b.registers b.ram' b.after.answers b.after.trace)) low_is
              (runs-append g.low before b.steps
              (at g.code place (first_registers args j) ram0 answers []) (at g.code first registers ram0 answers [])
              (at g.code end b.registers b.ram' b.after.answers b.after.trace) runs runs3);
          shows_trace = refl;
          shows_memory = shows_memory 0x80300000 u.memory b.after.memory g.code (first_registers args j) b.registers
              ram0 b.ram' place end b.stands.held.bytes b.kept;
          shows_end =
              (halts g b.registers b.ram' end good last, reads_results ws b.registers g.code b.ram' end standing);
        } in (
          b.choices,
          b.chosen,
          inr (subst (λ k. Reaches (start Two g.code (4 * place) args m j) answers k.outcome k.trace
              k.memory fuel need bound) (sym is2) reaches),
        )

-- ---- bounds

mul_le : (a b c : ℕ) → a ≤ b → a * c ≤ b * c
mul_le a b c le = mul-le-mul_right c le

mul_le_right : (a b c : ℕ) → b ≤ c → a * b ≤ a * c
mul_le_right a b c le = mul-le-mul_left a le

-- the steps of a call that a bound allows
bounded : (total all before bulk fuel n used : ℕ) → n ≤ bulk + used * total → before ≤ 4 → 16 + total ≤ all
    → 80 + bulk ≤ total → used ≤ fuel → before + n ≤ (fuel + 1) * all
bounded total all before bulk fuel n used h few more fits le =
    let one = mul_le used fuel total le in
    let two = mul_le_right fuel total all (omega arith) in
    let product : (fuel + 1) * all ≡ fuel * all + all = grind arith in
    omega (arith, product)

-- the same of a call that took a unit of fuel of its own
bounded_call : (total all before fuel n used : ℕ) → n ≤ 2 + used * total → before ≤ 4 → 16 + total ≤ all
    → used ≤ suc fuel → before + n ≤ (fuel + 1) * all
bounded_call total all before fuel n zero h few more le =
    let product : (fuel + 1) * all ≡ fuel * all + all = grind arith in
    omega (arith, product)
bounded_call total all before fuel n (suc used) h few more le =
    let one = mul_le used fuel total (omega arith) in
    let two = mul_le_right fuel total all (omega arith) in
    let step : suc used * total ≡ total + used * total = grind arith in
    let product : (fuel + 1) * all ≡ fuel * all + all = grind arith in
    omega (arith, step, product)

-- ---- a function that is an entry alone

direct_under : (low nest limit : ℕ) → low + nest + limit ≤ 0x80300000 → low ≤ 0x80300000 - nest
direct_under low nest limit h = omega arith

direct_top : (nest : ℕ) → 0x80300000 - nest ≤ 0x80300000
direct_top nest = omega arith

direct_four : (nest : ℕ) → nest % 4 ≡ 0 → nest ≤ 0x80300000 → (0x80300000 - nest) % 4 ≡ 0
direct_four nest h le = omega arith

direct_room : (low nest limit : ℕ) → low + nest + limit ≤ 0x80300000 → low + limit ≤ 0x80300000 - nest
direct_room low nest limit h = omega arith

args_value : (args xs registers registers0 : List ℕ) (x v : ℕ) → IsTrue (is_passing xs)
    → length xs ≡ length args → 3 ≤ x
    → ((y : ℕ) → y ≢ 2 → reads registers y ≡ reads registers0 y) → Standing 10 args registers0
    → with_locals xs args no_locals x ≡ Some v → reads registers x ≡ v
args_value args xs registers registers0 x v passing size low others standing is =
    by (where_from 10 xs args no_locals x v passing size is).from
  where
    by : ((i : ℕ) × (slice_get args i ≡ Some v) × (x ≡ 10 + i) × (i < length xs))
        ⊎ ((no_locals x ≡ Some v) × (is_in xs x ≡ false)) → reads registers x ≡ v
    by (inl (i, here, at_is, less)) = others x (omega arith) ∙ ap (reads registers0) at_is ∙ standing.at i v here
    by (inr (none, out)) = absurd (clash none)
      where
        clash : None ≡ Some v → ⊥
        clash e = absurd (cc)

near_start : (code : List ℕ) (place : ℕ) (i : Item) (is : List Item) → Placed code place (i ∷ is)
    → length code ≤ 1048576 → place < 1048576
near_start code place i is placed few = let here = within_code code place _ placed.0 in omega arith

placed_near : (code : List ℕ) (place : ℕ) (is : List Item) → Placed code place (is ++ Does Ecall ∷ [])
    → length code ≤ 1048576 → place < 1048576
placed_near code place [] placed few = near_start code place (Does Ecall) [] placed few
placed_near code place (i ∷ is) placed few = near_start code place i (is ++ Does Ecall ∷ []) placed few

pub direct_shown : (w : World) (n : ℕ) (f : FlatFunc) (place all need fuel : ℕ) → slice_get w.fs n ≡ Some f
    → Placed w.code place (direct_items w.targets f) → length w.code ≤ 1048576
    → w.low + nest f + w.limit n ≤ 0x80300000 → 16 + w.total ≤ all → w.low ≡ 0x80300000 - need
    → (args : List ℕ) → length args ≡ length f.args → AreWords args
    → (m : Memory) → IsInData m → (answers : List ℕ) → AreWords answers → (j : Leftover) → IsLeftover j
    → EntryShown w.code (4 * place) args m answers j fuel need ((fuel + 1) * all)
    (λ choices. call_forgetting w.forgets w.fs n args m answers choices fuel)
direct_shown w n f place all need fuel there placed few room more low_is args count words m data_is answers
    words' j left =
    let fn = w.functions n f there in
    let few_args = fn.few_args in
    let bottom = w.bottom in
    let stack = stack_items f in
    let items = all_items w.targets f.body (nest f) in
    let p1 = placed-front w.code place stack (items ++ Does Ecall ∷ []) placed in
    let p2 = placed-back w.code place stack (items ++ Does Ecall ∷ []) placed in
    let whole : (stack ++ items) ++ Does Ecall ∷ [] ≡ stack ++ (items ++ Does Ecall ∷ []) =
    append_assoc stack items (Does Ecall ∷ []) in
    let near = placed_near w.code place (stack ++ items) (subst (Placed w.code place) (sym whole) placed) few in
    let sp = 0x80300000 - nest f in
    let under = direct_under w.low (nest f) (w.limit n) room in
    let top = direct_top (nest f) in
    let four = direct_four (nest f) fn.fours (omega arith) in
    let g = ground w n f fuel sp under top four in
    let registers0 = first_registers args j in
    let ram0 = start_ram Two w.code m j in
    let ready0 = start_ready w.code args answers m j place few near left data_is words words' in
    let good0 = good_of w.code registers0 ram0 answers place ready0 in
    let set = constant_sets g place registers0 ram0 answers [] 2 sp good0 p1 (omega arith) in
    let sets = set.sets in
    let k = place + length stack in
    let ready1 = ready_runs g registers0 ram0 answers sets.registers' ram0 answers [] [] place k set.steps
    ready0 sets.runs in
    let base : sp + nest f ≡ 0x80300000 = omega arith in
    let standing = args_stand args j left (omega arith) in
    let u0 : State = record (begin m answers [] fuel) { locals = with_locals f.args args no_locals } in
    let stands1 : Stands (sp + nest f) sp u0 sets.registers' ram0 = record {
      values = λ x v low high is.
          args_value args f.args sets.registers' registers0 x v fn.args (sym count) low sets.others standing is;
      held = start_held w.code m j (sp + nest f) left data_is;
      pointer = sets.value;
    } in
    let body : State → Run = in_turn (map (flat.run w.forgets (function_of w.forgets w.fs fuel)) f.body) in
    let sim = all_simulate g w.targets w.forgets (function_of w.forgets w.fs fuel) w.fs
    (calls_at w fuel n f sp under top four (direct_room w.low (nest f) (w.limit n) room) there) f.body fn.body
    (let bulk = fn.bulk in omega arith) in
    let q1 = placed-front w.code k items (Does Ecall ∷ []) p2 in
    let q2 = placed-back w.code k items (Does Ecall ∷ []) p2 in
    let run = sim (nest f) k u0 sets.registers' ram0 (omega arith) fn.fours (omega arith) (omega arith) q1
    ready1 stands1 in
    let run' = subst (λ b. Shown g body u0 (at w.code k sets.registers' ram0 answers []) ram0 b (k + length items)
    (sum (map statement_bulk f.body))) base run in
    let bulk = fn.bulk in
    let before = set.few in
    finish g body u0 f.results set.steps place k (k + length items) (sum (map statement_bulk f.body)) ((fuel + 1) * all)
    fuel need args answers sets.registers' m j
    (λ choices. call_forgetting w.forgets w.fs n args m answers choices fuel) refl refl refl (omega arith) fn.results
    fn.few_results
    (λ choices.
    ap (λ o. seen (enter w.forgets (function_of w.forgets w.fs fuel) o args (begin m answers choices fuel))) there)
    low_is sets.runs (λ n used h le. bounded w.total all set.steps (sum (map statement_bulk f.body)) fuel n used h
    (omega arith) more bulk le) q2 run'

-- ---- an entry whose function is called

-- a function that calls another and hands its results on
abbrev caller_of : ℕ → FlatFunc → FlatFunc
caller_of n f = record {
  name = [];
  args = f.args;
  results = f.results;
  names = 32;
  body = roll-Stmt (Stmt-F.Call f.results n f.args) ∷ [];
}

caller_writes : (n : ℕ) (f : FlatFunc) → written_names (caller_of n f) ≡ f.results
caller_writes n f =
    ap (λ q. q ++ []) (fold-roll-Stmt (List ℕ) (λ y. written y ++ flat_map (flat_map (λ xs. xs)) (parts y))
    (Stmt-F.Call f.results n f.args))
    ∙ append-nil (f.results ++ []) ∙ append-nil f.results

caller_calls : (n : ℕ) (f : FlatFunc) → callees (caller_of n f) ≡ n ∷ []
caller_calls n f =
    ap (λ q. q ++ []) (fold-roll-Stmt (List ℕ) (λ y. own_callees y ++ flat_map (flat_map (λ xs. xs)) (parts y))
    (Stmt-F.Call f.results n f.args))

caller_touches : (forgets : Forgets) (n : ℕ) (f : FlatFunc) (y : ℕ) → changes forgets (caller_of n f) y ≡ false
    → (is_in f.results y ≡ false) × (forgets n y ≡ false)
caller_touches forgets n f y out =
    neither (is_in f.results y) (forgets n y)
    (sym (ap (λ q. is_in q y || list_any (λ g. forgets g y) (callees (caller_of n f))) (caller_writes n f)
    ∙ ap (λ q. is_in f.results y || list_any (λ g. forgets g y) q) (caller_calls n f)) ∙ out)
  where
    neither : (p q : Bool) → (p || (q || false)) ≡ false → (p ≡ false) × (q ≡ false)
    neither false false e = (refl, refl)
    neither false true e = absurd (cc)
    neither true q e = absurd (cc)

caller_links : (near : Bool) (forgets : Forgets) (n : ℕ) (f : FlatFunc) → touches near forgets (caller_of n f) 1 ≡ true
caller_links near forgets n f =
    let calls : throughout keeps_link (roll-Stmt (Stmt-F.Call f.results n f.args)) ≡ false = fold-roll-Stmt Bool
    (λ y. keeps_link y && list_all (list_all (λ ok. ok)) (parts y)) (Stmt-F.Call f.results n f.args) in
    ap (λ b. changes forgets (caller_of n f) 1 || (not near || (not (b && true) || nat_lt 2047 (nest (caller_of n f)))))
    calls ∙ or_or (changes forgets (caller_of n f) 1) (not near)
  where
    or_or : (a b : Bool) → (a || (b || true)) ≡ true
    or_or true b = refl
    or_or false true = refl
    or_or false false = refl

-- results that are handed on are seen as they were
handed_on : (xs : List ℕ) (outer : Locals) (r : Run)
    → IsTrue (is_passing xs) → seen (returned (words_of xs) (back_in (with_locals xs) outer (returned (words_of xs) r)))
    ≡ seen (returned (words_of xs) r)
handed_on xs outer (Ends end t) passing = refl
handed_on xs outer (Goes t) passing = by (words_of xs t.locals) refl
  where
    by : (o : Option (List ℕ)) → words_of xs t.locals ≡ o
        → seen (returned (words_of xs) (back_in (with_locals xs) outer (returned (words_of xs) (Goes t))))
        ≡ seen (returned (words_of xs) (Goes t))
    by None e = rw e refl
    by (Some ws) e = let set = words_set 10 xs ws outer passing (of_length xs ws t.locals e) in rw (e, set) refl

pub called_shown : (w : World) (n : ℕ) (f : FlatFunc) (place all need fuel : ℕ) → slice_get w.fs n ≡ Some f
    → w.called n ≡ true → Placed w.code place (entry_items w.targets.near (w.targets.at n)) → length w.code ≤ 1048576
    → w.low + w.need n ≤ 0x80300000 → 16 + w.total ≤ all → w.low ≡ 0x80300000 - need
    → (args : List ℕ) → length args ≡ length f.args → AreWords args
    → (m : Memory) → IsInData m → (answers : List ℕ) → AreWords answers → (j : Leftover) → IsLeftover j
    → EntryShown w.code (4 * place) args m answers j fuel need ((fuel + 1) * all)
    (λ choices. call_forgetting w.forgets w.fs n args m answers choices fuel)
called_shown w n f place all need fuel there is_called placed few room more low_is args count words m data_is answers
    words' j left =
    let fn = w.functions n f there in
    let few_args = fn.few_args in
    let bottom = w.bottom in
    let sp : ℕ = 0x80300000 in
    let c = caller_of n f in
    let near = near_start w.code place (Does (Upper Lui 2 0x80300))
    (call_items w.targets.near (w.targets.at n) ++ Does Ecall ∷ []) placed few in
    let site : Site w 0 c 0x80300000 f.results f.args n f = record {
      under = omega arith;
      top = omega arith;
      four = omega arith;
      callee = there;
      is_called = is_called;
      room = room;
      passing_xs = fn.results;
      passing_ys = fn.args;
      same_xs = refl;
      same_ys = refl;
      linking = caller_links w.targets.near w.forgets n f;
      touched = λ y out. caller_touches w.forgets n f y (changes_of w.targets.near w.forgets c y out);
    } in
    let g = ground w 0 c (suc fuel) 0x80300000 site.under site.top site.four in
    let registers0 = first_registers args j in
    let ram0 = start_ram Two w.code m j in
    let ready0 = start_ready w.code args answers m j place few near left data_is words words' in
    let good0 = good_of w.code registers0 ram0 answers place ready0 in
    let sets = lui_sets g place registers0 ram0 answers [] 2 0x80300 good0 placed.0 placed.1 (omega arith) in
    let ready1 = ready_runs g registers0 ram0 answers sets.registers' ram0 answers [] [] place (place + 1) 1
    ready0 sets.runs in
    let standing = args_stand args j left (omega arith) in
    let s : State = record (begin m answers [] fuel) { locals = with_locals f.args args no_locals } in
    let stands1 : Stands (0x80300000 + 0) 0x80300000 s sets.registers' ram0 = record {
      values = λ x v low high is.
          args_value args f.args sets.registers' registers0 x v fn.args (sym count) low sets.others standing is;
      held = start_held w.code m j (0x80300000 + 0) left data_is;
      pointer = sets.value;
    } in
    let is_words : words_of f.args s.locals ≡ Some args = words_set 10 f.args args no_locals fn.args (sym count) in
    let p1 = placed-front w.code (place + 1) (call_items w.targets.near (w.targets.at n)) (Does Ecall ∷ []) placed.2 in
    let p2 = placed-back w.code (place + 1) (call_items w.targets.near (w.targets.at n)) (Does Ecall ∷ []) placed.2 in
    let call : State → Run =
    statement_step w.forgets (function_of w.forgets w.fs (suc fuel)) (Stmt-F.Call f.results n f.args) in
    let run = call_shown w 0 c 0x80300000 f.results f.args n f fuel site (calls_at w fuel) 0 (place + 1) fuel s
    sets.registers' ram0 args (omega arith) (omega arith) is_words p1 ready1 stands1 in
    let outer = without_names (w.forgets n) s.locals in
    finish g call (record s { fuel = suc fuel }) f.results 1 place (place + 1)
    (place + 1 + length (call_items w.targets.near (w.targets.at n))) 2 ((fuel + 1) * all) fuel need args answers
    sets.registers' m j
    (λ choices. call_forgetting w.forgets w.fs n args m answers choices fuel) refl refl refl (omega arith) fn.results
    fn.few_results
    (λ choices.
    ap (λ o. seen (enter w.forgets (function_of w.forgets w.fs fuel) o args (begin m answers choices fuel))) there
    ∙ sym (handed_on f.results outer
    (in_turn (map (flat.run w.forgets (function_of w.forgets w.fs fuel)) f.body) (given s choices)) fn.results)
    ∙ sym (ap (λ r. seen (returned (words_of f.results) r))
    (call_is w 0 c 0x80300000 f.results f.args n f fuel site fuel s args is_words choices)))
    low_is sets.runs (λ k used h le. bounded_call w.total all 1 fuel k used h (omega arith) more le) p2 run

-- ---- laid programs

abbrev pub world : (l : Laid) → Table
    → ((s : MachineState) (next : Option ℕ) → IsMachine s → IfSome next IsWord → IsMachine (step s next).0) → World
world l table makes = record {
  code = l.code;
  low = l.low;
  total = l.total;
  table = table;
  makes = makes;
  fs = l.fs;
  targets = l.targets;
  forgets = l.forgets;
  called = l.called;
  need = l.need;
  limit = l.limit;
  bottom = l.bottom;
  reach = l.reach;
  functions = l.functions;
}
