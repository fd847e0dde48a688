-- Conditionals and loops, in code.
use Rattle.std.proofs.Common.{◌≡◌, ◌⊎◌, inl, inr, ℕ, zero, suc, ◌+◌, ◌<◌, ◌≤◌, ◌==◌, not}
use Rattle.std.proofs.Common.{if◌then◌else◌, max, List, [], ◌∷◌, ◌++◌, length, Option, Some, None}
use Rattle.std.proofs.Common.{Bool, true, false, IsTrue, refl, ap, subst, ◌∙◌, arith, length-append}
use Rattle.std.specs.Prelude.{slice_get}
use Rattle.br_words.specs.Words.{flag}
use Rattle.br_bytes.specs.declared.run.Event.{Event}
use Rattle.br_bytes.specs.declared.run.Choice.{Choice}
use Rattle.br_bytes.specs.Runs.{with_defined, choose}
use Rattle.br_flatimp.specs.declared.program.Cond.{Cond}
use Rattle.br_flatimp.specs.declared.program.Cond.TheVariants.{NonZero, Compare}
use Rattle.br_flatimp.specs.declared.program.Rel.{Rel}
use Rattle.br_flatimp.specs.declared.program.Rel.TheVariants as rel
use Rattle.br_flatimp.specs.Values.{compares, compared, test_word}
use Rattle.br_flatimp.specs.Parts.{test_names}
use Rattle.br_flatimp.specs.WellFormed.{are_registers}
use Rattle.br_flatimp.specs.Runs.{State, Run}
use Rattle.br_machine.specs.Arithmetic.{is_taken}
use Rattle.br_machine.specs.Steps.{Moment}
use Rattle.br_emit.specs.Code.{Item, Branching, otherwise, related, branching, over_items, skip_items, if_items}
use Rattle.br_emit.proofs.Stepping.{at, Good, reads}
use Rattle.br_emit.proofs.Pieces.{untouched_rests, other_rests, Ground, Placed, placed-front, placed-back, runs-append}
use Rattle.br_emit.proofs.Pieces.{Ready, Stands, Kept, Paced, WentOn, Shown, On, Out, Wrong, Simulates, given}
use Rattle.br_emit.proofs.Setting.{ready_runs, good_of}
use Rattle.br_emit.proofs.Leaves.{first_name, name_value, wrong_at_once}
use Rattle.br_emit.proofs.Jumping.{Moves, over_jumps, takes, taken-opposite, skip_moves, skip_some}

-- ---- moves before and after a run

-- a run that is the same from these states
pub shown_as : (g : Ground) (f h : State → Run) (s : State) (m : Moment) (ram : List ℕ) (b end bulk : ℕ)
    → ((rest : List Choice) → f (given s rest) ≡ h (given s rest)) → Shown g h s m ram b end bulk
    → Shown g f s m ram b end bulk
shown_as g f h s m ram b end bulk same (On w) = On (record {
  choices = w.choices;
  chosen = w.chosen;
  after = w.after;
  goes = λ rest. same (w.choices ++ rest) ∙ w.goes rest;
  registers = w.registers;
  ram' = w.ram';
  steps = w.steps;
  runs = w.runs;
  ready = w.ready;
  stands = w.stands;
  untouched = w.untouched;
  kept = w.kept;
  paced = w.paced;
})
shown_as g f h s m ram b end bulk same (Out w) = Out (record {
  choices = w.choices;
  chosen = w.chosen;
  after = w.after;
  how = w.how;
  ends = λ rest. same (w.choices ++ rest) ∙ w.ends rest;
  registers = w.registers;
  ram' = w.ram';
  place = w.place;
  steps = w.steps;
  runs = w.runs;
  bytes = w.bytes;
  kept = w.kept;
  paced = w.paced;
  shown = w.shown;
})
shown_as g f h s m ram b end bulk same (Wrong w) = Wrong (record {
  choices = w.choices;
  chosen = w.chosen;
  after = w.after;
  ends = λ rest. same (w.choices ++ rest) ∙ w.ends rest;
})

pub stands_moves : (g : Ground) (b j to limit : ℕ) (s : State) (registers ram answers : List ℕ) (trace : List Event)
    → Stands b g.sp s registers ram
    → (m : Moves g j to registers ram answers trace limit) → Stands b g.sp s m.registers' ram
stands_moves g b j to limit s registers ram answers trace stands m = record {
  values = λ x v low high is. m.others x (other_rests g x (omega arith)) ∙ stands.values x v low high is;
  held = stands.held;
  pointer = m.others 2 (other_rests g 2 (omega arith)) ∙ stands.pointer;
}

pub ready_moves : (g : Ground) (j to limit : ℕ) (registers ram answers : List ℕ) (trace : List Event)
    → Ready g.code registers ram answers j
    → (m : Moves g j to registers ram answers trace limit) → Ready g.code m.registers' ram answers to
ready_moves g j to limit registers ram answers trace ready m =
    ready_runs g registers ram answers m.registers' ram answers trace trace j to m.steps ready m.runs

-- how fast it is with some steps before, from a state that may have spent fuel
abbrev pub Before : Ground → State → State → ℕ → ℕ → ℕ → Type 0
Before g s t steps bulk bulk' = (u : State) (n : ℕ) → Paced g t u n bulk → Paced g s u (steps + n) bulk'

-- some steps, and then a run
pub moves_first : (g : Ground) (f h : State → Run) (s t : State) (registers ram : List ℕ)
    (b j to end limit bulk bulk' : ℕ)
    → (m : Moves g j to registers ram s.answers s.trace limit)
    → ((rest : List Choice) → f (given s rest) ≡ h (given t rest)) → t.memory ≡ s.memory
    → Before g s t m.steps bulk bulk'
    → Shown g h t (at g.code to m.registers' ram s.answers s.trace) ram b end bulk
    → Shown g f s (at g.code j registers ram s.answers s.trace) ram b end bulk'
moves_first g f h s t registers ram b j to end limit bulk bulk' m same memory before (On w) = On (record {
  choices = w.choices;
  chosen = w.chosen;
  after = w.after;
  goes = λ rest. same (w.choices ++ rest) ∙ w.goes rest;
  registers = w.registers;
  ram' = w.ram';
  steps = m.steps + w.steps;
  runs = runs-append g.low m.steps w.steps (at g.code j registers ram s.answers s.trace) (at g.code to m.registers' ram
      s.answers s.trace) (at g.code end w.registers w.ram' w.after.answers w.after.trace) m.runs w.runs;
  ready = w.ready;
  stands = w.stands;
  untouched = λ y low out. w.untouched y low out ∙ m.others y (untouched_rests g y out);
  kept = subst (λ q. Kept b q w.after.memory ram w.ram') memory w.kept;
  paced = before w.after w.steps w.paced;
})
moves_first g f h s t registers ram b j to end limit bulk bulk' m same memory before (Out w) = Out (record {
  choices = w.choices;
  chosen = w.chosen;
  after = w.after;
  how = w.how;
  ends = λ rest. same (w.choices ++ rest) ∙ w.ends rest;
  registers = w.registers;
  ram' = w.ram';
  place = w.place;
  steps = m.steps + w.steps;
  runs = runs-append g.low m.steps w.steps (at g.code j registers ram s.answers s.trace) (at g.code to m.registers' ram
      s.answers s.trace) (at g.code w.place w.registers w.ram' w.after.answers w.after.trace) m.runs w.runs;
  bytes = w.bytes;
  kept = subst (λ q. Kept b q w.after.memory ram w.ram') memory w.kept;
  paced = before w.after w.steps w.paced;
  shown = w.shown;
})
moves_first g f h s t registers ram b j to end limit bulk bulk' m same memory before (Wrong w) = Wrong (record {
  choices = w.choices;
  chosen = w.chosen;
  after = w.after;
  ends = λ rest. same (w.choices ++ rest) ∙ w.ends rest;
})

pub before_same : (g : Ground) (s : State) (steps limit bulk bulk' : ℕ) → steps ≤ limit → limit + bulk ≤ bulk'
    → Before g s s steps bulk bulk'
before_same g s steps limit bulk bulk' few fits u n p =
    let a = p.takes in let b = p.least in let c = p.most in
    record { takes = a; least = omega arith; most = omega arith }

-- a run, and then some steps
pub moves_last : (g : Ground) (f : State → Run) (s : State) (m : Moment) (ram : List ℕ) (b middle end bulk limit : ℕ)
    → Shown g f s m ram b middle bulk
    → ((w : WentOn g f s m ram b middle bulk)
    → Moves g middle end w.registers w.ram' w.after.answers w.after.trace limit)
    → Shown g f s m ram b end (bulk + limit)
moves_last g f s m ram b middle end bulk limit (On w) moves =
    let n = moves w in
    let few = n.few in
    let a1 = w.paced.takes in let a2 = w.paced.least in let a3 = w.paced.most in
    On (record {
      choices = w.choices;
      chosen = w.chosen;
      after = w.after;
      goes = w.goes;
      registers = n.registers';
      ram' = w.ram';
      steps = w.steps + n.steps;
      runs = runs-append g.low w.steps n.steps m (at g.code middle w.registers w.ram' w.after.answers w.after.trace)
          (at g.code end n.registers' w.ram' w.after.answers w.after.trace) w.runs n.runs;
      ready = ready_moves g middle end limit w.registers w.ram' w.after.answers w.after.trace w.ready n;
      stands = stands_moves g b middle end limit w.after w.registers w.ram' w.after.answers w.after.trace w.stands n;
      untouched = λ y low out. n.others y (untouched_rests g y out) ∙ w.untouched y low out;
      kept = w.kept;
      paced = record { takes = a1; least = omega arith; most = omega arith };
    })
moves_last g f s m ram b middle end bulk limit (Out w) moves =
    let a1 = w.paced.takes in let a2 = w.paced.least in let a3 = w.paced.most in
    Out (record {
      choices = w.choices;
      chosen = w.chosen;
      after = w.after;
      how = w.how;
      ends = w.ends;
      registers = w.registers;
      ram' = w.ram';
      place = w.place;
      steps = w.steps;
      runs = w.runs;
      bytes = w.bytes;
      kept = w.kept;
      paced = record { takes = a1; least = a2; most = omega arith };
      shown = w.shown;
    })
moves_last g f s m ram b middle end bulk limit (Wrong w) moves = Wrong w

-- more steps are allowed
pub shown_wider : (g : Ground) (f : State → Run) (s : State) (m : Moment) (ram : List ℕ) (b end bulk bulk' : ℕ)
    → bulk ≤ bulk' → Shown g f s m ram b end bulk → Shown g f s m ram b end bulk'
shown_wider g f s m ram b end bulk bulk' le (On w) =
    let a3 = w.paced.most in
    On (record {
      choices = w.choices;
      chosen = w.chosen;
      after = w.after;
      goes = w.goes;
      registers = w.registers;
      ram' = w.ram';
      steps = w.steps;
      runs = w.runs;
      ready = w.ready;
      stands = w.stands;
      untouched = w.untouched;
      kept = w.kept;
      paced = record { takes = w.paced.takes; least = w.paced.least; most = omega arith };
    })
shown_wider g f s m ram b end bulk bulk' le (Out w) =
    let a3 = w.paced.most in
    Out (record {
      choices = w.choices;
      chosen = w.chosen;
      after = w.after;
      how = w.how;
      ends = w.ends;
      registers = w.registers;
      ram' = w.ram';
      place = w.place;
      steps = w.steps;
      runs = w.runs;
      bytes = w.bytes;
      kept = w.kept;
      paced = record { takes = w.paced.takes; least = w.paced.least; most = omega arith };
      shown = w.shown;
    })
shown_wider g f s m ram b end bulk bulk' le (Wrong w) = Wrong w

-- ---- tests

flag_not_zero : (t : Bool) → t ≡ not (flag t == 0)
flag_not_zero true = refl
flag_not_zero false = refl

related_takes : (r : Rel) (a b : ℕ) → is_taken (related r) a b ≡ compares r a b
related_takes rel.Eq a b = refl
related_takes rel.Ne a b = refl
related_takes rel.Lts a b = refl
related_takes rel.Ges a b = refl
related_takes rel.Ltu a b = refl
related_takes rel.Geu a b = refl

-- the branch of a test is taken where the test's word is not 0
pub test_takes : (g : Ground) (b v : ℕ) (test : Cond) (s : State) (registers ram : List ℕ)
    → IsTrue (are_registers (test_names test)) → Stands b g.sp s registers ram → test_word test s.locals ≡ Some v
    → takes (branching test) registers ≡ not (v == 0)
test_takes g b v (NonZero x) s registers ram named stands is =
    ap (λ q. not (q == 0)) (name_value s b g.sp registers ram x v stands (first_name x [] named).0 is)
test_takes g b v (Compare r x y) s registers ram named stands is = by (s.locals x) (s.locals y) refl refl is
  where
    by : (o p : Option ℕ) → s.locals x ≡ o → s.locals y ≡ p → compared r o p ≡ Some v
        → is_taken (related r) (reads registers x) (reads registers y) ≡ not (v == 0)
    by None p e k h = absurd (cc)
    by (Some a) None e k h = absurd (cc)
    by (Some a) (Some c) e k h =
        let two = first_name x (y ∷ []) named in
        let other = (first_name y [] two.1).0 in
        let value : flag (compares r a c) ≡ v = cc in
        ap (λ q. is_taken (related r) q (reads registers y)) (name_value s b g.sp registers ram x a stands two.0 e)
        ∙ ap (λ q. is_taken (related r) a q) (name_value s b g.sp registers ram y c stands other k)
        ∙ related_takes r a c ∙ flag_not_zero (compares r a c) ∙ ap (λ q. not (q == 0)) value

-- ---- conditionals

abbrev pub tested : Cond → (State → Run) → (State → Run) → State → Run
tested test first second s = with_defined (test_word test s.locals) s (λ v. choose (v == 0) (second s) (first s))

pub placed_within : (code : List ℕ) (j : ℕ) (is : List Item) → Placed code j is
    → (is ≡ []) ⊎ (j + length is ≤ length code)
placed_within code j [] h = inl refl
placed_within code j (i ∷ is) h = inr (by (placed_within code (j + 1) is h.2))
  where
    inside : (code : List ℕ) (j w : ℕ) → slice_get code j ≡ Some w → j < length code
    inside [] j w h = absurd (cc)
    inside (c ∷ code) zero w h = omega arith
    inside (c ∷ code) (suc j) w h = omega (arith, inside code j w h)

    by : (is ≡ []) ⊎ (j + 1 + length is ≤ length code) → j + suc (length is) ≤ length code
    by (inl e) = let none = ap length e in omega (arith, inside code j _ h.0)
    by (inr l) = omega arith

-- a list of items is taken apart
abbrev IfClaim : Ground → Cond → (State → Run) → (State → Run) → State → List ℕ → List ℕ → ℕ → ℕ → List Item
    → List Item → ℕ → Type 0
IfClaim g test first second s registers ram b j is ks bulk =
    Placed g.code j (if_items (branching test) is ks)
    → Shown g (tested test first second) s (at g.code j registers ram s.answers s.trace) ram b
    (j + length (if_items (branching test) is ks)) bulk

-- what is known of a part, wherever it stands
abbrev Part : Ground → (State → Run) → State → List ℕ → ℕ → List Item → ℕ → Type 0
Part g f s ram b is bulk =
    (j : ℕ) (registers : List ℕ) → Placed g.code j is → Ready g.code registers ram s.answers j
    → Stands b g.sp s registers ram
    → Shown g f s (at g.code j registers ram s.answers s.trace) ram b (j + length is) bulk

if_shown : (g : Ground) (test : Cond) (first second : State → Run) (s : State) (registers ram : List ℕ) (b j v : ℕ)
    (is ks : List Item) (bulk1 bulk2 : ℕ)
    → IsTrue (are_registers (test_names test)) → Ready g.code registers ram s.answers j → Stands b g.sp s registers ram
    → test_word test s.locals ≡ Some v
    → Part g first s ram b is bulk1 → Part g second s ram b ks bulk2
    → IfClaim g test first second s registers ram b j is ks (5 + bulk1 + bulk2)
if_shown g test first second s registers ram b j v is ks bulk1 bulk2 named ready stands word part1 part2 =
    by is ks part1 part2 (v == 0) refl
  where
    good : Good g.code registers ram
    good = good_of g.code registers ram s.answers j ready

    few : length g.code ≤ 1048576
    few = good.few

    goes : (t : Bool) → (v == 0) ≡ t → (rest : List Choice)
        → tested test first second (given s rest) ≡ choose t (second (given s rest)) (first (given s rest))
    goes t e rest =
        ap (λ o. with_defined o (given s rest) (λ v. choose (v == 0) (second (given s rest)) (first (given s rest))))
        word
        ∙ ap (λ t. choose t (second (given s rest)) (first (given s rest))) e

    takes_is : (t : Bool) → (v == 0) ≡ t → takes (branching test) registers ≡ not t
    takes_is t e = test_takes g b v test s registers ram named stands word ∙ ap not e

    otherwise_is : (t : Bool) → (v == 0) ≡ t → takes (otherwise (branching test)) registers ≡ t
    otherwise_is t e = taken-opposite (branching test).how (reads registers (branching test).left)
        (reads registers (branching test).right) ∙ ap not (takes_is t e) ∙ twice t
      where
        twice : (t : Bool) → not (not t) ≡ t
        twice true = refl
        twice false = refl

    moved : (to : ℕ) → (m : Moves g j to registers ram s.answers s.trace 3)
        → Ready g.code m.registers' ram s.answers to × Stands b g.sp s m.registers' ram
    moved to m = (
      ready_moves g j to 3 registers ram s.answers s.trace ready m,
      stands_moves g b j to 3 s registers ram s.answers s.trace stands m,
    )

    room : (is : List Item) → 1 ≤ length is → Placed g.code j is → j + length is ≤ length g.code
    room is some placed =
        elim (placed_within g.code j is placed) [ inl e ↦ (let none = ap length e in absurd (omega arith)) | inr l ↦ l ]

    -- the branch, and then a part
    entered : (c : Branching) (n : ℕ) (taken : Bool) (f : State → Run) (end bulk : ℕ)
        → Placed g.code j (skip_items c n) → j + length (skip_items c n) + n ≤ length g.code → takes c registers ≡ taken
        → ((rest : List Choice) → tested test first second (given s rest) ≡ f (given s rest))
        → 3 + bulk ≤ 5 + bulk1 + bulk2
        → ((registers' : List ℕ) → Ready g.code registers' ram s.answers (if taken then j + length (skip_items c n) + n
        else j + length (skip_items c n)) → Stands b g.sp s registers' ram
        → Shown g f s (at g.code (if taken then j + length (skip_items c n) + n else j + length (skip_items c n))
        registers' ram s.answers s.trace) ram b end bulk)
        → Shown g (tested test first second) s (at g.code j registers ram s.answers s.trace) ram b end
        (5 + bulk1 + bulk2)
    entered c n taken f end bulk placed inside is goes fits part =
        let some = skip_some c n in
        let m = skip_moves g j n c registers ram s.answers s.trace taken good placed is (omega arith) in
        let to = if taken then j + length (skip_items c n) + n else j + length (skip_items c n) in
        let r = moved to m in
        moves_first g (tested test first second) f s s registers ram b j to end 3 bulk (5 + bulk1 + bulk2) m goes refl
        (before_same g s m.steps 3 bulk (5 + bulk1 + bulk2) m.few fits) (part m.registers' r.0 r.1)

    by : (is ks : List Item) → Part g first s ram b is bulk1 → Part g second s ram b ks bulk2 → (t : Bool)
        → (v == 0) ≡ t
        → IfClaim g test first second s registers ram b j is ks (5 + bulk1 + bulk2)
    by is [] part1 part2 true e placed =
        let c = otherwise (branching test) in
        let skip = skip_items c (length is) in
        let l = length-append skip is in
        let some = skip_some c (length is) in
        let inside = room (skip ++ is) (omega arith) placed in
        let end : j + length skip + length is + 0 ≡ j + length (skip ++ is) = omega arith in
        entered c (length is) true second (j + length (skip ++ is)) bulk2 (placed-front g.code j skip is placed)
        (omega arith) (otherwise_is true e) (goes true e) (omega arith)
        (λ registers' ready' stands'. subst (λ q. Shown g second s
        (at g.code (j + length skip + length is) registers' ram s.answers s.trace) ram b q bulk2) end
        (part2 (j + length skip + length is) registers' tt ready' stands'))
    by is [] part1 part2 false e placed =
        let c = otherwise (branching test) in
        let skip = skip_items c (length is) in
        let l = length-append skip is in
        let some = skip_some c (length is) in
        let inside = room (skip ++ is) (omega arith) placed in
        let end : j + length skip + length is ≡ j + length (skip ++ is) = omega arith in
        entered c (length is) false first (j + length (skip ++ is)) bulk1 (placed-front g.code j skip is placed)
        (omega arith) (otherwise_is false e) (goes false e) (omega arith)
        (λ registers' ready' stands'. subst
        (λ q. Shown g first s (at g.code (j + length skip) registers' ram s.answers s.trace) ram b q bulk1) end
        (part1 (j + length skip) registers' (placed-back g.code j skip is placed) ready' stands'))
    by [] (i ∷ ks) part1 part2 true e placed =
        let c = branching test in
        let skip = skip_items c (length (i ∷ ks)) in
        let l = length-append skip (i ∷ ks) in
        let some = skip_some c (length (i ∷ ks)) in
        let inside = room (skip ++ (i ∷ ks)) (omega arith) placed in
        let end : j + length skip + length (i ∷ ks) ≡ j + length (skip ++ (i ∷ ks)) = omega arith in
        entered c (length (i ∷ ks)) false second (j + length (skip ++ (i ∷ ks))) bulk2
        (placed-front g.code j skip (i ∷ ks) placed) (omega arith) (takes_is true e) (goes true e) (omega arith)
        (λ registers' ready' stands'. subst
        (λ q. Shown g second s (at g.code (j + length skip) registers' ram s.answers s.trace) ram b q bulk2) end
        (part2 (j + length skip) registers' (placed-back g.code j skip (i ∷ ks) placed) ready' stands'))
    by [] (i ∷ ks) part1 part2 false e placed =
        let c = branching test in
        let skip = skip_items c (length (i ∷ ks)) in
        let l = length-append skip (i ∷ ks) in
        let some = skip_some c (length (i ∷ ks)) in
        let inside = room (skip ++ (i ∷ ks)) (omega arith) placed in
        let end : j + length skip + length (i ∷ ks) + 0 ≡ j + length (skip ++ (i ∷ ks)) = omega arith in
        entered c (length (i ∷ ks)) true first (j + length (skip ++ (i ∷ ks))) bulk1
        (placed-front g.code j skip (i ∷ ks) placed) (omega arith) (takes_is false e) (goes false e) (omega arith)
        (λ registers' ready' stands'. subst (λ q. Shown g first s
        (at g.code (j + length skip + length (i ∷ ks)) registers' ram s.answers s.trace) ram b q bulk1) end
        (part1 (j + length skip + length (i ∷ ks)) registers' tt ready' stands'))
    by (k ∷ is) (i ∷ ks) part1 part2 true e placed =
        let c = otherwise (branching test) in
        let over = over_items 0 (length (i ∷ ks)) in
        let n = length (k ∷ is) + length over in
        let skip = skip_items c n in
        let rest = (k ∷ is) ++ (over ++ (i ∷ ks)) in
        let l1 = length-append skip rest in
        let l2 = length-append (k ∷ is) (over ++ (i ∷ ks)) in
        let l3 = length-append over (i ∷ ks) in
        let some = skip_some c n in
        let inside = room (skip ++ rest) (omega arith) placed in
        let end : j + length skip + n + length (i ∷ ks) ≡ j + length (skip ++ rest) = omega arith in
        let p2 = placed-back g.code j skip rest placed in
        let p3 = placed-back g.code (j + length skip) (k ∷ is) (over ++ (i ∷ ks)) p2 in
        let p4 = placed-back g.code (j + length skip + length (k ∷ is)) over (i ∷ ks) p3 in
        let place : j + length skip + length (k ∷ is) + length over ≡ j + length skip + n = omega arith in
        entered c n true second (j + length (skip ++ rest)) bulk2 (placed-front g.code j skip rest placed) (omega arith)
        (otherwise_is true e) (goes true e) (omega arith)
        (λ registers' ready' stands'. subst
        (λ q. Shown g second s (at g.code (j + length skip + n) registers' ram s.answers s.trace) ram b q bulk2) end
        (part2 (j + length skip + n) registers' (subst (λ q. Placed g.code q (i ∷ ks)) place p4) ready' stands'))
    by (k ∷ is) (i ∷ ks) part1 part2 false e placed =
        let c = otherwise (branching test) in
        let over = over_items 0 (length (i ∷ ks)) in
        let n = length (k ∷ is) + length over in
        let skip = skip_items c n in
        let rest = (k ∷ is) ++ (over ++ (i ∷ ks)) in
        let l1 = length-append skip rest in
        let l2 = length-append (k ∷ is) (over ++ (i ∷ ks)) in
        let l3 = length-append over (i ∷ ks) in
        let some = skip_some c n in
        let inside = room (skip ++ rest) (omega arith) placed in
        let middle = j + length skip + length (k ∷ is) in
        let end : middle + length over + length (i ∷ ks) ≡ j + length (skip ++ rest) = omega arith in
        let p2 = placed-back g.code j skip rest placed in
        let p3 = placed-back g.code (j + length skip) (k ∷ is) (over ++ (i ∷ ks)) p2 in
        let p4 = placed-front g.code middle over (i ∷ ks) p3 in
        entered c n false first (j + length (skip ++ rest)) (bulk1 + 2) (placed-front g.code j skip rest placed)
        (omega arith) (otherwise_is false e) (goes false e) (omega arith)
        (λ registers' ready' stands'. subst (λ q.
        Shown g first s (at g.code (j + length skip) registers' ram s.answers s.trace) ram b q (bulk1 + 2)) end
        (moves_last g first s (at g.code (j + length skip) registers' ram s.answers s.trace) ram b middle
        (middle + length over + length (i ∷ ks)) bulk1 2
        (part1 (j + length skip) registers' (placed-front g.code (j + length skip) (k ∷ is) (over ++ (i ∷ ks)) p2)
        ready' stands')
        (λ w. (over_jumps g middle (length (i ∷ ks)) 0 w.registers w.ram' w.after.answers w.after.trace
        (good_of g.code w.registers w.ram' w.after.answers middle w.ready) p4 (inl refl) (omega arith)).moves)))

pub if_simulates : (g : Ground) (test : Cond) (first second : State → Run) (is ks : ℕ → List Item)
    (nest1 nest2 bulk1 bulk2 : ℕ)
    → IsTrue (are_registers (test_names test)) → Simulates g first is nest1 bulk1 → Simulates g second ks nest2 bulk2
    → Simulates g (tested test first second) (λ free. if_items (branching test) (is free) (ks free)) (max nest1 nest2)
    (5 + bulk1 + bulk2)
if_simulates g test first second is ks nest1 nest2 bulk1 bulk2 named sim1 sim2 free j s registers ram room multiple
    inside deep placed ready stands = by (test_word test s.locals) refl
  where
    by : (o : Option ℕ) → test_word test s.locals ≡ o
        → Shown g (tested test first second) s (at g.code j registers ram s.answers s.trace) ram (g.sp + free)
        (j + length (if_items (branching test) (is free) (ks free))) (5 + bulk1 + bulk2)
    by None e = wrong_at_once g (tested test first second) s registers ram (g.sp + free) j _ (5 + bulk1 + bulk2)
        (λ rest. ap (λ o.
        with_defined o (given s rest) (λ v. choose (v == 0) (second (given s rest)) (first (given s rest)))) e)
    by (Some v) e =
        if_shown g test first second s registers ram (g.sp + free) j v (is free) (ks free) bulk1 bulk2 named
        ready stands e
        (λ k registers' p r st. sim1 free k s registers' ram (omega arith) multiple inside deep p r st)
        (λ k registers' p r st. sim2 free k s registers' ram (omega arith) multiple inside deep p r st) placed
