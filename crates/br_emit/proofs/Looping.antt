-- Loops, in code: the test stands at the end.
use Rattle.std.proofs.Common.{◌≡◌, inl, inr, ℕ, zero, suc, ◌+◌, ◌-◌, ◌*◌, ◌%◌, ◌<◌, ◌≤◌, ◌==◌, not}
use Rattle.std.proofs.Common.{if◌then◌else◌, max, List, [], ◌∷◌, ◌++◌, length, Option, Some, None, Bool, true}
use Rattle.std.proofs.Common.{false, IsTrue, refl, sym, ap, subst, ◌∙◌, arith, append_assoc, length-append}
use Rattle.br_bytes.specs.declared.run.Choice.{Choice}
use Rattle.br_bytes.specs.Runs.{OutOfFuel, Goes, Ends, then_do, with_defined, choose, with_fuel, loop}
use Rattle.br_flatimp.specs.declared.program.Cond.{Cond}
use Rattle.br_flatimp.specs.Values.{test_word}
use Rattle.br_flatimp.specs.Parts.{test_names}
use Rattle.br_flatimp.specs.WellFormed.{are_registers}
use Rattle.br_flatimp.specs.Runs.{State, Run}
use Rattle.br_emit.specs.Code.{Item, branching, over_items, back_items, loop_items}
use Rattle.br_emit.proofs.Stepping.{at}
use Rattle.br_emit.proofs.Pieces.{untouched_rests, Ground, Placed, placed-front, placed-back, Ready, Stands}
use Rattle.br_emit.proofs.Pieces.{kept_refl, Shown, On, Out, Simulates, given, followed, join, simulates_then}
use Rattle.br_emit.proofs.Setting.{good_of}
use Rattle.br_emit.proofs.Leaves.{wrong_at_once}
use Rattle.br_emit.proofs.Jumping.{Moves, over_jumps, back_moves, back_some}
use Rattle.br_emit.proofs.Control.{shown_as, stands_moves, ready_moves, Before, before_same}
use Rattle.br_emit.proofs.Control.{moves_first, shown_wider, test_takes, placed_within}

-- ---- runs that do nothing more

-- the run stays where it is, and the machine goes on
stay_on : (g : Ground) (f : State → Run) (s : State) (registers ram : List ℕ) (b j to limit : ℕ)
    → ((rest : List Choice) → f (given s rest) ≡ Goes (given s rest))
    → Ready g.code registers ram s.answers j → Stands b g.sp s registers ram
    → Moves g j to registers ram s.answers s.trace limit
    → Shown g f s (at g.code j registers ram s.answers s.trace) ram b to limit
stay_on g f s registers ram b j to limit goes ready stands m =
    let few = m.few in
    On (record {
      choices = [];
      chosen = tt;
      after = s;
      goes = goes;
      registers = m.registers';
      ram' = ram;
      steps = m.steps;
      runs = m.runs;
      ready = ready_moves g j to limit registers ram s.answers s.trace ready m;
      stands = stands_moves g b j to limit s registers ram s.answers s.trace stands m;
      untouched = λ y low out. m.others y (untouched_rests g y out);
      kept = kept_refl b s.memory ram;
      paced = record { takes = omega arith; least = omega arith; most = omega arith };
    })

pub out_of_fuel : (g : Ground) (f : State → Run) (s : State) (registers ram : List ℕ) (b j end bulk : ℕ)
    → ((rest : List Choice) → f (given s rest) ≡ Ends OutOfFuel (given s rest)) → s.fuel ≡ 0
    → Stands b g.sp s registers ram
    → Shown g f s (at g.code j registers ram s.answers s.trace) ram b end bulk
out_of_fuel g f s registers ram b j end bulk ends none stands = Out (record {
  choices = [];
  chosen = tt;
  after = s;
  how = OutOfFuel;
  ends = ends;
  registers = registers;
  ram' = ram;
  place = j;
  steps = 0;
  runs = refl;
  bytes = stands.held.bytes;
  kept = kept_refl b s.memory ram;
  paced = record { takes = omega arith; least = omega arith; most = omega arith };
  shown = none;
})

-- ---- turns

-- what a loop stands for after its first part
abbrev pub turns : ℕ → Cond → (State → Run) → (State → Run) → State → Run
turns bound test first last = loop bound (λ u. test_word test u.locals) (λ u. then_do (last u) first)

-- a turn takes a unit of fuel
spent : (g : Ground) (s : State) (k steps bulk : ℕ) → 1 ≤ steps → steps ≤ 3 → 3 + bulk ≤ g.total
    → Before g (record s { fuel = suc k }) (record s { fuel = k }) steps (bulk + 3) 3
spent g s k steps bulk some few fits u n p =
    let a = p.takes in let b = p.least in let c = p.most in
    let one : suc k - u.fuel ≡ suc (k - u.fuel) = omega arith in
    let product : (suc k - u.fuel) * g.total ≡ g.total + (k - u.fuel) * g.total = ap (λ q. q * g.total) one
    ∙ more (k - u.fuel) g.total in
    record { takes = omega arith; least = omega arith; most = omega (arith, product) }
  where
    more : (d t : ℕ) → suc d * t ≡ t + d * t
    more d t = grind arith

-- what is shown of so many turns
abbrev TurnsShown : Ground → Cond → (State → Run) → (State → Run) → ℕ → ℕ → ℕ → ℕ → Type 0
TurnsShown g test first last b j end bound =
    (k : ℕ) (s : State) (registers ram : List ℕ) → k ≤ bound → k ≤ g.depth → Ready g.code registers ram s.answers j
    → Stands b g.sp s registers ram
    → Shown g (turns bound test first last) (record s { fuel = k })
    (at g.code j registers ram s.answers s.trace) ram b end 3

turns_shown : (g : Ground) (test : Cond) (first last : State → Run) (is ks : ℕ → List Item)
    (nest1 nest2 bulk1 bulk2 free start j : ℕ)
    → IsTrue (are_registers (test_names test)) → Simulates g first is nest1 bulk1 → Simulates g last ks nest2 bulk2
    → 3 + (bulk2 + bulk1) ≤ g.total → nest1 ≤ free → nest2 ≤ free → free % 4 ≡ 0 → g.sp + free ≤ 0x80300000
    → Placed g.code start (ks free ++ is free) → start + length (ks free ++ is free) ≡ j
    → Placed g.code j (back_items (branching test) (length (ks free) + length (is free))) → j + 1 < 2000000
    → (bound k : ℕ) (s : State) (registers ram : List ℕ) → k ≤ bound → k ≤ g.depth
    → Ready g.code registers ram s.answers j → Stands (g.sp + free) g.sp s registers ram
    → Shown g (turns bound test first last) (record s { fuel = k }) (at g.code j registers ram s.answers s.trace) ram
    (g.sp + free) (j + length (back_items (branching test) (length (ks free) + length (is free)))) 3
turns_shown g test first last is ks nest1 nest2 bulk1 bulk2 free start j named sim1 sim2 fits room1 room2 multiple
    inside placed here back near = all
  where
    -- the branch, taken or not
    branch : (taken : Bool) (s : State) (registers ram : List ℕ) (v : ℕ) → test_word test s.locals ≡ Some v
        → (v == 0) ≡ not taken
        → Ready g.code registers ram s.answers j → Stands (g.sp + free) g.sp s registers ram
        → Moves g j (if taken then j - (length (ks free) + length (is free))
        else j + length (back_items (branching test) (length (ks free) + length (is free)))) registers ram
        s.answers s.trace 3
    branch taken s registers ram v word tested ready stands =
        let l = length-append (ks free) (is free) in
        back_moves g j (length (ks free) + length (is free)) (branching test) registers ram s.answers s.trace taken
        (good_of g.code registers ram s.answers j ready) back
        (test_takes g (g.sp + free) v test s registers ram named stands word ∙ ap not tested ∙ twice taken)
        (omega arith) near
      where
        twice : (t : Bool) → not (not t) ≡ t
        twice true = refl
        twice false = refl

    all : (bound k : ℕ) (s : State) (registers ram : List ℕ) → k ≤ bound → k ≤ g.depth
        → Ready g.code registers ram s.answers j → Stands (g.sp + free) g.sp s registers ram
        → Shown g (turns bound test first last) (record s { fuel = k }) (at g.code j registers ram s.answers s.trace)
        ram (g.sp + free) (j + length (back_items (branching test) (length (ks free) + length (is free)))) 3
    all zero k s registers ram less deep ready stands = by (test_word test s.locals) refl
      where
        goes : (o : Option ℕ) → test_word test s.locals ≡ o → (rest : List Choice)
            → turns zero test first last (given (record s { fuel = k }) rest)
            ≡ with_defined o (given (record s { fuel = k }) rest) (λ v. choose (v == 0)
            (Goes (given (record s { fuel = k }) rest)) (Ends OutOfFuel (given (record s { fuel = k }) rest)))
        goes o e rest = ap (λ o. with_defined o (given (record s { fuel = k }) rest) (λ v. choose (v == 0)
            (Goes (given (record s { fuel = k }) rest)) (Ends OutOfFuel (given (record s { fuel = k }) rest)))) e

        zero_or_not : (v : ℕ) → test_word test s.locals ≡ Some v → (t : Bool) → (v == 0) ≡ t
            → Shown g (turns zero test first last) (record s { fuel = k }) (at g.code j registers ram s.answers s.trace)
            ram (g.sp + free) (j + length (back_items (branching test) (length (ks free) + length (is free)))) 3
        zero_or_not v e true z =
            stay_on g (turns zero test first last) (record s { fuel = k }) registers ram (g.sp + free) j _ 3
            (λ rest. goes (Some v) e rest ∙ ap (λ t. choose t (Goes (given (record s { fuel = k }) rest))
            (Ends OutOfFuel (given (record s { fuel = k }) rest))) z) ready
            (record { values = stands.values; held = stands.held; pointer = stands.pointer })
            (branch false s registers ram v e z ready stands)
        zero_or_not v e false z =
            out_of_fuel g (turns zero test first last) (record s { fuel = k }) registers ram (g.sp + free) j _ 3
            (λ rest. goes (Some v) e rest ∙ ap (λ t. choose t (Goes (given (record s { fuel = k }) rest))
            (Ends OutOfFuel (given (record s { fuel = k }) rest))) z) (omega arith)
            (record { values = stands.values; held = stands.held; pointer = stands.pointer })

        by : (o : Option ℕ) → test_word test s.locals ≡ o
            → Shown g (turns zero test first last) (record s { fuel = k }) (at g.code j registers ram s.answers s.trace)
            ram (g.sp + free) (j + length (back_items (branching test) (length (ks free) + length (is free)))) 3
        by None e = wrong_at_once g (turns zero test first last) (record s { fuel = k }) registers ram (g.sp + free) j _
            3 (goes None e)
        by (Some v) e = zero_or_not v e (v == 0) refl
    all (suc bound) k s registers ram less deep ready stands = by (all bound) (test_word test s.locals) refl
      where
        goes : (k : ℕ) (o : Option ℕ) → test_word test s.locals ≡ o → (rest : List Choice)
            → turns (suc bound) test first last (given (record s { fuel = k }) rest)
            ≡ with_defined o (given (record s { fuel = k }) rest) (λ v. choose
            (v == 0) (Goes (given (record s { fuel = k }) rest)) (with_fuel (given (record s { fuel = k }) rest)
            (λ t. then_do (then_do (last t) first) (turns bound test first last))))
        goes k o e rest = ap (λ o. with_defined o (given (record s { fuel = k }) rest)
            (λ v. choose (v == 0) (Goes (given (record s { fuel = k }) rest)) (with_fuel (given (record s { fuel = k })
            rest) (λ t. then_do (then_do (last t) first) (turns bound test first last))))) e

        turned : TurnsShown g test first last (g.sp + free) j (j
            + length (back_items (branching test) (length (ks free) + length (is free)))) bound → (k v : ℕ)
            → k ≤ suc bound → k ≤ g.depth → test_word test s.locals ≡ Some v → (t : Bool) → (v == 0) ≡ t
            → Shown g (turns (suc bound) test first last)
            (record s { fuel = k }) (at g.code j registers ram s.answers s.trace) ram (g.sp + free)
            (j + length (back_items (branching test) (length (ks free) + length (is free)))) 3
        turned again k v less deep e true z =
            stay_on g (turns (suc bound) test first last) (record s { fuel = k }) registers ram (g.sp + free) j _ 3
            (λ rest. goes k (Some v) e rest ∙ ap (λ t.
            choose t (Goes (given (record s { fuel = k }) rest)) (with_fuel (given (record s { fuel = k }) rest)
            (λ t. then_do (then_do (last t) first) (turns bound test first last)))) z) ready
            (record { values = stands.values; held = stands.held; pointer = stands.pointer })
            (branch false s registers ram v e z ready stands)
        turned again zero v less deep e false z =
            out_of_fuel g (turns (suc bound) test first last) (record s { fuel = 0 }) registers ram (g.sp + free) j _ 3
            (λ rest. goes 0 (Some v) e rest ∙ ap (λ t.
            choose t (Goes (given (record s { fuel = 0 }) rest)) (with_fuel (given (record s { fuel = 0 }) rest)
            (λ t. then_do (then_do (last t) first) (turns bound test first last)))) z) refl
            (record { values = stands.values; held = stands.held; pointer = stands.pointer })
        turned again (suc k) v less deep e false z =
            let m = branch true s registers ram v e z ready stands in
            let l = length-append (ks free) (is free) in
            let back_to : j - (length (ks free) + length (is free)) ≡ start = omega arith in
            let s1 : State = record s { fuel = k } in
            let b = g.sp + free in
            let end = j + length (back_items (branching test) (length (ks free) + length (is free))) in
            let turn : State → Run = λ u. then_do (last u) first in
            let next = turns bound test first last in
            let ready1 = ready_moves g j (j - (length (ks free) + length (is free))) 3 registers ram s.answers
            s.trace ready m in
            let stands1 = stands_moves g b j (j - (length (ks free) + length (is free))) 3 s registers ram s.answers
            s.trace stands m in
            let run : Shown g turn s1 (at g.code start m.registers' ram s.answers s.trace) ram b
            (start + length (ks free ++ is free)) (bulk2 + bulk1) =
            simulates_then g last first ks is nest2 nest1 bulk2 bulk1 sim2 sim1 free start s1 m.registers' ram
            (omega arith) multiple inside (omega arith) placed
            (subst (λ q. Ready g.code m.registers' ram s.answers q) back_to ready1)
            (record { values = stands1.values; held = stands1.held; pointer = stands1.pointer }) in
            let both : Shown g (followed turn next) s1 (at g.code start m.registers' ram s.answers s.trace) ram b end
            (bulk2 + bulk1 + 3) =
            join g turn next s1 (at g.code start m.registers' ram s.answers s.trace) ram b
            (start + length (ks free ++ is free)) end (bulk2 + bulk1) 3 run
            (λ w.
            let takes1 = w.paced.takes in
            subst (λ q. Shown g next w.after (at g.code q w.registers w.ram' w.after.answers w.after.trace) w.ram' b
            end 3) (sym here)
            (again w.after.fuel w.after w.registers w.ram' (omega arith) (omega arith)
            (subst (λ q. Ready g.code w.registers w.ram' w.after.answers q) here w.ready) w.stands)) in
            moves_first g (turns (suc bound) test first last) (followed turn next) (record s { fuel = suc k }) s1
            registers ram b j (j - (length (ks free) + length (is free))) end 3 (bulk2 + bulk1 + 3) 3 m
            (λ rest. goes (suc k) (Some v) e rest ∙ ap (λ t. choose
            t (Goes (given (record s { fuel = suc k }) rest)) (with_fuel (given (record s { fuel = suc k }) rest)
            (λ t. then_do (then_do (last t) first) (turns bound test first last)))) z) refl
            (spent g s k m.steps (bulk2 + bulk1) m.some m.few fits)
            (subst (λ q. Shown g (followed turn next) s1 (at g.code q m.registers' ram s.answers s.trace) ram b end
            (bulk2 + bulk1 + 3)) (sym back_to) both)

        by : TurnsShown g test first last (g.sp + free) j (j
            + length (back_items (branching test) (length (ks free) + length (is free)))) bound → (o : Option ℕ)
            → test_word test s.locals ≡ o
            → Shown g (turns (suc bound) test first last)
            (record s { fuel = k }) (at g.code j registers ram s.answers s.trace) ram (g.sp + free)
            (j + length (back_items (branching test) (length (ks free) + length (is free)))) 3
        by again None e = wrong_at_once g (turns (suc bound) test first last) (record s { fuel = k }) registers ram
            (g.sp + free) j _ 3 (goes k None e)
        by again (Some v) e = turned again k v less deep e (v == 0) refl

-- ---- loops

abbrev pub looped : Cond → (State → Run) → (State → Run) → State → Run
looped test first last s = then_do (first s) (λ t. turns t.fuel test first last t)

pub loop_simulates : (g : Ground) (test : Cond) (first last : State → Run) (is ks : ℕ → List Item)
    (nest1 nest2 bulk1 bulk2 : ℕ)
    → IsTrue (are_registers (test_names test)) → Simulates g first is nest1 bulk1 → Simulates g last ks nest2 bulk2
    → 5 + bulk1 + bulk2 ≤ g.total
    → Simulates g (looped test first last) (λ free. loop_items (is free) (branching test) (ks free)) (max nest1 nest2)
    (5 + bulk1 + bulk2)
loop_simulates g test first last is ks nest1 nest2 bulk1 bulk2 named sim1 sim2 fits free j s registers ram room multiple
    inside deep placed ready stands = by (ks free) refl placed
  where
    all : (start middle : ℕ) (registers : List ℕ) → Ready g.code registers ram s.answers middle
        → Stands (g.sp + free) g.sp s registers ram
        → Placed g.code start (ks free ++ is free) → start + length (ks free ++ is free) ≡ middle + length (is free)
        → middle + length (is free) + 1 < 2000000
        → Placed g.code middle (is free)
        → Placed g.code (middle + length (is free)) (back_items (branching test) (length (ks free) + length (is free)))
        → Shown g (looped test first last) s (at g.code middle registers ram s.answers s.trace) ram (g.sp + free)
        (middle + length (is free) + length (back_items (branching test) (length (ks free) + length (is free))))
        (bulk1 + 3)
    all start middle registers ready stands body here near front back =
        let b = g.sp + free in
        let place = middle + length (is free) in
        let end = place + length (back_items (branching test) (length (ks free) + length (is free))) in
        let next : State → Run = λ t. turns t.fuel test first last t in
        join g first next s (at g.code middle registers ram s.answers s.trace) ram b place end bulk1 3
        (sim1 free middle s registers ram (omega arith) multiple inside deep front ready stands)
        (λ w.
        shown_as g next (turns w.after.fuel test first last) w.after
        (at g.code place w.registers w.ram' w.after.answers w.after.trace) w.ram' b end 3 (λ rest. refl)
        (turns_shown g test first last is ks nest1 nest2 bulk1 bulk2 free start place named sim1 sim2 (omega arith)
        (omega arith) (omega arith) multiple inside body here back near
        w.after.fuel w.after.fuel w.after w.registers w.ram' (omega arith) (let less = w.paced.takes in omega arith)
        w.ready w.stands))

    within : (items : List Item) → 1 ≤ length items → Placed g.code j items → j + length items ≤ length g.code
    within items some placed =
        elim (placed_within g.code j items placed)
        [ inl e ↦ (let none = ap length e in absurd (omega arith)) | inr l ↦ l ]

    by : (last_items : List Item) → ks free ≡ last_items
        → Placed g.code j (loop_items (is free) (branching test) last_items)
        → Shown g (looped test first last) s (at g.code j registers ram s.answers s.trace) ram (g.sp + free)
        (j + length (loop_items (is free) (branching test) last_items)) (5 + bulk1 + bulk2)
    by [] e placed =
        let b = g.sp + free in
        let c = branching test in
        let k = length (is free) in
        let back = back_items c k in
        let p1 = placed-front g.code j (is free) back placed in
        let p2 = placed-back g.code j (is free) back placed in
        let l = length-append (is free) back in
        let some = back_some c k in
        let good = good_of g.code registers ram s.answers j ready in
        let few = good.few in
        let bound = within (is free ++ back) (omega arith) placed in
        let body : Placed g.code j (ks free ++ is free) = subst (λ q. Placed g.code j (q ++ is free)) (sym e) p1 in
        let here : j + length (ks free ++ is free) ≡ j + length (is free) = ap (λ q. j + length (q ++ is free)) e in
        let size : length (ks free) + length (is free) ≡ k = ap (λ q. length q + length (is free)) e ∙ omega arith in
        let run = all j j registers ready stands body here (omega arith) p1
        (subst (λ q. Placed g.code (j + length (is free)) (back_items c q)) (sym size) p2) in
        let end : j + length (is free) + length (back_items c (length (ks free) + length (is free)))
        ≡ j + length (is free ++ back) =
        ap (λ q. j + length (is free) + length (back_items c q)) size ∙ omega arith in
        shown_wider g (looped test first last) s (at g.code j registers ram s.answers s.trace) ram b
        (j + length (is free ++ back)) (bulk1 + 3) (5 + bulk1 + bulk2) (omega arith)
        (subst (λ q. Shown g (looped test first last) s (at g.code j registers ram s.answers s.trace) ram b q
        (bulk1 + 3)) end run)
    by (i ∷ items) e placed =
        let b = g.sp + free in
        let c = branching test in
        let n = length (i ∷ items) in
        let k = n + length (is free) in
        let over = over_items 0 n in
        let back = back_items c k in
        let rest1 = is free ++ back in
        let rest2 = (i ∷ items) ++ rest1 in
        let p0 = placed-front g.code j over rest2 placed in
        let q0 = placed-back g.code j over rest2 placed in
        let start = j + length over in
        let q1 = placed-back g.code start (i ∷ items) rest1 q0 in
        let middle = start + n in
        let p1 = placed-front g.code middle (is free) back q1 in
        let p2 = placed-back g.code middle (is free) back q1 in
        let l1 = length-append over rest2 in
        let l2 = length-append (i ∷ items) rest1 in
        let l3 = length-append (is free) back in
        let l4 = length-append (i ∷ items) (is free) in
        let some = back_some c k in
        let bound = within (over ++ rest2) (omega arith) placed in
        let same : ((i ∷ items) ++ is free) ++ back ≡ rest2 = append_assoc (i ∷ items) (is free) back in
        let both : Placed g.code start ((i ∷ items) ++ is free) =
        placed-front g.code start ((i ∷ items) ++ is free) back (subst (Placed g.code start) (sym same) q0) in
        let body : Placed g.code start (ks free ++ is free) =
        subst (λ q. Placed g.code start (q ++ is free)) (sym e) both in
        let here : start + length (ks free ++ is free) ≡ middle + length (is free) =
        ap (λ q. start + length (q ++ is free)) e ∙ omega arith in
        let size : length (ks free) + length (is free) ≡ k = ap (λ q. length q + length (is free)) e in
        let good = good_of g.code registers ram s.answers j ready in
        let few = good.few in
        let m = (over_jumps g j n 0 registers ram s.answers s.trace good p0 (inl refl) (omega arith)).moves in
        let run = all start middle m.registers' (ready_moves g j middle 2 registers ram s.answers s.trace ready m)
        (stands_moves g b j middle 2 s registers ram s.answers s.trace stands m) body here (omega arith) p1
        (subst (λ q. Placed g.code (middle + length (is free)) (back_items c q)) (sym size) p2) in
        let end : middle + length (is free) + length (back_items c (length (ks free) + length (is free)))
        ≡ j + length (over ++ rest2) =
        ap (λ q. middle + length (is free) + length (back_items c q)) size ∙ omega arith in
        moves_first g (looped test first last) (looped test first last) s s registers ram b j middle
        (j + length (over ++ rest2)) 2 (bulk1 + 3) (5 + bulk1 + bulk2) m (λ rest. refl) refl
        (before_same g s m.steps 2 (bulk1 + 3) (5 + bulk1 + bulk2) m.few (omega arith))
        (subst (λ q. Shown g (looped test first last) s (at g.code middle m.registers' ram s.answers s.trace) ram b q
        (bulk1 + 3)) end run)
