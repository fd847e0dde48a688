-- What it is for a piece of code to run a part of a flat program, and how pieces are joined.
use Rattle.std.proofs.Common.{◌≢◌, Bool, false, ◌≡◌, ◌⊎◌, ℕ, zero, suc, ◌+◌, ◌-◌, ◌*◌, ◌%◌}
use Rattle.std.proofs.Common.{◌<◌, ◌≤◌, max, List, [], ◌∷◌, ◌++◌, length, Option, Some, None}
use Rattle.std.proofs.Common.{refl, sym, ap, subst, ◌∙◌, arith, append_assoc, length-append}
use Rattle.std.specs.Prelude.{slice_index, IfSome}
use Rattle.std.specs.FinMap as map
use Rattle.br_words.specs.Words.{IsWord}
use Rattle.br_bytes.specs.declared.run.Choice.{Choice}
use Rattle.br_bytes.specs.Memory.{Memory}
use Rattle.br_bytes.specs.Buffers.{AreWords, AreChoices}
use Rattle.br_bytes.specs.Runs.{End, Waiting, OutOfFuel, Undefined, NoChoice, Goes, Ends, then_do}
use Rattle.br_flatimp.specs.Runs.{State, Run}
use Rattle.br_machine.specs.declared.stepped.Stepped.TheVariants as stepped
use Rattle.br_machine.specs.State.{MachineState, IsMachine}
use Rattle.br_machine.specs.Step.{step}
use Rattle.br_machine.specs.Steps.{Moment, StepsTo, Runs}
use Rattle.br_machine.specs.Start.{filled}
use Rattle.br_words.specs.declared.layout.Layout.TheVariants.{Two}
use Rattle.br_emit.specs.Code.{Item}
pub use Rattle.br_emit.specs.Laid.{Placed}
use Rattle.br_emit.proofs.Stepping.{machine, at, region, Table, reads}
use Rattle.br_emit.proofs.Held.{Held}

-- ---- what a simulation rests on

pub record Ground : Type 0 where
  pub code : List ℕ
  -- no byte of the stack region below it is loaded or stored
  pub low : ℕ
  -- the stack pointer
  pub sp : ℕ
  -- calls are followed so deep, and no state has more fuel
  pub depth : ℕ
  -- the names that may be written, and x1 where it may be changed
  pub touched : ℕ → Bool
  -- the functions that may be called
  pub called : ℕ → Bool
  -- the most steps for a unit of fuel
  pub total : ℕ
  pub table : Table
  pub makes : (s : MachineState) (next : Option ℕ) → IsMachine s → IfSome next IsWord → IsMachine (step s next).0
  pub bottom : 0x80200000 ≤ low
  pub under : low ≤ sp
  pub top : sp ≤ 0x80300000
  pub aligned : sp % 4 ≡ 0
  -- where x1 may not be changed, no jump is far
  pub short : touched 1 ≡ false → length code < 262144

-- x1 only where it may not be changed, and any other register
abbrev pub Rests : Ground → ℕ → Type 0
Rests g y = y ≡ 1 → g.touched 1 ≡ false

pub other_rests : (g : Ground) (y : ℕ) → y ≢ 1 → Rests g y
other_rests g y ne is = absurd (ne is)

pub untouched_rests : (g : Ground) (y : ℕ) → g.touched y ≡ false → Rests g y
untouched_rests g y out is = subst (λ q. g.touched q ≡ false) is out

pub placed-front : (code : List ℕ) (j : ℕ) (is ks : List Item) → Placed code j (is ++ ks) → Placed code j is
placed-front code j [] ks h = tt
placed-front code j (i ∷ is) ks h = (h.0, h.1, placed-front code (j + 1) is ks h.2)

pub placed-back : (code : List ℕ) (j : ℕ) (is ks : List Item) → Placed code j (is ++ ks)
    → Placed code (j + length is) ks
placed-back code j [] ks h = let same : j + 0 ≡ j = omega arith in subst (λ i. Placed code i ks) (sym same) h
placed-back code j (i ∷ is) ks h =
    let same : j + 1 + length is ≡ j + suc (length is) = omega arith in
    subst (λ n. Placed code n ks) same (placed-back code (j + 1) is ks h.2)

-- ---- many steps

pub runs-append : (low n k : ℕ) (a b c : Moment) → Runs low n a b → Runs low k b c → Runs low (n + k) a c
runs-append low zero k a b c first second =
    let same : k ≡ 0 + k = omega arith in
    subst (λ i. Runs low i a c) same (subst (λ m. Runs low k m c) (sym first) second)
runs-append low (suc n) k a b c first second =
    let same : suc (n + k) ≡ suc n + k = omega arith in
    subst (λ i. Runs low i a c) same (first.0, first.1, runs-append low n k first.0 b c first.2 second)

pub runs_one : (low : ℕ) (m next : Moment) → StepsTo low m next → Runs low 1 m next
runs_one low m next s = (next, s, refl)

-- what holds of a machine all along: registers are words, the code is there, and answers are words
pub record Ready (code registers ram answers : List ℕ) (j : ℕ) : Type 0 where
  pub is : IsMachine (machine code j registers ram)
  pub holds : region ram ≡ filled Two code
  pub are_words : AreWords answers

-- ---- how a flat state stands in a machine

pub record Stands (b sp : ℕ) (s : State) (registers ram : List ℕ) : Type 0 where
  pub values : (x v : ℕ) → 3 ≤ x → x ≤ 31 → s.locals x ≡ Some v → reads registers x ≡ v
  pub held : Held b s.memory ram
  pub pointer : reads registers 2 ≡ sp

-- an address at which a run may not change what the memory does not have
abbrev pub Apart : ℕ → ℕ → Type 0
Apart b a = (0x80100000 ≤ a) × (a < 0x80300000) × ((a < 0x80200000) ⊎ (b ≤ a))

-- from one memory and RAM to others, the memory has the same addresses, and what it does not have stays, but
-- for addresses of the stack region below b
pub record Kept (b : ℕ) (m m' : Memory) (ram ram' : List ℕ) : Type 0 where
  pub domain : (a : ℕ) → Apart b a → map.get m' a ≡ None → map.get m a ≡ None
  pub fresh : (a : ℕ) → Apart b a → map.get m a ≡ None → map.get m' a ≡ None
  pub stays : (a : ℕ) → Apart b a → map.get m' a ≡ None
      → slice_index ram' (a - 0x80100000) ≡ slice_index ram (a - 0x80100000)

pub kept_refl : (b : ℕ) (m : Memory) (ram : List ℕ) → Kept b m m ram ram
kept_refl b m ram = record { domain = λ a apart none. none; fresh = λ a apart none. none; stays = λ a apart none. refl }

pub kept_trans : (b : ℕ) (m m' m'' : Memory) (ram ram' ram'' : List ℕ) → Kept b m m' ram ram' → Kept b m' m'' ram' ram''
    → Kept b m m'' ram ram''
kept_trans b m m' m'' ram ram' ram'' first second = record {
  domain = λ a apart none. first.domain a apart (second.domain a apart none);
  fresh = λ a apart none. second.fresh a apart (first.fresh a apart none);
  stays = λ a apart none. second.stays a apart none ∙ first.stays a apart (second.domain a apart none);
}

-- ---- what a run shows

-- the state with these choices
abbrev pub given : State → List Choice → State
given s cs = record s { choices = cs }

-- so many steps for so much fuel
pub record Paced (g : Ground) (s t : State) (n bulk : ℕ) : Type 0 where
  pub takes : t.fuel ≤ s.fuel
  pub least : s.fuel ≤ t.fuel + n
  pub most : n ≤ bulk + (s.fuel - t.fuel) * g.total

-- the registers that are not changed stay
abbrev pub Untouched : Ground → Moment → List ℕ → Type 0
Untouched g m registers = (y : ℕ) → y ≢ 2 → g.touched y ≡ false → reads registers y ≡ reads m.machine.registers y

-- the run goes on, and the machine comes to word `end`
pub record WentOn (g : Ground) (f : State → Run) (s : State) (m : Moment) (ram : List ℕ) (b end bulk : ℕ) : Type 0 where
  pub choices : List Choice
  pub chosen : AreChoices choices
  pub after : State
  pub goes : (rest : List Choice) → f (given s (choices ++ rest)) ≡ Goes (given after rest)
  pub registers : List ℕ
  pub ram' : List ℕ
  pub steps : ℕ
  pub runs : Runs g.low steps m (at g.code end registers ram' after.answers after.trace)
  pub ready : Ready g.code registers ram' after.answers end
  pub stands : Stands b g.sp after registers ram'
  pub untouched : Untouched g m registers
  pub kept : Kept b s.memory after.memory ram ram'
  pub paced : Paced g s after steps bulk

-- how the machine stands at an end
abbrev pub AtEnd : End → State → Moment → Type 0
AtEnd (Waiting a) t m = (t.answers ≡ []) × ((step m.machine None).1 ≡ stepped.Waiting a)
AtEnd OutOfFuel t m = t.fuel ≡ 0
AtEnd Undefined t m = ⊥
AtEnd NoChoice t m = ⊥

-- the run ends, and the machine shows it
pub record WentOut (g : Ground) (f : State → Run) (s : State) (m : Moment) (ram : List ℕ) (b bulk : ℕ) : Type 0 where
  pub choices : List Choice
  pub chosen : AreChoices choices
  pub after : State
  pub how : End
  pub ends : (rest : List Choice) → f (given s (choices ++ rest)) ≡ Ends how (given after rest)
  pub registers : List ℕ
  pub ram' : List ℕ
  pub place : ℕ
  pub steps : ℕ
  pub runs : Runs g.low steps m (at g.code place registers ram' after.answers after.trace)
  pub bytes : (a v : ℕ) → map.get after.memory a ≡ Some v → slice_index ram' (a - 0x80100000) ≡ v
  pub kept : Kept b s.memory after.memory ram ram'
  pub paced : Paced g s after steps bulk
  pub shown : AtEnd how after (at g.code place registers ram' after.answers after.trace)

-- the run does what has no meaning
pub record WentWrong (f : State → Run) (s : State) : Type 0 where
  pub choices : List Choice
  pub chosen : AreChoices choices
  pub after : List Choice → State
  pub ends : (rest : List Choice) → f (given s (choices ++ rest)) ≡ Ends Undefined (after rest)

pub data Shown (g : Ground) (f : State → Run) (s : State) (m : Moment) (ram : List ℕ) (b end bulk : ℕ) : Type 0 where
  On : WentOn g f s m ram b end bulk → Shown g f s m ram b end bulk
  Out : WentOut g f s m ram b bulk → Shown g f s m ram b end bulk
  Wrong : WentWrong f s → Shown g f s m ram b end bulk

-- ---- pieces

-- The items run a part of a flat program, from wherever they stand. They depend on how many bytes are free
-- between the stack pointer and the lowest buffer, and take at most `nest` of them.
abbrev pub Simulates : Ground → (State → Run) → (ℕ → List Item) → ℕ → ℕ → Type 0
Simulates g f items nest bulk =
    (free j : ℕ) (s : State) (registers ram : List ℕ)
    → nest ≤ free → free % 4 ≡ 0 → g.sp + free ≤ 0x80300000 → s.fuel ≤ g.depth
    → Placed g.code j (items free)
    → Ready g.code registers ram s.answers j → Stands (g.sp + free) g.sp s registers ram
    → Shown g f s (at g.code j registers ram s.answers s.trace) ram (g.sp + free) (j + length (items free)) bulk

-- ---- one piece after another

abbrev pub followed : (State → Run) → (State → Run) → State → Run
followed f next s = then_do (f s) next

chosen-append : (cs ds : List Choice) → AreChoices cs → AreChoices ds → AreChoices (cs ++ ds)
chosen-append [] ds a b = b
chosen-append (c ∷ cs) ds a b = (a.0, chosen-append cs ds a.1 b)

paced_trans : (g : Ground) (s t u : State) (n k b d : ℕ) → Paced g s t n b → Paced g t u k d
    → Paced g s u (n + k) (b + d)
paced_trans g s t u n k b d first second =
    let a1 = first.takes in let a2 = first.least in let a3 = first.most in
    let b1 = second.takes in let b2 = second.least in let b3 = second.most in
    record {
      takes = omega arith;
      least = omega arith;
      most =
          let used : s.fuel - u.fuel ≡ (s.fuel - t.fuel) + (t.fuel - u.fuel) = omega arith in
          let product : (s.fuel - u.fuel) * g.total ≡ (s.fuel - t.fuel) * g.total + (t.fuel - u.fuel) * g.total =
          ap (λ q. q * g.total) used ∙ mul-add (s.fuel - t.fuel) (t.fuel - u.fuel) g.total in
          omega (arith, product);
    }
  where
    mul-add : (x y z : ℕ) → (x + y) * z ≡ x * z + y * z
    mul-add x y z = grind arith

-- the second run after a first that went on
pub after_on : (g : Ground) (f next : State → Run) (s : State) (m : Moment) (ram : List ℕ)
    (b middle end bulk1 bulk2 : ℕ) (w : WentOn g f s m ram b middle bulk1)
    → Shown g next w.after (at g.code middle w.registers w.ram' w.after.answers w.after.trace) w.ram' b end bulk2
    → Shown g (followed f next) s m ram b end (bulk1 + bulk2)
after_on g f next s m ram b middle end bulk1 bulk2 w (On u) = On (record {
  choices = w.choices ++ u.choices;
  chosen = chosen-append w.choices u.choices w.chosen u.chosen;
  after = u.after;
  goes = λ rest.
      ap (λ cs. then_do (f (given s cs)) next) (append_assoc w.choices u.choices rest)
      ∙ ap (λ r. then_do r next) (w.goes (u.choices ++ rest)) ∙ u.goes rest;
  registers = u.registers;
  ram' = u.ram';
  steps = w.steps + u.steps;
  runs = runs-append g.low w.steps u.steps m _ _ w.runs u.runs;
  ready = u.ready;
  stands = u.stands;
  untouched = λ y low out. u.untouched y low out ∙ w.untouched y low out;
  kept = kept_trans b s.memory w.after.memory u.after.memory ram w.ram' u.ram' w.kept u.kept;
  paced = paced_trans g s w.after u.after w.steps u.steps bulk1 bulk2 w.paced u.paced;
})
after_on g f next s m ram b middle end bulk1 bulk2 w (Out u) = Out (record {
  choices = w.choices ++ u.choices;
  chosen = chosen-append w.choices u.choices w.chosen u.chosen;
  after = u.after;
  how = u.how;
  ends = λ rest.
      ap (λ cs. then_do (f (given s cs)) next) (append_assoc w.choices u.choices rest)
      ∙ ap (λ r. then_do r next) (w.goes (u.choices ++ rest)) ∙ u.ends rest;
  registers = u.registers;
  ram' = u.ram';
  place = u.place;
  steps = w.steps + u.steps;
  runs = runs-append g.low w.steps u.steps m _ _ w.runs u.runs;
  bytes = u.bytes;
  kept = kept_trans b s.memory w.after.memory u.after.memory ram w.ram' u.ram' w.kept u.kept;
  paced = paced_trans g s w.after u.after w.steps u.steps bulk1 bulk2 w.paced u.paced;
  shown = u.shown;
})
after_on g f next s m ram b middle end bulk1 bulk2 w (Wrong u) = Wrong (record {
  choices = w.choices ++ u.choices;
  chosen = chosen-append w.choices u.choices w.chosen u.chosen;
  after = u.after;
  ends = λ rest.
      ap (λ cs. then_do (f (given s cs)) next) (append_assoc w.choices u.choices rest)
      ∙ ap (λ r. then_do r next) (w.goes (u.choices ++ rest)) ∙ u.ends rest;
})

wider : (g : Ground) (s t : State) (n b d : ℕ) → b ≤ d → Paced g s t n b → Paced g s t n d
wider g s t n b d le p = let a1 = p.most in record { takes = p.takes; least = p.least; most = omega arith }

-- a run that ended does not go on
pub after_out : (g : Ground) (f next : State → Run) (s : State) (m : Moment) (ram : List ℕ) (b bulk1 bulk2 : ℕ)
    (end : ℕ) → WentOut g f s m ram b bulk1 → Shown g (followed f next) s m ram b end (bulk1 + bulk2)
after_out g f next s m ram b bulk1 bulk2 end w = Out (record {
  choices = w.choices;
  chosen = w.chosen;
  after = w.after;
  how = w.how;
  ends = λ rest. ap (λ r. then_do r next) (w.ends rest);
  registers = w.registers;
  ram' = w.ram';
  place = w.place;
  steps = w.steps;
  runs = w.runs;
  bytes = w.bytes;
  kept = w.kept;
  paced = wider g s w.after w.steps bulk1 (bulk1 + bulk2) (omega arith) w.paced;
  shown = w.shown;
})

pub after_wrong : (f next : State → Run) (s : State) → WentWrong f s → WentWrong (followed f next) s
after_wrong f next s w = record {
  choices = w.choices;
  chosen = w.chosen;
  after = w.after;
  ends = λ rest. ap (λ r. then_do r next) (w.ends rest);
}

pub join : (g : Ground) (f next : State → Run) (s : State) (m : Moment) (ram : List ℕ) (b middle end bulk1 bulk2 : ℕ)
    → Shown g f s m ram b middle bulk1
    → ((w : WentOn g f s m ram b middle bulk1)
    → Shown g next w.after (at g.code middle w.registers w.ram' w.after.answers w.after.trace) w.ram' b end bulk2)
    → Shown g (followed f next) s m ram b end (bulk1 + bulk2)
join g f next s m ram b middle end bulk1 bulk2 (On w) second =
    after_on g f next s m ram b middle end bulk1 bulk2 w (second w)
join g f next s m ram b middle end bulk1 bulk2 (Out w) second = after_out g f next s m ram b bulk1 bulk2 end w
join g f next s m ram b middle end bulk1 bulk2 (Wrong w) second = Wrong (after_wrong f next s w)

-- two pieces make one
pub simulates_then : (g : Ground) (f next : State → Run) (is ks : ℕ → List Item) (nest1 nest2 bulk1 bulk2 : ℕ)
    → Simulates g f is nest1 bulk1 → Simulates g next ks nest2 bulk2
    → Simulates g (followed f next) (λ free. is free ++ ks free) (max nest1 nest2) (bulk1 + bulk2)
simulates_then g f next is ks nest1 nest2 bulk1 bulk2 first second free j s registers ram room multiple inside deep
    placed ready stands =
    let m = at g.code j registers ram s.answers s.trace in
    let b = g.sp + free in
    let middle = j + length (is free) in
    let end : middle + length (ks free) ≡ j + length (is free ++ ks free) =
    omega (arith, length-append (is free) (ks free)) in
    subst (λ e. Shown g (followed f next) s m ram b e (bulk1 + bulk2)) end
    (join g f next s m ram b middle (middle + length (ks free)) bulk1 bulk2
    (first free j s registers ram (omega arith) multiple inside deep
    (placed-front g.code j (is free) (ks free) placed) ready stands)
    (λ w. second free middle w.after w.registers w.ram' (omega arith) multiple inside
    (let less = w.paced.takes in omega arith) (placed-back g.code j (is free) (ks free) placed) w.ready w.stands))
