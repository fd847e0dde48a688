-- Calls, in code: by induction on how deep they are followed.
use Rattle.std.proofs.Common.{not, ◌||◌, ◌≡◌, ◌≢◌, ◌⊎◌, inl, inr, ℕ, ◌+◌, ◌-◌, ◌*◌, ◌/◌, ◌%◌, ◌^◌, ◌<◌, ◌≤◌}
use Rattle.std.proofs.Common.{List, [], ◌∷◌, ◌++◌, length, Option, Some, None, Bool, true, false, ◌==◌, ◌&&◌}
use Rattle.std.proofs.Common.{nat_lt, nat_le, if◌then◌else◌, pos, negsuc, subst, refl, sym, ap, ◌∙◌, arith}
use Rattle.std.specs.Prelude.{slice_get, slice_index, IfSome}
use Rattle.std.specs.List.{list_all, AllByRecursion}
use Rattle.std.proofs.lemmas.Bool.{ltb-true, ltb-false}
use Rattle.std.proofs.lemmas.Bool.Decides.{nat_tests}
use Rattle.br_words.specs.Words.{IsWord, wrapped, signed}
use Rattle.br_bytes.specs.declared.run.Event.{Event}
use Rattle.br_flatimp.specs.declared.program.FlatFunc.{FlatFunc}
use Rattle.br_flatimp.specs.Runs.{Forgets, function_of}
use Rattle.br_rv32im.specs.declared.instruction.Ins.TheVariants.{Upper, Jal, Jalr, Imm}
use Rattle.br_rv32im.specs.declared.instruction.ImmOp.TheVariants.{Addi}
use Rattle.br_rv32im.specs.declared.instruction.UpperOp.TheVariants.{Lui, Auipc}
use Rattle.br_rv32im.specs.Encoding.{word_of, Fits, FitsBits, FitsSignedBits, IsEven}
use Rattle.br_machine.specs.State.{MachineState, IsMachine, register}
use Rattle.br_machine.specs.Traps.{trap_of}
use Rattle.br_machine.specs.Step.{step}
use Rattle.br_machine.specs.Steps.{Runs}
use Rattle.br_emit.specs.Code.{is_short, touches, keeps_link, Does, Targets, is_near, is_reached}
use Rattle.br_emit.specs.Code.{distance_to, jump_items, high_part, low_part, call_items, registers}
use Rattle.br_emit.specs.Code.{changes, save_items, restore_items, move_items, exit_items}
pub use Rattle.br_emit.specs.Laid.{Function, may_call}
use Rattle.br_emit.proofs.Stepping.{machine, at, Good, Table, put, reads, Good-put, reads-put_same}
use Rattle.br_emit.proofs.Stepping.{reads-put_other, step_sets, step_goes, IsAbove-none}
use Rattle.br_emit.proofs.Pieces.{other_rests, Ground, Placed, placed-front, placed-back, runs-append, runs_one, Ready}
use Rattle.br_emit.proofs.Setting.{ready_runs, good_of}
use Rattle.br_emit.proofs.Operations.{parts_value}
use Rattle.br_emit.proofs.Jumping.{aligned, jumps_by}
use Rattle.br_emit.proofs.Frames.{IsKept, move_points, word_at, Stored, saves_run}
use Rattle.br_emit.proofs.Frames.{restores_run, exit_run, NoneOf, Rises}
use Rattle.br_emit.proofs.Statements.{CallSimulates}
use Rattle.br_flatimp.specs.Parts.{throughout}
use Rattle.br_flatimp.specs.Sizes.{nest}

-- ---- programs in code

-- a program in code
pub record World : Type 0 where
  pub code : List ℕ
  pub low : ℕ
  pub total : ℕ
  pub table : Table
  pub makes : (s : MachineState) (next : Option ℕ) → IsMachine s → IfSome next IsWord → IsMachine (step s next).0
  pub fs : List FlatFunc
  pub targets : Targets
  pub forgets : Forgets
  pub called : ℕ → Bool
  pub need : ℕ → ℕ
  pub limit : ℕ → ℕ
  pub bottom : 0x80200000 ≤ low
  pub reach : targets.near ≡ true → length code < 262144
  pub functions : (n : ℕ) (f : FlatFunc) → slice_get fs n ≡ Some f
      → Function code fs targets forgets called need limit total n f

-- where x1 may not be changed all of the code is near
pub short_of : (w : World) (f : FlatFunc) → touches w.targets.near w.forgets f 1 ≡ false → length w.code < 262144
short_of w f still = w.reach (near_of (changes w.forgets f 1) w.targets.near
    (not (list_all (throughout keeps_link) f.body) || nat_lt 2047 (nest f)) still)
  where
    near_of : (a b c : Bool) → (a || (true && (not b || c))) ≡ false → b ≡ true
    near_of false true c e = refl
    near_of false false c e = absurd (cc)
    near_of true b c e = absurd (cc)

-- what the body of a function rests on, with the stack pointer at a place
abbrev pub ground : (w : World) (n : ℕ) (f : FlatFunc) (d sp : ℕ) → w.low ≤ sp → sp ≤ 0x80300000 → sp % 4 ≡ 0 → Ground
ground w n f d sp under top aligned = record {
  code = w.code;
  low = w.low;
  sp = sp;
  depth = d;
  touched = touches w.targets.near w.forgets f;
  called = may_call f w.need (w.limit n);
  total = w.total;
  table = w.table;
  makes = w.makes;
  bottom = w.bottom;
  under = under;
  top = top;
  aligned = aligned;
  short = short_of w f;
}

-- calls from the function numbered n are followed d deep
abbrev pub CallsAt : World → ℕ → Type 0
CallsAt w d =
    (n : ℕ) (f : FlatFunc) (sp : ℕ) (under : w.low ≤ sp) (top : sp ≤ 0x80300000) (four : sp % 4 ≡ 0)
    → w.low + w.limit n ≤ sp
    → slice_get w.fs n ≡ Some f
    → CallSimulates (ground w n f d sp under top four) w.targets w.forgets (function_of w.forgets w.fs d) w.fs

-- ---- the jump to a function

pub record Leaps (g : Ground) (j next to : ℕ) (registers ram answers : List ℕ) (trace : List Event) : Type 0 where
  pub registers' : List ℕ
  pub good : Good g.code registers' ram
  pub steps : ℕ
  pub some : 1 ≤ steps
  pub few : steps ≤ 2
  pub runs : Runs g.low steps (at g.code j registers ram answers trace) (at g.code to registers' ram answers trace)
  pub back : reads registers' 1 ≡ 0x80300000 + 4 * next
  pub others : (y : ℕ) → y ≢ 1 → reads registers' y ≡ reads registers y

-- the jump of a near call reaches
reached : (j to target : ℕ) → target ≡ 0x80300000 + 4 * to → j < 262144 → to < 262144
    → is_reached (distance_to j target) ≡ true
reached j to target is near far =
    let distance = distance_to j target in
    let whole : distance % 4 ≡ 0 = omega arith in
    by (nat_lt distance (2 ^ 20)) refl (nat_le (2 ^ 32 - 2 ^ 20) distance) refl whole
  where
    by : (a : Bool) → nat_lt (distance_to j target) (2 ^ 20) ≡ a
        → (b : Bool) → nat_le (2 ^ 32 - 2 ^ 20) (distance_to j target) ≡ b → distance_to j target % 4 ≡ 0
        → is_reached (distance_to j target) ≡ true
    by true e b k whole = let four : (distance_to j target % 4 == 0) ≡ true = grind (arith, nat_tests) in
        rw (e, four) refl
    by false e true k whole = let four : (distance_to j target % 4 == 0) ≡ true = grind (arith, nat_tests) in
        rw (e, k, four) refl
    by false e false k whole =
        let low : 2 ^ 20 ≤ distance_to j target = ltb-false (distance_to j target) (2 ^ 20) e in
        let high : distance_to j target < 2 ^ 32 - 2 ^ 20 = grind (arith, nat_tests) in
        absurd (omega arith)

-- it fits
link_fits : (w : ℕ) → w < 2 ^ 32 → is_reached w ≡ true → Fits (Jal 1 (signed w))
link_fits w small is = by (nat_lt w (2 ^ 31)) refl (reach.0) (reach.1)
  where
    parts : (a b : Bool) → (a && b) ≡ true → (a ≡ true) × (b ≡ true)
    parts true true h = (refl, refl)
    parts true false h = absurd (cc)
    parts false b h = absurd (cc)

    reach : (is_near w ≡ true) × (w % 4 ≡ 0)
    reach = let two = parts (is_near w) (w % 4 == 0) is in let four = two.1 in (two.0, grind (arith, nat_tests))

    low : is_near w ≡ true → w < 2 ^ 31 → w < 2 ^ 20
    low near half = pick (nat_lt w (2 ^ 20)) refl (nat_le (2 ^ 32 - 2 ^ 20) w) refl near
      where
        pick : (a : Bool) → nat_lt w (2 ^ 20) ≡ a → (b : Bool) → nat_le (2 ^ 32 - 2 ^ 20) w ≡ b
            → (a || b) ≡ true → w < 2 ^ 20
        pick true e b k h = ltb-true w (2 ^ 20) e
        pick false e true k h = let far : 2 ^ 32 - 2 ^ 20 ≤ w = grind (arith, nat_tests) in absurd (omega arith)
        pick false e false k h = absurd (cc)

    high : is_near w ≡ true → 2 ^ 31 ≤ w → 2 ^ 32 - 2 ^ 20 ≤ w
    high near half = pick (nat_lt w (2 ^ 20)) refl (nat_le (2 ^ 32 - 2 ^ 20) w) refl near
      where
        pick : (a : Bool) → nat_lt w (2 ^ 20) ≡ a → (b : Bool) → nat_le (2 ^ 32 - 2 ^ 20) w ≡ b → (a || b) ≡ true
            → 2 ^ 32 - 2 ^ 20 ≤ w
        pick true e b k h = let less = ltb-true w (2 ^ 20) e in absurd (omega arith)
        pick false e true k h = grind (arith, nat_tests)
        pick false e false k h = absurd (cc)

    by : (b : Bool) → nat_lt w (2 ^ 31) ≡ b → is_near w ≡ true → w % 4 ≡ 0 → FitsBits 5 1 × FitsSignedBits 21 (if b
        then pos w else negsuc (2 ^ 32 - 1 - w)) × IsEven (if b then pos w else negsuc (2 ^ 32 - 1 - w))
    by true e near whole = let less = low near (ltb-true w (2 ^ 31) e) in
        (omega arith, (grind arith, grind arith), omega arith)
    by false e near whole = let more = high near (ltb-false w (2 ^ 31) e) in
        (omega arith, (grind arith, grind arith), omega arith)

pub leaps : (g : Ground) (near : Bool) (j to target : ℕ) (registers ram answers : List ℕ) (trace : List Event)
    → g.touched 1 ≡ true → Good g.code registers ram → Placed g.code j (call_items near target)
    → target ≡ 0x80300000 + 4 * to → target < 2 ^ 32 → j < 1048576
    → (near ≡ true → length g.code < 262144) → j < length g.code → to < length g.code
    → Leaps g j (j + length (call_items near target)) to registers ram answers trace
leaps g true j to target registers ram answers trace touched good placed is small few reach inside there =
    let most = reach refl in
    let w = distance_to j target in
    let bound : w < 2 ^ 32 = omega arith in
    let ok = reached j to target is (omega arith) (omega arith) in
    let two = near_is ok in
    let has : slice_get g.code j ≡ Some (word_of (Jal 1 (signed w))) = placed.0
    ∙ ap (λ b. Some (if b then word_of (Jal 1 (signed w)) else 0)) ok in
    let items : Placed g.code j (if is_near w then Does (Jal 1 (signed w)) ∷ []
    else Does (Upper Auipc 1 (high_part w % 2 ^ 20)) ∷ Does (Jalr 1 1 (low_part w)) ∷ []) =
    subst (λ b. Placed g.code j (if b then Does (Jal 1 (signed w)) ∷ [] else Does (Upper Auipc 1 (high_part w % 2 ^ 20))
    ∷ Does (Jalr 1 1 (low_part w)) ∷ [])) (sym two) (has, link_fits w bound ok, tt) in
    let leads : (0x80300000 + 4 * j + w) % 2 ^ 32 ≡ 0x80300000 + 4 * to = omega arith in
    let jumps = jumps_by g j to 1 w registers ram answers trace good items (inr (refl, touched))
    (λ e. (omega arith, omega arith)) bound leads (omega arith) in
    let moves = jumps.moves in
    let one : length (jump_items 1 w) ≡ 1 = ap (λ b. length (if b then Does (Jal 1 (signed w)) ∷ []
    else Does (Upper Auipc 1 (high_part w % 2 ^ 20)) ∷ Does (Jalr 1 1 (low_part w)) ∷ [])) two in
    record {
      registers' = moves.registers';
      good = moves.good;
      steps = moves.steps;
      some = moves.some;
      few = moves.few;
      runs = moves.runs;
      back = jumps.link_is refl ∙ ap (λ n. 0x80300000 + 4 * (j + n)) one;
      others = λ y ne. moves.others y (other_rests g y ne);
    }
  where
    near_is : is_reached (distance_to j target) ≡ true → is_near (distance_to j target) ≡ true
    near_is h = by (is_near (distance_to j target)) (distance_to j target % 4 == 0) h
      where
        by : (a b : Bool) → (a && b) ≡ true → a ≡ true
        by true b h = refl
        by false b h = absurd (cc)
leaps g false j to target registers ram answers trace touched good placed is small near reach inside there =
    let all = good.all in
    let x = high_part target * 4096 in
    let first = step_sets g.table g.code registers ram answers trace g.low j (Upper Lui 1 (high_part target)) 1 x good
    placed.0 placed.1 refl refl (IsAbove-none g.low) in
    let registers1 = put 1 x registers in
    let good1 = Good-put g.code registers ram 1 x good in
    let one : reads registers1 1 ≡ x = reads-put_same 1 x registers (omega arith) (omega arith) in
    let v = (0x80300000 + 4 * (j + 1) + 4) % 2 ^ 32 in
    let t = (register (machine g.code (j + 1) registers1 ram) 1 + wrapped (low_part target)) % 2 ^ 32 / 2 * 2 in
    let fits = placed.1 in
    let value : (x + wrapped (low_part target)) % 2 ^ 32 ≡ target = parts_value target fits.1 in
    let goes : t ≡ 0x80300000 + 4 * to = ap (λ q. (q + wrapped (low_part target)) % 2 ^ 32 / 2 * 2) one
    ∙ ap (λ q. q / 2 * 2) (value ∙ is) ∙ even to in
    let fine : trap_of (Jalr 1 1 (low_part target)) (machine g.code (j + 1) registers1 ram) ≡ None =
    aligned t (ap (λ q. q % 4) goes ∙ multiple to) in
    let second = step_goes g.table g.code registers1 ram answers trace g.low (j + 1) to (Jalr 1 1 (low_part target)) 1 v
    t good1 placed.2.0 placed.2.1 fine refl goes (IsAbove-none g.low) in
    record {
      registers' = put 1 v registers1;
      good = Good-put g.code registers1 ram 1 v good1;
      steps = 2;
      some = omega arith;
      few = omega arith;
      runs = (
        at g.code (j + 1) registers1 ram answers trace,
        first,
        (at g.code to (put 1 v registers1) ram answers trace, second, refl),
      );
      back = reads-put_same 1 v registers1 (omega arith) (omega (arith, good1.all)) ∙ omega arith;
      others = λ y ne. reads-put_other 1 y v registers1 ne ∙ reads-put_other 1 y x registers ne;
    }
  where
    even : (to : ℕ) → (0x80300000 + 4 * to) / 2 * 2 ≡ 0x80300000 + 4 * to
    even to = omega arith

    multiple : (to : ℕ) → (0x80300000 + 4 * to) % 4 ≡ 0
    multiple to = omega arith

-- ---- before the body

pub record Opened (g : Ground) (j to sp bytes down : ℕ) (rs registers ram answers : List ℕ)
    (trace : List Event) : Type 0 where
  pub registers' : List ℕ
  pub ram' : List ℕ
  pub good : Good g.code registers' ram'
  pub steps : ℕ
  pub few : steps ≤ 6 + length rs
  pub runs : Runs g.low steps (at g.code j registers ram answers trace) (at g.code to registers' ram' answers trace)
  pub pointer : reads registers' 2 ≡ sp - bytes - down
  pub others : (y : ℕ) → y ≢ 2 → y ≢ 1 → reads registers' y ≡ reads registers y
  pub link : down ≤ 2047 → reads registers' 1 ≡ reads registers 1
  pub stored : Stored registers ram' (sp - bytes) rs
  pub bytes_stay : (q : ℕ) → 0x80100000 ≤ q → (q < sp - bytes) ⊎ (sp ≤ q)
      → slice_index ram' (q - 0x80100000) ≡ slice_index ram (q - 0x80100000)

-- registers that agree stand alike
stored_same : (registers registers' ram : List ℕ) (a : ℕ) (rs : List ℕ) → AllByRecursion IsKept rs → ((y : ℕ) → y ≢ 2
    → reads registers' y ≡ reads registers y) → Stored registers' ram a rs → Stored registers ram a rs
stored_same _ _ ram a [] kept same h = tt
stored_same was now ram a (r ∷ rs) kept same h =
    (h.0 ∙ same r kept.0.1, stored_same was now ram (a + 4) rs kept.1 same h.1)

-- registers that agree but for x1 agree, where x1 agrees
all_same : (was now : List ℕ) (y : ℕ) → y ≢ 2 → reads now 1 ≡ reads was 1
    → ((y : ℕ) → y ≢ 2 → y ≢ 1 → reads now y ≡ reads was y) → reads now y ≡ reads was y
all_same was now y ne link others = by (y == 1) refl
  where
    by : (b : Bool) → (y == 1) ≡ b → reads now y ≡ reads was y
    by true e = let one : y ≡ 1 = grind (arith, nat_tests) in subst (λ q. reads now q ≡ reads was q) (sym one) link
    by false e = let other : y ≢ 1 = grind (arith, nat_tests) in others y ne other

short_up : (n : ℕ) → n ≤ 2047 → is_short n ≡ true
short_up n few = grind (arith, nat_tests)

short_down : (n : ℕ) → n ≤ 2047 → is_short ((2 ^ 32 - n) % 2 ^ 32) ≡ true
short_down n few = by (nat_lt ((2 ^ 32 - n) % 2 ^ 32) 2048) refl
  where
    by : (b : Bool) → nat_lt ((2 ^ 32 - n) % 2 ^ 32) 2048 ≡ b → is_short ((2 ^ 32 - n) % 2 ^ 32) ≡ true
    by true e = rw e refl
    by false e =
        let far : 2048 ≤ (2 ^ 32 - n) % 2 ^ 32 = ltb-false ((2 ^ 32 - n) % 2 ^ 32) 2048 e in
        let low : nat_le (2 ^ 32 - 2048) ((2 ^ 32 - n) % 2 ^ 32) ≡ true =
        at_most (2 ^ 32 - 2048) ((2 ^ 32 - n) % 2 ^ 32) (omega arith) in
        let high : nat_lt ((2 ^ 32 - n) % 2 ^ 32) (2 ^ 32) ≡ true =
        below ((2 ^ 32 - n) % 2 ^ 32) (2 ^ 32) (omega arith) in
        rw (e, low, high) refl
      where
        at_most : (a b : ℕ) → a ≤ b → nat_le a b ≡ true
        at_most a b h = grind (arith, nat_tests)

        below : (a b : ℕ) → a < b → nat_lt a b ≡ true
        below a b h = grind (arith, nat_tests)

pub opens : (g : Ground) (j sp down : ℕ) (rs registers ram answers : List ℕ) (trace : List Event)
    → Ready g.code registers ram answers j
    → AllByRecursion IsKept rs → length rs ≤ 30
    → Placed g.code j
    (move_items ((2 ^ 32 - 4 * length rs) % 2 ^ 32) ++ (save_items 0 rs ++ move_items ((2 ^ 32 - down) % 2 ^ 32)))
    → reads registers 2 ≡ sp → sp ≤ 0x80300000 → g.low + 4 * length rs + down ≤ sp
    → Opened g j (j + length (move_items ((2 ^ 32 - 4 * length rs) % 2 ^ 32)) + length (save_items 0 rs)
    + length (move_items ((2 ^ 32 - down) % 2 ^ 32))) sp (4 * length rs) down rs registers ram answers trace
opens g j sp down rs registers ram answers trace ready names few_rs placed pointer top room =
    let bottom = g.bottom in
    let good = good_of g.code registers ram answers j ready in
    let bytes = 4 * length rs in
    let a = sp - bytes in
    let first = move_items ((2 ^ 32 - bytes) % 2 ^ 32) in
    let last = move_items ((2 ^ 32 - down) % 2 ^ 32) in
    let made = move_points g j registers ram answers trace ((2 ^ 32 - bytes) % 2 ^ 32) sp a good
    (placed-front g.code j first (save_items 0 rs ++ last) placed) pointer (omega arith) (omega arith) in
    let j1 = j + length first in
    let ready1 = ready_runs g registers ram answers made.registers' ram answers trace trace j j1 made.steps
    ready made.runs in
    let words1 = ready1.is in
    let tail = placed-back g.code j first (save_items 0 rs ++ last) placed in
    let saved = saves_run g rs j1 0 a made.registers' ram answers trace made.good words1.words
    (placed-front g.code j1 (save_items 0 rs) last tail) (omega (arith, made.value)) (omega arith) (omega arith) in
    let k = j1 + length (save_items 0 rs) in
    let points = move_points g k made.registers' saved.ram' answers trace ((2 ^ 32 - down) % 2 ^ 32) a (a - down)
    saved.good (placed-back g.code j1 (save_items 0 rs) last tail) made.value (omega arith) (omega arith) in
    let few1 = made.few in
    let few = points.few in
    let link1 : reads made.registers' 1 ≡ reads registers 1 = made.kept (short_down bytes (omega arith)) in
    record {
      registers' = points.registers';
      ram' = saved.ram';
      good = points.good;
      steps = made.steps + (length rs + points.steps);
      few = omega arith;
      runs = runs-append g.low made.steps (length rs + points.steps)
          (at g.code j registers ram answers trace) (at g.code j1 made.registers' ram answers trace)
          (at g.code (k + length last) points.registers' saved.ram' answers trace) made.runs
          (runs-append g.low (length rs) points.steps
          (at g.code j1 made.registers' ram answers trace) (at g.code k made.registers' saved.ram' answers trace)
          (at g.code (k + length last) points.registers' saved.ram' answers trace) saved.runs points.runs);
      pointer = points.value;
      others = λ y ne one. points.others y ne one ∙ made.others y ne one;
      link = λ small. points.kept (short_down down small) ∙ link1;
      stored = stored_same registers made.registers' saved.ram' a rs names
          (λ y ne. all_same registers made.registers' y ne link1 made.others) saved.stored;
      bytes_stay = λ q from apart. saved.others q from (aside q apart);
    }
  where
    aside : (q : ℕ) → (q < sp - 4 * length rs) ⊎ (sp ≤ q)
        → (q < sp - 4 * length rs) ⊎ (sp - 4 * length rs + 4 * length rs ≤ q)
    aside q (inl h) = inl h
    aside q (inr h) = let bottom = g.bottom in inr (omega arith)

-- ---- after the body

pub record Closed (g : Ground) (j to sp bytes : ℕ) (rs registers ram answers : List ℕ)
    (trace : List Event) : Type 0 where
  pub registers' : List ℕ
  pub steps : ℕ
  pub few : steps ≤ 7 + length rs
  pub runs : Runs g.low steps (at g.code j registers ram answers trace) (at g.code to registers' ram answers trace)
  pub pointer : reads registers' 2 ≡ sp
  pub stored : Stored registers' ram (sp - bytes) rs
  pub others : (y : ℕ) → NoneOf y rs → y ≢ 2 → y ≢ 1 → reads registers' y ≡ reads registers y

stored_after : (registers registers' ram : List ℕ) (a : ℕ) (rs : List ℕ) → AllByRecursion IsKept rs → ((y : ℕ) → y ≢ 2
    → reads registers' y ≡ reads registers y) → Stored registers ram a rs → Stored registers' ram a rs
stored_after registers registers' ram a [] kept same h = tt
stored_after registers registers' ram a (r ∷ rs) kept same h =
    (h.0 ∙ sym (same r kept.0.1), stored_after registers registers' ram (a + 4) rs kept.1 same h.1)

-- where the return address is after the body: in the frame, or still in x1
pub data Returns (registers ram : List ℕ) (a down to : ℕ) (rs : List ℕ) : Type 0 where
  FromFrame : (ss : List ℕ) → rs ≡ 1 ∷ ss → word_at ram a ≡ 0x80300000 + 4 * to → Returns registers ram a down to rs
  FromLink : NoneOf 1 rs → down ≤ 2047 → reads registers 1 ≡ 0x80300000 + 4 * to → Returns registers ram a down to rs

pub closes : (g : Ground) (j to sp down : ℕ) (rs registers ram answers : List ℕ) (trace : List Event)
    → Good g.code registers ram → Rises rs → AllByRecursion IsKept rs → length rs ≤ 30
    → Placed g.code j (move_items down ++ (restore_items 0 rs ++ (move_items (4 * length rs) ++ exit_items)))
    → reads registers 2 ≡ sp - 4 * length rs - down → sp ≤ 0x80300000 → g.low + 4 * length rs + down ≤ sp
    → Returns registers ram (sp - 4 * length rs) down to rs → to < 2000000
    → Closed g j to sp (4 * length rs) rs registers ram answers trace
closes g j to sp down rs registers ram answers trace good rises names few_rs placed pointer top room returns near =
    let bottom = g.bottom in
    let bytes = 4 * length rs in
    let a = sp - bytes in
    let tail = restore_items 0 rs ++ (move_items bytes ++ exit_items) in
    let p1 = placed-front g.code j (move_items down) tail placed in
    let p2 = placed-back g.code j (move_items down) tail placed in
    let k1 = j + length (move_items down) in
    let points = move_points g j registers ram answers trace down (a - down) a good p1 pointer (omega arith)
    (omega arith) in
    let q1 = placed-front g.code k1 (restore_items 0 rs) (move_items bytes ++ exit_items) p2 in
    let q2 = placed-back g.code k1 (restore_items 0 rs) (move_items bytes ++ exit_items) p2 in
    let restored = restores_run g rs k1 0 a points.registers' ram answers trace points.good q1 rises names
    (omega (arith, points.value)) (omega arith) (omega arith) in
    let k2 = k1 + length (restore_items 0 rs) in
    let two2 : reads restored.registers' 2 ≡ a = restored.others 2 (two_of rs names) ∙ points.value in
    let r1 = placed-front g.code k2 (move_items bytes) exit_items q2 in
    let r2 = placed-back g.code k2 (move_items bytes) exit_items q2 in
    let moved = move_points g k2 restored.registers' ram answers trace bytes a sp restored.good r1 two2 (omega arith)
    (omega arith) in
    let k3 = k2 + length (move_items bytes) in
    let link = moved.kept (short_up bytes (omega arith)) in
    let back = there returns points.registers' restored.registers' restored.stored (restored.others 1) points.kept in
    let exits = exit_run g k3 to moved.registers' ram answers trace moved.good r2 (link ∙ back) near in
    let few = points.few in
    let few2 = moved.few in
    record {
      registers' = exits.registers';
      steps = points.steps + (length rs + (moved.steps + 1));
      few = omega arith;
      runs = runs-append g.low points.steps (length rs + (moved.steps + 1))
          (at g.code j registers ram answers trace) (at g.code k1 points.registers' ram answers trace)
          (at g.code to exits.registers' ram answers trace) points.runs
          (runs-append g.low (length rs) (moved.steps + 1) (at g.code k1 points.registers' ram answers trace) (at g.code
          k2 restored.registers' ram answers trace) (at g.code to exits.registers' ram answers trace) restored.runs
          (runs-append g.low moved.steps 1 (at g.code k2 restored.registers' ram answers trace)
          (at g.code k3 moved.registers' ram answers trace) (at g.code to exits.registers' ram answers trace)
          moved.runs exits.runs));
      pointer = exits.others 2 ∙ moved.value;
      stored = stored_after restored.registers' exits.registers' ram a rs names (λ y ne. exits.others y
          ∙ all_same restored.registers' moved.registers' y ne link moved.others) restored.stored;
      others =
          λ y none ne one. exits.others y ∙ moved.others y ne one ∙ restored.others y none ∙ points.others y ne one;
    }
  where
    two_of : (rs : List ℕ) → AllByRecursion IsKept rs → NoneOf 2 rs
    two_of [] h = tt
    two_of (r ∷ rs) h = ((λ e. h.0.1 (sym e)), two_of rs h.1)

    there : Returns registers ram (sp - 4 * length rs) down to rs → (registers1 registers2 : List ℕ)
        → Stored registers2 ram (sp - 4 * length rs) rs
        → (NoneOf 1 rs → reads registers2 1 ≡ reads registers1 1)
        → (is_short down ≡ true → reads registers1 1 ≡ reads registers 1) → reads registers2 1 ≡ 0x80300000 + 4 * to
    there (FromFrame ss is word) registers1 registers2 stored others kept =
        sym (subst (λ q. Stored registers2 ram (sp - 4 * length rs) q) is stored).0 ∙ word
    there (FromLink none small back) registers1 registers2 stored others kept =
        others none ∙ kept (short_up down small) ∙ back
