-- Runs of the pieces that statements in register form are made of: words that are brought, put away and passed.
use Rattle.std.proofs.Common.{◌≡◌, ◌≢◌, ℕ, zero, suc, ◌+◌, ◌*◌, ◌%◌, ◌^◌, ◌<◌, ◌≤◌, ◌==◌, ◌&&◌}
use Rattle.std.proofs.Common.{nat_lt, Bool, true, false, if◌then◌else◌, List, [], ◌∷◌, ◌++◌, map}
use Rattle.std.proofs.Common.{length, Option, Some, None, refl, sym, ap, subst, ◌∙◌, arith, pos, ℤ}
use mathlib.Core.Path.{fun_ext}
use Rattle.std.specs.Option.{option_map}
use Rattle.std.proofs.lemmas.Bool.Decides.{nat_tests}
use Rattle.br_words.specs.declared.operation.BinOp.{BinOp}
use Rattle.br_words.specs.declared.operation.BinOp.TheVariants.{Add}
use Rattle.br_words.specs.declared.size.Size.{Size}
use Rattle.br_words.specs.declared.size.Size.TheVariants.{Four}
use Rattle.br_words.specs.Size.{size_of}
use Rattle.br_words.specs.Layout.{stack_end}
use Rattle.br_words.specs.Words.{value_of_op}
use Rattle.br_bytes.specs.Number.{number_of, low_bytes}
use Rattle.br_bytes.specs.Memory.{Memory, in_front, bytes_at, get_number, put_number}
use Rattle.br_bytes.specs.Buffers.{AreWords}
use Rattle.br_bytes.specs.Runs.{Goes, then_do, with_defined}
use Rattle.br_bytes.proofs.Bytes.{number_of-low_bytes}
use Rattle.br_flatimp.specs.declared.program.Operand.{Operand}
use Rattle.br_flatimp.specs.declared.program.Operand.TheVariants as operand
use Rattle.br_flatimp.specs.declared.program.Stmt.{Stmt, map-Stmt}
use Rattle.br_flatimp.specs.declared.program.Stmt.TheOpen.{Stmt-F}
use Rattle.br_flatimp.specs.declared.program.Stmt.TheViews.{roll-Stmt}
use Rattle.br_flatimp.specs.declared.program.Stmt.TheFolds.{fold-roll-Stmt}
use Rattle.br_flatimp.specs.Values.{Locals, with_local, with_locals, words_of, operand_word, moved}
use Rattle.br_flatimp.specs.WellFormed.{are_below}
use Rattle.br_flatimp.specs.Runs.{State, Run, Callee, forgets_none, set_to, statement_step, run, run_all}
use Rattle.br_flatimp.proofs.Lists.{run_all-append}
use Rattle.br_spill.specs.Spill.{fetch, put_away, bring, at, keep, put, pass, passes, takes, in_order}
use Rattle.br_spill.specs.declared.place.Place.{Place}
use Rattle.br_spill.specs.declared.place.Place.TheVariants.{Register, Slot}
use Rattle.br_spill.proofs.Extra.{Stands, stands-read, low_bytes-length}
use Rattle.br_spill.proofs.Scene.{Scene, Held, At, in_register, in_slot, not_passing, from_six, free-passing}
use Rattle.br_spill.proofs.Scene.{free-spare, at-free, with-same, with-other, at-register, at-slot}

-- ---- runs in turn

abbrev pub does : Callee → List Stmt → State → Run
does call = run_all forgets_none call

pub does-append : (call : Callee) (xs ys : List Stmt) (s : State)
    → does call (xs ++ ys) s ≡ then_do (does call xs s) (does call ys)
does-append call xs ys s = run_all-append forgets_none call xs ys s

pub does-after : (call : Callee) (xs ys : List Stmt) (s t : State) → does call xs s ≡ Goes t
    → does call (xs ++ ys) s ≡ does call ys t
does-after call xs ys s t e = does-append call xs ys s ∙ ap (λ r. then_do r (does call ys)) e

-- what a statement does by itself
abbrev pub acts : Callee → Stmt-F Stmt → State → Run
acts call y = statement_step forgets_none call (map-Stmt Stmt (State → Run) (run forgets_none call) y)

pub does-first : (call : Callee) (y : Stmt-F Stmt) (rest : List Stmt) (s : State)
    → does call (roll-Stmt y ∷ rest) s ≡ then_do (acts call y s) (does call rest)
does-first call y rest s =
    ap (λ f. then_do (f s) (does call rest)) (fold-roll-Stmt (State → Run) (statement_step forgets_none call) y)

pub does-step : (call : Callee) (y : Stmt-F Stmt) (rest : List Stmt) (s t : State) → acts call y s ≡ Goes t
    → does call (roll-Stmt y ∷ rest) s ≡ does call rest t
does-step call y rest s t e = does-first call y rest s ∙ ap (λ r. then_do r (does call rest)) e

pub defined : {X : Type 0} (o : Option X) (x : X) (s : State) (f : X → Run) → o ≡ Some x → with_defined o s f ≡ f x
defined o x s f e = ap (λ p. with_defined p s f) e

pub op-step : (call : Callee) (x : ℕ) (op : BinOp) (y : ℕ) (z : Operand) (s : State) (a b : ℕ) → s.locals y ≡ Some a
    → operand_word z s.locals ≡ Some b → acts call (Stmt-F.Op x op y z) s ≡ Goes (set_to x (value_of_op op a b) s)
op-step call x op y z s a b e f =
    defined (s.locals y) a s
    (λ a. with_defined (operand_word z s.locals) s (λ b. Goes (set_to x (value_of_op op a b) s))) e
    ∙ defined (operand_word z s.locals) b s (λ b. Goes (set_to x (value_of_op op a b) s)) f

pub load-step : (call : Callee) (x : ℕ) (size : Size) (y : ℕ) (offset : ℤ) (s : State) (a b v : ℕ)
    → s.locals y ≡ Some a → moved a offset ≡ b → get_number s.memory b (size_of size) ≡ Some v
    → acts call (Stmt-F.Load x size y offset) s ≡ Goes (set_to x v s)
load-step call x size y offset s a b v e f g =
    defined (s.locals y) a s
    (λ a. with_defined (get_number s.memory (moved a offset) (size_of size)) s (λ v. Goes (set_to x v s))) e
    ∙ defined (get_number s.memory (moved a offset) (size_of size)) v s (λ v. Goes (set_to x v s))
    (ap (λ q. get_number s.memory q (size_of size)) f ∙ g)

pub store-step : (call : Callee) (size : Size) (y z : ℕ) (offset : ℤ) (s : State) (a b v : ℕ) (m : Memory)
    → s.locals y ≡ Some a → s.locals z ≡ Some v → moved a offset ≡ b → put_number s.memory b (size_of size) v ≡ Some m
    → acts call (Stmt-F.Store size y z offset) s ≡ Goes (record s { memory = m })
store-step call size y z offset s a b v m e f g h =
    defined (s.locals y) a s (λ a. with_defined (s.locals z) s (λ v.
    with_defined (put_number s.memory (moved a offset) (size_of size) v) s (λ m. Goes (record s { memory = m })))) e
    ∙ defined (s.locals z) v s (λ v.
    with_defined (put_number s.memory (moved a offset) (size_of size) v) s (λ m. Goes (record s { memory = m }))) f
    ∙ defined (put_number s.memory (moved a offset) (size_of size) v) m s (λ m. Goes (record s { memory = m }))
    (ap (λ q. put_number s.memory q (size_of size) v) g ∙ h)

pub copy-step : (call : Callee) (x y : ℕ) (s : State) (v : ℕ) → s.locals y ≡ Some v
    → acts call (Stmt-F.Copy x y) s ≡ Goes (set_to x v s)
copy-step call x y s v e = defined (s.locals y) v s (λ v. Goes (set_to x v s)) e

-- ---- addresses in the buffer

near-address : (g : Scene) (k : ℕ) → k < g.layout.slots → moved g.frame.base (pos (4 * k)) ≡ g.frame.base + 4 * k
near-address g k inside = by g.frame.base g.frame.size g.layout.slots g.frame.high g.size inside
  where
    by : (b size slots : ℕ) → b + size ≤ stack_end → size ≡ 4 * slots → k < slots
        → (b + (4 * k) % 2 ^ 32) % 2 ^ 32 ≡ b + 4 * k
    by b size slots high is inside = omega (arith, high, is, inside)

far-address : (g : Scene) (k : ℕ) → k < g.layout.slots → value_of_op Add (4 * k) g.frame.base ≡ g.frame.base + 4 * k
far-address g k inside = by g.frame.base g.frame.size g.layout.slots g.frame.high g.size inside
  where
    by : (b size slots : ℕ) → b + size ≤ stack_end → size ≡ 4 * slots → k < slots → (4 * k + b) % 2 ^ 32 ≡ b + 4 * k
    by b size slots high is inside = omega (arith, high, is, inside)

still-address : (g : Scene) (k : ℕ) → k < g.layout.slots
    → moved (value_of_op Add (4 * k) g.frame.base) (pos 0) ≡ g.frame.base + 4 * k
still-address g k inside = by g.frame.base g.frame.size g.layout.slots g.frame.high g.size inside
  where
    by : (b size slots : ℕ) → b + size ≤ stack_end → size ≡ 4 * slots → k < slots
        → ((4 * k + b) % 2 ^ 32 + 0) % 2 ^ 32 ≡ b + 4 * k
    by b size slots high is inside = omega (arith, high, is, inside)

pub has_slots : (k slots : ℕ) → k < slots → slots ≢ 0
has_slots k slots inside same = omega (arith, inside, same)

number-back : (v : ℕ) → v < 2 ^ 32 → number_of (low_bytes 4 v) ≡ v
number-back v word = number_of-low_bytes Four v ∙ same v word
  where
    same : (v : ℕ) → v < 2 ^ 32 → v % 256 ^ 4 ≡ v
    same v word = omega (arith, word)

slot-read : (g : Scene) (s t : State) (h : At g s t) (k v : ℕ) → Stands h.extra (g.frame.base + 4 * k) (low_bytes 4 v)
    → v < 2 ^ 32 → get_number s.memory (g.frame.base + 4 * k) 4 ≡ Some v
slot-read g s t h k v stands word =
    ap (option_map number_of)
    (subst (λ n. bytes_at s.memory (g.frame.base + 4 * k) n ≡ Some (low_bytes 4 v)) (low_bytes-length 4 v)
    (stands-read (low_bytes 4 v) h.extra s.memory t.memory (g.frame.base + 4 * k) h.outside.memory stands))
    ∙ ap Some (number-back v word)

-- ---- words that are brought

twice-set : (r v a : ℕ) (l : Locals) → with_local r v (with_local r a l) ≡ with_local r v l
twice-set r v a l = fun_ext (λ y. by (y == r) (l y))
  where
    by : (b : Bool) (o : Option ℕ) → (if b then Some v else (if b then Some a else o)) ≡ (if b then Some v else o)
    by true o = refl
    by false o = refl

-- a word of the buffer is loaded to a register
fetched : (g : Scene) (call : Callee) (s t : State) (h : At g s t) (k r v : ℕ)
    → k < g.layout.slots → Stands h.extra (g.frame.base + 4 * k) (low_bytes 4 v) → v < 2 ^ 32 → r ≢ 3
    → does call (fetch k r) s ≡ Goes (set_to r v s)
fetched g call s t h k r v inside stands word ne = by (nat_lt k 512)
  where
    at_base : s.locals 3 ≡ Some g.frame.base
    at_base = h.base (has_slots k g.layout.slots inside)

    read : get_number s.memory (g.frame.base + 4 * k) 4 ≡ Some v
    read = slot-read g s t h k v stands word

    by : (b : Bool) → does call (if b then roll-Stmt (Stmt-F.Load r Four 3 (pos (4 * k))) ∷ []
        else roll-Stmt (Stmt-F.Lit r (4 * k)) ∷ roll-Stmt (Stmt-F.Op r Add r (operand.Name 3))
        ∷ roll-Stmt (Stmt-F.Load r Four r (pos 0)) ∷ []) s ≡ Goes (set_to r v s)
    by true =
        does-step call (Stmt-F.Load r Four 3 (pos (4 * k))) [] s (set_to r v s) (load-step call r Four 3 (pos (4 * k)) s
        g.frame.base (g.frame.base + 4 * k) v at_base (near-address g k inside) read)
    by false =
        let a = value_of_op Add (4 * k) g.frame.base in
        let one : Stmt-F Stmt = Stmt-F.Lit r (4 * k) in
        let two : Stmt-F Stmt = Stmt-F.Op r Add r (operand.Name 3) in
        let three : Stmt-F Stmt = Stmt-F.Load r Four r (pos 0) in
        let s1 = set_to r (4 * k) s in
        let s2 = set_to r a s1 in
        let far : s1.locals 3 ≡ Some g.frame.base = with-other r (4 * k) 3 s.locals (λ e. ne (sym e)) ∙ at_base in
        does-step call one (roll-Stmt two ∷ roll-Stmt three ∷ []) s s1 refl
        ∙ does-step call two (roll-Stmt three ∷ []) s1 s2
        (op-step call r Add r (operand.Name 3) s1 (4 * k) g.frame.base (with-same r (4 * k) s.locals) far)
        ∙ does-step call three [] s2 (set_to r v s2) (load-step call r Four r (pos 0) s2 a (g.frame.base + 4 * k) v
        (with-same r a s1.locals) (still-address g k inside) read)
        ∙ ap (λ l. Goes (record s { locals = l })) (twice-set r v a s1.locals ∙ twice-set r v (4 * k) s.locals)

-- a run that leaves a word in a register, and changes a spare one at most, where there is a buffer
pub record Brought (g : Scene) (f : State → Run) (s t : State) (spare r v : ℕ) : Type 0 where
  pub locals : Locals
  pub runs : f s ≡ Goes (record s { locals = locals })
  pub value : locals r ≡ Some v
  pub word : v < 2 ^ 32
  pub others : (y : ℕ) → (g.layout.slots ≢ 0 → y ≢ spare) → locals y ≡ s.locals y
  pub related : At g (record s { locals = locals }) t

spare-not_base : (r : ℕ) → 4 ≤ r → r ≢ 3
spare-not_base r low e = omega (arith, low, e)

pub brought : (g : Scene) (call : Callee) (s t : State)
    → At g s t → (x v spare : ℕ) → x < g.names → t.locals x ≡ Some v → 4 ≤ spare → spare ≤ 5
    → Brought g (does call (bring (g.layout.place x) spare)) s t spare (at (g.layout.place x) spare) v
brought g call s t h x v spare less is low high = by (g.layout.place x) refl (h.held x v less is)
  where
    by : (p : Place) → g.layout.place x ≡ p → Held g.frame.base h.extra p s.locals v
        → Brought g (does call (bring p spare)) s t spare (at p spare) v
    by (Register r) place held = record {
      locals = s.locals;
      runs = refl;
      value = held.holds;
      word = held.word;
      others = λ y ne. refl;
      related = h;
    }
    by (Slot k) place held =
        let inside = in_slot g x k less place in
        let some = has_slots k g.layout.slots inside in
        record {
          locals = with_local spare v s.locals;
          runs = fetched g call s t h k spare v inside held.holds held.word (spare-not_base spare low);
          value = with-same spare v s.locals;
          word = held.word;
          others = λ y ne. with-other spare v y s.locals (ne some);
          related = at-free g s t spare (with_local spare v s.locals) h (free-spare g spare some low high)
              (λ y ne. with-other spare v y s.locals ne);
        }

-- a word is loaded or copied to a register
pub moved_to : (g : Scene) (call : Callee) (s t : State) → At g s t → (x v to : ℕ) → x < g.names → t.locals x ≡ Some v
    → (g.layout.slots ≢ 0 → to ≢ 3) → does call (pass (g.layout.place x) to) s ≡ Goes (set_to to v s)
moved_to g call s t h x v to less is ne = by (g.layout.place x) refl (h.held x v less is)
  where
    by : (p : Place) → g.layout.place x ≡ p → Held g.frame.base h.extra p s.locals v
        → does call (pass p to) s ≡ Goes (set_to to v s)
    by (Register r) place held =
        does-step call (Stmt-F.Copy to r) [] s (set_to to v s) (copy-step call to r s v held.holds)
    by (Slot k) place held =
        let inside = in_slot g x k less place in
        fetched g call s t h k to v inside held.holds held.word (ne (has_slots k g.layout.slots inside))

-- where a name's word is written at first
pub at-not_base : (g : Scene) (x : ℕ) → x < g.names → g.layout.slots ≢ 0 → at (g.layout.place x) 4 ≢ 3
at-not_base g x less some = by (g.layout.place x) refl
  where
    by : (p : Place) → g.layout.place x ≡ p → at p 4 ≢ 3
    by (Register r) place e =
        let six = from_six g.layout.registers g.layout.slots r (in_register g x r less place) some in
        omega (arith, six, e)
    by (Slot k) place e = omega (arith, e)

pub at-not_five : (g : Scene) (x : ℕ) → x < g.names → g.layout.slots ≢ 0 → at (g.layout.place x) 4 ≢ 5
at-not_five g x less some = by (g.layout.place x) refl
  where
    by : (p : Place) → g.layout.place x ≡ p → at p 4 ≢ 5
    by (Register r) place e =
        let six = from_six g.layout.registers g.layout.slots r (in_register g x r less place) some in
        omega (arith, six, e)
    by (Slot k) place e = omega (arith, e)

-- ---- words that are written

-- a run after which a name is set, and which changes no register that passes words
pub record Written (g : Scene) (f : State → Run) (s t2 : State) : Type 0 where
  pub after : State
  pub runs : f s ≡ Goes after
  pub related : At g after t2
  pub passing : (y : ℕ) → 10 ≤ y → y ≤ 17 → after.locals y ≡ s.locals y

put_away-written : (g : Scene) (call : Callee) (s t : State) (x k r v : ℕ) → At g s t → x < g.names → g.layout.place x
    ≡ Slot k → v < 2 ^ 32 → s.locals r ≡ Some v → r ≢ 5 → Written g (does call (put_away k r)) s (set_to x v t)
put_away-written g call s t x k r v h less place word value ne = by (nat_lt k 512)
  where
    inside : k < g.layout.slots
    inside = in_slot g x k less place

    at_base : s.locals 3 ≡ Some g.frame.base
    at_base = h.base (has_slots k g.layout.slots inside)

    by : (b : Bool) → Written g (does call (if b then roll-Stmt (Stmt-F.Store Four 3 r (pos (4 * k))) ∷ []
        else roll-Stmt (Stmt-F.Lit 5 (4 * k)) ∷ roll-Stmt (Stmt-F.Op 5 Add 5 (operand.Name 3))
        ∷ roll-Stmt (Stmt-F.Store Four 5 r (pos 0)) ∷ [])) s (set_to x v t)
    by true =
        let y : Stmt-F Stmt = Stmt-F.Store Four 3 r (pos (4 * k)) in
        let stored = at-slot g s t x k v h less place word in
        record {
          after = record s { memory = stored.memory };
          runs = does-step call y [] s (record s { memory = stored.memory }) (store-step call Four 3 r (pos (4 * k)) s
              g.frame.base (g.frame.base + 4 * k) v stored.memory at_base value (near-address g k inside) stored.is);
          related = stored.related;
          passing = λ y low high. refl;
        }
    by false =
        let a = value_of_op Add (4 * k) g.frame.base in
        let one : Stmt-F Stmt = Stmt-F.Lit 5 (4 * k) in
        let two : Stmt-F Stmt = Stmt-F.Op 5 Add 5 (operand.Name 3) in
        let three : Stmt-F Stmt = Stmt-F.Store Four 5 r (pos 0) in
        let s1 = set_to 5 (4 * k) s in
        let s2 = set_to 5 a s1 in
        let same : (y : ℕ) → y ≢ 5 → s2.locals y ≡ s.locals y =
        λ y ne. with-other 5 a y s1.locals ne ∙ with-other 5 (4 * k) y s.locals ne in
        let h2 : At g s2 t = at-free g s t 5 s2.locals h
        (free-spare g 5 (has_slots k g.layout.slots inside) (omega arith) (omega arith)) same in
        let stored = at-slot g s2 t x k v h2 less place word in
        let s3 : State = record s2 { memory = stored.memory } in
        record {
          after = s3;
          runs = does-step call one (roll-Stmt two ∷ roll-Stmt three ∷ []) s s1 refl
              ∙ does-step call two (roll-Stmt three ∷ [])
              s1 s2 (op-step call 5 Add 5 (operand.Name 3) s1 (4 * k) g.frame.base (with-same 5 (4 * k) s.locals)
              (with-other 5 (4 * k) 3 s.locals (λ e. omega (arith, e)) ∙ at_base))
              ∙ does-step call three [] s2 s3 (store-step call Four 5 r (pos 0) s2 a (g.frame.base + 4 * k) v
              stored.memory (with-same 5 a s1.locals) (same r ne ∙ value) (still-address g k inside) stored.is);
          related = stored.related;
          passing = λ y low high. same y (λ e. omega (arith, low, e));
        }

-- a name that is set in its place or in register 4 at first
pub kept : (g : Scene) (call : Callee) (s t : State) (x v : ℕ) → At g s t → x < g.names → v < 2 ^ 32
    → Written g (does call (keep (g.layout.place x))) (set_to (at (g.layout.place x) 4) v s) (set_to x v t)
kept g call s t x v h less word = by (g.layout.place x) refl
  where
    by : (p : Place) → g.layout.place x ≡ p → Written g (does call (keep p)) (set_to (at p 4) v s) (set_to x v t)
    by (Register r) place = record {
      after = set_to r v s;
      runs = refl;
      related = at-register g s t x r v h less place word;
      passing = λ y low high. refl;
    }
    by (Slot k) place =
        put_away-written g call (set_to 4 v s) t x k 4 v
        (at-free g s t 4 (with_local 4 v s.locals)
        h (free-spare g 4 (has_slots k g.layout.slots (in_slot g x k less place)) (omega arith) (omega arith))
        (λ y ne. with-other 4 v y s.locals ne))
        less place word (with-same 4 v s.locals) (λ e. omega (arith, e))

-- a name that is set to the word of a register
pub written : (g : Scene) (call : Callee) (s t : State) (x r v : ℕ) → At g s t → x < g.names → v < 2 ^ 32 → s.locals r
    ≡ Some v → (g.layout.slots ≢ 0 → r ≢ 5) → Written g (does call (put (g.layout.place x) r)) s (set_to x v t)
written g call s t x r v h less word value ne = by (g.layout.place x) refl
  where
    by : (p : Place) → g.layout.place x ≡ p → Written g (does call (put p r)) s (set_to x v t)
    by (Register q) place = record {
      after = set_to q v s;
      runs = does-step call (Stmt-F.Copy q r) [] s (set_to q v s) (copy-step call q r s v value);
      related = at-register g s t x q v h less place word;
      passing = λ y low high. with-other q v y s.locals (λ same. not_passing g.layout.registers g.layout.slots y
          (in_register g x y less (place ∙ ap Register (sym same))) low high);
    }
    by (Slot k) place = put_away-written g call s t x k r v h less place word value
        (ne (has_slots k g.layout.slots (in_slot g x k less place)))

-- ---- words in order

pub record Front (o : Option ℕ) (p : Option (List ℕ)) (vs : List ℕ) : Type 0 where
  pub word : ℕ
  pub rest : List ℕ
  pub first : o ≡ Some word
  pub second : p ≡ Some rest
  pub is : vs ≡ word ∷ rest

pub front : (o : Option ℕ) (p : Option (List ℕ)) (vs : List ℕ) → in_front o p ≡ Some vs → Front o p vs
front None p vs e = absurd (cc e)
front (Some v) None vs e = absurd (cc e)
front (Some v) (Some ws) vs e = record { word = v; rest = ws; first = refl; second = refl; is = cc e }

pub in_front-some : (o : Option ℕ) (p : Option (List ℕ)) (v : ℕ) (vs : List ℕ) → o ≡ Some v → p ≡ Some vs
    → in_front o p ≡ Some (v ∷ vs)
in_front-some o p v vs e f = rw (e, f) refl

pub and-first : (a b : Bool) → (a && b) ≡ true → a ≡ true
and-first true b e = refl
and-first false b e = absurd (cc e)

pub and-second : (a b : Bool) → (a && b) ≡ true → b ≡ true
and-second true b e = e
and-second false b e = absurd (cc e)

pub below : (x n : ℕ) → nat_lt x n ≡ true → x < n
below x n e = grind (arith, nat_tests)

none : (l : Locals) (vs : List ℕ) → words_of [] l ≡ Some vs → AreWords vs
none l vs is = let same : [] ≡ vs = cc is in subst AreWords same tt

-- words that are passed in registers from one on
pub record AllPassed (g : Scene) (f : State → Run) (s t : State) (to n : ℕ) (vs : List ℕ) : Type 0 where
  pub locals : Locals
  pub runs : f s ≡ Goes (record s { locals = locals })
  pub words : words_of (in_order to n) locals ≡ Some vs
  pub are_words : AreWords vs
  pub others : (y : ℕ) → y < to → locals y ≡ s.locals y
  pub related : At g (record s { locals = locals }) t

pub all_passed : (g : Scene) (call : Callee) (ys : List ℕ) (s t : State) (to : ℕ) (vs : List ℕ) → At g s t
    → are_below g.names ys ≡ true → words_of ys t.locals ≡ Some vs → 10 ≤ to → to + length ys ≤ 18
    → AllPassed g (does call (passes (map g.layout.place ys) to)) s t to (length ys) vs
all_passed g call [] s t to vs h inside is low high = record {
  locals = s.locals;
  runs = refl;
  words = is;
  are_words = none t.locals vs is;
  others = λ y less. refl;
  related = h;
}
all_passed g call (y ∷ ys) s t to vs h inside is low high =
    let f = front (t.locals y) (words_of ys t.locals) vs is in
    let s1 : State = set_to to f.word s in
    let one = moved_to g call s t h y f.word to (below y g.names
    (and-first (nat_lt y g.names) (are_below g.names ys) inside)) f.first (λ some e. omega (arith, low, e)) in
    let h1 : At g s1 t = at-free g s t to s1.locals h (free-passing g to low (omega (arith, high)))
    (λ y ne. with-other to f.word y s.locals ne) in
    let more = all_passed g call ys s1 t (suc to) f.rest h1 (and-second (nat_lt y g.names) (are_below g.names ys)
    inside) f.second (omega (arith, low)) (omega (arith, high)) in
    record {
      locals = more.locals;
      runs =
          does-after call (pass (g.layout.place y) to) (passes (map g.layout.place ys) (suc to)) s s1 one ∙ more.runs;
      are_words = subst AreWords (sym f.is) (
        (h.held y f.word
            (below y g.names (and-first (nat_lt y g.names) (are_below g.names ys) inside)) f.first).word,
        more.are_words,
      );
      words = in_front-some (more.locals to) (words_of (in_order (suc to) (length ys)) more.locals) f.word f.rest
          (more.others to (omega arith) ∙ with-same to f.word s.locals) more.words ∙ ap Some (sym f.is);
      others =
          λ z less. more.others z (omega (arith, less)) ∙ with-other to f.word z s.locals (λ e. omega (arith, less, e));
      related = more.related;
    }

pub words-same : (n a : ℕ) (l k : Locals) → 10 ≤ a → a + n ≤ 18 → ((y : ℕ) → 10 ≤ y → y ≤ 17 → k y ≡ l y)
    → words_of (in_order a n) k ≡ words_of (in_order a n) l
words-same zero a l k low high same = refl
words-same (suc n) a l k low high same =
    ap (λ o. in_front o (words_of (in_order (suc a) n) k)) (same a low (omega (arith, high)))
    ∙ ap (in_front (l a)) (words-same n (suc a) l k (omega (arith, low)) (omega (arith, high)) same)

-- names that are set to words that were passed
pub all_taken : (g : Scene) (call : Callee) (xs : List ℕ) (s t : State) (from : ℕ) (vs : List ℕ) → At g s t
    → are_below g.names xs ≡ true → words_of (in_order from (length xs)) s.locals ≡ Some vs → AreWords vs → 10 ≤ from
    → from + length xs ≤ 18
    → Written g (does call (takes (map g.layout.place xs) from)) s (record t { locals = with_locals xs vs t.locals })
all_taken g call [] s t from vs h inside is words low high =
    record { after = s; runs = refl; related = h; passing = λ y low high. refl }
all_taken g call (x ∷ xs) s t from vs h inside is words low high =
    let f = front (s.locals from) (words_of (in_order (suc from) (length xs)) s.locals) vs is in
    let split : AreWords (f.word ∷ f.rest) = subst AreWords f.is words in
    let one = written g call s t
    x from f.word h (below x g.names (and-first (nat_lt x g.names) (are_below g.names xs) inside)) split.0 f.first
    (λ some e. omega (arith, low, e)) in
    let left = words-same (length xs) (suc from) s.locals one.after.locals (omega (arith, low)) (omega (arith, high))
    one.passing ∙ f.second in
    let more = all_taken g call xs one.after (set_to x f.word t) (suc from) f.rest one.related (and-second
    (nat_lt x g.names) (are_below g.names xs) inside) left split.1 (omega (arith, low)) (omega (arith, high)) in
    record {
      after = more.after;
      runs = does-after call (put (g.layout.place x) from) (takes (map g.layout.place xs) (suc from)) s one.after
          one.runs ∙ more.runs;
      related = subst (λ ws. At g more.after (record t { locals = with_locals (x ∷ xs) ws t.locals }))
          (sym f.is) more.related;
      passing = λ y low high. more.passing y low high ∙ one.passing y low high;
    }
