-- Statements without parts and calls, in register form: from related states they come to related states.
use Rattle.std.proofs.Common.{◌≡◌, ◌≢◌, ℕ, zero, suc, ◌+◌, ◌-◌, ◌%◌, ◌^◌, ◌<◌, ◌≤◌, nat_le, nat_lt}
use Rattle.std.proofs.Common.{Bool, true, false, if◌then◌else◌, List, [], ◌∷◌, ◌++◌, length, take}
use Rattle.std.proofs.Common.{drop, Some, None, refl, sym, ap, subst, ◌∙◌, arith, pos, ℤ}
use Rattle.std.specs.Prelude.{negsuc}
use Rattle.std.specs.List.{list_all}
use Rattle.br_words.specs.declared.operation.BinOp.{BinOp}
use Rattle.br_words.specs.declared.size.Size.{Size}
use Rattle.br_words.specs.Size.{size_of}
use Rattle.br_words.specs.Words.{IsWord, wrapped, value_of_op}
use Rattle.br_bytes.specs.declared.run.Event.{Event}
use Rattle.br_bytes.specs.declared.run.Event.TheVariants.{Read, Write}
use Rattle.br_bytes.specs.Number.{number_of}
use Rattle.br_bytes.specs.Memory.{Memory, get_number, put_number}
use Rattle.br_bytes.specs.Buffers.{AreBytes, AreWords, table_number}
use Rattle.br_bytes.specs.Runs.{Goes, then_do, with_defined, happens, read_device, write_device}
use Rattle.br_flatimp.specs.declared.program.Operand.{Operand}
use Rattle.br_flatimp.specs.declared.program.Operand.TheVariants as operand
use Rattle.br_flatimp.specs.declared.program.Stmt.{Stmt}
use Rattle.br_flatimp.specs.declared.program.Stmt.TheOpen.{Stmt-F}
use Rattle.br_flatimp.specs.declared.program.Stmt.TheViews.{roll-Stmt}
use Rattle.br_flatimp.specs.Values.{Locals, with_local, operand_word, moved}
use Rattle.br_flatimp.specs.Parts.{operand_names}
use Rattle.br_flatimp.specs.WellFormed.{are_below}
use Rattle.br_flatimp.specs.Runs.{State, Run, Callee, set_to}
use Rattle.br_spill.specs.Spill.{bring, at, keep, pass, copy, bring_operand, operand_at}
use Rattle.br_spill.specs.declared.place.Place.{Place}
use Rattle.br_spill.specs.declared.place.Place.TheVariants.{Register, Slot}
use Rattle.br_spill.proofs.Follows.{given, Follows, follows-from, follows-goes, follows-alone}
use Rattle.br_spill.proofs.Follows.{follows-source, follows-read_device, follows-write_device}
use Rattle.br_spill.proofs.Extra.{Extends, extends-get, extends-put, number_small, size_small}
use Rattle.br_spill.proofs.Scene.{Scene, Holds, At, at-shown, in_register, from_six}
use Rattle.br_spill.proofs.Pieces.{does, does-after, does-first, does-step, acts, defined}
use Rattle.br_spill.proofs.Pieces.{op-step, load-step, store-step, brought, moved_to, at-not_base}
use Rattle.br_spill.proofs.Pieces.{at-not_five, kept, written, and-first, and-second, below}

-- an operation on words makes a word
abbrev pub MakesWords : Type 0
MakesWords = (o : BinOp) (a b : ℕ) → IsWord a → IsWord b → IsWord (value_of_op o a b)

-- ---- states that change outside of variables

pub at-memory : (g : Scene) (s t : State) (h : At g s t) (m k : Memory) → Extends h.extra m k
    → At g (record s { memory = m }) (record t { memory = k })
at-memory g s t h m k extends = record {
  extra = h.extra;
  outside = record {
    memory = extends;
    trace = h.outside.trace;
    answers = h.outside.answers;
    words = h.outside.words;
    choices = h.outside.choices;
    fuel = h.outside.fuel;
  };
  inner = h.inner;
  others = h.others;
  base = h.base;
  held = h.held;
}

at-happens : (g : Scene) (s t : State) (event : Event) (vs ws : List ℕ) → At g s t → vs ≡ ws → AreWords ws
    → At g (happens event (record s { answers = vs })) (happens event (record t { answers = ws }))
at-happens g s t event vs ws h same words = record {
  extra = h.extra;
  outside = record {
    memory = h.outside.memory;
    trace = ap (λ e. e ++ event ∷ []) h.outside.trace;
    answers = same;
    words = words;
    choices = h.outside.choices;
    fuel = h.outside.fuel;
  };
  inner = h.inner;
  others = h.others;
  base = h.base;
  held = h.held;
}

-- ---- a name that is set by one statement

-- after others, a statement sets a name in its place or in register 4, and then the word is put away
sets : (g : Scene) (call : Callee) (s u t : State) (x v : ℕ) (xs : List Stmt) (y : Stmt-F Stmt) → At g u t → x < g.names
    → v < 2 ^ 32 → does call xs s ≡ Goes u → acts call y u ≡ Goes (set_to (at (g.layout.place x) 4) v u)
    → Follows (At g) (does call (xs ++ roll-Stmt y ∷ keep (g.layout.place x)) s) (λ ds. Goes (given (set_to x v t) ds))
sets g call s u t x v xs y h less word before act =
    let p = g.layout.place x in
    let k = kept g call u t x v h less word in
    follows-from (At g) (does call (xs ++ roll-Stmt y ∷ keep p) s) (Goes k.after) (λ ds. Goes (given (set_to x v t) ds))
    (does-after call xs (roll-Stmt y ∷ keep p) s u before
    ∙ does-step call y (keep p) u (set_to (at p 4) v u) act ∙ k.runs)
    (follows-goes (At g) k.after (set_to x v t) k.related)

pub lit-follows : (g : Scene) (call : Callee) (x n : ℕ) (s t : State) → x < g.names → n < 2 ^ 32 → At g s t
    → Follows (At g) (does call (roll-Stmt (Stmt-F.Lit (at (g.layout.place x) 4) n) ∷ keep (g.layout.place x)) s)
    (λ ds. Goes (set_to x n (given t ds)))
lit-follows g call x n s t less word h =
    sets g call s s t x n [] (Stmt-F.Lit (at (g.layout.place x) 4) n) h less word refl refl

pub copy-follows : (g : Scene) (call : Callee) (x y : ℕ) (s t : State) → x < g.names → y < g.names → At g s t
    → Follows (At g) (does call (copy (g.layout.place x) (g.layout.place y)) s)
    (λ ds. with_defined (t.locals y) (given t ds) (λ v. Goes (set_to x v (given t ds))))
copy-follows g call x y s t less under h =
    follows-source (At g) (does call (copy p (g.layout.place y)) s) (t.locals y) t
    (λ ds v. Goes (set_to x v (given t ds))) (λ v is. by (g.layout.place y) refl v is)
  where
    p : Place
    p = g.layout.place x

    by : (q : Place) → g.layout.place y ≡ q → (v : ℕ) → t.locals y ≡ Some v
        → Follows (At g) (does call (copy p q) s) (λ ds. Goes (given (set_to x v t) ds))
    by (Register r) place v is =
        let held = h.held y v under is in
        let value : s.locals r ≡ Some v = subst (λ q. Holds g.frame.base h.extra q s.locals v) place held.holds in
        let w = written g call s t x r v h less held.word value
        (λ some e. let six = from_six g.layout.registers g.layout.slots r (in_register g y r under place) some in
        omega (arith, six, e)) in
        follows-from (At g) (does call (copy p (Register r)) s) (Goes w.after) (λ ds. Goes (given (set_to x v t) ds))
        w.runs (follows-goes (At g) w.after (set_to x v t) w.related)
    by (Slot k) place v is =
        let held = h.held y v under is in
        let moves : does call (pass (Slot k) (at p 4)) s ≡ Goes (set_to (at p 4) v s) =
        subst (λ q. does call (pass q (at p 4)) s ≡ Goes (set_to (at p 4) v s)) place
        (moved_to g call s t h y v (at p 4) under is (at-not_base g x less)) in
        let w = kept g call s t x v h less held.word in
        follows-from (At g) (does call (copy p (Slot k)) s) (Goes w.after) (λ ds. Goes (given (set_to x v t) ds))
        (does-after call (pass (Slot k) (at p 4)) (keep p) s (set_to (at p 4) v s) moves ∙ w.runs)
        (follows-goes (At g) w.after (set_to x v t) w.related)

-- ---- operations

wrapped-word : (c : ℤ) → wrapped c < 2 ^ 32
wrapped-word (pos k) = word k
  where
    word : (k : ℕ) → k % 2 ^ 32 < 2 ^ 32
    word k = omega arith
wrapped-word (negsuc k) = word k
  where
    word : (k : ℕ) → 2 ^ 32 - 1 - k % 2 ^ 32 < 2 ^ 32
    word k = omega arith

-- an operand that is brought
record Operands (g : Scene) (f : State → Run) (s t : State) (o : Operand) (b : ℕ) : Type 0 where
  locals : Locals
  runs : f s ≡ Goes (record s { locals = locals })
  value : operand_word o locals ≡ Some b
  word : b < 2 ^ 32
  others : (y : ℕ) → (g.layout.slots ≢ 0 → y ≢ 5) → locals y ≡ s.locals y
  related : At g (record s { locals = locals }) t

operand-brought : (g : Scene) (call : Callee) (z : Operand) (s t : State) (b : ℕ)
    → At g s t → are_below g.names (operand_names z) ≡ true → operand_word z t.locals ≡ Some b
    → Operands g (does call (bring_operand g.layout z)) s t (operand_at g.layout z) b
operand-brought g call (operand.Name z) s t b h inside is =
    let r = brought g call s t h z b 5 (below z g.names (and-first (nat_lt z g.names) true inside)) is (omega arith)
    (omega arith) in
    record { locals = r.locals; runs = r.runs; value = r.value; word = r.word; others = r.others; related = r.related }
operand-brought g call (operand.Const c) s t b h inside is =
    let same : wrapped c ≡ b = cc is in
    record {
      locals = s.locals;
      runs = refl;
      value = is;
      word = subst (λ n. n < 2 ^ 32) same (wrapped-word c);
      others = λ y ne. refl;
      related = h;
    }

pub op-follows : MakesWords → (g : Scene) (call : Callee) (x : ℕ) (op : BinOp) (y : ℕ) (z : Operand) (s t : State)
    → x < g.names → y < g.names → are_below g.names (operand_names z) ≡ true → At g s t
    → Follows (At g) (does call (bring (g.layout.place y) 4 ++ (bring_operand g.layout z ++ roll-Stmt (Stmt-F.Op
    (at (g.layout.place x) 4) op (at (g.layout.place y) 4) (operand_at g.layout z)) ∷ keep (g.layout.place x))) s)
    (λ ds. with_defined (t.locals y) (given t ds) (λ a.
    with_defined (operand_word z t.locals) (given t ds) (λ b. Goes (set_to x (value_of_op op a b) (given t ds)))))
op-follows makes g call x op y z s t less under inside h =
    let r = at (g.layout.place y) 4 in
    let last : Stmt-F Stmt = Stmt-F.Op (at (g.layout.place x) 4) op r (operand_at g.layout z) in
    let rest = bring_operand g.layout z ++ roll-Stmt last ∷ keep (g.layout.place x) in
    let q = does call (bring (g.layout.place y) 4 ++ rest) s in
    follows-source (At g) q (t.locals y) t (λ ds a. with_defined (operand_word z t.locals) (given t ds)
    (λ b. Goes (set_to x (value_of_op op a b) (given t ds)))) (λ a is.
    follows-source (At g) q (operand_word z t.locals) t
    (λ ds b. Goes (set_to x (value_of_op op a b) (given t ds))) (λ b is'.
    let one = brought g call s t h y a 4 under is (omega arith) (omega arith) in
    let u : State = record s { locals = one.locals } in
    let two = operand-brought g call z u t b one.related inside is' in
    let w : State = record u { locals = two.locals } in
    follows-from (At g) q (does call rest u) (λ ds. Goes (given (set_to x (value_of_op op a b) t) ds))
    (does-after call (bring (g.layout.place y) 4) rest s u one.runs)
    (sets g call u w t x (value_of_op op a b) (bring_operand g.layout z) last two.related less
    (makes op a b one.word two.word) two.runs
    (op-step call (at (g.layout.place x) 4) op r (operand_at g.layout z) w a b
    (two.others r (at-not_five g y under) ∙ one.value) two.value))))

-- ---- memory

pub load-follows : (g : Scene) (call : Callee) (x : ℕ) (size : Size) (y : ℕ) (offset : ℤ) (s t : State) → x < g.names
    → y < g.names → At g s t
    → Follows (At g) (does call (bring (g.layout.place y) 4 ++ roll-Stmt
    (Stmt-F.Load (at (g.layout.place x) 4) size (at (g.layout.place y) 4) offset) ∷ keep (g.layout.place x)) s)
    (λ ds. with_defined (t.locals y) (given t ds) (λ a. with_defined
    (get_number t.memory (moved a offset) (size_of size)) (given t ds) (λ v. Goes (set_to x v (given t ds)))))
load-follows g call x size y offset s t less under h =
    let r = at (g.layout.place y) 4 in
    let last : Stmt-F Stmt = Stmt-F.Load (at (g.layout.place x) 4) size r offset in
    let q = does call (bring (g.layout.place y) 4 ++ roll-Stmt last ∷ keep (g.layout.place x)) s in
    follows-source (At g) q (t.locals y) t (λ ds a. with_defined (get_number t.memory (moved a offset) (size_of size))
    (given t ds) (λ v. Goes (set_to x v (given t ds)))) (λ a is.
    follows-source (At g) q (get_number t.memory (moved a offset) (size_of size)) t
    (λ ds v. Goes (set_to x v (given t ds))) (λ v found.
    let one = brought g call s t h y a 4 under is (omega arith) (omega arith) in
    let u : State = record s { locals = one.locals } in
    let read = extends-get size h.extra s.memory t.memory (moved a offset) v h.outside.memory found in
    sets g call s u t x v (bring (g.layout.place y) 4) last one.related less read.1 one.runs
    (load-step call (at (g.layout.place x) 4) size r offset u a (moved a offset) v one.value refl read.0)))

pub store-follows : (g : Scene) (call : Callee) (size : Size) (y z : ℕ) (offset : ℤ) (s t : State) → y < g.names
    → z < g.names → At g s t
    → Follows (At g) (does call (bring (g.layout.place y) 4 ++ (bring (g.layout.place z) 5
    ++ roll-Stmt (Stmt-F.Store size (at (g.layout.place y) 4) (at (g.layout.place z) 5) offset) ∷ [])) s)
    (λ ds. with_defined (t.locals y) (given t ds)
    (λ a. with_defined (t.locals z) (given t ds) (λ v. with_defined (put_number t.memory (moved a offset)
    (size_of size) v) (given t ds) (λ m. Goes (record (given t ds) { memory = m })))))
store-follows g call size y z offset s t under within h =
    let r = at (g.layout.place y) 4 in
    let r2 = at (g.layout.place z) 5 in
    let last : Stmt-F Stmt = Stmt-F.Store size r r2 offset in
    let rest = bring (g.layout.place z) 5 ++ roll-Stmt last ∷ [] in
    let q = does call (bring (g.layout.place y) 4 ++ rest) s in
    follows-source (At g) q (t.locals y)
    t (λ ds a. with_defined (t.locals z) (given t ds) (λ v. with_defined (put_number t.memory (moved a offset)
    (size_of size) v) (given t ds) (λ m. Goes (record (given t ds) { memory = m })))) (λ a is.
    follows-source (At g) q (t.locals z) t (λ ds v. with_defined (put_number t.memory (moved a offset) (size_of size) v)
    (given t ds) (λ m. Goes (record (given t ds) { memory = m }))) (λ v is'.
    follows-source (At g) q (put_number t.memory (moved a offset) (size_of size) v) t
    (λ ds m. Goes (record (given t ds) { memory = m })) (λ k found.
    let one = brought g call s t h y a 4 under is (omega arith) (omega arith) in
    let u : State = record s { locals = one.locals } in
    let two = brought g call u t one.related z v 5 within is' (omega arith) (omega arith) in
    let w : State = record u { locals = two.locals } in
    let extra = two.related.extra in
    let puts = extends-put (size_of size) extra s.memory t.memory (moved a offset) v k
    two.related.outside.memory found in
    let after : State = record w { memory = puts.memory } in
    follows-from (At g) q (Goes after) (λ ds. Goes (given (record t { memory = k }) ds))
    (does-after call (bring (g.layout.place y) 4) rest s u one.runs
    ∙ does-after call (bring (g.layout.place z) 5) (roll-Stmt last ∷ []) u w two.runs
    ∙ does-step call last [] w after (store-step call size r r2 offset w a (moved a offset) v puts.memory
    (two.others r (at-not_five g y under) ∙ one.value) two.value refl puts.is))
    (follows-goes (At g) after (record t { memory = k }) (at-memory g w t two.related puts.memory k puts.extends)))))

-- ---- tables

bytes-drop : (i : ℕ) (bs : List ℕ) → list_all (λ b. nat_lt b 256) bs ≡ true
    → list_all (λ b. nat_lt b 256) (drop i bs) ≡ true
bytes-drop zero bs h = h
bytes-drop (suc i) [] h = refl
bytes-drop (suc i) (b ∷ bs) h = bytes-drop i bs (and-second (nat_lt b 256) (list_all (λ b. nat_lt b 256) bs) h)

bytes-take : (n : ℕ) (bs : List ℕ) → list_all (λ b. nat_lt b 256) bs ≡ true → AreBytes (take n bs)
bytes-take zero bs h = tt
bytes-take (suc n) [] h = tt
bytes-take (suc n) (b ∷ bs) h = (
  below b 256 (and-first (nat_lt b 256) (list_all (λ b. nat_lt b 256) bs) h),
  bytes-take n bs (and-second (nat_lt b 256) (list_all (λ b. nat_lt b 256) bs) h),
)

length-taken : (n : ℕ) (bs : List ℕ) → length (take n bs) ≤ n
length-taken zero bs = omega arith
length-taken (suc n) [] = omega arith
length-taken (suc n) (b ∷ bs) = let rest = length-taken n bs in omega (arith, rest)

table-word : (bytes : List ℕ) (i : ℕ) (size : Size) (v : ℕ) → list_all (λ b. nat_lt b 256) bytes ≡ true
    → table_number bytes i (size_of size) ≡ Some v → v < 2 ^ 32
table-word bytes i size v small is = by (nat_le (i + size_of size) (length bytes)) is
  where
    few : length (take (size_of size) (drop i bytes)) ≤ 4
    few = let a = length-taken (size_of size) (drop i bytes) in let b = size_small size in omega (arith, a, b)

    by : (b : Bool) → (if b then Some (number_of (take (size_of size) (drop i bytes))) else None) ≡ Some v → v < 2 ^ 32
    by true e =
        let same : number_of (take (size_of size) (drop i bytes)) ≡ v = cc e in
        subst (λ n. n < 2 ^ 32) same (number_small (take (size_of size) (drop i bytes))
        (bytes-take (size_of size) (drop i bytes) (bytes-drop i bytes small)) few)
    by false e = absurd (cc e)

pub table-follows : (g : Scene) (call : Callee) (x : ℕ) (size : Size) (bytes : List ℕ) (y : ℕ) (s t : State)
    → x < g.names → y < g.names → list_all (λ b. nat_lt b 256) bytes ≡ true → At g s t
    → Follows (At g) (does call (bring (g.layout.place y) 4 ++ roll-Stmt
    (Stmt-F.Table (at (g.layout.place x) 4) size bytes (at (g.layout.place y) 4)) ∷ keep (g.layout.place x)) s)
    (λ ds. with_defined (t.locals y) (given t ds)
    (λ i. with_defined (table_number bytes i (size_of size)) (given t ds) (λ v. Goes (set_to x v (given t ds)))))
table-follows g call x size bytes y s t less under small h =
    let r = at (g.layout.place y) 4 in
    let to = at (g.layout.place x) 4 in
    let last : Stmt-F Stmt = Stmt-F.Table to size bytes r in
    let q = does call (bring (g.layout.place y) 4 ++ roll-Stmt last ∷ keep (g.layout.place x)) s in
    follows-source (At g) q (t.locals y) t (λ ds i.
    with_defined (table_number bytes i (size_of size)) (given t ds) (λ v. Goes (set_to x v (given t ds)))) (λ i is.
    follows-source (At g) q (table_number bytes i (size_of size)) t (λ ds v. Goes (set_to x v (given t ds))) (λ v found.
    let one = brought g call s t h y i 4 under is (omega arith) (omega arith) in
    let u : State = record s { locals = one.locals } in
    sets g call s u t x v (bring (g.layout.place y) 4) last one.related less
    (table-word bytes i size v small found) one.runs
    (defined (u.locals r) i u
    (λ i. with_defined (table_number bytes i (size_of size)) u (λ v. Goes (set_to to v u))) one.value
    ∙ defined (table_number bytes i (size_of size)) v u (λ v. Goes (set_to to v u)) found)))

-- ---- devices, and words that are still to be put away

-- a name was set in its place or in register 4
pub record ToKeep (g : Scene) (x : ℕ) (s t : State) : Type 0 where
  pub before : State
  pub other : State
  pub value : ℕ
  pub word : value < 2 ^ 32
  pub first : s ≡ set_to (at (g.layout.place x) 4) value before
  pub second : t ≡ set_to x value other
  pub related : At g before other

pub keep-runs : (g : Scene) (call : Callee) (x : ℕ) → x < g.names → (s t : State) → ToKeep g x s t
    → Follows (At g) (does call (keep (g.layout.place x)) s) (λ ds. Goes (given t ds))
keep-runs g call x less s t h =
    let w = kept g call h.before h.other x h.value h.related less h.word in
    follows-from (At g) (does call (keep (g.layout.place x)) s) (Goes w.after) (λ ds. Goes (given t ds))
    (ap (does call (keep (g.layout.place x))) h.first ∙ w.runs)
    (follows-goes (At g) w.after t (subst (At g w.after) (sym h.second) w.related))

pub read-follows : (g : Scene) (call : Callee) (x y : ℕ) (s t : State) → x < g.names → y < g.names → At g s t
    → Follows (At g) (does call (bring (g.layout.place y) 4
    ++ roll-Stmt (Stmt-F.Read (at (g.layout.place x) 4) (at (g.layout.place y) 4)) ∷ keep (g.layout.place x)) s)
    (λ ds. with_defined (t.locals y) (given t ds) (λ a. read_device (with_local x) a (given t ds)))
read-follows g call x y s t less under h =
    let r = at (g.layout.place y) 4 in
    let to = at (g.layout.place x) 4 in
    let last : Stmt-F Stmt = Stmt-F.Read to r in
    let rest = roll-Stmt last ∷ keep (g.layout.place x) in
    let q = does call (bring (g.layout.place y) 4 ++ rest) s in
    follows-source (At g) q (t.locals y) t (λ ds a. read_device (with_local x) a (given t ds)) (λ a is.
    let one = brought g call s t h y a 4 under is (omega arith) (omega arith) in
    let u : State = record s { locals = one.locals } in
    follows-from (At g) q (then_do (read_device (with_local to) a u) (does call (keep (g.layout.place x))))
    (λ ds. read_device (with_local x) a (given t ds))
    (does-after call (bring (g.layout.place y) 4) rest s u one.runs ∙ does-first call last (keep (g.layout.place x)) u
    ∙ ap (λ o. then_do o (does call (keep (g.layout.place x))))
    (defined (u.locals r) a u (λ a. read_device (with_local to) a u) one.value))
    (follows-alone (ToKeep g x) (At g) (read_device (with_local to) a u)
    (λ ds. read_device (with_local x) a (given t ds)) (does call (keep (g.layout.place x)))
    (follows-read_device (ToKeep g x) a (with_local to) (with_local x) u t one.related.outside.answers
    (at-shown g u t one.related) (λ v left has.
    let words = subst AreWords has one.related.outside.words in
    record {
      before = happens (Read a v) (record u { answers = left });
      other = happens (Read a v) (record t { answers = left });
      value = v;
      word = words.0;
      first = refl;
      second = refl;
      related = at-happens g u t (Read a v) left left one.related refl words.1;
    }))
    (keep-runs g call x less)))

pub write-follows : (g : Scene) (call : Callee) (y z : ℕ) (s t : State) → y < g.names → z < g.names → At g s t
    → Follows (At g) (does call (bring (g.layout.place y) 4 ++ (bring (g.layout.place z) 5
    ++ roll-Stmt (Stmt-F.Write (at (g.layout.place y) 4) (at (g.layout.place z) 5)) ∷ [])) s)
    (λ ds. with_defined (t.locals y) (given t ds)
    (λ a. with_defined (t.locals z) (given t ds) (λ v. write_device a v (given t ds))))
write-follows g call y z s t under within h =
    let r = at (g.layout.place y) 4 in
    let r2 = at (g.layout.place z) 5 in
    let last : Stmt-F Stmt = Stmt-F.Write r r2 in
    let rest = bring (g.layout.place z) 5 ++ roll-Stmt last ∷ [] in
    let q = does call (bring (g.layout.place y) 4 ++ rest) s in
    follows-source (At g) q (t.locals y) t
    (λ ds a. with_defined (t.locals z) (given t ds) (λ v. write_device a v (given t ds))) (λ a is.
    follows-source (At g) q (t.locals z) t (λ ds v. write_device a v (given t ds)) (λ v is'.
    let one = brought g call s t h y a 4 under is (omega arith) (omega arith) in
    let u : State = record s { locals = one.locals } in
    let two = brought g call u t one.related z v 5 within is' (omega arith) (omega arith) in
    let w : State = record u { locals = two.locals } in
    follows-from (At g) q (then_do (write_device a v w) Goes) (λ ds. write_device a v (given t ds))
    (does-after call (bring (g.layout.place y) 4) rest s u one.runs
    ∙ does-after call (bring (g.layout.place z) 5) (roll-Stmt last ∷ []) u w two.runs ∙ does-first call last [] w
    ∙ ap (λ o. then_do o Goes) (defined (w.locals r) a w (λ a. with_defined (w.locals r2) w (λ v. write_device a v w))
    (two.others r (at-not_five g y under) ∙ one.value)
    ∙ defined (w.locals r2) v w (λ v. write_device a v w) two.value))
    (follows-alone (At g) (At g) (write_device a v w) (λ ds. write_device a v (given t ds)) Goes
    (follows-write_device (At g) a v w t (at-happens g w t (Write a v) w.answers t.answers two.related
    two.related.outside.answers two.related.outside.words))
    (λ u v k. follows-goes (At g) u v k))))
