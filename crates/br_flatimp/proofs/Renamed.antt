-- Statements with other names match those that they came from, from what is live before to what is live
-- after. Calls may forget what is not live. Bodies of statements are any runs that match.
use Rattle.std.proofs.Common.{◌≡◌, ℕ, Bool, true, false, not, ◌==◌, List, [], ◌∷◌}
use Rattle.std.proofs.Common.{◌++◌, map, Option, inr, refl, sym, ap, subst, IsTrue}
use Rattle.br_words.specs.Size.{size_of}
use Rattle.br_words.specs.Words.{value_of_op}
use Rattle.br_bytes.specs.declared.run.Event.TheVariants.{Read, Write}
use Rattle.br_bytes.specs.Memory.{Memory, get_number, put_number, with_bytes}
use Rattle.br_bytes.specs.Buffers.{is_good, table_number, without_range}
use Rattle.br_bytes.specs.Runs.{Goes, then_do, with_defined, choose, with_fuel}
use Rattle.br_bytes.specs.Runs.{with_buffer, loop, read_device, write_device, back_in}
use Rattle.br_flatimp.specs.declared.program.Cond.{Cond}
use Rattle.br_flatimp.specs.declared.program.Stmt.TheOpen.{Stmt-F}
use Rattle.br_flatimp.specs.Parts.{written, read, parts, own_callees, operand_names, test_names}
use Rattle.br_flatimp.specs.Values.{Locals, Names, with_local, with_locals, without_names}
use Rattle.br_flatimp.specs.Values.{words_of, operand_word, moved, test_word}
use Rattle.br_flatimp.specs.Runs.{State, Run, Callee, Forgets, set_to, statement_step}
use Rattle.br_flatimp.specs.Liveness.{is_in, union, without, Within}
use Rattle.br_flatimp.specs.Matches.{SameOutside, Matches, CalleesMatch, IsSameDefined}
use Rattle.br_flatimp.specs.Renaming.{renamed_operand, renamed_test, renamed_step, IsApart, At}
use Rattle.br_flatimp.proofs.Live.{or_left, or_right, and_both, both_and}
use Rattle.br_flatimp.proofs.Matches.{matches-then_do, matches-weaker, matches-with_defined, matches-choose}
use Rattle.br_flatimp.proofs.Matches.{matches-with_fuel, AtTest, matches-loop, given, matches-with_buffer}
use Rattle.br_flatimp.proofs.Matches.{matches-read_device, matches-write_device, matches-back_in}
use Rattle.br_flatimp.proofs.Covers.{is_in-head, is_in-tail, covers-within, covers-words, covers-operand}
use Rattle.br_flatimp.proofs.Covers.{covers-test, covers-write, covers-write_all, covers-without}

abbrev pub Outside : State → State → Type 0
Outside = SameOutside

pub outside-locals : (l m : Locals) (s t : State) → SameOutside s t
    → SameOutside (record s { locals = l }) (record t { locals = m })
outside-locals l m s t h =
    record { memory = h.memory; trace = h.trace; answers = h.answers; choices = h.choices; fuel = h.fuel }

pub outside-memory : (m : Memory) (s t : State) → SameOutside s t
    → SameOutside (record s { memory = m }) (record t { memory = m })
outside-memory m s t h =
    record { memory = refl; trace = h.trace; answers = h.answers; choices = h.choices; fuel = h.fuel }

pub at-within : (to : ℕ → ℕ) (small large : Names) (s t : State) → Within small large → At to large s t
    → At to small s t
at-within to small large s t k h =
    record { locals = covers-within to small large s.locals t.locals k h.locals; outside = h.outside }

within-left : (a b : Names) → Within a (union a b)
within-left a b x h = or_left (a x) (b x) h

within-right : (a b : Names) → Within b (union a b)
within-right a b x h = or_right (a x) (b x) h

pub at-left : (to : ℕ → ℕ) (a b : Names) (s t : State) → At to (union a b) s t → At to a s t
at-left to a b s t h = at-within to a (union a b) s t (within-left a b) h

pub at-right : (to : ℕ → ℕ) (a b : Names) (s t : State) → At to (union a b) s t → At to b s t
at-right to a b s t h = at-within to b (union a b) s t (within-right a b) h

pub at-set : (to : ℕ → ℕ) (live : Names) (x v : ℕ) (s t : State) → At to (without live (x ∷ [])) s t → IsApart to x live
    → At to live (set_to (to x) v s) (set_to x v t)
at-set to live x v s t h apart = record {
  locals = covers-write to live s.locals t.locals x v h.locals apart;
  outside = outside-locals (with_local (to x) v s.locals) (with_local x v t.locals) s t h.outside;
}

-- a name that is read
at-read : (to : ℕ → ℕ) (a : Names) (ys : List ℕ) (y : ℕ) (s t : State) → At to (union a (is_in ys)) s t
    → IsTrue (is_in ys y) → IsSameDefined (s.locals (to y)) (t.locals y)
at-read to a ys y s t h i = h.locals y (or_right (a y) (is_in ys y) i)

same_defined : {X : Type 0} (a b : Option X) → a ≡ b → IsSameDefined a b
same_defined a b h = inr h

-- what is read from the memory
same-get : (s t : State) (a n : ℕ) → SameOutside s t → IsSameDefined (get_number s.memory a n) (get_number t.memory a n)
same-get s t a n h = inr (ap (λ m. get_number m a n) h.memory)

same-put : (s t : State) (a n v : ℕ) → SameOutside s t
    → IsSameDefined (put_number s.memory a n v) (put_number t.memory a n v)
same-put s t a n v h = inr (ap (λ m. put_number m a n v) h.memory)

-- ---- statements with no parts

-- the names that a statement writes stay apart from what is live after it, and its call forgets nothing of it
pub record MayWrite (to : ℕ → ℕ) (forgets : Forgets) (xs gs : List ℕ) (live : Names) : Type 0 where
  pub apart : (x : ℕ) → IsTrue (is_in xs x) → IsApart to x live
  pub kept : (g x : ℕ) → IsTrue (is_in gs g) → IsTrue (live x) → is_in xs x ≡ false → forgets g (to x) ≡ false

-- what a statement needs before it
abbrev pub needed : {X : Type 0} → Stmt-F X → Names → Names
needed y live = union (without live (written y)) (is_in (read y))

at-one : (to : ℕ → ℕ) (forgets : Forgets) (live : Names) (x v : ℕ) (gs ys : List ℕ) (s t : State)
    → MayWrite to forgets (x ∷ []) gs live → At to (union (without live (x ∷ [])) (is_in ys)) s t
    → At to live (set_to (to x) v s) (set_to x v t)
at-one to forgets live x v gs ys s t may h =
    at-set to live x v s t (at-left to (without live (x ∷ [])) (is_in ys) s t h) (may.apart x (is_in-head x []))

at-none : (to : ℕ → ℕ) (live : Names) (ys : List ℕ) (s t : State) → At to (union (without live []) (is_in ys)) s t
    → At to live s t
at-none to live ys s t h = at-within to live (union (without live []) (is_in ys)) s t
    (λ x alive. or_left (without live [] x) (is_in ys x) (both_and (live x) true alive refl)) h

renamed-call : (to : ℕ → ℕ) (fq fp : Forgets) (q p : Callee)
    → CalleesMatch q p → (xs ys : List ℕ) (g : ℕ) (live : Names) (s t : State) → MayWrite to fq xs (g ∷ []) live
    → At to (union (without live xs) (is_in ys)) s t → Matches (At to live) Outside (statement_step fq q
    (Stmt-F.Call (map to xs) g (map to ys)) s) (statement_step fp p (Stmt-F.Call xs g ys) t)
renamed-call to fq fp q p callees xs ys g live s t may h =
    let kept : At to (without live xs) s t = at-left to (without live xs) (is_in ys) s t h in
    let read : At to (is_in ys) s t = at-right to (without live xs) (is_in ys) s t h in
    let before : Locals = without_names (fq g) s.locals in
    let others : Locals = without_names (fp g) t.locals in
    let one : List ℕ → State → Run = λ vs u. back_in (with_locals (map to xs)) before (q g vs u) in
    let two : List ℕ → State → Run = λ vs u. back_in (with_locals xs) others (p g vs u) in
    matches-with_defined (At to live) Outside (words_of (map to ys) s.locals) (words_of ys t.locals) s t
    (λ vs. with_fuel s (one vs)) (λ vs. with_fuel t (two vs))
    (covers-words to ys s.locals t.locals read.locals) (λ vs is.
    matches-with_fuel (At to live) Outside s t (one vs) (two vs) h.outside.fuel (λ none. h.outside) (λ k is.
    let u : State = record s { fuel = k } in
    let v : State = record t { fuel = k } in
    let outside : SameOutside u v = record {
      memory = h.outside.memory;
      trace = h.outside.trace;
      answers =
          h.outside.answers;
      choices = h.outside.choices;
      fuel = refl;
    } in
    matches-back_in Outside (At to live) Outside (with_locals (map to xs)) (with_locals xs) before others (q g vs u)
    (p g vs v) (callees g vs u v outside) (λ ws a b is same. record {
      locals = covers-write_all to live xs ws before others
          (covers-without to (without live xs) (fq g) (fp g) s.locals t.locals kept.locals (λ x alive.
          let split = and_both (live x) (not (is_in xs x)) alive in
          may.kept g x (is_in-head g []) split.0 (not_true (is_in xs x) split.1)))
          may.apart;
      outside = outside-locals (with_locals (map to xs) ws before) (with_locals xs ws others) a b same;
    })))
  where
    not_true : (b : Bool) → IsTrue (not b) → b ≡ false
    not_true true h = absurd (cc h)
    not_true false h = refl

pub renamed-simple : (to : ℕ → ℕ) (fq fp : Forgets) (q p : Callee)
    → CalleesMatch q p → (y : Stmt-F (State → Run)) (live : Names) (s t : State)
    → parts y ≡ [] → MayWrite to fq (written y) (own_callees y) live → At to (needed y live) s t
    → Matches (At to live) Outside (statement_step fq q (renamed_step to y) s) (statement_step fp p y t)
renamed-simple to fq fp q p callees (Stmt-F.Lit x n) live s t simple may h = at-one to fq live x n [] [] s t may h
renamed-simple to fq fp q p callees (Stmt-F.Copy x y) live s t simple may h =
    matches-with_defined (At to live) Outside (s.locals (to y)) (t.locals y) s t (λ v. Goes (set_to (to x) v s))
    (λ v. Goes (set_to x v t))
    (at-read to (without live (x ∷ [])) (y ∷ []) y s t h (is_in-head y []))
    (λ v is. at-one to fq live x v [] (y ∷ []) s t may h)
renamed-simple to fq fp q p callees (Stmt-F.Op x op y z) live s t simple may h =
    let names : List ℕ = y ∷ operand_names z in
    let one : ℕ → ℕ → Run = λ a b. Goes (set_to (to x) (value_of_op op a b) s) in
    let two : ℕ → ℕ → Run = λ a b. Goes (set_to x (value_of_op op a b) t) in
    matches-with_defined (At to live) Outside
    (s.locals (to y)) (t.locals y) s t (λ a. with_defined (operand_word (renamed_operand to z) s.locals) s (one a))
    (λ a. with_defined (operand_word z t.locals) t (two a))
    (at-read to (without live (x ∷ [])) names y s t h (is_in-head y (operand_names z))) (λ a is.
    matches-with_defined (At to live) Outside (operand_word (renamed_operand to z) s.locals) (operand_word z t.locals) s
    t (one a) (two a)
    (covers-operand to z s.locals t.locals
    (λ k i. at-read to (without live (x ∷ [])) names k s t h (is_in-tail y k (operand_names z) i))) (λ b is.
    at-one to fq live x (value_of_op op a b) [] names s t may h))
renamed-simple to fq fp q p callees (Stmt-F.Load x size y offset) live s t simple may h =
    let one : ℕ → Run = λ v. Goes (set_to (to x) v s) in
    let two : ℕ → Run = λ v. Goes (set_to x v t) in
    matches-with_defined (At to live) Outside (s.locals (to y))
    (t.locals y) s t (λ a. with_defined (get_number s.memory (moved a offset) (size_of size)) s one)
    (λ a. with_defined (get_number t.memory (moved a offset) (size_of size)) t two)
    (at-read to (without live (x ∷ [])) (y ∷ []) y s t h (is_in-head y [])) (λ a is.
    matches-with_defined (At to live) Outside (get_number s.memory (moved a offset) (size_of size))
    (get_number t.memory (moved a offset) (size_of size)) s t one two
    (same-get s t (moved a offset) (size_of size) h.outside) (λ v is. at-one to fq live x v [] (y ∷ []) s t may h))
renamed-simple to fq fp q p callees (Stmt-F.Store size y z offset) live s t simple may h =
    let one : Memory → Run = λ m. Goes (record s { memory = m }) in
    let two : Memory → Run = λ m. Goes (record t { memory = m }) in
    let put : State → ℕ → ℕ → Option Memory = λ u a v. put_number u.memory (moved a offset) (size_of size) v in
    let kept : At to live s t = at-none to live (y ∷ z ∷ []) s t h in
    matches-with_defined (At to live) Outside
    (s.locals (to y)) (t.locals y) s t (λ a. with_defined (s.locals (to z)) s (λ v. with_defined (put s a v) s one))
    (λ a. with_defined (t.locals z) t (λ v. with_defined (put t a v) t two))
    (at-read to (without live []) (y ∷ z ∷ []) y s t h (is_in-head y (z ∷ []))) (λ a is.
    matches-with_defined (At to live) Outside (s.locals (to z)) (t.locals z) s t (λ v. with_defined (put s a v) s one)
    (λ v. with_defined (put t a v) t two)
    (at-read to (without live []) (y ∷ z ∷ []) z s t h (is_in-tail y z (z ∷ []) (is_in-head z []))) (λ v is.
    matches-with_defined (At to live) Outside (put s a v) (put t a v) s t one two
    (same-put s t (moved a offset) (size_of size) v h.outside)
    (λ m is. record { locals = kept.locals; outside = outside-memory m s t h.outside })))
renamed-simple to fq fp q p callees (Stmt-F.Table x size bytes y) live s t simple may h =
    let one : ℕ → Run = λ v. Goes (set_to (to x) v s) in
    let two : ℕ → Run = λ v. Goes (set_to x v t) in
    matches-with_defined (At to live)
    Outside (s.locals (to y)) (t.locals y) s t (λ i. with_defined (table_number bytes i (size_of size)) s one)
    (λ i. with_defined (table_number bytes i (size_of size)) t two)
    (at-read to (without live (x ∷ [])) (y ∷ []) y s t h (is_in-head y [])) (λ i is.
    matches-with_defined (At to live) Outside (table_number bytes i (size_of size))
    (table_number bytes i (size_of size)) s t one two
    (inr refl) (λ v is. at-one to fq live x v [] (y ∷ []) s t may h))
renamed-simple to fq fp q p callees (Stmt-F.Call xs g ys) live s t simple may h =
    renamed-call to fq fp q p callees xs ys g live s t may h
renamed-simple to fq fp q p callees (Stmt-F.Read x y) live s t simple may h =
    matches-with_defined (At to live) Outside (s.locals (to y)) (t.locals y) s t
    (λ a. read_device (with_local (to x)) a s) (λ a. read_device (with_local x) a t)
    (at-read to (without live (x ∷ [])) (y ∷ []) y s t h (is_in-head y [])) (λ a is.
    matches-read_device (At to live) Outside a (with_local (to x)) (with_local x) s t h.outside.answers h.outside
    (λ v rest is. record {
      locals = covers-write to live s.locals t.locals x v
          ((at-left to (without live (x ∷ [])) (is_in (y ∷ [])) s t h).locals) (may.apart x (is_in-head x []));
      outside = record {
        memory = h.outside.memory;
        trace = ap (λ e. e ++ Read a v ∷ []) h.outside.trace;
        answers = refl;
        choices = h.outside.choices;
        fuel = h.outside.fuel;
      };
    }))
renamed-simple to fq fp q p callees (Stmt-F.Write y z) live s t simple may h =
    let kept : At to live s t = at-none to live (y ∷ z ∷ []) s t h in
    matches-with_defined (At to live)
    Outside (s.locals (to y)) (t.locals y) s t (λ a. with_defined (s.locals (to z)) s (λ v. write_device a v s))
    (λ a. with_defined (t.locals z) t (λ v. write_device a v t))
    (at-read to (without live []) (y ∷ z ∷ []) y s t h (is_in-head y (z ∷ []))) (λ a is.
    matches-with_defined (At to live) Outside (s.locals (to z)) (t.locals z) s t (λ v. write_device a v s)
    (λ v. write_device a v t)
    (at-read to (without live []) (y ∷ z ∷ []) z s t h (is_in-tail y z (z ∷ []) (is_in-head z []))) (λ v is.
    matches-write_device (At to live) Outside a v s t (record {
      locals = kept.locals;
      outside = record {
        memory = h.outside.memory;
        trace = ap (λ e. e ++ Write a v ∷ []) h.outside.trace;
        answers = h.outside.answers;
        choices = h.outside.choices;
        fuel = h.outside.fuel;
      };
    })))
renamed-simple to fq fp q p callees (Stmt-F.Stackalloc x n body) live s t simple may h = absurd (cc simple)
renamed-simple to fq fp q p callees (Stmt-F.If test first second) live s t simple may h = absurd (cc simple)
renamed-simple to fq fp q p callees (Stmt-F.Loop first test last) live s t simple may h = absurd (cc simple)

-- ---- statements with parts

-- a buffer round runs that match
pub renamed-stackalloc : (to : ℕ → ℕ) (x n : ℕ) (f g : State → Run) (live inner : Names) (s t : State)
    → IsApart to x inner
    → ((u v : State) → At to inner u v → Matches (At to live) Outside (f u) (g v)) → At to (without inner (x ∷ [])) s t
    → Matches (At to live) Outside (with_buffer (with_local (to x)) n f s) (with_buffer (with_local x) n g t)
renamed-stackalloc to x n f g live inner s t apart body h =
    matches-with_buffer (At to live) (At to live) Outside n (with_local (to x)) (with_local x) f g s t h.outside.choices
    (λ c good. subst (λ m. is_good n m c ≡ true) h.outside.memory good)
    (λ c rest is good. body (given (with_local (to x)) c rest s) (given (with_local x) c rest t) (record {
      locals = covers-write to inner s.locals t.locals x c.addr h.locals apart;
      outside = record {
        memory = ap (λ m. with_bytes m c.addr c.bytes) h.outside.memory;
        trace = h.outside.trace;
        answers = h.outside.answers;
        choices = refl;
        fuel = h.outside.fuel;
      };
    }))
    (λ c rest u v is good k. record {
      locals = k.locals;
      outside = record {
        memory = ap (λ m. without_range m c.addr n) k.outside.memory;
        trace = k.outside.trace;
        answers = k.outside.answers;
        choices = k.outside.choices;
        fuel = k.outside.fuel;
      };
    })

-- a choice between runs that match
pub renamed-if : (to : ℕ → ℕ) (test : Cond) (f g f2 g2 : State → Run) (live one two : Names) (s t : State)
    → ((u v : State) → At to one u v → Matches (At to live) Outside (f u) (g v)) → ((u v : State) → At to two u v
    → Matches (At to live) Outside (f2 u) (g2 v)) → At to (union (is_in (test_names test)) (union one two)) s t
    → Matches (At to live) Outside (with_defined (test_word (renamed_test to test) s.locals) s
    (λ v. choose (v == 0) (f2 s) (f s))) (with_defined (test_word test t.locals) t (λ v. choose (v == 0) (g2 t) (g t)))
renamed-if to test f g f2 g2 live one two s t first second h =
    let tested : At to (is_in (test_names test)) s t = at-left to (is_in (test_names test)) (union one two) s t h in
    let rest : At to (union one two) s t = at-right to (is_in (test_names test)) (union one two) s t h in
    matches-with_defined (At to live) Outside (test_word (renamed_test to test) s.locals) (test_word test t.locals) s t
    (λ v. choose (v == 0) (f2 s) (f s)) (λ v. choose (v == 0) (g2 t) (g t))
    (covers-test to test s.locals t.locals tested.locals) (λ v is.
    matches-choose (At to live) Outside (v == 0) (f2 s) (f s) (g2 t) (g t)
    (λ e. second s t (at-right to one two s t rest)) (λ e. first s t (at-left to one two s t rest)))

-- a loop of runs that match: `start` is live at its start, `end` at its test, and `back` before its last part
pub renamed-loop : (to : ℕ → ℕ) (test : Cond) (f g f2 g2 : State → Run) (live start end back : Names) (s t : State)
    → Within (union (is_in (test_names test)) (union live back)) end
    → ((u v : State) → At to start u v → Matches (At to end) Outside (f u) (g v)) → ((u v : State) → At to back u v
    → Matches (At to start) Outside (f2 u) (g2 v)) → At to start s t → Matches (At to live) Outside (then_do (f s)
    (λ u. loop u.fuel (λ w. test_word (renamed_test to test) w.locals) (λ w. then_do (f2 w) f) u)) (then_do (g t)
    (λ u. loop u.fuel (λ w. test_word test w.locals) (λ w. then_do (g2 w) g) u))
renamed-loop to test f g f2 g2 live start end back s t rule first last h =
    let one : State → Option ℕ = λ w. test_word (renamed_test to test) w.locals in
    let two : State → Option ℕ = λ w. test_word test w.locals in
    let turn : State → Run = λ w. then_do (f2 w) f in
    let other : State → Run = λ w. then_do (g2 w) g in
    let whole : (u v : State) → At to end u v → At to (union (is_in (test_names test)) (union live back)) u v =
    λ u v k. at-within to (union (is_in (test_names test)) (union live back)) end u v rule k in
    let tested : (u v : State) → At to end u v → IsSameDefined (one u) (two v) = λ u v k. covers-test to test u.locals
    v.locals ((at-left to (is_in (test_names test)) (union live back) u v (whole u v k)).locals) in
    let more : (u v : State) → At to end u v → At to (union live back) u v =
    λ u v k. at-right to (is_in (test_names test)) (union live back) u v (whole u v k) in
    let turns : (u v : State) → At to end u v → Matches (At to end) Outside (turn u) (other v) =
    λ u v k. matches-then_do (At to start) (At to end) Outside (f2 u) (g2 v) f g
    (last u v (at-right to live back u v (more u v k))) (λ a b there here i. first a b i) in
    let at : AtTest (At to end) Outside = record {
      fuel = λ u v k. k.outside.fuel;
      spent = λ u v n k is. record {
        locals = k.locals;
        outside = record {
          memory = k.outside.memory;
          trace = k.outside.trace;
          answers = k.outside.answers;
          choices = k.outside.choices;
          fuel = refl;
        };
      };
      ends = λ u v k. k.outside;
    } in
    matches-then_do (At to end) (At to live) Outside (f s) (g t) (λ u. loop u.fuel one turn u)
    (λ u. loop u.fuel two other u) (first s t h) (λ u v there here k.
    matches-weaker (At to end) (At to live) Outside (loop u.fuel one turn u) (loop v.fuel two other v)
    (subst (λ n. Matches (At to end) Outside (loop n one turn u) (loop v.fuel two other v)) (sym k.outside.fuel)
    (matches-loop (At to end) Outside v.fuel one two turn other at tested turns u v k))
    (λ a b i. at-left to live back a b (more a b i)))
