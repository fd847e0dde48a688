-- Calls in register form: arguments are passed in registers, and results are taken from there.
use Rattle.std.proofs.Common.{◌≡◌, ◌≢◌, ℕ, zero, suc, ◌+◌, ◌<◌, ◌≤◌, ◌==◌, true, List, [], ◌∷◌, ◌++◌, map, length}
use Rattle.std.proofs.Common.{Option, Some, None, ◌⊎◌, inl, inr, refl, sym, ap, subst, ◌∙◌, arith, slice_get}
use Rattle.std.proofs.lemmas.Bool.Decides.{nat_tests}
use Rattle.br_words.specs.Layout.{stack_base}
use Rattle.br_bytes.specs.Buffers.{AreWords}
use Rattle.br_bytes.specs.Runs.{Goes, then_do, with_defined, with_fuel, back_in}
use Rattle.br_bytes.proofs.Effects.{by_place}
use Rattle.br_flatimp.specs.declared.program.Stmt.{Stmt}
use Rattle.br_flatimp.specs.declared.program.Stmt.TheOpen.{Stmt-F}
use Rattle.br_flatimp.specs.declared.program.Stmt.TheViews.{roll-Stmt}
use Rattle.br_flatimp.specs.declared.program.FlatFunc.{FlatFunc}
use Rattle.br_flatimp.specs.Values.{Locals, with_local, with_locals, without_names, words_of}
use Rattle.br_flatimp.specs.WellFormed.{are_below, counts_fit}
use Rattle.br_flatimp.specs.Runs.{State, Run, Callee, forgets_none}
use Rattle.br_spill.specs.Spill.{holds_names, passes, takes, in_order}
use Rattle.br_spill.proofs.Follows.{given, Follows, follows-from, follows-goes, follows-alone}
use Rattle.br_spill.proofs.Follows.{follows-source, follows-with_fuel, CallFollows, follows-back_in}
use Rattle.br_spill.proofs.Extra.{Extra}
use Rattle.br_spill.proofs.Scene.{Scene, Outside, At, at-over, at-shown, holds-locals}
use Rattle.br_spill.proofs.Scene.{in_register, not_passing, with-same, with-other}
use Rattle.br_spill.proofs.Pieces.{does, does-after, does-first, defined, front, in_front-some}
use Rattle.br_spill.proofs.Pieces.{all_passed, all_taken, and-first, and-second}

-- ---- callees

-- a call that returned: the same extra bytes, and as many words as the function has results
pub record ReturnsIn (e : Extra) (f : FlatFunc) (vs : List ℕ) (s t : State) : Type 0 where
  pub outside : Outside e s t
  pub words : AreWords vs
  pub count : length vs ≡ length f.results

-- functions that follow, whatever extra bytes there are
pub record CalleesFollow (fs : List FlatFunc) (q p : Callee) : Type 0 where
  pub few : (n : ℕ) (f : FlatFunc) → slice_get fs n ≡ Some f → (length f.args ≤ 8) × (length f.results ≤ 8)
  pub follows : (n : ℕ) (f : FlatFunc) → slice_get fs n ≡ Some f → (vs : List ℕ) → length vs ≡ length f.args
      → AreWords vs → (e : Extra) (s t : State) → Outside e s t
      → ((x : ℕ) → x < stack_base → e x ≡ None) → CallFollows (ReturnsIn e f) (q n vs s) (λ ds. p n vs (given t ds))

-- ---- registers that pass words

pub with_locals-other : (n a : ℕ) (vs : List ℕ) (l : Locals) (y : ℕ) → (y < a) ⊎ (a + n ≤ y) → length vs ≡ n
    → with_locals (in_order a n) vs l y ≡ l y
with_locals-other zero a vs l y out size = refl
with_locals-other (suc n) a [] l y out size = absurd (omega (arith, size))
with_locals-other (suc n) a (v ∷ vs) l y out size =
    with_locals-other n (suc a) vs (with_local a v l) y (further out) (omega (arith, size))
    ∙ with-other a v y l (other out)
  where
    further : (y < a) ⊎ (a + suc n ≤ y) → (y < suc a) ⊎ (suc a + n ≤ y)
    further (inl h) = inl (omega (arith, h))
    further (inr h) = inr (omega (arith, h))

    other : (y < a) ⊎ (a + suc n ≤ y) → y ≢ a
    other (inl h) e = omega (arith, h, e)
    other (inr h) e = omega (arith, h, e)

pub words-back : (n a : ℕ) (vs : List ℕ) (l : Locals) → length vs ≡ n
    → words_of (in_order a n) (with_locals (in_order a n) vs l) ≡ Some vs
words-back zero a [] l size = refl
words-back zero a (v ∷ vs) l size = absurd (omega (arith, size))
words-back (suc n) a [] l size = absurd (omega (arith, size))
words-back (suc n) a (v ∷ vs) l size =
    let same : length vs ≡ n = omega (arith, size) in
    let after = with_locals (in_order (suc a) n) vs (with_local a v l) in
    in_front-some (after a) (words_of (in_order (suc a) n) after) v vs
    (with_locals-other n (suc a) vs (with_local a v l) a (inl (omega arith)) same ∙ with-same a v l)
    (words-back n (suc a) vs (with_local a v l) same)

pub length-words : (xs : List ℕ) (l : Locals) (vs : List ℕ) → words_of xs l ≡ Some vs → length vs ≡ length xs
length-words [] l vs is = let same : [] ≡ vs = cc is in ap length (sym same)
length-words (x ∷ xs) l vs is =
    let f = front (l x) (words_of xs l) vs is in
    ap length f.is ∙ ap suc (length-words xs l f.rest f.second)

-- words that were returned are not put in places yet
record Answered (g : Scene) (xs : List ℕ) (s t : State) : Type 0 where
  words : List ℕ
  other : State
  are_words : AreWords words
  there : words_of (in_order 10 (length xs)) s.locals ≡ Some words
  second : t ≡ record other { locals = with_locals xs words other.locals }
  related : At g s other

takes-run : (g : Scene) (call : Callee) (xs : List ℕ) → are_below g.names xs ≡ true → length xs ≤ 8 → (s t : State)
    → Answered g xs s t → Follows (At g) (does call (takes (map g.layout.place xs) 10) s) (λ ds. Goes (given t ds))
takes-run g call xs inside few s t h =
    let w = all_taken g call xs s h.other 10 h.words h.related inside h.there h.are_words (omega arith)
    (omega (arith, few)) in
    follows-from (At g) (does call (takes (map g.layout.place xs) 10) s) (Goes w.after) (λ ds. Goes (given t ds)) w.runs
    (follows-goes (At g) w.after t (subst (At g w.after) (sym h.second) w.related))

-- the caller's state after the call, where registers that pass words have changed
at-returned : (g : Scene) (s t : State) (h : At g s t) (u v : State) (n : ℕ) (vs : List ℕ) → Outside h.extra u v → n ≤ 8
    → length vs ≡ n
    → At g (record u { locals = with_locals (in_order 10 n) vs s.locals }) (record v { locals = t.locals })
at-returned g s t h u v n vs outside few size = record {
  extra = h.extra;
  outside = record {
    memory = outside.memory;
    trace = outside.trace;
    answers = outside.answers;
    words = outside.words;
    choices = outside.choices;
    fuel = outside.fuel;
  };
  inner = h.inner;
  others = h.others;
  base = λ some. with_locals-other n 10 vs s.locals 3 (inl (omega arith)) size ∙ h.base some;
  held = λ x w less is.
      let k = h.held x w less is in
      record {
        word = k.word;
        holds = holds-locals g.frame.base h.extra (g.layout.place x) s.locals
            (with_locals (in_order 10 n) vs s.locals) w (λ r place.
            with_locals-other n 10 vs s.locals r (apart r (in_register g x r less place)) size) k.holds;
      };
}
  where
    apart : (r : ℕ) → holds_names g.layout.registers g.layout.slots r ≡ true → (r < 10) ⊎ (10 + n ≤ r)
    apart r is = by_place r 10 18
        (λ l. inl l) (λ l high. absurd (not_passing g.layout.registers g.layout.slots r is l (omega (arith, high))))
        (λ l high. inr (omega (arith, high, few)))

pub call-follows : (fs : List FlatFunc) (g : Scene) (q p : Callee) → CalleesFollow fs q p
    → (xs : List ℕ) (n : ℕ) (ys : List ℕ) (s t : State)
    → are_below g.names xs ≡ true → are_below g.names ys ≡ true
    → counts_fit (slice_get fs n) (length xs) (length ys) ≡ true → At g s t
    → Follows (At g) (does q (passes (map g.layout.place ys) 10 ++ roll-Stmt
    (Stmt-F.Call (in_order 10 (length xs)) n (in_order 10 (length ys))) ∷ takes (map g.layout.place xs) 10) s)
    (λ ds. with_defined (words_of ys t.locals) (given t ds) (λ vs.
    with_fuel (given t ds) (λ u. back_in (with_locals xs) (without_names (forgets_none n) t.locals) (p n vs u))))
call-follows fs g q p callees xs n ys s t inside within fit h = by (slice_get fs n) refl fit
  where
    equal : (a b : ℕ) → (a == b) ≡ true → a ≡ b
    equal a b e = grind (arith, nat_tests)

    by : (o : Option FlatFunc) → slice_get fs n ≡ o → counts_fit o (length xs) (length ys) ≡ true
        → Follows (At g) (does q (passes (map g.layout.place ys) 10 ++ roll-Stmt
        (Stmt-F.Call (in_order 10 (length xs)) n (in_order 10 (length ys))) ∷ takes (map g.layout.place xs) 10) s)
        (λ ds. with_defined (words_of ys t.locals) (given t ds) (λ vs. with_fuel (given t ds)
        (λ u. back_in (with_locals xs) (without_names (forgets_none n) t.locals) (p n vs u))))
    by None e counts = absurd (cc counts)
    by (Some f) e counts =
        let results : length xs ≡ length f.results = equal (length xs) (length f.results)
        (and-first (length xs == length f.results) (length ys == length f.args) counts) in
        let arguments : length ys ≡ length f.args = equal (length ys) (length f.args)
        (and-second (length xs == length f.results) (length ys == length f.args) counts) in
        let few = callees.few n f e in
        let few_args = few.0 in
        let few_results = few.1 in
        let few_xs : length xs ≤ 8 = omega (arith, results, few_results) in
        let to = in_order 10 (length xs) in
        let from = in_order 10 (length ys) in
        let y : Stmt-F Stmt = Stmt-F.Call to n from in
        let taking = takes (map g.layout.place xs) 10 in
        let whole = does q (passes (map g.layout.place ys) 10 ++ roll-Stmt y ∷ taking) s in
        let others : Locals = without_names (forgets_none n) t.locals in
        let two : List ℕ → State → Run = λ vs u. back_in (with_locals xs) others (p n vs u) in
        follows-source (At g) whole (words_of ys t.locals) t (λ ds vs. with_fuel (given t ds) (two vs)) (λ vs is.
        let a = all_passed g q ys s t 10 vs h within is (omega arith) (omega (arith, arguments, few_args)) in
        let u : State = record s { locals = a.locals } in
        let k = a.related in
        let one : List ℕ → State → Run =
        λ vs w. back_in (with_locals to) (without_names (forgets_none n) u.locals) (q n vs w) in
        follows-from (At g) whole (then_do (with_fuel u (one vs)) (does q taking))
        (λ ds. with_fuel (given t ds) (two vs))
        (does-after q (passes (map g.layout.place ys) 10) (roll-Stmt y ∷ taking) s u a.runs ∙ does-first q y taking u
        ∙ ap (λ r. then_do r (does q taking))
        (defined (words_of from u.locals) vs u (λ vs. with_fuel u (one vs)) a.words))
        (follows-alone (Answered g xs) (At g) (with_fuel u (one vs)) (λ ds. with_fuel (given t ds) (two vs))
        (does q taking)
        (follows-with_fuel (Answered g xs) u t (one vs) (two vs) k.outside.fuel (at-shown g u t k) (λ left has.
        let b : State = record u { fuel = left } in
        let c : State = record t { fuel = left } in
        let outside : Outside k.extra b c = record {
          memory = k.outside.memory;
          trace = k.outside.trace;
          answers =
              k.outside.answers;
          words = k.outside.words;
          choices = k.outside.choices;
          fuel = refl;
        } in
        follows-back_in (ReturnsIn k.extra f) (Answered g xs) (with_locals to) (with_locals xs)
        (without_names (forgets_none n) u.locals) others (q n vs b) (λ ds. p n vs (given c ds))
        (callees.follows n f e vs (length-words ys t.locals vs is ∙ arguments) a.are_words k.extra b c outside
        (at-over g u t k))
        (λ ws d o r.
        let size : length ws ≡ length xs = r.count ∙ sym results in
        record {
          words = ws;
          other = record o { locals = others };
          are_words = r.words;
          there = words-back (length xs) 10 ws u.locals size;
          second = refl;
          related = at-returned g u t k d o (length xs) ws r.outside few_xs size;
        })))
        (takes-run g q xs inside few_xs)))
