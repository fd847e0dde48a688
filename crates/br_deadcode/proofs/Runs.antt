-- What is left of statements runs as those that it is left of, from what is live before them in the sweep to
-- what is live after them.
use Rattle.std.proofs.Common.{◌≡◌, ◌≢◌, ℕ, zero, suc, Bool, true, false, not, ◌==◌, List, [], ◌∷◌, map}
use Rattle.std.proofs.Common.{Option, Some, None, inl, inr, refl, sym, ap, subst, ◌∙◌, IsTrue, if◌then◌else◌}
use Rattle.std.proofs.Math.Bool.{or-false}
use Rattle.std.specs.List.{list_any}
use Rattle.br_words.specs.Size.{size_of}
use Rattle.br_words.specs.Words.{value_of_op}
use Rattle.br_words.specs.declared.operation.BinOp.{BinOp}
use Rattle.br_bytes.specs.Memory.{get_number}
use Rattle.br_bytes.specs.Buffers.{table_number}
use Rattle.br_bytes.specs.Runs.{Goes, then_do, with_defined, choose, loop}
use Rattle.br_flatimp.specs.declared.program.Operand.{Operand}
use Rattle.br_flatimp.specs.declared.program.Operand.TheVariants as operand
use Rattle.br_flatimp.specs.declared.program.Cond.{Cond}
use Rattle.br_flatimp.specs.declared.program.Cond.TheVariants.{NonZero, Compare}
use Rattle.br_flatimp.specs.declared.program.Stmt.{Stmt, map-Stmt}
use Rattle.br_flatimp.specs.declared.program.Stmt.TheOpen.{Stmt-F}
use Rattle.br_flatimp.specs.declared.program.Stmt.TheViews.{roll-Stmt}
use Rattle.br_flatimp.specs.declared.program.Stmt.TheFolds.{fold-roll-Stmt, ind-Stmt}
use Rattle.br_flatimp.specs.declared.program.FlatFunc.{FlatFunc}
use Rattle.br_flatimp.specs.Parts.{parts, test_names}
use Rattle.br_flatimp.specs.Values.{Names, no_locals, with_local, with_locals, words_of, operand_word, moved, test_word}
use Rattle.br_flatimp.specs.Runs.{State, Run, Callee, forgets_none, set_to, statement_step, run, run_all, run_function}
use Rattle.br_flatimp.specs.Liveness.{is_in, union, Within, Live, entry, at_test, live, before_all}
use Rattle.br_flatimp.specs.Matches.{SameOutside, Matches, CallMatches, CalleesMatch, IsSameDefined}
use Rattle.br_flatimp.specs.Refines.{Refines, signature, meaning}
use Rattle.br_flatimp.specs.Renaming.{renamed_test, renamed_step, At}
use Rattle.br_flatimp.proofs.Live.{test-holds, or_left, or_right, or_cases}
use Rattle.br_flatimp.proofs.Matches.{matches-then_do, matches-weaker}
use Rattle.br_flatimp.proofs.Covers.{other_number, covers-words}
use Rattle.br_flatimp.proofs.Renamed.{Outside, outside-locals, at-within, needed, renamed-simple}
use Rattle.br_flatimp.proofs.Renamed.{renamed-stackalloc, renamed-if, renamed-loop}
use Rattle.br_flatimp.proofs.Programs.{EntriesMatch, matches-returned, refines-from_entries}
use Rattle.br_deadcode.specs.Sweeps.{is_idle, Swept, lives_in, put, before_kept, kept, sweep_step}
use Rattle.br_deadcode.specs.Sweeps.{sweep, before_left, left_of, swept_function, swept_program}
use Rattle.br_deadcode.proofs.Lives.{lives-all}
use Rattle.br_deadcode.proofs.Idle.{idle-map}
use Rattle.br_deadcode.proofs.Exact.{not_true, shrinks-all}

-- ---- names as they are

abbrev pub id : ℕ → ℕ
id x = x

pub same_test : (t : Cond) → renamed_test id t ≡ t
same_test (NonZero y) = refl
same_test (Compare rel y z) = refl

pub same_names : (xs : List ℕ) → map id xs ≡ xs
same_names [] = refl
same_names (x ∷ xs) = ap (λ ys. x ∷ ys) (same_names xs)

-- the first run is that of what is left
abbrev pub run_left : Callee → Option Stmt → State → Run
run_left q None s = Goes s
run_left q (Some c) s = run forgets_none q c s

pub run-put : (q : Callee) (o : Option Stmt) (cs : List Stmt) (s : State)
    → run_all forgets_none q (put o cs) s ≡ then_do (run_left q o s) (run_all forgets_none q cs)
run-put q None cs s = refl
run-put q (Some c) cs s = refl

abbrev Runs : Callee → Callee → Stmt → Type 0
Runs q p c =
    (a : Names) (s t : State) → At id ((sweep c).before a) s t
    → Matches (At id a) Outside (run_left q ((sweep c).left a) s) (run forgets_none p c t)

abbrev AllRun : Callee → Callee → List Stmt → Type 0
AllRun q p cs =
    (a : Names) (s t : State) → At id (before_left cs a) s t
    → Matches (At id a) Outside (run_all forgets_none q (left_of cs a) s) (run_all forgets_none p cs t)

next-run : (q p : Callee) (c : Stmt) (cs : List Stmt) → Runs q p c → AllRun q p cs → AllRun q p (c ∷ cs)
next-run q p c cs one rest a s t h =
    let b : Names = before_left cs a in
    let o : Option Stmt = (sweep c).left b in
    subst (λ r. Matches (At id a) Outside r (run_all forgets_none p (c ∷ cs) t)) (sym (run-put q o (left_of cs a) s))
    (matches-then_do (At id b) (At id a) Outside (run_left q o s) (run forgets_none p c t)
    (run_all forgets_none q (left_of cs a)) (run_all forgets_none p cs)
    (one b s t h) (λ u v there here k. rest a u v k))

abbrev Each : Callee → Callee → Type 0
Each q p = (c : Stmt) × Runs q p c

abbrev stmts : (q p : Callee) → List (Each q p) → List Stmt
stmts q p cs = map (λ e. e.0) cs

each-runs : (q p : Callee) (cs : List (Each q p)) → AllRun q p (stmts q p cs)
each-runs q p [] a s t h = h
each-runs q p (e ∷ cs) a s t h = next-run q p e.0 (stmts q p cs) e.1 (each-runs q p cs) a s t h

abbrev opened : (q p : Callee) → Stmt-F (Each q p) → Stmt-F Stmt
opened q p y = map-Stmt (Each q p) Stmt (λ e. e.0) y

-- ---- one statement

abbrev pub ran : Callee → Stmt-F Stmt → State → Run
ran q z = statement_step forgets_none q (map-Stmt Stmt (State → Run) (run forgets_none q) z)

-- what is kept of a statement runs as the statement
abbrev KeptRuns : Callee → Callee → Names → Stmt-F Stmt → Type 0
KeptRuns q p a z =
    (s t : State) → At id (before_kept (map-Stmt Stmt Swept sweep z) a) s t
    → Matches (At id a) Outside (ran q (kept (map-Stmt Stmt Swept sweep z) a) s) (ran p z t)

pub simple-runs : (q p : Callee) → CalleesMatch q p → (y : Stmt-F (State → Run)) (a : Names) (s t : State)
    → parts y ≡ []
    → renamed_step id y ≡ y → At id (needed y a) s t
    → Matches (At id a) Outside (statement_step forgets_none q y s) (statement_step forgets_none p y t)
simple-runs q p callees y a s t simple same h =
    subst (λ z. Matches (At id a) Outside (statement_step forgets_none q z s) (statement_step forgets_none p y t))
    same
    (renamed-simple id forgets_none forgets_none q p callees y a s t simple
    (record { apart = λ x i z alive e. e; kept = λ g x i alive not. refl }) h)

pub same_operand : (x : ℕ) (op : BinOp) (y : ℕ) (z : Operand)
    → renamed_step {X = State → Run} id (Stmt-F.Op x op y z) ≡ Stmt-F.Op x op y z
same_operand x op y (operand.Name z) = refl
same_operand x op y (operand.Const c) = refl

abbrev pub called : ℕ → List ℕ → List ℕ → Stmt-F (State → Run)
called g xs ys = Stmt-F.Call xs g ys

pub same_call : (xs : List ℕ) (g : ℕ) (ys : List ℕ)
    → renamed_step {X = State → Run} id (Stmt-F.Call xs g ys) ≡ Stmt-F.Call xs g ys
same_call xs g ys =
    ap (λ (l : List ℕ). called g l (map id ys)) (same_names xs) ∙ ap (called g xs) (same_names ys)

-- a loop, where what is live in it goes by these
abbrev LoopRuns : (q p : Callee) → List (Each q p) → Cond → List (Each q p) → Names → List Live → List Live → Type 0
LoopRuns q p first test last a fs ls =
    (s t : State) → At id (before_left (stmts q p first) (at_test fs test ls a)) s t
    → Matches (At id a) Outside
    (ran q (Stmt-F.Loop (left_of (stmts q p first) (at_test fs test ls a)) test
    (left_of (stmts q p last) (entry fs (at_test fs test ls a)))) s)
    (ran p (Stmt-F.Loop (stmts q p first) test (stmts q p last)) t)

loop-runs : (q p : Callee) (first : List (Each q p)) (test : Cond) (last : List (Each q p)) (a : Names)
    → LoopRuns q p first test last a (map live (stmts q p first)) (map live (stmts q p last))
loop-runs q p first test last a s t h =
    let one : List Stmt = stmts q p first in
    let two : List Stmt = stmts q p last in
    let end : Names = at_test (map live one) test (map live two) a in
    let outer : Names = before_all one end in
    let start : Names = before_left one end in
    let back : Names = before_left two outer in
    let f : State → Run = run_all forgets_none q (left_of one end) in
    let f2 : State → Run = run_all forgets_none q (left_of two outer) in
    let g : State → Run = run_all forgets_none p one in
    let g2 : State → Run = run_all forgets_none p two in
    let rule : Within (union (is_in (test_names test)) (union a back)) end = λ x alive. test-holds one test two a x
    (larger test a back (before_all two outer) (shrinks-all two outer) x alive) in
    subst (λ c. Matches (At id a) Outside
    (then_do (f s) (λ u. loop u.fuel (λ w. test_word c w.locals) (λ w. then_do (f2 w) f) u))
    (then_do (g t) (λ u. loop u.fuel (λ w. test_word test w.locals) (λ w. then_do (g2 w) g) u))) (same_test test)
    (renamed-loop id test f g f2 g2 a start end back s t rule
    (λ u v k. each-runs q p first end u v k)
    (λ u v k. matches-weaker (At id outer) (At id start) Outside (f2 u) (g2 v) (each-runs q p last outer u v k)
    (λ b c i. at-within id start outer b c (shrinks-all one end) i))
    h)
  where
    larger : (test : Cond) (a small large : Names) → Within small large
        → Within (union (is_in (test_names test)) (union a small)) (union (is_in (test_names test)) (union a large))
    larger test a small large w x e =
        elim (or_cases (is_in (test_names test) x) (union a small x) e) as
        (λ o. IsTrue (union (is_in (test_names test)) (union a large) x)) [
          | inl n ↦ or_left (is_in (test_names test) x) (union a large x) n
          | inr more ↦ or_right (is_in (test_names test) x) (union a large x)
              (elim (or_cases (a x) (small x) more) as (λ o. IsTrue (union a large x)) [
                | inl l ↦ or_left (a x) (large x) l
                | inr r ↦ or_right (a x) (large x) (w x r)
              ])
        ]

kept-runs : (q p : Callee) → CalleesMatch q p → (y : Stmt-F (Each q p)) (a : Names) → KeptRuns q p a (opened q p y)
kept-runs q p callees (Stmt-F.Lit x n) a s t h = simple-runs q p callees (Stmt-F.Lit x n) a s t refl refl h
kept-runs q p callees (Stmt-F.Copy x y) a s t h = simple-runs q p callees (Stmt-F.Copy x y) a s t refl refl h
kept-runs q p callees (Stmt-F.Op x op y z) a s t h =
    simple-runs q p callees (Stmt-F.Op x op y z) a s t refl (same_operand x op y z) h
kept-runs q p callees (Stmt-F.Load x size y offset) a s t h =
    simple-runs q p callees (Stmt-F.Load x size y offset) a s t refl refl h
kept-runs q p callees (Stmt-F.Store size y z offset) a s t h =
    simple-runs q p callees (Stmt-F.Store size y z offset) a s t refl refl h
kept-runs q p callees (Stmt-F.Table x size bytes y) a s t h =
    simple-runs q p callees (Stmt-F.Table x size bytes y) a s t refl refl h
kept-runs q p callees (Stmt-F.Call xs g ys) a s t h =
    simple-runs q p callees (Stmt-F.Call xs g ys) a s t refl (same_call xs g ys) h
kept-runs q p callees (Stmt-F.Read x y) a s t h = simple-runs q p callees (Stmt-F.Read x y) a s t refl refl h
kept-runs q p callees (Stmt-F.Write y z) a s t h = simple-runs q p callees (Stmt-F.Write y z) a s t refl refl h
kept-runs q p callees (Stmt-F.Stackalloc x n body) a s t h =
    let cs : List Stmt = stmts q p body in
    renamed-stackalloc id x n (run_all forgets_none q (left_of cs a)) (run_all forgets_none p cs) a
    (before_left cs a) s t
    (λ z alive e. e) (λ u v k. each-runs q p body a u v k) h
kept-runs q p callees (Stmt-F.If test first second) a s t h =
    let one : List Stmt = stmts q p first in
    let two : List Stmt = stmts q p second in
    let f : State → Run = run_all forgets_none q (left_of one a) in
    let f2 : State → Run = run_all forgets_none q (left_of two a) in
    let g : State → Run = run_all forgets_none p one in
    let g2 : State → Run = run_all forgets_none p two in
    subst (λ c. Matches (At id a) Outside (with_defined (test_word c s.locals) s (λ v. choose (v == 0) (f2 s) (f s)))
    (with_defined (test_word test t.locals) t (λ v. choose (v == 0) (g2 t) (g t)))) (same_test test)
    (renamed-if id test f g f2 g2 a (before_left one a) (before_left two a) s t (λ u v k. each-runs q p first a u v k)
    (λ u v k. each-runs q p second a u v k) h)
kept-runs q p callees (Stmt-F.Loop first test last) a s t h =
    subst (λ fs. LoopRuns q p first test last a fs (lives_in (map sweep (stmts q p last))))
    (sym (lives-all (stmts q p first)))
    (subst (λ ls. LoopRuns q p first test last a (map live (stmts q p first)) ls) (sym (lives-all (stmts q p last)))
    (loop-runs q p first test last a))
    s t h

-- ---- idle statements

-- the second state goes on alone, if it does
skip-defined : {X : Type 0} (G : State → State → Type 0) (o : Option X) (s t : State) (g : X → Run)
    → ((x : X) → Matches G Outside (Goes s) (g x)) → Matches G Outside (Goes s) (with_defined o t g)
skip-defined G None s t g h = tt
skip-defined G (Some x) s t g h = h x

-- a name that is not live gets a word
skip-set : (a : Names) (x v : ℕ) (s t : State) → not (list_any a (x ∷ [])) ≡ true → At id a s t
    → At id a s (set_to x v t)
skip-set a x v s t gone h =
    let dead : a x ≡ false = not_true (a x) (sym (ap not (or-false (a x))) ∙ gone) in
    record {
      locals = λ z alive.
          let other : z ≢ x = λ same. cc (ap a same, alive, dead) in
          subst (λ b. IsSameDefined (s.locals z) (if b then Some v else t.locals z)) (sym (other_number z x other))
          (h.locals z alive);
      outside = outside-locals s.locals (with_local x v t.locals) s t h.outside;
    }

-- it does not show, and what it reads need not be the same
pub idle-runs : (q p : Callee) (y : Stmt-F (State → Run)) (a : Names) (s t : State) → is_idle y a ≡ true → At id a s t
    → Matches (At id a) Outside (Goes s) (statement_step forgets_none p y t)
idle-runs q p (Stmt-F.Lit x n) a s t idle h = skip-set a x n s t idle h
idle-runs q p (Stmt-F.Copy x y) a s t idle h =
    skip-defined (At id a) (t.locals y) s t (λ v. Goes (set_to x v t)) (λ v. skip-set a x v s t idle h)
idle-runs q p (Stmt-F.Op x op y z) a s t idle h =
    let set : ℕ → ℕ → Run = λ b c. Goes (set_to x (value_of_op op b c) t) in
    skip-defined (At id a) (t.locals y) s t (λ b. with_defined (operand_word z t.locals) t (set b)) (λ b.
    skip-defined (At id a) (operand_word z t.locals) s t (set b) (λ c. skip-set a x (value_of_op op b c) s t idle h))
idle-runs q p (Stmt-F.Load x size y offset) a s t idle h =
    let set : ℕ → Run = λ v. Goes (set_to x v t) in
    skip-defined (At id a) (t.locals y) s t
    (λ b. with_defined (get_number t.memory (moved b offset) (size_of size)) t set) (λ b.
    skip-defined (At id a) (get_number t.memory (moved b offset) (size_of size)) s t set
    (λ v. skip-set a x v s t idle h))
idle-runs q p (Stmt-F.Table x size bytes y) a s t idle h =
    let set : ℕ → Run = λ v. Goes (set_to x v t) in
    skip-defined (At id a) (t.locals y) s t (λ i. with_defined (table_number bytes i (size_of size)) t set) (λ i.
    skip-defined (At id a) (table_number bytes i (size_of size)) s t set (λ v. skip-set a x v s t idle h))
idle-runs q p (Stmt-F.Store size y z offset) a s t idle h = absurd (cc idle)
idle-runs q p (Stmt-F.Stackalloc x n body) a s t idle h = absurd (cc idle)
idle-runs q p (Stmt-F.If test first second) a s t idle h = absurd (cc idle)
idle-runs q p (Stmt-F.Loop first test last) a s t idle h = absurd (cc idle)
idle-runs q p (Stmt-F.Call xs g ys) a s t idle h = absurd (cc idle)
idle-runs q p (Stmt-F.Read x y) a s t idle h = absurd (cc idle)
idle-runs q p (Stmt-F.Write y z) a s t idle h = absurd (cc idle)

-- ---- statements in turn, functions and programs

-- a statement that is idle or kept
pub choice-runs : (q p : Callee) (x z : Stmt-F Stmt) (a b : Names) (i : Bool) → (i ≡ true → is_idle x a ≡ true)
    → ((s t : State) → At id b s t → Matches (At id a) Outside (ran q z s) (ran p x t))
    → (s t : State) → At id (if i then a else b) s t
    → Matches (At id a) Outside (run_left q (if i then None else Some (roll-Stmt z)) s)
    (run forgets_none p (roll-Stmt x) t)
choice-runs q p x z a b true idle kept s t h =
    let y : Stmt-F (State → Run) = map-Stmt Stmt (State → Run) (run forgets_none p) x in
    subst (λ (f : State → Run). Matches (At id a) Outside (Goes s) (f t))
    (sym (fold-roll-Stmt (State → Run) (statement_step forgets_none p) x))
    (idle-runs q p y a s t (idle-map (run forgets_none p) x a ∙ idle refl) h)
choice-runs q p x z a b false idle kept s t h =
    subst (λ (f : State → Run). Matches (At id a) Outside (run forgets_none q (roll-Stmt z) s) (f t))
    (sym (fold-roll-Stmt (State → Run) (statement_step forgets_none p) x))
    (subst (λ (f : State → Run). Matches (At id a) Outside (f s) (ran p x t))
    (sym (fold-roll-Stmt (State → Run) (statement_step forgets_none q) z))
    (kept s t h))

statement-runs : (q p : Callee) → CalleesMatch q p → (c : Stmt) → Runs q p c
statement-runs q p callees = ind-Stmt (Runs q p) (λ x y is a s t.
    let w : Stmt-F Swept = map-Stmt Stmt Swept sweep x in
    subst (λ (c : Swept). At id (c.before a) s t
    → Matches (At id a) Outside (run_left q (c.left a) s) (run forgets_none p (roll-Stmt x) t))
    (sym (fold-roll-Stmt Swept sweep_step x))
    (choice-runs q p x (kept w a) a (before_kept w a) (is_idle w a) (λ e. sym (idle-map sweep x a) ∙ e)
    (subst (KeptRuns q p a) is (kept-runs q p callees y a)) s t))

all-run : (q p : Callee) → CalleesMatch q p → (cs : List Stmt) → AllRun q p cs
all-run q p callees [] a s t h = h
all-run q p callees (c ∷ cs) a s t h =
    next-run q p c cs (statement-runs q p callees c) (all-run q p callees cs) a s t h

function-runs : (q p : Callee) → CalleesMatch q p → (f : FlatFunc) (vs : List ℕ) (s t : State) → SameOutside s t
    → CallMatches SameOutside SameOutside (run_function forgets_none q (swept_function f) vs s)
    (run_function forgets_none p f vs t)
function-runs q p callees f vs s t same =
    let end : Names = is_in f.results in
    let start : Names = before_left f.body end in
    let u : State = record s { locals = with_locals f.args vs no_locals } in
    let v : State = record t { locals = with_locals f.args vs no_locals } in
    let begins : At id start u v = record {
      locals = λ x alive. inr refl;
      outside = outside-locals (with_locals f.args vs no_locals) (with_locals f.args vs no_locals) s t same;
    } in
    matches-returned (At id end) SameOutside SameOutside (words_of f.results) (words_of f.results)
    (run_all forgets_none q (left_of f.body end) u) (run_all forgets_none p f.body v)
    (all-run q p callees f.body end u v begins)
    (λ a b h. (
      subst (λ xs. IsSameDefined (words_of xs a.locals) (words_of f.results b.locals)) (same_names f.results)
          (covers-words id f.results a.locals b.locals h.locals),
      h.outside,
    ))

swept-entries : (fs : List FlatFunc) → EntriesMatch forgets_none forgets_none (swept_program fs) fs
swept-entries [] q p callees g vs s t same = tt
swept-entries (f ∷ fs) q p callees zero vs s t same = function-runs q p callees f vs s t same
swept-entries (f ∷ fs) q p callees (suc g) vs s t same = swept-entries fs q p callees g vs s t same

same-signatures : (fs : List FlatFunc) → map signature (swept_program fs) ≡ map signature fs
same-signatures [] = refl
same-signatures (f ∷ fs) = ap (λ ss. signature f ∷ ss) (same-signatures fs)

pub sweep-refines : (fs : List FlatFunc) → Refines (meaning (swept_program fs)) (meaning fs)
sweep-refines fs =
    refines-from_entries forgets_none forgets_none (swept_program fs) fs (same-signatures fs) (swept-entries fs)
