-- Functions without what is not needed run as before, are no larger, and miss no more.
use Rattle.std.proofs.Common.{◌≡◌, ℕ, zero, suc, ◌==◌, Bool, true, false, not, ◌&&◌, ◌||◌, List, [], ◌∷◌, map}
use Rattle.std.proofs.Common.{Option, Some, None, inl, inr, refl, sym, ap, subst, ◌∙◌, IsTrue, if◌then◌else◌}
use Rattle.std.specs.List.{list_all}
use Rattle.br_bytes.specs.Runs.{Goes, then_do, with_defined, choose, loop}
use Rattle.br_flatimp.specs.declared.program.Stmt.{Stmt, map-Stmt}
use Rattle.br_flatimp.specs.declared.program.Stmt.TheOpen.{Stmt-F}
use Rattle.br_flatimp.specs.declared.program.Stmt.TheViews.{roll-Stmt}
use Rattle.br_flatimp.specs.declared.program.Stmt.TheFolds.{fold-roll-Stmt, ind-Stmt}
use Rattle.br_flatimp.specs.declared.program.FlatFunc.{FlatFunc}
use Rattle.br_flatimp.specs.Parts.{written, read, parts, test_names}
use Rattle.br_flatimp.specs.Values.{Names, no_locals, with_locals, words_of, test_word}
use Rattle.br_flatimp.specs.Runs.{State, Run, Callee, forgets_none, statement_step, run, run_all, run_function}
use Rattle.br_flatimp.specs.Liveness.{is_in, union, without, Within}
use Rattle.br_flatimp.specs.Matches.{SameOutside, Matches, CallMatches, CalleesMatch, IsSameDefined}
use Rattle.br_flatimp.specs.Missed.{Shown, is_missed, misses_after, shown_step, shown}
use Rattle.br_flatimp.specs.Refines.{Refines, signature, meaning}
use Rattle.br_flatimp.specs.Renaming.{At}
use Rattle.br_flatimp.proofs.Live.{or_cases}
use Rattle.br_flatimp.proofs.Matches.{matches-then_do}
use Rattle.br_flatimp.proofs.Covers.{is_number, covers-within, covers-words}
use Rattle.br_flatimp.proofs.Renamed.{Outside, outside-locals, at-within, needed}
use Rattle.br_flatimp.proofs.Renamed.{renamed-stackalloc, renamed-if, renamed-loop}
use Rattle.br_flatimp.proofs.Programs.{EntriesMatch, matches-returned, refines-from_entries}
use Rattle.br_deadcode.specs.Sweeps.{is_idle}
use Rattle.br_deadcode.specs.LeftOut.{InPairs, MissesNoMore}
use Rattle.br_deadcode.specs.Unneeded.{kept_in, trim_step, trim, trimmed, trimmed_function}
use Rattle.br_deadcode.specs.Unneeded.{reads_within, is_closed, is_closed_function, IsTrimmed}
use Rattle.br_deadcode.proofs.Closed.{closed-roll}
use Rattle.br_deadcode.proofs.Idle.{idle-map}
use Rattle.br_deadcode.proofs.Missing.{AgreeOn, shown_of, front, Passes, or-first, or-second, put-misses}
use Rattle.br_deadcode.proofs.Missing.{simple-fine, idle-fine, one-part, two-parts, choice-fine}
use Rattle.br_deadcode.proofs.Exact.{not_true}
use Rattle.br_deadcode.proofs.Runs.{id, same_test, same_names, run_left, run-put, ran}
use Rattle.br_deadcode.proofs.Runs.{simple-runs, same_operand, same_call, idle-runs, choice-runs}
use Rattle.br_deadcode.proofs.Sizes.{and-first, and-second, all_true, all-made}

-- ---- what is read is in the set

list-within : (set : Names) (xs : List ℕ) → list_all set xs ≡ true → Within (is_in xs) set
list-within set [] h z i = absurd (cc i)
list-within set (x ∷ xs) h z i =
    elim (or_cases (x == z) (is_in xs z) i) as (λ o. IsTrue (set z)) [
      | inl here ↦ sym (ap set (is_number x z here)) ∙ and-first (set x) (list_all set xs) h
      | inr later ↦ list-within set xs (and-second (set x) (list_all set xs) h) z later
    ]

-- what is needed before a statement that stays
needs-within : {X : Type 0} (set : Names) (y : Stmt-F X) → list_all set (read y) ≡ true
    → Within (union (without set (written y)) (is_in (read y))) set
needs-within set y h z i =
    elim (or_cases (without set (written y) z) (is_in (read y) z) i) as (λ o. IsTrue (set z)) [
      | inl l ↦ and-first (set z) (not (is_in (written y) z)) l
      | inr r ↦ list-within set (read y) h z r
    ]

reads-map : {X Y : Type 0} (f : X → Y) (set : Names) (y : Stmt-F X)
    → list_all set (read (map-Stmt X Y f y)) ≡ list_all set (read y)
reads-map f set (Stmt-F.Lit x n) = refl
reads-map f set (Stmt-F.Copy x y) = refl
reads-map f set (Stmt-F.Op x op y z) = refl
reads-map f set (Stmt-F.Load x size y offset) = refl
reads-map f set (Stmt-F.Store size y z offset) = refl
reads-map f set (Stmt-F.Table x size bytes y) = refl
reads-map f set (Stmt-F.Stackalloc x n body) = refl
reads-map f set (Stmt-F.If test first second) = refl
reads-map f set (Stmt-F.Loop first test last) = refl
reads-map f set (Stmt-F.Call xs g ys) = refl
reads-map f set (Stmt-F.Read x y) = refl
reads-map f set (Stmt-F.Write y z) = refl

abbrev parts_closed : Names → Stmt-F Stmt → Bool
parts_closed set z = list_all all_true (parts (map-Stmt Stmt Bool (is_closed set) z))

or-other : (a b : Bool) → (a || b) ≡ true → a ≡ false → b ≡ true
or-other true b h e = absurd (cc e)
or-other false b h e = h

-- a statement of a closed set that stays
kept-reads : (set : Names) (x : Stmt-F Stmt) → is_closed set (roll-Stmt x) ≡ true → is_idle x set ≡ false
    → list_all set (read x) ≡ true
kept-reads set x h e =
    let w : Stmt-F Bool = map-Stmt Stmt Bool (is_closed set) x in
    sym (reads-map (is_closed set) set x)
    ∙ or-other (is_idle w set) (list_all set (read w))
    (and-first (reads_within set w) (list_all all_true (parts w)) (sym (closed-roll set x) ∙ h))
    (idle-map (is_closed set) x set ∙ e)

kept-parts : (set : Names) (x : Stmt-F Stmt) → is_closed set (roll-Stmt x) ≡ true → parts_closed set x ≡ true
kept-parts set x h =
    let w : Stmt-F Bool = map-Stmt Stmt Bool (is_closed set) x in
    and-second (reads_within set w) (list_all all_true (parts w)) (sym (closed-roll set x) ∙ h)

part-closed : (set : Names) (cs : List Stmt) → all_true (map (is_closed set) cs) ≡ true
    → list_all (is_closed set) cs ≡ true
part-closed set cs h = sym (all-made (is_closed set) cs) ∙ h

-- ---- runs

abbrev Runs : Callee → Callee → Names → Stmt → Type 0
Runs q p set c =
    is_closed set c ≡ true → (s t : State) → At id set s t
    → Matches (At id set) Outside (run_left q (trim set c) s) (run forgets_none p c t)

abbrev AllRun : Callee → Callee → Names → List Stmt → Type 0
AllRun q p set cs =
    list_all (is_closed set) cs ≡ true → (s t : State) → At id set s t
    → Matches (At id set) Outside (run_all forgets_none q (trimmed set cs) s) (run_all forgets_none p cs t)

next-run : (q p : Callee) (set : Names) (c : Stmt) (cs : List Stmt) → Runs q p set c → AllRun q p set cs
    → AllRun q p set (c ∷ cs)
next-run q p set c cs one rest closed s t h =
    let o : Option Stmt = trim set c in
    let here = and-first (is_closed set c) (list_all (is_closed set) cs) closed in
    let there = and-second (is_closed set c) (list_all (is_closed set) cs) closed in
    subst (λ r. Matches (At id set) Outside r (run_all forgets_none p (c ∷ cs) t))
    (sym (run-put q o (trimmed set cs) s))
    (matches-then_do (At id set) (At id set) Outside (run_left q o s) (run forgets_none p c t)
    (run_all forgets_none q (trimmed set cs)) (run_all forgets_none p cs)
    (one here s t h) (λ u v a b k. rest there u v k))

abbrev Each : Callee → Callee → Names → Type 0
Each q p set = (c : Stmt) × Runs q p set c

abbrev stmts : (q p : Callee) (set : Names) → List (Each q p set) → List Stmt
stmts q p set cs = map (λ e. e.0) cs

each-runs : (q p : Callee) (set : Names) (cs : List (Each q p set)) → AllRun q p set (stmts q p set cs)
each-runs q p set [] closed s t h = h
each-runs q p set (e ∷ cs) closed s t h =
    next-run q p set e.0 (stmts q p set cs) e.1 (each-runs q p set cs) closed s t h

-- what is kept of a statement runs as the statement
abbrev KeptRuns : Callee → Callee → Names → Stmt-F Stmt → Type 0
KeptRuns q p set z =
    list_all set (read z) ≡ true → parts_closed set z ≡ true → (s t : State) → At id set s t
    → Matches (At id set) Outside (ran q (kept_in (map-Stmt Stmt (Option Stmt) (trim set) z)) s) (ran p z t)

-- what two states have in common
at-needed : (set : Names) (y : Stmt-F (State → Run)) (s t : State) → list_all set (read y) ≡ true → At id set s t
    → At id (needed y set) s t
at-needed set y s t reads h = at-within id (needed y set) set s t (needs-within set y reads) h

within-more : (a b : Names) → Within a b → Within (union a (union b b)) b
within-more a b k z i =
    elim (or_cases (a z) (b z || b z) i) as (λ o. IsTrue (b z)) [
      | inl l ↦ k z l
      | inr r ↦ elim (or_cases (b z) (b z) r) as (λ o. IsTrue (b z)) [
        | inl l ↦ l
        | inr m ↦ m
      ]
    ]

kept-runs : (q p : Callee) → CalleesMatch q p → (set : Names) (y : Stmt-F (Each q p set))
    → KeptRuns q p set (map-Stmt (Each q p set) Stmt (λ e. e.0) y)
kept-runs q p callees set (Stmt-F.Lit x n) reads closed s t h =
    simple-runs q p callees (Stmt-F.Lit x n) set s t refl refl (at-needed set (Stmt-F.Lit x n) s t reads h)
kept-runs q p callees set (Stmt-F.Copy x y) reads closed s t h =
    simple-runs q p callees (Stmt-F.Copy x y) set s t refl refl (at-needed set (Stmt-F.Copy x y) s t reads h)
kept-runs q p callees set (Stmt-F.Op x op y z) reads closed s t h =
    simple-runs q p callees (Stmt-F.Op x op y z) set s t refl (same_operand x op y z)
    (at-needed set (Stmt-F.Op x op y z) s t reads h)
kept-runs q p callees set (Stmt-F.Load x size y offset) reads closed s t h =
    simple-runs q p callees (Stmt-F.Load x size y offset) set s t refl refl
    (at-needed set (Stmt-F.Load x size y offset) s t reads h)
kept-runs q p callees set (Stmt-F.Store size y z offset) reads closed s t h =
    simple-runs q p callees (Stmt-F.Store size y z offset) set s t refl refl
    (at-needed set (Stmt-F.Store size y z offset) s t reads h)
kept-runs q p callees set (Stmt-F.Table x size bytes y) reads closed s t h =
    simple-runs q p callees (Stmt-F.Table x size bytes y) set s t refl refl
    (at-needed set (Stmt-F.Table x size bytes y) s t reads h)
kept-runs q p callees set (Stmt-F.Call xs g ys) reads closed s t h =
    simple-runs q p callees (Stmt-F.Call xs g ys) set s t refl (same_call xs g ys)
    (at-needed set (Stmt-F.Call xs g ys) s t reads h)
kept-runs q p callees set (Stmt-F.Read x y) reads closed s t h =
    simple-runs q p callees (Stmt-F.Read x y) set s t refl refl (at-needed set (Stmt-F.Read x y) s t reads h)
kept-runs q p callees set (Stmt-F.Write y z) reads closed s t h =
    simple-runs q p callees (Stmt-F.Write y z) set s t refl refl (at-needed set (Stmt-F.Write y z) s t reads h)
kept-runs q p callees set (Stmt-F.Stackalloc x n body) reads closed s t h =
    let cs : List Stmt = stmts q p set body in
    let inside : list_all (is_closed set) cs ≡ true = part-closed set cs
    (and-first (all_true (map (is_closed set) cs)) true closed) in
    renamed-stackalloc id x n (run_all forgets_none q (trimmed set cs)) (run_all forgets_none p cs) set set s t
    (λ z alive e. e) (λ u v k. each-runs q p set body inside u v k)
    (at-within id (without set (x ∷ [])) set s t (λ z i. and-first (set z) (not (is_in (x ∷ []) z)) i) h)
kept-runs q p callees set (Stmt-F.If test first second) reads closed s t h =
    let one : List Stmt = stmts q p set first in
    let two : List Stmt = stmts q p set second in
    let a : Bool = all_true (map (is_closed set) one) in
    let b : Bool = all_true (map (is_closed set) two) in
    let in_one : list_all (is_closed set) one ≡ true = part-closed set one (and-first a (b && true) closed) in
    let in_two : list_all (is_closed set) two ≡ true = part-closed set two
    (and-first b true (and-second a (b && true) closed)) in
    let f : State → Run = run_all forgets_none q (trimmed set one) in
    let f2 : State → Run = run_all forgets_none q (trimmed set two) in
    let g : State → Run = run_all forgets_none p one in
    let g2 : State → Run = run_all forgets_none p two in
    subst (λ c. Matches (At id set) Outside
    (with_defined (test_word c s.locals) s (λ v. choose (v == 0) (f2 s) (f s)))
    (with_defined (test_word test t.locals) t (λ v. choose (v == 0) (g2 t) (g t)))) (same_test test)
    (renamed-if id test f g f2 g2 set set set s t (λ u v k. each-runs q p set first in_one u v k)
    (λ u v k. each-runs q p set second in_two u v k)
    (at-within id (union (is_in (test_names test)) (union set set)) set s t
    (within-more (is_in (test_names test)) set (list-within set (test_names test) reads)) h))
kept-runs q p callees set (Stmt-F.Loop first test last) reads closed s t h =
    let one : List Stmt = stmts q p set first in
    let two : List Stmt = stmts q p set last in
    let a : Bool = all_true (map (is_closed set) one) in
    let b : Bool = all_true (map (is_closed set) two) in
    let in_one : list_all (is_closed set) one ≡ true = part-closed set one (and-first a (b && true) closed) in
    let in_two : list_all (is_closed set) two ≡ true = part-closed set two
    (and-first b true (and-second a (b && true) closed)) in
    let f : State → Run = run_all forgets_none q (trimmed set one) in
    let f2 : State → Run = run_all forgets_none q (trimmed set two) in
    let g : State → Run = run_all forgets_none p one in
    let g2 : State → Run = run_all forgets_none p two in
    subst (λ c. Matches (At id set) Outside
    (then_do (f s) (λ u. loop u.fuel (λ w. test_word c w.locals) (λ w. then_do (f2 w) f) u))
    (then_do (g t) (λ u. loop u.fuel (λ w. test_word test w.locals) (λ w. then_do (g2 w) g) u))) (same_test test)
    (renamed-loop id test f g f2 g2 set set set set s t
    (within-more (is_in (test_names test)) set (list-within set (test_names test) reads))
    (λ u v k. each-runs q p set first in_one u v k)
    (λ u v k. each-runs q p set last in_two u v k)
    h)

-- a statement that goes or is kept
either-runs : (q p : Callee) (x z : Stmt-F Stmt) (set : Names) (i : Bool) → (i ≡ true → is_idle x set ≡ true)
    → (i ≡ false → (s t : State) → At id set s t → Matches (At id set) Outside (ran q z s) (ran p x t))
    → (s t : State) → At id set s t
    → Matches (At id set) Outside (run_left q (if i then None else Some (roll-Stmt z)) s)
    (run forgets_none p (roll-Stmt x) t)
either-runs q p x z set true idle kept s t h =
    let y : Stmt-F (State → Run) = map-Stmt Stmt (State → Run) (run forgets_none p) x in
    subst (λ (f : State → Run). Matches (At id set) Outside (Goes s) (f t))
    (sym (fold-roll-Stmt (State → Run) (statement_step forgets_none p) x))
    (idle-runs q p y set s t (idle-map (run forgets_none p) x set ∙ idle refl) h)
either-runs q p x z set false idle kept s t h =
    choice-runs q p x z set set false (λ e. absurd (cc e)) (kept refl) s t h

statement-runs : (q p : Callee) → CalleesMatch q p → (set : Names) (c : Stmt) → Runs q p set c
statement-runs q p callees set = ind-Stmt (Runs q p set) (λ x y is closed s t h.
    let w : Stmt-F (Option Stmt) = map-Stmt Stmt (Option Stmt) (trim set) x in
    subst (λ (o : Option Stmt). Matches (At id set) Outside (run_left q o s) (run forgets_none p (roll-Stmt x) t))
    (sym (fold-roll-Stmt (Option Stmt) (trim_step set) x))
    (either-runs q p x (kept_in w) set (is_idle w set) (λ e. sym (idle-map (trim set) x set) ∙ e)
    (λ e. subst (KeptRuns q p set) is (kept-runs q p callees set y)
    (kept-reads set x closed (sym (idle-map (trim set) x set) ∙ e)) (kept-parts set x closed)) s t h))

all-run : (q p : Callee) → CalleesMatch q p → (set : Names) (cs : List Stmt) → AllRun q p set cs
all-run q p callees set [] closed s t h = h
all-run q p callees set (c ∷ cs) closed s t h =
    next-run q p set c cs (statement-runs q p callees set c) (all-run q p callees set cs) closed s t h

function-runs : (q p : Callee) → CalleesMatch q p → (set : Names) (f : FlatFunc)
    → is_closed_function set f ≡ true → (vs : List ℕ) (s t : State) → SameOutside s t
    → CallMatches SameOutside SameOutside (run_function forgets_none q (trimmed_function set f) vs s)
    (run_function forgets_none p f vs t)
function-runs q p callees set f closed vs s t same =
    let results = and-first (list_all set f.results) (list_all (is_closed set) f.body) closed in
    let body = and-second (list_all set f.results) (list_all (is_closed set) f.body) closed in
    let u : State = record s { locals = with_locals f.args vs no_locals } in
    let v : State = record t { locals = with_locals f.args vs no_locals } in
    let begins : At id set u v = record {
      locals = λ x alive. inr refl;
      outside = outside-locals (with_locals f.args vs no_locals) (with_locals f.args vs no_locals) s t same;
    } in
    matches-returned (At id set) SameOutside SameOutside (words_of f.results) (words_of f.results)
    (run_all forgets_none q (trimmed set f.body) u) (run_all forgets_none p f.body v)
    (all-run q p callees set f.body body u v begins)
    (λ a b h. (
      subst (λ xs. IsSameDefined (words_of xs a.locals) (words_of f.results b.locals)) (same_names f.results)
          (covers-words id f.results a.locals b.locals
          (covers-within id (is_in f.results) set a.locals b.locals (list-within set f.results results) h.locals)),
      h.outside,
    ))

entry-runs : (q p : Callee) → CalleesMatch q p → (g f : FlatFunc) → IsTrimmed g f → (vs : List ℕ) (s t : State)
    → SameOutside s t
    → CallMatches SameOutside SameOutside (run_function forgets_none q g vs s) (run_function forgets_none p f vs t)
entry-runs q p callees g f is vs s t same =
    subst (λ h. CallMatches SameOutside SameOutside (run_function forgets_none q h vs s)
    (run_function forgets_none p f vs t)) (sym is.left)
    (function-runs q p callees is.set f is.closed vs s t same)

trimmed-entries : (gs fs : List FlatFunc) → InPairs IsTrimmed gs fs → EntriesMatch forgets_none forgets_none gs fs
trimmed-entries [] [] are q p callees g vs s t same = tt
trimmed-entries (g ∷ gs) (f ∷ fs) are q p callees zero vs s t same = entry-runs q p callees g f are.0 vs s t same
trimmed-entries (g ∷ gs) (f ∷ fs) are q p callees (suc n) vs s t same =
    trimmed-entries gs fs are.1 q p callees n vs s t same
trimmed-entries [] (f ∷ fs) are q p callees g vs s t same = absurd are
trimmed-entries (g ∷ gs) [] are q p callees n vs s t same = absurd are

same-signatures : (gs fs : List FlatFunc) → InPairs IsTrimmed gs fs → map signature gs ≡ map signature fs
same-signatures [] [] are = refl
same-signatures (g ∷ gs) (f ∷ fs) are =
    ap (λ h. signature h ∷ map signature gs) are.0.left
    ∙ ap (λ ss. signature f ∷ ss) (same-signatures gs fs are.1)
same-signatures [] (f ∷ fs) are = absurd are
same-signatures (g ∷ gs) [] are = absurd are

pub trimmed-refines : (gs fs : List FlatFunc) → InPairs IsTrimmed gs fs → Refines (meaning gs) (meaning fs)
trimmed-refines gs fs are =
    refines-from_entries forgets_none forgets_none gs fs (same-signatures gs fs are) (trimmed-entries gs fs are)

-- ---- no operand is missed more

abbrev Fine : Names → Stmt → Type 0
Fine set c =
    is_closed set c ≡ true → (left all : List Shown) → AgreeOn set left all
    → Passes set (shown_of (trim set c)) (shown c) left all

abbrev AllFine : Names → List Stmt → Type 0
AllFine set cs =
    list_all (is_closed set) cs ≡ true → (left all : List Shown) → AgreeOn set left all
    → misses_after all (map shown cs) ≡ false → misses_after left (map shown (trimmed set cs)) ≡ false

next-fine : (set : Names) (c : Stmt) (cs : List Stmt) → Fine set c → AllFine set cs → AllFine set (c ∷ cs)
next-fine set c cs one rest closed left all agree none =
    let here = and-first (is_closed set c) (list_all (is_closed set) cs) closed in
    let there = and-second (is_closed set c) (list_all (is_closed set) cs) closed in
    let o : Option Stmt = trim set c in
    let it = one here left all agree in
    let now = or-first (is_missed (shown c).operand all || (shown c).misses)
    (misses_after (shown c ∷ all) (map shown cs)) none in
    let later = or-second (is_missed (shown c).operand all || (shown c).misses)
    (misses_after (shown c ∷ all) (map shown cs)) none in
    put-misses o (trimmed set cs) left (it.none now)
    (rest there (front (shown_of o) left) (shown c ∷ all) it.after later)

abbrev EachFine : Names → Type 0
EachFine set = (c : Stmt) × Fine set c

abbrev fine_stmts : (set : Names) → List (EachFine set) → List Stmt
fine_stmts set cs = map (λ e. e.0) cs

each-fine : (set : Names) (cs : List (EachFine set)) → AllFine set (fine_stmts set cs)
each-fine set [] closed left all agree none = refl
each-fine set (e ∷ cs) closed left all agree none =
    next-fine set e.0 (fine_stmts set cs) e.1 (each-fine set cs) closed left all agree none

-- a part, before which nothing stands
part-fine : (set : Names) (cs : List (EachFine set)) → all_true (map (is_closed set) (fine_stmts set cs)) ≡ true
    → misses_after [] (map shown (fine_stmts set cs)) ≡ false
    → misses_after [] (map shown (trimmed set (fine_stmts set cs))) ≡ false
part-fine set cs closed none =
    each-fine set cs (part-closed set (fine_stmts set cs) closed) [] [] (λ y alive. refl) none

abbrev KeptFine : Names → Stmt-F Stmt → Type 0
KeptFine set z =
    list_all set (read z) ≡ true → parts_closed set z ≡ true → (left all : List Shown) → AgreeOn set left all
    → Passes set (Some (shown_step (map-Stmt Stmt Shown shown (kept_in (map-Stmt Stmt (Option Stmt) (trim set) z)))))
    (shown_step (map-Stmt Stmt Shown shown z)) left all

plain-fine : (y : Stmt-F Shown) (set : Names) (left all : List Shown) → list_all set (read y) ≡ true
    → AgreeOn set left all → Passes set (Some (shown_step y)) (shown_step y) left all
plain-fine y set left all reads agree =
    simple-fine y set left all (λ z i. agree z (needs-within set y reads z i))

kept-fine : (set : Names) (y : Stmt-F (EachFine set)) → KeptFine set (map-Stmt (EachFine set) Stmt (λ e. e.0) y)
kept-fine set (Stmt-F.Lit x n) reads closed left all agree =
    plain-fine (Stmt-F.Lit x n) set left all reads agree
kept-fine set (Stmt-F.Copy x y) reads closed left all agree =
    plain-fine (Stmt-F.Copy x y) set left all reads agree
kept-fine set (Stmt-F.Op x op y z) reads closed left all agree =
    plain-fine (Stmt-F.Op x op y z) set left all reads agree
kept-fine set (Stmt-F.Load x size y offset) reads closed left all agree =
    plain-fine (Stmt-F.Load x size y offset) set left all reads agree
kept-fine set (Stmt-F.Store size y z offset) reads closed left all agree =
    plain-fine (Stmt-F.Store size y z offset) set left all reads agree
kept-fine set (Stmt-F.Table x size bytes y) reads closed left all agree =
    plain-fine (Stmt-F.Table x size bytes y) set left all reads agree
kept-fine set (Stmt-F.Call xs g ys) reads closed left all agree =
    plain-fine (Stmt-F.Call xs g ys) set left all reads agree
kept-fine set (Stmt-F.Read x y) reads closed left all agree =
    plain-fine (Stmt-F.Read x y) set left all reads agree
kept-fine set (Stmt-F.Write y z) reads closed left all agree =
    plain-fine (Stmt-F.Write y z) set left all reads agree
kept-fine set (Stmt-F.Stackalloc x n body) reads closed left all agree =
    let cs : List Stmt = fine_stmts set body in
    record {
      after = λ y alive. refl;
      none = one-part (misses_after [] (map shown cs)) (misses_after [] (map shown (trimmed set cs)))
          (part-fine set body (and-first (all_true (map (is_closed set) cs)) true closed));
    }
kept-fine set (Stmt-F.If test first second) reads closed left all agree =
    let one : List Stmt = fine_stmts set first in
    let two : List Stmt = fine_stmts set second in
    let a : Bool = all_true (map (is_closed set) one) in
    let b : Bool = all_true (map (is_closed set) two) in
    record {
      after = λ y alive. refl;
      none = two-parts (misses_after [] (map shown one)) (misses_after [] (map shown two))
          (misses_after [] (map shown (trimmed set one))) (misses_after [] (map shown (trimmed set two)))
          (part-fine set first (and-first a (b && true) closed))
          (part-fine set second (and-first b true (and-second a (b && true) closed)));
    }
kept-fine set (Stmt-F.Loop first test last) reads closed left all agree =
    let one : List Stmt = fine_stmts set first in
    let two : List Stmt = fine_stmts set last in
    let a : Bool = all_true (map (is_closed set) one) in
    let b : Bool = all_true (map (is_closed set) two) in
    record {
      after = λ y alive. refl;
      none = two-parts (misses_after [] (map shown one)) (misses_after [] (map shown two))
          (misses_after [] (map shown (trimmed set one))) (misses_after [] (map shown (trimmed set two)))
          (part-fine set first (and-first a (b && true) closed))
          (part-fine set last (and-first b true (and-second a (b && true) closed)));
    }

-- a statement that goes or is kept
either-fine : (x z : Stmt-F Stmt) (set : Names) (i : Bool) → (i ≡ true → is_idle x set ≡ true)
    → (i ≡ false → (left all : List Shown) → AgreeOn set left all
    → Passes set (Some (shown_step (map-Stmt Stmt Shown shown z))) (shown_step (map-Stmt Stmt Shown shown x)) left all)
    → (left all : List Shown) → AgreeOn set left all
    → Passes set (shown_of (if i then None else Some (roll-Stmt z))) (shown (roll-Stmt x)) left all
either-fine x z set true idle kept left all agree =
    subst (λ (s : Shown). Passes set None s left all) (sym (fold-roll-Stmt Shown shown_step x))
    (idle-fine (map-Stmt Stmt Shown shown x) set left all (idle-map shown x set ∙ idle refl) agree)
either-fine x z set false idle kept left all agree =
    choice-fine x z set set false (λ e. absurd (cc e)) (kept refl) left all agree

statement-fine : (set : Names) (c : Stmt) → Fine set c
statement-fine set = ind-Stmt (Fine set) (λ x y is closed left all agree.
    let w : Stmt-F (Option Stmt) = map-Stmt Stmt (Option Stmt) (trim set) x in
    subst (λ (o : Option Stmt). Passes set (shown_of o) (shown (roll-Stmt x)) left all)
    (sym (fold-roll-Stmt (Option Stmt) (trim_step set) x))
    (either-fine x (kept_in w) set (is_idle w set) (λ e. sym (idle-map (trim set) x set) ∙ e)
    (λ e. subst (KeptFine set) is (kept-fine set y)
    (kept-reads set x closed (sym (idle-map (trim set) x set) ∙ e)) (kept-parts set x closed)) left all agree))

all-fine : (set : Names) (cs : List Stmt) → AllFine set cs
all-fine set [] closed left all agree none = refl
all-fine set (c ∷ cs) closed left all agree none =
    next-fine set c cs (statement-fine set c) (all-fine set cs) closed left all agree none

function-fine : (set : Names) (f : FlatFunc) → is_closed_function set f ≡ true
    → MissesNoMore (trimmed_function set f) f
function-fine set f closed h =
    ap not (all-fine set f.body (and-second (list_all set f.results) (list_all (is_closed set) f.body) closed)
    [] [] (λ y alive. refl) (not_true (misses_after [] (map shown f.body)) h))

pub misses-no_more : (g f : FlatFunc) → IsTrimmed g f → MissesNoMore g f
misses-no_more g f is = subst (λ h. MissesNoMore h f) (sym is.left) (function-fine is.set f is.closed)
