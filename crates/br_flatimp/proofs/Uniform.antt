-- Whole statements and functions with other names match those that they came from.
use Rattle.std.proofs.Common.{◌≡◌, ℕ, List, [], ◌∷◌, ◌++◌, map, refl, sym, ap, subst, ◌∙◌}
use Rattle.std.specs.List.{AllByRecursion}
use Rattle.br_bytes.specs.Runs.{in_turn, returned}
use Rattle.br_flatimp.specs.declared.program.Stmt.{Stmt, map-Stmt}
use Rattle.br_flatimp.specs.declared.program.Stmt.TheOpen.{Stmt-F}
use Rattle.br_flatimp.specs.declared.program.Stmt.TheViews.{roll-Stmt}
use Rattle.br_flatimp.specs.declared.program.Stmt.TheFolds.{fold-roll-Stmt, ind-Stmt}
use Rattle.br_flatimp.specs.declared.program.FlatFunc.{FlatFunc}
use Rattle.br_flatimp.specs.Values.{Names, no_locals, with_locals, words_of}
use Rattle.br_flatimp.specs.Runs.{State, Run, Callee, Forgets, statement_step, run, run_all, run_function}
use Rattle.br_flatimp.specs.Liveness.{is_in, Live, entry, moments, before_step, live_step, live, at_test}
use Rattle.br_flatimp.specs.Matches.{SameOutside, Matches, CallMatches, CalleesMatch}
use Rattle.br_flatimp.specs.Renaming.{renamed_step, renamed, Allows, RenamedFunction, At}
use Rattle.br_flatimp.proofs.Live.{test-holds}
use Rattle.br_flatimp.proofs.Matches.{matches-then_do}
use Rattle.br_flatimp.proofs.Covers.{is_in-head, covers-words, covers-args}
use Rattle.br_flatimp.proofs.Renamed.{Outside, outside-locals, renamed-simple}
use Rattle.br_flatimp.proofs.Renamed.{renamed-stackalloc, renamed-if, renamed-loop}
use Rattle.br_flatimp.proofs.Programs.{matches-returned}

pub all-left : {X : Type 0} (P : X → Type 0) (xs ys : List X) → AllByRecursion P (xs ++ ys) → AllByRecursion P xs
all-left P [] ys h = tt
all-left P (x ∷ xs) ys h = (h.0, all-left P xs ys h.1)

pub all-right : {X : Type 0} (P : X → Type 0) (xs ys : List X) → AllByRecursion P (xs ++ ys) → AllByRecursion P ys
all-right P [] ys h = h
all-right P (x ∷ xs) ys h = all-right P xs ys h.1

-- Where each statement may be renamed, a statement and what goes on from it match from what is live before
-- the one to what is live after the other.
abbrev pub StatementMatches : (ℕ → ℕ) → Forgets → Forgets → Callee → Callee → Stmt → Type 0
StatementMatches to fq fp q p c =
    (after : Names) (s t : State) → AllByRecursion (Allows to fq) ((live c).moments after)
    → At to ((live c).before after) s t →
    Matches (At to after) Outside (run fq q (renamed to c) s) (run fp p c t)

pub renamed-all : (to : ℕ → ℕ) (fq fp : Forgets) (q p : Callee) → ((c : Stmt) → StatementMatches to fq fp q p c)
    → (cs : List Stmt) (after : Names) (s t : State) → AllByRecursion (Allows to fq) (moments (map live cs) after)
    → At to (entry (map live cs) after) s t
    → Matches (At to after) Outside (run_all fq q (map (renamed to) cs) s) (run_all fp p cs t)
renamed-all to fq fp q p each [] after s t allowed h = h
renamed-all to fq fp q p each (c ∷ cs) after s t allowed h =
    let rest : Names = entry (map live cs) after in
    matches-then_do (At to rest) (At to after) Outside (run fq q (renamed to c) s) (run fp p c t)
    (run_all fq q (map (renamed to) cs)) (run_all fp p cs)
    (each c rest s t (all-left (Allows to fq) ((live c).moments rest) (moments (map live cs) after) allowed) h)
    (λ u v there here k. renamed-all to fq fp q p each cs after u v
    (all-right (Allows to fq) ((live c).moments rest) (moments (map live cs) after) allowed) k)

-- a statement beside the fact on it
abbrev Known : (ℕ → ℕ) → Forgets → Forgets → Callee → Callee → Type 0
Known to fq fp q p = (c : Stmt) × StatementMatches to fq fp q p c

abbrev stmts : (to : ℕ → ℕ) (fq fp : Forgets) (q p : Callee) → List (Known to fq fp q p) → List Stmt
stmts to fq fp q p cs = map (λ e. e.0) cs

known-all : (to : ℕ → ℕ) (fq fp : Forgets) (q p : Callee) (cs : List (Known to fq fp q p)) (after : Names) (s t : State)
    → AllByRecursion (Allows to fq) (moments (map live (stmts to fq fp q p cs)) after)
    → At to (entry (map live (stmts to fq fp q p cs)) after) s t → Matches (At to after) Outside (in_turn
    (map (run fq q) (map (renamed to) (stmts to fq fp q p cs))) s) (in_turn (map (run fp p) (stmts to fq fp q p cs)) t)
known-all to fq fp q p [] after s t allowed h = h
known-all to fq fp q p (e ∷ cs) after s t allowed h =
    let rest : Names = entry (map live (stmts to fq fp q p cs)) after in
    matches-then_do (At to rest) (At to after) Outside (run fq q (renamed to e.0) s) (run fp p e.0 t) (in_turn
    (map (run fq q) (map (renamed to) (stmts to fq fp q p cs)))) (in_turn (map (run fp p) (stmts to fq fp q p cs)))
    (e.1 rest s t (all-left (Allows to fq) ((live e.0).moments rest)
    (moments (map live (stmts to fq fp q p cs)) after) allowed) h)
    (λ u v there here k. known-all to fq fp q p cs after u v (all-right (Allows to fq) ((live e.0).moments rest)
    (moments (map live (stmts to fq fp q p cs)) after) allowed) k)

abbrev opened : (to : ℕ → ℕ) (fq fp : Forgets) (q p : Callee) → Stmt-F (Known to fq fp q p) → Stmt-F Stmt
opened to fq fp q p y = map-Stmt (Known to fq fp q p) Stmt (λ e. e.0) y

known-step : (to : ℕ → ℕ) (fq fp : Forgets) (q p : Callee)
    → CalleesMatch q p → (y : Stmt-F (Known to fq fp q p)) (after : Names) (s t : State)
    → AllByRecursion (Allows to fq) ((live_step (map-Stmt Stmt Live live (opened to fq fp q p y))).moments after)
    → At to (before_step (map-Stmt Stmt Live live (opened to fq fp q p y)) after) s t
    → Matches (At to after) Outside (statement_step fq q
    (renamed_step to (map-Stmt Stmt (State → Run) (run fq q) (map-Stmt Stmt Stmt (renamed to) (opened to fq fp q p y))))
    s) (statement_step fp p (map-Stmt Stmt (State → Run) (run fp p) (opened to fq fp q p y)) t)
known-step to fq fp q p callees (Stmt-F.Lit x n) after s t allowed h =
    renamed-simple to fq fp q p callees (Stmt-F.Lit x n) after s t refl
    (record { apart = allowed.0.apart; kept = allowed.0.kept }) h
known-step to fq fp q p callees (Stmt-F.Copy x y) after s t allowed h =
    renamed-simple to fq fp q p callees (Stmt-F.Copy x y) after s t refl
    (record { apart = allowed.0.apart; kept = allowed.0.kept }) h
known-step to fq fp q p callees (Stmt-F.Op x op y z) after s t allowed h =
    renamed-simple to fq fp q p callees (Stmt-F.Op x op y z) after s t refl
    (record { apart = allowed.0.apart; kept = allowed.0.kept }) h
known-step to fq fp q p callees (Stmt-F.Load x size y offset) after s t allowed h =
    renamed-simple to fq fp q p callees (Stmt-F.Load x size y offset) after s t refl
    (record { apart = allowed.0.apart; kept = allowed.0.kept }) h
known-step to fq fp q p callees (Stmt-F.Store size y z offset) after s t allowed h =
    renamed-simple to fq fp q p callees (Stmt-F.Store size y z offset) after s t refl
    (record { apart = allowed.0.apart; kept = allowed.0.kept }) h
known-step to fq fp q p callees (Stmt-F.Table x size bytes y) after s t allowed h =
    renamed-simple to fq fp q p callees (Stmt-F.Table x size bytes y) after s t refl
    (record { apart = allowed.0.apart; kept = allowed.0.kept }) h
known-step to fq fp q p callees (Stmt-F.Call xs g ys) after s t allowed h =
    renamed-simple to fq fp q p callees (Stmt-F.Call xs g ys) after s t refl
    (record { apart = allowed.0.apart; kept = allowed.0.kept }) h
known-step to fq fp q p callees (Stmt-F.Read x y) after s t allowed h =
    renamed-simple to fq fp q p callees (Stmt-F.Read x y) after s t refl
    (record { apart = allowed.0.apart; kept = allowed.0.kept }) h
known-step to fq fp q p callees (Stmt-F.Write y z) after s t allowed h =
    renamed-simple to fq fp q p callees (Stmt-F.Write y z) after s t refl
    (record { apart = allowed.0.apart; kept = allowed.0.kept }) h
known-step to fq fp q p callees (Stmt-F.Stackalloc x n body) after s t allowed h =
    let cs : List Stmt = stmts to fq fp q p body in
    renamed-stackalloc to x n (in_turn (map (run fq q) (map (renamed to) cs))) (in_turn (map (run fp p) cs)) after
    (entry (map live cs) after) s t
    (allowed.0.apart x (is_in-head x [])) (λ u v k. known-all to fq fp q p body after u v allowed.1 k) h
known-step to fq fp q p callees (Stmt-F.If test first second) after s t allowed h =
    let one : List Stmt = stmts to fq fp q p first in
    let two : List Stmt = stmts to fq fp q p second in
    renamed-if to test (in_turn (map (run fq q) (map (renamed to) one))) (in_turn (map (run fp p) one))
    (in_turn (map (run fq q) (map (renamed to) two))) (in_turn (map (run fp p) two)) after
    (entry (map live one) after) (entry (map live two) after) s t
    (λ u v k. known-all to fq fp q p first after u v
    (all-left (Allows to fq) (moments (map live one) after) (moments (map live two) after) allowed.1) k)
    (λ u v k. known-all to fq fp q p second after u v
    (all-right (Allows to fq) (moments (map live one) after) (moments (map live two) after) allowed.1) k)
    h
known-step to fq fp q p callees (Stmt-F.Loop first test last) after s t allowed h =
    let one : List Stmt = stmts to fq fp q p first in
    let two : List Stmt = stmts to fq fp q p last in
    let end : Names = at_test (map live one) test (map live two) after in
    let start : Names = entry (map live one) end in
    let back : Names = entry (map live two) start in
    renamed-loop to test (in_turn (map (run fq q) (map (renamed to) one))) (in_turn (map (run fp p) one))
    (in_turn (map (run fq q) (map (renamed to) two))) (in_turn (map (run fp p) two)) after start end back s t
    (test-holds one test two after)
    (λ u v k. known-all to fq fp q p first end u v
    (all-left (Allows to fq) (moments (map live one) end) (moments (map live two) start) allowed.1) k)
    (λ u v k. known-all to fq fp q p last start u v
    (all-right (Allows to fq) (moments (map live one) end) (moments (map live two) start) allowed.1) k)
    h

-- renaming the names of a statement and putting other things in place of its parts
renamed_step-map : {X Y : Type 0} (f : X → Y) (to : ℕ → ℕ) (y : Stmt-F X)
    → map-Stmt X Y f (renamed_step to y) ≡ renamed_step to (map-Stmt X Y f y)
renamed_step-map f to (Stmt-F.Lit x n) = refl
renamed_step-map f to (Stmt-F.Copy x y) = refl
renamed_step-map f to (Stmt-F.Op x op y z) = refl
renamed_step-map f to (Stmt-F.Load x size y offset) = refl
renamed_step-map f to (Stmt-F.Store size y z offset) = refl
renamed_step-map f to (Stmt-F.Table x size bytes y) = refl
renamed_step-map f to (Stmt-F.Stackalloc x n body) = refl
renamed_step-map f to (Stmt-F.If test first second) = refl
renamed_step-map f to (Stmt-F.Loop first test last) = refl
renamed_step-map f to (Stmt-F.Call xs g ys) = refl
renamed_step-map f to (Stmt-F.Read x y) = refl
renamed_step-map f to (Stmt-F.Write y z) = refl

run-renamed : (to : ℕ → ℕ) (fq : Forgets) (q : Callee) (x : Stmt-F Stmt) → run fq q (renamed to (roll-Stmt x))
    ≡ statement_step fq q (renamed_step to (map-Stmt Stmt (State → Run) (run fq q) (map-Stmt Stmt Stmt (renamed to) x)))
run-renamed to fq q x =
    ap (run fq q) (fold-roll-Stmt Stmt (λ y. roll-Stmt (renamed_step to y)) x)
    ∙ fold-roll-Stmt (State → Run) (statement_step fq q) (renamed_step to (map-Stmt Stmt Stmt (renamed to) x))
    ∙ ap (statement_step fq q) (renamed_step-map (run fq q) to (map-Stmt Stmt Stmt (renamed to) x))

pub renamed-statement : (to : ℕ → ℕ) (fq fp : Forgets) (q p : Callee) → CalleesMatch q p → (c : Stmt)
    → StatementMatches to fq fp q p c
renamed-statement to fq fp q p callees = ind-Stmt (StatementMatches to fq fp q p) (λ x y is after s t allowed h.
    let unrolled = fold-roll-Stmt Live live_step x in
    let ways = subst (λ l. AllByRecursion (Allows to fq) (l.moments after)) unrolled allowed in
    let here = subst (λ l. At to (l.before after) s t) unrolled h in
    let step = subst (λ z. AllByRecursion (Allows to fq) ((live_step (map-Stmt Stmt Live live z)).moments after)
    → At to (before_step (map-Stmt Stmt Live live z) after) s t → Matches (At to after) Outside (statement_step
    fq q (renamed_step to (map-Stmt Stmt (State → Run) (run fq q) (map-Stmt Stmt Stmt (renamed to) z)))
    s) (statement_step fp p (map-Stmt Stmt (State → Run) (run fp p) z) t)) is
    (known-step to fq fp q p callees y after s t) ways here in
    let one = subst
    (λ f. Matches (At to after) Outside (f s) (statement_step fp p (map-Stmt Stmt (State → Run) (run fp p) x) t))
    (sym (run-renamed to fq q x)) step in
    subst (λ f. Matches (At to after) Outside (run fq q (renamed to (roll-Stmt x)) s) (f t))
    (sym (fold-roll-Stmt (State → Run) (statement_step fp p) x)) one)

pub renamed-function : (to : ℕ → ℕ) (fq fp : Forgets) (q p : Callee)
    → CalleesMatch q p → (f2 f : FlatFunc) → RenamedFunction to fq f2 f → (vs : List ℕ) (s t : State) → SameOutside s t
    → CallMatches SameOutside SameOutside (run_function fq q f2 vs s) (run_function fp p f vs t)
renamed-function to fq fp q p callees f2 f how vs s t same =
    let u : State = record s { locals = with_locals (map to f.args) vs no_locals } in
    let v : State = record t { locals = with_locals f.args vs no_locals } in
    let start : At to (entry (map live f.body) (is_in f.results)) u v = record {
      locals = covers-args to (entry (map live f.body) (is_in f.results)) f.args vs how.apart;
      outside = outside-locals (with_locals (map to f.args) vs no_locals) (with_locals f.args vs no_locals) s t same;
    } in
    let whole = matches-returned (At to (is_in f.results)) SameOutside SameOutside (words_of (map to f.results))
    (words_of f.results) (run_all fq q (map (renamed to) f.body) u) (run_all fp p f.body v)
    (renamed-all to fq fp q p (renamed-statement to fq fp q p callees) f.body (is_in f.results) u v how.allowed start)
    (λ a b h. (covers-words to f.results a.locals b.locals h.locals, h.outside)) in
    subst (λ xs. CallMatches SameOutside SameOutside (returned (words_of f2.results) (run_all fq q f2.body
    (record s { locals = with_locals xs vs no_locals }))) (run_function fp p f vs t)) (sym how.args)
    (subst (λ xs. CallMatches SameOutside SameOutside (returned (words_of xs) (run_all fq q f2.body u))
    (run_function fp p f vs t)) (sym how.results)
    (subst (λ cs. CallMatches SameOutside SameOutside (returned (words_of (map to f.results)) (run_all fq q cs u))
    (run_function fp p f vs t)) (sym how.body) whole))
