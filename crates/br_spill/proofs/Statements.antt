-- Every statement in register form follows the one that it comes from.
use Rattle.std.proofs.Common.{◌≡◌, ℕ, ◌%◌, ◌<◌, ◌==◌, ◌&&◌, Bool, true, false, List, [], ◌∷◌}
use Rattle.std.proofs.Common.{◌++◌, map, refl, sym, subst, ◌∙◌, length, slice_get, nat_lt}
use Rattle.std.specs.List.{list_all}
use Rattle.br_bytes.specs.Runs.{then_do, in_turn}
use Rattle.br_flatimp.specs.declared.program.Stmt.{Stmt, map-Stmt}
use Rattle.br_flatimp.specs.declared.program.Stmt.TheOpen.{Stmt-F}
use Rattle.br_flatimp.specs.declared.program.Stmt.TheViews.{roll-Stmt}
use Rattle.br_flatimp.specs.declared.program.Stmt.TheFolds.{fold-roll-Stmt, ind-Stmt}
use Rattle.br_flatimp.specs.declared.program.FlatFunc.{FlatFunc}
use Rattle.br_flatimp.specs.Parts.{parts, throughout, operand_names, test_names}
use Rattle.br_flatimp.specs.WellFormed.{are_below, values_fit, fits, is_well_formed_statement, counts_fit, all_differ}
use Rattle.br_flatimp.specs.Runs.{State, Run, Callee, forgets_none, statement_step, run, run_all}
use Rattle.br_spill.specs.Spill.{joined, spilled_step, spilled, words_fit}
use Rattle.br_spill.proofs.Follows.{given, Follows, follows-from, follows-goes, follows-then}
use Rattle.br_spill.proofs.Scene.{Scene, At}
use Rattle.br_spill.proofs.Pieces.{does, does-append, and-first, and-second, below}
use Rattle.br_spill.proofs.Straight.{MakesWords, lit-follows, copy-follows, op-follows, load-follows}
use Rattle.br_spill.proofs.Straight.{store-follows, table-follows, read-follows, write-follows}
use Rattle.br_spill.proofs.Control.{if-follows, loop-follows, stackalloc-follows}
use Rattle.br_spill.proofs.Calls.{CalleesFollow, call-follows}

-- what is asked of a statement's parts, and of the statement itself
abbrev all_parts : Stmt-F Bool → Bool
all_parts y = list_all (list_all (λ ok. ok)) (parts y)

abbrev well : List FlatFunc → ℕ → Stmt-F Bool → Bool
well fs names y = fits fs names y && all_parts y

abbrev fit : Stmt-F Bool → Bool
fit y = words_fit y && all_parts y

abbrev pub StatementFollows : List FlatFunc → Scene → Callee → Callee → Stmt → Type 0
StatementFollows fs g q p c =
    is_well_formed_statement fs g.names c ≡ true → throughout words_fit c ≡ true → (s t : State) → At g s t
    → Follows (At g) (does q (spilled g.layout c) s) (λ ds. run forgets_none p c (given t ds))

abbrev Known : List FlatFunc → Scene → Callee → Callee → Type 0
Known fs g q p = (c : Stmt) × StatementFollows fs g q p c

abbrev stmts : (fs : List FlatFunc) (g : Scene) (q p : Callee) → List (Known fs g q p) → List Stmt
stmts fs g q p cs = map (λ e. e.0) cs

known-all : (fs : List FlatFunc) (g : Scene) (q p : Callee) (cs : List (Known fs g q p))
    → list_all (λ ok. ok) (map (is_well_formed_statement fs g.names) (stmts fs g q p cs)) ≡ true
    → list_all (λ ok. ok) (map (throughout words_fit) (stmts fs g q p cs)) ≡ true → (s t : State) → At g s t
    → Follows (At g) (does q (joined (map (spilled g.layout) (stmts fs g q p cs))) s)
    (λ ds. in_turn (map (run forgets_none p) (stmts fs g q p cs)) (given t ds))
known-all fs g q p [] formed words s t h = follows-goes (At g) s t h
known-all fs g q p (c ∷ cs) formed words s t h =
    let one = is_well_formed_statement fs g.names c.0 in
    let rest = list_all (λ ok. ok) (map (is_well_formed_statement fs g.names) (stmts fs g q p cs)) in
    let two = throughout words_fit c.0 in
    let others = list_all (λ ok. ok) (map (throughout words_fit) (stmts fs g q p cs)) in
    let body = joined (map (spilled g.layout) (stmts fs g q p cs)) in
    let more : State → Run = in_turn (map (run forgets_none p) (stmts fs g q p cs)) in
    follows-from (At g) (does q (spilled g.layout c.0 ++ body) s) (then_do (does q (spilled g.layout c.0) s)
    (does q body)) (λ ds. then_do (run forgets_none p c.0 (given t ds)) more)
    (does-append q (spilled g.layout c.0) body s)
    (follows-then (At g) (At g) (does q (spilled g.layout c.0) s) (λ ds. run forgets_none p c.0 (given t ds))
    (does q body) more
    (c.1 (and-first one rest formed) (and-first two others words) s t h)
    (λ u v k. known-all fs g q p cs (and-second one rest formed) (and-second two others words) u v k))

abbrev LayerFollows : List FlatFunc → Scene → Callee → Callee → Stmt-F Stmt → Type 0
LayerFollows fs g q p y =
    well fs g.names (map-Stmt Stmt Bool (is_well_formed_statement fs g.names) y) ≡ true
    → fit (map-Stmt Stmt Bool (throughout words_fit) y) ≡ true → (s t : State) → At g s t
    → Follows (At g) (does q (spilled_step g.layout (map-Stmt Stmt (List Stmt) (spilled g.layout) y)) s)
    (λ ds. statement_step forgets_none p (map-Stmt Stmt (State → Run) (run forgets_none p) y) (given t ds))

-- the facts of the layer: names that are written, names that are read, and the values
three-first : (a b c d : Bool) → ((a && b && c) && d) ≡ true → a ≡ true
three-first true b c d h = refl
three-first false b c d h = absurd (cc h)

three-second : (a b c d : Bool) → ((a && b && c) && d) ≡ true → b ≡ true
three-second true true c d h = refl
three-second true false c d h = absurd (cc h)
three-second false b c d h = absurd (cc h)

three-third : (a b c d : Bool) → ((a && b && c) && d) ≡ true → c ≡ true
three-third true true true d h = refl
three-third true true false d h = absurd (cc h)
three-third true false c d h = absurd (cc h)
three-third false b c d h = absurd (cc h)

three-parts : (a b c d : Bool) → ((a && b && c) && d) ≡ true → d ≡ true
three-parts true true true d h = h
three-parts true true false d h = absurd (cc h)
three-parts true false c d h = absurd (cc h)
three-parts false b c d h = absurd (cc h)

record Layer (names : ℕ) (xs ys : List ℕ) (values parts : Bool) : Type 0 where
  writes : are_below names xs ≡ true
  reads : are_below names ys ≡ true
  fit : values ≡ true
  inner : parts ≡ true

layer-facts : (names : ℕ) (xs ys : List ℕ) (values parts : Bool)
    → ((are_below names xs && are_below names ys && values) && parts) ≡ true → Layer names xs ys values parts
layer-facts names xs ys values parts h = record {
  writes = three-first (are_below names xs) (are_below names ys) values parts h;
  reads = three-second (are_below names xs) (are_below names ys) values parts h;
  fit = three-third (are_below names xs) (are_below names ys) values parts h;
  inner = three-parts (are_below names xs) (are_below names ys) values parts h;
}

head-below : (names x : ℕ) (xs : List ℕ) → are_below names (x ∷ xs) ≡ true → x < names
head-below names x xs h = below x names (and-first (nat_lt x names) (are_below names xs) h)

tail-below : (names x : ℕ) (xs : List ℕ) → are_below names (x ∷ xs) ≡ true → are_below names xs ≡ true
tail-below names x xs h = and-second (nat_lt x names) (are_below names xs) h

layer : MakesWords → (fs : List FlatFunc) (g : Scene) (q p : Callee) → CalleesFollow fs q p
    → (y : Stmt-F (Known fs g q p)) → LayerFollows fs g q p (map-Stmt (Known fs g q p) Stmt (λ e. e.0) y)
layer makes fs g q p callees (Stmt-F.Lit x n) formed words s t h =
    let l = layer-facts g.names (x ∷ []) [] true true formed in
    lit-follows g q x n s t (head-below g.names x [] l.writes)
    (below n 4294967296 (and-first (nat_lt n 4294967296) true words)) h
layer makes fs g q p callees (Stmt-F.Copy x y) formed words s t h =
    let l = layer-facts g.names (x ∷ []) (y ∷ []) true true formed in
    copy-follows g q x y s t (head-below g.names x [] l.writes) (head-below g.names y [] l.reads) h
layer makes fs g q p callees (Stmt-F.Op x op y z) formed words s t h =
    let l = layer-facts g.names (x ∷ []) (y ∷ operand_names z) (values_fit {X = Bool} fs (Stmt-F.Op x op y z))
    true formed in
    op-follows makes g q x op y z s t (head-below g.names x [] l.writes)
    (head-below g.names y (operand_names z) l.reads) (tail-below g.names y (operand_names z) l.reads) h
layer makes fs g q p callees (Stmt-F.Load x size y offset) formed words s t h =
    let l = layer-facts g.names (x ∷ []) (y ∷ []) (values_fit {X = Bool} fs (Stmt-F.Load x size y offset))
    true formed in
    load-follows g q x size y offset s t (head-below g.names x [] l.writes) (head-below g.names y [] l.reads) h
layer makes fs g q p callees (Stmt-F.Store size y z offset) formed words s t h =
    let l = layer-facts g.names [] (y ∷ z ∷ []) (values_fit {X = Bool} fs (Stmt-F.Store size y z offset)) true formed in
    store-follows g q size y z offset s t (head-below g.names y (z ∷ []) l.reads)
    (head-below g.names z [] (tail-below g.names y (z ∷ []) l.reads)) h
layer makes fs g q p callees (Stmt-F.Table x size bytes y) formed words s t h =
    let l = layer-facts g.names (x ∷ []) (y ∷ []) true true formed in
    table-follows g q x size bytes y s t (head-below g.names x [] l.writes) (head-below g.names y [] l.reads)
    (and-first (list_all (λ b. nat_lt b 256) bytes) true words) h
layer makes fs g q p callees (Stmt-F.Stackalloc x n body) formed words s t h =
    let cs = stmts fs g q p body in
    let inner = list_all (λ ok. ok) (map (is_well_formed_statement fs g.names) cs) in
    let inner_words = list_all (λ ok. ok) (map (throughout words_fit) cs) in
    let l = layer-facts g.names (x ∷ []) [] (n % 4 == 0) (inner && true) formed in
    stackalloc-follows g q x n (joined (map (spilled g.layout) cs)) (in_turn (map (run forgets_none p) cs)) s t
    (head-below g.names x [] l.writes)
    (λ u v k. known-all fs g q p body (and-first inner true l.inner) (and-first inner_words true words) u v k) h
layer makes fs g q p callees (Stmt-F.If test first second) formed words s t h =
    let one = stmts fs g q p first in
    let two = stmts fs g q p second in
    let formed1 = list_all (λ ok. ok) (map (is_well_formed_statement fs g.names) one) in
    let formed2 = list_all (λ ok. ok) (map (is_well_formed_statement fs g.names) two) in
    let words1 = list_all (λ ok. ok) (map (throughout words_fit) one) in
    let words2 = list_all (λ ok. ok) (map (throughout words_fit) two) in
    let l = layer-facts g.names [] (test_names test) true (formed1 && (formed2 && true)) formed in
    if-follows g q test (joined (map (spilled g.layout) one)) (joined (map (spilled g.layout) two))
    (in_turn (map (run forgets_none p) one)) (in_turn (map (run forgets_none p) two)) s t l.reads
    (λ u v k. known-all fs g q p first (and-first formed1 (formed2 && true) l.inner)
    (and-first words1 (words2 && true) words) u v k)
    (λ u v k. known-all fs g q p second (and-first formed2 true (and-second formed1 (formed2 && true) l.inner))
    (and-first words2 true (and-second words1 (words2 && true) words)) u v k) h
layer makes fs g q p callees (Stmt-F.Loop first test last) formed words s t h =
    let one = stmts fs g q p first in
    let two = stmts fs g q p last in
    let formed1 = list_all (λ ok. ok) (map (is_well_formed_statement fs g.names) one) in
    let formed2 = list_all (λ ok. ok) (map (is_well_formed_statement fs g.names) two) in
    let words1 = list_all (λ ok. ok) (map (throughout words_fit) one) in
    let words2 = list_all (λ ok. ok) (map (throughout words_fit) two) in
    let l = layer-facts g.names [] (test_names test) true (formed1 && (formed2 && true)) formed in
    loop-follows g q test (joined (map (spilled g.layout) one)) (joined (map (spilled g.layout) two))
    (in_turn (map (run forgets_none p) one)) (in_turn (map (run forgets_none p) two)) l.reads
    (λ u v k. known-all fs g q p first (and-first formed1 (formed2 && true) l.inner)
    (and-first words1 (words2 && true) words) u v k)
    (λ u v k. known-all fs g q p last (and-first formed2 true (and-second formed1 (formed2 && true) l.inner))
    (and-first words2 true (and-second words1 (words2 && true) words)) u v k) s t h
layer makes fs g q p callees (Stmt-F.Call xs n ys) formed words s t h =
    let counts = counts_fit (slice_get fs n) (length xs) (length ys) in
    let l = layer-facts g.names xs ys (counts && all_differ xs) true formed in
    call-follows fs g q p callees xs n ys s t l.writes l.reads (and-first counts (all_differ xs) l.fit) h
layer makes fs g q p callees (Stmt-F.Read x y) formed words s t h =
    let l = layer-facts g.names (x ∷ []) (y ∷ []) true true formed in
    read-follows g q x y s t (head-below g.names x [] l.writes) (head-below g.names y [] l.reads) h
layer makes fs g q p callees (Stmt-F.Write y z) formed words s t h =
    let l = layer-facts g.names [] (y ∷ z ∷ []) true true formed in
    write-follows g q y z s t (head-below g.names y (z ∷ []) l.reads)
    (head-below g.names z [] (tail-below g.names y (z ∷ []) l.reads)) h

pub statement-follows : MakesWords → (fs : List FlatFunc) (g : Scene) (q p : Callee) → CalleesFollow fs q p → (c : Stmt)
    → StatementFollows fs g q p c
statement-follows makes fs g q p callees = ind-Stmt (StatementFollows fs g q p) (λ x y is formed words s t h.
    let are_formed = fold-roll-Stmt Bool (well fs g.names) x in
    let are_words = fold-roll-Stmt Bool fit x in
    let flat = fold-roll-Stmt (List Stmt) (spilled_step g.layout) x in
    let does_it = fold-roll-Stmt (State → Run) (statement_step forgets_none p) x in
    let step = subst (LayerFollows fs g q p) is (layer makes fs g q p callees y) (sym are_formed ∙ formed)
    (sym are_words ∙ words) s t h in
    let one = subst (λ b. Follows (At g) (does q b s)
    (λ ds. statement_step forgets_none p (map-Stmt Stmt (State → Run) (run forgets_none p) x) (given t ds)))
    (sym flat) step in
    subst (λ f. Follows (At g) (does q (spilled g.layout (roll-Stmt x)) s) (λ ds. f (given t ds))) (sym does_it) one)

pub statements-follow : MakesWords → (fs : List FlatFunc) (g : Scene) (q p : Callee) → CalleesFollow fs q p
    → (cs : List Stmt)
    → list_all (is_well_formed_statement fs g.names) cs ≡ true → list_all (throughout words_fit) cs ≡ true
    → (s t : State) → At g s t
    → Follows (At g) (does q (joined (map (spilled g.layout) cs)) s) (λ ds. run_all forgets_none p cs (given t ds))
statements-follow makes fs g q p callees [] formed words s t h = follows-goes (At g) s t h
statements-follow makes fs g q p callees (c ∷ cs) formed words s t h =
    let one = is_well_formed_statement fs g.names c in
    let rest = list_all (is_well_formed_statement fs g.names) cs in
    let two = throughout words_fit c in
    let others = list_all (throughout words_fit) cs in
    let body = joined (map (spilled g.layout) cs) in
    follows-from (At g) (does q (spilled g.layout c ++ body) s) (then_do (does q (spilled g.layout c) s) (does q body))
    (λ ds. then_do (run forgets_none p c (given t ds)) (run_all forgets_none p cs))
    (does-append q (spilled g.layout c) body s)
    (follows-then (At g) (At g) (does q (spilled g.layout c) s) (λ ds. run forgets_none p c (given t ds)) (does q body)
    (run_all forgets_none p cs)
    (statement-follows makes fs g q p callees c (and-first one rest formed) (and-first two others words) s t h)
    (λ u v k.
    statements-follow makes fs g q p callees cs (and-second one rest formed) (and-second two others words) u v k))
