-- Statements and lists of them, in code: the induction over their parts.
use Rattle.std.proofs.Common.{false, ◌||◌, ◌≡◌, ℕ, ◌+◌, ◌%◌, ◌≤◌, ◌==◌, ◌&&◌, max, Bool, true, IsTrue}
use Rattle.std.proofs.Common.{List, [], ◌∷◌, ◌++◌, map, length, sum, refl, sym, subst, ◌∙◌, arith}
use Rattle.std.specs.List.{list_all, fold}
use Rattle.std.proofs.lemmas.Bool.Decides.{nat_tests}
use Rattle.br_bytes.specs.Runs.{Goes, in_turn}
use Rattle.br_flatimp.specs.declared.program.Stmt.{Stmt, map-Stmt, roll-Stmt}
use Rattle.br_flatimp.specs.declared.program.Stmt.TheOpen.{Stmt-F}
use Rattle.br_flatimp.specs.declared.program.Stmt.TheFolds.{fold-roll-Stmt, ind-Stmt}
use Rattle.br_flatimp.specs.declared.program.FlatFunc.{FlatFunc}
use Rattle.br_flatimp.specs.Parts.{parts, throughout}
use Rattle.br_flatimp.specs.WellFormed.{are_registers}
use Rattle.br_flatimp.specs.Sizes.{words_for, own_words, statement_bulk, own_bytes, statement_nest, largest}
use Rattle.br_flatimp.specs.Runs.{State, Run, Forgets, Callee, statement_step, run}
use Rattle.br_emit.specs.Code.{Item, Targets, in_turn_items, statement_items, items_of}
pub use Rattle.br_emit.specs.Laid.{is_fine}
use Rattle.br_emit.proofs.Stepping.{at}
use Rattle.br_emit.proofs.Pieces.{Ground, kept_refl, Shown, On, Simulates, followed, simulates_then}
use Rattle.br_emit.proofs.Leaves.{both, Touches, lit_simulates, copy_simulates, op_simulates}
use Rattle.br_emit.proofs.Accesses.{load_simulates, store_simulates}
use Rattle.br_emit.proofs.Devices.{read_simulates, write_simulates}
use Rattle.br_emit.proofs.Tables.{table_simulates}
use Rattle.br_emit.proofs.Control.{if_simulates}
use Rattle.br_emit.proofs.Looping.{loop_simulates}
use Rattle.br_emit.proofs.Buffers.{buffer_simulates}

-- ---- what is asked of a statement

-- what a call is, in code
abbrev pub CallSimulates : Ground → Targets → Forgets → Callee → List FlatFunc → Type 0
CallSimulates g targets forgets call fs =
    (xs ys : List ℕ) (f : ℕ) → IsTrue (is_fine {X = State → Run} fs g.touched g.called (Stmt-F.Call xs f ys))
    → Simulates g (statement_step forgets call (Stmt-F.Call xs f ys))
    (statement_items targets (Stmt-F.Call xs f ys)) 0 2

-- a smaller nest is asked, and more steps are allowed
simulates_wider : (g : Ground) (f : State → Run) (is : ℕ → List Item) (nest nest' bulk bulk' : ℕ) → nest ≤ nest'
    → bulk ≡ bulk' → Simulates g f is nest bulk → Simulates g f is nest' bulk'
simulates_wider g f is nest nest' bulk bulk' less same sim free j s registers ram room multiple inside deep placed
    ready stands =
    subst (λ k. Shown g f s (at g.code j registers ram s.answers s.trace) ram (g.sp + free) (j + length (is free)) k)
    same (sim free j s registers ram (omega arith) multiple inside deep placed ready stands)

-- ---- lists

fold_from : (a : ℕ) (xs : List ℕ) → fold ◌+◌ a xs ≡ a + sum xs
fold_from a [] = omega arith
fold_from a (x ∷ xs) = fold_from (a + x) xs ∙ (let e = fold_from (0 + x) xs in omega (arith, e))

pub sum_cons : (x : ℕ) (xs : List ℕ) → sum (x ∷ xs) ≡ x + sum xs
sum_cons x xs = fold_from (0 + x) xs ∙ omega arith

-- statements in turn, each with its fact beside it
abbrev Claim : Ground → Targets → Forgets → Callee → List FlatFunc → Stmt → Type 0
Claim g targets forgets call fs st =
    IsTrue (throughout (is_fine fs g.touched g.called) st) → statement_bulk st ≤ g.total
    → Simulates g (run forgets call st) (items_of targets st) (statement_nest st) (statement_bulk st)

abbrev Claimed : Ground → Targets → Forgets → Callee → List FlatFunc → Type 0
Claimed g targets forgets call fs = (st : Stmt) × Claim g targets forgets call fs st

nothing_simulates : (g : Ground) → Simulates g Goes (λ free. []) 0 0
nothing_simulates g free j s registers ram room multiple inside deep placed ready stands =
    let here : j ≡ j + 0 = omega arith in
    subst (λ e. Shown g Goes s (at g.code j registers ram s.answers s.trace) ram (g.sp + free) e 0) here (On (record {
      choices = [];
      chosen = tt;
      after = s;
      goes = λ rest. refl;
      registers = registers;
      ram' = ram;
      steps = 0;
      runs = refl;
      ready = ready;
      stands = stands;
      untouched = λ y low out. refl;
      kept = kept_refl (g.sp + free) s.memory ram;
      paced = record { takes = omega arith; least = omega arith; most = omega arith };
    }))

each_simulates : (g : Ground) (targets : Targets) (forgets : Forgets) (call : Callee) (fs : List FlatFunc)
    (cs : List (Claimed g targets forgets call fs))
    → IsTrue (list_all (λ ok. ok) (map (throughout (is_fine fs g.touched g.called)) (map (λ e. e.0) cs)))
    → sum (map statement_bulk (map (λ e. e.0) cs)) ≤ g.total
    → Simulates g (in_turn (map (run forgets call) (map (λ e. e.0) cs)))
    (in_turn_items (map (items_of targets) (map (λ e. e.0) cs)))
    (largest (map statement_nest (map (λ e. e.0) cs))) (sum (map statement_bulk (map (λ e. e.0) cs)))
each_simulates g targets forgets call fs [] fine room = nothing_simulates g
each_simulates g targets forgets call fs (e ∷ cs) fine room =
    let added = sum_cons (statement_bulk e.0) (map statement_bulk (map (λ e. e.0) cs)) in
    let two = both (throughout (is_fine fs g.touched g.called) e.0)
    (list_all (λ ok. ok) (map (throughout (is_fine fs g.touched g.called)) (map (λ e. e.0) cs))) fine in
    let first : State → Run = run forgets call e.0 in
    let rest : State → Run = in_turn (map (run forgets call) (map (λ e. e.0) cs)) in
    let nest1 = statement_nest e.0 in
    let nest2 = largest (map statement_nest (map (λ e. e.0) cs)) in
    let bulk1 = statement_bulk e.0 in
    let bulk2 = sum (map statement_bulk (map (λ e. e.0) cs)) in
    simulates_wider g (followed first rest)
    (λ free. items_of targets e.0 free ++ in_turn_items (map (items_of targets) (map (λ e. e.0) cs)) free)
    (max nest1 nest2) (max nest1 nest2) (bulk1 + bulk2) (sum (map statement_bulk (map (λ e. e.0) (e ∷ cs))))
    (omega arith) (sym added)
    (simulates_then g first rest (items_of targets e.0) (in_turn_items (map (items_of targets) (map (λ e. e.0) cs)))
    nest1 nest2 bulk1 bulk2
    (e.1 two.0 (omega arith)) (each_simulates g targets forgets call fs cs two.1 (omega arith)))

-- ---- one statement, given the parts

-- what holds of a layer of a statement
abbrev LayerClaim : Ground → Targets → Forgets → Callee → List FlatFunc → Stmt-F Stmt → Type 0
LayerClaim g targets forgets call fs z =
    (let oks = map-Stmt Stmt Bool (throughout (is_fine fs g.touched g.called)) z in
    IsTrue (is_fine fs g.touched g.called oks && list_all (list_all (λ ok. ok)) (parts oks)))
    → (let bulks = map-Stmt Stmt ℕ statement_bulk z in own_words bulks + sum (map sum (parts bulks)) ≤ g.total)
    → Simulates g (statement_step forgets call (map-Stmt Stmt (State → Run) (run forgets call) z))
    (statement_items targets (map-Stmt Stmt (ℕ → List Item) (items_of targets) z))
    (let nests = map-Stmt Stmt ℕ statement_nest z in own_bytes nests + largest (map largest (parts nests)))
    (let bulks = map-Stmt Stmt ℕ statement_bulk z in own_words bulks + sum (map sum (parts bulks)))

record Fine (writes reads passes values touches calls link parts : Bool) : Type 0 where
  written : IsTrue writes
  readable : IsTrue reads
  passing : IsTrue passes
  fitting : IsTrue values
  touching : IsTrue touches
  calling : IsTrue calls
  linking : IsTrue link
  inside : IsTrue parts

fine : (a b c d e f l p : Bool) → IsTrue ((((((a && b && c) && d) && e) && f) && l) && p) → Fine a b c d e f l p
fine a b c d e f l p h =
    let h0 = both (((((a && b && c) && d) && e) && f) && l) p h in
    let h1 = both ((((a && b && c) && d) && e) && f) l h0.0 in
    let h2 = both (((a && b && c) && d) && e) f h1.0 in
    let h3 = both ((a && b && c) && d) e h2.0 in
    let h4 = both (a && b && c) d h3.0 in
    let h5 = both (a && b) c h4.0 in
    let h6 = both a b h5.0 in
    record {
      written = h6.0;
      readable = h6.1;
      passing = h5.1;
      fitting = h4.1;
      touching = h3.1;
      calling = h2.1;
      linking = h1.1;
      inside = h0.1;
    }

pub or_false : (b : Bool) → IsTrue (b || false) → b ≡ true
or_false true h = refl
or_false false h = absurd (cc)

-- the one name that is written
one_touched : (g : Ground) (x : ℕ) → IsTrue (list_all g.touched (x ∷ [])) → Touches g x
one_touched g x h = (both (g.touched x) true h).0

layer : (g : Ground) (targets : Targets) (forgets : Forgets) (call : Callee) (fs : List FlatFunc)
    → CallSimulates g targets forgets call fs
    → (y : Stmt-F (Claimed g targets forgets call fs))
    → LayerClaim g targets forgets call fs (map-Stmt (Claimed g targets forgets call fs) Stmt (λ e. e.0) y)
layer g targets forgets call fs calls (Stmt-F.Lit x n) ok room =
    let f = fine (are_registers (x ∷ [])) true true true (list_all g.touched (x ∷ [])) true _ true ok in
    lit_simulates g targets forgets call x n f.written (one_touched g x f.touching)
layer g targets forgets call fs calls (Stmt-F.Copy x y) ok room =
    let f = fine (are_registers (x ∷ [])) (are_registers (y ∷ [])) true true (list_all g.touched (x ∷ []))
    true _ true ok in
    copy_simulates g targets forgets call x y f.written (one_touched g x f.touching) f.readable
layer g targets forgets call fs calls (Stmt-F.Op x o y z) ok room =
    let f = fine (are_registers (x ∷ [])) _ true _ (list_all g.touched (x ∷ [])) true _ true ok in
    op_simulates g targets forgets call x o y z f.written (one_touched g x f.touching) f.readable f.fitting
layer g targets forgets call fs calls (Stmt-F.Load x size y offset) ok room =
    let f = fine (are_registers (x ∷ [])) (are_registers (y ∷ [])) true _ (list_all g.touched (x ∷ []))
    true _ true ok in
    load_simulates g targets forgets call x size y offset f.written (one_touched g x f.touching) f.readable
layer g targets forgets call fs calls (Stmt-F.Store size y z offset) ok room =
    let f = fine true (are_registers (y ∷ z ∷ [])) true _ true true _ true ok in
    store_simulates g targets forgets call size y z offset f.readable
layer g targets forgets call fs calls (Stmt-F.Table x size bytes y) ok room =
    let f = fine (are_registers (x ∷ [])) (are_registers (y ∷ [])) true true (list_all g.touched (x ∷ []))
    true _ true ok in
    simulates_wider g (statement_step forgets call (Stmt-F.Table x size bytes y))
    (statement_items targets (Stmt-F.Table x size bytes y)) 0 0 (4 + words_for (length bytes))
    (4 + words_for (length bytes) + 0) (omega arith) (omega arith)
    (table_simulates g targets forgets call x size bytes y f.written (one_touched g x f.touching)
    (or_false (g.touched 1) f.linking) f.readable)
layer g targets forgets call fs calls (Stmt-F.Stackalloc x n body) ok room =
    let f = fine (are_registers (x ∷ [])) true true (n % 4 == 0) (list_all g.touched (x ∷ [])) true _ _ ok in
    let inner = both _ true f.inside in
    let fours : n % 4 ≡ 0 = (let h = f.fitting in grind (arith, nat_tests)) in
    let part = each_simulates g targets forgets call fs body inner.0 (omega arith) in
    simulates_wider g _ _ _ _ _ _ (omega arith) (omega arith)
    (buffer_simulates g x n (in_turn (map (run forgets call) (map (λ e. e.0) body))) (in_turn_items
    (map (items_of targets) (map (λ e. e.0) body))) _ _ f.written (one_touched g x f.touching) fours part)
layer g targets forgets call fs calls (Stmt-F.If test first second) ok room =
    let f = fine true _ true true true true _ _ ok in
    let inner = both _ _ f.inside in
    let more = both _ true inner.1 in
    let part1 = each_simulates g targets forgets call fs first inner.0 (omega arith) in
    let part2 = each_simulates g targets forgets call fs second more.0 (omega arith) in
    simulates_wider g _ _ _ _ _ _ (omega arith) (omega arith)
    (if_simulates g test (in_turn (map (run forgets call) (map (λ e. e.0) first)))
    (in_turn (map (run forgets call) (map (λ e. e.0) second)))
    (in_turn_items (map (items_of targets) (map (λ e. e.0) first)))
    (in_turn_items (map (items_of targets) (map (λ e. e.0) second))) _ _ _ _ f.readable part1 part2)
layer g targets forgets call fs calls (Stmt-F.Loop first test last) ok room =
    let f = fine true _ true true true true _ _ ok in
    let inner = both _ _ f.inside in
    let more = both _ true inner.1 in
    let part1 = each_simulates g targets forgets call fs first inner.0 (omega arith) in
    let part2 = each_simulates g targets forgets call fs last more.0 (omega arith) in
    simulates_wider g _ _ _ _ _ _ (omega arith) (omega arith)
    (loop_simulates g test (in_turn (map (run forgets call) (map (λ e. e.0) first)))
    (in_turn (map (run forgets call) (map (λ e. e.0) last)))
    (in_turn_items (map (items_of targets) (map (λ e. e.0) first)))
    (in_turn_items (map (items_of targets) (map (λ e. e.0) last))) _ _ _ _ f.readable part1 part2 (omega arith))
layer g targets forgets call fs calls (Stmt-F.Call xs h ys) ok room = calls xs ys h (both _ true ok).0
layer g targets forgets call fs calls (Stmt-F.Read x y) ok room =
    let f = fine (are_registers (x ∷ [])) (are_registers (y ∷ [])) true true (list_all g.touched (x ∷ []))
    true _ true ok in
    read_simulates g targets forgets call x y f.written (one_touched g x f.touching) f.readable
layer g targets forgets call fs calls (Stmt-F.Write y z) ok room =
    let f = fine true (are_registers (y ∷ z ∷ [])) true true true true _ true ok in
    write_simulates g targets forgets call y z f.readable

-- ---- all statements

simulates_as : (g : Ground) (f f' : State → Run) (is is' : ℕ → List Item) (n n' b b' : ℕ) → f ≡ f' → is ≡ is' → n ≡ n'
    → b ≡ b' → Simulates g f' is' n' b' → Simulates g f is n b
simulates_as g f f' is is' n n' b b' e1 e2 e3 e4 sim =
    subst (λ q. Simulates g f is n q) (sym e4) (subst (λ q. Simulates g f is q b') (sym e3)
    (subst (λ q. Simulates g f q n' b') (sym e2) (subst (λ q. Simulates g q is' n' b') (sym e1) sim)))

statement_simulates : (g : Ground) (targets : Targets) (forgets : Forgets) (call : Callee) (fs : List FlatFunc)
    → CallSimulates g targets forgets call fs
    → (st : Stmt) → Claim g targets forgets call fs st
statement_simulates g targets forgets call fs calls = ind-Stmt (Claim g targets forgets call fs) (λ x y is.
    let step : LayerClaim g targets forgets call fs x =
    subst (LayerClaim g targets forgets call fs) is (layer g targets forgets call fs calls y) in
    let bulks = fold-roll-Stmt ℕ (λ y. own_words y + sum (map sum (parts y))) x in
    λ ok room.
    simulates_as g (run forgets call (roll-Stmt x))
    (statement_step forgets call (map-Stmt Stmt (State → Run) (run forgets call) x))
    (items_of targets (roll-Stmt x)) (statement_items targets (map-Stmt Stmt (ℕ → List Item) (items_of targets) x))
    (statement_nest (roll-Stmt x))
    (let nests = map-Stmt Stmt ℕ statement_nest x in own_bytes nests + largest (map largest (parts nests)))
    (statement_bulk (roll-Stmt x))
    (let bulks = map-Stmt Stmt ℕ statement_bulk x in own_words bulks + sum (map sum (parts bulks)))
    (fold-roll-Stmt (State → Run) (statement_step forgets call) x)
    (fold-roll-Stmt (ℕ → List Item) (statement_items targets) x)
    (fold-roll-Stmt ℕ (λ y. own_bytes y + largest (map largest (parts y))) x) bulks
    (step (subst IsTrue
    (fold-roll-Stmt Bool (λ y. is_fine fs g.touched g.called y && list_all (list_all (λ ok. ok)) (parts y)) x) ok)
    (subst (λ b. b ≤ g.total) bulks room)))

pub all_simulate : (g : Ground) (targets : Targets) (forgets : Forgets) (call : Callee) (fs : List FlatFunc)
    → CallSimulates g targets forgets call fs
    → (body : List Stmt) → IsTrue (list_all (throughout (is_fine fs g.touched g.called)) body)
    → sum (map statement_bulk body) ≤ g.total
    → Simulates g (in_turn (map (run forgets call) body)) (in_turn_items (map (items_of targets) body))
    (largest (map statement_nest body)) (sum (map statement_bulk body))
all_simulate g targets forgets call fs calls [] ok room = nothing_simulates g
all_simulate g targets forgets call fs calls (st ∷ body) ok room =
    let added = sum_cons (statement_bulk st) (map statement_bulk body) in
    let two = both (throughout (is_fine fs g.touched g.called) st)
    (list_all (throughout (is_fine fs g.touched g.called)) body) ok in
    let first : State → Run = run forgets call st in
    let rest : State → Run = in_turn (map (run forgets call) body) in
    let nest1 = statement_nest st in
    let nest2 = largest (map statement_nest body) in
    let bulk1 = statement_bulk st in
    let bulk2 = sum (map statement_bulk body) in
    simulates_wider g (followed first rest)
    (λ free. items_of targets st free ++ in_turn_items (map (items_of targets) body) free) (max nest1 nest2)
    (max nest1 nest2) (bulk1 + bulk2) (sum (map statement_bulk (st ∷ body))) (omega arith) (sym added)
    (simulates_then g first rest (items_of targets st) (in_turn_items (map (items_of targets) body)) nest1
    nest2 bulk1 bulk2
    (statement_simulates g targets forgets call fs calls st two.0 (omega arith))
    (all_simulate g targets forgets call fs calls body two.1 (omega arith)))
