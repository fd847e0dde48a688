-- Two runs of a flat program from states that differ by what the second has more.
use Rattle.std.proofs.Common.{ℕ, zero, suc, ◌+◌, ◌≤◌, ◌==◌, List, [], ◌∷◌, map, Option}
use Rattle.std.proofs.Common.{Some, None, inl, refl, sym, subst, arith, slice_get}
use Rattle.br_words.specs.Size.{size_of}
use Rattle.br_words.specs.Words.{value_of_op}
use Rattle.br_bytes.specs.Memory.{get_number, put_number}
use Rattle.br_bytes.specs.Buffers.{table_number}
use Rattle.br_bytes.specs.Left.{OnlyTakes}
use Rattle.br_bytes.specs.Runs.{Goes, then_do, in_turn, with_defined, choose}
use Rattle.br_bytes.specs.Runs.{with_fuel, loop, read_device, write_device, back_in}
use Rattle.br_bytes.proofs.Leaves.{Takes, leaves-then_do, leaves-loop, leaves-back_in}
use Rattle.br_bytes.proofs.Widens.{More, widen, AlikeCalls, AreAlike, CalleesAlike, alike-then_do, alike-with_defined}
use Rattle.br_bytes.proofs.Widens.{alike-choose, alike-with_fuel, fuel-goes, alike-loop, alike-with_buffer}
use Rattle.br_bytes.proofs.Widens.{alike-read_device, alike-write_device, alike-back_in, alike-returned}
use Rattle.br_flatimp.specs.declared.program.Stmt.{Stmt, map-Stmt}
use Rattle.br_flatimp.specs.declared.program.Stmt.TheOpen.{Stmt-F}
use Rattle.br_flatimp.specs.declared.program.Stmt.TheViews.{roll-Stmt}
use Rattle.br_flatimp.specs.declared.program.Stmt.TheFolds.{fold-roll-Stmt, ind-Stmt}
use Rattle.br_flatimp.specs.declared.program.FlatFunc.{FlatFunc}
use Rattle.br_flatimp.specs.Values.{Locals, no_locals, with_local, with_locals}
use Rattle.br_flatimp.specs.Values.{without_names, words_of, operand_word, moved, test_word}
use Rattle.br_flatimp.specs.Runs.{State, Run, Callee, Forgets, set_to, statement_step}
use Rattle.br_flatimp.specs.Runs.{run, run_all, run_function, enter, function_of}
use Rattle.br_flatimp.proofs.Leaves.{leaves-run, leaves-run_all, leaves-function_of}

-- two runs in turn are alike where each is
alike-both : (m : More) (n : ℕ) (f g f2 g2 : State → Run) → AreAlike m n f f2 → AreAlike m n g g2 → Takes f → Takes g2
    → AreAlike m n (λ s. then_do (f s) g) (λ s. then_do (f2 s) g2)
alike-both m n f g f2 g2 h k takes takes_more s a =
    alike-then_do m (f s) (f2 (widen m s)) g g2 (h s a)
    (λ t goes. let less = fuel-goes s (f s) t (takes s) goes in k t (omega (arith, less)))
    takes_more

alike-each : (forgets : Forgets) (m : More) (n : ℕ) (call more : Callee) → OnlyTakes call → OnlyTakes more
    → (cs : List ((c : Stmt) × AreAlike m n (run forgets call c) (run forgets more c))) → AreAlike m n (in_turn
    (map (run forgets call) (map (λ e. e.0) cs))) (in_turn (map (run forgets more) (map (λ e. e.0) cs)))
alike-each forgets m n call more takes takes_more [] s a = refl
alike-each forgets m n call more takes takes_more (e ∷ cs) s a =
    alike-both m n (run forgets call e.0) (in_turn (map (run forgets call) (map (λ e. e.0) cs))) (run forgets more e.0)
    (in_turn (map (run forgets more) (map (λ e. e.0) cs)))
    e.1 (alike-each forgets m n call more takes takes_more cs) (leaves-run forgets call takes e.0)
    (leaves-run_all forgets more takes_more (map (λ e. e.0) cs)) s a

alike-step : (forgets : Forgets) (m : More) (n : ℕ) (call more : Callee) → OnlyTakes call → OnlyTakes more
    → CalleesAlike m n call more → (y : Stmt-F ((c : Stmt) × AreAlike m n (run forgets call c) (run forgets more c)))
    → AreAlike m n (statement_step forgets call (map-Stmt Stmt (State → Run) (run forgets call)
    (map-Stmt ((c : Stmt) × AreAlike m n (run forgets call c) (run forgets more c)) Stmt (λ e. e.0) y)))
    (statement_step forgets more (map-Stmt Stmt (State → Run) (run forgets more)
    (map-Stmt ((c : Stmt) × AreAlike m n (run forgets call c) (run forgets more c)) Stmt (λ e. e.0) y)))
alike-step forgets m n call more takes takes_more h (Stmt-F.Lit x v) s a = refl
alike-step forgets m n call more takes takes_more h (Stmt-F.Copy x y) s a =
    alike-with_defined m (s.locals y) s (λ v. Goes (set_to x v s)) (λ v. Goes (set_to x v (widen m s))) (λ v. refl)
alike-step forgets m n call more takes takes_more h (Stmt-F.Op x op y z) s a =
    let put : State → ℕ → ℕ → Run = λ t a b. Goes (set_to x (value_of_op op a b) t) in
    let both : State → ℕ → Run = λ t a. with_defined (operand_word z t.locals) t (put t a) in
    alike-with_defined m (s.locals y) s (both s) (both (widen m s)) (λ a.
    alike-with_defined m (operand_word z s.locals) s (put s a) (put (widen m s) a) (λ b. refl))
alike-step forgets m n call more takes takes_more h (Stmt-F.Load x size y offset) s a =
    let put : State → ℕ → Run = λ t v. Goes (set_to x v t) in
    let both : State → ℕ → Run = λ t a. with_defined (get_number t.memory (moved a offset) (size_of size)) t (put t) in
    alike-with_defined m (s.locals y) s (both s) (both (widen m s)) (λ a.
    alike-with_defined m (get_number s.memory (moved a offset) (size_of size)) s (put s) (put (widen m s)) (λ v. refl))
alike-step forgets m n call more takes takes_more h (Stmt-F.Store size y z offset) s a =
    let put : State → ℕ → ℕ → Run = λ t a v.
    with_defined (put_number t.memory (moved a offset) (size_of size) v) t (λ m. Goes (record t { memory = m })) in
    let both : State → ℕ → Run = λ t a. with_defined (t.locals z) t (put t a) in
    alike-with_defined m (s.locals y) s (both s) (both (widen m s)) (λ a.
    alike-with_defined m (s.locals z) s (put s a) (put (widen m s) a) (λ v.
    alike-with_defined m (put_number s.memory (moved a offset) (size_of size) v) s (λ m. Goes (record s { memory = m }))
    (λ k. Goes (record (widen m s) { memory = k })) (λ k. refl)))
alike-step forgets m n call more takes takes_more h (Stmt-F.Table x size bytes y) s a =
    let put : State → ℕ → Run = λ t v. Goes (set_to x v t) in
    let both : State → ℕ → Run = λ t i. with_defined (table_number bytes i (size_of size)) t (put t) in
    alike-with_defined m (s.locals y) s (both s) (both (widen m s)) (λ i.
    alike-with_defined m (table_number bytes i (size_of size)) s (put s) (put (widen m s)) (λ v. refl))
alike-step forgets m n call more takes takes_more h (Stmt-F.Stackalloc x size body) s a =
    alike-with_buffer m n (with_local x) size (in_turn (map (run forgets call) (map (λ e. e.0) body)))
    (in_turn (map (run forgets more) (map (λ e. e.0) body)))
    (alike-each forgets m n call more takes takes_more body)
    (leaves-run_all forgets more takes_more (map (λ e. e.0) body)) s a
alike-step forgets m n call more takes takes_more h (Stmt-F.If test first second) s a =
    let one : Callee → State → Run = λ f. in_turn (map (run forgets f) (map (λ e. e.0) first)) in
    let two : Callee → State → Run = λ f. in_turn (map (run forgets f) (map (λ e. e.0) second)) in
    alike-with_defined m (test_word test s.locals) s (λ v. choose (v == 0) (two call s) (one call s))
    (λ v. choose (v == 0) (two more (widen m s)) (one more (widen m s))) (λ v.
    alike-choose m (v == 0) (two call s) (one call s) (two more (widen m s)) (one more (widen m s))
    (alike-each forgets m n call more takes takes_more second s a)
    (alike-each forgets m n call more takes takes_more first s a))
alike-step forgets m n call more takes takes_more h (Stmt-F.Loop first test last) s a =
    let one : Callee → State → Run = λ f. in_turn (map (run forgets f) (map (λ e. e.0) first)) in
    let two : Callee → State → Run = λ f. in_turn (map (run forgets f) (map (λ e. e.0) last)) in
    let turn : Callee → State → Run = λ f u. then_do (two f u) (one f) in
    let takes_one : (f : Callee) → OnlyTakes f → Takes (one f) =
    λ f k. leaves-run_all forgets f k (map (λ e. e.0) first) in
    let takes_two : (f : Callee) → OnlyTakes f → Takes (two f) =
    λ f k. leaves-run_all forgets f k (map (λ e. e.0) last) in
    let takes_turn : (f : Callee) → OnlyTakes f → Takes (turn f) =
    λ f k u. leaves-then_do u (two f u) (one f) (takes_two f k u) (takes_one f k) in
    let again : Callee → State → Run = λ f t. loop t.fuel (λ u. test_word test u.locals) (turn f) t in
    let loops : AreAlike m n (again call) (again more) =
    λ t b. alike-loop m n t.fuel (t.fuel + m.fuel) (λ l k. test_word test l) (turn call) (turn more)
    (alike-both m n (two call) (one call) (two more) (one more) (alike-each forgets m n call more takes takes_more last)
    (alike-each forgets m n call more takes takes_more first) (takes_two call takes) (takes_one more takes_more))
    (takes_turn call takes) (takes_turn more takes_more) t b (omega arith) (omega arith) in
    alike-both m n (one call) (again call) (one more) (again more)
    (alike-each forgets m n call more takes takes_more first) loops (takes_one call takes)
    (λ t. leaves-loop t.fuel (λ u. test_word test u.locals) (turn more) (takes_turn more takes_more) t) s a
alike-step forgets m n call more takes takes_more h (Stmt-F.Call xs g ys) s a =
    let before : Locals = without_names (forgets g) s.locals in
    let inside : Callee → List ℕ → State → Run = λ f vs t. back_in (with_locals xs) before (f g vs t) in
    alike-with_defined m (words_of ys s.locals) s (λ vs. with_fuel s (inside call vs))
    (λ vs. with_fuel (widen m s) (inside more vs)) (λ vs.
    alike-with_fuel m s (inside call vs) (inside more vs)
    (λ k is.
    let now : State = record s { fuel = k } in
    alike-back_in m (with_locals xs) before (call g vs now) (more g vs (widen m now)) (h g vs now (omega arith)))
    (λ t. leaves-back_in t (with_locals xs) before (more g vs t) (takes_more g vs t)))
alike-step forgets m n call more takes takes_more h (Stmt-F.Read x y) s a =
    alike-with_defined m (s.locals y) s (λ a. read_device (with_local x) a s)
    (λ a. read_device (with_local x) a (widen m s)) (λ a. alike-read_device m (with_local x) a s)
alike-step forgets m n call more takes takes_more h (Stmt-F.Write y z) s a =
    let put : State → ℕ → ℕ → Run = λ t a v. write_device a v t in
    let both : State → ℕ → Run = λ t a. with_defined (t.locals z) t (put t a) in
    alike-with_defined m (s.locals y) s (both s) (both (widen m s)) (λ a.
    alike-with_defined m (s.locals z) s (put s a) (put (widen m s) a) (λ v. alike-write_device m a v s))

pub alike-run : (forgets : Forgets) (m : More) (n : ℕ) (call more : Callee) → OnlyTakes call → OnlyTakes more
    → CalleesAlike m n call more → (c : Stmt) → AreAlike m n (run forgets call c) (run forgets more c)
alike-run forgets m n call more takes takes_more h =
    ind-Stmt (λ c. AreAlike m n (run forgets call c) (run forgets more c)) (λ x y is.
    let step = subst (λ z. AreAlike m n (statement_step forgets call (map-Stmt Stmt (State → Run) (run forgets call) z))
    (statement_step forgets more (map-Stmt Stmt (State → Run) (run forgets more) z))) is
    (alike-step forgets m n call more takes takes_more h y) in
    let one = subst
    (λ f. AreAlike m n f (statement_step forgets more (map-Stmt Stmt (State → Run) (run forgets more) x)))
    (sym (fold-roll-Stmt (State → Run) (statement_step forgets call) x)) step in
    subst (λ f. AreAlike m n (run forgets call (roll-Stmt x)) f)
    (sym (fold-roll-Stmt (State → Run) (statement_step forgets more) x)) one)

pub alike-run_all : (forgets : Forgets) (m : More) (n : ℕ) (call more : Callee) → OnlyTakes call → OnlyTakes more
    → CalleesAlike m n call more → (cs : List Stmt) → AreAlike m n (run_all forgets call cs) (run_all forgets more cs)
alike-run_all forgets m n call more takes takes_more h [] s a = refl
alike-run_all forgets m n call more takes takes_more h (c ∷ cs) s a =
    alike-both m n (run forgets call c) (run_all forgets call cs) (run forgets more c) (run_all forgets more cs)
    (alike-run forgets m n call more takes takes_more h c) (alike-run_all forgets m n call more takes takes_more h cs)
    (leaves-run forgets call takes c) (leaves-run_all forgets more takes_more cs) s a

-- functions

pub alike-run_function : (forgets : Forgets) (m : More) (n : ℕ) (call more : Callee) → OnlyTakes call
    → OnlyTakes more → CalleesAlike m n call more → (f : FlatFunc) (args : List ℕ) (s : State) → s.fuel ≤ n
    → AlikeCalls m (run_function forgets call f args s) (run_function forgets more f args (widen m s))
alike-run_function forgets m n call more takes takes_more h f args s a =
    let inside : State = record s { locals = with_locals f.args args no_locals } in
    alike-returned m (words_of f.results) (run_all forgets call f.body inside) (run_all forgets more f.body
    (widen m inside)) (alike-run_all forgets m n call more takes takes_more h f.body inside a)

pub alike-enter : (forgets : Forgets) (m : More) (n : ℕ) (call more : Callee) → OnlyTakes call
    → OnlyTakes more → CalleesAlike m n call more → (o : Option FlatFunc) (args : List ℕ) (s : State) → s.fuel ≤ n
    → AlikeCalls m (enter forgets call o args s) (enter forgets more o args (widen m s))
alike-enter forgets m n call more takes takes_more h None args s a = inl refl
alike-enter forgets m n call more takes takes_more h (Some f) args s a =
    alike-run_function forgets m n call more takes takes_more h f args s a

-- at two depths, each above the fuel that its run has
pub alike-deeper : (forgets : Forgets) (m : More) (fs : List FlatFunc) (low high : ℕ) → low + m.fuel ≤ high
    → CalleesAlike m low (function_of forgets fs low) (function_of forgets fs high)
alike-deeper forgets m fs zero high a g args s less = absurd (omega arith)
alike-deeper forgets m fs (suc low) zero a g args s less = absurd (omega arith)
alike-deeper forgets m fs (suc low) (suc high) a g args s less =
    alike-enter forgets m low (function_of forgets fs low)
    (function_of forgets fs high) (leaves-function_of forgets fs low) (leaves-function_of forgets fs high)
    (alike-deeper forgets m fs low high (omega arith)) (slice_get fs g) args s (omega arith)

-- at one depth
pub alike-function_of : (forgets : Forgets) (m : More) (fs : List FlatFunc) (depth n : ℕ)
    → CalleesAlike m n (function_of forgets fs depth) (function_of forgets fs depth)
alike-function_of forgets m fs zero n g args s less = inl refl
alike-function_of forgets m fs (suc depth) n g args s less =
    alike-enter forgets m n (function_of forgets fs depth)
    (function_of forgets fs depth) (leaves-function_of forgets fs depth) (leaves-function_of forgets fs depth)
    (alike-function_of forgets m fs depth n) (slice_get fs g) args s (omega arith)
