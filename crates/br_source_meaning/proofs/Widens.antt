-- Two runs of the source from states that differ by what the second has more.
use Rattle.std.proofs.Common.{ℕ, zero, suc, ◌+◌, ◌≤◌, ◌==◌, List, [], ◌∷◌, map, Option, Some, None, inl, refl, sym}
use Rattle.std.proofs.Common.{subst, codes, arith}
use Rattle.std.specs.Str.{bytes_eq}
use Rattle.br_words.specs.Size.{size_of}
use Rattle.br_bytes.specs.Memory.{put_number}
use Rattle.br_bytes.specs.Left.{OnlyTakes}
use Rattle.br_bytes.proofs.Leaves.{leaves-back_in}
use Rattle.br_bytes.proofs.Widens.{More, widen, AlikeCalls, Alike, AreAlike, CalleesAlike, alike-then_do}
use Rattle.br_bytes.proofs.Widens.{alike-with_defined, alike-choose, alike-with_fuel, fuel-goes, alike-loop}
use Rattle.br_bytes.proofs.Widens.{alike-with_buffer, alike-read_device, alike-write_device, alike-back_in}
use Rattle.br_bytes.proofs.Widens.{alike-returned}
use Rattle.br_syntax.specs.declared.program.Cmd.{Cmd, map-Cmd}
use Rattle.br_syntax.specs.declared.program.Func.{Func}
use Rattle.br_syntax.specs.declared.program.Cmd.TheOpen.{Cmd-F}
use Rattle.br_syntax.specs.declared.program.Cmd.TheViews.{roll-Cmd}
use Rattle.br_syntax.specs.declared.program.Cmd.TheFolds.{fold-roll-Cmd, ind-Cmd}
use Rattle.br_syntax.specs.Functions.{function_named}
use Rattle.br_source_meaning.specs.Values.{Name, no_locals, with_local, value, values}
use Rattle.br_source_meaning.specs.Runs.{State, Undefined, Run, Goes, Ends, in_turn, with_defined, choose, with_fuel}
use Rattle.br_source_meaning.specs.Runs.{set_to, read_by, write_by, interact, Callee, with_locals, back_in}
use Rattle.br_source_meaning.specs.Runs.{command_step, run, run_all}
use Rattle.br_source_meaning.specs.Calls.{words_of, run_function, enter, function_of}
use Rattle.br_source_meaning.proofs.Leaves.{leaves-run, leaves-run_all, leaves-function_of}

-- buffers

-- devices

alike-read_by : (m : More) (xs : List Name) (vs : List ℕ) (s : State)
    → Alike m (read_by xs vs s) (read_by xs vs (widen m s))
alike-read_by m [] vs s = inl refl
alike-read_by m (x ∷ []) [] s = inl refl
alike-read_by m (x ∷ []) (a ∷ []) s = alike-read_device m (with_local x) a s
alike-read_by m (x ∷ []) (a ∷ b ∷ vs) s = inl refl
alike-read_by m (x ∷ y ∷ xs) vs s = inl refl

alike-write_by : (m : More) (xs : List Name) (vs : List ℕ) (s : State)
    → Alike m (write_by xs vs s) (write_by xs vs (widen m s))
alike-write_by m [] [] s = inl refl
alike-write_by m [] (a ∷ []) s = inl refl
alike-write_by m [] (a ∷ v ∷ []) s = alike-write_device m a v s
alike-write_by m [] (a ∷ v ∷ w ∷ vs) s = inl refl
alike-write_by m (x ∷ xs) vs s = inl refl

pub alike-interact : (m : More) (xs : List Name) (action : Name) (vs : List ℕ) (s : State)
    → Alike m (interact xs action vs s) (interact xs action vs (widen m s))
alike-interact m xs action vs s =
    let write : State → Run = λ t. choose (bytes_eq action (codes "MMIOWRITE")) (write_by xs vs t) (Ends Undefined t) in
    alike-choose m (bytes_eq action (codes "MMIOREAD")) (read_by xs vs s) (write s) (read_by xs vs (widen m s))
    (write (widen m s)) (alike-read_by m xs vs s)
    (alike-choose m (bytes_eq action (codes "MMIOWRITE")) (write_by xs vs s) (Ends Undefined s)
    (write_by xs vs (widen m s)) (Ends Undefined (widen m s)) (alike-write_by m xs vs s) (inl refl))

-- calls

-- commands

alike-each : (m : More) (n : ℕ) (call more : Callee) → OnlyTakes call → OnlyTakes more
    → (cs : List ((c : Cmd) × AreAlike m n (run call c) (run more c)))
    → AreAlike m n (in_turn (map (run call) (map (λ e. e.0) cs))) (in_turn (map (run more) (map (λ e. e.0) cs)))
alike-each m n call more takes takes_more [] s a = refl
alike-each m n call more takes takes_more (e ∷ cs) s a =
    alike-then_do m (run call e.0 s) (run more e.0 (widen m s)) (in_turn (map (run call) (map (λ e. e.0) cs)))
    (in_turn (map (run more) (map (λ e. e.0) cs)))
    (e.1 s a)
    (λ t goes.
    let less = fuel-goes s (run call e.0 s) t (leaves-run call takes e.0 s) goes in
    alike-each m n call more takes takes_more cs t (omega (arith, less)))
    (leaves-run_all more takes_more (map (λ e. e.0) cs))

alike-step : (m : More) (n : ℕ) (call more : Callee) → OnlyTakes call → OnlyTakes more → CalleesAlike m n call more
    → (y : Cmd-F ((c : Cmd) × AreAlike m n (run call c) (run more c)))
    → AreAlike m n
    (command_step call
    (map-Cmd Cmd (State → Run) (run call)
    (map-Cmd ((c : Cmd) × AreAlike m n (run call c) (run more c)) Cmd (λ e. e.0) y)))
    (command_step more
    (map-Cmd Cmd (State → Run) (run more)
    (map-Cmd ((c : Cmd) × AreAlike m n (run call c) (run more c)) Cmd (λ e. e.0) y)))
alike-step m n call more takes takes_more h Cmd-F.Skip s a = refl
alike-step m n call more takes takes_more h (Cmd-F.Set x e) s a =
    alike-with_defined m (value s.locals s.memory e) s (λ v. Goes (set_to x v s)) (λ v. Goes (set_to x v (widen m s)))
    (λ v. refl)
alike-step m n call more takes takes_more h (Cmd-F.Unset x) s a = refl
alike-step m n call more takes takes_more h (Cmd-F.Store size e f) s a =
    let put : State → ℕ → ℕ → Run =
    λ t a v. with_defined (put_number t.memory a (size_of size) v) t (λ m. Goes (record t { memory = m })) in
    let both : State → ℕ → Run = λ t a. with_defined (value t.locals t.memory f) t (put t a) in
    alike-with_defined m (value s.locals s.memory e) s (both s) (both (widen m s)) (λ a.
    alike-with_defined m (value s.locals s.memory f) s (put s a) (put (widen m s) a) (λ v.
    alike-with_defined m (put_number s.memory a (size_of size) v) s (λ m. Goes (record s { memory = m }))
    (λ k. Goes (record (widen m s) { memory = k })) (λ k. refl)))
alike-step m n call more takes takes_more h (Cmd-F.Stackalloc x size body) s a =
    alike-with_buffer m n (with_local x) size (in_turn (map (run call) (map (λ e. e.0) body)))
    (in_turn (map (run more) (map (λ e. e.0) body)))
    (alike-each m n call more takes takes_more body) (leaves-run_all more takes_more (map (λ e. e.0) body)) s a
alike-step m n call more takes takes_more h (Cmd-F.If e first second) s a =
    let one : Callee → State → Run = λ f. in_turn (map (run f) (map (λ e. e.0) first)) in
    let two : Callee → State → Run = λ f. in_turn (map (run f) (map (λ e. e.0) second)) in
    alike-with_defined m (value s.locals s.memory e) s (λ v. choose (v == 0) (two call s) (one call s))
    (λ v. choose (v == 0) (two more (widen m s)) (one more (widen m s))) (λ v.
    alike-choose m (v == 0) (two call s) (one call s) (two more (widen m s)) (one more (widen m s))
    (alike-each m n call more takes takes_more second s a) (alike-each m n call more takes takes_more first s a))
alike-step m n call more takes takes_more h (Cmd-F.While e body) s a =
    let inside : Callee → State → Run = λ f. in_turn (map (run f) (map (λ e. e.0) body)) in
    alike-loop m n s.fuel (s.fuel + m.fuel) (λ l k. value l k e) (inside call) (inside more)
    (alike-each m n call more takes takes_more body)
    (leaves-run_all call takes (map (λ e. e.0) body)) (leaves-run_all more takes_more (map (λ e. e.0) body)) s a
    (omega arith) (omega arith)
alike-step m n call more takes takes_more h (Cmd-F.Seq body) s a = alike-each m n call more takes takes_more body s a
alike-step m n call more takes takes_more h (Cmd-F.Call at xs callee es) s a =
    let inside : Callee → List ℕ → State → Run = λ f vs t. back_in (with_locals xs) s.locals (f callee vs t) in
    alike-with_defined m (values s.locals s.memory es) s (λ vs. with_fuel s (inside call vs))
    (λ vs. with_fuel (widen m s) (inside more vs)) (λ vs.
    alike-with_fuel m s (inside call vs) (inside more vs)
    (λ k is.
    let now : State = record s { fuel = k } in
    alike-back_in m (with_locals xs) s.locals (call callee vs now) (more callee vs (widen m now))
    (h callee vs now (omega arith)))
    (λ t. leaves-back_in t (with_locals xs) s.locals (more callee vs t) (takes_more callee vs t)))
alike-step m n call more takes takes_more h (Cmd-F.Interact at xs action es) s a =
    alike-with_defined m (values s.locals s.memory es) s (λ vs. interact xs action vs s)
    (λ vs. interact xs action vs (widen m s)) (λ vs. alike-interact m xs action vs s)

pub alike-run : (m : More) (n : ℕ) (call more : Callee) → OnlyTakes call → OnlyTakes more → CalleesAlike m n call more
    → (c : Cmd) → AreAlike m n (run call c) (run more c)
alike-run m n call more takes takes_more h = ind-Cmd (λ c. AreAlike m n (run call c) (run more c)) (λ x y is.
    let step = subst (λ z. AreAlike m n (command_step call (map-Cmd Cmd (State → Run) (run call) z))
    (command_step more (map-Cmd Cmd (State → Run) (run more) z))) is (alike-step m n call more takes takes_more h y)
    in
    let one = subst (λ f. AreAlike m n f (command_step more (map-Cmd Cmd (State → Run) (run more) x)))
    (sym (fold-roll-Cmd (State → Run) (command_step call) x)) step in
    subst (λ f. AreAlike m n (run call (roll-Cmd x)) f) (sym (fold-roll-Cmd (State → Run) (command_step more) x)) one)

pub alike-run_all : (m : More) (n : ℕ) (call more : Callee) → OnlyTakes call → OnlyTakes more
    → CalleesAlike m n call more → (cs : List Cmd) → AreAlike m n (run_all call cs) (run_all more cs)
alike-run_all m n call more takes takes_more h [] s a = refl
alike-run_all m n call more takes takes_more h (c ∷ cs) s a =
    alike-then_do m (run call c s) (run more c (widen m s)) (run_all call cs) (run_all more cs)
    (alike-run m n call more takes takes_more h c s a)
    (λ t goes.
    let less = fuel-goes s (run call c s) t (leaves-run call takes c s) goes in
    alike-run_all m n call more takes takes_more h cs t (omega (arith, less)))
    (leaves-run_all more takes_more cs)

-- functions

pub alike-run_function : (m : More) (n : ℕ) (call more : Callee) → OnlyTakes call → OnlyTakes more
    → CalleesAlike m n call more → (f : Func) (args : List ℕ) (s : State) → s.fuel ≤ n
    → AlikeCalls m (run_function call f args s) (run_function more f args (widen m s))
alike-run_function m n call more takes takes_more h f args s a =
    let inside : State = record s { locals = with_locals f.args args no_locals } in
    alike-returned m (words_of f.results) (run_all call f.body inside) (run_all more f.body (widen m inside))
    (alike-run_all m n call more takes takes_more h f.body inside a)

pub alike-enter : (m : More) (n : ℕ) (call more : Callee) → OnlyTakes call → OnlyTakes more → CalleesAlike m n call more
    → (o : Option Func) (args : List ℕ) (s : State) → s.fuel ≤ n
    → AlikeCalls m (enter call o args s) (enter more o args (widen m s))
alike-enter m n call more takes takes_more h None args s a = inl refl
alike-enter m n call more takes takes_more h (Some f) args s a =
    alike-run_function m n call more takes takes_more h f args s a

-- at two depths, each above the fuel that its run has
pub alike-deeper : (m : More) (fs : List Func) (low high : ℕ) → low + m.fuel ≤ high
    → CalleesAlike m low (function_of fs low) (function_of fs high)
alike-deeper m fs zero high a f args s less = absurd (omega arith)
alike-deeper m fs (suc low) zero a f args s less = absurd (omega arith)
alike-deeper m fs (suc low) (suc high) a f args s less =
    alike-enter m low (function_of fs low) (function_of fs high) (leaves-function_of fs low)
    (leaves-function_of fs high) (alike-deeper m fs low high (omega arith)) (function_named fs f) args s
    (omega arith)

-- at one depth
pub alike-function_of : (m : More) (fs : List Func) (depth n : ℕ)
    → CalleesAlike m n (function_of fs depth) (function_of fs depth)
alike-function_of m fs zero n f args s less = inl refl
alike-function_of m fs (suc depth) n f args s less =
    alike-enter m n (function_of fs depth) (function_of fs depth) (leaves-function_of fs depth)
    (leaves-function_of fs depth) (alike-function_of m fs depth n) (function_named fs f) args s (omega arith)
