-- What a call of a flat program comes to where it is given more, and that larger bounds change nothing.
use Rattle.std.proofs.Common.{◌≡◌, ◌≢◌, ℕ, suc, ◌+◌, ◌-◌, ◌<◌, ◌≤◌, ◌==◌, List, ◌++◌, Option}
use Rattle.std.proofs.Common.{refl, sym, ap, subst, ◌∙◌, append-nil, arith, slice_get}
use Rattle.br_bytes.specs.declared.run.Choice.{Choice}
use Rattle.br_bytes.specs.declared.run.Outcome.TheVariants as outcome
use Rattle.br_bytes.specs.Memory.{Memory}
use Rattle.br_bytes.specs.Left.{BeginsWith, with_more, OnlyTakes, OutcomeStays, IsSameWithMore, IsSameCallWithMore}
use Rattle.br_bytes.specs.Runs.{Goes, Ends, then_do, with_defined, choose, with_fuel, loop}
use Rattle.br_bytes.proofs.Leaves.{Takes, leaves-then_do}
use Rattle.br_bytes.proofs.Widens.{More, widen, Alike, AlikeCalls, fuel-goes}
use Rattle.br_bytes.proofs.Given.{begins-seen, same-seen, fuel_more, lists_more, fuel_stays, widen-lists}
use Rattle.br_bytes.proofs.Given.{same-run, same-call, lists_stay, none, widen-none, same-alike_calls}
use Rattle.br_bytes.proofs.Given.{loop-bound, same-then_do, same-with_defined, same-spend}
use Rattle.br_flatimp.specs.declared.program.Cond.{Cond}
use Rattle.br_flatimp.specs.declared.program.Stmt.{Stmt}
use Rattle.br_flatimp.specs.declared.program.Stmt.TheOpen.{Stmt-F}
use Rattle.br_flatimp.specs.declared.program.Stmt.TheVariants.{Loop, rolls-Loop}
use Rattle.br_flatimp.specs.declared.program.Stmt.TheFolds.{fold-roll-Stmt}
use Rattle.br_flatimp.specs.declared.program.FlatFunc.{FlatFunc}
use Rattle.br_flatimp.specs.Values.{test_word}
use Rattle.br_flatimp.specs.Runs.{State, Run, Callee, Forgets, statement_step, run}
use Rattle.br_flatimp.specs.Runs.{run_all, enter, function_of, begin, call_forgetting}
use Rattle.br_flatimp.proofs.Leaves.{leaves-run_all, leaves-function_of}
use Rattle.br_flatimp.proofs.Widens.{alike-run, alike-run_all, alike-enter, alike-deeper, alike-function_of}

-- ---- more fuel

alike-fuel : (forgets : Forgets) (fs : List
    FlatFunc) (g : ℕ) (args : List ℕ) (m : Memory) (answers : List ℕ) (choices : List Choice) (j k : ℕ) → j ≤ k
    → AlikeCalls (fuel_more (k - j)) (enter forgets (function_of forgets fs j) (slice_get fs g) args (begin m answers
    choices j)) (enter forgets (function_of forgets fs k) (slice_get fs g) args (begin m answers choices k))
alike-fuel forgets fs g args m answers choices j k le =
    let sum : j + (k - j) ≡ k = omega arith in
    let begins : widen (fuel_more (k - j)) (begin m answers choices j) ≡ begin m answers choices k =
    cc (append-nil answers, append-nil choices, sum) in
    subst (λ s. AlikeCalls (fuel_more (k - j)) (enter forgets (function_of forgets fs j) (slice_get fs g) args
    (begin m answers choices j)) (enter forgets (function_of forgets fs k) (slice_get fs g) args s)) begins
    (alike-enter forgets (fuel_more (k - j)) j (function_of forgets fs j) (function_of forgets fs k) (leaves-function_of
    forgets fs j) (leaves-function_of forgets fs k) (alike-deeper forgets (fuel_more (k - j)) fs j k (omega arith))
    (slice_get fs g) args (begin m answers choices j) (omega arith))

pub more_fuel-begins : (forgets : Forgets) (fs : List FlatFunc) (g : ℕ) (args : List ℕ) (m : Memory) (answers : List ℕ)
    (choices : List Choice) (j k : ℕ) → j ≤ k → BeginsWith (call_forgetting forgets fs g args m answers choices k).trace
    (call_forgetting forgets fs g args m answers choices j).trace
more_fuel-begins forgets fs g args m answers choices j k le =
    begins-seen
    (fuel_more (k - j)) (enter forgets (function_of forgets fs j) (slice_get fs g) args (begin m answers choices j))
    (enter forgets (function_of forgets fs k) (slice_get fs g) args (begin m answers choices k))
    (alike-fuel forgets fs g args m answers choices j k le)

pub more_fuel-same : (forgets : Forgets) (fs : List
    FlatFunc) (g : ℕ) (args : List ℕ) (m : Memory) (answers : List ℕ) (choices : List Choice) (j k : ℕ) → j ≤ k
    → (call_forgetting forgets fs g args m answers choices j).outcome ≢ outcome.OutOfFuel
    → call_forgetting forgets fs g args m answers choices k ≡ call_forgetting forgets fs g args m answers choices j
more_fuel-same forgets fs g args m answers choices j k le other =
    same-seen
    (fuel_more (k - j)) (enter forgets (function_of forgets fs j) (slice_get fs g) args (begin m answers choices j))
    (enter forgets (function_of forgets fs k) (slice_get fs g) args (begin m answers choices k))
    (alike-fuel forgets fs g args m answers choices j k le)
    (fuel_stays (k - j) (call_forgetting forgets fs g args m answers choices j) other)

-- ---- longer lists

pub longer_lists-run : (forgets : Forgets) (fs : List FlatFunc) (depth : ℕ) (c : Stmt) (s : State) (vs : List ℕ)
    (cs : List Choice) → IsSameWithMore vs cs (run forgets (function_of forgets fs depth) c s) (run forgets
    (function_of forgets fs depth) c (with_more vs cs s))
longer_lists-run forgets fs depth c s vs cs =
    let m : More = lists_more vs cs in
    let call : Callee = function_of forgets fs depth in
    let takes = leaves-function_of forgets fs depth in
    same-run vs cs (run forgets call c s) (run forgets call c (with_more vs cs s))
    (subst (λ z. Alike m (run forgets call c s) (run forgets call c z)) (widen-lists vs cs s)
    (alike-run forgets m s.fuel call call takes takes (alike-function_of forgets m fs depth s.fuel) c s (omega arith)))

pub longer_lists-run_all : (forgets : Forgets) (fs : List FlatFunc) (depth : ℕ) (body : List Stmt) (s : State)
    (vs : List ℕ) (cs : List Choice) → IsSameWithMore vs cs (run_all forgets (function_of forgets fs depth) body s)
    (run_all forgets (function_of forgets fs depth) body (with_more vs cs s))
longer_lists-run_all forgets fs depth body s vs cs =
    let m : More = lists_more vs cs in
    let call : Callee = function_of forgets fs depth in
    let takes = leaves-function_of forgets fs depth in
    same-run vs cs (run_all forgets call body s) (run_all forgets call body (with_more vs cs s))
    (subst (λ z. Alike m (run_all forgets call body s) (run_all forgets call body z)) (widen-lists vs cs s)
    (alike-run_all forgets m s.fuel call call takes takes (alike-function_of forgets m fs depth s.fuel) body s
    (omega arith)))

pub longer_lists-function_of : (forgets : Forgets) (fs : List FlatFunc) (depth g : ℕ) (args : List ℕ) (s : State)
    (vs : List ℕ) (cs : List Choice) → IsSameCallWithMore vs cs (function_of forgets fs depth g args s) (function_of
    forgets fs depth g args (with_more vs cs s))
longer_lists-function_of forgets fs depth g args s vs cs =
    let m : More = lists_more vs cs in
    same-call vs cs (function_of forgets fs depth g args s) (function_of forgets fs depth g args (with_more vs cs s))
    (subst (λ z. AlikeCalls m (function_of forgets fs depth g args s) (function_of forgets fs depth g args z))
    (widen-lists vs cs s)
    (alike-function_of forgets m fs depth (suc s.fuel) g args s (omega arith)))

alike-lists : (forgets : Forgets) (fs : List FlatFunc) (g : ℕ) (args : List ℕ) (m : Memory) (answers : List
    ℕ) (choices : List Choice) (fuel : ℕ) (vs : List ℕ) (cs : List Choice) → AlikeCalls (lists_more vs cs)
    (enter forgets (function_of forgets fs fuel) (slice_get fs g) args (begin m answers choices fuel)) (enter forgets
    (function_of forgets fs fuel) (slice_get fs g) args (begin m (answers ++ vs) (choices ++ cs) fuel))
alike-lists forgets fs g args m answers choices fuel vs cs =
    let more : More = lists_more vs cs in
    let takes = leaves-function_of forgets fs fuel in
    subst (λ s. AlikeCalls more (enter forgets (function_of forgets fs fuel) (slice_get fs g)
    args (begin m answers choices fuel)) (enter forgets (function_of forgets fs fuel) (slice_get fs g) args s))
    (widen-lists vs cs (begin m answers choices fuel))
    (alike-enter forgets more fuel (function_of forgets fs fuel) (function_of forgets fs fuel)
    takes takes (alike-function_of forgets more fs fuel fuel) (slice_get fs g) args (begin m answers choices fuel)
    (omega arith))

pub longer_lists-begins : (forgets : Forgets) (fs : List FlatFunc) (g : ℕ) (args : List ℕ) (m : Memory) (answers : List
    ℕ) (choices : List Choice) (fuel : ℕ) (vs : List ℕ) (cs : List Choice) → BeginsWith (call_forgetting forgets fs g
    args m (answers ++ vs) (choices ++ cs) fuel).trace (call_forgetting forgets fs g args m answers choices fuel).trace
longer_lists-begins forgets fs g args m answers choices fuel vs cs =
    begins-seen (lists_more vs cs) (enter forgets (function_of forgets fs fuel) (slice_get fs g)
    args (begin m answers choices fuel)) (enter forgets (function_of forgets fs fuel) (slice_get fs g) args
    (begin m (answers ++ vs) (choices ++ cs) fuel)) (alike-lists forgets fs g args m answers choices fuel vs cs)

pub longer_lists-call : (forgets : Forgets) (fs : List FlatFunc) (g : ℕ)
    (args : List ℕ) (m : Memory) (answers : List ℕ) (choices : List Choice) (fuel : ℕ) (vs : List ℕ) (cs : List Choice)
    → OutcomeStays (call_forgetting forgets fs g args m answers choices fuel).outcome vs cs
    → call_forgetting forgets fs g args m (answers ++ vs) (choices ++ cs) fuel
    ≡ call_forgetting forgets fs g args m answers choices fuel
longer_lists-call forgets fs g args m answers choices fuel vs cs stays =
    same-seen (lists_more vs cs) (enter forgets (function_of forgets fs fuel) (slice_get fs g)
    args (begin m answers choices fuel)) (enter forgets (function_of forgets fs fuel) (slice_get fs g) args
    (begin m (answers ++ vs) (choices ++ cs) fuel)) (alike-lists forgets fs g args m answers choices fuel vs cs)
    (lists_stay vs cs (call_forgetting forgets fs g args m answers choices fuel) stays)

-- ---- bounds

-- what a loop does from its test on
abbrev pub from_test : Forgets → Callee → List Stmt → Cond → List Stmt → State → Run
from_test forgets call first test last t =
    loop t.fuel (λ u. test_word test u.locals)
    (λ u. then_do (run_all forgets call last u) (run_all forgets call first)) t

pub loop-is : (forgets : Forgets) (call : Callee) (first : List Stmt) (test : Cond) (last : List Stmt) (s : State)
    → run forgets call (Loop first test last) s
    ≡ then_do (run_all forgets call first s) (from_test forgets call first test last)
loop-is forgets call first test last s =
    ap (λ c. run forgets call c s) (sym (rolls-Loop first test last))
    ∙ ap (λ f. f s) (fold-roll-Stmt (State → Run) (statement_step forgets call) (Stmt-F.Loop first test last))

pub then-then : (r : Run) (f g : State → Run) → then_do (then_do r f) g ≡ then_do r (λ t. then_do (f t) g)
then-then (Goes t) f g = refl
then-then (Ends end t) f g = refl

-- from a loop's test: it ends, or a unit of fuel is taken, the last part runs, and the loop begins again
pub unfold-test : (forgets : Forgets) (call : Callee)
    → OnlyTakes call → (first : List Stmt) (test : Cond) (last : List Stmt) (s : State)
    → from_test forgets call first test last s ≡ with_defined (test_word test s.locals) s (λ v. choose (v == 0) (Goes s)
    (with_fuel s (λ t. then_do (run_all forgets call last t) (run forgets call (Loop first test last)))))
unfold-test forgets call h first test last s =
    let look : State → Option ℕ = λ t. test_word test t.locals in
    let one : State → Run = run_all forgets call first in
    let two : State → Run = run_all forgets call last in
    let turn : State → Run = λ u. then_do (two u) one in
    let takes_one : Takes one = leaves-run_all forgets call h first in
    let takes : Takes turn = λ u. leaves-then_do u (two u) one (leaves-run_all forgets call h last u) takes_one in
    let again : State → Run = λ t. then_do (turn t) (loop s.fuel look turn) in
    let anew : State → Run = λ t. then_do (two t) (run forgets call (Loop first test last)) in
    let spent : with_fuel s again ≡ with_fuel s anew = same-spend s.fuel s again anew (λ k is.
    let now : State = record s { fuel = k } in
    let whole : State → Run = λ t. then_do (one t) (from_test forgets call first test last) in
    let joined : then_do (turn now) (loop s.fuel look turn)
    ≡ then_do (turn now) (from_test forgets call first test last) =
    same-then_do (turn now) (loop s.fuel look turn) (from_test forgets call first test last) (λ t goes.
    let less = fuel-goes now (turn now) t (takes now) goes in
    loop-bound t.fuel s.fuel (λ l m. test_word test l) turn takes t (omega arith) (omega (arith, less))) in
    joined ∙ then-then (two now) one (from_test forgets call first test last)
    ∙ same-then_do (two now) whole (run forgets call (Loop first test last))
    (λ t goes. sym (loop-is forgets call first test last t))) in
    loop-bound (suc s.fuel) s.fuel (λ l m. test_word test l) turn takes s (omega arith) (omega arith)
    ∙ same-with_defined (look s) s (λ v. choose (v == 0) (Goes s) (with_fuel s again))
    (λ v. choose (v == 0) (Goes s) (with_fuel s anew)) (λ v. ap (choose (v == 0) (Goes s)) spent)

pub unfold-loop : (forgets : Forgets) (call : Callee) → OnlyTakes call
    → (first : List Stmt) (test : Cond) (last : List Stmt) (s : State) → run forgets call (Loop first test last) s
    ≡ then_do (run_all forgets call first s) (λ t. with_defined (test_word test t.locals) t (λ v. choose (v == 0)
    (Goes t) (with_fuel t (λ u. then_do (run_all forgets call last u) (run forgets call (Loop first test last))))))
unfold-loop forgets call h first test last s =
    let turn : State → Run = λ t. with_defined (test_word test t.locals) t (λ v. choose (v == 0) (Goes t)
    (with_fuel t (λ u. then_do (run_all forgets call last u) (run forgets call (Loop first test last))))) in
    loop-is forgets call first test last s
    ∙ same-then_do (run_all forgets call first s) (from_test forgets call first test last) turn
    (λ t goes. unfold-test forgets call h first test last t)

pub same-depth : (forgets : Forgets) (fs : List FlatFunc) (low high g : ℕ) (args : List ℕ) (s : State) → s.fuel < low
    → low ≤ high → function_of forgets fs high g args s ≡ function_of forgets fs low g args s
same-depth forgets fs low high g args s less le =
    let both = alike-deeper forgets none fs low high (omega arith) g args s less in
    same-alike_calls (function_of forgets fs low g args s) (function_of forgets fs high g args s)
    (subst (λ t. AlikeCalls none (function_of forgets fs low g args s) (function_of forgets fs high g args t))
    (widen-none s) both)

pub unfold-function_of : (forgets : Forgets) (fs : List FlatFunc) (depth g : ℕ) (args : List ℕ) (s : State)
    → s.fuel < depth
    → function_of forgets fs depth g args s ≡ enter forgets (function_of forgets fs depth) (slice_get fs g) args s
unfold-function_of forgets fs depth g args s less =
    sym (same-depth forgets fs depth (suc depth) g args s less (omega arith))
