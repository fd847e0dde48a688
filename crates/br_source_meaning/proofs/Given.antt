-- What a call comes to where it is given more.
use Rattle.std.proofs.Common.{◌≡◌, ◌≢◌, ℕ, suc, ◌+◌, ◌-◌, ◌≤◌, List, [], ◌++◌, subst, append-nil, arith}
use Rattle.br_bytes.specs.declared.run.Choice.{Choice}
use Rattle.br_bytes.specs.declared.run.Outcome.TheVariants as outcome
use Rattle.br_bytes.specs.Memory.{Memory}
use Rattle.br_bytes.specs.Left.{BeginsWith, with_more, OutcomeStays, IsSameWithMore, IsSameCallWithMore}
use Rattle.br_bytes.proofs.Widens.{More, widen, Alike, AlikeCalls}
use Rattle.br_bytes.proofs.Given.{begins-seen, same-seen, fuel_more, lists_more, fuel_stays, widen-lists, same-run}
use Rattle.br_bytes.proofs.Given.{same-call, lists_stay}
use Rattle.br_syntax.specs.declared.program.Cmd.{Cmd}
use Rattle.br_syntax.specs.declared.program.Func.{Func}
use Rattle.br_source_meaning.specs.Values.{Name, no_locals}
use Rattle.br_source_meaning.specs.Runs.{State, run, run_all}
use Rattle.br_source_meaning.specs.Calls.{run_function, function_of, call}
use Rattle.br_source_meaning.proofs.Leaves.{leaves-function_of}
use Rattle.br_source_meaning.proofs.Widens.{alike-run, alike-run_all, alike-run_function, alike-deeper}
use Rattle.br_source_meaning.proofs.Widens.{alike-function_of}

-- the state that a call begins in
abbrev begin : Memory → List ℕ → List Choice → ℕ → State
begin m answers choices fuel =
    record { locals = no_locals; memory = m; trace = []; answers = answers; choices = choices; fuel = fuel }

alike-fuel : (fs : List Func) (f : Func) (args : List ℕ) (m : Memory) (answers : List ℕ) (choices : List Choice)
    (j k : ℕ) → j ≤ k
    → AlikeCalls (fuel_more (k - j)) (run_function (function_of fs j) f args (begin m answers choices j))
    (run_function (function_of fs k) f args (begin m answers choices k))
alike-fuel fs f args m answers choices j k le =
    let sum : j + (k - j) ≡ k = omega arith in
    let begins : widen (fuel_more (k - j)) (begin m answers choices j) ≡ begin m answers choices k =
    cc (append-nil answers, append-nil choices, sum) in
    subst (λ s. AlikeCalls (fuel_more (k - j)) (run_function (function_of fs j) f args (begin m answers choices j))
    (run_function (function_of fs k) f args s)) begins
    (alike-run_function (fuel_more (k - j)) j (function_of fs j) (function_of fs k) (leaves-function_of fs j)
    (leaves-function_of fs k) (alike-deeper (fuel_more (k - j)) fs j k (omega arith)) f args
    (begin m answers choices j) (omega arith))

pub more_fuel-begins : (fs : List Func) (f : Func) (args : List ℕ) (m : Memory) (answers : List ℕ)
    (choices : List Choice) (j k : ℕ) → j ≤ k
    → BeginsWith (call fs f args m answers choices k).trace (call fs f args m answers choices j).trace
more_fuel-begins fs f args m answers choices j k le =
    begins-seen (fuel_more (k - j)) (run_function (function_of fs j) f args (begin m answers choices j))
    (run_function (function_of fs k) f args (begin m answers choices k))
    (alike-fuel fs f args m answers choices j k le)

pub more_fuel-same : (fs : List Func) (f : Func) (args : List ℕ) (m : Memory) (answers : List ℕ) (choices : List Choice)
    (j k : ℕ) → j ≤ k → (call fs f args m answers choices j).outcome ≢ outcome.OutOfFuel
    → call fs f args m answers choices k ≡ call fs f args m answers choices j
more_fuel-same fs f args m answers choices j k le other =
    same-seen (fuel_more (k - j)) (run_function (function_of fs j) f args (begin m answers choices j))
    (run_function (function_of fs k) f args (begin m answers choices k))
    (alike-fuel fs f args m answers choices j k le)
    (fuel_stays (k - j) (call fs f args m answers choices j) other)

pub longer_lists-run : (fs : List Func) (depth : ℕ) (c : Cmd) (s : State) (vs : List ℕ) (cs : List Choice)
    → IsSameWithMore vs cs (run (function_of fs depth) c s) (run (function_of fs depth) c (with_more vs cs s))
longer_lists-run fs depth c s vs cs =
    let m : More = lists_more vs cs in
    let takes = leaves-function_of fs depth in
    same-run vs cs (run (function_of fs depth) c s) (run (function_of fs depth) c (with_more vs cs s))
    (subst (λ z. Alike m (run (function_of fs depth) c s) (run (function_of fs depth) c z)) (widen-lists vs cs s)
    (alike-run m s.fuel (function_of fs depth) (function_of fs depth) takes takes (alike-function_of m fs depth s.fuel)
    c s (omega arith)))

pub longer_lists-run_all : (fs : List Func) (depth : ℕ) (body : List Cmd) (s : State) (vs : List ℕ) (cs : List Choice)
    → IsSameWithMore vs cs (run_all (function_of fs depth) body s)
    (run_all (function_of fs depth) body (with_more vs cs s))
longer_lists-run_all fs depth body s vs cs =
    let m : More = lists_more vs cs in
    let takes = leaves-function_of fs depth in
    same-run vs cs (run_all (function_of fs depth) body s) (run_all (function_of fs depth) body (with_more vs cs s))
    (subst (λ z. Alike m (run_all (function_of fs depth) body s) (run_all (function_of fs depth) body z))
    (widen-lists vs cs s)
    (alike-run_all m s.fuel (function_of fs depth) (function_of fs depth) takes takes
    (alike-function_of m fs depth s.fuel) body s (omega arith)))

pub longer_lists-function_of : (fs : List Func) (depth : ℕ) (f : Name) (args : List ℕ) (s : State) (vs : List ℕ)
    (cs : List Choice)
    → IsSameCallWithMore vs cs (function_of fs depth f args s) (function_of fs depth f args (with_more vs cs s))
longer_lists-function_of fs depth f args s vs cs =
    let m : More = lists_more vs cs in
    same-call vs cs (function_of fs depth f args s) (function_of fs depth f args (with_more vs cs s))
    (subst (λ z. AlikeCalls m (function_of fs depth f args s) (function_of fs depth f args z)) (widen-lists vs cs s)
    (alike-function_of m fs depth (suc s.fuel) f args s (omega arith)))

alike-lists : (fs : List Func) (f : Func) (args : List ℕ) (m : Memory) (answers : List ℕ) (choices : List Choice)
    (fuel : ℕ) (vs : List ℕ) (cs : List Choice)
    → AlikeCalls (lists_more vs cs) (run_function (function_of fs fuel) f args (begin m answers choices fuel))
    (run_function (function_of fs fuel) f args (begin m (answers ++ vs) (choices ++ cs) fuel))
alike-lists fs f args m answers choices fuel vs cs =
    let more : More = lists_more vs cs in
    let takes = leaves-function_of fs fuel in
    subst (λ s. AlikeCalls more (run_function (function_of fs fuel) f args (begin m answers choices fuel))
    (run_function (function_of fs fuel) f args s)) (widen-lists vs cs (begin m answers choices fuel))
    (alike-run_function more fuel (function_of fs fuel) (function_of fs fuel) takes takes
    (alike-function_of more fs fuel fuel) f args (begin m answers choices fuel) (omega arith))

pub longer_lists-begins : (fs : List Func) (f : Func) (args : List ℕ) (m : Memory) (answers : List ℕ)
    (choices : List Choice) (fuel : ℕ) (vs : List ℕ) (cs : List Choice)
    → BeginsWith (call fs f args m (answers ++ vs) (choices ++ cs) fuel).trace
    (call fs f args m answers choices fuel).trace
longer_lists-begins fs f args m answers choices fuel vs cs =
    begins-seen (lists_more vs cs) (run_function (function_of fs fuel) f args (begin m answers choices fuel))
    (run_function (function_of fs fuel) f args (begin m (answers ++ vs) (choices ++ cs) fuel))
    (alike-lists fs f args m answers choices fuel vs cs)

pub longer_lists-call : (fs : List Func) (f : Func) (args : List ℕ) (m : Memory) (answers : List ℕ)
    (choices : List Choice) (fuel : ℕ) (vs : List ℕ) (cs : List Choice)
    → OutcomeStays (call fs f args m answers choices fuel).outcome vs cs
    → call fs f args m (answers ++ vs) (choices ++ cs) fuel ≡ call fs f args m answers choices fuel
longer_lists-call fs f args m answers choices fuel vs cs stays =
    same-seen (lists_more vs cs) (run_function (function_of fs fuel) f args (begin m answers choices fuel))
    (run_function (function_of fs fuel) f args (begin m (answers ++ vs) (choices ++ cs) fuel))
    (alike-lists fs f args m answers choices fuel vs cs)
    (lists_stay vs cs (call fs f args m answers choices fuel) stays)
