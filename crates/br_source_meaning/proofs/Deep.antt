-- Loops and calls, where calls may go deeper than the fuel reaches.
use Rattle.std.proofs.Common.{◌≡◌, ◌≢◌, ℕ, zero, suc, ◌^◌, ◌<◌, ◌≤◌, ◌==◌, false, List, Option, Some, refl, ap, subst}
use Rattle.std.proofs.Common.{◌∙◌, arith}
use Rattle.std.proofs.lemmas.Bool.Decides.{nat_tests}
use Rattle.br_syntax.specs.declared.program.Expr.{Expr}
use Rattle.br_syntax.specs.declared.program.Cmd.{Cmd}
use Rattle.br_syntax.specs.declared.program.Cmd.TheVariants.{While}
use Rattle.br_syntax.specs.declared.program.Func.{Func}
use Rattle.br_syntax.specs.Functions.{function_named}
use Rattle.br_source_meaning.specs.Values.{Name, value}
use Rattle.br_source_meaning.specs.Runs.{Callee, State, End, Run, Goes, Ends, then_do, with_defined, choose, with_fuel}
use Rattle.br_source_meaning.specs.Runs.{with_locals, back_in, run, run_all}
use Rattle.br_source_meaning.specs.Calls.{enter, function_of, run_function}
use Rattle.br_bytes.specs.Left.{OnlyTakes}
use Rattle.br_bytes.proofs.Widens.{AlikeCalls}
use Rattle.br_bytes.proofs.Given.{none, widen-none, same-alike_calls}
use Rattle.br_source_meaning.specs.Running.{deep_calls}
use Rattle.br_source_meaning.proofs.Leaves.{leaves-function_of}
use Rattle.br_source_meaning.proofs.Widens.{alike-run_function, alike-deeper}
use Rattle.br_source_meaning.proofs.Bounds.{unfold-while, unfold-function_of}

pub deep-takes : (fs : List Func) → OnlyTakes (deep_calls fs)
unfolding deep_calls
deep-takes fs = leaves-function_of fs (2 ^ 32)

pub deep-enters : (fs : List Func) (f : Name) (args : List ℕ) (s : State) → s.fuel < 2 ^ 32 → deep_calls fs f args s
    ≡ enter (deep_calls fs) (function_named fs f) args s
unfolding deep_calls
deep-enters fs f args s h = unfold-function_of fs (2 ^ 32) f args s h

then-spend : (n : ℕ) (s : State) (next : State → Run) → with_fuel (record s { fuel = n }) next
    ≡ then_do (with_fuel (record s { fuel = n }) Goes) next
then-spend zero s next = refl
then-spend (suc k) s next = refl

-- what goes on after a unit of fuel was taken
pub spent-then : (s t : State) (next : State → Run) → with_fuel s Goes ≡ Goes t → with_fuel s next ≡ next t
spent-then s t next e = then-spend s.fuel s next ∙ ap (λ r. then_do r next) e

pub unspent-then : (end : End) (s t : State) (next : State → Run) → with_fuel s Goes ≡ Ends end t → with_fuel s next
    ≡ Ends end t
unspent-then end s t next e = then-spend s.fuel s next ∙ ap (λ r. then_do r next) e

less-spend : (n : ℕ) (s t : State) → with_fuel (record s { fuel = n }) Goes ≡ Goes t → t.fuel < n
less-spend zero s t e = cc
less-spend (suc k) s t e = let same : record s { fuel = k } ≡ t = cc in omega (arith, ap (λ u. u.fuel) same)

pub less-spent : (s t : State) → with_fuel s Goes ≡ Goes t → t.fuel < s.fuel
less-spent s t e = less-spend s.fuel s t e

-- a loop whose test is 0
pub turns-end : (call : Callee) → OnlyTakes call → (e : Expr) (body : List Cmd) (s : State) (v : ℕ)
    → value s.locals s.memory e ≡ Some v → v ≡ 0 → run call (While e body) s ≡ Goes s
turns-end call h e body s v is none =
    let again : State → Run = λ t. then_do (run_all call body t) (run call (While e body)) in
    unfold-while call h e body s
    ∙ ap (λ o. with_defined o s (λ v. choose (v == 0) (Goes s) (with_fuel s again))) (is ∙ ap Some none)

is_not_zero : (v : ℕ) → v ≢ 0 → (v == 0) ≡ false
is_not_zero v h = grind (arith, nat_tests)

-- a loop whose test is not 0 takes a unit of fuel
pub turns-spend : (call : Callee) → OnlyTakes call → (e : Expr) (body : List Cmd) (s : State) (v : ℕ)
    → value s.locals s.memory e ≡ Some v → v ≢ 0 → run call (While e body) s
    ≡ with_fuel s (λ t. then_do (run_all call body t) (run call (While e body)))
turns-spend call h e body s v is some =
    let again : State → Run = λ t. then_do (run_all call body t) (run call (While e body)) in
    unfold-while call h e body s
    ∙ ap (λ o. with_defined o s (λ v. choose (v == 0) (Goes s) (with_fuel s again))) is
    ∙ ap (λ b. choose b (Goes s) (with_fuel s again)) (is_not_zero v some)

-- a call enters the function that it names
pub call-enters : (fs : List Func) (xs : List Name) (f : Name) (o : Option (List ℕ)) (vs : List ℕ) (s t : State) → o
    ≡ Some vs → with_fuel s Goes ≡ Goes t → t.fuel < 2 ^ 32
    → with_defined o s (λ vs. with_fuel s (λ t. back_in (with_locals xs) s.locals (deep_calls fs f vs t)))
    ≡ back_in (with_locals xs) s.locals (enter (deep_calls fs) (function_named fs f) vs t)
call-enters fs xs f o vs s t is spent small =
    ap (λ o. with_defined o s (λ vs. with_fuel s (λ t. back_in (with_locals xs) s.locals (deep_calls fs f vs t)))) is
    ∙ spent-then s t (λ t. back_in (with_locals xs) s.locals (deep_calls fs f vs t)) spent
    ∙ ap (back_in (with_locals xs) s.locals) (deep-enters fs f vs t small)

spend-locals : (n : ℕ) (s t : State) → with_fuel (record s { fuel = n }) Goes ≡ Goes t → t.locals ≡ s.locals
spend-locals zero s t e = cc
spend-locals (suc k) s t e = let same : t ≡ record s { fuel = k } = cc in ap (λ u. u.locals) same

pub spent-locals : (s t : State) → with_fuel s Goes ≡ Goes t → t.locals ≡ s.locals
spent-locals s t e = spend-locals s.fuel s t e

-- a call of a function that there is, and what it does
pub call-runs : (fs : List Func) (xs : List Name) (f : Name) (o : Option (List ℕ)) (vs : List ℕ) (s t : State)
    (g : Func) → o ≡ Some vs → with_fuel s Goes ≡ Goes t → t.fuel < 2 ^ 32 → function_named fs f ≡ Some g
    → with_defined o s (λ vs. with_fuel s (λ t. back_in (with_locals xs) s.locals (deep_calls fs f vs t)))
    ≡ back_in (with_locals xs) s.locals (run_function (deep_calls fs) g vs t)
call-runs fs xs f o vs s t g is spent small named =
    call-enters fs xs f o vs s t is spent small
    ∙ ap (λ o. back_in (with_locals xs) s.locals (enter (deep_calls fs) o vs t)) named

-- from the start of a call, calls may go as deep as the fuel or deeper
pub deep-function : (fs : List Func) (f : Func) (args : List ℕ) (s : State) → s.fuel ≤ 2 ^ 32
    → run_function (deep_calls fs) f args s ≡ run_function (function_of fs s.fuel) f args s
unfolding deep_calls
deep-function fs f args s h =
    same-alike_calls (run_function (function_of fs s.fuel) f args s) (run_function (function_of fs (2 ^ 32)) f args s)
    (subst (λ t. AlikeCalls none (run_function (function_of fs s.fuel) f args s)
    (run_function (function_of fs (2 ^ 32)) f args t)) (widen-none s)
    (alike-run_function none s.fuel (function_of fs s.fuel) (function_of fs (2 ^ 32)) (leaves-function_of fs s.fuel)
    (leaves-function_of fs (2 ^ 32)) (alike-deeper none fs s.fuel (2 ^ 32) (omega arith)) f args s (omega arith)))
