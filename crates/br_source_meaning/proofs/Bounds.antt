-- Larger bounds on turns and on depth change nothing.
use Rattle.std.proofs.Common.{◌≡◌, ℕ, suc, ◌<◌, ◌≤◌, ◌==◌, List, Option, sym, ap, subst, ◌∙◌, arith}
use Rattle.br_bytes.specs.Left.{OnlyTakes}
use Rattle.br_bytes.proofs.Leaves.{Takes}
use Rattle.br_bytes.proofs.Widens.{AlikeCalls, fuel-goes}
use Rattle.br_bytes.proofs.Given.{none, widen-none, same-alike_calls, loop-bound, same-then_do, same-with_defined}
use Rattle.br_bytes.proofs.Given.{same-spend}
use Rattle.br_syntax.specs.declared.program.Expr.{Expr}
use Rattle.br_syntax.specs.declared.program.Cmd.{Cmd}
use Rattle.br_syntax.specs.declared.program.Cmd.TheOpen.{Cmd-F}
use Rattle.br_syntax.specs.declared.program.Cmd.TheVariants.{While, rolls-While}
use Rattle.br_syntax.specs.declared.program.Cmd.TheFolds.{fold-roll-Cmd}
use Rattle.br_syntax.specs.declared.program.Func.{Func}
use Rattle.br_syntax.specs.Functions.{function_named}
use Rattle.br_source_meaning.specs.Values.{Name, value}
use Rattle.br_source_meaning.specs.Runs.{State, Run, Goes, then_do, with_defined, choose, with_fuel, loop, Callee}
use Rattle.br_source_meaning.specs.Runs.{command_step, run, run_all}
use Rattle.br_source_meaning.specs.Calls.{enter, function_of}
use Rattle.br_source_meaning.proofs.Leaves.{leaves-run_all}
use Rattle.br_source_meaning.proofs.Widens.{alike-deeper}

while-is : (call : Callee) (e : Expr) (body : List Cmd) (s : State) → run call (While e body) s
    ≡ loop s.fuel (λ t. value t.locals t.memory e) (run_all call body) s
while-is call e body s =
    ap (λ c. run call c s) (sym (rolls-While e body))
    ∙ ap (λ f. f s) (fold-roll-Cmd (State → Run) (command_step call) (Cmd-F.While e body))

pub unfold-while : (call : Callee) → OnlyTakes call → (e : Expr) (body : List Cmd) (s : State)
    → run call (While e body) s
    ≡ with_defined (value s.locals s.memory e) s
    (λ v. choose (v == 0) (Goes s) (with_fuel s (λ t. then_do (run_all call body t) (run call (While e body)))))
unfold-while call h e body s =
    let test : State → Option ℕ = λ t. value t.locals t.memory e in
    let inside : State → Run = run_all call body in
    let takes : Takes inside = leaves-run_all call h body in
    let again : State → Run = λ t. then_do (inside t) (loop s.fuel test inside) in
    let anew : State → Run = λ t. then_do (inside t) (run call (While e body)) in
    let turn : with_fuel s again ≡ with_fuel s anew = same-spend s.fuel s again anew (λ k is.
    let now : State = record s { fuel = k } in
    same-then_do (inside now) (loop s.fuel test inside) (run call (While e body)) (λ t goes.
    let less = fuel-goes now (inside now) t (takes now) goes in
    loop-bound t.fuel s.fuel (λ l k. value l k e) inside takes t (omega arith) (omega (arith, less))
    ∙ sym (while-is call e body t))) in
    while-is call e body s
    ∙ loop-bound (suc s.fuel) s.fuel (λ l k. value l k e) inside takes s (omega arith) (omega arith)
    ∙ same-with_defined (test s) s (λ v. choose (v == 0) (Goes s) (with_fuel s again))
    (λ v. choose (v == 0) (Goes s) (with_fuel s anew)) (λ v. ap (choose (v == 0) (Goes s)) turn)

pub same-depth : (fs : List Func) (low high : ℕ) (f : Name) (args : List ℕ) (s : State) → s.fuel < low → low ≤ high
    → function_of fs high f args s ≡ function_of fs low f args s
same-depth fs low high f args s less le =
    let both = alike-deeper none fs low high (omega arith) f args s less in
    same-alike_calls (function_of fs low f args s) (function_of fs high f args s)
    (subst (λ t. AlikeCalls none (function_of fs low f args s) (function_of fs high f args t)) (widen-none s) both)

pub unfold-function_of : (fs : List Func) (depth : ℕ) (f : Name) (args : List ℕ) (s : State) → s.fuel < depth
    → function_of fs depth f args s ≡ enter (function_of fs depth) (function_named fs f) args s
unfold-function_of fs depth f args s less = sym (same-depth fs depth (suc depth) f args s less (omega arith))
