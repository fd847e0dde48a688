-- Lists of statements in two parts.
use Rattle.std.proofs.Common.{◌≡◌, List, [], ◌∷◌, ◌++◌, map, refl, sym, ap, ◌∙◌, append_assoc}
use Rattle.br_bytes.specs.Runs.{then_do}
use Rattle.br_bytes.proofs.Given.{same-then_do}
use Rattle.br_flatimp.specs.declared.program.Stmt.{Stmt}
use Rattle.br_flatimp.specs.Values.{Names}
use Rattle.br_flatimp.specs.Runs.{State, Run, Callee, Forgets, run, run_all}
use Rattle.br_flatimp.specs.Liveness.{moments, live, before_all}
use Rattle.br_flatimp.proofs.Given.{then-then}

pub run_all-append : (forgets : Forgets) (call : Callee) (xs ys : List Stmt) (s : State)
    → run_all forgets call (xs ++ ys) s ≡ then_do (run_all forgets call xs s) (run_all forgets call ys)
run_all-append forgets call [] ys s = refl
run_all-append forgets call (c ∷ xs) ys s =
    let both : State → Run = λ t. then_do (run_all forgets call xs t) (run_all forgets call ys) in
    same-then_do (run forgets call c s) (run_all forgets call (xs ++ ys)) both
    (λ t goes. run_all-append forgets call xs ys t)
    ∙ sym (then-then (run forgets call c s) (run_all forgets call xs) (run_all forgets call ys))

pub before_all-append : (xs ys : List Stmt) (after : Names)
    → before_all (xs ++ ys) after ≡ before_all xs (before_all ys after)
before_all-append [] ys after = refl
before_all-append (c ∷ xs) ys after = ap (live c).before (before_all-append xs ys after)

pub moments-append : (xs ys : List Stmt) (after : Names)
    → moments (map live (xs ++ ys)) after ≡ moments (map live xs) (before_all ys after) ++ moments (map live ys) after
moments-append [] ys after = refl
moments-append (c ∷ xs) ys after =
    ap (λ e. (live c).moments e ++ moments (map live (xs ++ ys)) after) (before_all-append xs ys after)
    ∙ ap (λ ms. (live c).moments (before_all xs (before_all ys after)) ++ ms) (moments-append xs ys after)
    ∙ sym (append_assoc ((live c).moments (before_all xs (before_all ys after)))
    (moments (map live xs) (before_all ys after)) (moments (map live ys) after))
