-- Runs of flat statements in turn.
use Rattle.std.proofs.Common.{◌≡◌, List, [], ◌∷◌, ◌++◌, refl, ap, ◌∙◌}
use Rattle.br_bytes.specs.Runs.{Goes, Ends, then_do}
use Rattle.br_flatimp.specs.declared.program.Stmt.{Stmt, map-Stmt}
use Rattle.br_flatimp.specs.declared.program.Stmt.TheOpen.{Stmt-F}
use Rattle.br_flatimp.specs.declared.program.Stmt.TheViews.{roll-Stmt}
use Rattle.br_flatimp.specs.declared.program.Stmt.TheFolds.{fold-roll-Stmt}
use Rattle.br_flatimp.specs.Runs.{State, Run, Callee, forgets_none, statement_step, run, run_all}

abbrev pub does : Callee → List Stmt → State → Run
does call = run_all forgets_none call

then-turns : (r : Run) (f g h : State → Run) → ((t : State) → f t ≡ then_do (g t) h)
    → then_do r f ≡ then_do (then_do r g) h
then-turns (Goes t) f g h e = e t
then-turns (Ends end t) f g h e = refl

pub does-append : (call : Callee) (before bs : List Stmt) (s : State)
    → does call (before ++ bs) s ≡ then_do (does call before s) (does call bs)
does-append call [] bs s = refl
does-append call (a ∷ rest) bs s = then-turns (run forgets_none call a s) (does call (rest ++ bs)) (does call rest)
    (does call bs) (does-append call rest bs)

pub does-after : (call : Callee) (before bs : List Stmt) (s t : State) → does call before s ≡ Goes t
    → does call (before ++ bs) s ≡ does call bs t
does-after call before bs s t e = does-append call before bs s ∙ ap (λ r. then_do r (does call bs)) e

then-goes : (r : Run) → then_do r Goes ≡ r
then-goes (Goes t) = refl
then-goes (Ends end t) = refl

pub does-one : (call : Callee) (y : Stmt-F Stmt) (s : State) → does call (roll-Stmt y ∷ []) s
    ≡ statement_step forgets_none call (map-Stmt Stmt (State → Run) (run forgets_none call) y) s
does-one call y s = then-goes (run forgets_none call (roll-Stmt y) s)
    ∙ ap (λ f. f s) (fold-roll-Stmt (State → Run) (statement_step forgets_none call) y)
