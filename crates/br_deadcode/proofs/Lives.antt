-- What is live by all statements is the same beside a sweep.
use Rattle.std.proofs.Common.{◌≡◌, List, [], ◌∷◌, map, refl, sym, ap, subst, ◌∙◌}
use Rattle.br_flatimp.specs.declared.program.Stmt.{Stmt, map-Stmt}
use Rattle.br_flatimp.specs.declared.program.Stmt.TheOpen.{Stmt-F}
use Rattle.br_flatimp.specs.declared.program.Stmt.TheFolds.{fold-roll-Stmt, ind-Stmt}
use Rattle.br_flatimp.specs.Liveness.{Live, live_step, live}
use Rattle.br_deadcode.specs.Sweeps.{Swept, lives_in, sweep_step, sweep}

abbrev Known : Type 0
Known = (c : Stmt) × ((sweep c).live ≡ live c)

known_each : (cs : List Known) → lives_in (map sweep (map (λ e. e.0) cs)) ≡ map live (map (λ e. e.0) cs)
known_each [] = refl
known_each (e ∷ cs) =
    ap (λ (l : Live). l ∷ lives_in (map sweep (map (λ e. e.0) cs))) e.1
    ∙ ap (λ (ls : List Live). live e.0 ∷ ls) (known_each cs)

known_step : (y : Stmt-F Known) →
    live_step (map-Stmt Swept Live (λ (c : Swept). c.live)
    (map-Stmt Stmt Swept sweep (map-Stmt Known Stmt (λ e. e.0) y)))
    ≡ live_step (map-Stmt Stmt Live live (map-Stmt Known Stmt (λ e. e.0) y))
known_step (Stmt-F.Lit x n) = refl
known_step (Stmt-F.Copy x y) = refl
known_step (Stmt-F.Op x op y z) = refl
known_step (Stmt-F.Load x size y offset) = refl
known_step (Stmt-F.Store size y z offset) = refl
known_step (Stmt-F.Table x size bytes y) = refl
known_step (Stmt-F.Stackalloc x n body) =
    ap (λ (ls : List Live). live_step (Stmt-F.Stackalloc x n ls)) (known_each body)
known_step (Stmt-F.If test first second) =
    ap (λ (ls : List Live). live_step (Stmt-F.If test ls (lives_in (map sweep (map (λ e. e.0) second)))))
    (known_each first)
    ∙ ap (λ (ls : List Live). live_step (Stmt-F.If test (map live (map (λ e. e.0) first)) ls)) (known_each second)
known_step (Stmt-F.Loop first test last) =
    ap (λ (ls : List Live). live_step (Stmt-F.Loop ls test (lives_in (map sweep (map (λ e. e.0) last)))))
    (known_each first)
    ∙ ap (λ (ls : List Live). live_step (Stmt-F.Loop (map live (map (λ e. e.0) first)) test ls)) (known_each last)
known_step (Stmt-F.Call xs g ys) = refl
known_step (Stmt-F.Read x y) = refl
known_step (Stmt-F.Write y z) = refl

pub sweep-live : (c : Stmt) → (sweep c).live ≡ live c
sweep-live = ind-Stmt (λ c. (sweep c).live ≡ live c) (λ x y is.
    let step = subst (λ z. live_step
    (map-Stmt Swept Live (λ (c : Swept). c.live) (map-Stmt Stmt Swept sweep z)) ≡ live_step
    (map-Stmt Stmt Live live z)) is (known_step y) in
    ap (λ (c : Swept). c.live) (fold-roll-Stmt Swept sweep_step x) ∙ step ∙ sym (fold-roll-Stmt Live live_step x))

pub lives-all : (cs : List Stmt) → lives_in (map sweep cs) ≡ map live cs
lives-all [] = refl
lives-all (c ∷ cs) =
    ap (λ (l : Live). l ∷ lives_in (map sweep cs)) (sweep-live c)
    ∙ ap (λ (ls : List Live). live c ∷ ls) (lives-all cs)
