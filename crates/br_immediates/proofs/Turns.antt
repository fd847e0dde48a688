-- What is counted of statements, and does not look at operands, is the same of those with constants.
use Rattle.std.proofs.Common.{◌≡◌, List, [], ◌∷◌, map, refl, sym, ap, subst, ◌∙◌}
use Rattle.br_flatimp.specs.declared.program.Stmt.{Stmt, map-Stmt}
use Rattle.br_flatimp.specs.declared.program.Stmt.TheOpen.{Stmt-F}
use Rattle.br_flatimp.specs.declared.program.Stmt.TheViews.{roll-Stmt}
use Rattle.br_flatimp.specs.declared.program.Stmt.TheFolds.{fold-Stmt, fold-roll-Stmt, ind-Stmt}
use Rattle.br_immediates.specs.Immediates.{Literals, no_literals, with_operand, with_parts}
use Rattle.br_immediates.specs.Immediates.{Turn, made_all, turn_step, turn, with_constants}

-- a statement that is made, one layer of it
abbrev pub layer : Literals → Stmt-F Stmt → Stmt-F Stmt
layer known x = with_operand known (with_parts (made_all no_literals) (map-Stmt Stmt Turn turn x))

pub turn-roll : (x : Stmt-F Stmt) → turn (roll-Stmt x) ≡ turn_step (map-Stmt Stmt Turn turn x)
turn-roll x = fold-roll-Stmt Turn turn_step x

pub made-roll : (known : Literals) (x : Stmt-F Stmt) → (turn (roll-Stmt x)).made known ≡ roll-Stmt (layer known x)
made-roll known x = ap (λ t. t.made known) (turn-roll x)

-- a fold of it is one step over the folds of its parts
pub fold-made : {X : Type 0} (g : Stmt-F X → X) (known : Literals) (x : Stmt-F Stmt)
    → fold-Stmt X g ((turn (roll-Stmt x)).made known) ≡ g (map-Stmt Stmt X (fold-Stmt X g) (layer known x))
fold-made {X} g known x = ap (fold-Stmt X g) (made-roll known x) ∙ fold-roll-Stmt X g (layer known x)

-- ---- folds that do not look at operands

abbrev pub LooksAside : {X : Type 0} → (Stmt-F X → X) → Type 0
LooksAside {X} g = (known : Literals) (y : Stmt-F X) → g (with_operand known y) ≡ g y

abbrev Stays : {X : Type 0} → (Stmt-F X → X) → Stmt → Type 0
Stays {X} g c = (known : Literals) → fold-Stmt X g ((turn c).made known) ≡ fold-Stmt X g c

abbrev Each : {X : Type 0} → (Stmt-F X → X) → Type 0
Each g = (c : Stmt) × Stays g c

abbrev stmts : {X : Type 0} (g : Stmt-F X → X) → List (Each g) → List Stmt
stmts g cs = map (λ e. e.0) cs

all-stay : {X : Type 0} (g : Stmt-F X → X) (known : Literals) (cs : List (Each g))
    → map (fold-Stmt X g) (made_all known (map turn (stmts g cs))) ≡ map (fold-Stmt X g) (stmts g cs)
all-stay g known [] = refl
all-stay {X} g known (e ∷ cs) =
    let next : Literals = (turn e.0).after known in
    ap (λ x. x ∷ map (fold-Stmt X g) (made_all next (map turn (stmts g cs)))) (e.1 known)
    ∙ ap (λ xs. fold-Stmt X g e.0 ∷ xs) (all-stay g next cs)

abbrev opened : {X : Type 0} (g : Stmt-F X → X) → Stmt-F (Each g) → Stmt-F Stmt
opened g y = map-Stmt (Each g) Stmt (λ e. e.0) y

step-stays : {X : Type 0} (g : Stmt-F X → X) → LooksAside g → (known : Literals) (y : Stmt-F (Each g))
    → g (map-Stmt Stmt X (fold-Stmt X g) (layer known (opened g y))) ≡ g (map-Stmt Stmt X (fold-Stmt X g) (opened g y))
step-stays g aside known (Stmt-F.Lit x n) = refl
step-stays g aside known (Stmt-F.Copy x y) = refl
step-stays g aside known (Stmt-F.Op x op y z) = aside known (Stmt-F.Op x op y z)
step-stays g aside known (Stmt-F.Load x size y offset) = refl
step-stays g aside known (Stmt-F.Store size y z offset) = refl
step-stays g aside known (Stmt-F.Table x size bytes y) = refl
step-stays g aside known (Stmt-F.Stackalloc x n body) =
    ap (λ l. g (Stmt-F.Stackalloc x n l)) (all-stay g no_literals body)
step-stays {X} g aside known (Stmt-F.If test first second) =
    ap (λ l. g (Stmt-F.If test l (map (fold-Stmt X g) (made_all no_literals (map turn (stmts g second))))))
    (all-stay g no_literals first)
    ∙ ap (λ l. g (Stmt-F.If test (map (fold-Stmt X g) (stmts g first)) l)) (all-stay g no_literals second)
step-stays {X} g aside known (Stmt-F.Loop first test last) =
    ap (λ l. g (Stmt-F.Loop l test (map (fold-Stmt X g) (made_all no_literals (map turn (stmts g last))))))
    (all-stay g no_literals first)
    ∙ ap (λ l. g (Stmt-F.Loop (map (fold-Stmt X g) (stmts g first)) test l)) (all-stay g no_literals last)
step-stays g aside known (Stmt-F.Call xs g2 ys) = refl
step-stays g aside known (Stmt-F.Read x y) = refl
step-stays g aside known (Stmt-F.Write y z) = refl

pub fold-stays : {X : Type 0} (g : Stmt-F X → X) → LooksAside g → (c : Stmt) (known : Literals)
    → fold-Stmt X g ((turn c).made known) ≡ fold-Stmt X g c
fold-stays {X} g aside = ind-Stmt (Stays g) (λ x y is known.
    fold-made g known x
    ∙ subst (λ z. g (map-Stmt Stmt X (fold-Stmt X g) (layer known z)) ≡ g (map-Stmt Stmt X (fold-Stmt X g) z)) is
    (step-stays g aside known y)
    ∙ sym (fold-roll-Stmt X g x))

pub folds-stay : {X : Type 0} (g : Stmt-F X → X) → LooksAside g → (known : Literals) (cs : List Stmt)
    → map (fold-Stmt X g) (with_constants known cs) ≡ map (fold-Stmt X g) cs
folds-stay g aside known [] = refl
folds-stay {X} g aside known (c ∷ cs) =
    let next : Literals = (turn c).after known in
    ap (λ x. x ∷ map (fold-Stmt X g) (with_constants next cs)) (fold-stays g aside c known)
    ∙ ap (λ xs. fold-Stmt X g c ∷ xs) (folds-stay g aside next cs)
