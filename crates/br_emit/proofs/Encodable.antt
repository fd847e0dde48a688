-- Statements in register form are encodable.
use Rattle.std.proofs.Common.{◌≡◌, ℕ, ◌&&◌, List, [], ◌∷◌, map, Bool, true, false, IsTrue, refl, sym, ap, subst, ◌∙◌}
use Rattle.std.specs.List.{list_all}
use Rattle.br_flatimp.specs.declared.program.Stmt.{Stmt, map-Stmt, roll-Stmt}
use Rattle.br_flatimp.specs.declared.program.Stmt.TheOpen.{Stmt-F}
use Rattle.br_flatimp.specs.declared.program.Stmt.TheFolds.{fold-roll-Stmt, ind-Stmt}
use Rattle.br_flatimp.specs.declared.program.FlatFunc.{FlatFunc}
use Rattle.br_flatimp.specs.Parts.{written, read, parts, throughout, own_callees}
use Rattle.br_flatimp.specs.WellFormed.{are_registers, passes_in_order, values_fit, fits, uses_registers}
use Rattle.br_emit.specs.Laid.{is_fine}
use Rattle.br_emit.specs.Ready.{immediates_fit, is_encodable}
use Rattle.br_emit.proofs.Leaves.{both}
use Rattle.br_emit.proofs.Assembled.{throughout_true, statement_fine}

and_of : (a b : Bool) → IsTrue a → IsTrue b → IsTrue (a && b)
and_of true b h k = k
and_of false b h k = absurd (cc)

abbrev all : ℕ → Bool
all n = true

-- what a layer says of itself does not look into its parts
record SameLayer {A B : Type 0} (fs : List FlatFunc) (f : A → B) (y : Stmt-F A) : Type 0 where
  fine : is_fine fs all all (map-Stmt A B f y) ≡ is_fine fs all all y
  encodable : is_encodable (map-Stmt A B f y) ≡ is_encodable y
  inner : parts (map-Stmt A B f y) ≡ map (map f) (parts y)

same_layer : {A B : Type 0} (fs : List FlatFunc) (f : A → B) (y : Stmt-F A) → SameLayer fs f y
same_layer fs f (Stmt-F.Lit x n) = record { fine = refl; encodable = refl; inner = refl }
same_layer fs f (Stmt-F.Copy x y) = record { fine = refl; encodable = refl; inner = refl }
same_layer fs f (Stmt-F.Op x o y z) = record { fine = refl; encodable = refl; inner = refl }
same_layer fs f (Stmt-F.Load x size y offset) = record { fine = refl; encodable = refl; inner = refl }
same_layer fs f (Stmt-F.Store size y z offset) = record { fine = refl; encodable = refl; inner = refl }
same_layer fs f (Stmt-F.Table x size bytes y) = record { fine = refl; encodable = refl; inner = refl }
same_layer fs f (Stmt-F.Stackalloc x n body) = record { fine = refl; encodable = refl; inner = refl }
same_layer fs f (Stmt-F.If test first second) = record { fine = refl; encodable = refl; inner = refl }
same_layer fs f (Stmt-F.Loop first test last) = record { fine = refl; encodable = refl; inner = refl }
same_layer fs f (Stmt-F.Call xs g ys) = record { fine = refl; encodable = refl; inner = refl }
same_layer fs f (Stmt-F.Read x y) = record { fine = refl; encodable = refl; inner = refl }
same_layer fs f (Stmt-F.Write y z) = record { fine = refl; encodable = refl; inner = refl }

immediates : {X : Type 0} (fs : List FlatFunc) (y : Stmt-F X) → IsTrue (values_fit fs y) → IsTrue (immediates_fit y)
immediates fs (Stmt-F.Lit x n) h = refl
immediates fs (Stmt-F.Copy x y) h = refl
immediates fs (Stmt-F.Op x o y z) h = h
immediates fs (Stmt-F.Load x size y offset) h = h
immediates fs (Stmt-F.Store size y z offset) h = h
immediates fs (Stmt-F.Table x size bytes y) h = refl
immediates fs (Stmt-F.Stackalloc x n body) h = refl
immediates fs (Stmt-F.If test first second) h = refl
immediates fs (Stmt-F.Loop first test last) h = refl
immediates fs (Stmt-F.Call xs g ys) h = refl
immediates fs (Stmt-F.Read x y) h = refl
immediates fs (Stmt-F.Write y z) h = refl

own_encodable : {X : Type 0} (fs : List FlatFunc) (y : Stmt-F X) → IsTrue (is_fine fs all all y)
    → IsTrue (is_encodable y)
own_encodable fs y h =
    let h0 = both
    (uses_registers y && values_fit fs y && list_all all (written y) && list_all all (own_callees y)) true h in
    let h1 = both (uses_registers y && values_fit fs y && list_all all (written y))
    (list_all all (own_callees y)) h0.0 in
    let h2 = both (uses_registers y && values_fit fs y) (list_all all (written y)) h1.0 in
    let h3 = both (uses_registers y) (values_fit fs y) h2.0 in
    let h4 = both (are_registers (written y) && are_registers (read y)) (passes_in_order y) h3.0 in
    and_of (are_registers (written y) && are_registers (read y)) (immediates_fit y) h4.0 (immediates fs y h3.1)

abbrev Claim : List FlatFunc → Stmt → Type 0
Claim fs st = IsTrue (throughout (is_fine fs all all) st) → IsTrue (throughout is_encodable st)

each : (fs : List FlatFunc) (cs : List ((st : Stmt) × Claim fs st))
    → IsTrue (list_all (λ ok. ok) (map (throughout (is_fine fs all all)) (map (λ e. e.0) cs)))
    → IsTrue (list_all (λ ok. ok) (map (throughout is_encodable) (map (λ e. e.0) cs)))
each fs [] h = refl
each fs (e ∷ cs) h =
    let h2 = both (throughout (is_fine fs all all) e.0)
    (list_all (λ ok. ok) (map (throughout (is_fine fs all all)) (map (λ e. e.0) cs))) h in
    and_of (throughout is_encodable e.0) (list_all (λ ok. ok) (map (throughout is_encodable) (map (λ e. e.0) cs)))
    (e.1 h2.0) (each fs cs h2.1)

lists : (fs : List FlatFunc) (css : List (List ((st : Stmt) × Claim fs st)))
    → IsTrue (list_all (list_all (λ ok. ok)) (map (map (throughout (is_fine fs all all))) (map (map (λ e. e.0)) css)))
    → IsTrue (list_all (list_all (λ ok. ok)) (map (map (throughout is_encodable)) (map (map (λ e. e.0)) css)))
lists fs [] h = refl
lists fs (cs ∷ css) h =
    let h2 = both (list_all (λ ok. ok) (map (throughout (is_fine fs all all)) (map (λ e. e.0) cs)))
    (list_all (list_all (λ ok. ok)) (map (map (throughout (is_fine fs all all))) (map (map (λ e. e.0)) css))) h in
    and_of (list_all (λ ok. ok) (map (throughout is_encodable) (map (λ e. e.0) cs))) (list_all (list_all (λ ok. ok))
    (map (map (throughout is_encodable)) (map (map (λ e. e.0)) css))) (each fs cs h2.0) (lists fs css h2.1)

statement_encodable : (fs : List FlatFunc) (st : Stmt) → Claim fs st
statement_encodable fs = ind-Stmt (Claim fs) (λ x y is. subst (λ z. Claim fs (roll-Stmt z)) is (layer y))
  where
    layer : (y : Stmt-F ((st : Stmt) × Claim fs st))
        → Claim fs (roll-Stmt (map-Stmt ((st : Stmt) × Claim fs st) Stmt (λ e. e.0) y))
    layer y h =
        let z = map-Stmt ((st : Stmt) × Claim fs st) Stmt (λ e. e.0) y in
        let ps = (same_layer fs (λ e. e.0) y).inner in
        let rolled : (test : Stmt-F Bool → Bool)
        → throughout test (roll-Stmt z) ≡ (test (map-Stmt Stmt Bool (throughout test) z)
        && list_all (list_all (λ ok. ok)) (map (map (throughout test)) (parts z))) =
        λ test. fold-roll-Stmt Bool (λ y. test y && list_all (list_all (λ ok. ok)) (parts y)) z
        ∙ ap (λ q. test (map-Stmt Stmt Bool (throughout test) z) && list_all (list_all (λ ok. ok)) q)
        (same_layer fs (throughout test) z).inner in
        let h2 = both _ _ (subst IsTrue (rolled (is_fine fs all all)) h) in
        let own = own_encodable fs z (subst IsTrue (same_layer fs (throughout (is_fine fs all all)) z).fine h2.0) in
        let inner = lists fs (parts y) (subst
        (λ q. IsTrue (list_all (list_all (λ ok. ok)) (map (map (throughout (is_fine fs all all))) q))) ps h2.1) in
        subst IsTrue (sym (rolled is_encodable))
        (and_of (is_encodable (map-Stmt Stmt Bool (throughout is_encodable) z)) _
        (subst IsTrue (sym (same_layer fs (throughout is_encodable) z).encodable) own)
        (subst (λ q. IsTrue (list_all (list_all (λ ok. ok)) (map (map (throughout is_encodable)) q))) (sym ps) inner))

pub body_encodable : (fs : List FlatFunc) (names : ℕ) (body : List Stmt)
    → IsTrue (list_all (throughout (fits fs names)) body) → IsTrue (list_all (throughout uses_registers) body)
    → IsTrue (list_all (throughout is_encodable) body)
body_encodable fs names [] h k = refl
body_encodable fs names (st ∷ body) h k =
    let h2 = both (throughout (fits fs names) st) (list_all (throughout (fits fs names)) body) h in
    let k2 = both (throughout uses_registers st) (list_all (throughout uses_registers) body) k in
    and_of (throughout is_encodable st) (list_all (throughout is_encodable) body)
    (statement_encodable fs st
    (statement_fine fs names all all st h2.0 k2.0 (throughout_true st) (λ x l. refl) (λ g l. refl)))
    (body_encodable fs names body h2.1 k2.1)
