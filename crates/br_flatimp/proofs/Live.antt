-- Lemmas on liveness: what it hands on from the end of a list, and the least set at a loop's test.
use Rattle.std.proofs.Common.{◌≡◌, ℕ, Bool, true, false, not, ◌&&◌, ◌||◌, List, []}
use Rattle.std.proofs.Common.{◌∷◌, map, ◌⊎◌, inl, inr, refl, sym, subst, IsTrue}
use Rattle.br_flatimp.specs.declared.program.Cond.{Cond}
use Rattle.br_flatimp.specs.declared.program.Stmt.{Stmt, map-Stmt}
use Rattle.br_flatimp.specs.declared.program.Stmt.TheOpen.{Stmt-F}
use Rattle.br_flatimp.specs.declared.program.Stmt.TheFolds.{fold-roll-Stmt, ind-Stmt}
use Rattle.br_flatimp.specs.Parts.{test_names, operand_names}
use Rattle.br_flatimp.specs.Values.{Names}
use Rattle.br_flatimp.specs.Liveness.{nothing, is_in, union, without, Within, Live, entry}
use Rattle.br_flatimp.specs.Liveness.{at_test, before_step, live_step, live, before}

pub or_left : (a b : Bool) → IsTrue a → IsTrue (a || b)
or_left true b h = refl
or_left false b h = absurd (cc h)

pub or_right : (a b : Bool) → IsTrue b → IsTrue (a || b)
or_right true b h = refl
or_right false b h = h

pub or_cases : (a b : Bool) → IsTrue (a || b) → IsTrue a ⊎ IsTrue b
or_cases true b h = inl refl
or_cases false b h = inr h

pub and_both : (a b : Bool) → IsTrue (a && b) → IsTrue a × IsTrue b
and_both true b h = (refl, h)
and_both false b h = absurd (cc h)

pub both_and : (a b : Bool) → IsTrue a → IsTrue b → IsTrue (a && b)
both_and true b h k = k
both_and false b h k = absurd (cc h)

-- A function of sets looks at each name by itself, and more in gives no less out.
abbrev pub IsPointwise : (Names → Names) → Type 0
IsPointwise f = (a b : Names) (x : ℕ) → (IsTrue (a x) → IsTrue (b x)) → IsTrue (f a x) → IsTrue (f b x)

pub pointwise-itself : IsPointwise (λ a. a)
pointwise-itself a b x h k = h k

or_or : (p q r s : Bool) → (IsTrue p → IsTrue r) → (IsTrue q → IsTrue s) → IsTrue (p || q) → IsTrue (r || s)
or_or true q r s h k e = or_left r s (h refl)
or_or false q r s h k e = or_right r s (k e)

and_and : (p q r : Bool) → (IsTrue p → IsTrue r) → IsTrue (p && q) → IsTrue (r && q)
and_and true q r h e = both_and r q (h refl) e
and_and false q r h e = absurd (cc e)

pub pointwise-union : (f g : Names → Names) → IsPointwise f → IsPointwise g → IsPointwise (λ a. union (f a) (g a))
pointwise-union f g h k a b x e = or_or (f a x) (g a x) (f b x) (g b x) (h a b x e) (k a b x e)

pub pointwise-without : (f : Names → Names) (xs : List ℕ) → IsPointwise f → IsPointwise (λ a. without (f a) xs)
pointwise-without f xs h a b x e = and_and (f a x) (not (is_in xs x)) (f b x) (h a b x e)

pub pointwise-constant : (c : Names) → IsPointwise (λ a. c)
pointwise-constant c a b x e k = k

pub pointwise-after : (f g : Names → Names) → IsPointwise f → IsPointwise g → IsPointwise (λ a. f (g a))
pointwise-after f g h k a b x e = h (g a) (g b) x (k a b x e)

-- statements beside the fact on each
abbrev Known : Type 0
Known = (c : Stmt) × IsPointwise (live c).before

abbrev lives : List Known → List Live
lives cs = map live (map (λ e. e.0) cs)

pointwise-each : (cs : List Known) → IsPointwise (entry (lives cs))
pointwise-each [] = pointwise-itself
pointwise-each (e ∷ cs) = pointwise-after (live e.0).before (entry (lives cs)) e.1 (pointwise-each cs)

pointwise-read : (xs ys : List ℕ) → IsPointwise (λ a. union (without a xs) (is_in ys))
pointwise-read xs ys = pointwise-union (λ a. without a xs) (λ a. is_in ys)
    (pointwise-without (λ a. a) xs pointwise-itself) (pointwise-constant (is_in ys))

pointwise-test : (first : List Live) (test : Cond) (last : List Live) → IsPointwise (entry last)
    → IsPointwise (at_test first test last)
pointwise-test first test last h =
    pointwise-union (λ a. is_in (test_names test)) (λ a. union a (entry last (entry first nothing)))
    (pointwise-constant (is_in (test_names test)))
    (pointwise-union (λ a. a) (λ a. entry last (entry first nothing)) pointwise-itself
    (pointwise-constant (entry last (entry first nothing))))

pointwise-step : (y : Stmt-F Known)
    → IsPointwise (before_step (map-Stmt Stmt Live live (map-Stmt Known Stmt (λ e. e.0) y)))
pointwise-step (Stmt-F.Lit x n) = pointwise-read (x ∷ []) []
pointwise-step (Stmt-F.Copy x y) = pointwise-read (x ∷ []) (y ∷ [])
pointwise-step (Stmt-F.Op x op y z) = pointwise-read (x ∷ []) (y ∷ operand_names z)
pointwise-step (Stmt-F.Load x size y offset) = pointwise-read (x ∷ []) (y ∷ [])
pointwise-step (Stmt-F.Store size y z offset) = pointwise-read [] (y ∷ z ∷ [])
pointwise-step (Stmt-F.Table x size bytes y) = pointwise-read (x ∷ []) (y ∷ [])
pointwise-step (Stmt-F.Stackalloc x n body) = pointwise-without (entry (lives body)) (x ∷ []) (pointwise-each body)
pointwise-step (Stmt-F.If test first second) =
    pointwise-union (λ a. is_in (test_names test)) (λ a. union (entry (lives first) a) (entry (lives second) a))
    (pointwise-constant (is_in (test_names test)))
    (pointwise-union (entry (lives first)) (entry (lives second)) (pointwise-each first) (pointwise-each second))
pointwise-step (Stmt-F.Loop first test last) =
    pointwise-after (entry (lives first)) (at_test (lives first) test (lives last)) (pointwise-each first)
    (pointwise-test (lives first) test (lives last) (pointwise-each last))
pointwise-step (Stmt-F.Call xs g ys) = pointwise-read xs ys
pointwise-step (Stmt-F.Read x y) = pointwise-read (x ∷ []) (y ∷ [])
pointwise-step (Stmt-F.Write y z) = pointwise-read [] (y ∷ z ∷ [])

pub pointwise-before : (c : Stmt) → IsPointwise (live c).before
pointwise-before = ind-Stmt (λ c. IsPointwise (live c).before) (λ x y is.
    let step = subst (λ z. IsPointwise (before_step (map-Stmt Stmt Live live z))) is (pointwise-step y) in
    subst (λ l. IsPointwise l.before) (sym (fold-roll-Stmt Live live_step x)) step)

pub pointwise-entry : (cs : List Stmt) → IsPointwise (entry (map live cs))
pointwise-entry [] = pointwise-itself
pointwise-entry (c ∷ cs) =
    pointwise-after (live c).before (entry (map live cs)) (pointwise-before c) (pointwise-entry cs)

-- ---- the least set at a loop's test

-- what is live where the first part and then the last part are gone through backward from a set
handed : (f : Names → Names) → IsPointwise f → (t : Names) (x : ℕ) → IsTrue (f t x)
    → IsTrue (f nothing x) ⊎ IsTrue (t x)
handed f h t x k =
    elim (t x) as (λ b. t x ≡ b → IsTrue (f nothing x) ⊎ IsTrue (t x)) [
      | true ↦ λ e. inr e
      | false ↦ λ e. inl (h t nothing x (λ yes. absurd (cc (e, yes))) k)
    ] refl

-- the set keeps the rule of a loop's test: it holds what one more turn hands on
pub test-holds : (first : List Stmt) (test : Cond) (last : List Stmt) (after : Names) →
    let t : Names = at_test (map live first) test (map live last) after in
    Within (union (is_in (test_names test)) (union after (entry (map live last) (entry (map live first) t)))) t
test-holds first test last after x h =
    let f : Names → Names = λ a. entry (map live last) (entry (map live first) a) in
    let point : IsPointwise f = pointwise-after (entry (map live last)) (entry (map live first)) (pointwise-entry last)
    (pointwise-entry first) in
    let t : Names = at_test (map live first) test (map live last) after in
    let named : Bool = is_in (test_names test) x in
    elim (or_cases named (after x || f t x) h) as (λ w. IsTrue (t x)) [
      | inl n ↦ or_left named (after x || f nothing x) n
      | inr more ↦ elim (or_cases (after x) (f t x) more) as (λ w. IsTrue (t x)) [
        | inl a ↦ or_right named (after x || f nothing x) (or_left (after x) (f nothing x) a)
        | inr e ↦ elim (handed f point t x e) as (λ w. IsTrue (t x)) [
          | inl back ↦ or_right named (after x || f nothing x) (or_right (after x) (f nothing x) back)
          | inr there ↦ there
        ]
      ]
    ]

-- and it is the least that does
pub test-least : (first : List Stmt) (test : Cond) (last : List Stmt) (after set : Names) →
    Within (union (is_in (test_names test)) (union after (entry (map live last) (entry (map live first) set)))) set →
    Within (at_test (map live first) test (map live last) after) set
test-least first test last after set closed x h =
    let f : Names → Names = λ a. entry (map live last) (entry (map live first) a) in
    let point : IsPointwise f = pointwise-after (entry (map live last)) (entry (map live first)) (pointwise-entry last)
    (pointwise-entry first) in
    closed x (or_or (is_in (test_names test) x) (after x || f nothing x) (is_in (test_names test) x)
    (after x || f set x) (λ e. e)
    (or_or (after x) (f nothing x) (after x) (f set x) (λ e. e) (point nothing set x (λ e. absurd (cc e)))) h)

-- more that is live after a statement is no less that is live before it
pub grows-before : (c : Stmt) (small large : Names) → Within small large → Within (before c small) (before c large)
grows-before c small large h x e = pointwise-before c small large x (h x) e
