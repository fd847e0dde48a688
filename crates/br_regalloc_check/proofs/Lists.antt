-- Facts on each element of lists in two parts, and on names that are written.
use Rattle.std.proofs.Common.{◌≡◌, ℕ, ◌+◌, ◌<◌, Bool, true, false, ◌||◌, ◌&&◌, not, ◌==◌, IsTrue, ◌⊎◌, inl, inr}
use Rattle.std.proofs.Common.{List, [], ◌∷◌, ◌++◌, map, length, get_or, drop, refl, sym, ap, subst, ◌∙◌, arith}
use Rattle.std.specs.List.{AllByRecursion}
use Rattle.std.proofs.lemmas.Grind.{common_steps}
use Rattle.br_flatimp.specs.Liveness.{is_in}
use Rattle.br_flatimp.specs.WellFormed.{all_differ}

pub all-split : {X : Type 0} (P : X → Type 0) (xs ys : List X) → AllByRecursion P (xs ++ ys)
    → AllByRecursion P xs × AllByRecursion P ys
all-split P [] ys h = (tt, h)
all-split P (x ∷ xs) ys h = let rest = all-split P xs ys h.1 in ((h.0, rest.0), rest.1)

pub all-join : {X : Type 0} (P : X → Type 0) (xs ys : List X) → AllByRecursion P xs → AllByRecursion P ys
    → AllByRecursion P (xs ++ ys)
all-join P [] ys h k = k
all-join P (x ∷ xs) ys h k = (h.0, all-join P xs ys h.1 k)

pub all-change : {X : Type 0} (P Q R : X → Type 0) → ((x : X) → P x → Q x → R x) → (xs : List X) → AllByRecursion P xs
    → AllByRecursion Q xs → AllByRecursion R xs
all-change P Q R step [] h k = tt
all-change P Q R step (x ∷ xs) h k = (step x h.0 k.0, all-change P Q R step xs h.1 k.1)

pub drop_next : {X : Type 0} (xs : List X) (k : ℕ) (d : X) → k < length xs → drop k xs ≡ get_or xs k d ∷ drop (k + 1) xs
drop_next xs k d inside = grind (arith, common_steps)

-- ---- tests

pub or_left : (a b : Bool) → IsTrue a → IsTrue (a || b)
or_left true b h = refl
or_left false b h = absurd (cc h)

pub or_right : (a b : Bool) → IsTrue b → IsTrue (a || b)
or_right true b h = refl
or_right false b h = h

pub or_cases : (a b : Bool) → IsTrue (a || b) → IsTrue a ⊎ IsTrue b
or_cases true b h = inl refl
or_cases false b h = inr h

pub and_both : (a b : Bool) → IsTrue (a && b) → IsTrue a × IsTrue b
and_both true b h = (refl, h)
and_both false b h = absurd (cc h)

pub both_and : (a b : Bool) → IsTrue a → IsTrue b → IsTrue (a && b)
both_and true b h k = k
both_and false b h k = absurd (cc h)

pub not_of : (b : Bool) → b ≡ false → IsTrue (not b)
not_of b e = rw e refl

pub not_from : (b : Bool) → IsTrue (not b) → b ≡ false
not_from true h = absurd (cc h)
not_from false h = refl

pub eq_true : (x y : ℕ) → (x == y) ≡ true → x ≡ y
eq_true x y h = grind (arith, common_steps)

pub eq_self : (x : ℕ) → IsTrue (x == x)
eq_self x = grind (arith, common_steps)

-- ---- names in lists

pub in_head : (x : ℕ) (xs : List ℕ) → IsTrue (is_in (x ∷ xs) x)
in_head x xs = or_left (x == x) (is_in xs x) (eq_self x)

pub in_one : (x y : ℕ) → IsTrue (is_in (x ∷ []) y) → x ≡ y
in_one x y h = elim (or_cases (x == y) false h) [ inl e ↦ eq_true x y e | inr e ↦ absurd (cc e) ]

pub in_map : (to : ℕ → ℕ) (xs : List ℕ) (x : ℕ) → IsTrue (is_in xs x) → IsTrue (is_in (map to xs) (to x))
in_map to [] x h = absurd (cc h)
in_map to (y ∷ ys) x h = elim (or_cases (y == x) (is_in ys x) h) [
  | inl e ↦ or_left (to y == to x) (is_in (map to ys) (to x))
      (let same : y ≡ x = eq_true y x e in subst (λ z. IsTrue (to y == to z)) same (eq_self (to y)))
  | inr e ↦ or_right (to y == to x) (is_in (map to ys) (to x)) (in_map to ys x e)
]

-- a new name is that of no name in a list where the name is not there and each that gets its new name is the name
pub not-in-map : (to : ℕ → ℕ) (xs : List ℕ) (x : ℕ) → ((w : ℕ) → IsTrue (is_in xs w) → to x ≡ to w → x ≡ w)
    → is_in xs x ≡ false → is_in (map to xs) (to x) ≡ false
not-in-map to [] x apart h = refl
not-in-map to (y ∷ ys) x apart h =
    by (y == x) (to y == to x) refl refl (not-in-map to ys x (λ w i. apart w (or_right (y == w) (is_in ys w) i))) h
  where
    by : (a b : Bool) → (y == x) ≡ a → (to y == to x) ≡ b → (is_in ys x ≡ false → is_in (map to ys) (to x) ≡ false)
        → (a || is_in ys x) ≡ false
        → (b || is_in (map to ys) (to x)) ≡ false
    by true b e f rest k = absurd (cc k)
    by false true e f rest k =
        let same : x ≡ y = apart y (in_head y ys) (sym (eq_true (to y) (to x) f)) in
        absurd (cc (e, subst (λ z. IsTrue (y == z)) (sym same) (eq_self y)))
    by false false e f rest k = rest k

-- a fact on each of the names in a list
pub each-in : (P : ℕ → Type 0) (xs : List ℕ) → AllByRecursion P xs → (x : ℕ) → IsTrue (is_in xs x) → P x
each-in P [] h x i = absurd (cc i)
each-in P (y ∷ ys) h x i = elim (or_cases (y == x) (is_in ys x) i) [
  | inl e ↦ subst P (eq_true y x e) h.0
  | inr e ↦ each-in P ys h.1 x e
]

pub in-each : (P : ℕ → Type 0) (xs : List ℕ) → ((x : ℕ) → IsTrue (is_in xs x) → P x) → AllByRecursion P xs
in-each P [] h = tt
in-each P (y ∷ ys) h = (h y (in_head y ys), in-each P ys (λ x i. h x (or_right (y == x) (is_in ys x) i)))

-- names whose new names differ stay apart
pub differ-apart : (to : ℕ → ℕ) (xs : List ℕ) → IsTrue (all_differ (map to xs)) → (x z : ℕ) → IsTrue (is_in xs x)
    → IsTrue (is_in xs z) → to z ≡ to x → z ≡ x
differ-apart to [] h x z i j same = absurd (cc i)
differ-apart to (y ∷ ys) h x z i j same =
    let parts = and_both (not (is_in (map to ys) (to y))) (all_differ (map to ys)) h in
    let other : (w : ℕ) → IsTrue (is_in ys w) → to w ≡ to y → ⊥ = λ w k e.
    let there : IsTrue (is_in (map to ys) (to y)) = subst (λ v. IsTrue (is_in (map to ys) v)) e (in_map to ys w k) in
    absurd (cc (there, not_from (is_in (map to ys) (to y)) parts.0)) in
    elim (or_cases (y == x) (is_in ys x) i) [
      | inl a ↦ elim (or_cases (y == z) (is_in ys z) j) [
        | inl b ↦ sym (eq_true y z b) ∙ eq_true y x a
        | inr b ↦ absurd (other z b (same ∙ ap to (sym (eq_true y x a))))
      ]
      | inr a ↦ elim (or_cases (y == z) (is_in ys z) j) [
        | inl b ↦ absurd (other x a (sym same ∙ ap to (sym (eq_true y z b))))
        | inr b ↦ differ-apart to ys parts.1 x z a b same
      ]
    ]
