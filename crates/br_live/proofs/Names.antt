-- Sets of names with numbers added and taken away, and how summaries hand on what is live.
use Rattle.std.proofs.Common.{◌≡◌, ℕ, zero, suc, ◌+◌, ◌<◌, Bool, true, false, not, ◌&&◌, ◌||◌, List, []}
use Rattle.std.proofs.Common.{◌∷◌, ◌==◌, length, get_or, drop, refl, sym, ap, ◌∙◌, arith, IsTrue, nat_lt}
use Rattle.std.proofs.Math.Path.{fun_ext}
use Rattle.std.proofs.Math.Bool.{or-false, and-true}
use Rattle.std.proofs.lemmas.Bool.{and_parts, ltb-true}
use Rattle.std.proofs.lemmas.Grind.{common_steps}
use Rattle.br_flatimp.specs.Values.{Names}
use Rattle.br_flatimp.specs.WellFormed.{are_below}
use Rattle.br_flatimp.specs.Liveness.{nothing, is_in, union, without}
use Rattle.br_live.specs.Sets.{difference, common}

-- ---- numbers in turn

or_assoc : (a b c : Bool) → ((a || (b || false)) || c) ≡ (a || (b || c))
or_assoc true b c = refl
or_assoc false true c = refl
or_assoc false false c = refl

and_nor : (a b c : Bool) → ((a && not (b || false)) && not c) ≡ (a && not (b || c))
and_nor false b c = refl
and_nor true true c = refl
and_nor true false c = refl

pub union-none : (a : Names) → union a (is_in []) ≡ a
union-none a = fun_ext (λ y. or-false (a y))

pub without-none : (a : Names) → without a [] ≡ a
without-none a = fun_ext (λ y. and-true (a y))

pub union-more : (a : Names) (xs : List ℕ) (i d : ℕ) → i < length xs
    → union (union a (is_in (get_or xs i d ∷ []))) (is_in (drop (i + 1) xs)) ≡ union a (is_in (drop i xs))
union-more a xs i d inside =
    let split : drop i xs ≡ get_or xs i d ∷ drop (i + 1) xs = grind (arith, common_steps) in
    fun_ext (λ y. or_assoc (a y) (get_or xs i d == y) (is_in (drop (i + 1) xs) y))
    ∙ ap (λ ys. union a (is_in ys)) (sym split)

pub without-more : (a : Names) (xs : List ℕ) (i d : ℕ) → i < length xs
    → without (without a (get_or xs i d ∷ [])) (drop (i + 1) xs) ≡ without a (drop i xs)
without-more a xs i d inside =
    let split : drop i xs ≡ get_or xs i d ∷ drop (i + 1) xs = grind (arith, common_steps) in
    fun_ext (λ y. and_nor (a y) (get_or xs i d == y) (is_in (drop (i + 1) xs) y)) ∙ ap (without a) (sym split)

pub below-at : (n : ℕ) (xs : List ℕ) (i d : ℕ) → IsTrue (are_below n xs) → i < length xs → get_or xs i d < n
below-at n [] i d h inside = absurd (omega arith)
below-at n (x ∷ xs) zero d h inside = ltb-true x n (and_parts (nat_lt x n) (are_below n xs) h).0
below-at n (x ∷ xs) (suc i) d h inside = below-at n xs i d (and_parts (nat_lt x n) (are_below n xs) h).1 (omega arith)

-- ---- summaries, name by name

later : (e w v r q : Bool) → ((e && not (w || v)) || ((r && not v) || q)) ≡ ((((e && not w) || r) && not v) || q)
later false w true false q = refl
later false w true true q = refl
later false w false false q = refl
later false w false true q = refl
later true true true false q = refl
later true true true true q = refl
later true true false r q = or_first r q
  where
    or_first : (r q : Bool) → ((r && true) || q) ≡ ((r && true) || q)
    or_first r q = refl
later true false true false q = refl
later true false true true q = refl
later true false false r q = refl

either : (e w v r q : Bool) → ((e && not (w && v)) || (r || q)) ≡ (((e && not w) || r) || ((e && not v) || q))
either false w v true q = refl
either false w v false q = refl
either true true true true q = refl
either true true true false q = refl
either true true false true q = refl
either true true false false q = refl
either true false v r q = refl

more : (e w r q : Bool) → ((e && not w) || (r || q)) ≡ (((e && not w) || r) || q)
more false w true q = refl
more false w false q = refl
more true true true q = refl
more true true false q = refl
more true false r q = refl

-- the names of one statement, or of statements, before others
pub hands-later : (after w v r q : Names) → union (difference after (union w v)) (union (difference r v) q)
    ≡ union (difference (union (difference after w) r) v) q
hands-later after w v r q = fun_ext (λ x. later (after x) (w x) (v x) (r x) (q x))

pub hands-either : (after w v r q : Names) → union (difference after (common w v)) (union r q)
    ≡ union (union (difference after w) r) (union (difference after v) q)
hands-either after w v r q = fun_ext (λ x. either (after x) (w x) (v x) (r x) (q x))

pub hands-more : (after w r q v : Names)
    → union (difference after w) (union r q) ≡ union (union (difference after w) r) (union (difference nothing v) q)
hands-more after w r q v = fun_ext (λ x. more (after x) (w x) (r x) (q x))

pub hands-none : (after : Names) → union (difference after nothing) nothing ≡ after
hands-none after = fun_ext (λ x. or-false (after x && true) ∙ and-true (after x))
