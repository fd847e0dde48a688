-- Tables of literals after a change at one name.
use Rattle.std.proofs.Common.{◌≡◌, ℕ, ◌==◌, ◌||◌, Bool, true, false, cond, Option}
use Rattle.std.proofs.Common.{nat_lt, is_eq, Less, Equal, Greater, refl, ap, ◌∙◌, arith}
use mathlib.Core.Path.{fun_ext}
use Rattle.std.specs.Ordering.{nat_cmp}
use Rattle.std.specs.BTreeMap as tree
use Rattle.std.proofs.lemmas.Bool.Decides.{nat_tests}
use Rattle.br_immediates.specs.Immediates.{with_literal}
use Rattle.br_immediates.specs.Tables.{literals_of}

at-name : (x q : ℕ) → is_eq (nat_cmp x q) ≡ ((x == q) || false)
at-name x q = by (nat_lt x q) (x == q) refl refl
  where
    by : (a b : Bool) → nat_lt x q ≡ a → (x == q) ≡ b
        → is_eq (cond (nat_lt x q) Less (cond (x == q) Equal Greater)) ≡ ((x == q) || false)
    by true true e f = absurd (grind (arith, nat_tests))
    by true false e f = rw (e, f) refl
    by false true e f = rw (e, f) refl
    by false false e f = rw (e, f) refl

pub updated : (x : ℕ) (w : Option ℕ) (m n : tree.BTreeMap ℕ ℕ) → tree.UpdatesBy nat_cmp (nat_cmp x) m n w
    → literals_of n ≡ with_literal x w (literals_of m)
updated x w m n h = fun_ext (λ q. h.0 q ∙ ap (λ b. cond b w (literals_of m q)) (at-name x q))
