-- Sums of lists, number by number.
use Rattle.std.proofs.Common.{◌≡◌, ℕ, ◌+◌, List, [], ◌∷◌, sum, ◌∙◌, arith}
use Rattle.std.specs.List.{fold}

fold_from : (a : ℕ) (xs : List ℕ) → fold ◌+◌ a xs ≡ a + sum xs
fold_from a [] = omega arith
fold_from a (x ∷ xs) = fold_from (a + x) xs ∙ (let e = fold_from (0 + x) xs in omega (arith, e))

pub sum_cons : (x : ℕ) (xs : List ℕ) → sum (x ∷ xs) ≡ x + sum xs
sum_cons x xs = fold_from (0 + x) xs ∙ omega arith
