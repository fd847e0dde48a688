-- A part of a list is no deeper than the list.
use Rattle.std.proofs.Common.{ℕ, zero, suc, ◌-◌, ◌≤◌, List, [], ◌∷◌, take, drop, arith}
use denote.Param.Weighed.{most}

pub most-take-le : {X : Type 0} (size : X → ℕ) (n : ℕ) (xs : List X) → most size (take n xs) ≤ most size xs
most-take-le size zero xs = omega arith
most-take-le size (suc n) [] = omega arith
most-take-le size (suc n) (x ∷ xs) = omega (arith, most-take-le size n xs)

pub most-drop-le : {X : Type 0} (size : X → ℕ) (n : ℕ) (xs : List X) → most size (drop n xs) ≤ most size xs
most-drop-le size zero xs = omega arith
most-drop-le size (suc n) [] = omega arith
most-drop-le size (suc n) (x ∷ xs) = omega (arith, most-drop-le size n xs)

-- the elements from one place up to another
pub most_part_le : {X : Type 0} (size : X → ℕ) (from to : ℕ) (xs : List X)
    → most size (take (to - from) (drop from xs)) ≤ most size xs
most_part_le size from to xs = omega (arith, most-take-le size (to - from) (drop from xs), most-drop-le size from xs)
