-- Lists, one item at a time.
use Rattle.std.proofs.Common.{◌≡◌, ℕ, ◌+◌, ◌<◌, List, map, max, length, get_or, drop, arith}
use Rattle.std.proofs.lemmas.Grind.{common_steps}
use Rattle.br_flatimp.specs.Sizes.{largest}

-- the largest from a place on is that of the item there or of those after it
pub largest_item : {X : Type 0} (F : X → ℕ) (xs : List X) (i : ℕ) (x : X) → i < length xs → x ≡ get_or xs i x
    → largest (map F (drop i xs)) ≡ max (F x) (largest (map F (drop (i + 1) xs)))
largest_item F xs i x inside is = grind (arith, common_steps)
