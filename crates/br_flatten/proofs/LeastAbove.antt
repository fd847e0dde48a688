-- The least number above those of a list that is made of others.
use Rattle.std.proofs.Common.{◌≡◌, ℕ, ◌+◌, ◌<◌, max, List, [], ◌∷◌, ◌++◌, map}
use Rattle.std.proofs.Common.{length, get_or, drop, refl, ap, ◌∙◌, arith}
use Rattle.std.specs.List.{flat_map}
use Rattle.std.proofs.lemmas.Grind.{common_steps}
use Rattle.br_flatten.specs.Flatten.{above}

pub above-append : (xs ys : List ℕ) → above (xs ++ ys) ≡ max (above xs) (above ys)
above-append [] ys = omega arith
above-append (x ∷ xs) ys = omega (arith, above-append xs ys)

pub flat_map-map : {X : Type 0} (F : X → List ℕ) (xs : List X) → flat_map (λ ys. ys) (map F xs) ≡ flat_map F xs
flat_map-map F [] = refl
flat_map-map F (x ∷ xs) = ap (λ ys. F x ++ ys) (flat_map-map F xs)

-- one item of a list further
pub above_item : {X : Type 0} (F : X → List ℕ) (xs : List X) (i : ℕ) (x : X) → i < length xs → x ≡ get_or xs i x
    → above (flat_map F (drop i xs)) ≡ max (above (F x)) (above (flat_map F (drop (i + 1) xs)))
above_item {X} F xs i x inside is =
    let split : drop i xs ≡ x ∷ drop (i + 1) xs = grind (arith, common_steps) in
    ap (λ (ys : List X). above (flat_map F ys)) split ∙ above-append (F x) (flat_map F (drop (i + 1) xs))
