-- The lowest of faults in parts.
use Rattle.std.proofs.Common.{◌≡◌, ℕ, List, [], ◌∷◌, ◌++◌, Option, Some, None, ◌+◌, ◌<◌, length, get_or, drop, map}
use Rattle.std.proofs.Common.{refl, ap, ◌∙◌, arith}
use Rattle.std.proofs.lemmas.Grind.{common_steps}
use Rattle.br_measure.specs.declared.faults.NameFault.{NameFault}
use Rattle.br_measure.specs.Names.{joined}
use Rattle.br_measure.specs.Lowest.{lower_of, lower, lowest}

pub lower_of_assoc : (f g h : NameFault) → lower_of f (lower_of g h) ≡ lower_of (lower_of f g) h
lower_of_assoc f g h = grind (arith, common_steps)

pub lower_assoc : (f g h : Option NameFault) → lower f (lower g h) ≡ lower (lower f g) h
lower_assoc None g h = refl
lower_assoc (Some f) None h = refl
lower_assoc (Some f) (Some g) None = refl
lower_assoc (Some f) (Some g) (Some h) = ap Some (lower_of_assoc f g h)

pub lower_none : (f : Option NameFault) → lower f None ≡ f
lower_none None = refl
lower_none (Some f) = refl

pub lowest_append : (xs ys : List NameFault) → lowest (xs ++ ys) ≡ lower (lowest xs) (lowest ys)
lowest_append [] ys = refl
lowest_append (x ∷ xs) ys = ap (lower (Some x)) (lowest_append xs ys) ∙ lower_assoc (Some x) (lowest xs) (lowest ys)

-- the fault so far and those of the items that follow, one item further
pub lowest_step : {X : Type 0} (F : X → List NameFault) (xs : List X) (i : ℕ) (x : X)
    (fault part more whole : Option NameFault)
    → i < length xs → x ≡ get_or xs i x → part ≡ lowest (F x) → more ≡ lower fault part
    → lower fault (lowest (joined (map F (drop i xs)))) ≡ whole → lower more (lowest (joined (map F (drop (i + 1) xs))))
    ≡ whole
lowest_step {X} F xs i x fault part more whole inside is found one so_far =
    let split : drop i xs ≡ x ∷ drop (i + 1) xs = grind (arith, common_steps) in
    let there = ap (λ (ys : List X). lowest (joined (map F ys))) split
    ∙ lowest_append (F x) (joined (map F (drop (i + 1) xs))) in
    rw (one, found, ← lower_assoc fault (lowest (F x)) (lowest (joined (map F (drop (i + 1) xs)))), ← there) so_far

pub ruleset lowests = (lower_none, lowest_append)
