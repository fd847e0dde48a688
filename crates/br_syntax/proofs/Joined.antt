-- How the parts so far and those that follow make the whole.
use Rattle.std.proofs.Common.{◌≡◌, List, [], ◌∷◌, Ok, Err, refl, ap, sym, append_assoc, append-nil, arith}
use Rattle.std.proofs.lemmas.Grind.{common_steps}
use Rattle.br_syntax.specs.declared.faults.ShapeFault.{ShapeFault}
use Rattle.br_syntax.specs.FaultOrder.{lower}
use Rattle.br_syntax.specs.Shaped.{Shaped, ◌<$>◌, both, joined, with_one}

pub lower_assoc : (f g h : ShapeFault) → lower f (lower g h) ≡ lower (lower f g) h
lower_assoc f g h = grind (arith, common_steps)

pub joined_none : {A : Type 0} → (front : Shaped (List A)) → joined front (Ok []) ≡ front
joined_none (Ok xs) = ap Ok (append-nil xs)
joined_none (Err fault) = refl

pub none_joined : {A : Type 0} → (back : Shaped (List A)) → joined (Ok []) back ≡ back
none_joined (Ok xs) = refl
none_joined (Err fault) = refl

pub joined_one : {A : Type 0} → (front : Shaped (List A)) (part : Shaped A) (back : Shaped (List A))
    → joined front ((λ p. p.0 ∷ p.1) <$> both part back) ≡ joined (with_one front part) back
joined_one (Ok xs) (Ok x) (Ok ys) = ap Ok (sym (append_assoc xs (x ∷ []) ys))
joined_one (Ok xs) (Ok x) (Err h) = refl
joined_one (Ok xs) (Err g) (Ok ys) = refl
joined_one (Ok xs) (Err g) (Err h) = refl
joined_one (Err f) (Ok x) (Ok ys) = refl
joined_one (Err f) (Ok x) (Err h) = refl
joined_one (Err f) (Err g) (Ok ys) = refl
joined_one (Err f) (Err g) (Err h) = ap Err (lower_assoc f g h)

pub ruleset joins = (joined_none, none_joined, joined_one)
