-- What a tree stands for at a place, or its lowest fault.
use Rattle.std.specs.Prelude.{List, [], ◌∷◌, ◌++◌, Result, Ok, Err}
use Rattle.br_syntax.specs.declared.faults.ShapeFault.{ShapeFault}
use Rattle.br_syntax.specs.FaultOrder.{lower}

-- what a tree stands for, or the lowest of the faults in it
abbrev pub Shaped : Type 0 → Type 0
Shaped T = Result T ShapeFault

infixl 10 ◌<$>◌
-- what is made of a part that has no fault
abbrev pub ◌<$>◌ : {A B : Type 0} → (A → B) → Shaped A → Shaped B
f <$> Ok a = Ok (f a)
f <$> Err fault = Err fault

-- a fault, or the other part's where that is lower
abbrev pub lowest : {B : Type 0} → ShapeFault → Shaped B → ShapeFault
lowest fault (Ok b) = fault
lowest fault (Err other) = lower fault other

-- two parts, or the lower of their faults
abbrev pub both : {A B : Type 0} → Shaped A → Shaped B → Shaped (A × B)
both (Ok a) (Ok b) = Ok (a, b)
both (Ok a) (Err fault) = Err fault
both (Err fault) (Ok b) = Err fault
both (Err fault) (Err other) = Err (lower fault other)

-- parts in turn, or the lowest of their faults
abbrev pub all : {A : Type 0} → List (Shaped A) → Shaped (List A)
all [] = Ok []
all (part ∷ parts) = (λ p. p.0 ∷ p.1) <$> both part (all parts)

-- the parts so far and those that follow
abbrev pub joined : {A : Type 0} → Shaped (List A) → Shaped (List A) → Shaped (List A)
joined front back = (λ p. p.0 ++ p.1) <$> both front back

-- the parts so far and one more
abbrev pub with_one : {A : Type 0} → Shaped (List A) → Shaped A → Shaped (List A)
with_one front part = (λ p. p.0 ++ p.1 ∷ []) <$> both front part
