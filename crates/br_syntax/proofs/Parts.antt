-- What parts with no fault say of the whole.
use Rattle.std.proofs.Common.{◌≡◌, Ok, Err, refl, ap}
use Rattle.br_syntax.specs.Shaped.{Shaped, ◌<$>◌, both}

-- the part that makes such a whole
pub record Made {A B : Type 0} (f : A → B) (s : Shaped A) (b : B) : Type 0 where
  pub part : A
  pub is : s ≡ Ok part
  pub whole : b ≡ f part

pub made : {A B : Type 0} (f : A → B) (s : Shaped A) (b : B) → f <$> s ≡ Ok b → Made f s b
made f (Ok a) b e = record { part = a; is = refl; whole = cc }
made f (Err fault) b e = absurd (cc)

-- two parts with no fault
pub record Both {A B : Type 0} (s : Shaped A) (t : Shaped B) (p : A × B) : Type 0 where
  pub first : s ≡ Ok p.0
  pub second : t ≡ Ok p.1

pub split : {A B : Type 0} (s : Shaped A) (t : Shaped B) (p : A × B) → both s t ≡ Ok p → Both s t p
split {A} {B} (Ok a) (Ok b) p e =
    let same : (a, b) ≡ p = cc in
    record { first = ap (λ (q : A × B). Ok q.0) same; second = ap (λ (q : A × B). Ok q.1) same }
split (Ok a) (Err g) p e = absurd (cc)
split (Err f) (Ok b) p e = absurd (cc)
split (Err f) (Err g) p e = absurd (cc)
