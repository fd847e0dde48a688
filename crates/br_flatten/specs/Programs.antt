-- Which flat programs come from a program of the source language. A function may hold a few
-- literals, whichever they are, where that makes it no larger.
use Rattle.std.specs.Prelude.{◌≡◌, ℕ, ◌≤◌, max, List, [], ◌∷◌, length}
use Rattle.br_syntax.specs.declared.program.Func.{Func}
use Rattle.br_flatimp.specs.declared.program.FlatFunc.{FlatFunc}
use Rattle.br_flatimp.specs.Sizes.{units}
use Rattle.br_flatten.specs.Scope.{Scope, scoped}
use Rattle.br_flatten.specs.Flatten.{flat_function}
use Rattle.br_flatten.specs.Places.{first_places}

-- the variables of a function in the order of their first place, and the literals that it holds
abbrev pub scope_of : Func → List ℕ → Scope
scope_of f held = scoped (first_places f) held

-- a function that is no larger than another: no more names than that has names or units, and
-- no more units
pub record IsNoLarger (q p : FlatFunc) : Type 0 where
  pub names : q.names ≤ max p.names (units p)
  pub units : units q ≤ units p

-- the flat function of a function of a program
pub record IsFlat (fs : List Func) (f : Func) (q : FlatFunc) : Type 0 where
  pub held : List ℕ
  pub is : q ≡ flat_function fs (scope_of f held) f
  pub few : length held ≤ 8
  pub small : IsNoLarger q (flat_function fs (scope_of f []) f)

-- each function beside its source
abbrev pub AreFlat : List Func → List Func → List FlatFunc → Type 0
AreFlat fs [] [] = Unit {0}
AreFlat fs (f ∷ gs) (q ∷ qs) = IsFlat fs f q × AreFlat fs gs qs
AreFlat fs [] (q ∷ qs) = ⊥
AreFlat fs (f ∷ gs) [] = ⊥
