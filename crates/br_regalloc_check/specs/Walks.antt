-- Sets of names below a bound, and rows of a table that belong to statements.
use Rattle.std.specs.Prelude.{◌≡◌, ℕ, Bool, suc, max, ◌<◌, ◌≤◌, ◌^◌, IsTrue}
use Rattle.std.specs.Prelude.{List, [], ◌∷◌, ◌++◌, map, drop}
use Rattle.std.specs.List.{AllByRecursion}
use Rattle.br_flatimp.specs.declared.program.FlatFunc.{FlatFunc}
use Rattle.br_flatimp.specs.declared.program.Stmt.{Stmt}
use Rattle.br_flatimp.specs.Values.{Names}
use Rattle.br_flatimp.specs.Liveness.{is_in, before_all, Moment}
use Rattle.br_flatimp.specs.WellFormed.{all_differ, are_below}
use Rattle.br_flatimp.specs.Parts.{function_names}
use Rattle.br_flatimp.specs.Sizes.{function_count}
use Rattle.br_live.specs.Tables.{Row, rows_after}

-- no other name of a set below a bound gets the new name that a name gets
abbrev pub IsApartBelow : ℕ → (ℕ → ℕ) → ℕ → Names → Type 0
IsApartBelow bound to x live = (z : ℕ) → z < bound → IsTrue (live z) → to z ≡ to x → z ≡ x

-- two different names of a set, both below a bound, get different new names
abbrev pub AreApartBelow : ℕ → (ℕ → ℕ) → Names → Type 0
AreApartBelow bound to live = (x : ℕ) → x < bound → IsTrue (live x) → IsApartBelow bound to x live

-- what a statement needs of the names below a bound
pub record MayRenameBelow (bound : ℕ) (to : ℕ → ℕ) (m : Moment) : Type 0 where
  pub differ : IsTrue (all_differ (map to m.written))
  pub apart : (x : ℕ) → IsTrue (is_in m.written x) → IsApartBelow bound to x m.after_write

-- each row is one of so many names
abbrev pub HaveBound : ℕ → List Row → Type 0
HaveBound bound = AllByRecursion (λ (r : Row). r.bound ≡ bound)

-- each row has room for a name
abbrev pub HaveName : ℕ → List Row → Type 0
HaveName x = AllByRecursion (λ (r : Row). x < r.bound)

-- from a number on, the rows begin with those of statements
abbrev pub StandsAt : List Row → ℕ → ℕ → List Moment → Type 0
StandsAt rows at names ms = (rest : List Row) × (drop at rows ≡ rows_after names ms ++ rest)

-- Whether a name is live before statements, when it is known what is live after them; where there
-- is no statement, what is given.
abbrev pub start_of : List Stmt → Bool → Names → ℕ → Bool
start_of [] none end x = none
start_of (s ∷ rest) none end x = before_all (s ∷ rest) end x

-- a count of names, raised so that other names are below it too
abbrev pub counted : ℕ → List ℕ → ℕ
counted n [] = n
counted n (x ∷ xs) = counted (max n (suc x)) xs

-- a function whose names are below their count, of which there are few, and with few statements
pub record IsFit (f : FlatFunc) : Type 0 where
  pub below : IsTrue (are_below f.names (function_names f))
  pub names : f.names ≤ 1048576
  pub count : function_count f < 2 ^ 32
