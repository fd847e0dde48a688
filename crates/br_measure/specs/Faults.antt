-- The fault of a program, and what holds of a program that has none.
use Rattle.std.specs.Prelude.{◌≡◌, ℕ, ◌<◌, ◌≤◌, ◌⊎◌, List, Some, min, slice_get}
use Rattle.std.specs.List.{All}
use Rattle.br_syntax.specs.declared.program.Func.{Func}
use Rattle.br_syntax.specs.FaultOrder.{IsLowest}
use Rattle.br_syntax.specs.NameFaults.{HasNoNameFault}
use Rattle.br_measure.specs.declared.faults.NameFault.{NameFault}
use Rattle.br_measure.specs.declared.faults.NameFault.TheVariants.{DuplicateFunction}
use Rattle.br_measure.specs.declared.faults.NameFault.TheVariants.{UnknownFunction, WrongArguments}
use Rattle.br_measure.specs.declared.faults.NameFault.TheVariants.{WrongResults, UnknownAction}
use Rattle.br_measure.specs.declared.faults.NameFault.TheVariants.{TooLarge, Recursion}
use Rattle.br_measure.specs.declared.faults.NameFault.TheVariants.{StackTooDeep}
use Rattle.br_measure.specs.Bulk.{bulk, largest_bulk}
use Rattle.br_measure.specs.Names.{place, name_faults}
use Rattle.br_measure.specs.Paths.{CallPath, HasNoRecursion}
use Rattle.br_measure.specs.Measure.{measure}

-- the function numbered f has a path of calls to itself
abbrev pub IsRecursive : List Func → ℕ → Type 0
IsRecursive fs f = (between : List ℕ) × CallPath fs f between f

-- the function numbered f may need s bytes of stack, which are more than a function may need
pub record IsTooDeep (fs : List Func) (f s : ℕ) : Type 0 where
  pub function : Func
  pub at : slice_get fs f ≡ Some function
  pub bytes : s ≡ measure fs function
  pub above : 1048576 < measure fs function

-- A fault of a program none of whose names is at fault. Such faults come in this order: the bulk
-- is too large, else a function is recursive, else a function may need too much stack. The first
-- such function is named.
abbrev pub IsLaterFault : List Func → NameFault → Type 0
IsLaterFault fs (TooLarge b) = (largest_bulk < bulk fs) × (b ≡ min (bulk fs) 4294967295)
IsLaterFault fs (Recursion f) =
    (bulk fs ≤ largest_bulk) × IsRecursive fs f × ((g : ℕ) → g < f → IsRecursive fs g → ⊥)
IsLaterFault fs (StackTooDeep f s) =
    (bulk fs ≤ largest_bulk) × HasNoRecursion fs × IsTooDeep fs f s
    × ((g t : ℕ) → g < f → IsTooDeep fs g t → ⊥)
IsLaterFault fs (DuplicateFunction at) = ⊥
IsLaterFault fs (UnknownFunction at) = ⊥
IsLaterFault fs (WrongArguments at) = ⊥
IsLaterFault fs (WrongResults at) = ⊥
IsLaterFault fs (UnknownAction at) = ⊥

-- the fault of a program: the lowest fault of a name, else a later one
abbrev pub IsFault : List Func → NameFault → Type 0
IsFault fs fault = IsLowest place (name_faults fs) fault ⊎
    (HasNoNameFault fs × IsLaterFault fs fault)

-- a program that has no fault
pub record IsSound (fs : List Func) : Type 0 where
  pub names : HasNoNameFault fs
  pub small : bulk fs ≤ largest_bulk
  pub no_recursion : HasNoRecursion fs
  pub shallow : All (λ f. measure fs f ≤ 1048576) fs
