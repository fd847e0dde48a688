-- Which of several faults is the fault.
use Rattle.std.specs.Prelude.{ℕ, ◌+◌, ◌*◌, ◌≤◌, List}
use Rattle.std.specs.List.{All, Contains}
use Rattle.br_base.specs.Faults.{lower_by}
use Rattle.br_syntax.specs.declared.faults.ShapeFault.{ShapeFault}
use Rattle.br_syntax.specs.declared.faults.ShapeFault.TheVariants.{BadForm, BadSize, BadByteValue}
use Rattle.br_syntax.specs.declared.faults.ShapeFault.TheVariants.{TooMany, Repeated}

-- a number that orders faults by offset, and at one offset as they are listed here
abbrev pub place : ShapeFault → ℕ
place (BadForm at) = 5 * at
place (BadSize at) = 5 * at + 1
place (BadByteValue at) = 5 * at + 2
place (TooMany at) = 5 * at + 3
place (Repeated at) = 5 * at + 4

-- the lower of two faults
abbrev pub lower : ShapeFault → ShapeFault → ShapeFault
lower = lower_by place

-- one of the faults, and by their places none of them is lower
pub record IsLowest {F : Type 0} (place_of : F → ℕ) (faults : List F) (fault : F) : Type 0 where
  pub stands : Contains faults fault
  pub lowest : All (λ other. place_of fault ≤ place_of other) faults
