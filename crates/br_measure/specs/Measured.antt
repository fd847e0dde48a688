-- What is kept beside a program that has no fault.
use Rattle.std.specs.Prelude.{◌≡◌, ℕ, List, map}
use Rattle.br_syntax.specs.declared.program.Func.{Func}
use Rattle.br_measure.specs.Bulk.{bulk}
use Rattle.br_measure.specs.Measure.{measure}
use Rattle.br_measure.specs.Faults.{IsSound}

-- a sound program, its bulk and the measures of its functions
pub record IsMeasured (fs : List Func) (total : ℕ) (measures : List ℕ) : Type 0 where
  pub sound : IsSound fs
  pub total_is : total ≡ bulk fs
  pub measures_are : measures ≡ map (measure fs) fs
