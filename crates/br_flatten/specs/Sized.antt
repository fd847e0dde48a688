-- How large flat functions are beside those of the source that they come from, and what they call.
use Rattle.std.specs.Prelude.{ℕ, ◌≤◌, List, [], ◌∷◌, map}
use Rattle.std.specs.List.{Contains}
use Rattle.br_syntax.specs.declared.program.Func.{Func}
use Rattle.br_measure.specs.Bulk.{function_bulk}
use Rattle.br_measure.specs.Measure.{nested_buffers}
use Rattle.br_measure.specs.Paths as paths
use Rattle.br_flatimp.specs.declared.program.FlatFunc.{FlatFunc}
use Rattle.br_flatimp.specs.Parts.{callees}
use Rattle.br_flatimp.specs.Sizes.{units, nest}
use Rattle.br_flatten.specs.Flatten.{callee_number}

-- A flat function of a function of a program: its units and its names are within the bulk, its
-- buffers within the nested buffers, and each of its callees is one of the source's.
pub record IsSized (fs : List Func) (f : Func) (q : FlatFunc) : Type 0 where
  pub units : units q ≤ function_bulk f
  pub names : q.names ≤ function_bulk f
  pub nest : nest q ≤ nested_buffers f
  pub callees : (g : ℕ) → Contains (callees q) g
      → Contains (map (callee_number fs) (paths.callees f)) g

-- each function beside its source
abbrev pub AreSized : List Func → List Func → List FlatFunc → Type 0
AreSized fs [] [] = Unit {0}
AreSized fs (f ∷ gs) (q ∷ qs) = IsSized fs f q × AreSized fs gs qs
AreSized fs [] (q ∷ qs) = ⊥
AreSized fs (f ∷ gs) [] = ⊥
