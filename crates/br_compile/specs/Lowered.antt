-- What the passes between a source text and its image make of a program.
use Rattle.std.specs.Prelude.{◌≡◌, ℕ, ◌+◌, ◌*◌, ◌≤◌, List, [], ◌∷◌, IsTrue, Some, slice_get}
use Rattle.std.specs.List.{AllByRecursion, Contains}
use Rattle.br_syntax.specs.declared.program.Func.{Func}
use Rattle.br_measure.specs.Bulk.{bulk}
use Rattle.br_measure.specs.Measure.{measure}
use Rattle.br_flatimp.specs.declared.program.FlatFunc.{FlatFunc}
use Rattle.br_flatimp.specs.Liveness.{has_no_dead_but_copies}
use Rattle.br_flatimp.specs.Missed.{has_no_missed}
use Rattle.br_flatimp.specs.Parts.{callees}
use Rattle.br_flatimp.specs.Refines.{Refines, meaning}
use Rattle.br_flatimp.specs.Sizes as sizes
use Rattle.br_flatimp.specs.WellFormed.{IsRegisterForm, IsWellFormed}
use Rattle.br_flatten.specs.Meaning.{source_meaning}
use Rattle.br_flatten.specs.Sized.{AreSized}
use Rattle.br_spill.specs.Spill.{buffers}
use Rattle.br_compile.specs.Implements.{rate}

-- Flat functions between flattening and register form: they are well formed, refine a program, and
-- are no larger than its functions allow.
pub record IsFlat (flat : List FlatFunc) (fs : List Func) : Type 0 where
  pub well_formed : IsWellFormed flat
  pub refines : Refines (meaning flat) (source_meaning fs)
  pub sizes : AreSized fs fs flat

-- a flat function with no more units and names than the most bulk of a program
pub record IsSmall (p : FlatFunc) : Type 0 where
  pub units : sizes.units p ≤ 32768
  pub names : p.names ≤ 32768

-- well formed flat functions that are small
pub record AreSmall (ps : List FlatFunc) : Type 0 where
  pub well_formed : IsWellFormed ps
  pub each : AllByRecursion IsSmall ps

-- A function in place of another, which may be larger: it has at most 24 words for each
-- unit of that one, its buffers nested in one another have at most 4 bytes more for each
-- name, and it calls no other functions.
pub record HasGrown (q p : FlatFunc) : Type 0 where
  pub bulk : sizes.function_bulk q ≤ rate * sizes.units p
  pub nest : sizes.nest q ≤ sizes.nest p + 4 * p.names
  pub callees : (g : ℕ) → Contains (callees q) g → Contains (callees p) g

-- each function in place of another
abbrev pub HaveGrown : List FlatFunc → List FlatFunc → Type 0
HaveGrown [] [] = Unit {0}
HaveGrown (q ∷ qs) (p ∷ ps) = HasGrown q p × HaveGrown qs ps
HaveGrown [] (p ∷ ps) = ⊥
HaveGrown (q ∷ qs) [] = ⊥

-- Flat functions stand for a program: they are in register form and refine it, no path of calls
-- leads from one to itself, each needs at most the measure of its source, and their flat bulk is at
-- most 24 words for each unit of the program's bulk.
pub record IsInRegisters (flat : List FlatFunc) (fs : List Func) : Type 0 where
  pub register_form : IsRegisterForm flat
  pub refines : Refines (meaning flat) (source_meaning fs)
  pub no_recursion : sizes.HasNoRecursion flat
  pub within : (n : ℕ) (q : FlatFunc) (f : Func) → slice_get flat n ≡ Some q
      → slice_get fs n ≡ Some f
      → sizes.need flat q ≤ measure fs f
  pub short : sizes.flat_bulk flat ≤ rate * bulk fs

-- in a function without buffers no operand is missed, and no dead
-- statement but a copy could be removed
pub record IsLean (q : FlatFunc) : Type 0 where
  pub none_missed : buffers q ≡ 0 → IsTrue (has_no_missed q)
  pub none_dead : buffers q ≡ 0 → IsTrue (has_no_dead_but_copies q)

-- They do, and with them stand the bytes of stack that each needs and the bulk of the program.
pub record IsLowered (flat : List FlatFunc) (stack : List ℕ) (counted : ℕ)
    (fs : List Func) : Type 0 where
  pub in_registers : IsInRegisters flat fs
  pub lean : AllByRecursion IsLean flat
  pub needs : stack ≡ sizes.needs flat
  pub size : counted ≡ bulk fs
