-- The flat functions so far.
use Rattle.std.proofs.Common.{take}
use Rattle.br_flatten.specs.Programs.{AreFlat}
use Rattle.br_flatten.proofs.flattening.flat_functions.Given as goal

abbrev pub invariant-loop-f : goal.invariant-loop-f
invariant-loop-f l = AreFlat l.funcs (take l.f-index l.funcs) l.flat
