-- The functions so far.
use Rattle.std.proofs.Common.{◌≡◌, map, take}
use Rattle.br_simplify.specs.Simple.{simple_function}
use Rattle.br_simplify.proofs.program.simple_program.Given as goal

abbrev pub invariant-loop-f : goal.invariant-loop-f
invariant-loop-f l = l.simple ≡ map simple_function (take l.f-index l.funcs)
