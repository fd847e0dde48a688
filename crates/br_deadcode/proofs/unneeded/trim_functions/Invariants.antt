-- What was made, with what is to come for the functions from here on, pairs with the functions.
use Rattle.std.proofs.Common.{List, ◌++◌, drop}
use Rattle.br_flatimp.specs.declared.program.FlatFunc.{FlatFunc}
use Rattle.br_deadcode.specs.LeftOut.{InPairs}
use Rattle.br_deadcode.specs.Unneeded.{IsTrimmed}
use Rattle.br_deadcode.proofs.unneeded.trim_functions.Given as goal

abbrev pub invariant-loop-f : goal.invariant-loop-f
invariant-loop-f l =
    (rest : List FlatFunc) → InPairs IsTrimmed rest (drop l.f-index l.fs) → InPairs IsTrimmed (l.made ++ rest) l.fs
