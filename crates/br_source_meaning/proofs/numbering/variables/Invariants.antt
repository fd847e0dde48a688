-- The names so far.
use Rattle.std.proofs.Common.{take}
use Rattle.br_source_meaning.specs.Numbered.{NumbersVariables}
use Rattle.br_source_meaning.proofs.numbering.variables.Given as goal

abbrev pub invariant-loop-x : goal.invariant-loop-x
invariant-loop-x l = NumbersVariables l.fn.own l.own l.numbered (take l.x-index l.xs)
