-- The expressions so far.
use Rattle.std.proofs.Common.{take}
use Rattle.br_source_meaning.specs.Numbered.{NumbersExprs}
use Rattle.br_source_meaning.proofs.numbering.expressions.Given as goal

abbrev pub invariant-loop-e : goal.invariant-loop-e
invariant-loop-e l = NumbersExprs l.fn.own l.own l.numbered (take l.e-index l.es)
