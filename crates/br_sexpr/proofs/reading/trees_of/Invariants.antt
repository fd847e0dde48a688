use Rattle.std.proofs.Common.{length, ◌-◌, ◌≤◌}
use Rattle.br_sexpr.proofs.Whole.{SoFar}
use Rattle.br_sexpr.proofs.reading.trees_of.Given as goal

abbrev pub invariant-loop-at : goal.invariant-loop-at
invariant-loop-at l = (l.at ≤ length l.bytes) × SoFar l.reader l.at l.bytes

abbrev pub decreases-loop-at : goal.decreases-loop-at
decreases-loop-at l = length l.initial.bytes - l.at
