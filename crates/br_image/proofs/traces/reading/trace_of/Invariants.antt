use Rattle.std.proofs.Common.{◌-◌, length}
use Rattle.br_image.proofs.TraceReads.{TraceTo}
use Rattle.br_image.proofs.traces.reading.trace_of.Given as goal

abbrev pub invariant-loop-at : goal.invariant-loop-at
invariant-loop-at l = TraceTo l.text l.stage l.at l.number l.shown

abbrev pub decreases-loop-at : goal.decreases-loop-at
decreases-loop-at l = length l.text - l.at
