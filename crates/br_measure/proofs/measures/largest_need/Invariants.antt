-- The largest so far and of the callees that follow.
use Rattle.std.proofs.Common.{◌≡◌, max, map, drop, slice_index}
use Rattle.br_measure.specs.Measure.{largest}
use Rattle.br_measure.proofs.measures.largest_need.Given as goal

abbrev pub invariant-loop-g : goal.invariant-loop-g
invariant-loop-g l =
    max l.most (largest (map (λ g. slice_index l.needs g) (drop l.g-index l.callees)))
    ≡ largest (map (λ g. slice_index l.needs g) l.callees)
