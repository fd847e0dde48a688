-- The needs of the functions so far.
use Rattle.std.proofs.Common.{◌≡◌, ℕ, ◌+◌, ◌<◌, min, length, map, slice_index}
use Rattle.br_measure.specs.Measure.{largest}
use Rattle.br_measure.specs.Table.{row}
use Rattle.br_measure.proofs.measures.one_call_further.Given as goal

abbrev pub invariant-loop-f : goal.invariant-loop-f
invariant-loop-f l = record {
  len : length l.after.items ≡ l.f;
  needs : (f : ℕ) → f < l.f → slice_index l.after.items f
      ≡ min (slice_index l.own f + largest (map (λ g. slice_index l.needs g) (row l.table f))) 4294967295;
}
