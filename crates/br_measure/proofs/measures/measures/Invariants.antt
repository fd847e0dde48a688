-- What functions need so many calls deep.
use Rattle.std.proofs.Common.{◌≡◌, ℕ, min, length, slice_index, slice_get}
use Rattle.br_measure.specs.Measure.{measure_within}
use Rattle.br_measure.proofs.measures.measures.Given as goal

abbrev pub invariant-loop-round : goal.invariant-loop-round
invariant-loop-round l = record {
  len : length l.needs.items ≡ length l.funcs;
  needs : (f : ℕ) → slice_index l.needs.items f
      ≡ min (measure_within l._round l.funcs (slice_get l.funcs f)) 4294967295;
}
