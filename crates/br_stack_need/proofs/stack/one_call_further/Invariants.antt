-- The needs of the functions so far.
use Rattle.std.proofs.Common.{◌≡◌, ℕ, ◌+◌, ◌<◌, [], min, length, map, slice_index, slice_index_or}
use Rattle.br_flatimp.specs.Sizes.{largest}
use Rattle.br_stack_need.proofs.stack.one_call_further.Given as goal

abbrev pub invariant-loop-f : goal.invariant-loop-f
invariant-loop-f l = record {
  len : length l.after.items ≡ l.f;
  needs : (f : ℕ) → f < l.f → slice_index l.after.items f
      ≡ min 4294967295 (slice_index l.own f + largest (map (λ g. slice_index l.needs g) (slice_index_or l.table f [])));
}
