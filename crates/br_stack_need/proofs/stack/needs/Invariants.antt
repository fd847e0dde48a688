-- What functions need so many calls deep.
use Rattle.std.proofs.Common.{◌≡◌, ℕ, length, slice_index, slice_get}
use Rattle.br_flatimp.specs.Sizes.{need_within}
use Rattle.br_stack_need.proofs.stack.needs.Given as goal

abbrev pub invariant-loop-round : goal.invariant-loop-round
invariant-loop-round l = record {
  len : length l.needs.items ≡ length l.p.funcs;
  needs : (f : ℕ) → slice_index l.needs.items f ≡ need_within l._round l.p.funcs (slice_get l.p.funcs f);
}
