use Rattle.std.proofs.Common.{◌≡◌, false, replicate}
use Rattle.std.specs.Prelude.{vec_len, vec_capacity}
use Rattle.br_emit.proofs.called.unflag.Given as goal

abbrev pub invariant-loop-n : goal.invariant-loop-n
invariant-loop-n l = record {
  flags : l.flags.items ≡ replicate l._n false;
  len : vec_len l.flags ≡ l._n;
  capacity : vec_capacity l.flags ≡ vec_capacity l.initial.flags;
}
