use Rattle.std.proofs.Common.{◌≡◌}
use Rattle.std.specs.Prelude.{vec_len, vec_capacity}
use Rattle.br_emit.proofs.forgotten.fill.Given as goal

abbrev pub invariant-loop-n : goal.invariant-loop-n
invariant-loop-n l = record {
  len : vec_len l.sets ≡ l._n;
  capacity : vec_capacity l.sets ≡ vec_capacity l.initial.sets;
}
