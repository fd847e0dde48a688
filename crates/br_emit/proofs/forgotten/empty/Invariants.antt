use Rattle.std.proofs.Common.{◌≡◌, ℕ, ◌<◌, false, length}
use Rattle.br_emit.specs.Registers.{forgets_of}
use Rattle.br_emit.proofs.forgotten.empty.Given as goal

abbrev pub invariant-loop-k : goal.invariant-loop-k
invariant-loop-k l = record {
  count : length l.sets ≡ length l.initial.sets;
  empty : (g x : ℕ) → g < l.k → forgets_of l.sets g x ≡ false;
}
