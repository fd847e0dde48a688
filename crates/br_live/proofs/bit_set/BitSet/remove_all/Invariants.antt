-- The set so far without the numbers from here on is the set without all of them.
use Rattle.std.proofs.Common.{◌≡◌, drop}
use Rattle.br_flatimp.specs.Liveness.{without}
use Rattle.br_live.specs.BitSets.{set_of}
use Rattle.br_live.proofs.bit_set.BitSet.remove_all.Given as goal

abbrev pub invariant-loop-x : goal.invariant-loop-x
invariant-loop-x l = record {
  bound : l.self.bound ≡ l.initial.self.bound;
  set : without (set_of l.self) (drop l.x-index l.xs) ≡ without (set_of l.initial.self) l.xs;
}
