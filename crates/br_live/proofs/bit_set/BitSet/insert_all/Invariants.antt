-- The set so far with the numbers from here on is the set with all of them.
use Rattle.std.proofs.Common.{◌≡◌, drop}
use Rattle.br_flatimp.specs.Liveness.{is_in, union}
use Rattle.br_live.specs.BitSets.{set_of}
use Rattle.br_live.proofs.bit_set.BitSet.insert_all.Given as goal

abbrev pub invariant-loop-x : goal.invariant-loop-x
invariant-loop-x l = record {
  bound : l.self.bound ≡ l.initial.self.bound;
  set : union (set_of l.self) (is_in (drop l.x-index l.xs)) ≡ union (set_of l.initial.self) (is_in l.xs);
}
