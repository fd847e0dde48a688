use Rattle.std.proofs.Common.{◌≡◌, true}
use Rattle.br_emit.specs.Registers.{Narrowed, IsClosed, forgets_of}
use Rattle.br_emit.proofs.forgotten.narrow_often.Given as goal

abbrev pub invariant-loop-rounds : goal.invariant-loop-rounds
invariant-loop-rounds l = record {
  narrowed : Narrowed l.sets l.initial.sets;
  closed : l.steady ≡ true → IsClosed (forgets_of l.sets) l.funcs;
}

abbrev pub decreases-loop-rounds : goal.decreases-loop-rounds
decreases-loop-rounds l = l.rounds
