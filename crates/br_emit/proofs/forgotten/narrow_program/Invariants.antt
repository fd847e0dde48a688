use Rattle.std.proofs.Common.{◌≡◌, ◌≤◌, true, length}
use Rattle.br_emit.specs.Registers.{Narrowed}
use Rattle.br_emit.proofs.Forgetting.{ClosedFrom}
use Rattle.br_emit.proofs.forgotten.narrow_program.Given as goal

abbrev pub invariant-loop-n : goal.invariant-loop-n
invariant-loop-n l = record {
  inside : l.n ≤ length l.funcs;
  narrowed : Narrowed l.sets l.initial.sets;
  closed : l.steady ≡ true → ClosedFrom l.sets l.funcs l.n;
}

abbrev pub decreases-loop-n : goal.decreases-loop-n
decreases-loop-n l = l.n
