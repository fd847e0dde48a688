-- The literals from here on, the first of which has the number so far.
use Rattle.std.proofs.Common.{◌≡◌, ◌+◌, ◌≤◌, drop, length}
use Rattle.br_flatten.specs.Scope.{scoped}
use Rattle.br_flatten.specs.Scope.{holder, holder_from}
use Rattle.br_flatten.proofs.scope.Scope.holder.Given as goal

abbrev pub invariant-loop-k : goal.invariant-loop-k
invariant-loop-k l = record {
  room : l.number + length (drop l.k-index l.self.held.now) ≤ 32776;
  rest : holder_from l.number (drop l.k-index l.self.held.now) l.n
      ≡ holder (scoped l.self.variables.now l.self.held.now) l.n;
}
