-- The statements so far, and those of the literals from here on.
use Rattle.std.proofs.Common.{◌≡◌, ◌+◌, ◌≤◌, ◌++◌, drop, length}
use Rattle.br_flatten.specs.Scope.{scoped}
use Rattle.br_flatten.specs.Scope.{settings, settings_from}
use Rattle.br_flatten.proofs.statements.settings.Given as goal

abbrev pub invariant-loop-n : goal.invariant-loop-n
invariant-loop-n l = record {
  room : l.number + length (drop l.n-index l.scope.held.now) ≤ 32776;
  statements : l.out ++ settings_from l.number (drop l.n-index l.scope.held.now)
      ≡ l.initial.out ++ settings (scoped l.scope.variables.now l.scope.held.now);
}
