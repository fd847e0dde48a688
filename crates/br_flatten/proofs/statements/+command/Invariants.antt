-- The statements so far, and those of the commands from here on, whose bulk leaves room.
use Rattle.std.proofs.Common.{◌≡◌, ◌≤◌, ◌+◌, ◌++◌, drop}
use Rattle.br_measure.specs.Bulk.{commands_bulk}
use Rattle.br_flatten.specs.Flatten.{commands}
use Rattle.br_flatten.specs.Scope.{scoped}
use Rattle.br_flatten.specs.Scope.{temporaries}
use Rattle.br_flatten.proofs.statements.+command.Given as goal

abbrev pub invariant-commands-loop-c : goal.invariant-commands-loop-c
invariant-commands-loop-c l = record {
  room : temporaries (scoped l.scope.variables.now l.scope.held.now) + commands_bulk (drop l.c-index l.cs)
      ≤ 4294967295;
  statements : l.out ++ commands l.scope.functions.now.funcs.now (scoped l.scope.variables.now l.scope.held.now)
      (drop l.c-index l.cs)
      ≡ l.initial.out
      ++ commands l.scope.functions.now.funcs.now (scoped l.scope.variables.now l.scope.held.now) l.cs;
}
