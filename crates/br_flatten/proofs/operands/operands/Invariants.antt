-- The statements and places so far, and those of the operands from here on, whose bulk leaves room.
use Rattle.std.proofs.Common.{◌≡◌, ◌≤◌, ◌+◌, ◌++◌, map, drop}
use Rattle.br_measure.specs.Bulk.{expressions_bulk}
use Rattle.br_flatten.specs.Flatten.{codes_of, expression, places_of}
use Rattle.br_flatten.specs.Scope.{scoped}
use Rattle.br_flatten.proofs.operands.operands.Given as goal

abbrev pub invariant-loop-e : goal.invariant-loop-e
invariant-loop-e l = record {
  room : l.free + expressions_bulk (drop l.e-index l.es) ≤ 4294967295;
  codes : l.out
      ++ codes_of (map (expression (scoped l.scope.variables.now l.scope.held.now)) (drop l.e-index l.es)) l.free
      ≡ l.initial.out
      ++ codes_of (map (expression (scoped l.scope.variables.now l.scope.held.now)) l.es) l.initial.free;
  places : l.places
      ++ places_of (map (expression (scoped l.scope.variables.now l.scope.held.now)) (drop l.e-index l.es)) l.free
      ≡ places_of (map (expression (scoped l.scope.variables.now l.scope.held.now)) l.es) l.initial.free;
}
