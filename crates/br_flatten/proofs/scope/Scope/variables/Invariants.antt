-- The numbers of the names so far.
use Rattle.std.proofs.Common.{◌≡◌, map, take}
use Rattle.br_flatten.specs.Flatten.{number}
use Rattle.br_flatten.proofs.scope.Scope.variables.Given as goal

abbrev pub invariant-loop-x : goal.invariant-loop-x
invariant-loop-x l = l.numbers ≡ map (number l.self.variables.now) (take l.x-index l.xs)
