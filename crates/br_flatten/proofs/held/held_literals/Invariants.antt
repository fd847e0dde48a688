-- There are as many literals as there were turns.
use Rattle.std.proofs.Common.{◌≤◌, length}
use Rattle.br_flatten.proofs.held.held_literals.Given as goal

abbrev pub invariant-loop : goal.invariant-loop
invariant-loop l = length l.held ≤ l.counter
