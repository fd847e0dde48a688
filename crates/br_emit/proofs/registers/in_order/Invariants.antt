use Rattle.std.proofs.Common.{◌≡◌, ◌+◌, ◌-◌, ◌≤◌, ◌++◌, length}
use Rattle.std.specs.Prelude.{filter}
use Rattle.br_emit.specs.Code.{count_up, registers}
use Rattle.br_emit.specs.Registers.{has}
use Rattle.br_emit.proofs.registers.in_order.Given as goal

abbrev pub invariant-loop-r : goal.invariant-loop-r
invariant-loop-r l = record {
  found : l.found ++ filter (has l.set) (count_up l.r (32 - l.r)) ≡ l.fn.before ++ filter (has l.set) registers;
  few : length l.found + 2 ≤ l.r;
}
