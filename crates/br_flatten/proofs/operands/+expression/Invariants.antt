-- A test and an address are one step from an operand, which is one step from its statements, and each part is smaller.
use Rattle.std.proofs.Common.{◌+◌, ◌*◌}
use Rattle.br_measure.specs.Bulk.{expression_bulk}
use Rattle.br_flatten.proofs.operands.+expression.Given as goal

abbrev pub decreases-into : goal.decreases-into
decreases-into l = 3 * expression_bulk l.e.now

abbrev pub decreases-operand : goal.decreases-operand
decreases-operand l = 3 * expression_bulk l.e.now + 1

abbrev pub decreases-tested : goal.decreases-tested
decreases-tested l = 3 * expression_bulk l.e.now + 2

abbrev pub decreases-address : goal.decreases-address
decreases-address l = 3 * expression_bulk l.e.now + 2
