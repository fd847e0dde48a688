use Rattle.std.proofs.Common.{sym}
use Rattle.br_emit.proofs.Unrolling.{nest_if, nest_loop}
use Rattle.br_emit.proofs.functions.+nesting.Goals as goal

pub nest_of-returns-in-If : goal.nest_of-returns-in-If
nest_of-returns-in-If t c =
    rw (c.nest_two.ensures, c.as_slice-in-If.ensures, c.as_slice-in-If-2.ensures)
    (sym (nest_if c.args.s.now c.in-If.field-0 c.in-If.first c.in-If.second c.in-If.is))

pub nest_of-returns-in-Loop : goal.nest_of-returns-in-Loop
nest_of-returns-in-Loop t c =
    rw (c.nest_two-in-Loop.ensures, c.as_slice-in-Loop.ensures, c.as_slice-in-Loop-2.ensures)
    (sym (nest_loop c.args.s.now c.in-Loop.first c.in-Loop.field-1 c.in-Loop.last c.in-Loop.is))
