use Rattle.std.proofs.Common.{refl, ap, ◌∙◌}
use Rattle.std.specs.List.{flat_map}
use Rattle.br_flatimp.specs.Parts.{own_callees, gathered}
use Rattle.br_emit.specs.Marks.{marked}
use Rattle.br_emit.proofs.Readiness.{marked_twice}
use Rattle.br_emit.proofs.Unrolling.{mark_step, gathered_buffer, gathered_if, gathered_loop}
use Rattle.br_emit.proofs.called.+calling.Goals as goal

pub mark_calls-loop-s-preserved : goal.mark_calls-loop-s-preserved
mark_calls-loop-s-preserved t c =
    mark_step (gathered own_callees) c.args.body.now c.loop-s.s-index c.s-item.result c.loop-s.flags
    c.mark_called.new.flags (marked c.args.flags.now (flat_map (gathered own_callees) c.args.body.now))
    c.loop-s-test.true c.s-item.is c.mark_called.ensures c.loop-s.invariant

pub mark_both-returns : goal.mark_both-returns
mark_both-returns t c =
    c.mark_calls-2.ensures
    ∙ ap (λ f. marked f (flat_map (gathered own_callees) c.args.second.now)) c.mark_calls.ensures
    ∙ marked_twice c.args.flags.now (flat_map (gathered own_callees) c.args.first.now)
    (flat_map (gathered own_callees) c.args.second.now)

pub mark_called-returns-in-Stackalloc : goal.mark_called-returns-in-Stackalloc
mark_called-returns-in-Stackalloc t c =
    rw (gathered_buffer own_callees c.args.s.now c.in-Stackalloc.field-0 c.in-Stackalloc.field-1 c.in-Stackalloc.body
    c.in-Stackalloc.is)
    (rw (c.mark_calls.ensures, c.as_slice.ensures) refl)

pub mark_called-returns-in-If : goal.mark_called-returns-in-If
mark_called-returns-in-If t c =
    rw (gathered_if own_callees c.args.s.now c.in-If.field-0 c.in-If.first c.in-If.second c.in-If.is)
    (rw (c.mark_both.ensures, c.as_slice-in-If.ensures, c.as_slice-in-If-2.ensures) refl)

pub mark_called-returns-in-Loop : goal.mark_called-returns-in-Loop
mark_called-returns-in-Loop t c =
    rw (gathered_loop own_callees c.args.s.now c.in-Loop.first c.in-Loop.field-1 c.in-Loop.last c.in-Loop.is)
    (rw (c.mark_both-in-Loop.ensures, c.as_slice-in-Loop.ensures, c.as_slice-in-Loop-2.ensures) refl)
