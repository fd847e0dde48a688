use Rattle.std.proofs.Common.{◌+◌, ◌&&◌, drop, sym, ap, ◌∙◌}
use Rattle.std.specs.List.{list_all}
use Rattle.br_flatimp.specs.Parts.{throughout}
use Rattle.br_emit.specs.Code.{keeps_link}
use Rattle.br_emit.proofs.Unrolling.{kept_next, kept_buffer, kept_if, kept_loop}
use Rattle.br_emit.proofs.linking.+linking.Goals as goal

pub keeps_all-loop-s-preserved : goal.keeps_all-loop-s-preserved
keeps_all-loop-s-preserved t c =
    ap (λ b. b && list_all (throughout keeps_link) (drop (c.loop-s.s-index + 1) c.args.body.now))
    (c.both-kept.ensures ∙ ap (λ b. c.loop-s.kept && b) c.keeps-one.ensures)
    ∙ kept_next c.args.body.now c.loop-s.s-index c.s-item.result c.loop-s.kept c.loop-s-test.true c.s-item.is
    ∙ c.loop-s.invariant

pub keeps_two-returns : goal.keeps_two-returns
keeps_two-returns t c = c.both.ensures ∙ ap (λ b. b && c.keeps_all-other.result) c.keeps_all-one.ensures
    ∙ ap (λ b. list_all (throughout keeps_link) c.args.first.now && b) c.keeps_all-other.ensures

pub keeps-returns-in-Stackalloc : goal.keeps-returns-in-Stackalloc
keeps-returns-in-Stackalloc t c = rw (c.keeps_all.ensures, c.as_slice.ensures) (sym
    (kept_buffer c.args.s.now c.in-Stackalloc.field-0 c.in-Stackalloc.field-1 c.in-Stackalloc.body c.in-Stackalloc.is))

pub keeps-returns-in-If : goal.keeps-returns-in-If
keeps-returns-in-If t c = rw (c.keeps_two.ensures, c.as_slice-in-If.ensures, c.as_slice-in-If-2.ensures)
    (sym (kept_if c.args.s.now c.in-If.field-0 c.in-If.first c.in-If.second c.in-If.is))

pub keeps-returns-in-Loop : goal.keeps-returns-in-Loop
keeps-returns-in-Loop t c = rw (c.keeps_two-in-Loop.ensures, c.as_slice-in-Loop.ensures, c.as_slice-in-Loop-2.ensures)
    (sym (kept_loop c.args.s.now c.in-Loop.first c.in-Loop.field-1 c.in-Loop.last c.in-Loop.is))
