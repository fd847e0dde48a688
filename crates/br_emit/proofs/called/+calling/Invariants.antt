use Rattle.std.proofs.Common.{◌≡◌, ◌+◌, ◌*◌, max, drop}
use Rattle.std.specs.List.{flat_map}
use Rattle.br_flatimp.specs.Parts.{own_callees, gathered}
use Rattle.br_emit.specs.Marks.{marked}
use denote.Param.Weighed.{most}
use Rattle.br_flatimp.proofs.program.Stmt.TheLaws.{the_size}
use Rattle.br_emit.proofs.called.+calling.Given as goal

abbrev pub invariant-mark_calls-loop-s : goal.invariant-mark_calls-loop-s
invariant-mark_calls-loop-s l = marked l.flags (flat_map (gathered own_callees) (drop l.s-index l.body))
    ≡ marked l.initial.flags (flat_map (gathered own_callees) l.body)

abbrev pub decreases-mark_called : goal.decreases-mark_called
decreases-mark_called l = 4 * the_size l.s.now

abbrev pub decreases-mark_calls : goal.decreases-mark_calls
decreases-mark_calls l = 4 * most the_size l.body.now + 1

abbrev pub decreases-mark_both : goal.decreases-mark_both
decreases-mark_both l = 4 * max (most the_size l.first.now) (most the_size l.second.now) + 2
