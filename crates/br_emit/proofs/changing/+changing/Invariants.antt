use Rattle.std.proofs.Common.{◌+◌, ◌*◌, max}
use denote.Param.Weighed.{most}
use Rattle.br_flatimp.proofs.program.Stmt.TheLaws.{the_size}
use Rattle.br_emit.proofs.Changes.{Changed}
use Rattle.br_emit.proofs.changing.+changing.Given as goal

abbrev pub invariant-changed_by_all-loop-s : goal.invariant-changed_by_all-loop-s
invariant-changed_by_all-loop-s l = Changed l.sets l.changed l.s-index l.body

abbrev pub decreases-changed_by : goal.decreases-changed_by
decreases-changed_by l = 4 * the_size l.s.now

abbrev pub decreases-changed_by_all : goal.decreases-changed_by_all
decreases-changed_by_all l = 4 * most the_size l.body.now + 1

abbrev pub decreases-changed_by_two : goal.decreases-changed_by_two
decreases-changed_by_two l = 4 * max (most the_size l.first.now) (most the_size l.second.now) + 2
