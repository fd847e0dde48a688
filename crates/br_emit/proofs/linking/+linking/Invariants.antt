use Rattle.std.proofs.Common.{◌≡◌, ◌+◌, ◌*◌, ◌&&◌, max, drop}
use Rattle.std.specs.List.{list_all}
use Rattle.br_flatimp.specs.Parts.{throughout}
use Rattle.br_emit.specs.Code.{keeps_link}
use denote.Param.Weighed.{most}
use Rattle.br_flatimp.proofs.program.Stmt.TheLaws.{the_size}
use Rattle.br_emit.proofs.linking.+linking.Given as goal

abbrev pub invariant-keeps_all-loop-s : goal.invariant-keeps_all-loop-s
invariant-keeps_all-loop-s l =
    (l.kept && list_all (throughout keeps_link) (drop l.s-index l.body)) ≡ list_all (throughout keeps_link) l.body

abbrev pub decreases-keeps : goal.decreases-keeps
decreases-keeps l = 4 * the_size l.s.now

abbrev pub decreases-keeps_all : goal.decreases-keeps_all
decreases-keeps_all l = 4 * most the_size l.body.now + 1

abbrev pub decreases-keeps_two : goal.decreases-keeps_two
decreases-keeps_two l = 4 * max (most the_size l.first.now) (most the_size l.second.now) + 2
