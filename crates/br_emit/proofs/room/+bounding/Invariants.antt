use Rattle.std.proofs.Common.{◌≡◌, ◌+◌, ◌*◌, drop, map, max, sum}
use denote.Param.Weighed.{most}
use Rattle.br_flatimp.specs.Sizes.{statement_bulk}
use Rattle.br_flatimp.proofs.program.Stmt.TheLaws.{the_size}
use Rattle.br_emit.proofs.room.+bounding.Given as goal

abbrev pub invariant-most_all-loop-s : goal.invariant-most_all-loop-s
invariant-most_all-loop-s l =
    l.words + sum (map statement_bulk (drop l.s-index l.body)) ≡ sum (map statement_bulk l.body)

abbrev pub decreases-most_of : goal.decreases-most_of
decreases-most_of l = 4 * the_size l.s.now

abbrev pub decreases-most_all : goal.decreases-most_all
decreases-most_all l = 4 * most the_size l.body.now + 1

abbrev pub decreases-most_below : goal.decreases-most_below
decreases-most_below l = 4 * most the_size l.body.now + 2

abbrev pub decreases-most_both : goal.decreases-most_both
decreases-most_both l = 4 * max (most the_size l.first.now) (most the_size l.second.now) + 2
