use Rattle.std.proofs.Common.{◌≡◌, ◌+◌, ◌*◌, drop, map, max}
use denote.Param.Weighed.{most}
use Rattle.br_flatimp.specs.Sizes.{largest, statement_nest}
use Rattle.br_flatimp.proofs.program.Stmt.TheLaws.{the_size}
use Rattle.br_emit.proofs.functions.+nesting.Given as goal

abbrev pub invariant-nest_all-loop-s : goal.invariant-nest_all-loop-s
invariant-nest_all-loop-s l =
    max l.most (largest (map statement_nest (drop l.s-index l.body))) ≡ largest (map statement_nest l.body)

abbrev pub decreases-nest_of : goal.decreases-nest_of
decreases-nest_of l = 4 * the_size l.s.now

abbrev pub decreases-nest_all : goal.decreases-nest_all
decreases-nest_all l = 4 * most the_size l.body.now + 1

abbrev pub decreases-nest_two : goal.decreases-nest_two
decreases-nest_two l = 4 * max (most the_size l.first.now) (most the_size l.second.now) + 2
