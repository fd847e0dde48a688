-- The depth of the trees, and at one depth which function hands them to which.
use Rattle.std.proofs.Common.{◌+◌, ◌*◌, max}
use denote.Param.Weighed.{most}
use Rattle.br_sexpr.proofs.tree.Tree.TheLaws.{the_size}
use Rattle.br_syntax.proofs.expression.+expression.Given as goal

abbrev pub decreases-expression : goal.decreases-expression
decreases-expression l = 3 * the_size l.tree.now

abbrev pub decreases-expression_of : goal.decreases-expression_of
decreases-expression_of l = 3 * most the_size l.items.now + 2

abbrev pub decreases-of_two : goal.decreases-of_two
decreases-of_two l = 3 * the_size l.x.now + 1

abbrev pub decreases-of_three : goal.decreases-of_three
decreases-of_three l = 3 * max (the_size l.x.now) (the_size l.y.now) + 1

abbrev pub decreases-of_four : goal.decreases-of_four
decreases-of_four l = 3 * max (the_size l.x.now) (max (the_size l.y.now) (the_size l.z.now)) + 1
