-- The depth of the commands, and at one depth which function hands them to which.
use Rattle.std.proofs.Common.{◌≡◌, ◌+◌, ◌*◌, true, max, map, take, Ok}
use Rattle.std.specs.List.{list_all}
use denote.Param.Weighed.{most}
use Rattle.br_syntax.proofs.program.Cmd.TheLaws.{the_size}
use Rattle.br_syntax.specs.Denotes.{commands}
use Rattle.br_syntax.specs.Offsets.{is_unplaced, unplaced}
use Rattle.br_syntax.proofs.write_cmd.+cmd_tree.Given as goal

abbrev pub decreases-cmd_tree : goal.decreases-cmd_tree
decreases-cmd_tree l = 4 * the_size l.c.now

abbrev pub decreases-cmd_trees : goal.decreases-cmd_trees
decreases-cmd_trees l = 4 * most the_size l.body.now + 1

abbrev pub decreases-body_tree : goal.decreases-body_tree
decreases-body_tree l = 4 * most the_size l.body.now + 2

abbrev pub decreases-while_tree : goal.decreases-while_tree
decreases-while_tree l = 4 * most the_size l.body.now + 2

abbrev pub decreases-stackalloc_tree : goal.decreases-stackalloc_tree
decreases-stackalloc_tree l = 4 * most the_size l.body.now + 2

abbrev pub decreases-if_tree : goal.decreases-if_tree
decreases-if_tree l = 4 * max (most the_size l.yes.now) (most the_size l.no.now) + 3

abbrev pub invariant-cmd_trees-loop-c : goal.invariant-cmd_trees-loop-c
invariant-cmd_trees-loop-c l =
    (commands l.items ≡ Ok (map unplaced (take l.c-index l.body))) × (list_all is_unplaced l.items ≡ true)
