-- The depth of the trees, and at one depth which function hands them to which.
use Rattle.std.proofs.Common.{◌≡◌, ◌+◌, ◌*◌, drop}
use Rattle.br_syntax.specs.Shaped.{joined}
use Rattle.br_syntax.specs.Denotes.{commands}
use denote.Param.Weighed.{most}
use Rattle.br_sexpr.proofs.tree.Tree.TheLaws.{the_size}
use Rattle.br_syntax.proofs.command.+command.Given as goal

abbrev pub decreases-command : goal.decreases-command
decreases-command l = 5 * the_size l.tree.now

abbrev pub decreases-branch : goal.decreases-branch
decreases-branch l = 5 * the_size l.tree.now

abbrev pub decreases-commands : goal.decreases-commands
decreases-commands l = 5 * most the_size l.trees.now + 1

abbrev pub decreases-sequence : goal.decreases-sequence
decreases-sequence l = 5 * most the_size l.parts.now + 2

abbrev pub decreases-repetition : goal.decreases-repetition
decreases-repetition l = 5 * most the_size l.parts.now + 2

abbrev pub decreases-stackalloc : goal.decreases-stackalloc
decreases-stackalloc l = 5 * most the_size l.parts.now + 2

abbrev pub decreases-choice : goal.decreases-choice
decreases-choice l = 5 * most the_size l.parts.now + 2

abbrev pub decreases-form_of : goal.decreases-form_of
decreases-form_of l = 5 * most the_size l.parts.now + 3

abbrev pub decreases-command_of : goal.decreases-command_of
decreases-command_of l = 5 * most the_size l.items.now + 4

abbrev pub decreases-behind : goal.decreases-behind
decreases-behind l = 5 * most the_size l.items.now + 2

abbrev pub invariant-commands-loop-tree : goal.invariant-commands-loop-tree
invariant-commands-loop-tree l = joined l.found (commands (drop l.tree-index l.trees)) ≡ commands l.trees
