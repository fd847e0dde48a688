-- The commands so far. The depth of the commands, and at one depth which function hands them to which.
use Rattle.std.proofs.Common.{◌+◌, ◌*◌, max, take}
use denote.Param.Weighed.{most}
use Rattle.br_syntax.proofs.program.Cmd.TheLaws.{the_size}
use Rattle.br_source_meaning.specs.Names.{function_names}
use Rattle.br_source_meaning.specs.Numbered.{NumbersCommands}
use Rattle.br_source_meaning.proofs.numbering.+numbering.Given as goal

abbrev pub invariant-commands-loop-c : goal.invariant-commands-loop-c
invariant-commands-loop-c l =
    NumbersCommands (function_names l.index.funcs.now) l.fn.own l.own l.numbered (take l.c-index l.cs)

abbrev pub decreases-command : goal.decreases-command
decreases-command l = 4 * the_size l.c.now

abbrev pub decreases-commands : goal.decreases-commands
decreases-commands l = 4 * most the_size l.cs.now + 1

abbrev pub decreases-buffer : goal.decreases-buffer
decreases-buffer l = 4 * most the_size l.body.now + 2

abbrev pub decreases-repetition : goal.decreases-repetition
decreases-repetition l = 4 * most the_size l.body.now + 2

abbrev pub decreases-sequence : goal.decreases-sequence
decreases-sequence l = 4 * most the_size l.body.now + 2

abbrev pub decreases-choice : goal.decreases-choice
decreases-choice l = 4 * max (most the_size l.first.now) (most the_size l.second.now) + 2
