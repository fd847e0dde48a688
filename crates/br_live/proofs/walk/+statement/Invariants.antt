-- The statements before this one are in the summary, and their turns stand at the end.
use Rattle.std.proofs.Common.{◌≡◌, ◌++◌, ◌+◌, ◌*◌, map, take}
use denote.Param.Weighed.{most}
use Rattle.br_flatimp.specs.Liveness.{before_all}
use Rattle.br_flatimp.specs.Values.{Names}
use Rattle.br_flatimp.proofs.program.Stmt.TheLaws.{the_size}
use Rattle.br_live.specs.Summaries.{handed}
use Rattle.br_live.specs.Turns.{all_turns, turn_of}
use Rattle.br_live.proofs.walk.+statement.Given as goal

abbrev pub invariant-summary_of_all-loop-s : goal.invariant-summary_of_all-loop-s
invariant-summary_of_all-loop-s l = record {
  bound : l.so_far.reads.bound ≡ l.names;
  hands : (after : Names) → handed l.so_far after ≡ before_all (take l.s-index l.body) after;
  turns : map turn_of l.turns.items ≡ map turn_of l.initial.turns.items ++ all_turns l.names (take l.s-index l.body);
}

abbrev pub decreases-summary_of : goal.decreases-summary_of
decreases-summary_of l = 2 * the_size l.s.now

abbrev pub decreases-summary_of_all : goal.decreases-summary_of_all
decreases-summary_of_all l = 2 * most the_size l.body.now + 1
