-- The statements from here on are in the summary, their turns are taken, and their sets stand at the end.
use Rattle.std.proofs.Common.{◌≡◌, ◌≤◌, ◌++◌, ◌+◌, ◌*◌, List, map, reverse, take, drop, length}
use denote.Param.Weighed.{most}
use Rattle.br_flatimp.specs.Liveness.{before_all, live, moments, nothing}
use Rattle.br_flatimp.proofs.program.Stmt.TheLaws.{the_size}
use Rattle.br_live.specs.Summaries.{handed}
use Rattle.br_live.specs.Tables.{row, rows_after}
use Rattle.br_live.specs.Turns.{LoopTurn, all_turns, turn_of}
use Rattle.br_live.proofs.after.+after.Given as goal

abbrev pub invariant-add_sets_of_all-loop-k : goal.invariant-add_sets_of_all-loop-k
invariant-add_sets_of_all-loop-k l = record {
  inside : l.k ≤ length l.body;
  bound : l.so_far.reads.bound ≡ l.initial.so_far.reads.bound;
  names : handed l.so_far nothing ≡ before_all (drop l.k l.body) (handed l.initial.so_far nothing);
  turns : (rest : List LoopTurn)
      → map turn_of l.initial.turns.items ≡ rest ++ all_turns l.initial.so_far.reads.bound l.body
      → map turn_of l.turns.items ≡ rest ++ all_turns l.initial.so_far.reads.bound (take l.k l.body);
  sets : map row l.sets.items ≡ map row l.initial.sets.items ++ reverse (rows_after l.initial.so_far.reads.bound
      (moments (map live (drop l.k l.body)) (handed l.initial.so_far nothing)));
}

abbrev pub decreases-add_sets_of_all-loop-k : goal.decreases-add_sets_of_all-loop-k
decreases-add_sets_of_all-loop-k l = l.k

abbrev pub decreases-add_sets_of : goal.decreases-add_sets_of
decreases-add_sets_of l = 2 * the_size l.s.now

abbrev pub decreases-add_sets_of_all : goal.decreases-add_sets_of_all
decreases-add_sets_of_all l = 2 * most the_size l.body.now + 1
