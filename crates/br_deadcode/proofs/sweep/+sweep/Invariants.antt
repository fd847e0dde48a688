-- The statements from here on are in the summary, their turns are taken, and what is left of them is there.
use Rattle.std.proofs.Common.{◌≡◌, ◌≤◌, ◌++◌, ◌||◌, ◌+◌, ◌*◌, List, map, reverse, take, drop, length}
use denote.Param.Weighed.{most}
use Rattle.br_flatimp.specs.Liveness.{nothing}
use Rattle.br_flatimp.proofs.program.Stmt.TheLaws.{the_size}
use Rattle.br_live.specs.Summaries.{handed}
use Rattle.br_live.specs.Turns.{LoopTurn, all_turns, turn_of}
use Rattle.br_deadcode.specs.Sweeps.{before_left, leaves_of, left_of}
use Rattle.br_deadcode.proofs.sweep.+sweep.Given as goal

abbrev pub invariant-sweep_all-loop-k : goal.invariant-sweep_all-loop-k
invariant-sweep_all-loop-k l = record {
  inside : l.k ≤ length l.body;
  bound : l.so_far.reads.bound ≡ l.initial.so_far.reads.bound;
  names : handed l.so_far nothing ≡ before_left (drop l.k l.body) (handed l.initial.so_far nothing);
  turns : (rest : List LoopTurn)
      → map turn_of l.initial.turns.items ≡ rest ++ all_turns l.initial.so_far.reads.bound l.body
      → map turn_of l.turns.items ≡ rest ++ all_turns l.initial.so_far.reads.bound (take l.k l.body);
  left : reverse l.backward.items ≡ left_of (drop l.k l.body) (handed l.initial.so_far nothing);
  removed : l.removed ≡ (l.initial.removed || leaves_of (drop l.k l.body) (handed l.initial.so_far nothing));
}

abbrev pub decreases-sweep_all-loop-k : goal.decreases-sweep_all-loop-k
decreases-sweep_all-loop-k l = l.k

abbrev pub decreases-sweep_one : goal.decreases-sweep_one
decreases-sweep_one l = 2 * the_size l.s.now

abbrev pub decreases-sweep_all : goal.decreases-sweep_all
decreases-sweep_all l = 2 * most the_size l.body.now + 1
