-- The functions that were taken from the end have their answers, the last first.
use Rattle.std.proofs.Common.{◌≡◌, ◌++◌, List, length, drop, reverse}
use Rattle.br_flatimp.specs.declared.program.FlatFunc.{FlatFunc}
use Rattle.br_regalloc_check.specs.Assigned.{AreAssigned}
use Rattle.br_regalloc_check.proofs.assigning.functions.Given as goal

abbrev pub invariant-loop-f : goal.invariant-loop-f
invariant-loop-f l =
    (done : List FlatFunc) × record {
      split : l.fn.fs ≡ l.fs ++ done;
      assigned : AreAssigned (reverse l.made.items) done (drop (length l.fs) l.proposals);
    }

abbrev pub decreases-loop-f : goal.decreases-loop-f
decreases-loop-f l = length l.fs
