use Rattle.std.proofs.Common.{◌≤◌, ◌+◌, ◌*◌, map, length, drop}
use Rattle.std.specs.List.{AllByRecursion}
use denote.Param.Weighed.{most}
use Rattle.br_flatimp.specs.Liveness.{before_all, live, moments}
use Rattle.br_flatimp.specs.Renaming.{ForgetsDead}
use Rattle.br_flatimp.specs.Values.{Names}
use Rattle.br_flatimp.proofs.program.Stmt.TheLaws.{the_size}
use Rattle.br_emit.specs.Registers.{Below, Narrowed, forgets_of, has}
use Rattle.br_emit.proofs.forgotten.+noting.Given as goal

abbrev pub invariant-note_all-loop-k : goal.invariant-note_all-loop-k
invariant-note_all-loop-k l = record {
  inside : l.k ≤ length l.body;
  narrowed : Narrowed l.sets l.initial.sets;
  living : (end : Names) → Below end (has l.after) → Below (before_all (drop l.k l.body) end) (has l.so_far);
  dead : (end : Names) → Below end (has l.after)
      → AllByRecursion (ForgetsDead (forgets_of l.sets)) (moments (map live (drop l.k l.body)) end);
}

abbrev pub decreases-note_all-loop-k : goal.decreases-note_all-loop-k
decreases-note_all-loop-k l = l.k

abbrev pub decreases-note : goal.decreases-note
decreases-note l = 2 * the_size l.s.now

abbrev pub decreases-note_all : goal.decreases-note_all
decreases-note_all l = 2 * most the_size l.body.now + 1
