use Rattle.std.proofs.Common.{◌≡◌, ℕ, ◌<◌, ◌+◌, ◌*◌, drop}
use denote.Param.Weighed.{most}
use Rattle.br_flatimp.specs.Liveness.{before_all}
use Rattle.br_flatimp.specs.Values.{Names}
use Rattle.br_flatimp.proofs.program.Stmt.TheLaws.{the_size}
use Rattle.br_emit.specs.Registers.{handed}
use Rattle.br_emit.proofs.flow.+flowing.Given as goal

abbrev pub invariant-flow_of_all-loop-s : goal.invariant-flow_of_all-loop-s
invariant-flow_of_all-loop-s l = (after : Names) (x : ℕ) → x < 32
    → handed l.so_far (before_all (drop l.s-index l.body) after) x ≡ before_all l.body after x

abbrev pub decreases-flow_of : goal.decreases-flow_of
decreases-flow_of l = 2 * the_size l.s.now

abbrev pub decreases-flow_of_all : goal.decreases-flow_of_all
decreases-flow_of_all l = 2 * most the_size l.body.now + 1
