use Rattle.std.proofs.Common.{◌≡◌, length}
use Rattle.br_regalloc_propose.proofs.registers.no_proposals.Given as goal

abbrev pub invariant-loop-f : goal.invariant-loop-f
invariant-loop-f l = length l.proposals.items ≡ l._f-index
