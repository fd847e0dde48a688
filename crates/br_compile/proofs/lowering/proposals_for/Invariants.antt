use Rattle.std.proofs.Common.{◌≡◌, length}
use Rattle.br_compile.proofs.lowering.proposals_for.Given as goal

abbrev pub invariant-loop-f : goal.invariant-loop-f
invariant-loop-f l = length l.proposals.items ≡ l.f-index
