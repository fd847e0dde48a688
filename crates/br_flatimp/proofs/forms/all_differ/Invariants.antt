use Rattle.std.proofs.Common.{◌≡◌, length}
use Rattle.br_flatimp.specs.WellFormed.{all_differ}
use Rattle.br_flatimp.proofs.forms.all_differ.Given as goal

abbrev pub invariant-loop-rest : goal.invariant-loop-rest
invariant-loop-rest l = all_differ l.xs ≡ all_differ l.rest

abbrev pub decreases-loop-rest : goal.decreases-loop-rest
decreases-loop-rest l = length l.rest
