use Rattle.std.proofs.Common.{◌≡◌, length}
use Rattle.br_flatimp.specs.WellFormed.{names_differ}
use Rattle.br_flatimp.proofs.forms.names_differ.Given as goal

abbrev pub invariant-loop-rest : goal.invariant-loop-rest
invariant-loop-rest l = names_differ l.funcs ≡ names_differ l.rest

abbrev pub decreases-loop-rest : goal.decreases-loop-rest
decreases-loop-rest l = length l.rest
