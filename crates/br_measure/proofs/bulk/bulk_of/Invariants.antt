-- The bulk of the functions so far.
use Rattle.std.proofs.Common.{◌≡◌, min, take}
use Rattle.br_measure.specs.Bulk.{bulk}
use Rattle.br_measure.proofs.bulk.bulk_of.Given as goal

abbrev pub invariant-loop-f : goal.invariant-loop-f
invariant-loop-f l = l.total ≡ min (bulk (take l.f-index l.p.funcs)) 4294967295
