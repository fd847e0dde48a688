-- The bytes of the functions so far and of those that follow.
use Rattle.std.proofs.Common.{◌≡◌, ◌+◌, ◌*◌, ◌++◌, min, map, drop}
use Rattle.br_measure.specs.Bulk.{function_bulk}
use Rattle.br_measure.specs.Measure.{nested_buffers}
use Rattle.br_measure.proofs.measures.own_needs.Given as goal

abbrev pub invariant-loop-f : goal.invariant-loop-f
invariant-loop-f l =
    l.own ++ map (λ f. min (4 * function_bulk f + 256 + nested_buffers f) 4294967295) (drop l.f-index l.funcs)
    ≡ map (λ f. min (4 * function_bulk f + 256 + nested_buffers f) 4294967295) l.funcs
