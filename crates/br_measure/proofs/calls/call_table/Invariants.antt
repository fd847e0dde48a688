-- The rows of the functions so far.
use Rattle.std.proofs.Common.{◌≡◌, ◌++◌, map, drop}
use Rattle.br_measure.specs.Paths.{callees}
use Rattle.br_measure.specs.Table.{numbers_named, call_table}
use Rattle.br_measure.proofs.calls.call_table.Given as goal

abbrev pub invariant-loop-f : goal.invariant-loop-f
invariant-loop-f l =
    l.table ++ map (λ f. numbers_named l.index.funcs.now (callees f)) (drop l.f-index l.index.funcs.now)
    ≡ call_table l.index.funcs.now
