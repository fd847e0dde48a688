-- The rows of the functions so far.
use Rattle.std.proofs.Common.{◌≡◌, ◌++◌, map, drop}
use Rattle.br_flatimp.specs.Parts.{callees}
use Rattle.br_stack_need.proofs.calls.call_table.Given as goal

abbrev pub invariant-loop-f : goal.invariant-loop-f
invariant-loop-f l = l.table ++ map callees (drop l.f-index l.funcs) ≡ map callees l.funcs
