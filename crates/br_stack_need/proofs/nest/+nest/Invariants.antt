-- The largest so far and of the statements that follow make that of the whole.
use Rattle.std.proofs.Common.{◌≡◌, ◌≤◌, max, min, map, drop}
use Rattle.br_flatimp.specs.Sizes.{largest, statement_nest}
use Rattle.br_stack_need.proofs.nest.+nest.Given as goal

abbrev pub invariant-largest_nest-loop-s : goal.invariant-largest_nest-loop-s
invariant-largest_nest-loop-s l =
    (l.most ≤ 4294967295)
    × (min 4294967295 (max l.most (largest (map statement_nest (drop l.s-index l.body))))
    ≡ min 4294967295 (largest (map statement_nest l.body)))
