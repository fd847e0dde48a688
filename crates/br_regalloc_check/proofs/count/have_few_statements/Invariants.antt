-- Those from here on are few exactly where all are.
use Rattle.std.proofs.Common.{◌<◌, ◌^◌, ◌↔◌, length}
use Rattle.std.specs.List.{AllByRecursion}
use Rattle.br_flatimp.specs.Sizes.{function_count}
use Rattle.br_regalloc_check.proofs.count.have_few_statements.Given as goal

abbrev pub invariant-loop-rest : goal.invariant-loop-rest
invariant-loop-rest l =
    AllByRecursion (λ f. function_count f < 2 ^ 32) l.p.funcs ↔ AllByRecursion (λ f. function_count f < 2 ^ 32) l.rest

abbrev pub decreases-loop-rest : goal.decreases-loop-rest
decreases-loop-rest l = length l.rest
