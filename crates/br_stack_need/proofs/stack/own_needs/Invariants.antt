-- The bytes of the functions so far and of those that follow.
use Rattle.std.proofs.Common.{◌≡◌, ◌++◌, min, map, drop}
use Rattle.br_flatimp.specs.Sizes.{own_need}
use Rattle.br_stack_need.proofs.stack.own_needs.Given as goal

abbrev pub invariant-loop-f : goal.invariant-loop-f
invariant-loop-f l =
    l.own ++ map (λ f. min 4294967295 (own_need f)) (drop l.f-index l.funcs)
    ≡ map (λ f. min 4294967295 (own_need f)) l.funcs
