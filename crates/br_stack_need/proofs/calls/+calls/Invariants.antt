-- The callees so far and those of the statements that follow.
use Rattle.std.proofs.Common.{◌≡◌, ◌++◌, drop}
use Rattle.std.specs.List.{flat_map}
use Rattle.br_flatimp.specs.Parts.{gathered, own_callees}
use Rattle.br_stack_need.proofs.calls.+calls.Given as goal

abbrev pub invariant-add_calls-loop-s : goal.invariant-add_calls-loop-s
invariant-add_calls-loop-s l =
    l.found ++ flat_map (gathered own_callees) (drop l.s-index l.body)
    ≡ l.initial.found ++ flat_map (gathered own_callees) l.body
