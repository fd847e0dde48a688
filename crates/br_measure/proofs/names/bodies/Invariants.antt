-- The lowest fault so far and that of the functions that follow make that of all.
use Rattle.std.proofs.Common.{◌≡◌, map, drop}
use Rattle.br_measure.specs.Names.{joined, commands_faults}
use Rattle.br_measure.specs.Lowest.{lower, lowest}
use Rattle.br_measure.proofs.names.bodies.Given as goal

abbrev pub invariant-loop-f : goal.invariant-loop-f
invariant-loop-f l =
    lower l.fault (lowest (joined
    (map (λ f. commands_faults l.index.funcs.now f.body) (drop l.f-index l.index.funcs.now))))
    ≡ lowest (joined (map (λ f. commands_faults l.index.funcs.now f.body) l.index.funcs.now))
