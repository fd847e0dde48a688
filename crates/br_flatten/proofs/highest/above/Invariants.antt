-- The numbers from here on.
use Rattle.std.proofs.Common.{◌≡◌, max, min, drop}
use Rattle.br_flatten.specs.Flatten.{above}
use Rattle.br_flatten.proofs.highest.above.Given as goal

abbrev pub invariant-loop-x : goal.invariant-loop-x
invariant-loop-x l = max l.most (min (above (drop l.x-index l.xs)) 4294967295) ≡ min (above l.xs) 4294967295
