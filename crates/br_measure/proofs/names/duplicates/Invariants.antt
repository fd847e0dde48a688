-- The lowest fault so far and that of the functions that follow make that of all.
use Rattle.std.proofs.Common.{◌≡◌, [], take, drop}
use Rattle.br_measure.specs.Names.{duplicates_after}
use Rattle.br_measure.specs.Lowest.{lower, lowest}
use Rattle.br_measure.proofs.names.duplicates.Given as goal

abbrev pub invariant-loop-i : goal.invariant-loop-i
invariant-loop-i l =
    lower l.fault (lowest (duplicates_after (take l.i l.index.funcs.now) (drop l.i l.index.funcs.now)))
    ≡ lowest (duplicates_after [] l.index.funcs.now)
