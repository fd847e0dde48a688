-- The lowest fault so far and that of the commands that follow make that of all.
use Rattle.std.proofs.Common.{◌≡◌, drop}
use Rattle.br_measure.specs.Names.{commands_faults}
use Rattle.br_measure.specs.Lowest.{lower, lowest}
use Rattle.br_measure.proofs.names.+names.Given as goal

abbrev pub invariant-commands-loop-c : goal.invariant-commands-loop-c
invariant-commands-loop-c l =
    lower l.fault (lowest (commands_faults l.index.funcs.now (drop l.c-index l.cs)))
    ≡ lowest (commands_faults l.index.funcs.now l.cs)
