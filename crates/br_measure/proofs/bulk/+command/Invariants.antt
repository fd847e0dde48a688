-- The bulk of the commands so far.
use Rattle.std.proofs.Common.{◌≡◌, min, take}
use Rattle.br_measure.specs.Bulk.{commands_bulk}
use Rattle.br_measure.proofs.bulk.+command.Given as goal

abbrev pub invariant-commands-loop-c : goal.invariant-commands-loop-c
invariant-commands-loop-c l = l.total ≡ min (commands_bulk (take l.c-index l.cs)) 4294967295
