-- The largest so far and of the commands that follow make that of the whole.
use Rattle.std.proofs.Common.{◌≡◌, ◌≤◌, ℕ, max, min, map, drop}
use Rattle.br_syntax.specs.declared.program.Cmd.TheFolds.{fold-Cmd}
use Rattle.br_measure.specs.Measure.{nested_step, largest}
use Rattle.br_measure.proofs.nested.+nested.Given as goal

abbrev pub invariant-commands-loop-c : goal.invariant-commands-loop-c
invariant-commands-loop-c l =
    (l.most ≤ 4294967295)
    × (min (max l.most (largest (map (fold-Cmd ℕ nested_step) (drop l.c-index l.cs)))) 4294967295
    ≡ min (largest (map (fold-Cmd ℕ nested_step) l.cs)) 4294967295)
