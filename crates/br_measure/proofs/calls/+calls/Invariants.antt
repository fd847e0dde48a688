-- The callees so far and those of the commands that follow.
use Rattle.std.proofs.Common.{◌≡◌, ℕ, List, ◌++◌, map, drop}
use Rattle.br_syntax.specs.declared.program.Cmd.TheFolds.{fold-Cmd}
use Rattle.br_measure.specs.Paths.{callees_step, joined}
use Rattle.br_measure.specs.Table.{numbers_named}
use Rattle.br_measure.proofs.calls.+calls.Given as goal

abbrev pub invariant-commands-loop-c : goal.invariant-commands-loop-c
invariant-commands-loop-c l =
    l.found ++ numbers_named l.index.funcs.now
    (joined (map (fold-Cmd (List (List ℕ)) callees_step) (drop l.c-index l.cs)))
    ≡ l.initial.found ++ numbers_named l.index.funcs.now (joined (map (fold-Cmd (List (List ℕ)) callees_step) l.cs))
