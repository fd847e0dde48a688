use Rattle.std.proofs.Common.{ℕ, List}
use Rattle.br_syntax.specs.declared.program.Cmd.TheFolds.{fold-Cmd}
use Rattle.br_measure.specs.Paths.{callees_step}
use Rattle.br_measure.proofs.CalleeParts.{numbers_step, numbers_of_choice}
use Rattle.br_measure.proofs.calls.+calls.Goals as goal

pub commands-loop-c-preserved : goal.commands-loop-c-preserved
commands-loop-c-preserved t c =
    numbers_step c.args.index.now.funcs.now (fold-Cmd (List (List ℕ)) callees_step) c.args.cs.now c.loop-c.c-index
    c.c-item.result c.loop-c.found c.command.new.found _
    c.loop-c-test.true c.c-item.is c.in_ok-command.ensures c.loop-c.invariant

pub command-returns-in_ok-commands-in-If-2 : goal.command-returns-in_ok-commands-in-If-2
command-returns-in_ok-commands-in-If-2 t c =
    let whole = numbers_of_choice c.args.index.now.funcs.now c.in-If.field-0 c.in-If.first c.in-If.second
    c.args.found.now in
    rw (
      c.in_ok-commands-in-If-2.ensures,
      c.in_ok-commands-in-If.ensures,
      c.as_slice.ensures,
      c.as_slice-in-If.ensures,
      c.in-If.is,
    ) whole
