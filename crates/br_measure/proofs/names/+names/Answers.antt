use Rattle.std.proofs.Common.{refl}
use Rattle.br_measure.specs.Names.{command_faults}
use Rattle.br_measure.proofs.LowestParts.{lowest_step}
use Rattle.br_measure.proofs.CommandFaults.{lowest_of_choice}
use Rattle.br_measure.proofs.names.+names.Goals as goal

pub commands-loop-c-preserved : goal.commands-loop-c-preserved
commands-loop-c-preserved t c =
    lowest_step (command_faults c.args.index.now.funcs.now) c.args.cs.now c.loop-c.c-index c.c-item.result
    c.loop-c.fault c.command.result _ _
    c.loop-c-test.true c.c-item.is c.command.ensures c.lower-fault.ensures c.loop-c.invariant

pub command-returns-in-If : goal.command-returns-in-If
command-returns-in-If t c =
    let fs = c.args.index.now.funcs.now in
    let whole = lowest_of_choice fs c.in-If.field-0 c.in-If.first c.in-If.second in
    rw (
      c.in-If.is,
      whole,
      c.lower.ensures,
      c.commands.ensures,
      c.commands-in-If.ensures,
      c.as_slice.ensures,
      c.as_slice-in-If.ensures,
    ) refl
