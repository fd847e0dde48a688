use Rattle.br_flatten.specs.Places.{command_variables}
use Rattle.br_flatten.proofs.AddedNames.{names_step}
use Rattle.br_flatten.proofs.places.+places.Goals as goal

pub commands-loop-c-preserved : goal.commands-loop-c-preserved
commands-loop-c-preserved t c =
    names_step command_variables c.args.cs.now c.loop-c.c-index c.c-item.result c.loop-c.names
    c.command.new.names _ c.loop-c-test.true c.c-item.is c.in_ok-command.ensures c.loop-c.invariant
