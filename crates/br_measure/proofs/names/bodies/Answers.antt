use Rattle.std.proofs.Common.{◌∙◌, ap}
use Rattle.br_measure.specs.Lowest.{lowest}
use Rattle.br_measure.specs.Names.{commands_faults}
use Rattle.br_measure.proofs.LowestParts.{lowest_step}
use Rattle.br_measure.proofs.names.bodies.Goals as goal

pub loop-f-preserved : goal.loop-f-preserved
loop-f-preserved c =
    let fs = c.args.index.now.funcs.now in
    lowest_step (λ f. commands_faults fs f.body) fs c.loop-f.f-index c.f-item.result c.loop-f.fault c.commands.result _
    _
    c.loop-f-test.true c.f-item.is (c.commands.ensures ∙ ap (λ b. lowest (commands_faults fs b)) c.as_slice.ensures)
    c.lower-fault.ensures c.loop-f.invariant
