use Rattle.br_measure.proofs.Duplicates.{duplicates_step}
use Rattle.br_measure.proofs.names.duplicates.Goals as goal

pub loop-i-preserved : goal.loop-i-preserved
loop-i-preserved c =
    duplicates_step c.args.index.now.funcs.now c.loop-i.i c.f-item.result c.loop-i.fault c.duplicate.result _ _
    c.loop-i-test.true c.f-item.is c.duplicate.ensures c.lower-fault.ensures c.loop-i.invariant
