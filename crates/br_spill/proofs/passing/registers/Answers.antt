use Rattle.br_spill.proofs.InOrder.{one-more}
use Rattle.br_spill.proofs.passing.registers.Goals as goal

pub loop-i-preserved : goal.loop-i-preserved
loop-i-preserved c = one-more c.loop-i.xs c.push.new.self c.loop-i.i c.args.count c.loop-i-test.true
    c.in_ok-push.ensures.ok c.loop-i.invariant
