use Rattle.std.specs.List.{flat_map}
use Rattle.br_flatimp.specs.Parts.{callees}
use Rattle.br_emit.specs.Marks.{marked}
use Rattle.br_emit.proofs.Unrolling.{mark_step}
use Rattle.br_emit.proofs.called.mark_program.Goals as goal

pub loop-f-preserved : goal.loop-f-preserved
loop-f-preserved c =
    mark_step callees c.args.funcs.now c.loop-f.f-index c.f-item.result c.loop-f.flags c.mark_function.new.flags
    (marked c.args.flags.now (flat_map callees c.args.funcs.now))
    c.loop-f-test.true c.f-item.is c.mark_function.ensures c.loop-f.invariant
