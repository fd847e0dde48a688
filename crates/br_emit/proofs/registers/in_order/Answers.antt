use Rattle.std.specs.Prelude.{◌++◌, filter}
use Rattle.br_emit.specs.Code.{registers}
use Rattle.br_emit.specs.Registers.{has}
use Rattle.br_emit.proofs.Saving.{keep_more, keep_few}
use Rattle.br_emit.proofs.registers.in_order.Goals as goal

pub loop-r-preserved : goal.loop-r-preserved
loop-r-preserved c = record {
  found = keep_more (has c.args.set) c.loop-r.found c.keep.new.found (c.args.before
      ++ filter (has c.args.set) registers) c.loop-r.r c.loop-r-test.true c.keep.ensures c.loop-r.invariant.found;
  few = keep_few (has c.args.set c.loop-r.r) c.loop-r.found c.keep.new.found c.loop-r.r c.keep.ensures
      c.loop-r.invariant.few;
}
