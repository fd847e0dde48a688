use Rattle.br_deadcode.proofs.Rounds.{item-formed, one-more, one-leaves}
use Rattle.br_deadcode.proofs.program.sweep_functions.Goals as goal

pub sweep_function-requires : goal.sweep_function-requires
sweep_function-requires c =
    let fs = c.args.fs.now in
    let f = c.f-item.result in
    c.names_are_below.ensures fs f (item-formed fs c.loop-f.f-index f c.requires c.loop-f-test.true c.f-item.is)

pub loop-f-preserved : goal.loop-f-preserved
loop-f-preserved c =
    let fs = c.args.fs.now in
    let i = c.loop-f.f-index in
    let f = c.f-item.result in
    record {
      left = one-more fs c.loop-f.made c.push.new.self i f c.in_ok-sweep_function.field-0 c.loop-f-test.true
          c.f-item.is
          c.in_ok-sweep_function.ensures.left c.in_ok-push.ensures.ok c.loop-f.invariant.left;
      removed = one-leaves fs i f c.loop-f.removed c.sweep_function.new.removed _ c.loop-f-test.true c.f-item.is
          c.in_ok-sweep_function.ensures.removed c.loop-f.invariant.removed;
    }
