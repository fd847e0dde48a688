use Rattle.std.proofs.Common.{arith}
use Rattle.br_flatimp.specs.Parts.{statement_names}
use Rattle.br_flatten.proofs.LeastAbove.{above_item}
use Rattle.br_flatten.proofs.highest.+highest.Goals as goal

pub above_statements-loop-s-preserved : goal.above_statements-loop-s-preserved
above_statements-loop-s-preserved t c =
    let item = above_item statement_names c.args.body.now c.loop-s.s-index c.s-item.result c.loop-s-test.true
    c.s-item.is in
    omega (arith, item, c.above_statement.ensures, c.max-most.ensures, c.loop-s.invariant)
