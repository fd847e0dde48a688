use Rattle.std.proofs.Common.{arith, min, map, sum}
use Rattle.br_flatimp.specs.Sizes.{added, own_units}
use Rattle.br_flatten.proofs.StatementUnits.{units_item, units_none}
use Rattle.br_flatten.proofs.units.+units.Goals as goal

pub statements_units-loop-s-preserved : goal.statements_units-loop-s-preserved
statements_units-loop-s-preserved t c =
    let item = units_item (added own_units) c.args.body.now c.loop-s.s-index c.s-item.result c.loop-s-test.true
    c.s-item.is in
    let most = c.loop-s.invariant.most in
    let rest = c.loop-s.invariant.rest in
    record {
      most = omega (arith, c.saturating_add-all.ensures);
      rest = omega (arith, item, c.statement_units.ensures, c.saturating_add-all.ensures, most, rest);
    }

pub statements_units-returns : goal.statements_units-returns
statements_units-returns t c =
    units_none (added own_units) c.args.body.now c.loop-s.s-index c.loop-s.all
    (min (sum (map (added own_units) c.args.body.now)) 18446744073709551615) 18446744073709551615
    c.loop-s-test.false c.loop-s.invariant.most c.loop-s.invariant.rest
