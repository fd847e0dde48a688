use Rattle.br_spill.specs.Spill.{layout_in}
use Rattle.br_spill.proofs.Codes.{from_none, if-made}
use Rattle.br_spill.proofs.bodies.+statement.Goals as goal

pub statement-returns-in_ok-push-in-If-clause-code : goal.statement-returns-in_ok-push-in-If-clause-code
statement-returns-in_ok-push-in-If-clause-code t c =
    let l = layout_in c.args.places in
    if-made l c.args.s.now c.in-If.test c.test_at.result c.in-If.first c.in-If.second c.args.out.now
    c.bring_test.new.out c.push-in-If.new.self c.statements-in-If.new.out c.statements-in-If-2.new.out
    c.in-If.is c.in_ok-bring_test-in-If.ensures c.test_at.ensures
    (from_none l c.new-taken.result c.statements-in-If.new.out c.as_slice-in-If.result.now c.in-If.first
    c.new-taken.ensures c.as_slice-in-If.ensures c.in_ok-statements-in-If.ensures.code)
    (from_none l c.new-other.result c.statements-in-If-2.new.out c.as_slice-in-If-2.result.now c.in-If.second
    c.new-other.ensures c.as_slice-in-If-2.ensures c.in_ok-statements-in-If-2.ensures.code)
    c.in_ok-push-in-If.ensures.ok
