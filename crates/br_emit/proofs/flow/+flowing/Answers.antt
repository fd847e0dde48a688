-- A buffer, a conditional and a loop part by part, and a list statement by statement.
use Rattle.std.proofs.Common.{◌≡◌, [], drop, sym, ap, ◌∙◌, arith}
use Rattle.std.proofs.lemmas.Grind.{common_steps}
use Rattle.br_flatimp.specs.Liveness.{before_all}
use Rattle.br_emit.specs.Registers.{handed}
use Rattle.br_emit.proofs.Living.{buffer_is, if_is, loop_is, plain_is, flow_step}
use Rattle.br_emit.proofs.flow.+flowing.Goals as goal

pub flow_of-returns-in-Stackalloc : goal.flow_of-returns-in-Stackalloc
flow_of-returns-in-Stackalloc t c =
    buffer_is c.args.s.now c.in-Stackalloc.field-0 c.in-Stackalloc.field-1 c.in-Stackalloc.body c.as_slice.result.now
    c.then.result c.own.result c.flow_of_all.result c.written_by-written.result c.read_by-read.result
    c.in-Stackalloc.is c.as_slice.ensures c.written_by-written.ensures c.read_by-read.ensures c.then.ensures
    c.own.ensures c.flow_of_all.ensures

pub flow_of-returns-in-If : goal.flow_of-returns-in-If
flow_of-returns-in-If t c =
    if_is c.args.s.now c.in-If.field-0 c.in-If.first c.in-If.second c.as_slice-in-If.result.now
    c.as_slice-in-If-2.result.now c.then-in-If.result c.own-in-If.result c.either.result c.flow_of_all-in-If.result
    c.flow_of_all-in-If-2.result c.written_by-written.result c.read_by-read.result
    c.in-If.is c.as_slice-in-If.ensures c.as_slice-in-If-2.ensures c.written_by-written.ensures
    c.read_by-read.ensures c.then-in-If.ensures c.own-in-If.ensures c.either.ensures c.flow_of_all-in-If.ensures
    c.flow_of_all-in-If-2.ensures

pub flow_of-returns-in-Loop : goal.flow_of-returns-in-Loop
flow_of-returns-in-Loop t c =
    loop_is c.args.s.now c.in-Loop.first c.in-Loop.field-1 c.in-Loop.last
    c.as_slice-in-Loop.result.now c.as_slice-in-Loop-2.result.now c.flow_of_loop.result c.flow_of_all-in-Loop.result
    c.flow_of_all-in-Loop-2.result c.read_by-read.result
    c.in-Loop.is c.as_slice-in-Loop.ensures c.as_slice-in-Loop-2.ensures c.read_by-read.ensures c.flow_of_loop.ensures
    c.flow_of_all-in-Loop.ensures c.flow_of_all-in-Loop-2.ensures

pub flow_of-returns-in-Lit : goal.flow_of-returns-in-Lit
flow_of-returns-in-Lit t c =
    plain_is c.args.s.now c.own-in-Lit.result c.written_by-written.result c.read_by-read.result c.in-Lit.is
    c.written_by-written.ensures c.read_by-read.ensures c.own-in-Lit.ensures

pub flow_of_all-loop-s-preserved : goal.flow_of_all-loop-s-preserved
flow_of_all-loop-s-preserved t c =
    flow_step c.args.body.now c.loop-s.s-index c.s-item.result c.loop-s.so_far c.then-so_far.result c.flow_of.result
    c.loop-s-test.true c.s-item.is c.then-so_far.ensures c.flow_of.ensures c.loop-s.invariant

pub flow_of_all-returns : goal.flow_of_all-returns
flow_of_all-returns t c = λ after x below.
    (let none : drop c.loop-s.s-index c.args.body.now ≡ [] = grind (arith, common_steps) in
    ap (λ q. handed c.loop-s.so_far (before_all q after) x) (sym none) ∙ c.loop-s.invariant after x below)
