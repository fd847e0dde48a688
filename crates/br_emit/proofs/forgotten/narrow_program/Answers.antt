use Rattle.std.proofs.Common.{◌≡◌, ◌+◌, ◌-◌, sym, subst, ◌∙◌, arith}
use Rattle.br_emit.proofs.Forgetting.{ClosedFrom, both_true, closed_nothing, closed_step, narrowed_twice}
use Rattle.br_emit.proofs.forgotten.narrow_program.Goals as goal

pub loop-n-init : goal.loop-n-init
loop-n-init c = record {
  inside = omega arith;
  narrowed = λ g x e. e;
  closed = λ e. closed_nothing c.args.sets.now c.args.funcs.now _ (omega arith);
}

pub loop-n-preserved : goal.loop-n-preserved
loop-n-preserved c =
    let n = c.loop-n.n in
    let fs = c.args.funcs.now in
    let up : n ≡ n - 1 + 1 = omega (arith, c.loop-n-test.true) in
    record {
      inside = omega (arith, c.loop-n.invariant.inside);
      narrowed = narrowed_twice c.args.sets.now c.loop-n.sets c.narrow_callees-one.new.sets
          c.narrow_callees-one.ensures.narrowed c.loop-n.invariant.narrowed;
      closed = λ e.
          (let p = both_true c.loop-n.steady c.narrow_callees-one.result (sym c.both-steady.ensures ∙ e) in
          subst (λ q. ClosedFrom q fs (n - 1)) (sym (c.narrow_callees-one.ensures.same p.1))
          (closed_step c.loop-n.sets fs (n - 1) c.index-funcs-n.result c.index-funcs-n.is
          (c.narrow_callees-one.ensures.closed p.1)
          (subst (ClosedFrom c.loop-n.sets fs) up (c.loop-n.invariant.closed p.0))));
    }

pub returns-clause-closed : goal.returns-clause-closed
returns-clause-closed c = λ e k f there. c.loop-n.invariant.closed e k f (omega arith) there
