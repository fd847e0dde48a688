-- A buffer, a conditional and a loop part by part, and a list statement by statement.
use Rattle.std.proofs.Common.{◌≡◌, ◌++◌, [], drop, sym, subst, ◌∙◌, arith}
use Rattle.std.specs.List.{flat_map}
use Rattle.std.proofs.lemmas.Grind.{common_steps}
use Rattle.br_flatimp.specs.Parts.{gathered, own_callees}
use Rattle.br_emit.proofs.Forgetting.{Within, both_true, within_both, within_step, narrowed_twice}
use Rattle.br_emit.proofs.Unrolling.{gathered_buffer, gathered_if, gathered_loop}
use Rattle.br_emit.proofs.forgotten.+narrowing.Goals as goal

pub narrow-returns-in-Stackalloc-clause-within : goal.narrow-returns-in-Stackalloc-clause-within
narrow-returns-in-Stackalloc-clause-within t c = λ e.
    subst (Within c.args.sets.now c.args.allowed) (sym (gathered_buffer own_callees c.args.s.now c.in-Stackalloc.field-0
    c.in-Stackalloc.field-1 c.in-Stackalloc.body c.in-Stackalloc.is))
    (subst (λ q. Within c.args.sets.now c.args.allowed (flat_map (gathered own_callees) q)) c.as_slice.ensures
    (c.narrow_all.ensures.within e))

pub narrow-returns-in-If-clause-within : goal.narrow-returns-in-If-clause-within
narrow-returns-in-If-clause-within t c = λ e.
    subst (Within c.args.sets.now c.args.allowed)
    (sym (gathered_if own_callees c.args.s.now c.in-If.field-0 c.in-If.first c.in-If.second c.in-If.is))
    (subst (λ q. Within c.args.sets.now c.args.allowed
    (flat_map (gathered own_callees) c.in-If.first ++ flat_map (gathered own_callees) q)) c.as_slice-in-If-2.ensures
    (subst (λ q. Within c.args.sets.now c.args.allowed
    (flat_map (gathered own_callees) q ++ flat_map (gathered own_callees) c.as_slice-in-If-2.result.now))
    c.as_slice-in-If.ensures (c.narrow_two.ensures.within e)))

pub narrow-returns-in-Loop-clause-within : goal.narrow-returns-in-Loop-clause-within
narrow-returns-in-Loop-clause-within t c = λ e.
    subst (Within c.args.sets.now c.args.allowed)
    (sym (gathered_loop own_callees c.args.s.now c.in-Loop.first c.in-Loop.field-1 c.in-Loop.last c.in-Loop.is))
    (subst (λ q. Within c.args.sets.now c.args.allowed (flat_map (gathered own_callees) c.in-Loop.first
    ++ flat_map (gathered own_callees) q)) c.as_slice-in-Loop-2.ensures
    (subst (λ q. Within c.args.sets.now c.args.allowed
    (flat_map (gathered own_callees) q ++ flat_map (gathered own_callees) c.as_slice-in-Loop-2.result.now))
    c.as_slice-in-Loop.ensures (c.narrow_two-in-Loop.ensures.within e)))

pub narrow_all-loop-s-preserved : goal.narrow_all-loop-s-preserved
narrow_all-loop-s-preserved t c = record {
  narrowed = narrowed_twice c.args.sets.now c.loop-s.sets c.narrow-one.new.sets c.narrow-one.ensures.narrowed
      c.loop-s.invariant.narrowed;
  same = λ e. (let p = both_true c.loop-s.within c.narrow-one.result (sym c.both-within.ensures ∙ e) in
      c.narrow-one.ensures.same p.1 ∙ c.loop-s.invariant.same p.0);
  rest = λ e later.
      (let p = both_true c.loop-s.within c.narrow-one.result (sym c.both-within.ensures ∙ e) in
      c.loop-s.invariant.rest p.0
      (within_step c.args.body.now c.loop-s.s-index c.s-item.result c.args.sets.now c.loop-s.sets c.args.allowed
      c.loop-s-test.true c.s-item.is (c.loop-s.invariant.same p.0) (c.narrow-one.ensures.within p.1) later));
}

pub narrow_all-returns-clause-within : goal.narrow_all-returns-clause-within
narrow_all-returns-clause-within t c = λ e.
    (let none : drop c.loop-s.s-index c.args.body.now ≡ [] = grind (arith, common_steps) in
    c.loop-s.invariant.rest e (subst (λ q. Within c.args.sets.now c.args.allowed (flat_map (gathered own_callees) q))
    (sym none) (λ g callee x k. absurd (cc))))

pub narrow_two-returns-clause-narrowed : goal.narrow_two-returns-clause-narrowed
narrow_two-returns-clause-narrowed t c = narrowed_twice c.args.sets.now c.narrow_all-one.new.sets
    c.narrow_all-other.new.sets c.narrow_all-other.ensures.narrowed c.narrow_all-one.ensures.narrowed

pub narrow_two-returns-clause-same : goal.narrow_two-returns-clause-same
narrow_two-returns-clause-same t c =
    λ e. (let p = both_true c.narrow_all-one.result c.narrow_all-other.result (sym c.both.ensures ∙ e) in
    c.narrow_all-other.ensures.same p.1 ∙ c.narrow_all-one.ensures.same p.0)

pub narrow_two-returns-clause-within : goal.narrow_two-returns-clause-within
narrow_two-returns-clause-within t c = λ e.
    (let p = both_true c.narrow_all-one.result c.narrow_all-other.result (sym c.both.ensures ∙ e) in
    within_both c.args.sets.now c.narrow_all-one.new.sets c.args.allowed
    (flat_map (gathered own_callees) c.args.first.now) (flat_map (gathered own_callees) c.args.second.now)
    (c.narrow_all-one.ensures.same p.0) (c.narrow_all-one.ensures.within p.0) (c.narrow_all-other.ensures.within p.1))
