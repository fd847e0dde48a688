-- A buffer, a conditional, a loop and a call, and a list from its last statement to its first.
use Rattle.std.proofs.Common.{◌≡◌, ◌-◌, ◌<◌, ◌≤◌, length, map, drop, sym, ap, subst, ◌∙◌, arith}
use Rattle.std.specs.List.{AllByRecursion}
use denote.Param.Weighed.{most}
use Rattle.br_flatimp.proofs.program.Stmt.TheLaws.{the_size}
use Rattle.br_flatimp.specs.declared.program.Stmt.{Stmt}
use Rattle.br_flatimp.specs.Liveness.{before_all, at_test, live, moments}
use Rattle.br_flatimp.specs.Renaming.{ForgetsDead}
use Rattle.br_emit.specs.Registers.{Below, forgets_of, has}
use Rattle.br_emit.proofs.Forgetting.{at_most, drop_all, narrowed_twice, before_below, test_below}
use Rattle.br_emit.proofs.Forgetting.{live_step, dead_step, buffer_dead, if_dead, loop_dead, call_dead}
use Rattle.br_emit.proofs.forgotten.+noting.Goals as goal

pub note_all-note-requires : goal.note_all-note-requires
note_all-note-requires t c =
    let body = c.args.body.now in
    let k = c.loop-k.k in
    let inside : k - 1 < length body = omega (arith, c.loop-k-test.true, c.loop-k.invariant.inside) in
    let deep : the_size c.index-body-k.result ≤ most the_size body = subst (λ (s : Stmt). the_size s
    ≤ most the_size body) (sym c.index-body-k.is) (at_most the_size body (k - 1) c.index-body-k.result inside) in
    (omega (arith, deep, c.decreases), tt)

pub note_all-loop-k-init : goal.note_all-loop-k-init
note_all-loop-k-init t c = record {
  inside = omega arith;
  narrowed = λ g x e. e;
  living = λ end h. subst (λ q. Below (before_all q end) (has c.args.after)) (sym (drop_all c.args.body.now)) h;
  dead = λ end h. subst (λ q. AllByRecursion (ForgetsDead (forgets_of c.args.sets.now)) (moments (map live q) end))
      (sym (drop_all c.args.body.now)) tt;
}

pub note_all-loop-k-preserved : goal.note_all-loop-k-preserved
note_all-loop-k-preserved t c = record {
  inside = omega (arith, c.loop-k.invariant.inside);
  narrowed =
      narrowed_twice c.args.sets.now c.loop-k.sets c.note.new.sets c.note.ensures.narrowed c.loop-k.invariant.narrowed;
  living = live_step c.args.body.now c.loop-k.k c.index-body-k-in-loop-k.result c.flow_of.result c.args.after
      c.loop-k.so_far c.apply-so_far.result c.loop-k-test.true c.loop-k.invariant.inside c.index-body-k-in-loop-k.is
      c.flow_of.ensures c.apply-so_far.ensures c.loop-k.invariant.living;
  dead = dead_step c.args.body.now c.loop-k.k c.index-body-k.result c.args.after c.loop-k.so_far c.loop-k.sets
      c.note.new.sets c.loop-k-test.true c.loop-k.invariant.inside c.index-body-k.is
      c.note.ensures.narrowed c.note.ensures.dead c.loop-k.invariant.living c.loop-k.invariant.dead;
}

pub note_all-returns-clause-dead : goal.note_all-returns-clause-dead
note_all-returns-clause-dead t c = λ end h.
    (let zero : c.loop-k.k ≡ 0 = omega arith in
    subst
    (λ q. AllByRecursion (ForgetsDead (forgets_of c.loop-k.sets)) (moments (map live (drop q c.args.body.now)) end))
    zero (c.loop-k.invariant.dead end h))

pub note-returns-in-Stackalloc-clause-dead : goal.note-returns-in-Stackalloc-clause-dead
note-returns-in-Stackalloc-clause-dead t c = λ end h.
    buffer_dead c.note_all.new.sets c.args.s.now c.in-Stackalloc.field-0 c.in-Stackalloc.field-1 c.in-Stackalloc.body
    c.as_slice.result.now end c.in-Stackalloc.is c.as_slice.ensures (c.note_all.ensures.dead end h)

pub note-returns-in-If-clause-dead : goal.note-returns-in-If-clause-dead
note-returns-in-If-clause-dead t c = λ end h.
    if_dead c.note_all-in-If.new.sets c.note_all-in-If-2.new.sets c.args.s.now c.in-If.field-0 c.in-If.first
    c.in-If.second c.as_slice-in-If.result.now c.as_slice-in-If-2.result.now end c.in-If.is
    c.as_slice-in-If.ensures c.as_slice-in-If-2.ensures c.note_all-in-If-2.ensures.narrowed
    (c.note_all-in-If.ensures.dead end h) (c.note_all-in-If-2.ensures.dead end h)

pub note-returns-in-Loop-clause-dead : goal.note-returns-in-Loop-clause-dead
note-returns-in-Loop-clause-dead t c = λ end h.
    (let first = c.in-Loop.first in
    let test = c.in-Loop.field-1 in
    let last = c.in-Loop.last in
    let at = at_test (map live first) test (map live last) end in
    let at_below = test_below c.args.s.now first test last c.as_slice-in-Loop.result.now c.as_slice-in-Loop-2.result.now
    c.flow_of_all-opening.result c.flow_of_all-closing.result c.at_test.result c.read_by.result c.args.after
    c.apply-turn.result
    c.in-Loop.is c.as_slice-in-Loop.ensures c.as_slice-in-Loop-2.ensures c.read_by.ensures c.flow_of_all-opening.ensures
    c.flow_of_all-closing.ensures c.at_test.ensures c.apply-turn.ensures end h in
    let start_below = before_below c.flow_of_all-opening.result c.apply-turn.result c.apply.result (before_all first)
    (λ after x below. c.flow_of_all-opening.ensures after x below
    ∙ ap (λ q. before_all q after x) c.as_slice-in-Loop.ensures) c.apply.ensures at at_below in
    loop_dead c.note_all-in-Loop.new.sets c.note_all-in-Loop-2.new.sets c.args.s.now first test last
    c.as_slice-in-Loop-3.result.now c.as_slice-in-Loop-4.result.now end c.in-Loop.is
    c.as_slice-in-Loop-3.ensures
    c.as_slice-in-Loop-4.ensures c.note_all-in-Loop-2.ensures.narrowed (c.note_all-in-Loop.ensures.dead at at_below)
    (c.note_all-in-Loop-2.ensures.dead (before_all first at) start_below))

pub note-returns-in-Call-clause-dead : goal.note-returns-in-Call-clause-dead
note-returns-in-Call-clause-dead t c = λ end h.
    call_dead c.spare.new.sets c.args.s.now c.in-Call.xs c.in-Call.g c.in-Call.field-2 c.as_slice-in-Call.result.now
    c.without.result c.all_of.result c.args.after end c.in-Call.is c.as_slice-in-Call.ensures
    c.all_of.ensures c.without.ensures c.spare.ensures.taken h
