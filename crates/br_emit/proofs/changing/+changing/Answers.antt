use Rattle.std.proofs.Common.{◌≡◌, ◌||◌, [], drop, sym, ap, ◌∙◌, arith}
use Rattle.std.proofs.lemmas.Grind.{common_steps}
use Rattle.br_flatimp.specs.Parts.{written, own_callees}
use Rattle.br_emit.specs.Registers.{forgets_of, has}
use Rattle.br_emit.proofs.Bits.{has-nothing, or_false}
use Rattle.br_emit.proofs.Changes.{changes_at, changes-append, changed_step, changed_buffer, two_gathered, own_gathered}
use Rattle.br_emit.proofs.Unrolling.{gathered_if, gathered_loop}
use Rattle.br_emit.proofs.changing.+changing.Goals as goal

pub changed_by-returns-in-Stackalloc : goal.changed_by-returns-in-Stackalloc
changed_by-returns-in-Stackalloc t c = λ x below.
    (c.union.ensures x ∙ changed_buffer c.args.sets.now c.args.s.now c.in-Stackalloc.x c.in-Stackalloc.field-1
    c.in-Stackalloc.body c.as_slice.result.now c.all_of.result c.changed_by_all.result
    c.in-Stackalloc.is c.as_slice.ensures c.all_of.ensures c.changed_by_all.ensures x below)

pub changed_by-returns-in-If : goal.changed_by-returns-in-If
changed_by-returns-in-If t c = λ x below.
    (c.changed_by_two.ensures x below
    ∙ two_gathered (forgets_of c.args.sets.now) c.args.s.now c.in-If.first c.in-If.second c.as_slice-in-If.result.now
    c.as_slice-in-If-2.result.now x c.as_slice-in-If.ensures c.as_slice-in-If-2.ensures
    (gathered_if written c.args.s.now c.in-If.field-0 c.in-If.first c.in-If.second c.in-If.is)
    (gathered_if own_callees c.args.s.now c.in-If.field-0 c.in-If.first c.in-If.second c.in-If.is))

pub changed_by-returns-in-Loop : goal.changed_by-returns-in-Loop
changed_by-returns-in-Loop t c = λ x below.
    (c.changed_by_two-in-Loop.ensures x below
    ∙ two_gathered (forgets_of c.args.sets.now) c.args.s.now c.in-Loop.first c.in-Loop.last
    c.as_slice-in-Loop.result.now c.as_slice-in-Loop-2.result.now x c.as_slice-in-Loop.ensures
    c.as_slice-in-Loop-2.ensures
    (gathered_loop written c.args.s.now c.in-Loop.first c.in-Loop.field-1 c.in-Loop.last c.in-Loop.is)
    (gathered_loop own_callees c.args.s.now c.in-Loop.first c.in-Loop.field-1 c.in-Loop.last c.in-Loop.is))

pub changed_by_all-loop-s-init : goal.changed_by_all-loop-s-init
changed_by_all-loop-s-init t c = λ x below. ap (λ b. b || changes_at (forgets_of c.args.sets.now)
    (own_gathered written c.args.body.now) (own_gathered own_callees c.args.body.now) x) (has-nothing x)

pub changed_by_all-loop-s-preserved : goal.changed_by_all-loop-s-preserved
changed_by_all-loop-s-preserved t c =
    changed_step c.args.sets.now c.loop-s.changed c.union-changed.result c.changed_by.result c.loop-s.s-index
    c.args.body.now c.s-item.result c.loop-s-test.true c.s-item.is c.union-changed.ensures c.changed_by.ensures
    c.loop-s.invariant

pub changed_by_all-returns : goal.changed_by_all-returns
changed_by_all-returns t c = λ x below.
    (let none : drop c.loop-s.s-index c.args.body.now ≡ [] = grind (arith, common_steps) in
    sym (or_false (has c.loop-s.changed x)) ∙ ap (λ q. has c.loop-s.changed x || changes_at (forgets_of c.args.sets.now)
    (own_gathered written q) (own_gathered own_callees q) x) (sym none) ∙ c.loop-s.invariant x below)

pub changed_by_two-returns : goal.changed_by_two-returns
changed_by_two-returns t c = λ x below.
    (c.union.ensures x
    ∙ ap (λ b. b || has c.changed_by_all-2.result x) (c.changed_by_all.ensures x below)
    ∙ ap (λ b. changes_at (forgets_of c.args.sets.now) (own_gathered written c.args.first.now)
    (own_gathered own_callees c.args.first.now) x || b) (c.changed_by_all-2.ensures x below)
    ∙ sym (changes-append (forgets_of c.args.sets.now) (own_gathered written c.args.first.now) (own_gathered written
    c.args.second.now) (own_gathered own_callees c.args.first.now) (own_gathered own_callees c.args.second.now) x))
