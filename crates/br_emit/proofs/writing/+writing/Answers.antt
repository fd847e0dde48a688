-- A conditional, a loop and a buffer are written part by part, and a list statement by statement.
use Rattle.std.proofs.Common.{◌+◌, length, drop, get_or, ap, subst, ◌∙◌, arith, rules}
use Rattle.br_flatimp.specs.declared.program.Stmt.TheFolds.{the_lemmas}
use Rattle.br_emit.specs.Code.{AllFit, branching, back_items, all_items}
use Rattle.br_emit.specs.Sizes.{if_head_items, if_middle_items, loop_head_items, sized_all}
use Rattle.br_emit.specs.Buffer.{appended}
use Rattle.br_emit.specs.Ready.{aimed}
use Rattle.br_emit.proofs.Planning.{if_plan, loop_plan}
use Rattle.br_emit.proofs.Sizing.{all_words_are}
use Rattle.br_emit.proofs.Unrolling.{buffer_parts, if_ready, loop_ready, table_few, all_step, form_next}
use Rattle.br_emit.proofs.writing.+writing.Goals as goal

pub write-table-requires-clause-few : goal.write-table-requires-clause-few
write-table-requires-clause-few t c =
    let few = table_few (aimed c.args.targets.now) c.args.s.now c.in-Table.x c.in-Table.size c.in-Table.bytes
    c.in-Table.y c.args.free 1048576 c.in-Table.is c.requires.ready.few in
    search rules

pub write-write_buffer-requires : goal.write-write_buffer-requires
write-write_buffer-requires t c =
    let parts = buffer_parts (aimed c.args.targets.now) c.args.s.now c.in-Stackalloc.x c.in-Stackalloc.n
    c.in-Stackalloc.body c.args.free c.args.code.now c.args.lengths.now c.in-Stackalloc.is c.requires.form
    c.requires.ready in (
      search (rules, the_lemmas),
      (parts.register, (c.requires.targets, (rw c.as_slice-in-Stackalloc.ensures parts.form, search rules))),
    )

pub write-write_if-requires : goal.write-write_if-requires
write-write_if-requires t c =
    let parts = if_ready (aimed c.args.targets.now) c.args.s.now c.in-If.test c.in-If.first c.in-If.second c.args.free
    c.args.code.now c.args.lengths.now c.in-If.is c.requires.form c.requires.ready in (
      search (rules, the_lemmas),
      (
        c.requires.targets,
        (
          parts.registers,
          (
            rw c.as_slice-in-If.ensures parts.first_form,
            (
              rw c.as_slice-in-If-2.ensures
                  parts.second_form,
              rw (c.as_slice-in-If.ensures, c.as_slice-in-If-2.ensures) parts.ready,
            ),
          ),
        ),
      ),
    )

pub write-write_loop-requires : goal.write-write_loop-requires
write-write_loop-requires t c =
    let parts = loop_ready (aimed c.args.targets.now) c.args.s.now c.in-Loop.first c.in-Loop.test c.in-Loop.last
    c.args.free c.args.code.now c.args.lengths.now c.in-Loop.is c.requires.form c.requires.ready in (
      search (rules, the_lemmas),
      (
        c.requires.targets,
        (
          parts.registers,
          (
            rw c.as_slice-in-Loop.ensures parts.first_form,
            (
              rw c.as_slice-in-Loop-2.ensures
                  parts.second_form,
              rw (c.as_slice-in-Loop.ensures, c.as_slice-in-Loop-2.ensures) parts.ready,
            ),
          ),
        ),
      ),
    )

pub write_all-loop-s-preserved : goal.write_all-loop-s-preserved
write_all-loop-s-preserved t c =
    let step = all_step (aimed c.args.targets.now) c.args.body.now c.loop-s.s-index c.s-item.result c.args.free
    c.loop-s.code c.write.new.code c.loop-s.lengths c.write.new.lengths
    c.loop-s-test.true c.s-item.is c.write.ensures.code c.write.ensures.lengths c.loop-s.invariant.ready in
    record {
      ready = step.ready;
      code = step.code ∙ c.loop-s.invariant.code;
      fit = λ rest. c.loop-s.invariant.fit (step.fit c.write.ensures.fit rest);
      form = form_next c.args.body.now c.loop-s.s-index c.s-item.result c.loop-s-test.true c.s-item.is
          c.loop-s.invariant.form;
      lengths = step.lengths ∙ c.loop-s.invariant.lengths;
    }

pub write_if-if_head-requires-clause-room : goal.write_if-if_head-requires-clause-room
write_if-if_head-requires-clause-room t c =
    let plan = if_plan (branching c.args.test) (all_items (aimed c.args.targets.now) c.args.first.now c.args.free)
    (all_items (aimed c.args.targets.now) c.args.second.now c.args.free) (sized_all c.args.targets.now.near
    c.args.first.now c.args.free) (sized_all c.args.targets.now.near c.args.second.now c.args.free)
    c.args.code.now c.args.lengths.now (all_words_are (aimed c.args.targets.now) c.args.first.now c.args.free)
    (all_words_are (aimed c.args.targets.now) c.args.second.now c.args.free) c.requires.ready in
    let a_is = c.next-a.ensures.value ∙ plan.first_length in
    let b_is = c.next-b.ensures.value ∙ ap (λ l. get_or l 0 0) c.next-a.ensures.left ∙ plan.second_length in
    rw (a_is, b_is) plan.head_room

pub write_if-if_head-requires-clause-first : goal.write_if-if_head-requires-clause-first
write_if-if_head-requires-clause-first t c =
    let plan = if_plan (branching c.args.test) (all_items (aimed c.args.targets.now) c.args.first.now c.args.free)
    (all_items (aimed c.args.targets.now) c.args.second.now c.args.free) (sized_all c.args.targets.now.near
    c.args.first.now c.args.free) (sized_all c.args.targets.now.near c.args.second.now c.args.free)
    c.args.code.now c.args.lengths.now (all_words_are (aimed c.args.targets.now) c.args.first.now c.args.free)
    (all_words_are (aimed c.args.targets.now) c.args.second.now c.args.free) c.requires.ready in
    let a_is = c.next-a.ensures.value ∙ plan.first_length in
    let b_is = c.next-b.ensures.value ∙ ap (λ l. get_or l 0 0) c.next-a.ensures.left ∙ plan.second_length in
    rw a_is plan.few_first

pub write_if-if_head-requires-clause-second : goal.write_if-if_head-requires-clause-second
write_if-if_head-requires-clause-second t c =
    let plan = if_plan (branching c.args.test) (all_items (aimed c.args.targets.now) c.args.first.now c.args.free)
    (all_items (aimed c.args.targets.now) c.args.second.now c.args.free) (sized_all c.args.targets.now.near
    c.args.first.now c.args.free) (sized_all c.args.targets.now.near c.args.second.now c.args.free)
    c.args.code.now c.args.lengths.now (all_words_are (aimed c.args.targets.now) c.args.first.now c.args.free)
    (all_words_are (aimed c.args.targets.now) c.args.second.now c.args.free) c.requires.ready in
    let a_is = c.next-a.ensures.value ∙ plan.first_length in
    let b_is = c.next-b.ensures.value ∙ ap (λ l. get_or l 0 0) c.next-a.ensures.left ∙ plan.second_length in
    rw b_is plan.few_second

pub write_if-write_all-requires : goal.write_if-write_all-requires
write_if-write_all-requires t c =
    let plan = if_plan (branching c.args.test) (all_items (aimed c.args.targets.now) c.args.first.now c.args.free)
    (all_items (aimed c.args.targets.now) c.args.second.now c.args.free) (sized_all c.args.targets.now.near
    c.args.first.now c.args.free) (sized_all c.args.targets.now.near c.args.second.now c.args.free)
    c.args.code.now c.args.lengths.now (all_words_are (aimed c.args.targets.now) c.args.first.now c.args.free)
    (all_words_are (aimed c.args.targets.now) c.args.second.now c.args.free) c.requires.ready in
    let a_is = c.next-a.ensures.value ∙ plan.first_length in
    let b_is = c.next-b.ensures.value ∙ ap (λ l. get_or l 0 0) c.next-a.ensures.left ∙ plan.second_length in
    let l2 = c.next-b.ensures.left ∙ ap (drop 1) c.next-a.ensures.left in
    let w1 = c.if_head.ensures.code
    ∙ ap (λ n. appended c.args.code.now (if_head_items (branching c.args.test) n c.next-b.result)) a_is
    ∙ ap (λ n. appended c.args.code.now (if_head_items (branching c.args.test)
    (length (all_items (aimed c.args.targets.now) c.args.first.now c.args.free)) n)) b_is in
    (search rules, (c.requires.targets, (c.requires.first, rw (w1, l2) plan.first_ready)))

pub write_if-if_middle-requires-clause-room : goal.write_if-if_middle-requires-clause-room
write_if-if_middle-requires-clause-room t c =
    let plan = if_plan (branching c.args.test) (all_items (aimed c.args.targets.now) c.args.first.now c.args.free)
    (all_items (aimed c.args.targets.now) c.args.second.now c.args.free) (sized_all c.args.targets.now.near
    c.args.first.now c.args.free) (sized_all c.args.targets.now.near c.args.second.now c.args.free)
    c.args.code.now c.args.lengths.now (all_words_are (aimed c.args.targets.now) c.args.first.now c.args.free)
    (all_words_are (aimed c.args.targets.now) c.args.second.now c.args.free) c.requires.ready in
    let a_is = c.next-a.ensures.value ∙ plan.first_length in
    let b_is = c.next-b.ensures.value ∙ ap (λ l. get_or l 0 0) c.next-a.ensures.left ∙ plan.second_length in
    let w1 = c.if_head.ensures.code
    ∙ ap (λ n. appended c.args.code.now (if_head_items (branching c.args.test) n c.next-b.result)) a_is
    ∙ ap (λ n. appended c.args.code.now (if_head_items (branching c.args.test)
    (length (all_items (aimed c.args.targets.now) c.args.first.now c.args.free)) n)) b_is in
    let w2 = c.write_all.ensures.code
    ∙ ap (λ w. appended w (all_items (aimed c.args.targets.now) c.args.first.now c.args.free)) w1 in
    rw (a_is, b_is, w2) plan.middle_room

pub write_if-if_middle-requires-clause-second : goal.write_if-if_middle-requires-clause-second
write_if-if_middle-requires-clause-second t c =
    let plan = if_plan (branching c.args.test) (all_items (aimed c.args.targets.now) c.args.first.now c.args.free)
    (all_items (aimed c.args.targets.now) c.args.second.now c.args.free) (sized_all c.args.targets.now.near
    c.args.first.now c.args.free) (sized_all c.args.targets.now.near c.args.second.now c.args.free)
    c.args.code.now c.args.lengths.now (all_words_are (aimed c.args.targets.now) c.args.first.now c.args.free)
    (all_words_are (aimed c.args.targets.now) c.args.second.now c.args.free) c.requires.ready in
    let a_is = c.next-a.ensures.value ∙ plan.first_length in
    let b_is = c.next-b.ensures.value ∙ ap (λ l. get_or l 0 0) c.next-a.ensures.left ∙ plan.second_length in
    rw b_is plan.few_second

pub write_if-write_all-requires-2 : goal.write_if-write_all-requires-2
write_if-write_all-requires-2 t c =
    let plan = if_plan (branching c.args.test) (all_items (aimed c.args.targets.now) c.args.first.now c.args.free)
    (all_items (aimed c.args.targets.now) c.args.second.now c.args.free) (sized_all c.args.targets.now.near
    c.args.first.now c.args.free) (sized_all c.args.targets.now.near c.args.second.now c.args.free)
    c.args.code.now c.args.lengths.now (all_words_are (aimed c.args.targets.now) c.args.first.now c.args.free)
    (all_words_are (aimed c.args.targets.now) c.args.second.now c.args.free) c.requires.ready in
    let a_is = c.next-a.ensures.value ∙ plan.first_length in
    let b_is = c.next-b.ensures.value ∙ ap (λ l. get_or l 0 0) c.next-a.ensures.left ∙ plan.second_length in
    let l2 = c.next-b.ensures.left ∙ ap (drop 1) c.next-a.ensures.left in
    let w1 = c.if_head.ensures.code
    ∙ ap (λ n. appended c.args.code.now (if_head_items (branching c.args.test) n c.next-b.result)) a_is
    ∙ ap (λ n. appended c.args.code.now (if_head_items (branching c.args.test)
    (length (all_items (aimed c.args.targets.now) c.args.first.now c.args.free)) n)) b_is in
    let w2 = c.write_all.ensures.code
    ∙ ap (λ w. appended w (all_items (aimed c.args.targets.now) c.args.first.now c.args.free)) w1 in
    let l3 = c.write_all.ensures.lengths
    ∙ ap (drop (length (sized_all c.args.targets.now.near c.args.first.now c.args.free).parts)) l2 in
    let w3 = c.if_middle.ensures.code ∙ ap (λ w. appended w (if_middle_items c.next-a.result c.next-b.result)) w2
    ∙ ap (λ n. appended (appended (appended c.args.code.now (if_head_items
    (branching c.args.test) (length (all_items (aimed c.args.targets.now) c.args.first.now c.args.free))
    (length (all_items (aimed c.args.targets.now) c.args.second.now c.args.free))))
    (all_items (aimed c.args.targets.now) c.args.first.now c.args.free)) (if_middle_items n c.next-b.result)) a_is
    ∙ ap (λ n. appended (appended (appended c.args.code.now (if_head_items
    (branching c.args.test) (length (all_items (aimed c.args.targets.now) c.args.first.now c.args.free))
    (length (all_items (aimed c.args.targets.now) c.args.second.now c.args.free))))
    (all_items (aimed c.args.targets.now) c.args.first.now c.args.free))
    (if_middle_items (length (all_items (aimed c.args.targets.now) c.args.first.now c.args.free)) n)) b_is in
    (search rules, (c.requires.targets, (c.requires.second, rw (w3, l3) plan.second_ready)))

pub write_if-returns-clause-code : goal.write_if-returns-clause-code
write_if-returns-clause-code t c =
    let plan = if_plan (branching c.args.test) (all_items (aimed c.args.targets.now) c.args.first.now c.args.free)
    (all_items (aimed c.args.targets.now) c.args.second.now c.args.free) (sized_all c.args.targets.now.near
    c.args.first.now c.args.free) (sized_all c.args.targets.now.near c.args.second.now c.args.free)
    c.args.code.now c.args.lengths.now (all_words_are (aimed c.args.targets.now) c.args.first.now c.args.free)
    (all_words_are (aimed c.args.targets.now) c.args.second.now c.args.free) c.requires.ready in
    let a_is = c.next-a.ensures.value ∙ plan.first_length in
    let b_is = c.next-b.ensures.value ∙ ap (λ l. get_or l 0 0) c.next-a.ensures.left ∙ plan.second_length in
    let w1 = c.if_head.ensures.code
    ∙ ap (λ n. appended c.args.code.now (if_head_items (branching c.args.test) n c.next-b.result)) a_is
    ∙ ap (λ n. appended c.args.code.now (if_head_items (branching c.args.test)
    (length (all_items (aimed c.args.targets.now) c.args.first.now c.args.free)) n)) b_is in
    let w2 = c.write_all.ensures.code
    ∙ ap (λ w. appended w (all_items (aimed c.args.targets.now) c.args.first.now c.args.free)) w1 in
    let w3 = c.if_middle.ensures.code ∙ ap (λ w. appended w (if_middle_items c.next-a.result c.next-b.result)) w2
    ∙ ap (λ n. appended (appended (appended c.args.code.now (if_head_items
    (branching c.args.test) (length (all_items (aimed c.args.targets.now) c.args.first.now c.args.free))
    (length (all_items (aimed c.args.targets.now) c.args.second.now c.args.free))))
    (all_items (aimed c.args.targets.now) c.args.first.now c.args.free)) (if_middle_items n c.next-b.result)) a_is
    ∙ ap (λ n. appended (appended (appended c.args.code.now (if_head_items
    (branching c.args.test) (length (all_items (aimed c.args.targets.now) c.args.first.now c.args.free))
    (length (all_items (aimed c.args.targets.now) c.args.second.now c.args.free))))
    (all_items (aimed c.args.targets.now) c.args.first.now c.args.free))
    (if_middle_items (length (all_items (aimed c.args.targets.now) c.args.first.now c.args.free)) n)) b_is in
    c.write_all-2.ensures.code
    ∙ ap (λ w. appended w (all_items (aimed c.args.targets.now) c.args.second.now c.args.free)) w3 ∙ plan.code

pub write_if-returns-clause-fit : goal.write_if-returns-clause-fit
write_if-returns-clause-fit t c =
    let plan = if_plan (branching c.args.test) (all_items (aimed c.args.targets.now) c.args.first.now c.args.free)
    (all_items (aimed c.args.targets.now) c.args.second.now c.args.free) (sized_all c.args.targets.now.near
    c.args.first.now c.args.free) (sized_all c.args.targets.now.near c.args.second.now c.args.free)
    c.args.code.now c.args.lengths.now (all_words_are (aimed c.args.targets.now) c.args.first.now c.args.free)
    (all_words_are (aimed c.args.targets.now) c.args.second.now c.args.free) c.requires.ready in
    let a_is = c.next-a.ensures.value ∙ plan.first_length in
    let b_is = c.next-b.ensures.value ∙ ap (λ l. get_or l 0 0) c.next-a.ensures.left ∙ plan.second_length in
    plan.fit (subst (λ n. AllFit (if_head_items
    (branching c.args.test) (length (all_items (aimed c.args.targets.now) c.args.first.now c.args.free)) n))
    b_is (subst (λ n. AllFit (if_head_items (branching c.args.test) n c.next-b.result)) a_is c.if_head.ensures.fit))
    c.write_all.ensures.fit
    (subst
    (λ n. AllFit (if_middle_items (length (all_items (aimed c.args.targets.now) c.args.first.now c.args.free)) n))
    b_is (subst (λ n. AllFit (if_middle_items n c.next-b.result)) a_is c.if_middle.ensures.fit))
    c.write_all-2.ensures.fit

pub write_loop-loop_head-requires-clause-room : goal.write_loop-loop_head-requires-clause-room
write_loop-loop_head-requires-clause-room t c =
    let plan = loop_plan (all_items (aimed c.args.targets.now) c.args.first.now c.args.free) (branching c.args.test)
    (all_items (aimed c.args.targets.now) c.args.last.now c.args.free) (sized_all c.args.targets.now.near
    c.args.first.now c.args.free) (sized_all c.args.targets.now.near c.args.last.now c.args.free)
    c.args.code.now c.args.lengths.now (all_words_are (aimed c.args.targets.now) c.args.first.now c.args.free)
    (all_words_are (aimed c.args.targets.now) c.args.last.now c.args.free) c.requires.ready in
    let b_is = c.next-b.ensures.value ∙ plan.last_length in
    let a_is = c.next-a.ensures.value ∙ ap (λ l. get_or l 0 0) c.next-b.ensures.left ∙ plan.first_length in
    rw b_is plan.head_room

pub write_loop-loop_head-requires-clause-few : goal.write_loop-loop_head-requires-clause-few
write_loop-loop_head-requires-clause-few t c =
    let plan = loop_plan (all_items (aimed c.args.targets.now) c.args.first.now c.args.free) (branching c.args.test)
    (all_items (aimed c.args.targets.now) c.args.last.now c.args.free) (sized_all c.args.targets.now.near
    c.args.first.now c.args.free) (sized_all c.args.targets.now.near c.args.last.now c.args.free)
    c.args.code.now c.args.lengths.now (all_words_are (aimed c.args.targets.now) c.args.first.now c.args.free)
    (all_words_are (aimed c.args.targets.now) c.args.last.now c.args.free) c.requires.ready in
    let b_is = c.next-b.ensures.value ∙ plan.last_length in
    let a_is = c.next-a.ensures.value ∙ ap (λ l. get_or l 0 0) c.next-b.ensures.left ∙ plan.first_length in
    let few = plan.few in
    omega arith

pub write_loop-write_all-requires : goal.write_loop-write_all-requires
write_loop-write_all-requires t c =
    let plan = loop_plan (all_items (aimed c.args.targets.now) c.args.first.now c.args.free) (branching c.args.test)
    (all_items (aimed c.args.targets.now) c.args.last.now c.args.free) (sized_all c.args.targets.now.near
    c.args.first.now c.args.free) (sized_all c.args.targets.now.near c.args.last.now c.args.free)
    c.args.code.now c.args.lengths.now (all_words_are (aimed c.args.targets.now) c.args.first.now c.args.free)
    (all_words_are (aimed c.args.targets.now) c.args.last.now c.args.free) c.requires.ready in
    let b_is = c.next-b.ensures.value ∙ plan.last_length in
    let a_is = c.next-a.ensures.value ∙ ap (λ l. get_or l 0 0) c.next-b.ensures.left ∙ plan.first_length in
    let l2 = c.next-a.ensures.left ∙ ap (drop 1) c.next-b.ensures.left in
    let w1 = c.loop_head.ensures.code ∙ ap (λ n. appended c.args.code.now (loop_head_items n)) b_is in
    (search rules, (c.requires.targets, (c.requires.last, rw (w1, l2) plan.last_ready)))

pub write_loop-write_all-requires-2 : goal.write_loop-write_all-requires-2
write_loop-write_all-requires-2 t c =
    let plan = loop_plan (all_items (aimed c.args.targets.now) c.args.first.now c.args.free) (branching c.args.test)
    (all_items (aimed c.args.targets.now) c.args.last.now c.args.free) (sized_all c.args.targets.now.near
    c.args.first.now c.args.free) (sized_all c.args.targets.now.near c.args.last.now c.args.free)
    c.args.code.now c.args.lengths.now (all_words_are (aimed c.args.targets.now) c.args.first.now c.args.free)
    (all_words_are (aimed c.args.targets.now) c.args.last.now c.args.free) c.requires.ready in
    let b_is = c.next-b.ensures.value ∙ plan.last_length in
    let a_is = c.next-a.ensures.value ∙ ap (λ l. get_or l 0 0) c.next-b.ensures.left ∙ plan.first_length in
    let l2 = c.next-a.ensures.left ∙ ap (drop 1) c.next-b.ensures.left in
    let w1 = c.loop_head.ensures.code ∙ ap (λ n. appended c.args.code.now (loop_head_items n)) b_is in
    let w2 = c.write_all.ensures.code
    ∙ ap (λ w. appended w (all_items (aimed c.args.targets.now) c.args.last.now c.args.free)) w1 in
    let l3 = c.write_all.ensures.lengths
    ∙ ap (drop (length (sized_all c.args.targets.now.near c.args.last.now c.args.free).parts)) l2 in
    (search rules, (c.requires.targets, (c.requires.first, rw (w2, l3) plan.first_ready)))

pub write_loop-overflow_add-b : goal.write_loop-overflow_add-b
write_loop-overflow_add-b t c =
    let plan = loop_plan (all_items (aimed c.args.targets.now) c.args.first.now c.args.free) (branching c.args.test)
    (all_items (aimed c.args.targets.now) c.args.last.now c.args.free) (sized_all c.args.targets.now.near
    c.args.first.now c.args.free) (sized_all c.args.targets.now.near c.args.last.now c.args.free)
    c.args.code.now c.args.lengths.now (all_words_are (aimed c.args.targets.now) c.args.first.now c.args.free)
    (all_words_are (aimed c.args.targets.now) c.args.last.now c.args.free) c.requires.ready in
    let b_is = c.next-b.ensures.value ∙ plan.last_length in
    let a_is = c.next-a.ensures.value ∙ ap (λ l. get_or l 0 0) c.next-b.ensures.left ∙ plan.first_length in
    let few = plan.few in
    search (arith, few)

pub write_loop-loop_back-requires-clause-room : goal.write_loop-loop_back-requires-clause-room
write_loop-loop_back-requires-clause-room t c =
    let plan = loop_plan (all_items (aimed c.args.targets.now) c.args.first.now c.args.free) (branching c.args.test)
    (all_items (aimed c.args.targets.now) c.args.last.now c.args.free) (sized_all c.args.targets.now.near
    c.args.first.now c.args.free) (sized_all c.args.targets.now.near c.args.last.now c.args.free)
    c.args.code.now c.args.lengths.now (all_words_are (aimed c.args.targets.now) c.args.first.now c.args.free)
    (all_words_are (aimed c.args.targets.now) c.args.last.now c.args.free) c.requires.ready in
    let b_is = c.next-b.ensures.value ∙ plan.last_length in
    let a_is = c.next-a.ensures.value ∙ ap (λ l. get_or l 0 0) c.next-b.ensures.left ∙ plan.first_length in
    let w1 = c.loop_head.ensures.code ∙ ap (λ n. appended c.args.code.now (loop_head_items n)) b_is in
    let w2 = c.write_all.ensures.code
    ∙ ap (λ w. appended w (all_items (aimed c.args.targets.now) c.args.last.now c.args.free)) w1 in
    let w3 = c.write_all-2.ensures.code
    ∙ ap (λ w. appended w (all_items (aimed c.args.targets.now) c.args.first.now c.args.free)) w2 in
    rw (b_is, a_is, w3) plan.back_room

pub write_loop-loop_back-requires-clause-few : goal.write_loop-loop_back-requires-clause-few
write_loop-loop_back-requires-clause-few t c =
    let plan = loop_plan (all_items (aimed c.args.targets.now) c.args.first.now c.args.free) (branching c.args.test)
    (all_items (aimed c.args.targets.now) c.args.last.now c.args.free) (sized_all c.args.targets.now.near
    c.args.first.now c.args.free) (sized_all c.args.targets.now.near c.args.last.now c.args.free)
    c.args.code.now c.args.lengths.now (all_words_are (aimed c.args.targets.now) c.args.first.now c.args.free)
    (all_words_are (aimed c.args.targets.now) c.args.last.now c.args.free) c.requires.ready in
    let b_is = c.next-b.ensures.value ∙ plan.last_length in
    let a_is = c.next-a.ensures.value ∙ ap (λ l. get_or l 0 0) c.next-b.ensures.left ∙ plan.first_length in
    let few = plan.few in
    omega arith

pub write_loop-returns-clause-code : goal.write_loop-returns-clause-code
write_loop-returns-clause-code t c =
    let plan = loop_plan (all_items (aimed c.args.targets.now) c.args.first.now c.args.free) (branching c.args.test)
    (all_items (aimed c.args.targets.now) c.args.last.now c.args.free) (sized_all c.args.targets.now.near
    c.args.first.now c.args.free) (sized_all c.args.targets.now.near c.args.last.now c.args.free)
    c.args.code.now c.args.lengths.now (all_words_are (aimed c.args.targets.now) c.args.first.now c.args.free)
    (all_words_are (aimed c.args.targets.now) c.args.last.now c.args.free) c.requires.ready in
    let b_is = c.next-b.ensures.value ∙ plan.last_length in
    let a_is = c.next-a.ensures.value ∙ ap (λ l. get_or l 0 0) c.next-b.ensures.left ∙ plan.first_length in
    let w1 = c.loop_head.ensures.code ∙ ap (λ n. appended c.args.code.now (loop_head_items n)) b_is in
    let w2 = c.write_all.ensures.code
    ∙ ap (λ w. appended w (all_items (aimed c.args.targets.now) c.args.last.now c.args.free)) w1 in
    let w3 = c.write_all-2.ensures.code
    ∙ ap (λ w. appended w (all_items (aimed c.args.targets.now) c.args.first.now c.args.free)) w2 in
    c.loop_back.ensures.code
    ∙ ap (λ w. appended w (back_items (branching c.args.test) (c.next-b.result + c.next-a.result))) w3
    ∙ rw (b_is, a_is) plan.code

pub write_loop-returns-clause-fit : goal.write_loop-returns-clause-fit
write_loop-returns-clause-fit t c =
    let plan = loop_plan (all_items (aimed c.args.targets.now) c.args.first.now c.args.free) (branching c.args.test)
    (all_items (aimed c.args.targets.now) c.args.last.now c.args.free) (sized_all c.args.targets.now.near
    c.args.first.now c.args.free) (sized_all c.args.targets.now.near c.args.last.now c.args.free)
    c.args.code.now c.args.lengths.now (all_words_are (aimed c.args.targets.now) c.args.first.now c.args.free)
    (all_words_are (aimed c.args.targets.now) c.args.last.now c.args.free) c.requires.ready in
    let b_is = c.next-b.ensures.value ∙ plan.last_length in
    let a_is = c.next-a.ensures.value ∙ ap (λ l. get_or l 0 0) c.next-b.ensures.left ∙ plan.first_length in
    plan.fit (subst (λ n. AllFit (loop_head_items n)) b_is c.loop_head.ensures.fit) c.write_all.ensures.fit
    c.write_all-2.ensures.fit
    (subst (λ n. AllFit (back_items
    (branching c.args.test) (n + length (all_items (aimed c.args.targets.now) c.args.first.now c.args.free)))) b_is
    (subst (λ n. AllFit (back_items (branching c.args.test) (c.next-b.result + n))) a_is c.loop_back.ensures.fit))
