-- Form by form, from what was found in the rows of the parts.
use Rattle.std.proofs.Common.{◌≡◌, ◌+◌, ◌==◌, ◌||◌, false, List, [], map, ap, subst, sym, ◌∙◌, arith}
use Rattle.std.specs.Prelude.{sum}
use Rattle.br_flatimp.specs.declared.program.Stmt.TheVariants.{Loop}
use Rattle.br_flatimp.specs.Sizes.{statement_count}
use Rattle.br_flatimp.specs.Values.{Names}
use Rattle.br_flatimp.specs.Liveness.{at_test, is_in, live, moments}
use Rattle.br_live.specs.Tables.{Row, rows}
use Rattle.br_regalloc_check.specs.Walks.{StandsAt, start_of}
use Rattle.br_regalloc_check.proofs.Starts.{buffer-live, first-live, no_items, some_items, if-early, if-live}
use Rattle.br_regalloc_check.proofs.Starts.{loop-early, loop-first, loop-live, part-live, plain-call, plain-copy}
use Rattle.br_regalloc_check.proofs.Starts.{plain-lit, plain-op, plain-store, stands-body, stands-if, stands-loop}
use Rattle.br_regalloc_check.proofs.before.+before.Goals as goal

pub is_live_before-returns-in-Lit : goal.is_live_before-returns-in-Lit
is_live_before-returns-in-Lit t c = λ names after h.
    plain-lit c.args.s.now c.in-Lit.y c.in-Lit.field-1 c.in-Lit.is after c.args.x c.is_live_after-after.result
    c.passes-in-Lit.result
    (c.is_live_after-after.ensures names after h) c.passes-in-Lit.ensures

pub is_live_before-returns-in-Copy : goal.is_live_before-returns-in-Copy
is_live_before-returns-in-Copy t c = λ names after h.
    plain-copy c.args.s.now c.in-Copy.y c.in-Copy.z c.in-Copy.is after c.args.x c.is_live_after-after.result
    c.passes-in-Copy.result
    (c.is_live_after-after.ensures names after h) c.passes-in-Copy.ensures

pub is_live_before-returns-in-Op : goal.is_live_before-returns-in-Op
is_live_before-returns-in-Op t c = λ names after h.
    plain-op c.args.s.now c.in-Op.y c.in-Op.field-1 c.in-Op.z c.in-Op.operand c.in-Op.is after c.args.x
    c.is_either-in-Op.result c.is_live_after-after.result c.passes-in-Op.result
    (c.is_live_after-after.ensures names after h)
    (c.is_either-in-Op.ensures ∙ ap (λ b. (c.in-Op.z == c.args.x) || b) c.is_operand.ensures)
    c.passes-in-Op.ensures

pub is_live_before-returns-in-Store : goal.is_live_before-returns-in-Store
is_live_before-returns-in-Store t c = λ names after h.
    plain-store c.args.s.now c.in-Store.y c.in-Store.z c.in-Store.is after c.args.x c.is_either-in-Store.result
    c.is_live_after-after.result c.passes-in-Store.result
    (c.is_live_after-after.ensures names after h) c.is_either-in-Store.ensures c.passes-in-Store.ensures

pub is_live_before-returns-in-Call : goal.is_live_before-returns-in-Call
is_live_before-returns-in-Call t c = λ names after h.
    plain-call c.args.s.now c.in-Call.ys c.in-Call.field-1 c.in-Call.zs c.in-Call.is after c.args.x c.is_among.result
    c.is_among-in-Call.result c.is_live_after-after.result c.passes-in-Call.result
    (c.is_live_after-after.ensures names after h)
    (c.is_among.ensures ∙ ap (λ zs. is_in zs c.args.x) c.as_slice-in-Call.ensures) (c.is_among-in-Call.ensures
    ∙ ap (λ zs. is_in zs c.args.x) c.as_slice-in-Call-2.ensures) c.passes-in-Call.ensures

pub is_live_before-returns-in-Stackalloc : goal.is_live_before-returns-in-Stackalloc
is_live_before-returns-in-Stackalloc t c = λ names after h.
    let rs : List Row = rows c.args.table.now in
    buffer-live c.args.s.now c.in-Stackalloc.y c.in-Stackalloc.field-1 c.in-Stackalloc.body c.in-Stackalloc.is after
    c.args.x c.is_live_at_start-inside.result c.passes.result
    (part-live rs (c.args.at + 1) names c.args.x c.in-Stackalloc.body
    c.as_slice.result.now c.is_live_at_start-inside.result c.is_live_after-after.result after c.as_slice.ensures
    (c.is_live_after-after.ensures names after h)
    c.is_live_at_start-inside.ensures
    (stands-body rs c.args.at names c.in-Stackalloc.y c.in-Stackalloc.field-1 c.in-Stackalloc.body after
    (subst (λ s. StandsAt rs c.args.at names ((live s).moments after)) c.in-Stackalloc.is h)))
    c.passes.ensures

pub is_live_before-returns-then-is_either : goal.is_live_before-returns-then-is_either
is_live_before-returns-then-is_either t c = λ names after h.
    let rs : List Row = rows c.args.table.now in
    let two = stands-if rs c.args.at names c.in-If.test c.in-If.first c.in-If.second after
    (subst (λ s. StandsAt rs c.args.at names ((live s).moments after)) c.in-If.is h) in
    if-early c.args.s.now c.in-If.test c.in-If.first c.in-If.second c.in-If.is after c.args.x c.is_tested.result
    c.is_live_at_start-in_first.result c.is_either.result c.is_tested.ensures
    (part-live rs (c.args.at + 1) names c.args.x c.in-If.first c.as_slice-first.result.now
    c.is_live_at_start-in_first.result c.is_live_after-after.result after c.as_slice-first.ensures
    (c.is_live_after-after.ensures names after h)
    c.is_live_at_start-in_first.ensures two.0)
    c.is_either.ensures c.if-is_either.true

pub is_live_before-returns-else-is_either : goal.is_live_before-returns-else-is_either
is_live_before-returns-else-is_either t c = λ names after h.
    let rs : List Row = rows c.args.table.now in
    let two = stands-if rs c.args.at names c.in-If.test c.in-If.first c.in-If.second after
    (subst (λ s. StandsAt rs c.args.at names ((live s).moments after)) c.in-If.is h) in
    let at2 : c.args.at + 1 + c.count_all.result ≡ c.args.at + 1 + sum (map statement_count c.in-If.first) =
    ap (λ k. c.args.at + 1 + k)
    (c.count_all.ensures ∙ ap (λ b. sum (map statement_count b)) c.as_slice-first.ensures) in
    ap (λ b. b || c.is_live_at_start.result) (sym c.if-is_either.false)
    ∙ if-live c.args.s.now c.in-If.test c.in-If.first c.in-If.second c.in-If.is after c.args.x c.is_tested.result
    c.is_live_at_start-in_first.result c.is_either.result c.is_live_at_start.result c.is_tested.ensures
    (part-live rs (c.args.at + 1) names c.args.x c.in-If.first c.as_slice-first.result.now
    c.is_live_at_start-in_first.result c.is_live_after-after.result after c.as_slice-first.ensures
    (c.is_live_after-after.ensures names after h)
    c.is_live_at_start-in_first.ensures two.0)
    c.is_either.ensures
    (part-live rs (c.args.at + 1 + c.count_all.result) names c.args.x
    c.in-If.second c.as_slice-else-is_either.result.now c.is_live_at_start.result c.is_live_after-after.result after
    c.as_slice-else-is_either.ensures (c.is_live_after-after.ensures names after h)
    c.is_live_at_start.ensures
    (subst (λ k. StandsAt rs k names (moments (map live c.in-If.second) after)) (sym at2) two.1))

pub is_live_before-returns-then-is_either-2 : goal.is_live_before-returns-then-is_either-2
is_live_before-returns-then-is_either-2 t c = λ names after h.
    let none : c.in-Loop.first ≡ [] = sym c.as_slice-first-in-Loop.ensures
    ∙ no_items c.as_slice-first-in-Loop.result.now (sym c.is_empty.ensures ∙ c.if-is_empty.true) in
    loop-early c.loops_take_one_turn.ensures.holds c.loops_take_one_turn.ensures.grows c.args.s.now c.in-Loop.first
    c.in-Loop.test c.in-Loop.last c.in-Loop.is none after c.args.x
    c.is_tested-then-is_empty.result c.is_live_after-after.result c.is_either-then-is_empty.result
    c.is_tested-then-is_empty.ensures (c.is_live_after-after.ensures names after h)
    c.is_either-then-is_empty.ensures c.if-is_either-2.true

pub is_live_before-returns-else-is_either-2 : goal.is_live_before-returns-else-is_either-2
is_live_before-returns-else-is_either-2 t c = λ names after h.
    let rs : List Row = rows c.args.table.now in
    let none : c.in-Loop.first ≡ [] = sym c.as_slice-first-in-Loop.ensures
    ∙ no_items c.as_slice-first-in-Loop.result.now (sym c.is_empty.ensures ∙ c.if-is_empty.true) in
    let test : Names = at_test [] c.in-Loop.test (map live c.in-Loop.last) after in
    let two = stands-loop rs c.args.at names [] c.in-Loop.test c.in-Loop.last after
    (subst (λ f. StandsAt rs c.args.at names ((live (Loop f c.in-Loop.test c.in-Loop.last)).moments after)) none
    (subst (λ s. StandsAt rs c.args.at names ((live s).moments after)) c.in-Loop.is h)) in
    let inner : StandsAt rs (c.args.at + 1) names (moments (map live c.in-Loop.last) test) =
    subst (λ k. StandsAt rs k names (moments (map live c.in-Loop.last) test))
    (let same : c.args.at + 1 + 0 ≡ c.args.at + 1 = omega arith in same) two.1 in
    ap (λ b. b || c.is_live_at_start-else-is_either-2.result) (sym c.if-is_either-2.false)
    ∙ loop-live c.loops_take_one_turn.ensures.holds c.loops_take_one_turn.ensures.grows c.args.s.now c.in-Loop.first
    c.in-Loop.test c.in-Loop.last c.in-Loop.is none after c.args.x
    c.is_tested-then-is_empty.result c.is_live_after-after.result
    c.is_either-then-is_empty.result c.is_live_at_start-else-is_either-2.result c.is_tested-then-is_empty.ensures
    (c.is_live_after-after.ensures names after h)
    c.is_either-then-is_empty.ensures
    (c.is_live_at_start-else-is_either-2.ensures names test
    (subst (λ l. StandsAt rs (c.args.at + 1) names (moments (map live l) test))
    (sym c.as_slice-else-is_either-2.ensures) inner)
    ∙ ap (λ l. start_of l false test c.args.x) c.as_slice-else-is_either-2.ensures)

pub is_live_before-returns-else-is_empty : goal.is_live_before-returns-else-is_empty
is_live_before-returns-else-is_empty t c = λ names after h.
    let rs : List Row = rows c.args.table.now in
    let test : Names = at_test (map live c.in-Loop.first) c.in-Loop.test (map live c.in-Loop.last) after in
    let two = stands-loop rs c.args.at names c.in-Loop.first c.in-Loop.test c.in-Loop.last after
    (subst (λ s. StandsAt rs c.args.at names ((live s).moments after)) c.in-Loop.is h) in
    loop-first c.args.s.now c.in-Loop.first c.in-Loop.test c.in-Loop.last c.in-Loop.is
    (λ none. some_items c.as_slice-first-in-Loop.result.now (sym c.is_empty.ensures ∙ c.if-is_empty.false)
    (c.as_slice-first-in-Loop.ensures ∙ none)) after c.args.x c.is_live_at_start-in-Loop.result
    (c.is_live_at_start-in-Loop.ensures
    names test (subst (λ l. StandsAt rs (c.args.at + 1) names (moments (map live l) test))
    (sym c.as_slice-first-in-Loop.ensures) two.0)
    ∙ ap (λ l. start_of l false test c.args.x) c.as_slice-first-in-Loop.ensures)

pub is_live_at_start-returns-in-len1-up : goal.is_live_at_start-returns-in-len1-up
is_live_at_start-returns-in-len1-up t c = λ names end h.
    first-live (rows c.args.table.now) c.args.at names c.args.x c.args.part.now c.s-item.result c.args.none
    c.is_live_before.result end c.in-len1-up.len_at_least c.s-item.is c.is_live_before.ensures h
