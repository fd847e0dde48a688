use Rattle.std.proofs.Common.{◌≡◌, Bool, true, false, ◌&&◌, refl, sym, ap, ◌∙◌}
use Rattle.std.specs.List.{list_all}
use Rattle.br_flatimp.specs.Values.{Names}
use Rattle.br_flatimp.specs.Parts.{test_names}
use Rattle.br_deadcode.specs.Unneeded.{is_closed, listed}
use Rattle.br_deadcode.proofs.Closed.{closed-stackalloc, closed-if, closed-loop}
use Rattle.br_deadcode.proofs.unneeded.+closed.Goals as goal

part-open : (a b c : Bool) → a ≡ true → b ≡ false → false ≡ (a && (b && c))
part-open true false c h k = refl
part-open true true c h k = absurd (cc k)
part-open false b c h k = absurd (cc h)

both-closed : (a b c : Bool) → a ≡ true → b ≡ true → c ≡ (a && (b && c))
both-closed true true c h k = refl
both-closed true false c h k = absurd (cc k)
both-closed false b c h k = absurd (cc h)

pub is_closed-returns-in-Stackalloc : goal.is_closed-returns-in-Stackalloc
is_closed-returns-in-Stackalloc t c =
    let set : Names = listed c.args.bits.now in
    c.are_closed.ensures ∙ ap (list_all (is_closed set)) c.as_slice-in-Stackalloc.ensures
    ∙ sym (closed-stackalloc c.in-Stackalloc.field-0 c.in-Stackalloc.field-1 c.in-Stackalloc.body set)
    ∙ ap (is_closed set) (sym c.in-Stackalloc.is)

pub is_closed-returns-then-not-are_closed : goal.is_closed-returns-then-not-are_closed
is_closed-returns-then-not-are_closed t c =
    let set : Names = listed c.args.bits.now in
    let a : Bool = list_all set (test_names c.in-If.test) in
    let b : Bool = list_all (is_closed set) c.in-If.first in
    let d : Bool = list_all (is_closed set) c.in-If.second in
    let tested : a ≡ true = sym c.has_test.ensures ∙ c.if-not-has_test.false in
    let opens : b ≡ false =
    sym (c.are_closed-in-If.ensures ∙ ap (list_all (is_closed set)) c.as_slice-in-If.ensures)
    ∙ c.if-not-are_closed.true in
    part-open a b d tested opens
    ∙ sym (closed-if c.in-If.test c.in-If.first c.in-If.second set) ∙ ap (is_closed set) (sym c.in-If.is)

pub is_closed-returns-else-not-are_closed : goal.is_closed-returns-else-not-are_closed
is_closed-returns-else-not-are_closed t c =
    let set : Names = listed c.args.bits.now in
    let a : Bool = list_all set (test_names c.in-If.test) in
    let b : Bool = list_all (is_closed set) c.in-If.first in
    let d : Bool = list_all (is_closed set) c.in-If.second in
    let tested : a ≡ true = sym c.has_test.ensures ∙ c.if-not-has_test.false in
    let opens : b ≡ true =
    sym (c.are_closed-in-If.ensures ∙ ap (list_all (is_closed set)) c.as_slice-in-If.ensures)
    ∙ c.if-not-are_closed.false in
    c.are_closed-in-If-2.ensures ∙ ap (list_all (is_closed set)) c.as_slice-in-If-2.ensures
    ∙ both-closed a b d tested opens
    ∙ sym (closed-if c.in-If.test c.in-If.first c.in-If.second set) ∙ ap (is_closed set) (sym c.in-If.is)

pub is_closed-returns-then-not-are_closed-2 : goal.is_closed-returns-then-not-are_closed-2
is_closed-returns-then-not-are_closed-2 t c =
    let set : Names = listed c.args.bits.now in
    let a : Bool = list_all set (test_names c.in-Loop.test) in
    let b : Bool = list_all (is_closed set) c.in-Loop.first in
    let d : Bool = list_all (is_closed set) c.in-Loop.last in
    let tested : a ≡ true = sym c.has_test-in-Loop.ensures ∙ c.if-not-has_test-2.false in
    let opens : b ≡ false =
    sym (c.are_closed-in-Loop.ensures ∙ ap (list_all (is_closed set)) c.as_slice-in-Loop.ensures)
    ∙ c.if-not-are_closed-2.true in
    part-open a b d tested opens
    ∙ sym (closed-loop c.in-Loop.first c.in-Loop.test c.in-Loop.last set) ∙ ap (is_closed set) (sym c.in-Loop.is)

pub is_closed-returns-else-not-are_closed-2 : goal.is_closed-returns-else-not-are_closed-2
is_closed-returns-else-not-are_closed-2 t c =
    let set : Names = listed c.args.bits.now in
    let a : Bool = list_all set (test_names c.in-Loop.test) in
    let b : Bool = list_all (is_closed set) c.in-Loop.first in
    let d : Bool = list_all (is_closed set) c.in-Loop.last in
    let tested : a ≡ true = sym c.has_test-in-Loop.ensures ∙ c.if-not-has_test-2.false in
    let opens : b ≡ true =
    sym (c.are_closed-in-Loop.ensures ∙ ap (list_all (is_closed set)) c.as_slice-in-Loop.ensures)
    ∙ c.if-not-are_closed-2.false in
    c.are_closed-in-Loop-2.ensures ∙ ap (list_all (is_closed set)) c.as_slice-in-Loop-2.ensures
    ∙ both-closed a b d tested opens
    ∙ sym (closed-loop c.in-Loop.first c.in-Loop.test c.in-Loop.last set) ∙ ap (is_closed set) (sym c.in-Loop.is)
