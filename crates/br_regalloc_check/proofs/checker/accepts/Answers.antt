-- The table has the rows of the function, and each check shows a part of what is asked.
use Rattle.std.proofs.Common.{◌≡◌, ℕ, ◌<◌, ◌↔◌, ◌==◌, IsTrue, List, map, length, sym, ap, subst, ◌∙◌, arith}
use Rattle.std.specs.Prelude.{slice_index, sum}
use Rattle.br_flatimp.specs.declared.program.Stmt.{Stmt}
use Rattle.br_flatimp.specs.Liveness.{before_all, is_in, live, moments}
use Rattle.br_flatimp.specs.Sizes.{function_count, statement_count}
use Rattle.br_flatimp.specs.WellFormed.{all_differ, are_below}
use Rattle.br_live.specs.Tables.{rows}
use Rattle.br_regalloc_check.specs.Accepted.{IsAccepted}
use Rattle.br_regalloc_check.specs.Walks.{AreApartBelow, StandsAt}
use Rattle.br_regalloc_check.proofs.Checked.{StartApart, accepted, rows-bound, rows-count}
use Rattle.br_regalloc_check.proofs.Checked.{rows-stand, start-checked, walk-checked}
use Rattle.br_regalloc_check.proofs.Lists.{and_both, eq_true}
use Rattle.br_regalloc_check.proofs.Walked.{May}
use Rattle.br_regalloc_check.proofs.checker.accepts.Goals as goal

pub are_apart_at_start-requires-clause-bound : goal.are_apart_at_start-requires-clause-bound
are_apart_at_start-requires-clause-bound c =
    let names = and_both (length c.as_slice-to.result.now == c.args.f.now.names)
    (are_below c.args.f.now.names c.as_slice-to.result.now) (sym c.are_names.ensures ∙ c.if-not-are_names.false) in
    rows-bound c.args.f.now (rows c.args.live.now) (length c.as_slice-to.result.now) c.requires.live
    (eq_true _ _ names.0)

pub are_apart_at_start-requires-clause-count : goal.are_apart_at_start-requires-clause-count
are_apart_at_start-requires-clause-count c =
    let count = rows-count c.args.f.now (rows c.args.live.now) c.requires.live in
    omega (arith, count, c.requires.count)

pub are_apart_at_start-requires-clause-room : goal.are_apart_at_start-requires-clause-room
are_apart_at_start-requires-clause-room c =
    let count = rows-count c.args.f.now (rows c.args.live.now) c.requires.live in
    let same : sum (map statement_count c.as_slice-body.result.now) ≡ function_count c.args.f.now =
    ap (λ b. sum (map statement_count b)) c.as_slice-body.ensures in
    omega (arith, count, same)

pub may_rename_all-requires-clause-bound : goal.may_rename_all-requires-clause-bound
may_rename_all-requires-clause-bound c =
    let names = and_both (length c.as_slice-to.result.now == c.args.f.now.names)
    (are_below c.args.f.now.names c.as_slice-to.result.now) (sym c.are_names.ensures ∙ c.if-not-are_names.false) in
    rows-bound c.args.f.now (rows c.args.live.now) (length c.as_slice-to.result.now) c.requires.live
    (eq_true _ _ names.0)

pub may_rename_all-requires-clause-count : goal.may_rename_all-requires-clause-count
may_rename_all-requires-clause-count c =
    let count = rows-count c.args.f.now (rows c.args.live.now) c.requires.live in
    omega (arith, count, c.requires.count)

pub may_rename_all-requires-clause-room : goal.may_rename_all-requires-clause-room
may_rename_all-requires-clause-room c =
    let count = rows-count c.args.f.now (rows c.args.live.now) c.requires.live in
    let same : sum (map statement_count c.as_slice-body.result.now) ≡ function_count c.args.f.now =
    ap (λ b. sum (map statement_count b)) c.as_slice-body.ensures in
    omega (arith, count, same)

pub returns-then-not-are_apart_at_start : goal.returns-then-not-are_apart_at_start
returns-then-not-are_apart_at_start c =
    let f = c.args.f.now in
    let to : List ℕ = c.as_slice-to.result.now in
    let body : List Stmt = c.as_slice-body.result.now in
    let stands = subst (λ b. StandsAt (rows c.args.live.now) 0 f.names (moments (map live b) (is_in f.results)))
    (sym c.as_slice-body.ensures) (rows-stand f (rows c.args.live.now) c.requires.live) in
    let found = c.are_apart_at_start.ensures f.names (is_in f.results) stands in (
      λ no. absurd (cc no),
      λ all. absurd
          (let apart : StartApart f to = start-checked f to (subst (IsAccepted f) (sym c.as_slice-to.ensures) all) in
          let sure = found.1
          (subst (λ b. 0 < length b → AreApartBelow (length to) (slice_index to) (before_all b (is_in f.results)))
          (sym c.as_slice-body.ensures) apart) in
          let not_so = c.if-not-are_apart_at_start.true in cc (sure, not_so)),
    )

pub returns : goal.returns
returns c =
    let f = c.args.f.now in
    let to : List ℕ = c.as_slice-to.result.now in
    let body : List Stmt = c.as_slice-body.result.now in
    let names = and_both (length to == f.names) (are_below f.names to)
    (sym c.are_names.ensures ∙ c.if-not-are_names.false) in
    let stands = subst (λ b. StandsAt (rows c.args.live.now) 0 f.names (moments (map live b) (is_in f.results)))
    (sym c.as_slice-body.ensures) (rows-stand f (rows c.args.live.now) c.requires.live) in
    let apart : StartApart f to =
    subst (λ b. 0 < length b → AreApartBelow (length to) (slice_index to) (before_all b (is_in f.results)))
    c.as_slice-body.ensures
    ((c.are_apart_at_start.ensures f.names (is_in f.results) stands).0 c.if-not-are_apart_at_start.false) in
    let args : IsTrue (all_differ (map (slice_index to) f.args)) =
    subst (λ xs. IsTrue (all_differ (map (slice_index to) xs))) c.as_slice.ensures
    (sym c.differ.ensures ∙ c.if-not-differ.false) in
    let results : IsTrue (all_differ (map (slice_index to) f.results)) =
    subst (λ xs. IsTrue (all_differ (map (slice_index to) xs))) c.as_slice-2.ensures
    (sym c.differ-2.ensures ∙ c.if-not-differ-2.false) in
    let walk = subst (λ b. IsTrue c.may_rename_all.result
    ↔ May (length to) (slice_index to) (moments (map live b) (is_in f.results))) c.as_slice-body.ensures
    (c.may_rename_all.ensures.may f.names (is_in f.results) stands) in (
      λ sure. subst (IsAccepted f) c.as_slice-to.ensures
          (accepted c.loops_take_one_turn.ensures.holds f to c.requires.names (eq_true (length to) f.names names.0)
          names.1 args results apart (walk.0 sure)),
      λ all. walk.1 (walk-checked f to (subst (IsAccepted f) (sym c.as_slice-to.ensures) all)),
    )
