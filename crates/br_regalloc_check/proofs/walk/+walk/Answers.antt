-- Form by form: the names that a statement writes itself, and then the statements in its parts.
use Rattle.std.proofs.Common.{rules, ◌≡◌, ◌↔◌, ℕ, ◌+◌, ◌<◌, false, IsTrue, List, [], ◌∷◌}
use Rattle.std.proofs.Common.{◌++◌, length, map, drop, refl, ap, subst, sym, ◌∙◌, arith}
use Rattle.std.specs.Prelude.{slice_index, sum}
use Rattle.std.specs.List.{AllByRecursion}
use Rattle.std.proofs.Math.ListN.{drop_of_length-le}
use Rattle.br_flatimp.specs.declared.program.Stmt.{Stmt}
use Rattle.br_flatimp.specs.declared.program.Stmt.TheFolds.{the_lemmas}
use Rattle.br_flatimp.specs.Sizes.{statement_count}
use Rattle.br_flatimp.specs.Liveness.{Moment, before_all, live, moments}
use Rattle.br_flatimp.specs.WellFormed.{all_differ}
use Rattle.br_live.specs.BitSets.{set_of}
use Rattle.br_live.specs.Tables.{Row, rows}
use Rattle.br_regalloc_check.specs.Walks.{IsApartBelow, MayRenameBelow, StandsAt}
use Rattle.br_regalloc_check.proofs.Below.{below-as, below-call, below-item, below-stackalloc}
use Rattle.br_regalloc_check.proofs.Lists.{all-join, all-split}
use Rattle.br_regalloc_check.proofs.Stands.{bound-at, count-some, row-here, stands-first, stands-second, moments-count}
use Rattle.br_regalloc_check.proofs.Walked.{May, below-pair, buffer-else, buffer-then, call-answers, count-buffer}
use Rattle.br_regalloc_check.proofs.Walked.{count-pair, item-count, item-moments, own-buffer, own-pair, pair-else}
use Rattle.br_regalloc_check.proofs.Walked.{pair-first, pair-second, pair-then, single-answers, stands-inner}
use Rattle.br_regalloc_check.proofs.walk.+walk.Goals as goal

pub may_rename-may_rename_all-requires : goal.may_rename-may_rename_all-requires
may_rename-may_rename_all-requires t c =
    let n : ℕ = length c.args.to.now in
    let count = count-buffer c.args.s.now c.in-Stackalloc.x c.in-Stackalloc.field-1 c.in-Stackalloc.body
    c.in-Stackalloc.is in
    let same : sum (map statement_count c.as_slice-body.result.now) ≡ sum (map statement_count c.in-Stackalloc.body) =
    ap (λ b. sum (map statement_count b)) c.as_slice-body.ensures in (
      search (rules, the_lemmas),
      (
        c.requires.bound,
        (
          c.requires.count,
          (
            c.requires.few,
            (
              omega (arith, count, same, c.requires.room),
              rw c.as_slice-body.ensures (below-stackalloc n c.in-Stackalloc.x c.in-Stackalloc.field-1
                  c.in-Stackalloc.body (below-as n c.args.s.now _ c.in-Stackalloc.is c.requires.names)).1,
            ),
          ),
        ),
      ),
    )

pub may_rename-differ-requires : goal.may_rename-differ-requires
may_rename-differ-requires t c =
    let n : ℕ = length c.args.to.now in
    rw c.as_slice-xs.ensures (below-call n c.in-Call.xs c.in-Call.field-1 c.in-Call.field-2
    (below-as n c.args.s.now _ c.in-Call.is c.requires.names)).0

pub may_rename-are_apart-requires-clause-bound : goal.may_rename-are_apart-requires-clause-bound
may_rename-are_apart-requires-clause-bound t c =
    let some = count-some c.args.s.now in
    let inside : c.args.at.now < length (rows c.args.table.now) = omega (arith, some, c.requires.room) in
    c.set.ensures.bound
    ∙ bound-at (length c.args.to.now) (rows c.args.table.now) c.args.at.now _ inside c.requires.bound

pub may_rename-are_apart-requires-clause-names : goal.may_rename-are_apart-requires-clause-names
may_rename-are_apart-requires-clause-names t c =
    let n : ℕ = length c.args.to.now in
    rw c.as_slice-xs.ensures (below-call n c.in-Call.xs c.in-Call.field-1 c.in-Call.field-2
    (below-as n c.args.s.now _ c.in-Call.is c.requires.names)).0

pub may_rename-is_apart-requires-clause-bound : goal.may_rename-is_apart-requires-clause-bound
may_rename-is_apart-requires-clause-bound t c =
    let some = count-some c.args.s.now in
    let inside : c.args.at.now < length (rows c.args.table.now) = omega (arith, some, c.requires.room) in
    c.set-in-Lit.ensures.bound
    ∙ bound-at (length c.args.to.now) (rows c.args.table.now) c.args.at.now _ inside c.requires.bound

pub may_rename-may_rename_all-requires-in-If : goal.may_rename-may_rename_all-requires-in-If
may_rename-may_rename_all-requires-in-If t c =
    let n : ℕ = length c.args.to.now in
    let count = count-pair c.args.s.now c.in-If.first c.in-If.second c.in-If.is in
    let same : sum (map statement_count c.as_slice.result.now) ≡ sum (map statement_count c.in-If.first) =
    ap (λ b. sum (map statement_count b)) c.as_slice.ensures in (
      search (rules, the_lemmas),
      (
        c.requires.bound,
        (
          c.requires.count,
          (
            c.requires.few,
            (
              omega (arith, count, same, c.requires.room),
              rw c.as_slice.ensures
                  (below-pair n c.args.s.now c.in-If.first c.in-If.second c.in-If.is c.requires.names).0,
            ),
          ),
        ),
      ),
    )

pub may_rename-may_rename_all-requires-then-may_rename_all : goal.may_rename-may_rename_all-requires-then-may_rename_all
may_rename-may_rename_all-requires-then-may_rename_all t c =
    let n : ℕ = length c.args.to.now in
    let count = count-pair c.args.s.now c.in-If.first c.in-If.second c.in-If.is in
    let same : sum (map statement_count c.as_slice.result.now) ≡ sum (map statement_count c.in-If.first) =
    ap (λ b. sum (map statement_count b)) c.as_slice.ensures in
    let other : sum (map statement_count c.as_slice-then-may_rename_all.result.now)
    ≡ sum (map statement_count c.in-If.second) =
    ap (λ b. sum (map statement_count b)) c.as_slice-then-may_rename_all.ensures in
    let moved = c.may_rename_all-in-If.ensures.moved c.if-may_rename_all.true in (
      search (rules, the_lemmas),
      (
        c.requires.bound,
        (
          c.requires.count,
          (
            c.requires.few,
            (
              omega (arith, count, same, other, moved, c.requires.room),
              rw c.as_slice-then-may_rename_all.ensures
                  (below-pair n c.args.s.now c.in-If.first c.in-If.second c.in-If.is c.requires.names).1,
            ),
          ),
        ),
      ),
    )

pub may_rename-returns-then-is_apart_before_part-clause-moved :
    goal.may_rename-returns-then-is_apart_before_part-clause-moved
may_rename-returns-then-is_apart_before_part-clause-moved t c = λ sure.
    let count = count-buffer c.args.s.now c.in-Stackalloc.x c.in-Stackalloc.field-1 c.in-Stackalloc.body
    c.in-Stackalloc.is in
    let same : sum (map statement_count c.as_slice-body.result.now) ≡ sum (map statement_count c.in-Stackalloc.body) =
    ap (λ b. sum (map statement_count b)) c.as_slice-body.ensures in
    let moved = c.may_rename_all.ensures.moved sure in
    omega (arith, count, same, moved)

pub may_rename-returns-then-is_apart_before_part-clause-may :
    goal.may_rename-returns-then-is_apart_before_part-clause-may
may_rename-returns-then-is_apart_before_part-clause-may t c = λ names after h.
    let rs : List Row = rows c.args.table.now in
    let body : List Stmt = c.in-Stackalloc.body in
    let o = own-buffer c.args.s.now c.in-Stackalloc.x c.in-Stackalloc.field-1 body c.in-Stackalloc.is after in
    let inner : StandsAt rs (c.args.at.now + 1) names (moments (map live c.as_slice-body.result.now) after) =
    subst (λ b. StandsAt rs (c.args.at.now + 1) names (moments (map live b) after)) (sym c.as_slice-body.ensures)
    (stands-inner rs c.args.at.now names c.args.s.now (c.in-Stackalloc.x ∷ []) after (before_all body after)
    (moments (map live body) after) o h) in
    let row = ap (λ (r : Row). r.set) (row-here rs c.args.at.now names c.args.s.now after _ h) in
    buffer-then (length c.args.to.now) (slice_index c.args.to.now) c.args.s.now c.in-Stackalloc.x
    c.in-Stackalloc.field-1 body after c.is_apart_before_part.result c.may_rename_all.result c.in-Stackalloc.is
    c.if-is_apart_before_part.true
    (subst (λ b. IsTrue c.is_apart_before_part.result
    ↔ IsApartBelow (length c.args.to.now) (slice_index c.args.to.now) c.in-Stackalloc.x (before_all b after))
    c.as_slice-body.ensures (c.is_apart_before_part.ensures names after row inner))
    (subst (λ b. IsTrue c.may_rename_all.result
    ↔ May (length c.args.to.now) (slice_index c.args.to.now) (moments (map live b) after)) c.as_slice-body.ensures
    (c.may_rename_all.ensures.may names after inner))

pub may_rename-returns-else-is_apart_before_part-clause-may :
    goal.may_rename-returns-else-is_apart_before_part-clause-may
may_rename-returns-else-is_apart_before_part-clause-may t c = λ names after h.
    let rs : List Row = rows c.args.table.now in
    let body : List Stmt = c.in-Stackalloc.body in
    let o = own-buffer c.args.s.now c.in-Stackalloc.x c.in-Stackalloc.field-1 body c.in-Stackalloc.is after in
    let inner : StandsAt rs (c.args.at.now + 1) names (moments (map live c.as_slice-body.result.now) after) =
    subst (λ b. StandsAt rs (c.args.at.now + 1) names (moments (map live b) after)) (sym c.as_slice-body.ensures)
    (stands-inner rs c.args.at.now names c.args.s.now (c.in-Stackalloc.x ∷ []) after (before_all body after)
    (moments (map live body) after) o h) in
    let row = ap (λ (r : Row). r.set) (row-here rs c.args.at.now names c.args.s.now after _ h) in
    buffer-else (length c.args.to.now) (slice_index c.args.to.now) c.args.s.now
    c.in-Stackalloc.x c.in-Stackalloc.field-1 body after c.is_apart_before_part.result c.in-Stackalloc.is
    c.if-is_apart_before_part.false
    (subst (λ b. IsTrue c.is_apart_before_part.result
    ↔ IsApartBelow (length c.args.to.now) (slice_index c.args.to.now) c.in-Stackalloc.x (before_all b after))
    c.as_slice-body.ensures (c.is_apart_before_part.ensures names after row inner))

pub may_rename-returns-then-differ-clause-may : goal.may_rename-returns-then-differ-clause-may
may_rename-returns-then-differ-clause-may t c = λ names after h.
    let n : ℕ = length c.args.to.now in
    let to : ℕ → ℕ = slice_index c.args.to.now in
    let row = ap (λ (r : Row). r.set) (row-here (rows c.args.table.now) c.args.at.now names c.args.s.now after _ h) in
    let differ : IsTrue (all_differ (map to c.in-Call.xs)) =
    subst (λ ys. IsTrue (all_differ (map to ys))) c.as_slice-xs.ensures (sym c.differ.ensures ∙ c.if-differ.true) in
    call-answers n to c.args.s.now c.in-Call.xs c.in-Call.field-1 c.in-Call.field-2 after (set_of c.set.result.now)
    c.are_apart.result c.in-Call.is (c.set.ensures.set ∙ row) differ
    (subst (λ ys. IsTrue c.are_apart.result ↔ AllByRecursion (λ x. IsApartBelow n to x (set_of c.set.result.now)) ys)
    c.as_slice-xs.ensures c.are_apart.ensures)

pub may_rename-returns-in-Lit-clause-may : goal.may_rename-returns-in-Lit-clause-may
may_rename-returns-in-Lit-clause-may t c = λ names after h.
    let row = ap (λ (r : Row). r.set) (row-here (rows c.args.table.now) c.args.at.now names c.args.s.now after _ h) in
    single-answers (length c.args.to.now) (slice_index c.args.to.now) c.args.s.now c.in-Lit.x after (set_of
    c.set-in-Lit.result.now) c.is_apart.result c.in-Lit.is (c.set-in-Lit.ensures.set ∙ row) c.is_apart.ensures

pub may_rename-returns-then-may_rename_all-clause-moved : goal.may_rename-returns-then-may_rename_all-clause-moved
may_rename-returns-then-may_rename_all-clause-moved t c = λ sure.
    let count = count-pair c.args.s.now c.in-If.first c.in-If.second c.in-If.is in
    let same : sum (map statement_count c.as_slice.result.now) ≡ sum (map statement_count c.in-If.first) =
    ap (λ b. sum (map statement_count b)) c.as_slice.ensures in
    let other : sum (map statement_count c.as_slice-then-may_rename_all.result.now)
    ≡ sum (map statement_count c.in-If.second) =
    ap (λ b. sum (map statement_count b)) c.as_slice-then-may_rename_all.ensures in
    let moved = c.may_rename_all-in-If.ensures.moved c.if-may_rename_all.true in
    let again = c.may_rename_all-then-may_rename_all.ensures.moved sure in
    omega (arith, count, same, other, moved, again)

pub may_rename-returns-then-may_rename_all-clause-may : goal.may_rename-returns-then-may_rename_all-clause-may
may_rename-returns-then-may_rename_all-clause-may t c = λ names after h.
    let rs : List Row = rows c.args.table.now in
    let n : ℕ = length c.args.to.now in
    let to : ℕ → ℕ = slice_index c.args.to.now in
    let p = own-pair c.args.s.now c.in-If.first c.in-If.second c.in-If.is after in
    let moved = c.may_rename_all-in-If.ensures.moved c.if-may_rename_all.true in
    let one : StandsAt rs (c.args.at.now + 1) names (moments (map live c.as_slice.result.now) p.end) =
    subst (λ b. StandsAt rs (c.args.at.now + 1) names (moments (map live b) p.end)) (sym c.as_slice.ensures)
    (pair-first rs c.args.at.now names c.args.s.now c.in-If.first c.in-If.second after p h) in
    let at2 : c.args.at.now + 1 + sum (map statement_count c.in-If.first) ≡ c.may_rename_all-in-If.new.at =
    ap (λ b. c.args.at.now + 1 + sum (map statement_count b)) (sym c.as_slice.ensures) ∙ sym moved in
    let two : StandsAt rs c.may_rename_all-in-If.new.at names
    (moments (map live c.as_slice-then-may_rename_all.result.now) p.other) =
    subst (λ b. StandsAt rs c.may_rename_all-in-If.new.at names (moments (map live b) p.other))
    (sym c.as_slice-then-may_rename_all.ensures)
    (subst (λ k. StandsAt rs k names (moments (map live c.in-If.second) p.other)) at2
    (pair-second rs c.args.at.now names c.args.s.now c.in-If.first c.in-If.second after p h)) in
    pair-then n to c.args.s.now c.in-If.first c.in-If.second after p c.may_rename_all-in-If.result
    c.may_rename_all-then-may_rename_all.result c.if-may_rename_all.true
    (subst (λ b. IsTrue c.may_rename_all-in-If.result ↔ May n to (moments (map live b) p.end)) c.as_slice.ensures
    (c.may_rename_all-in-If.ensures.may names p.end one))
    (subst (λ b. IsTrue c.may_rename_all-then-may_rename_all.result ↔ May n to (moments (map live b) p.other))
    c.as_slice-then-may_rename_all.ensures (c.may_rename_all-then-may_rename_all.ensures.may names p.other two))

pub may_rename-returns-else-may_rename_all-clause-may : goal.may_rename-returns-else-may_rename_all-clause-may
may_rename-returns-else-may_rename_all-clause-may t c = λ names after h.
    let rs : List Row = rows c.args.table.now in
    let n : ℕ = length c.args.to.now in
    let to : ℕ → ℕ = slice_index c.args.to.now in
    let p = own-pair c.args.s.now c.in-If.first c.in-If.second c.in-If.is after in
    let one : StandsAt rs (c.args.at.now + 1) names (moments (map live c.as_slice.result.now) p.end) =
    subst (λ b. StandsAt rs (c.args.at.now + 1) names (moments (map live b) p.end)) (sym c.as_slice.ensures)
    (pair-first rs c.args.at.now names c.args.s.now c.in-If.first c.in-If.second after p h) in
    pair-else n to c.args.s.now c.in-If.first c.in-If.second after p c.may_rename_all-in-If.result
    c.if-may_rename_all.false
    (subst (λ b. IsTrue c.may_rename_all-in-If.result ↔ May n to (moments (map live b) p.end)) c.as_slice.ensures
    (c.may_rename_all-in-If.ensures.may names p.end one))

pub may_rename_all-may_rename-requires : goal.may_rename_all-may_rename-requires
may_rename_all-may_rename-requires t c =
    let count = item-count c.args.body.now c.loop-s.s-index c.s-item.result c.loop-s-test.true c.s-item.is in (
      search (rules, the_lemmas),
      (
        c.requires.bound,
        (
          c.requires.count,
          (
            c.requires.few,
            (
              omega (arith, count, c.loop-s.invariant.at, c.requires.room),
              below-item (length c.args.to.now) c.args.body.now c.loop-s.s-index c.s-item.result c.loop-s-test.true
                  c.s-item.is c.requires.names,
            ),
          ),
        ),
      ),
    )

pub may_rename_all-returns-then-not-may_rename-clause-may : goal.may_rename_all-returns-then-not-may_rename-clause-may
may_rename_all-returns-then-not-may_rename-clause-may t c = λ names after h.
    let n : ℕ = length c.args.to.now in
    let to : ℕ → ℕ = slice_index c.args.to.now in
    let rs : List Row = rows c.args.table.now in
    let rest : List Stmt = drop (c.loop-s.s-index + 1) c.args.body.now in
    let split = item-moments c.args.body.now c.loop-s.s-index c.s-item.result after c.loop-s-test.true c.s-item.is in
    let one : List Moment = (live c.s-item.result).moments (before_all rest after) in
    let others : List Moment = moments (map live rest) after in
    let here : StandsAt rs c.loop-s.at names (one ++ others) =
    subst (StandsAt rs c.loop-s.at names) split (c.loop-s.invariant.stands names after h) in
    let may = c.may_rename.ensures.may names (before_all rest after)
    (stands-first rs c.loop-s.at names one others here) in
    let no : c.may_rename.result ≡ false = c.if-not-may_rename.true in (
      λ false_is. absurd (cc false_is),
      λ all. absurd (let sure = may.1 (all-split (MayRenameBelow n to) one others
          (subst (May n to) split ((c.loop-s.invariant.may names after h).0 all))).0 in cc (sure, no)),
    )

pub may_rename_all-loop-s-preserved : goal.may_rename_all-loop-s-preserved
may_rename_all-loop-s-preserved t c =
    let n : ℕ = length c.args.to.now in
    let to : ℕ → ℕ = slice_index c.args.to.now in
    let rs : List Row = rows c.args.table.now in
    let rest : List Stmt = drop (c.loop-s.s-index + 1) c.args.body.now in
    let sure : IsTrue c.may_rename.result = c.if-not-may_rename.false in
    let moved : c.may_rename.new.at ≡ c.loop-s.at + statement_count c.s-item.result = c.may_rename.ensures.moved sure in
    let count = item-count c.args.body.now c.loop-s.s-index c.s-item.result c.loop-s-test.true c.s-item.is in
    record {
      at = omega (arith, count, moved, c.loop-s.invariant.at);
      stands = λ names after h.
          let split = item-moments c.args.body.now c.loop-s.s-index c.s-item.result after c.loop-s-test.true
          c.s-item.is in
          let one : List Moment = (live c.s-item.result).moments (before_all rest after) in
          let others : List Moment = moments (map live rest) after in
          let here : StandsAt rs c.loop-s.at names (one ++ others) =
          subst (StandsAt rs c.loop-s.at names) split (c.loop-s.invariant.stands names after h) in
          let later : StandsAt rs (c.loop-s.at + length one) names others =
          stands-second rs c.loop-s.at names one others here in
          subst (λ k. StandsAt rs k names others)
          (ap (λ k. c.loop-s.at + k) (moments-count c.s-item.result (before_all rest after)) ∙ sym moved) later;
      may = λ names after h.
          let split = item-moments c.args.body.now c.loop-s.s-index c.s-item.result after c.loop-s-test.true
          c.s-item.is in
          let one : List Moment = (live c.s-item.result).moments (before_all rest after) in
          let others : List Moment = moments (map live rest) after in
          let here : StandsAt rs c.loop-s.at names (one ++ others) =
          subst (StandsAt rs c.loop-s.at names) split (c.loop-s.invariant.stands names after h) in
          let item = c.may_rename.ensures.may names (before_all rest after)
          (stands-first rs c.loop-s.at names one others here) in (
            λ all. (all-split (MayRenameBelow n to) one others
                (subst (May n to) split ((c.loop-s.invariant.may names after h).0 all))).1,
            λ later. (c.loop-s.invariant.may names after h).1
                (subst (May n to) (sym split) (all-join (MayRenameBelow n to) one others (item.0 sure) later)),
          );
    }

pub may_rename_all-returns-clause-may : goal.may_rename_all-returns-clause-may
may_rename_all-returns-clause-may t c = λ names after h.
    let n : ℕ = length c.args.to.now in
    let to : ℕ → ℕ = slice_index c.args.to.now in
    let done : drop c.loop-s.s-index c.args.body.now ≡ [] =
    drop_of_length-le c.args.body.now (omega (arith, c.loop-s-test.false)) in
    let none : May n to (moments (map live (drop c.loop-s.s-index c.args.body.now)) after) =
    subst (λ b. May n to (moments (map live b) after)) (sym done) tt in
    (λ sure. (c.loop-s.invariant.may names after h).1 none, λ all. refl)
