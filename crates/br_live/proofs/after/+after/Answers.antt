-- A buffer, a conditional and a loop part by part, from the last to the first, and so a list.
use Rattle.std.proofs.Common.{rules, ℕ, ◌≡◌, ◌+◌, ◌-◌, ◌<◌, ◌≤◌, ◌++◌, List, [], ◌∷◌, ap, sym}
use Rattle.std.proofs.Common.{subst, ◌∙◌, map, reverse, take, drop, length, append_assoc, arith}
use denote.Param.Weighed.{most}
use Rattle.br_flatimp.specs.declared.program.Stmt.{Stmt}
use Rattle.br_flatimp.proofs.program.Stmt.TheLaws.{the_size}
use Rattle.br_live.specs.declared.turn.Turn.{Turn}
use Rattle.br_flatimp.specs.declared.program.Stmt.TheFolds.{the_lemmas}
use Rattle.br_flatimp.specs.Values.{Names}
use Rattle.br_flatimp.specs.Liveness.{nothing, is_in, union, without, live, before, before_all, moments, at_test}
use Rattle.br_flatimp.specs.Parts.{own_read, own_written}
use Rattle.br_live.specs.Summaries.{handed}
use Rattle.br_live.specs.Tables.{Row, row, rows_after}
use Rattle.br_live.specs.Turns.{LoopTurn, all_turns, turns_of, turn_of}
use Rattle.br_live.proofs.Own.{parts-stackalloc, parts-if, parts-loop, live-loop}
use Rattle.br_live.proofs.Own.{below-stackalloc, below-if, below-loop, below-item}
use Rattle.br_live.proofs.Rows.{row_with, backward-stackalloc, backward-if, backward-loop}
use Rattle.br_live.proofs.Rows.{backward-append, in_two, take_next, drop_next, at_most}
use Rattle.br_live.proofs.Turns.{turn_with, turns-stackalloc, turns-if, turns-loop}
use Rattle.br_live.proofs.Walks.{below_as, turns-next, pushed-set, same-rows, two-first, popped, never}
use Rattle.br_live.proofs.Plain.{plain}
use Rattle.br_live.proofs.after.+after.Goals as goal

pub add_sets_of-add_sets_of_all-requires : goal.add_sets_of-add_sets_of_all-requires
add_sets_of-add_sets_of_all-requires t c =
    let b : ℕ = c.args.so_far.now.reads.bound in
    let a : Names = handed c.args.so_far.now nothing in
    let s : Stmt = c.args.s.now in
    let split : turns_of b s ≡ all_turns b c.as_slice.result.now = rw (c.in-Stackalloc.is, c.as_slice.ensures)
    (turns-stackalloc b c.in-Stackalloc.field-0 c.in-Stackalloc.field-1 c.in-Stackalloc.body) in (
      search (rules, the_lemmas),
      (
        rw c.as_slice.ensures (below-stackalloc b c.in-Stackalloc.field-0 c.in-Stackalloc.field-1 c.in-Stackalloc.body
            (below_as b c.in-Stackalloc.is c.requires.names)),
        (c.requires.turns.0, c.requires.turns.1 ∙ ap (λ (ts : List LoopTurn). c.requires.turns.0 ++ ts) split),
      ),
    )

pub add_sets_of-add_sets_of_all-requires-in-If : goal.add_sets_of-add_sets_of_all-requires-in-If
add_sets_of-add_sets_of_all-requires-in-If t c =
    let b : ℕ = c.args.so_far.now.reads.bound in
    let a : Names = handed c.args.so_far.now nothing in
    let s : Stmt = c.args.s.now in
    let f : List LoopTurn = all_turns b c.in-If.first in
    let g : List LoopTurn = all_turns b c.in-If.second in
    let split : turns_of b s ≡ f ++ g = rw c.in-If.is (turns-if b c.in-If.field-0 c.in-If.first c.in-If.second) in
    let rest : List LoopTurn = c.requires.turns.0 in (
      search (rules, the_lemmas),
      (
        rw (c.in_ok-other-in-If.ensures.bound, c.as_slice-in-If.ensures)
            (below-if b c.in-If.field-0 c.in-If.first c.in-If.second (below_as b c.in-If.is c.requires.names)).1,
        (
          rest ++ f,
          rw (c.in_ok-other-in-If.ensures.bound, c.as_slice-in-If.ensures) (two-first _ rest f g _ split
              c.requires.turns.1),
        ),
      ),
    )

pub add_sets_of-add_sets_of_all-requires-in-If-2 : goal.add_sets_of-add_sets_of_all-requires-in-If-2
add_sets_of-add_sets_of_all-requires-in-If-2 t c =
    let b : ℕ = c.args.so_far.now.reads.bound in
    let a : Names = handed c.args.so_far.now nothing in
    let s : Stmt = c.args.s.now in
    let f : List LoopTurn = all_turns b c.in-If.first in
    let g : List LoopTurn = all_turns b c.in-If.second in
    let split : turns_of b s ≡ f ++ g = rw c.in-If.is (turns-if b c.in-If.field-0 c.in-If.first c.in-If.second) in
    let rest : List LoopTurn = c.requires.turns.0 in
    let left : map turn_of c.add_sets_of_all-in-If.new.turns.items ≡ rest ++ f =
    c.in_ok-add_sets_of_all-in-If.ensures.turns (rest ++ f) (rw (
      c.in_ok-other-in-If.ensures.bound,
      c.as_slice-in-If.ensures,
    ) (two-first _ rest f g _ split c.requires.turns.1)) in (
      search (rules, the_lemmas),
      (
        rw c.as_slice-in-If-2.ensures
            (below-if b c.in-If.field-0 c.in-If.first c.in-If.second (below_as b c.in-If.is c.requires.names)).0,
        (rest, rw c.as_slice-in-If-2.ensures left),
      ),
    )

pub add_sets_of-unreachable-requires : goal.add_sets_of-unreachable-requires
add_sets_of-unreachable-requires t c =
    let b : ℕ = c.args.so_far.now.reads.bound in
    let a : Names = handed c.args.so_far.now nothing in
    let s : Stmt = c.args.s.now in
    let f : List LoopTurn = all_turns b c.in-Loop.first in
    let l : List LoopTurn = all_turns b c.in-Loop.last in
    let one : LoopTurn = turn_with b (before_all c.in-Loop.first) (before_all c.in-Loop.last) in
    let split : turns_of b s ≡ f ++ (l ++ one ∷ []) =
    rw c.in-Loop.is (turns-loop b c.in-Loop.first c.in-Loop.field-1 c.in-Loop.last) in
    let none : c.args.turns.now.items ≡ [] = c.in-None.ensures.items ∙ ap (λ (xs : List Turn). xs ++ [])
    (c.in-None.ensures.rest ∙ ap (λ (n : ℕ). take (n - 1) c.args.turns.now.items) c.in-None.ensures.cases.0) in
    never c.args.turns.now.items c.requires.turns.0 f l _ one none split c.requires.turns.1

pub add_sets_of-read_first-requires : goal.add_sets_of-read_first-requires
add_sets_of-read_first-requires t c =
    let b : ℕ = c.args.so_far.now.reads.bound in
    let a : Names = handed c.args.so_far.now nothing in
    let s : Stmt = c.args.s.now in
    let f : List LoopTurn = all_turns b c.in-Loop.first in
    let l : List LoopTurn = all_turns b c.in-Loop.last in
    let one : LoopTurn = turn_with b (before_all c.in-Loop.first) (before_all c.in-Loop.last) in
    let split : turns_of b s ≡ f ++ (l ++ one ∷ []) =
    rw c.in-Loop.is (turns-loop b c.in-Loop.first c.in-Loop.field-1 c.in-Loop.last) in
    let p = popped _ _ _ c.requires.turns.0 f l _ one c.in-Some.ensures.items split c.requires.turns.1 in
    let bound : c.in-Some.turn.opening.reads.bound ≡ b = ap (λ (u : LoopTurn). u.bound) p.1 in
    sym bound ∙ c.in-Some.turn.same_bound

pub add_sets_of-prepend-requires : goal.add_sets_of-prepend-requires
add_sets_of-prepend-requires t c =
    let b : ℕ = c.args.so_far.now.reads.bound in
    let a : Names = handed c.args.so_far.now nothing in
    let s : Stmt = c.args.s.now in
    let f : List LoopTurn = all_turns b c.in-Loop.first in
    let l : List LoopTurn = all_turns b c.in-Loop.last in
    let one : LoopTurn = turn_with b (before_all c.in-Loop.first) (before_all c.in-Loop.last) in
    let split : turns_of b s ≡ f ++ (l ++ one ∷ []) =
    rw c.in-Loop.is (turns-loop b c.in-Loop.first c.in-Loop.field-1 c.in-Loop.last) in
    let p = popped _ _ _ c.requires.turns.0 f l _ one c.in-Some.ensures.items split c.requires.turns.1 in
    let bound : c.in-Some.turn.opening.reads.bound ≡ b = ap (λ (u : LoopTurn). u.bound) p.1 in
    let pb : c.put_own-in-Some.new.self.reads.bound ≡ b = c.put_own-in-Some.ensures.bound
    ∙ c.read_first.ensures.bound in
    c.in_ok-end-in-Some.ensures.bound ∙ pb ∙ sym bound

pub add_sets_of-add_sets_of_all-requires-in-Some : goal.add_sets_of-add_sets_of_all-requires-in-Some
add_sets_of-add_sets_of_all-requires-in-Some t c =
    let b : ℕ = c.args.so_far.now.reads.bound in
    let a : Names = handed c.args.so_far.now nothing in
    let s : Stmt = c.args.s.now in
    let f : List LoopTurn = all_turns b c.in-Loop.first in
    let l : List LoopTurn = all_turns b c.in-Loop.last in
    let one : LoopTurn = turn_with b (before_all c.in-Loop.first) (before_all c.in-Loop.last) in
    let split : turns_of b s ≡ f ++ (l ++ one ∷ []) =
    rw c.in-Loop.is (turns-loop b c.in-Loop.first c.in-Loop.field-1 c.in-Loop.last) in
    let p = popped _ _ _ c.requires.turns.0 f l _ one c.in-Some.ensures.items split c.requires.turns.1 in
    let pb : c.put_own-in-Some.new.self.reads.bound ≡ b = c.put_own-in-Some.ensures.bound
    ∙ c.read_first.ensures.bound in
    let eb : c.prepend.new.self.reads.bound ≡ b = c.prepend.ensures.bound ∙ c.in_ok-end-in-Some.ensures.bound ∙ pb in (
      search (rules, the_lemmas),
      (
        rw (eb, c.as_slice-in-Some.ensures) (below-loop b c.in-Loop.first c.in-Loop.field-1 c.in-Loop.last
            (below_as b c.in-Loop.is c.requires.names)).1,
        (c.requires.turns.0 ++ f, rw (eb, c.as_slice-in-Some.ensures) p.0),
      ),
    )

pub add_sets_of-add_sets_of_all-requires-in-Some-2 : goal.add_sets_of-add_sets_of_all-requires-in-Some-2
add_sets_of-add_sets_of_all-requires-in-Some-2 t c =
    let b : ℕ = c.args.so_far.now.reads.bound in
    let a : Names = handed c.args.so_far.now nothing in
    let s : Stmt = c.args.s.now in
    let f : List LoopTurn = all_turns b c.in-Loop.first in
    let l : List LoopTurn = all_turns b c.in-Loop.last in
    let one : LoopTurn = turn_with b (before_all c.in-Loop.first) (before_all c.in-Loop.last) in
    let split : turns_of b s ≡ f ++ (l ++ one ∷ []) =
    rw c.in-Loop.is (turns-loop b c.in-Loop.first c.in-Loop.field-1 c.in-Loop.last) in
    let p = popped _ _ _ c.requires.turns.0 f l _ one c.in-Some.ensures.items split c.requires.turns.1 in
    let pb : c.put_own-in-Some.new.self.reads.bound ≡ b = c.put_own-in-Some.ensures.bound
    ∙ c.read_first.ensures.bound in
    let eb : c.prepend.new.self.reads.bound ≡ b = c.prepend.ensures.bound ∙ c.in_ok-end-in-Some.ensures.bound ∙ pb in
    let rest : List LoopTurn = c.requires.turns.0 in
    let left : map turn_of c.add_sets_of_all-in-Some.new.turns.items ≡ rest ++ f =
    c.in_ok-add_sets_of_all-in-Some.ensures.turns (rest ++ f) (rw (eb, c.as_slice-in-Some.ensures) p.0) in (
      search (rules, the_lemmas),
      (
        rw (pb, c.as_slice-in-Some-2.ensures) (below-loop b c.in-Loop.first c.in-Loop.field-1 c.in-Loop.last
            (below_as b c.in-Loop.is c.requires.names)).0,
        (rest, rw (pb, c.as_slice-in-Some-2.ensures) left),
      ),
    )

pub add_sets_of-returns-in_ok-push-in-Stackalloc-clause-live :
    goal.add_sets_of-returns-in_ok-push-in-Stackalloc-clause-live
add_sets_of-returns-in_ok-push-in-Stackalloc-clause-live t c =
    let b : ℕ = c.args.so_far.now.reads.bound in
    let a : Names = handed c.args.so_far.now nothing in
    let s : Stmt = c.args.s.now in
    c.put_own.ensures.hands nothing
    ∙ ap (λ (e : Names). union (without e (own_written s)) (is_in (own_read s)))
    c.in_ok-add_sets_of_all-in-Stackalloc.ensures.live
    ∙ rw (c.in-Stackalloc.is, c.as_slice.ensures)
    (parts-stackalloc c.in-Stackalloc.field-0 c.in-Stackalloc.field-1 c.in-Stackalloc.body a)

pub add_sets_of-returns-in_ok-push-in-Stackalloc-clause-turns :
    goal.add_sets_of-returns-in_ok-push-in-Stackalloc-clause-turns
add_sets_of-returns-in_ok-push-in-Stackalloc-clause-turns t c =
    let b : ℕ = c.args.so_far.now.reads.bound in
    let a : Names = handed c.args.so_far.now nothing in
    let s : Stmt = c.args.s.now in
    let split : turns_of b s ≡ all_turns b c.as_slice.result.now = rw (c.in-Stackalloc.is, c.as_slice.ensures)
    (turns-stackalloc b c.in-Stackalloc.field-0 c.in-Stackalloc.field-1 c.in-Stackalloc.body) in
    λ rest is.
    c.in_ok-add_sets_of_all-in-Stackalloc.ensures.turns rest (is ∙ ap (λ (ts : List LoopTurn). rest ++ ts) split)

pub add_sets_of-returns-in_ok-push-in-Stackalloc-clause-sets :
    goal.add_sets_of-returns-in_ok-push-in-Stackalloc-clause-sets
add_sets_of-returns-in_ok-push-in-Stackalloc-clause-sets t c =
    let b : ℕ = c.args.so_far.now.reads.bound in
    let a : Names = handed c.args.so_far.now nothing in
    let s : Stmt = c.args.s.now in
    let olds : List Row = map row c.args.sets.now.items in
    let r : Row = row_with b a in
    pushed-set _ _ _ b a c.in_ok-push-in-Stackalloc.ensures.items c.in_ok-after.ensures.bound c.in_ok-after.ensures.set
    ∙ ap (λ (rs : List Row). rs ++ r ∷ []) c.in_ok-add_sets_of_all-in-Stackalloc.ensures.sets
    ∙ append_assoc olds (reverse (rows_after b (moments (map live c.as_slice.result.now) a))) (r ∷ [])
    ∙ ap (λ (rs : List Row). olds ++ rs) (rw (c.in-Stackalloc.is, c.as_slice.ensures)
    (sym (backward-stackalloc b c.in-Stackalloc.field-0 c.in-Stackalloc.field-1 c.in-Stackalloc.body a)))

pub add_sets_of-returns-in_ok-push-in-If-clause-live : goal.add_sets_of-returns-in_ok-push-in-If-clause-live
add_sets_of-returns-in_ok-push-in-If-clause-live t c =
    let b : ℕ = c.args.so_far.now.reads.bound in
    let a : Names = handed c.args.so_far.now nothing in
    let s : Stmt = c.args.s.now in
    c.put_own-in-If.ensures.hands nothing
    ∙ ap (λ (e : Names). union (without e (own_written s)) (is_in (own_read s)))
    (c.join.ensures.hands nothing
    ∙ ap (λ (e : Names). union e (handed c.add_sets_of_all-in-If.new.so_far nothing))
    c.in_ok-add_sets_of_all-in-If-2.ensures.live
    ∙ ap (λ (e : Names). union (before_all c.as_slice-in-If-2.result.now a) e)
    (c.in_ok-add_sets_of_all-in-If.ensures.live
    ∙ ap (before_all c.as_slice-in-If.result.now) (c.in_ok-other-in-If.ensures.hands nothing)))
    ∙ rw (c.in-If.is, c.as_slice-in-If.ensures, c.as_slice-in-If-2.ensures)
    (parts-if c.in-If.field-0 c.in-If.first c.in-If.second a)

pub add_sets_of-returns-in_ok-push-in-If-clause-turns : goal.add_sets_of-returns-in_ok-push-in-If-clause-turns
add_sets_of-returns-in_ok-push-in-If-clause-turns t c =
    let b : ℕ = c.args.so_far.now.reads.bound in
    let a : Names = handed c.args.so_far.now nothing in
    let s : Stmt = c.args.s.now in
    let f : List LoopTurn = all_turns b c.in-If.first in
    let g : List LoopTurn = all_turns b c.in-If.second in
    let split : turns_of b s ≡ f ++ g = rw c.in-If.is (turns-if b c.in-If.field-0 c.in-If.first c.in-If.second) in
    λ rest is. c.in_ok-add_sets_of_all-in-If-2.ensures.turns
    rest (rw c.as_slice-in-If-2.ensures (c.in_ok-add_sets_of_all-in-If.ensures.turns (rest ++ f)
    (rw (c.in_ok-other-in-If.ensures.bound, c.as_slice-in-If.ensures) (two-first _ rest f g _ split is))))

pub add_sets_of-returns-in_ok-push-in-If-clause-sets : goal.add_sets_of-returns-in_ok-push-in-If-clause-sets
add_sets_of-returns-in_ok-push-in-If-clause-sets t c =
    let b : ℕ = c.args.so_far.now.reads.bound in
    let a : Names = handed c.args.so_far.now nothing in
    let s : Stmt = c.args.s.now in
    let olds : List Row = map row c.args.sets.now.items in
    let r : Row = row_with b a in
    let later : List Row = reverse (rows_after b (moments (map live c.as_slice-in-If.result.now) a)) in
    let earlier : List Row = reverse (rows_after b (moments (map live c.as_slice-in-If-2.result.now) a)) in
    pushed-set _ _ _ b a c.in_ok-push-in-If.ensures.items c.in_ok-after.ensures.bound c.in_ok-after.ensures.set
    ∙ ap (λ (rs : List Row). rs ++ r ∷ [])
    (c.in_ok-add_sets_of_all-in-If-2.ensures.sets
    ∙ ap (λ (rs : List Row). rs ++ earlier)
    (c.in_ok-add_sets_of_all-in-If.ensures.sets
    ∙ ap (λ (rs : List Row). olds ++ rs) (same-rows (moments (map live c.as_slice-in-If.result.now)) _ b _ a
    c.in_ok-other-in-If.ensures.bound (c.in_ok-other-in-If.ensures.hands nothing))))
    ∙ in_two olds later earlier r
    ∙ ap (λ (rs : List Row). olds ++ rs) (rw (c.in-If.is, c.as_slice-in-If.ensures, c.as_slice-in-If-2.ensures)
    (sym (backward-if b c.in-If.field-0 c.in-If.first c.in-If.second a)))

pub add_sets_of-returns-in_ok-push-in-Some-clause-live : goal.add_sets_of-returns-in_ok-push-in-Some-clause-live
add_sets_of-returns-in_ok-push-in-Some-clause-live t c =
    let b : ℕ = c.args.so_far.now.reads.bound in
    let a : Names = handed c.args.so_far.now nothing in
    let s : Stmt = c.args.s.now in
    let f : List LoopTurn = all_turns b c.in-Loop.first in
    let l : List LoopTurn = all_turns b c.in-Loop.last in
    let one : LoopTurn = turn_with b (before_all c.in-Loop.first) (before_all c.in-Loop.last) in
    let split : turns_of b s ≡ f ++ (l ++ one ∷ []) =
    rw c.in-Loop.is (turns-loop b c.in-Loop.first c.in-Loop.field-1 c.in-Loop.last) in
    let p = popped _ _ _ c.requires.turns.0 f l _ one c.in-Some.ensures.items split c.requires.turns.1 in
    let test : Names = at_test (map live c.in-Loop.first) c.in-Loop.field-1 (map live c.in-Loop.last) a in
    let at : handed c.put_own-in-Some.new.self nothing ≡ test =
    c.put_own-in-Some.ensures.hands nothing
    ∙ ap (λ (e : Names). union (without e (own_written s)) (is_in (own_read s)))
    (c.read_first.ensures.hands nothing ∙ ap (λ (e : Names). union a e) (ap (λ (u : LoopTurn). u.again) p.1))
    ∙ rw c.in-Loop.is (parts-loop c.in-Loop.first c.in-Loop.field-1 c.in-Loop.last a) in
    c.in_ok-add_sets_of_all-in-Some-2.ensures.live
    ∙ ap (before_all c.as_slice-in-Some-2.result.now) at
    ∙ rw (c.in-Loop.is, c.as_slice-in-Some-2.ensures)
    (sym (live-loop c.in-Loop.first c.in-Loop.field-1 c.in-Loop.last a))

pub add_sets_of-returns-in_ok-push-in-Some-clause-turns : goal.add_sets_of-returns-in_ok-push-in-Some-clause-turns
add_sets_of-returns-in_ok-push-in-Some-clause-turns t c =
    let b : ℕ = c.args.so_far.now.reads.bound in
    let a : Names = handed c.args.so_far.now nothing in
    let s : Stmt = c.args.s.now in
    let f : List LoopTurn = all_turns b c.in-Loop.first in
    let l : List LoopTurn = all_turns b c.in-Loop.last in
    let one : LoopTurn = turn_with b (before_all c.in-Loop.first) (before_all c.in-Loop.last) in
    let split : turns_of b s ≡ f ++ (l ++ one ∷ []) =
    rw c.in-Loop.is (turns-loop b c.in-Loop.first c.in-Loop.field-1 c.in-Loop.last) in
    let pb : c.put_own-in-Some.new.self.reads.bound ≡ b = c.put_own-in-Some.ensures.bound
    ∙ c.read_first.ensures.bound in
    let eb : c.prepend.new.self.reads.bound ≡ b = c.prepend.ensures.bound ∙ c.in_ok-end-in-Some.ensures.bound ∙ pb in
    λ rest is.
    let p = popped _ _ _ rest f l _ one c.in-Some.ensures.items split is in
    c.in_ok-add_sets_of_all-in-Some-2.ensures.turns rest (rw (pb, c.as_slice-in-Some-2.ensures)
    (c.in_ok-add_sets_of_all-in-Some.ensures.turns (rest ++ f) (rw (eb, c.as_slice-in-Some.ensures) p.0)))

pub add_sets_of-returns-in_ok-push-in-Some-clause-sets : goal.add_sets_of-returns-in_ok-push-in-Some-clause-sets
add_sets_of-returns-in_ok-push-in-Some-clause-sets t c =
    let b : ℕ = c.args.so_far.now.reads.bound in
    let a : Names = handed c.args.so_far.now nothing in
    let s : Stmt = c.args.s.now in
    let f : List LoopTurn = all_turns b c.in-Loop.first in
    let l : List LoopTurn = all_turns b c.in-Loop.last in
    let one : LoopTurn = turn_with b (before_all c.in-Loop.first) (before_all c.in-Loop.last) in
    let split : turns_of b s ≡ f ++ (l ++ one ∷ []) =
    rw c.in-Loop.is (turns-loop b c.in-Loop.first c.in-Loop.field-1 c.in-Loop.last) in
    let p = popped _ _ _ c.requires.turns.0 f l _ one c.in-Some.ensures.items split c.requires.turns.1 in
    let pb : c.put_own-in-Some.new.self.reads.bound ≡ b = c.put_own-in-Some.ensures.bound
    ∙ c.read_first.ensures.bound in
    let eb : c.prepend.new.self.reads.bound ≡ b = c.prepend.ensures.bound ∙ c.in_ok-end-in-Some.ensures.bound ∙ pb in
    let test : Names = at_test (map live c.in-Loop.first) c.in-Loop.field-1 (map live c.in-Loop.last) a in
    let at : handed c.put_own-in-Some.new.self nothing ≡ test =
    c.put_own-in-Some.ensures.hands nothing
    ∙ ap (λ (e : Names). union (without e (own_written s)) (is_in (own_read s)))
    (c.read_first.ensures.hands nothing ∙ ap (λ (e : Names). union a e) (ap (λ (u : LoopTurn). u.again) p.1))
    ∙ rw c.in-Loop.is (parts-loop c.in-Loop.first c.in-Loop.field-1 c.in-Loop.last a) in
    let end : handed c.prepend.new.self nothing ≡ before_all c.in-Loop.first test =
    c.prepend.ensures.hands nothing
    ∙ ap (λ (h : Names → Names). h (handed c.in_ok-end-in-Some.end nothing)) (ap (λ (u : LoopTurn). u.opening) p.1)
    ∙ ap (before_all c.in-Loop.first) (c.in_ok-end-in-Some.ensures.hands nothing ∙ at) in
    let olds : List Row = map row c.args.sets.now.items in
    let r : Row = row_with b a in
    let later : List Row =
    reverse (rows_after b (moments (map live c.as_slice-in-Some.result.now) (before_all c.in-Loop.first test))) in
    let earlier : List Row = reverse (rows_after b (moments (map live c.as_slice-in-Some-2.result.now) test)) in
    pushed-set _ _ _ b a c.in_ok-push-in-Some.ensures.items c.in_ok-after.ensures.bound c.in_ok-after.ensures.set
    ∙ ap (λ (rs : List Row). rs ++ r ∷ [])
    (c.in_ok-add_sets_of_all-in-Some-2.ensures.sets
    ∙ ap (λ (rs : List Row). map row c.add_sets_of_all-in-Some.new.sets.items ++ rs)
    (same-rows (moments (map live c.as_slice-in-Some-2.result.now)) _ b _ test pb at)
    ∙ ap (λ (rs : List Row). rs ++ earlier)
    (c.in_ok-add_sets_of_all-in-Some.ensures.sets
    ∙ ap (λ (rs : List Row). olds ++ rs)
    (same-rows (moments (map live c.as_slice-in-Some.result.now)) _ b _ (before_all c.in-Loop.first test) eb end)))
    ∙ in_two olds later earlier r
    ∙ ap (λ (rs : List Row). olds ++ rs) (rw (c.in-Loop.is, c.as_slice-in-Some.ensures, c.as_slice-in-Some-2.ensures)
    (sym (backward-loop b c.in-Loop.first c.in-Loop.field-1 c.in-Loop.last a)))

pub add_sets_of-returns-in_ok-push-in-Lit-clause-live : goal.add_sets_of-returns-in_ok-push-in-Lit-clause-live
add_sets_of-returns-in_ok-push-in-Lit-clause-live t c =
    let b : ℕ = c.args.so_far.now.reads.bound in
    let a : Names = handed c.args.so_far.now nothing in
    let s : Stmt = c.args.s.now in
    c.put_own-in-Lit.ensures.hands nothing ∙ (plain s c.in-Lit.is).hands a

pub add_sets_of-returns-in_ok-push-in-Lit-clause-sets : goal.add_sets_of-returns-in_ok-push-in-Lit-clause-sets
add_sets_of-returns-in_ok-push-in-Lit-clause-sets t c =
    let b : ℕ = c.args.so_far.now.reads.bound in
    let a : Names = handed c.args.so_far.now nothing in
    let s : Stmt = c.args.s.now in
    let olds : List Row = map row c.args.sets.now.items in
    let r : Row = row_with b a in
    pushed-set _ _ _ b a c.in_ok-push-in-Lit.ensures.items c.in_ok-after.ensures.bound c.in_ok-after.ensures.set
    ∙ ap (λ (rs : List Row). olds ++ rs) (sym ((plain s c.in-Lit.is).sets b a))

pub add_sets_of_all-add_sets_of-requires : goal.add_sets_of_all-add_sets_of-requires
add_sets_of_all-add_sets_of-requires t c =
    let b : ℕ = c.args.so_far.now.reads.bound in
    let a : Names = handed c.args.so_far.now nothing in
    let body : List Stmt = c.args.body.now in
    let item : Stmt = c.index-body-k.result in
    let k : ℕ = c.loop-k.k in
    let up : k - 1 + 1 ≡ k = omega (arith, c.loop-k-test.true) in
    let inside : k - 1 < length body = omega (arith, c.loop-k-test.true, c.loop-k.invariant.inside) in
    let earlier : List LoopTurn = all_turns b (take (k - 1) body) in
    let split : all_turns b (take k body) ≡ earlier ++ turns_of b item =
    ap (all_turns b) (ap (λ (n : ℕ). take n body) (sym up) ∙ take_next body (k - 1) item inside
    ∙ ap (λ (s : Stmt). take (k - 1) body ++ s ∷ []) (sym c.index-body-k.is))
    ∙ turns-next b (take (k - 1) body) item in
    let rest : List LoopTurn = c.requires.turns.0 in
    let deep : the_size item ≤ most the_size body = subst (λ (s : Stmt). the_size s ≤ most the_size body)
    (sym c.index-body-k.is) (at_most the_size body (k - 1) item inside) in (
      omega (arith, deep, c.decreases),
      (
        rw c.loop-k.invariant.bound (below-item b body (k - 1) item inside c.index-body-k.is c.requires.names),
        (
          rest ++ earlier,
          rw c.loop-k.invariant.bound (two-first _ rest earlier (turns_of b item) _ split
              (c.loop-k.invariant.turns rest c.requires.turns.1)),
        ),
      ),
    )

pub add_sets_of_all-loop-k-preserved : goal.add_sets_of_all-loop-k-preserved
add_sets_of_all-loop-k-preserved t c =
    let b : ℕ = c.args.so_far.now.reads.bound in
    let a : Names = handed c.args.so_far.now nothing in
    let body : List Stmt = c.args.body.now in
    let item : Stmt = c.index-body-k.result in
    let k : ℕ = c.loop-k.k in
    let up : k - 1 + 1 ≡ k = omega (arith, c.loop-k-test.true) in
    let inside : k - 1 < length body = omega (arith, c.loop-k-test.true, c.loop-k.invariant.inside) in
    let earlier : List LoopTurn = all_turns b (take (k - 1) body) in
    let split : all_turns b (take k body) ≡ earlier ++ turns_of b item =
    ap (all_turns b) (ap (λ (n : ℕ). take n body) (sym up) ∙ take_next body (k - 1) item inside
    ∙ ap (λ (s : Stmt). take (k - 1) body ++ s ∷ []) (sym c.index-body-k.is))
    ∙ turns-next b (take (k - 1) body) item in
    let dropped : drop (k - 1) body ≡ item ∷ drop k body = drop_next body (k - 1) item inside
    ∙ ap (λ (s : Stmt). s ∷ drop (k - 1 + 1) body) (sym c.index-body-k.is)
    ∙ ap (λ (n : ℕ). item ∷ drop n body) up in
    let olds : List Row = map row c.args.sets.now.items in
    let later : List Row = reverse (rows_after b (moments (map live (drop k body)) a)) in
    let here : List Row = reverse (rows_after b ((live item).moments (before_all (drop k body) a))) in
    record {
      inside = omega (arith, c.loop-k.invariant.inside);
      bound = c.in_ok-add_sets_of.ensures.bound ∙ c.loop-k.invariant.bound;
      names =
          c.in_ok-add_sets_of.ensures.live
          ∙ ap (before item) c.loop-k.invariant.names
          ∙ ap (λ (ss : List Stmt). before_all ss a) (sym dropped);
      turns = λ rest is.
          c.in_ok-add_sets_of.ensures.turns (rest ++ earlier) (rw c.loop-k.invariant.bound
          (two-first _ rest earlier (turns_of b item) _ split (c.loop-k.invariant.turns rest is)));
      sets =
          c.in_ok-add_sets_of.ensures.sets
          ∙ ap (λ (rs : List Row). map row c.loop-k.sets.items ++ rs) (same-rows (live item).moments _ b _
          (before_all (drop k body) a) c.loop-k.invariant.bound c.loop-k.invariant.names)
          ∙ ap (λ (rs : List Row). rs ++ here) c.loop-k.invariant.sets
          ∙ append_assoc olds later here
          ∙ ap (λ (rs : List Row). olds ++ rs)
          (sym (backward-append b ((live item).moments (before_all (drop k body) a))
          (moments (map live (drop k body)) a))
          ∙ ap (λ (ss : List Stmt). reverse (rows_after b (moments (map live ss) a))) (sym dropped));
    }
