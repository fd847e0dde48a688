-- A buffer, a conditional and a loop part by part, from the last to the first, and so a list.
use Rattle.std.proofs.Common.{rules, ℕ, ◌≡◌, ◌+◌, ◌-◌, ◌<◌, ◌≤◌, ◌++◌, ◌||◌, Bool, false, List, [], ◌∷◌}
use Rattle.std.proofs.Common.{Option, Some, ap, sym, subst, ◌∙◌, map, reverse, take, drop, length, arith}
use denote.Param.Weighed.{most}
use Rattle.std.proofs.Math.Bool.{or-false}
use Rattle.br_flatimp.specs.declared.program.Cond.{Cond}
use Rattle.br_flatimp.specs.declared.program.Stmt.{Stmt}
use Rattle.br_flatimp.proofs.program.Stmt.TheLaws.{the_size}
use Rattle.br_flatimp.specs.declared.program.Stmt.TheFolds.{the_lemmas}
use Rattle.br_flatimp.specs.declared.program.Stmt.TheVariants.{Stackalloc, If, Loop}
use Rattle.br_flatimp.specs.Values.{Names}
use Rattle.br_flatimp.specs.Liveness.{nothing, is_in, union, without, live, before_all, at_test}
use Rattle.br_live.specs.declared.turn.Turn.{Turn}
use Rattle.br_flatimp.specs.Parts.{own_read, own_written}
use Rattle.br_live.specs.Summaries.{handed}
use Rattle.br_live.specs.Turns.{LoopTurn, all_turns, turns_of, turn_of}
use Rattle.br_live.proofs.Own.{parts-loop, below-stackalloc, below-if, below-loop, below-item}
use Rattle.br_live.proofs.Rows.{take_next, drop_next, at_most}
use Rattle.br_live.proofs.Turns.{turn_with, turns-stackalloc, turns-if, turns-loop}
use Rattle.br_live.proofs.Walks.{below_as, turns-next, two-first, popped, never}
use Rattle.br_live.proofs.Plain.{plain}
use Rattle.br_deadcode.specs.Sweeps.{idle, sweep, put, before_left, left_of, leaves_of}
use Rattle.br_deadcode.proofs.Steps.{or_assoc, sweep-plain, own-stackalloc, own-if}
use Rattle.br_deadcode.proofs.Steps.{sweep-stackalloc, sweep-if, sweep-loop}
use Rattle.br_deadcode.proofs.sweep.+sweep.Goals as goal

pub sweep_one-sweep_all-requires : goal.sweep_one-sweep_all-requires
sweep_one-sweep_all-requires t c =
    let b : ℕ = c.args.so_far.now.reads.bound in
    let s : Stmt = c.args.s.now in
    let split : turns_of b s ≡ all_turns b c.as_slice.result.now = rw (c.in-Stackalloc.is, c.as_slice.ensures)
    (turns-stackalloc b c.in-Stackalloc.x c.in-Stackalloc.n c.in-Stackalloc.body) in (
      search (rules, the_lemmas),
      (
        rw c.as_slice.ensures
            (below-stackalloc b c.in-Stackalloc.x c.in-Stackalloc.n c.in-Stackalloc.body
            (below_as b c.in-Stackalloc.is c.requires.names)),
        (c.requires.turns.0, c.requires.turns.1 ∙ ap (λ (ts : List LoopTurn). c.requires.turns.0 ++ ts) split),
      ),
    )

pub sweep_one-sweep_all-requires-in-If : goal.sweep_one-sweep_all-requires-in-If
sweep_one-sweep_all-requires-in-If t c =
    let b : ℕ = c.args.so_far.now.reads.bound in
    let s : Stmt = c.args.s.now in
    let f : List LoopTurn = all_turns b c.in-If.first in
    let g : List LoopTurn = all_turns b c.in-If.second in
    let split : turns_of b s ≡ f ++ g = rw c.in-If.is (turns-if b c.in-If.test c.in-If.first c.in-If.second) in
    let rest : List LoopTurn = c.requires.turns.0 in (
      search (rules, the_lemmas),
      (
        rw (c.in_ok-other-in-If.ensures.bound, c.as_slice-in-If.ensures)
            (below-if b c.in-If.test c.in-If.first c.in-If.second (below_as b c.in-If.is c.requires.names)).1,
        (
          rest ++ f,
          rw (c.in_ok-other-in-If.ensures.bound, c.as_slice-in-If.ensures)
              (two-first _ rest f g _ split c.requires.turns.1),
        ),
      ),
    )

pub sweep_one-sweep_all-requires-in-If-2 : goal.sweep_one-sweep_all-requires-in-If-2
sweep_one-sweep_all-requires-in-If-2 t c =
    let b : ℕ = c.args.so_far.now.reads.bound in
    let s : Stmt = c.args.s.now in
    let f : List LoopTurn = all_turns b c.in-If.first in
    let g : List LoopTurn = all_turns b c.in-If.second in
    let split : turns_of b s ≡ f ++ g = rw c.in-If.is (turns-if b c.in-If.test c.in-If.first c.in-If.second) in
    let rest : List LoopTurn = c.requires.turns.0 in
    let left : map turn_of c.sweep_all-in-If.new.turns.items ≡ rest ++ f = c.in_ok-second-in-If.ensures.turns
    (rest ++ f)
    (rw (c.in_ok-other-in-If.ensures.bound, c.as_slice-in-If.ensures)
    (two-first _ rest f g _ split c.requires.turns.1)) in (
      search (rules, the_lemmas),
      (
        rw c.as_slice-in-If-2.ensures
            (below-if b c.in-If.test c.in-If.first c.in-If.second (below_as b c.in-If.is c.requires.names)).0,
        (rest, rw c.as_slice-in-If-2.ensures left),
      ),
    )

pub sweep_one-unreachable-requires : goal.sweep_one-unreachable-requires
sweep_one-unreachable-requires t c =
    let b : ℕ = c.args.so_far.now.reads.bound in
    let s : Stmt = c.args.s.now in
    let f : List LoopTurn = all_turns b c.in-Loop.first in
    let l : List LoopTurn = all_turns b c.in-Loop.last in
    let one : LoopTurn = turn_with b (before_all c.in-Loop.first) (before_all c.in-Loop.last) in
    let split : turns_of b s ≡ f ++ (l ++ one ∷ []) = rw c.in-Loop.is
    (turns-loop b c.in-Loop.first c.in-Loop.test c.in-Loop.last) in
    let none : c.args.turns.now.items ≡ [] = c.in-None.ensures.items
    ∙ ap (λ (xs : List Turn). xs ++ [])
    (c.in-None.ensures.rest ∙ ap (λ (n : ℕ). take (n - 1) c.args.turns.now.items) c.in-None.ensures.cases.0) in
    never c.args.turns.now.items c.requires.turns.0 f l _ one none split c.requires.turns.1

pub sweep_one-read_first-requires : goal.sweep_one-read_first-requires
sweep_one-read_first-requires t c =
    let b : ℕ = c.args.so_far.now.reads.bound in
    let s : Stmt = c.args.s.now in
    let f : List LoopTurn = all_turns b c.in-Loop.first in
    let l : List LoopTurn = all_turns b c.in-Loop.last in
    let one : LoopTurn = turn_with b (before_all c.in-Loop.first) (before_all c.in-Loop.last) in
    let split : turns_of b s ≡ f ++ (l ++ one ∷ []) = rw c.in-Loop.is
    (turns-loop b c.in-Loop.first c.in-Loop.test c.in-Loop.last) in
    let p = popped _ _ _ c.requires.turns.0 f l _ one c.in-Some.ensures.items split c.requires.turns.1 in
    let bound : c.in-Some.turn.opening.reads.bound ≡ b = ap (λ (u : LoopTurn). u.bound) p.1 in
    sym bound ∙ c.in-Some.turn.same_bound

pub sweep_one-prepend-requires : goal.sweep_one-prepend-requires
sweep_one-prepend-requires t c =
    let b : ℕ = c.args.so_far.now.reads.bound in
    let s : Stmt = c.args.s.now in
    let f : List LoopTurn = all_turns b c.in-Loop.first in
    let l : List LoopTurn = all_turns b c.in-Loop.last in
    let one : LoopTurn = turn_with b (before_all c.in-Loop.first) (before_all c.in-Loop.last) in
    let split : turns_of b s ≡ f ++ (l ++ one ∷ []) = rw c.in-Loop.is
    (turns-loop b c.in-Loop.first c.in-Loop.test c.in-Loop.last) in
    let p = popped _ _ _ c.requires.turns.0 f l _ one c.in-Some.ensures.items split c.requires.turns.1 in
    let bound : c.in-Some.turn.opening.reads.bound ≡ b = ap (λ (u : LoopTurn). u.bound) p.1 in
    let pb : c.put_own-in-Some.new.self.reads.bound ≡ b = c.put_own-in-Some.ensures.bound
    ∙ c.read_first.ensures.bound in
    c.in_ok-end-in-Some.ensures.bound ∙ pb ∙ sym bound

pub sweep_one-sweep_all-requires-in-Some : goal.sweep_one-sweep_all-requires-in-Some
sweep_one-sweep_all-requires-in-Some t c =
    let b : ℕ = c.args.so_far.now.reads.bound in
    let s : Stmt = c.args.s.now in
    let f : List LoopTurn = all_turns b c.in-Loop.first in
    let l : List LoopTurn = all_turns b c.in-Loop.last in
    let one : LoopTurn = turn_with b (before_all c.in-Loop.first) (before_all c.in-Loop.last) in
    let split : turns_of b s ≡ f ++ (l ++ one ∷ []) = rw c.in-Loop.is
    (turns-loop b c.in-Loop.first c.in-Loop.test c.in-Loop.last) in
    let p = popped _ _ _ c.requires.turns.0 f l _ one c.in-Some.ensures.items split c.requires.turns.1 in
    let pb : c.put_own-in-Some.new.self.reads.bound ≡ b = c.put_own-in-Some.ensures.bound
    ∙ c.read_first.ensures.bound in
    let eb : c.prepend.new.self.reads.bound ≡ b = c.prepend.ensures.bound ∙ c.in_ok-end-in-Some.ensures.bound
    ∙ pb in (
      search (rules, the_lemmas),
      (
        rw (eb, c.as_slice-in-Some.ensures)
            (below-loop b c.in-Loop.first c.in-Loop.test c.in-Loop.last (below_as b c.in-Loop.is c.requires.names)).1,
        (c.requires.turns.0 ++ f, rw (eb, c.as_slice-in-Some.ensures) p.0),
      ),
    )

pub sweep_one-sweep_all-requires-in-Some-2 : goal.sweep_one-sweep_all-requires-in-Some-2
sweep_one-sweep_all-requires-in-Some-2 t c =
    let b : ℕ = c.args.so_far.now.reads.bound in
    let s : Stmt = c.args.s.now in
    let f : List LoopTurn = all_turns b c.in-Loop.first in
    let l : List LoopTurn = all_turns b c.in-Loop.last in
    let one : LoopTurn = turn_with b (before_all c.in-Loop.first) (before_all c.in-Loop.last) in
    let split : turns_of b s ≡ f ++ (l ++ one ∷ []) = rw c.in-Loop.is
    (turns-loop b c.in-Loop.first c.in-Loop.test c.in-Loop.last) in
    let p = popped _ _ _ c.requires.turns.0 f l _ one c.in-Some.ensures.items split c.requires.turns.1 in
    let pb : c.put_own-in-Some.new.self.reads.bound ≡ b = c.put_own-in-Some.ensures.bound
    ∙ c.read_first.ensures.bound in
    let eb : c.prepend.new.self.reads.bound ≡ b = c.prepend.ensures.bound ∙ c.in_ok-end-in-Some.ensures.bound ∙ pb in
    let rest : List LoopTurn = c.requires.turns.0 in
    let left : map turn_of c.sweep_all-in-Some.new.turns.items ≡ rest ++ f = c.in_ok-last-in-Some.ensures.turns
    (rest ++ f) (rw (eb, c.as_slice-in-Some.ensures) p.0) in (
      search (rules, the_lemmas),
      (
        rw (pb, c.as_slice-in-Some-2.ensures)
            (below-loop b c.in-Loop.first c.in-Loop.test c.in-Loop.last (below_as b c.in-Loop.is c.requires.names)).0,
        (rest, rw (pb, c.as_slice-in-Some-2.ensures) left),
      ),
    )

-- ---- a buffer

pub sweep_one-returns-in_ok-body-in-Stackalloc-clause-live : goal.sweep_one-returns-in_ok-body-in-Stackalloc-clause-live
sweep_one-returns-in_ok-body-in-Stackalloc-clause-live t c =
    let a : Names = handed c.args.so_far.now nothing in
    let s : Stmt = c.args.s.now in
    let x : ℕ = c.in-Stackalloc.x in
    let n : ℕ = c.in-Stackalloc.n in
    let body : List Stmt = c.in-Stackalloc.body in
    c.put_own.ensures.hands nothing
    ∙ ap (λ (e : Names). union (without e (own_written s)) (is_in (own_read s)))
    c.in_ok-body-in-Stackalloc.ensures.live
    ∙ rw (c.in-Stackalloc.is, c.as_slice.ensures)
    (own-stackalloc x n body (before_left body a) ∙ sym (sweep-stackalloc x n body a).before)

pub sweep_one-returns-in_ok-body-in-Stackalloc-clause-turns :
    goal.sweep_one-returns-in_ok-body-in-Stackalloc-clause-turns
sweep_one-returns-in_ok-body-in-Stackalloc-clause-turns t c =
    let b : ℕ = c.args.so_far.now.reads.bound in
    let s : Stmt = c.args.s.now in
    let split : turns_of b s ≡ all_turns b c.as_slice.result.now = rw (c.in-Stackalloc.is, c.as_slice.ensures)
    (turns-stackalloc b c.in-Stackalloc.x c.in-Stackalloc.n c.in-Stackalloc.body) in
    λ rest is. c.in_ok-body-in-Stackalloc.ensures.turns rest (is ∙ ap (λ (ts : List LoopTurn). rest ++ ts) split)

pub sweep_one-returns-in_ok-body-in-Stackalloc-clause-left : goal.sweep_one-returns-in_ok-body-in-Stackalloc-clause-left
sweep_one-returns-in_ok-body-in-Stackalloc-clause-left t c =
    let a : Names = handed c.args.so_far.now nothing in
    let x : ℕ = c.in-Stackalloc.x in
    let n : ℕ = c.in-Stackalloc.n in
    let body : List Stmt = c.in-Stackalloc.body in
    ap (λ (cs : List Stmt). Some (Stackalloc x n cs)) c.in_ok-body-in-Stackalloc.ensures.left
    ∙ rw (c.in-Stackalloc.is, c.as_slice.ensures) (sym (sweep-stackalloc x n body a).left)

pub sweep_one-returns-in_ok-body-in-Stackalloc-clause-removed :
    goal.sweep_one-returns-in_ok-body-in-Stackalloc-clause-removed
sweep_one-returns-in_ok-body-in-Stackalloc-clause-removed t c =
    let a : Names = handed c.args.so_far.now nothing in
    let x : ℕ = c.in-Stackalloc.x in
    let n : ℕ = c.in-Stackalloc.n in
    let body : List Stmt = c.in-Stackalloc.body in
    c.in_ok-body-in-Stackalloc.ensures.removed
    ∙ ap (λ (l : Bool). c.args.removed.now || l)
    (rw (c.in-Stackalloc.is, c.as_slice.ensures) (sym (sweep-stackalloc x n body a).leaves))

-- ---- a conditional

pub sweep_one-returns-in_ok-first-in-If-clause-live : goal.sweep_one-returns-in_ok-first-in-If-clause-live
sweep_one-returns-in_ok-first-in-If-clause-live t c =
    let a : Names = handed c.args.so_far.now nothing in
    let s : Stmt = c.args.s.now in
    let test : Cond = c.in-If.test in
    let first : List Stmt = c.in-If.first in
    let second : List Stmt = c.in-If.second in
    c.put_own-in-If.ensures.hands nothing
    ∙ ap (λ (e : Names). union (without e (own_written s)) (is_in (own_read s)))
    (c.join.ensures.hands nothing
    ∙ ap (λ (e : Names). union e (handed c.sweep_all-in-If.new.so_far nothing)) c.in_ok-first-in-If.ensures.live
    ∙ ap (λ (e : Names). union (before_left c.as_slice-in-If-2.result.now a) e)
    (c.in_ok-second-in-If.ensures.live
    ∙ ap (before_left c.as_slice-in-If.result.now) (c.in_ok-other-in-If.ensures.hands nothing)))
    ∙ rw (c.in-If.is, c.as_slice-in-If.ensures, c.as_slice-in-If-2.ensures)
    (own-if test first second (union (before_left first a) (before_left second a))
    ∙ sym (sweep-if test first second a).before)

pub sweep_one-returns-in_ok-first-in-If-clause-turns : goal.sweep_one-returns-in_ok-first-in-If-clause-turns
sweep_one-returns-in_ok-first-in-If-clause-turns t c =
    let b : ℕ = c.args.so_far.now.reads.bound in
    let s : Stmt = c.args.s.now in
    let f : List LoopTurn = all_turns b c.in-If.first in
    let g : List LoopTurn = all_turns b c.in-If.second in
    let split : turns_of b s ≡ f ++ g = rw c.in-If.is (turns-if b c.in-If.test c.in-If.first c.in-If.second) in
    λ rest is. c.in_ok-first-in-If.ensures.turns rest
    (rw c.as_slice-in-If-2.ensures
    (c.in_ok-second-in-If.ensures.turns (rest ++ f)
    (rw (c.in_ok-other-in-If.ensures.bound, c.as_slice-in-If.ensures) (two-first _ rest f g _ split is))))

pub sweep_one-returns-in_ok-first-in-If-clause-left : goal.sweep_one-returns-in_ok-first-in-If-clause-left
sweep_one-returns-in_ok-first-in-If-clause-left t c =
    let a : Names = handed c.args.so_far.now nothing in
    let test : Cond = c.in-If.test in
    let first : List Stmt = c.in-If.first in
    let second : List Stmt = c.in-If.second in
    ap (λ (cs : List Stmt). Some (If test cs c.in_ok-second-in-If.second)) c.in_ok-first-in-If.ensures.left
    ∙ ap (λ (cs : List Stmt). Some (If test (left_of c.as_slice-in-If-2.result.now a) cs))
    (c.in_ok-second-in-If.ensures.left
    ∙ ap (left_of c.as_slice-in-If.result.now) (c.in_ok-other-in-If.ensures.hands nothing))
    ∙ rw (c.in-If.is, c.as_slice-in-If.ensures, c.as_slice-in-If-2.ensures) (sym (sweep-if test first second a).left)

pub sweep_one-returns-in_ok-first-in-If-clause-removed : goal.sweep_one-returns-in_ok-first-in-If-clause-removed
sweep_one-returns-in_ok-first-in-If-clause-removed t c =
    let a : Names = handed c.args.so_far.now nothing in
    let test : Cond = c.in-If.test in
    let first : List Stmt = c.in-If.first in
    let second : List Stmt = c.in-If.second in
    let before : Bool = c.args.removed.now in
    c.in_ok-first-in-If.ensures.removed
    ∙ ap (λ (l : Bool). l || leaves_of c.as_slice-in-If-2.result.now a)
    (c.in_ok-second-in-If.ensures.removed
    ∙ ap (λ (e : Names). before || leaves_of c.as_slice-in-If.result.now e)
    (c.in_ok-other-in-If.ensures.hands nothing))
    ∙ or_assoc before (leaves_of c.as_slice-in-If.result.now a) (leaves_of c.as_slice-in-If-2.result.now a)
    ∙ ap (λ (l : Bool). before || l)
    (rw (c.in-If.is, c.as_slice-in-If.ensures, c.as_slice-in-If-2.ensures)
    (sym (sweep-if test first second a).leaves))

-- ---- a loop

pub sweep_one-returns-in_ok-first-in-Some-clause-live : goal.sweep_one-returns-in_ok-first-in-Some-clause-live
sweep_one-returns-in_ok-first-in-Some-clause-live t c =
    let b : ℕ = c.args.so_far.now.reads.bound in
    let a : Names = handed c.args.so_far.now nothing in
    let s : Stmt = c.args.s.now in
    let f : List LoopTurn = all_turns b c.in-Loop.first in
    let l : List LoopTurn = all_turns b c.in-Loop.last in
    let one : LoopTurn = turn_with b (before_all c.in-Loop.first) (before_all c.in-Loop.last) in
    let split : turns_of b s ≡ f ++ (l ++ one ∷ []) = rw c.in-Loop.is
    (turns-loop b c.in-Loop.first c.in-Loop.test c.in-Loop.last) in
    let p = popped _ _ _ c.requires.turns.0 f l _ one c.in-Some.ensures.items split c.requires.turns.1 in
    let test : Names = at_test (map live c.in-Loop.first) c.in-Loop.test (map live c.in-Loop.last) a in
    let at : handed c.put_own-in-Some.new.self nothing ≡ test =
    c.put_own-in-Some.ensures.hands nothing
    ∙ ap (λ (e : Names). union (without e (own_written s)) (is_in (own_read s)))
    (c.read_first.ensures.hands nothing ∙ ap (λ (e : Names). union a e) (ap (λ (u : LoopTurn). u.again) p.1))
    ∙ rw c.in-Loop.is (parts-loop c.in-Loop.first c.in-Loop.test c.in-Loop.last a) in
    c.in_ok-first-in-Some.ensures.live
    ∙ ap (before_left c.as_slice-in-Some-2.result.now) at
    ∙ rw (c.in-Loop.is, c.as_slice-in-Some-2.ensures)
    (sym (sweep-loop c.in-Loop.first c.in-Loop.test c.in-Loop.last a).before)

pub sweep_one-returns-in_ok-first-in-Some-clause-turns : goal.sweep_one-returns-in_ok-first-in-Some-clause-turns
sweep_one-returns-in_ok-first-in-Some-clause-turns t c =
    let b : ℕ = c.args.so_far.now.reads.bound in
    let s : Stmt = c.args.s.now in
    let f : List LoopTurn = all_turns b c.in-Loop.first in
    let l : List LoopTurn = all_turns b c.in-Loop.last in
    let one : LoopTurn = turn_with b (before_all c.in-Loop.first) (before_all c.in-Loop.last) in
    let split : turns_of b s ≡ f ++ (l ++ one ∷ []) = rw c.in-Loop.is
    (turns-loop b c.in-Loop.first c.in-Loop.test c.in-Loop.last) in
    let pb : c.put_own-in-Some.new.self.reads.bound ≡ b = c.put_own-in-Some.ensures.bound
    ∙ c.read_first.ensures.bound in
    let eb : c.prepend.new.self.reads.bound ≡ b = c.prepend.ensures.bound ∙ c.in_ok-end-in-Some.ensures.bound ∙ pb in
    λ rest is.
    let p = popped _ _ _ rest f l _ one c.in-Some.ensures.items split is in
    c.in_ok-first-in-Some.ensures.turns rest
    (rw (pb, c.as_slice-in-Some-2.ensures)
    (c.in_ok-last-in-Some.ensures.turns (rest ++ f) (rw (eb, c.as_slice-in-Some.ensures) p.0)))

pub sweep_one-returns-in_ok-first-in-Some-clause-left : goal.sweep_one-returns-in_ok-first-in-Some-clause-left
sweep_one-returns-in_ok-first-in-Some-clause-left t c =
    let b : ℕ = c.args.so_far.now.reads.bound in
    let a : Names = handed c.args.so_far.now nothing in
    let s : Stmt = c.args.s.now in
    let first : List Stmt = c.in-Loop.first in
    let last : List Stmt = c.in-Loop.last in
    let f : List LoopTurn = all_turns b c.in-Loop.first in
    let l : List LoopTurn = all_turns b c.in-Loop.last in
    let one : LoopTurn = turn_with b (before_all c.in-Loop.first) (before_all c.in-Loop.last) in
    let split : turns_of b s ≡ f ++ (l ++ one ∷ []) = rw c.in-Loop.is
    (turns-loop b c.in-Loop.first c.in-Loop.test c.in-Loop.last) in
    let p = popped _ _ _ c.requires.turns.0 f l _ one c.in-Some.ensures.items split c.requires.turns.1 in
    let test : Names = at_test (map live c.in-Loop.first) c.in-Loop.test (map live c.in-Loop.last) a in
    let at : handed c.put_own-in-Some.new.self nothing ≡ test =
    c.put_own-in-Some.ensures.hands nothing
    ∙ ap (λ (e : Names). union (without e (own_written s)) (is_in (own_read s)))
    (c.read_first.ensures.hands nothing ∙ ap (λ (e : Names). union a e) (ap (λ (u : LoopTurn). u.again) p.1))
    ∙ rw c.in-Loop.is (parts-loop c.in-Loop.first c.in-Loop.test c.in-Loop.last a) in
    let end : handed c.prepend.new.self nothing ≡ before_all c.in-Loop.first test =
    c.prepend.ensures.hands nothing
    ∙ ap (λ (h : Names → Names). h (handed c.in_ok-end-in-Some.end nothing)) (ap (λ (u : LoopTurn). u.opening) p.1)
    ∙ ap (before_all c.in-Loop.first) (c.in_ok-end-in-Some.ensures.hands nothing ∙ at) in
    ap (λ (cs : List Stmt). Some (Loop cs c.in-Loop.test c.in_ok-last-in-Some.last))
    (c.in_ok-first-in-Some.ensures.left ∙ ap (left_of c.as_slice-in-Some-2.result.now) at)
    ∙ ap (λ (cs : List Stmt). Some (Loop (left_of c.as_slice-in-Some-2.result.now test) c.in-Loop.test cs))
    (c.in_ok-last-in-Some.ensures.left ∙ ap (left_of c.as_slice-in-Some.result.now) end)
    ∙ rw (c.in-Loop.is, c.as_slice-in-Some.ensures, c.as_slice-in-Some-2.ensures)
    (sym (sweep-loop first c.in-Loop.test last a).left)

pub sweep_one-returns-in_ok-first-in-Some-clause-removed : goal.sweep_one-returns-in_ok-first-in-Some-clause-removed
sweep_one-returns-in_ok-first-in-Some-clause-removed t c =
    let b : ℕ = c.args.so_far.now.reads.bound in
    let a : Names = handed c.args.so_far.now nothing in
    let s : Stmt = c.args.s.now in
    let first : List Stmt = c.in-Loop.first in
    let last : List Stmt = c.in-Loop.last in
    let f : List LoopTurn = all_turns b c.in-Loop.first in
    let l : List LoopTurn = all_turns b c.in-Loop.last in
    let one : LoopTurn = turn_with b (before_all c.in-Loop.first) (before_all c.in-Loop.last) in
    let split : turns_of b s ≡ f ++ (l ++ one ∷ []) = rw c.in-Loop.is
    (turns-loop b c.in-Loop.first c.in-Loop.test c.in-Loop.last) in
    let p = popped _ _ _ c.requires.turns.0 f l _ one c.in-Some.ensures.items split c.requires.turns.1 in
    let test : Names = at_test (map live c.in-Loop.first) c.in-Loop.test (map live c.in-Loop.last) a in
    let at : handed c.put_own-in-Some.new.self nothing ≡ test =
    c.put_own-in-Some.ensures.hands nothing
    ∙ ap (λ (e : Names). union (without e (own_written s)) (is_in (own_read s)))
    (c.read_first.ensures.hands nothing ∙ ap (λ (e : Names). union a e) (ap (λ (u : LoopTurn). u.again) p.1))
    ∙ rw c.in-Loop.is (parts-loop c.in-Loop.first c.in-Loop.test c.in-Loop.last a) in
    let end : handed c.prepend.new.self nothing ≡ before_all c.in-Loop.first test =
    c.prepend.ensures.hands nothing
    ∙ ap (λ (h : Names → Names). h (handed c.in_ok-end-in-Some.end nothing)) (ap (λ (u : LoopTurn). u.opening) p.1)
    ∙ ap (before_all c.in-Loop.first) (c.in_ok-end-in-Some.ensures.hands nothing ∙ at) in
    let before : Bool = c.args.removed.now in
    c.in_ok-first-in-Some.ensures.removed
    ∙ ap (λ (e : Names). c.sweep_all-in-Some.new.removed || leaves_of c.as_slice-in-Some-2.result.now e) at
    ∙ ap (λ (o : Bool). o || leaves_of c.as_slice-in-Some-2.result.now test)
    (c.in_ok-last-in-Some.ensures.removed
    ∙ ap (λ (e : Names). before || leaves_of c.as_slice-in-Some.result.now e) end)
    ∙ or_assoc before (leaves_of c.as_slice-in-Some.result.now (before_all first test))
    (leaves_of c.as_slice-in-Some-2.result.now test)
    ∙ ap (λ (o : Bool). before || o)
    (rw (c.in-Loop.is, c.as_slice-in-Some.ensures, c.as_slice-in-Some-2.ensures)
    (sym (sweep-loop first c.in-Loop.test last a).leaves))

-- ---- statements with no parts

pub sweep_one-returns-in_ok-copy-in-Lit-clause-live : goal.sweep_one-returns-in_ok-copy-in-Lit-clause-live
sweep_one-returns-in_ok-copy-in-Lit-clause-live t c =
    let a : Names = handed c.args.so_far.now nothing in
    let s : Stmt = c.args.s.now in
    let other : idle s a ≡ false = sym c.is_idle.ensures ∙ c.if-is_idle.false in
    c.put_own-in-Lit.ensures.hands nothing ∙ (plain s c.in-Lit.is).hands a
    ∙ sym (sweep-plain s a c.in-Lit.is other).before

pub sweep_one-returns-in_ok-copy-in-Lit-clause-left : goal.sweep_one-returns-in_ok-copy-in-Lit-clause-left
sweep_one-returns-in_ok-copy-in-Lit-clause-left t c =
    let a : Names = handed c.args.so_far.now nothing in
    let s : Stmt = c.args.s.now in
    let other : idle s a ≡ false = sym c.is_idle.ensures ∙ c.if-is_idle.false in
    ap Some c.in_ok-copy-in-Lit.ensures ∙ sym (sweep-plain s a c.in-Lit.is other).left

pub sweep_one-returns-in_ok-copy-in-Lit-clause-removed : goal.sweep_one-returns-in_ok-copy-in-Lit-clause-removed
sweep_one-returns-in_ok-copy-in-Lit-clause-removed t c =
    let a : Names = handed c.args.so_far.now nothing in
    let s : Stmt = c.args.s.now in
    let other : idle s a ≡ false = sym c.is_idle.ensures ∙ c.if-is_idle.false in
    sym (or-false c.args.removed.now)
    ∙ ap (λ (l : Bool). c.args.removed.now || l) (sym (sweep-plain s a c.in-Lit.is other).leaves)

-- ---- statements in turn

pub sweep_all-sweep_one-requires : goal.sweep_all-sweep_one-requires
sweep_all-sweep_one-requires t c =
    let b : ℕ = c.args.so_far.now.reads.bound in
    let body : List Stmt = c.args.body.now in
    let item : Stmt = c.index-body-k.result in
    let k : ℕ = c.loop-k.k in
    let up : k - 1 + 1 ≡ k = omega (arith, c.loop-k-test.true) in
    let inside : k - 1 < length body = omega (arith, c.loop-k-test.true, c.loop-k.invariant.inside) in
    let earlier : List LoopTurn = all_turns b (take (k - 1) body) in
    let split : all_turns b (take k body) ≡ earlier ++ turns_of b item =
    ap (all_turns b)
    (ap (λ (n : ℕ). take n body) (sym up) ∙ take_next body (k - 1) item inside
    ∙ ap (λ (s : Stmt). take (k - 1) body ++ s ∷ []) (sym c.index-body-k.is))
    ∙ turns-next b (take (k - 1) body) item in
    let rest : List LoopTurn = c.requires.turns.0 in
    let deep : the_size item ≤ most the_size body = subst (λ (s : Stmt). the_size s ≤ most the_size body)
    (sym c.index-body-k.is) (at_most the_size body (k - 1) item inside) in (
      omega (arith, deep, c.decreases),
      (
        rw c.loop-k.invariant.bound (below-item b body (k - 1) item inside c.index-body-k.is c.requires.names),
        (
          rest ++ earlier,
          rw c.loop-k.invariant.bound
              (two-first _ rest earlier (turns_of b item) _ split (c.loop-k.invariant.turns rest c.requires.turns.1)),
        ),
      ),
    )

pub sweep_all-loop-k-preserved : goal.sweep_all-loop-k-preserved
sweep_all-loop-k-preserved t c =
    let b : ℕ = c.args.so_far.now.reads.bound in
    let a : Names = handed c.args.so_far.now nothing in
    let body : List Stmt = c.args.body.now in
    let item : Stmt = c.index-body-k.result in
    let k : ℕ = c.loop-k.k in
    let up : k - 1 + 1 ≡ k = omega (arith, c.loop-k-test.true) in
    let inside : k - 1 < length body = omega (arith, c.loop-k-test.true, c.loop-k.invariant.inside) in
    let earlier : List LoopTurn = all_turns b (take (k - 1) body) in
    let split : all_turns b (take k body) ≡ earlier ++ turns_of b item =
    ap (all_turns b)
    (ap (λ (n : ℕ). take n body) (sym up) ∙ take_next body (k - 1) item inside
    ∙ ap (λ (s : Stmt). take (k - 1) body ++ s ∷ []) (sym c.index-body-k.is))
    ∙ turns-next b (take (k - 1) body) item in
    let dropped : drop (k - 1) body ≡ item ∷ drop k body = drop_next body (k - 1) item inside
    ∙ ap (λ (s : Stmt). s ∷ drop (k - 1 + 1) body) (sym c.index-body-k.is) ∙ ap (λ (n : ℕ). item ∷ drop n body) up in
    let later : List Stmt = drop k body in
    let set : Names = before_left later a in
    let first : Bool = c.args.removed.now in
    record {
      inside = omega (arith, c.loop-k.invariant.inside);
      bound = c.in_ok-left.ensures.bound ∙ c.loop-k.invariant.bound;
      names =
          c.in_ok-left.ensures.live
          ∙ ap (λ (e : Names). (sweep item).before e) c.loop-k.invariant.names
          ∙ ap (λ (ss : List Stmt). before_left ss a) (sym dropped);
      turns = λ rest is.
          c.in_ok-left.ensures.turns (rest ++ earlier)
          (rw c.loop-k.invariant.bound
          (two-first _ rest earlier (turns_of b item) _ split (c.loop-k.invariant.turns rest is)));
      left =
          c.in_ok-add_left.ensures
          ∙ ap (λ (o : Option Stmt). put o (reverse c.loop-k.backward.items))
          (c.in_ok-left.ensures.left ∙ ap (λ (e : Names). (sweep item).left e) c.loop-k.invariant.names)
          ∙ ap (λ (cs : List Stmt). put ((sweep item).left set) cs) c.loop-k.invariant.left
          ∙ ap (λ (ss : List Stmt). left_of ss a) (sym dropped);
      removed =
          c.in_ok-left.ensures.removed
          ∙ ap (λ (e : Names). c.loop-k.removed || (sweep item).leaves_out e) c.loop-k.invariant.names
          ∙ ap (λ (o : Bool). o || (sweep item).leaves_out set) c.loop-k.invariant.removed
          ∙ or_assoc first (leaves_of later a) ((sweep item).leaves_out set)
          ∙ ap (λ (ss : List Stmt). first || leaves_of ss a) (sym dropped);
    }
