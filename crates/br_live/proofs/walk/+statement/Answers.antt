-- A buffer, a conditional and a loop part by part, and a list statement by statement.
use Rattle.std.proofs.Common.{rules, ℕ, ◌≡◌, ◌+◌, ◌++◌, List, [], ◌∷◌, ap, sym, ◌∙◌, map, take, append_assoc, arith}
use Rattle.std.proofs.lemmas.Grind.{common_steps}
use Rattle.br_flatimp.specs.declared.program.Stmt.{Stmt}
use Rattle.br_flatimp.specs.declared.program.Stmt.TheFolds.{the_lemmas}
use Rattle.br_flatimp.specs.Values.{Names}
use Rattle.br_flatimp.specs.Liveness.{nothing, is_in, union, without, before_all}
use Rattle.br_flatimp.proofs.Lists.{before_all-append}
use Rattle.br_flatimp.specs.Parts.{own_read, own_written}
use Rattle.br_live.specs.Summaries.{handed}
use Rattle.br_live.specs.Turns.{LoopTurn, all_turns, turns_of, turn_of}
use Rattle.br_live.proofs.Own.{parts-stackalloc, parts-if, loop_before}
use Rattle.br_live.proofs.Own.{below-stackalloc, below-if, below-loop, below-item}
use Rattle.br_live.proofs.Rows.{take_next, three}
use Rattle.br_live.proofs.Turns.{turn_with, turns-stackalloc, turns-if, turns-loop}
use Rattle.br_live.proofs.Walks.{pushed-turn, below_as, turns-next}
use Rattle.br_live.proofs.Plain.{plain}
use Rattle.br_live.proofs.walk.+statement.Goals as goal

pub summary_of-summary_of_all-requires : goal.summary_of-summary_of_all-requires
summary_of-summary_of_all-requires t c = (
  search (rules, the_lemmas),
  rw c.as_slice.ensures (below-stackalloc c.args.names c.in-Stackalloc.field-0
      c.in-Stackalloc.field-1 c.in-Stackalloc.body (below_as c.args.names c.in-Stackalloc.is c.requires)),
)

pub summary_of-summary_of_all-requires-in-If : goal.summary_of-summary_of_all-requires-in-If
summary_of-summary_of_all-requires-in-If t c = (
  search (rules, the_lemmas),
  rw c.as_slice-in-If.ensures (below-if c.args.names c.in-If.field-0 c.in-If.first
      c.in-If.second (below_as c.args.names c.in-If.is c.requires)).0,
)

pub summary_of-summary_of_all-requires-in-If-2 : goal.summary_of-summary_of_all-requires-in-If-2
summary_of-summary_of_all-requires-in-If-2 t c = (
  search (rules, the_lemmas),
  rw c.as_slice-in-If-2.ensures (below-if c.args.names c.in-If.field-0 c.in-If.first
      c.in-If.second (below_as c.args.names c.in-If.is c.requires)).1,
)

pub summary_of-summary_of_all-requires-in-Loop : goal.summary_of-summary_of_all-requires-in-Loop
summary_of-summary_of_all-requires-in-Loop t c = (
  search (rules, the_lemmas),
  rw c.as_slice-in-Loop.ensures (below-loop c.args.names c.in-Loop.first
      c.in-Loop.field-1 c.in-Loop.last (below_as c.args.names c.in-Loop.is c.requires)).0,
)

pub summary_of-summary_of_all-requires-in-Loop-2 : goal.summary_of-summary_of_all-requires-in-Loop-2
summary_of-summary_of_all-requires-in-Loop-2 t c = (
  search (rules, the_lemmas),
  rw c.as_slice-in-Loop-2.ensures (below-loop c.args.names c.in-Loop.first
      c.in-Loop.field-1 c.in-Loop.last (below_as c.args.names c.in-Loop.is c.requires)).1,
)

pub summary_of-returns-in_ok-one-in-Stackalloc-clause-hands :
    goal.summary_of-returns-in_ok-one-in-Stackalloc-clause-hands
summary_of-returns-in_ok-one-in-Stackalloc-clause-hands t c = λ after.
    c.put_own.ensures.hands after
    ∙ ap (λ (f : Names). union (without f (own_written c.args.s.now)) (is_in (own_read c.args.s.now)))
    (c.in_ok-one-in-Stackalloc.ensures.hands after)
    ∙ (rw (c.in-Stackalloc.is, c.as_slice.ensures)
    (parts-stackalloc c.in-Stackalloc.field-0 c.in-Stackalloc.field-1 c.in-Stackalloc.body after))

pub summary_of-returns-in_ok-one-in-Stackalloc-clause-turns :
    goal.summary_of-returns-in_ok-one-in-Stackalloc-clause-turns
summary_of-returns-in_ok-one-in-Stackalloc-clause-turns t c =
    c.in_ok-one-in-Stackalloc.ensures.turns
    ∙ ap (λ (ts : List LoopTurn). map turn_of c.args.turns.now.items ++ ts)
    (rw (c.in-Stackalloc.is, c.as_slice.ensures)
    (sym (turns-stackalloc c.args.names c.in-Stackalloc.field-0 c.in-Stackalloc.field-1 c.in-Stackalloc.body)))

pub summary_of-returns-in_ok-other-in-If-clause-hands : goal.summary_of-returns-in_ok-other-in-If-clause-hands
summary_of-returns-in_ok-other-in-If-clause-hands t c = λ after.
    c.put_own-in-If.ensures.hands after
    ∙ ap (λ (f : Names). union (without f (own_written c.args.s.now)) (is_in (own_read c.args.s.now)))
    (c.join.ensures.hands after
    ∙ ap (λ (f : Names). union f (handed c.in_ok-other-in-If.other after)) (c.in_ok-one-in-If.ensures.hands after)
    ∙ ap (λ (f : Names). union (before_all c.as_slice-in-If.result.now after) f)
    (c.in_ok-other-in-If.ensures.hands after))
    ∙ (rw (c.in-If.is, c.as_slice-in-If.ensures, c.as_slice-in-If-2.ensures)
    (parts-if c.in-If.field-0 c.in-If.first c.in-If.second after))

pub summary_of-returns-in_ok-other-in-If-clause-turns : goal.summary_of-returns-in_ok-other-in-If-clause-turns
summary_of-returns-in_ok-other-in-If-clause-turns t c =
    c.in_ok-other-in-If.ensures.turns
    ∙ ap (λ (ts : List LoopTurn). ts ++ all_turns c.args.names c.as_slice-in-If-2.result.now)
    c.in_ok-one-in-If.ensures.turns
    ∙ append_assoc (map turn_of c.args.turns.now.items) (all_turns c.args.names c.as_slice-in-If.result.now)
    (all_turns c.args.names c.as_slice-in-If-2.result.now)
    ∙ ap (λ (ts : List LoopTurn). map turn_of c.args.turns.now.items ++ ts)
    (rw (c.in-If.is, c.as_slice-in-If.ensures, c.as_slice-in-If-2.ensures)
    (sym (turns-if c.args.names c.in-If.field-0 c.in-If.first c.in-If.second)))

pub summary_of-returns-in_ok-push-in-Loop-clause-hands : goal.summary_of-returns-in_ok-push-in-Loop-clause-hands
summary_of-returns-in_ok-push-in-Loop-clause-hands t c = λ after.
    let w : List ℕ = own_written c.args.s.now in
    let r : List ℕ = own_read c.args.s.now in
    let one : Names = handed c.put_own-in-Loop.new.self after in
    c.prepend-in-Loop.ensures.hands after
    ∙ c.in_ok-opening-in-Loop.ensures.hands one
    ∙ ap (before_all c.as_slice-in-Loop.result.now)
    (c.put_own-in-Loop.ensures.hands after
    ∙ ap (λ (f : Names). union (without f w) (is_in r))
    (c.read_first.ensures.hands after
    ∙ ap (λ (f : Names). union f (handed c.prepend.new.self nothing)) (c.in_ok-one-in-Loop.ensures.hands after)
    ∙ ap (λ (f : Names). union after f)
    (c.prepend.ensures.hands nothing
    ∙ c.in_ok-closing-in-Loop.ensures.hands (handed c.in_ok-again-in-Loop.again nothing)
    ∙ ap (before_all c.as_slice-in-Loop-2.result.now)
    (c.in_ok-again-in-Loop.ensures.hands nothing ∙ c.in_ok-opening-in-Loop.ensures.hands nothing))))
    ∙ (rw (c.in-Loop.is, c.as_slice-in-Loop.ensures, c.as_slice-in-Loop-2.ensures)
    (loop_before c.in-Loop.first c.in-Loop.field-1 c.in-Loop.last after))

pub summary_of-returns-in_ok-push-in-Loop-clause-turns : goal.summary_of-returns-in_ok-push-in-Loop-clause-turns
summary_of-returns-in_ok-push-in-Loop-clause-turns t c =
    let olds : List LoopTurn = map turn_of c.args.turns.now.items in
    let f : List LoopTurn = all_turns c.args.names c.as_slice-in-Loop.result.now in
    let l : List LoopTurn = all_turns c.args.names c.as_slice-in-Loop-2.result.now in
    let one : LoopTurn = turn_with c.args.names (before_all c.as_slice-in-Loop.result.now)
    (before_all c.as_slice-in-Loop-2.result.now) in
    pushed-turn _ _ _ c.args.names (before_all c.as_slice-in-Loop.result.now)
    (before_all c.as_slice-in-Loop-2.result.now) c.in_ok-push-in-Loop.ensures.items
    c.in_ok-opening-in-Loop.ensures.bound c.in_ok-opening-in-Loop.ensures.hands
    (c.prepend.ensures.hands nothing
    ∙ c.in_ok-closing-in-Loop.ensures.hands (handed c.in_ok-again-in-Loop.again nothing)
    ∙ ap (before_all c.as_slice-in-Loop-2.result.now)
    (c.in_ok-again-in-Loop.ensures.hands nothing ∙ c.in_ok-opening-in-Loop.ensures.hands nothing))
    ∙ ap (λ (ts : List LoopTurn). ts ++ one ∷ []) (c.in_ok-closing-in-Loop.ensures.turns
    ∙ ap (λ (ts : List LoopTurn). ts ++ l) c.in_ok-opening-in-Loop.ensures.turns)
    ∙ sym (three olds f l one)
    ∙ ap (λ (ts : List LoopTurn). olds ++ ts)
    (rw (c.in-Loop.is, c.as_slice-in-Loop.ensures, c.as_slice-in-Loop-2.ensures)
    (sym (turns-loop c.args.names c.in-Loop.first c.in-Loop.field-1 c.in-Loop.last)))

pub summary_of-returns-in_ok-one-in-Lit-clause-hands : goal.summary_of-returns-in_ok-one-in-Lit-clause-hands
summary_of-returns-in_ok-one-in-Lit-clause-hands t c = λ after.
    c.put_own-in-Lit.ensures.hands after
    ∙ ap (λ (f : Names). union (without f (own_written c.args.s.now)) (is_in (own_read c.args.s.now)))
    (c.in_ok-one-in-Lit.ensures.hands after)
    ∙ (plain c.args.s.now c.in-Lit.is).hands after

pub summary_of_all-summary_of-requires : goal.summary_of_all-summary_of-requires
summary_of_all-summary_of-requires t c = (
  search (rules, the_lemmas),
  below-item c.args.names c.args.body.now c.loop-s.s-index c.s-item.result
      c.loop-s-test.true c.s-item.is c.requires,
)

pub summary_of_all-loop-s-preserved : goal.summary_of_all-loop-s-preserved
summary_of_all-loop-s-preserved t c =
    let k : ℕ = c.loop-s.s-index in
    let body : List Stmt = c.args.body.now in
    let item : Stmt = c.s-item.result in
    let olds : List LoopTurn = map turn_of c.args.turns.now.items in
    let next : take (k + 1) body ≡ take k body ++ item ∷ [] = take_next body k item c.loop-s-test.true
    ∙ ap (λ (s : Stmt). take k body ++ s ∷ []) (sym c.s-item.is) in
    record {
      bound = c.prepend.ensures.bound ∙ c.in_ok-one.ensures.bound;
      hands = λ after.
          c.prepend.ensures.hands after
          ∙ c.loop-s.invariant.hands (handed c.in_ok-one.one after)
          ∙ ap (before_all (take k body)) (c.in_ok-one.ensures.hands after)
          ∙ sym (before_all-append (take k body) (item ∷ []) after)
          ∙ ap (λ (ss : List Stmt). before_all ss after) (sym next);
      turns =
          c.in_ok-one.ensures.turns
          ∙ ap (λ (ts : List LoopTurn). ts ++ turns_of c.args.names item) c.loop-s.invariant.turns
          ∙ append_assoc olds (all_turns c.args.names (take k body)) (turns_of c.args.names item)
          ∙ ap (λ (ts : List LoopTurn). olds ++ ts)
          (sym (turns-next c.args.names (take k body) item) ∙ ap (all_turns c.args.names) (sym next));
    }

pub summary_of_all-returns-clause-hands : goal.summary_of_all-returns-clause-hands
summary_of_all-returns-clause-hands t c = λ after.
    let whole : take c.loop-s.s-index c.args.body.now ≡ c.args.body.now = grind (arith, common_steps) in
    c.loop-s.invariant.hands after ∙ ap (λ (ss : List Stmt). before_all ss after) whole
