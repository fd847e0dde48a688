-- A name that is refused is live before the statement, and so is no name that was passed.
use Rattle.std.proofs.Common.{ℕ, ◌<◌, IsTrue, length, sym, refl, ◌∙◌, arith, below_more}
use Rattle.std.specs.Prelude.{slice_index}
use Rattle.br_flatimp.specs.Liveness.{before}
use Rattle.br_regalloc_check.specs.Walks.{IsApartBelow}
use Rattle.br_regalloc_check.proofs.checker.are_apart_before.Goals as goal
use Rattle.br_regalloc_check.proofs.checker.are_apart_before.Goals.{else-is_live_before-via-then-is_live_before+else-not-is_apart_before}
use Rattle.br_regalloc_check.proofs.checker.are_apart_before.Goals.{else-is_live_before-via-else-is_live_before}

pub returns-then-not-is_apart_before : goal.returns-then-not-is_apart_before
returns-then-not-is_apart_before c = λ names after h.
    let alive : IsTrue (before c.args.s.now after c.loop-x.x) = sym (c.is_live_before.ensures names after h)
    ∙ c.if-is_live_before.true in
    let inside : c.loop-x.x < length c.args.to.now = omega arith in (
      λ no. absurd (cc no),
      λ apart. absurd (let sure = (c.is_apart_before.ensures names after h).1 (apart c.loop-x.x inside alive) in
          let not_so = c.if-not-is_apart_before.true in cc (sure, not_so)),
    )

pub loop-x-preserved : goal.loop-x-preserved
loop-x-preserved c = λ names after h.
    let P : ℕ → Type 0 = λ k. IsTrue (before c.args.s.now after k)
    → IsApartBelow (length c.args.to.now) (slice_index c.args.to.now) k (before c.args.s.now after) in
    below_more P c.loop-x.x (c.loop-x.invariant names after h)
    (λ alive. elim c.else-is_live_before.branch [
      | else-is_live_before-via-then-is_live_before+else-not-is_apart_before w ↦
          (w.is_apart_before.ensures names after h).0 w.if-not-is_apart_before.false
      | else-is_live_before-via-else-is_live_before w ↦ absurd
          (let e = c.is_live_before.ensures names after h in let n = w.if-is_live_before.false in cc (alive, e, n))
    ])

pub returns : goal.returns
returns c = λ names after h.
    (λ sure x less alive. c.loop-x.invariant names after h x (omega (arith, c.loop-x-test.false)) alive, λ apart. refl)
