-- A name that is refused is live before the statement, and so is no name that was passed.
use Rattle.std.proofs.Common.{◌≡◌, ℕ, ◌<◌, IsTrue, length, sym, refl, ◌∙◌, arith, below_more}
use Rattle.std.specs.Prelude.{slice_index}
use Rattle.br_flatimp.specs.Liveness.{before}
use Rattle.br_regalloc_check.proofs.before.is_apart_before.Goals as goal
use Rattle.br_regalloc_check.proofs.before.is_apart_before.Goals.{else-to-z-via-then-to-z+then-z-x+else-is_live_before}
use Rattle.br_regalloc_check.proofs.before.is_apart_before.Goals.{else-to-z-via-then-to-z+else-z-x}
use Rattle.br_regalloc_check.proofs.before.is_apart_before.Goals.{else-to-z-via-else-to-z}

pub returns-then-is_live_before : goal.returns-then-is_live_before
returns-then-is_live_before c = λ names after h.
    let alive : IsTrue (before c.args.s.now after c.loop-z.z) = sym (c.is_live_before.ensures names after h)
    ∙ c.if-is_live_before.true in
    let inside : c.loop-z.z < length c.args.to.now = omega arith in
    (λ no. absurd (cc no), λ apart. absurd (c.if-z-x.true (apart c.loop-z.z inside alive c.if-to-z.true)))

pub loop-z-preserved : goal.loop-z-preserved
loop-z-preserved c = λ names after h.
    let to : ℕ → ℕ = slice_index c.args.to.now in
    let P : ℕ → Type 0 = λ k. IsTrue (before c.args.s.now after k) → to k ≡ to c.args.x → k ≡ c.args.x in
    below_more P c.loop-z.z (c.loop-z.invariant names after h)
    (λ alive same. elim c.else-to-z.branch [
      | else-to-z-via-then-to-z+then-z-x+else-is_live_before w ↦ absurd
          (let e = w.is_live_before.ensures names after h in let n = w.if-is_live_before.false in cc (alive, e, n))
      | else-to-z-via-then-to-z+else-z-x w ↦ w.if-z-x.false
      | else-to-z-via-else-to-z w ↦ absurd (w.if-to-z.false same)
    ])

pub returns : goal.returns
returns c = λ names after h. (
  λ sure z less alive same. c.loop-z.invariant names after h z (omega (arith, c.loop-z-test.false)) alive same,
  λ apart. refl,
)
