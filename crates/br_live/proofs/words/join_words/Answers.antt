use Rattle.std.proofs.Common.{◌≡◌, ◌≢◌, ◌==◌, ℕ, ◌<◌, List, get_or, sym, ap, ◌∙◌}
use Rattle.std.proofs.Common.{arith, get_or-set_same, get_or-set_other, length}
use Rattle.std.specs.Int.{bit_at}
use Rattle.br_live.proofs.Bits.{joined-more, same-bits}
use Rattle.br_live.proofs.words.join_words.Goals as goal
use Rattle.br_live.proofs.words.join_words.Goals.{then-differs, else-differs}

pub loop-k-preserved : goal.loop-k-preserved
loop-k-preserved c =
    let k : ℕ = c.loop-k.k in
    let before : List ℕ = c.loop-k.words in
    let after : List ℕ = c.if-differs.words in
    let word : ℕ = c.joined_word-word.result in
    let inside : k < length c.loop-k.words = omega arith in
    let rest : get_or before k 0 ≡ get_or c.args.words.now k 0 = c.loop-k.invariant.rest k (omega arith) in
    elim c.if-differs.branch [
      | then-differs w ↦
          let here : get_or after k 0 ≡ word = ap (λ (s : List ℕ). get_or s k 0) w.words-is
          ∙ get_or-set_same before k word 0 inside in
          let other : (j : ℕ) → j ≢ k → get_or after j 0 ≡ get_or before j 0 =
          λ j ne. ap (λ (s : List ℕ). get_or s j 0) w.words-is ∙ get_or-set_other before k j word 0 ne in
          record {
            done = joined-more c.args.how before c.args.words.now c.args.others.now after k word here other
                c.loop-k.invariant.done rest c.joined_word-word.ensures;
            rest = λ j h. other j (omega (arith, h)) ∙ c.loop-k.invariant.rest j (omega (arith, h));
            same = λ e. absurd (cc (w.changed-is, e));
            changed = λ e. (
              k,
              omega arith,
              λ bits. c.differ-differs.ensures.bits w.if-differs.true
                  (λ i h. ap (λ n. bit_at n i == 1) (sym here) ∙ bits i h ∙ ap (λ n. bit_at n i == 1) (sym rest)),
            );
          }
      | else-differs w ↦
          let here : get_or after k 0 ≡ word = ap (λ (s : List ℕ). get_or s k 0) w.words-is
          ∙ sym (c.differ-differs.ensures.same w.if-differs.false) in
          let other : (j : ℕ) → j ≢ k → get_or after j 0 ≡ get_or before j 0 =
          λ j ne. ap (λ (s : List ℕ). get_or s j 0) w.words-is in
          record {
            done = joined-more c.args.how before c.args.words.now c.args.others.now after k word here other
                c.loop-k.invariant.done rest c.joined_word-word.ensures;
            rest = λ j h. other j (omega (arith, h)) ∙ c.loop-k.invariant.rest j (omega (arith, h));
            same = λ e. w.words-is ∙ c.loop-k.invariant.same (sym w.changed-is ∙ e);
            changed = λ e.
                let old = c.loop-k.invariant.changed (sym w.changed-is ∙ e) in (
                  old.0,
                  omega (arith, old.1),
                  λ bits.
                      old.2 (λ i h. ap (λ (s : List ℕ). bit_at (get_or s old.0 0) i == 1) (sym w.words-is) ∙ bits i h),
                );
          }
    ]

pub returns-clause-changed : goal.returns-clause-changed
returns-clause-changed c = λ is same.
    let old = c.loop-k.invariant.changed is in
    old.2 (same-bits c.loop-k.words c.args.words.now old.0 same)
