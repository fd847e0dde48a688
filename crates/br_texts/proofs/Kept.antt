-- Events that keep to the trace language.
use Rattle.std.proofs.Common.{◌≡◌, ℕ, ◌+◌, List, Bool, true, false, ltb, take, refl, subst, arith}
use Rattle.std.proofs.lemmas.Bool.{ltb-true, ltb-false}
use Rattle.br_bytes.specs.declared.run.Event.{Event}
use Rattle.br_judge.specs.Good.{BeginsGood}
use Rattle.br_texts.specs.Verdict.{Keeps}

-- one more event keeps to the language
pub keeps_more : (es : List Event) (n : ℕ) → Keeps es n → BeginsGood (take (n + 1) es) → Keeps es (n + 1)
keeps_more es n kept next k below = go (ltb k n) refl
  where
    go : (b : Bool) → ltb k n ≡ b → BeginsGood (take (k + 1) es)
    go true e = kept k (ltb-true k n e)
    go false e =
        let high = ltb-false k n e in
        let same : n ≡ k = omega (arith, below, high) in
        subst (λ (m : ℕ). BeginsGood (take (m + 1) es)) same next
