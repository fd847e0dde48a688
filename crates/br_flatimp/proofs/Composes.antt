-- Refining composes.
use Rattle.std.proofs.Common.{◌≡◌, ◌≢◌, ℕ, List, inl, inr, refl, sym, ap, ◌∙◌, slice_get}
use Rattle.br_bytes.specs.declared.run.Outcome.TheVariants as outcome
use Rattle.br_bytes.specs.Memory.{Memory}
use Rattle.br_bytes.specs.Called.{Called}
use Rattle.br_flatimp.specs.Refines.{Meaning, Shows, IsSameData, IsCall, Refines}

same_data-trans : (m n o : Memory) → IsSameData m n → IsSameData n o → IsSameData m o
same_data-trans m n o h k a low high = h a low high ∙ k a low high

pub shows_refl : (c : Called) → Shows c c
shows_refl c = inr (refl, refl, (λ a low high. refl))

pub shows_trans : (c d e : Called) → Shows c d → Shows d e → Shows c e
shows_trans c d e h (inl undefined) = inl undefined
shows_trans c d e (inl undefined) (inr k) = inl (sym k.0 ∙ undefined)
shows_trans c d e (inr h) (inr k) = inr (h.0 ∙ k.0, h.1 ∙ k.1, same_data-trans c.memory d.memory e.memory h.2 k.2)

-- a call that another shows has its choices where that has them
enough : (c d : Called) → Shows c d → c.outcome ≢ outcome.NoChoice → d.outcome ≢ outcome.NoChoice
enough c d (inl undefined) has none = cc (undefined, none)
enough c d (inr h) has none = has (h.0 ∙ none)

call_of : (q p : Meaning) (g : ℕ) (args : List ℕ) (m : Memory) (answers : List ℕ) → q.signatures ≡ p.signatures
    → IsCall p g args m answers → IsCall q g args m answers
call_of q p g args m answers same c = record {
  signature = c.signature;
  there = ap (λ s. slice_get s g) same ∙ c.there;
  count = c.count;
  words = c.words;
  in_data = c.in_data;
  answer_words = c.answer_words;
}

pub refines-itself : (p : Meaning) → Refines p p
refines-itself p = record {
  same = refl;
  calls = λ g args m answers choices fuel is good has.
      (choices, good, shows_refl (p.call g args m answers choices fuel));
}

pub refines-trans : (r q p : Meaning) → Refines r q → Refines q p → Refines r p
refines-trans r q p a b = record {
  same = a.same ∙ b.same;
  calls = λ g args m answers choices fuel is good has.
      let first = a.calls g args m answers choices fuel (call_of q p g args m answers b.same is) good has in
      let second = b.calls g args m answers first.0 fuel is first.1
      (enough (r.call g args m answers choices fuel) (q.call g args m answers first.0 fuel) first.2 has) in (
        second.0,
        second.1,
        shows_trans (r.call g args m answers choices fuel) (q.call g args m answers first.0 fuel)
            (p.call g args m answers second.0 fuel) first.2 second.2,
      );
}
