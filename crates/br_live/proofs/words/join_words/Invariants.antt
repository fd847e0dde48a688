-- The numbers of the words so far are joined, and the words from here on are as they were. Nothing has
-- changed, or some word so far has other bits.
use Rattle.std.proofs.Common.{◌≡◌, ◌==◌, ℕ, ◌/◌, ◌<◌, ◌≤◌, true, false, get_or}
use Rattle.std.specs.Int.{bit_at}
use Rattle.br_live.specs.Sets.{joined, members}
use Rattle.br_live.proofs.words.join_words.Given as goal

abbrev pub invariant-loop-k : goal.invariant-loop-k
invariant-loop-k l = record {
  done : (x : ℕ) → x / 32 < l.k → members l.words x ≡ joined l.how (members l.initial.words x) (members l.others x);
  rest : (j : ℕ) → l.k ≤ j → get_or l.words j 0 ≡ get_or l.initial.words j 0;
  same : l.changed ≡ false → l.words ≡ l.initial.words;
  changed : l.changed ≡ true → (j : ℕ) × (j < l.k)
      × (((i : ℕ) → i < 32 → (bit_at (get_or l.words j 0) i == 1) ≡ (bit_at (get_or l.initial.words j 0) i == 1)) → ⊥);
}
