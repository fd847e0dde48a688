-- RAM as a call begins, where one word tells the leftover bytes and no memory is handed in.
use Rattle.std.proofs.Common.{◌≡◌, ℕ, zero, suc, ◌+◌, ◌-◌, ◌*◌, ◌^◌, ◌<◌, ◌≤◌, List, []}
use Rattle.std.proofs.Common.{◌∷◌, length, replicate, refl, sym, subst, ap, ◌∙◌, arith}
use Rattle.std.specs.Prelude.{◌/◌, ◌%◌, Some, slice_get, slice_index, slice_set}
use Rattle.br_bytes.specs.Number.{low_bytes}
use Rattle.br_words.specs.Layout.{data_base, stack_end}
use Rattle.br_machine.specs.Start.{IsLeftover, code_bytes, with_words}
use Rattle.br_machine.specs.Junk.{junk_of}
use Rattle.std.proofs.lemmas.List.{length-replicate}
use Rattle.std.proofs.Math.ListN.{length-set}
use Rattle.std.specs.List.{AllByRecursion}
use Rattle.br_bytes.proofs.Words.{length-word_bytes, AreBytes-word_bytes, word_bytes-at}
use Rattle.br_machine.proofs.Words.{all_below-set}

pub bytes-junk_of : (word : ℕ) → (junk_of word).bytes ≡ code_bytes (replicate ((stack_end - data_base) / 4) word)
unfolding junk_of
bytes-junk_of word = refl

-- ---- the machine

pub all_below-at : (n : ℕ) (xs : List ℕ) → ((i : ℕ) → slice_index xs i < n) → AllByRecursion (λ x. x < n) xs
all_below-at n [] at = tt
all_below-at n (x ∷ xs) at = (at 0, all_below-at n xs (λ i. at (suc i)))

pub all_below-replicate : (n k x : ℕ) → x < n → AllByRecursion (λ x. x < n) (replicate k x)
all_below-replicate n zero x p = tt
all_below-replicate n (suc k) x p = (p, all_below-replicate n k x p)

pub all_below-with_words : (n : ℕ) (args registers : List ℕ) (r : ℕ) → AllByRecursion (λ x. x < n) args
    → AllByRecursion (λ x. x < n) registers → AllByRecursion (λ x. x < n) (with_words r args registers)
all_below-with_words n [] registers r small all = all
all_below-with_words n (v ∷ args) registers r small all =
    all_below-with_words n args (slice_set registers r v) (r + 1) small.1 (all_below-set n registers r v all small.0)

pub length-with_words : (args registers : List ℕ) (r : ℕ) → length (with_words r args registers) ≡ length registers
length-with_words [] registers r = refl
length-with_words (v ∷ args) registers r =
    length-with_words args (slice_set registers r v) (r + 1) ∙ length-set registers r v

pub registers-junk_of : (word : ℕ) → (junk_of word).registers ≡ replicate 32 word
unfolding junk_of
registers-junk_of word = refl

-- ---- the contents that a word tells

slice_get-replicate : (n j word : ℕ) → j < n → slice_get (replicate n word) j ≡ Some word
slice_get-replicate zero j word h = absurd (omega arith)
slice_get-replicate (suc n) zero word h = refl
slice_get-replicate (suc n) (suc j) word h = slice_get-replicate n j word (omega arith)

pub byte-junk_of : (word a : ℕ) → data_base ≤ a → a < stack_end
    → slice_index (junk_of word).bytes (a - data_base) ≡ slice_index (low_bytes 4 word) (a % 4)
byte-junk_of word a from to =
    let j : ℕ = (a - data_base) / 4 in
    let place : a - data_base ≡ 4 * j + a % 4 = omega arith in
    ap (λ xs. slice_index xs (a - data_base)) (bytes-junk_of word)
    ∙ ap (slice_index (code_bytes (replicate ((stack_end - data_base) / 4) word))) place
    ∙ word_bytes-at (replicate ((stack_end - data_base) / 4) word) j word (a % 4)
    (slice_get-replicate 524288 j word (omega arith)) (omega arith)

pub IsLeftover-junk_of : (word : ℕ) → word < 2 ^ 32 → IsLeftover (junk_of word)
IsLeftover-junk_of word fits = record {
  registers = ap length (registers-junk_of word) ∙ length-replicate 32 word;
  words = subst (AllByRecursion (λ x. x < 2 ^ 32)) (sym (registers-junk_of word))
      (all_below-replicate (2 ^ 32) 32 word fits);
  bytes = ap length (bytes-junk_of word) ∙ length-word_bytes (replicate ((stack_end - data_base) / 4) word)
      ∙ ap (λ n. 4 * n) (length-replicate 524288 word);
  small = subst (AllByRecursion (λ b. b < 256)) (sym (bytes-junk_of word))
      (AreBytes-word_bytes (replicate ((stack_end - data_base) / 4) word));
}
