-- By cases on the top bit.
use Rattle.std.proofs.Common.{◌≡◌, ℕ, ◌-◌, ◌*◌, ◌^◌, ◌<◌, ◌≤◌, suc, arith, ap, ◌∙◌, lit≤}
use Rattle.std.proofs.lemmas.Bool.Decides.{nat_tests}
use Rattle.std.proofs.Math.Nat.{pow-succ', pow-le-pow_right}
use Rattle.br_words.specs.Bits.{low_bits, sign_extended, signed_bits}
use Rattle.br_words.specs.Words.{signed}
use Rattle.br_words.proofs.laws.sign_extension_keeps_numbers.Goals as goal

-- the half of 2 ^ n
halves : (n : ℕ) → 1 ≤ n → 2 ^ n ≡ 2 * 2 ^ (n - 1)
halves n p = ap (λ (i : ℕ). 2 ^ i) (let i : n ≡ suc (n - 1) = omega arith in i) ∙ pow-succ' 2 (n - 1)

same : (n x : ℕ) → 1 ≤ n → n ≤ 32 → x < 2 ^ n → signed (sign_extended n x) ≡ signed_bits n x
same n x p q b =
    let h = halves n p in
    let m : 2 ^ n ≤ 2 ^ 32 = pow-le-pow_right {n = 2} (lit≤ tt) q in
    grind (arith, nat_tests)

pub returns-clause-same : goal.returns-clause-same
returns-clause-same c = same

word : (n x : ℕ) → 1 ≤ n → n ≤ 32 → x < 2 ^ n → sign_extended n x < 2 ^ 32
word n x p q b =
    let m : 2 ^ n ≤ 2 ^ 32 = pow-le-pow_right {n = 2} (lit≤ tt) q in
    grind (arith, nat_tests)

pub returns-clause-word : goal.returns-clause-word
returns-clause-word c = word

low : (n x : ℕ) → 1 ≤ n → x < 2 ^ n → low_bits n (signed_bits n x) ≡ x
low n x p b =
    let h = halves n p in
    grind (arith, nat_tests)

pub returns-clause-low : goal.returns-clause-low
returns-clause-low c = low
