-- A shift left to the top of a word and back by a signed shift repeats the top bit of a field.
use Rattle.std.proofs.Common.{◌≡◌, ℕ, ◌+◌, ◌-◌, ◌*◌, ◌/◌, ◌%◌, ◌^◌, ◌<◌, ◌≤◌, suc}
use Rattle.std.proofs.Common.{arith, ap, ◌∙◌, sym, inl, inr, w32, ℤ, negsuc, to_z, of_z}
use Rattle.std.proofs.lemmas.Nat.{div-mul-add, pow-add, pow_pos, shl_whole}
use Rattle.std.proofs.lemmas.Bool.{cases_lt}
use Rattle.std.proofs.lemmas.Bool.Decides.{nat_tests}
use Rattle.std.proofs.lemmas.Int.{to_z_pos}
use Rattle.std.proofs.Math.Nat.{pow-succ', mul-div_cancel, mul-le-mul_left, mul-le-mul_right}
use Rattle.std.proofs.Math.Facts.{to_z-neg}
use Rattle.std.specs.Int.Signed.{shr_z}
use Rattle.std.specs.Prelude.{nat_lt, if◌then◌else◌}
use Rattle.br_words.specs.Bits.{sign_extended}

-- of a field with the top bit clear, x below h
kept : (x h m : ℕ) → 0 < m → h * m ≡ 2 ^ 31 → x < h → of_z w32 (shr_z (to_z w32 (x * m)) m) ≡ x
kept x h m pm e p =
    let next : (x + 1) * m ≤ h * m = (let p' : x + 1 ≤ h = omega arith in mul-le-mul_right m p') in
    let q : x * m < 2 ^ 31 = omega arith in
    ap (λ (z : ℤ). of_z w32 (shr_z z m)) (to_z_pos w32 (x * m) q) ∙ mul-div_cancel x pm

-- of a field with the top bit set, with d above it
repeated : (x d h m : ℕ) → 0 < m → h * m ≡ 2 ^ 31 → h ≤ x → x + d + 1 ≡ 2 * h
    → of_z w32 (shr_z (to_z w32 (x * m)) m) ≡ x + (2 ^ 32 - 2 * h)
repeated x d h m pm e p s =
    let products : (x + d + 1) * m ≡ 2 * h * m = ap (λ n. n * m) s in
    let above : h * m ≤ x * m = mul-le-mul_right m p in
    let small : h * 1 ≤ h * m = mul-le-mul_left h pm in
    let k : ℕ = d * m + (m - 1) in
    let low : k < 2 ^ 31 = omega arith in
    let top : x * m ≡ 2 ^ 32 - suc k = omega arith in
    let is : to_z w32 (x * m) ≡ negsuc k = ap (to_z w32) top ∙ to_z-neg w32 k low in
    let quotient : k / m ≡ d = div-mul-add d m (m - 1) (omega arith) in
    ap (λ (z : ℤ). of_z w32 (shr_z z m)) is ∙ ap (λ (n : ℕ). 2 ^ 32 - suc n) quotient ∙ omega arith

extended : (x h m : ℕ) → 0 < m → h * m ≡ 2 ^ 31 → x < 2 * h
    → of_z w32 (shr_z (to_z w32 (x * m)) m) ≡ (if nat_lt x h then x else x + (2 ^ 32 - 2 * h))
extended x h m pm e b =
    elim (cases_lt x h) [
      | inl p ↦ (let k = kept x h m pm e p in grind (arith, nat_tests))
      | inr p ↦ (let r = repeated x (2 * h - 1 - x) h m pm e p (omega arith) in grind (arith, nat_tests))
    ]

-- at a field of n bits
pub shifted_back : (n x : ℕ) → 1 ≤ n → n ≤ 32 → x < 2 ^ n
    → of_z w32 (shr_z (to_z w32 (x * 2 ^ (32 - n) % 2 ^ 32)) (2 ^ (32 - n))) ≡ sign_extended n x
shifted_back n x p q b =
    let k : ℕ = n - 1 in
    let one : 2 ^ n ≡ 2 * 2 ^ k = ap (λ (i : ℕ). 2 ^ i) (let i : n ≡ suc k = omega arith in i) ∙ pow-succ' 2 k in
    let half : 2 ^ k * 2 ^ (32 - n) ≡ 2 ^ 31 = sym (pow-add 2 k (32 - n))
    ∙ ap (λ (i : ℕ). 2 ^ i) (let i : k + (32 - n) ≡ 31 = omega arith in i) in
    let whole : x * 2 ^ (32 - n) % 2 ^ 32 ≡ x * 2 ^ (32 - n) = shl_whole x n (32 - n) 32 b (omega arith) in
    let below : x < 2 * 2 ^ k = omega arith in
    ap (λ (i : ℕ). of_z w32 (shr_z (to_z w32 i) (2 ^ (32 - n)))) whole
    ∙ extended x (2 ^ k) (2 ^ (32 - n)) (pow_pos (32 - n)) half below
    ∙ ap (λ (i : ℕ). if nat_lt x (2 ^ k) then x else x + (2 ^ 32 - i)) (sym one)
