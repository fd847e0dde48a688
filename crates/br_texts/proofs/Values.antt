-- What stands at places, one after another.
use Rattle.std.proofs.Common.{◌≡◌, ℕ, suc, ◌+◌, ◌-◌, ◌<◌, List, [], ◌∷◌, ◌++◌, ap, arith, append_assoc, ◌∙◌, sym}
use Rattle.br_texts.specs.Memory.{values}

-- the value at one more place joins those so far
pub values-step : (at : ℕ → ℕ) (a i n : ℕ) (xs all : List ℕ) → i < n →
    xs ++ values at (a + i) (n - i) ≡ all → (xs ++ at (a + i) ∷ []) ++ values at (a + (i + 1)) (n - (i + 1)) ≡ all
values-step at a i n xs all below so_far =
    let count : n - i ≡ suc (n - (i + 1)) = omega arith in
    let place : a + i + 1 ≡ a + (i + 1) = omega arith in
    let split : values at (a + i) (n - i) ≡ at (a + i) ∷ values at (a + (i + 1)) (n - (i + 1)) =
    ap (values at (a + i)) count ∙ ap (λ p. at (a + i) ∷ values at p (n - (i + 1))) place in
    append_assoc xs (at (a + i) ∷ []) (values at (a + (i + 1)) (n - (i + 1)))
    ∙ (ap (λ ys. xs ++ ys) (sym split) ∙ so_far)
