-- Registers in order, one more at a time.
use Rattle.std.proofs.Common.{◌≡◌, ℕ, suc, ◌+◌, ◌-◌, ◌<◌, List, [], ◌∷◌, ◌++◌, sym, ap, ◌∙◌, append_assoc, arith}
use Rattle.br_spill.specs.Spill.{in_order}

next : (i count : ℕ) → i < count → in_order (10 + i) (count - i) ≡ (10 + i) ∷ in_order (10 + (i + 1)) (count - (i + 1))
next i count less =
    let size : count - i ≡ suc (count - (i + 1)) = omega (arith, less) in
    let after : suc (10 + i) ≡ 10 + (i + 1) = omega arith in
    ap (in_order (10 + i)) size ∙ ap (λ a. (10 + i) ∷ in_order a (count - (i + 1))) after

pub one-more : (xs ys : List ℕ) (i count : ℕ)
    → i < count → ys ≡ xs ++ (10 + i) ∷ [] → xs ++ in_order (10 + i) (count - i) ≡ in_order 10 count
    → ys ++ in_order (10 + (i + 1)) (count - (i + 1)) ≡ in_order 10 count
one-more xs ys i count less is h =
    ap (λ zs. zs ++ in_order (10 + (i + 1)) (count - (i + 1))) is
    ∙ append_assoc xs ((10 + i) ∷ []) (in_order (10 + (i + 1)) (count - (i + 1)))
    ∙ ap (λ zs. xs ++ zs) (sym (next i count less)) ∙ h
