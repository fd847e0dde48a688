-- Items of a list that pass a test at each place pass it together.
use Rattle.std.proofs.Common.{◌≡◌, ℕ, suc, ◌<◌, ◌^◌, ◌&&◌, nat_lt, Bool, true, List, [], ◌∷◌, refl, arith, get_or}
use Rattle.std.specs.List.{list_all}
use Rattle.std.proofs.lemmas.Bool.Decides.{nat_tests}

pub bytes-fit : (bs : List ℕ) → ((i : ℕ) → get_or bs i 0 < 2 ^ 8) → list_all (λ b. nat_lt b 256) bs ≡ true
bytes-fit [] h = refl
bytes-fit (b ∷ bs) h =
    both (nat_lt b 256) (list_all (λ b. nat_lt b 256) bs) (small b (h 0)) (bytes-fit bs (λ i. h (suc i)))
  where
    small : (b : ℕ) → b < 2 ^ 8 → nat_lt b 256 ≡ true
    small b l = grind (arith, nat_tests)

    both : (a b : Bool) → a ≡ true → b ≡ true → (a && b) ≡ true
    both a b e f = rw (e, f) refl
