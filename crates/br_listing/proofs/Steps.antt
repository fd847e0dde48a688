-- One word more of a listing.
use Rattle.std.proofs.Common.{ℕ, ◌≡◌, ◌+◌, ◌<◌, List, ◌++◌, length, get_or, drop, ap, append_assoc}
use Rattle.std.specs.List.{flat_map, enumerate_from}
use Rattle.std.proofs.lemmas.List.{drop_more}

-- what stands for the items from a place on begins with what stands for the first of them
pub from_place : (f : ℕ × ℕ → List ℕ) (xs : List ℕ) (i : ℕ)
    → i < length xs
    → flat_map f (enumerate_from i (drop i xs))
    ≡ f (i, get_or xs i 0) ++ flat_map f (enumerate_from (i + 1) (drop (i + 1) xs))
from_place f xs i h = ap (λ (ys : List ℕ). flat_map f (enumerate_from i ys)) (drop_more xs i 0 h)

-- two pieces that were to come are there
pub two_pieces : (all before one both a b rest more : List ℕ)
    → before ++ rest ≡ all
    → rest ≡ (a ++ b) ++ more
    → one ≡ before ++ a
    → both ≡ one ++ b
    → both ++ more ≡ all
two_pieces all before one both a b rest more h r p q =
    let e : (before ++ a) ++ b ≡ before ++ (a ++ b) = append_assoc before a b in
    let g : (before ++ (a ++ b)) ++ more ≡ before ++ ((a ++ b) ++ more) = append_assoc before (a ++ b) more in
    cc
