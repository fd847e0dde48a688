-- The number of a name is at most the count of names.
use Rattle.std.proofs.Common.{ℕ, suc, ◌≤◌, Bool, true, false, if◌then◌else◌, List, [], ◌∷◌, length, arith}
use Rattle.std.specs.Str.{bytes_eq}
use Rattle.br_numbering.specs.Names.{number}
use Rattle.br_source_meaning.specs.Values.{Name}

pub number-most : (names : List Name) (x : Name) → number names x ≤ length names
number-most [] x = omega arith
number-most (y ∷ ys) x = by (bytes_eq y x) (number-most ys x)
  where
    by : (b : Bool) → number ys x ≤ length ys → (if b then 0 else suc (number ys x)) ≤ suc (length ys)
    by true le = omega arith
    by false le = omega (arith, le)

pub ruleset numbers = (number-most)
