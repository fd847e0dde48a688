-- Sets of numbers below a bound, and the words that hold them bit by bit.
use Rattle.std.specs.Prelude.{ℕ, ◌+◌, ◌/◌, ◌%◌, ◌≤◌, ◌≡◌, Bool, false, not}
use Rattle.std.specs.Prelude.{◌&&◌, ◌||◌, List, length, slice_index, ◌==◌}
use Rattle.std.specs.Int.{bit_at}
use Rattle.br_flatimp.specs.Values.{Names}
use Rattle.br_live.specs.declared.words.Join.{Join}
use Rattle.br_live.specs.declared.words.Join.TheVariants.{Union, Without, Common}

-- the numbers whose bit is 1: the bit x mod 32 of word x / 32
abbrev pub members : List ℕ → Names
members words x = bit_at (slice_index words (x / 32)) (x % 32) == 1

-- as many words as the bound divided by 32 and rounded up, with no bit from the bound on
pub record Holds (bound : ℕ) (words : List ℕ) : Type 0 where
  pub count : length words ≡ (bound + 31) / 32
  pub above : (x : ℕ) → bound ≤ x → members words x ≡ false

-- whether a number is in what two sets are joined to
abbrev pub joined : Join → Bool → Bool → Bool
joined Union a b = a || b
joined Without a b = a && not b
joined Common a b = a && b

-- the members of the first set that are not in the second
abbrev pub difference : Names → Names → Names
difference a b x = a x && not (b x)

-- the members of both
abbrev pub common : Names → Names → Names
common a b x = a x && b x
