-- Flags for numbers, of which some are set.
use Rattle.std.specs.Prelude.{ℕ, Bool, true, List, [], ◌∷◌, slice_set}

-- flags, once those of some numbers are set
abbrev pub marked : List Bool → List ℕ → List Bool
marked seen [] = seen
marked seen (x ∷ xs) = marked (slice_set seen x true) xs
