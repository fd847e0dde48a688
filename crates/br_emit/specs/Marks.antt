-- Flags, one for each number below their count.
use Rattle.std.specs.Prelude.{ℕ, Bool, true, List, [], ◌∷◌, slice_set}

-- the flags of numbers are set
abbrev pub marked : List Bool → List ℕ → List Bool
marked flags [] = flags
marked flags (x ∷ xs) = marked (slice_set flags x true) xs
