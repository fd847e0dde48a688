-- Which bytes of a range a memory has.
use Rattle.std.specs.Prelude.{◌≡◌, ℕ, ◌+◌, ◌<◌, ◌≤◌, Bool, is_some, IsTrue, None}
use Rattle.std.specs.FinMap as map
use Rattle.br_bytes.specs.Memory.{Memory, bytes_at}

-- each of the n addresses from `a` on has a byte
abbrev pub is_whole : Memory → ℕ → ℕ → Bool
is_whole m a n = is_some (bytes_at m a n)

-- the first of the n addresses from `a` on that has a byte
abbrev pub IsFirstTaken : Memory → ℕ → ℕ → ℕ → Type 0
IsFirstTaken m a n at =
    (a ≤ at) × (at < a + n) × IsTrue (map.contains_key m at)
    × ((q : ℕ) → a ≤ q → q < at → map.get m q ≡ None)
