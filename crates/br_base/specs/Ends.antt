-- What the ends of the program, where bytes come from and go to, tell of themselves.
use Rattle.std.specs.Prelude.{ℕ, ◌+◌, ◌-◌, ◌^◌, ◌≤◌, ◌≡◌, List, length, take, min, Option}
use Rattle.std.specs.Io.KnownBytes.{Appends, Consumes}

-- the greatest count of faults, from which it no longer rises
abbrev pub last_count : ℕ
last_count = 2 ^ 64 - 1

-- a count of faults rose, or stands at its last value
abbrev pub Rose : ℕ → ℕ → Type 0
Rose before now = min (before + 1) last_count ≤ now

-- the bytes held, where they are told, grew by the first so many of these
abbrev pub AppendsSome : Option (List ℕ) → Option (List ℕ) → List ℕ → Type 0
AppendsSome old new bytes = (n : ℕ) × (n ≤ length bytes) × Appends old new (take n bytes)

-- where the bytes left are told, this many were taken
abbrev pub ConsumesMany : Option (List ℕ) → Option (List ℕ) → ℕ → Type 0
ConsumesMany old new n = (bytes : List ℕ) × (length bytes ≡ n) × Consumes old new bytes

-- where the bytes left are told, at most this many were taken
abbrev pub ConsumesAtMost : Option (List ℕ) → Option (List ℕ) → ℕ → Type 0
ConsumesAtMost old new n = (bytes : List ℕ) × (length bytes ≤ n) × Consumes old new bytes
