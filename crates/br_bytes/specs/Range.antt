-- Ranges: bytes at consecutive addresses, and the ranges that a memory consists of.
use Rattle.std.specs.Prelude.{ℕ, ◌+◌, ◌-◌, ◌^◌, ◌<◌, ◌≤◌, List, [], ◌∷◌, length, Option, Some}
use Rattle.std.specs.Prelude.{None, if◌then◌else◌, nat_le, ◌==◌, slice_get, slice_index_or}
use Rattle.std.specs.FinMap as map
use Rattle.br_bytes.specs.Memory.{Memory}

-- a range: its first address, and the bytes from there on
pub record Range : Type 0 where
  pub start : ℕ
  pub bytes : List ℕ

-- the address after its last byte
abbrev pub end_of : Range → ℕ
end_of r = r.start + length r.bytes

-- a byte below ranges: it joins the first of them where it stands just below that one
abbrev pub join : ℕ → ℕ → List Range → List Range
join a b [] = record { start = a; bytes = b ∷ [] } ∷ []
join a b (r ∷ rs) =
    if r.start == a + 1 then record { start = a; bytes = b ∷ r.bytes } ∷ rs
    else record { start = a; bytes = b ∷ [] } ∷ r ∷ rs

-- the maximal runs of consecutive addresses among entries with rising addresses
abbrev pub runs_of : List (ℕ × ℕ) → List Range
runs_of [] = []
runs_of (e ∷ es) = join e.0 e.1 (runs_of es)

-- the maximal runs of consecutive addresses of a memory, by rising address
abbrev pub ranges : Memory → List Range
ranges m = runs_of (map.entries m)

-- the i-th of them, counted from 0
abbrev pub range_at : Memory → ℕ → Range
range_at m i = slice_index_or (ranges m) i (record { start = 0; bytes = [] })

-- the first of two that is there
abbrev pub or_else : Option ℕ → Option ℕ → Option ℕ
or_else (Some b) o = Some b
or_else None o = o

-- what a range has at an address
abbrev pub byte_in : Range → ℕ → Option ℕ
byte_in r q = if nat_le r.start q then slice_get r.bytes (q - r.start) else None

-- what ranges have at an address
abbrev pub byte_of : List Range → ℕ → Option ℕ
byte_of [] q = None
byte_of (r ∷ rs) q = or_else (byte_in r q) (byte_of rs q)

-- ranges by rising address from `low` on: none is empty, none goes past 2 ^ 32, no two touch
abbrev pub AreApart : ℕ → List Range → Type 0
AreApart low [] = Unit {0}
AreApart low (r ∷ rs) =
    (low ≤ r.start) × (0 < length r.bytes) × (end_of r ≤ 2 ^ 32) × AreApart (end_of r + 1) rs

-- bytes from an address on, before other entries
abbrev pub entries_at : ℕ → List ℕ → List (ℕ × ℕ) → List (ℕ × ℕ)
entries_at a [] es = es
entries_at a (b ∷ bs) es = (a, b) ∷ entries_at (a + 1) bs es

-- the addresses of ranges, with their bytes
abbrev pub entries_of : List Range → List (ℕ × ℕ)
entries_of [] = []
entries_of (r ∷ rs) = entries_at r.start r.bytes (entries_of rs)

-- the memory that ranges make
abbrev pub memory_of : List Range → Memory
memory_of rs = map.from_entries (entries_of rs)
