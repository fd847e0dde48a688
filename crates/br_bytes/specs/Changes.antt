-- What changes of a memory make of its ranges.
use Rattle.std.specs.Prelude.{ℕ, ◌+◌, ◌-◌, ◌≤◌, List, [], ◌∷◌, ◌++◌, take, drop}
use Rattle.std.specs.Prelude.{if◌then◌else◌, nat_le, nat_lt, ◌==◌, slice_set}
use Rattle.br_bytes.specs.Range.{Range, end_of}

-- the lowest address at which a range may stand after these
abbrev pub after : ℕ → List Range → ℕ
after low [] = low
after low (r ∷ rs) = after (end_of r + 1) rs

-- the first of the ranges, if there is one, ends at `at` or above
abbrev pub EndsFrom : ℕ → List Range → Type 0
EndsFrom at [] = Unit {0}
EndsFrom at (r ∷ rs) = at ≤ end_of r

-- a range with bytes after its own
abbrev pub lengthened : Range → List ℕ → Range
lengthened r bs = record { start = r.start; bytes = r.bytes ++ bs }

-- two ranges that touch as one
abbrev pub joined : Range → Range → Range
joined r s = lengthened r s.bytes

-- a range before others, as one with the first of them where they touch
abbrev pub before : Range → List Range → List Range
before x [] = x ∷ []
before x (r ∷ rs) = if end_of x == r.start then joined x r ∷ rs else x ∷ r ∷ rs

-- a range more, at free addresses
abbrev pub added : Range → List Range → List Range
added x [] = x ∷ []
added x (r ∷ rs) =
    if nat_lt (end_of r) x.start then r ∷ added x rs
    else (if end_of r == x.start then before (joined r x) rs else before x (r ∷ rs))

-- the range below an address, and from an address on
abbrev pub range_to : ℕ → Range → Range
range_to a r = record { start = r.start; bytes = take (a - r.start) r.bytes }

abbrev pub range_from : ℕ → Range → Range
range_from a r = record { start = a; bytes = drop (a - r.start) r.bytes }

-- the ranges below an address, and from an address on
abbrev pub ranges_to : ℕ → List Range → List Range
ranges_to a [] = []
ranges_to a (r ∷ rs) =
    if nat_le (end_of r) a then r ∷ ranges_to a rs
    else (if nat_lt r.start a then range_to a r ∷ [] else [])

abbrev pub ranges_from : ℕ → List Range → List Range
ranges_from a [] = []
ranges_from a (r ∷ rs) =
    if nat_le (end_of r) a then ranges_from a rs
    else (if nat_lt r.start a then range_from a r ∷ rs else r ∷ rs)

-- a range with another byte at an address
abbrev pub set_in : Range → ℕ → ℕ → Range
set_in r a b = record { start = r.start; bytes = slice_set r.bytes (a - r.start) b }

-- ranges with another byte at an address
abbrev pub with_byte : ℕ → ℕ → List Range → List Range
with_byte a b [] = []
with_byte a b (r ∷ rs) =
    if nat_le (end_of r) a then r ∷ with_byte a b rs
    else set_in r a b ∷ rs
