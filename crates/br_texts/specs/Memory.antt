-- The bytes of memory that a script gives and asks for.
use Rattle.std.specs.Prelude.{ℕ, zero, suc, ◌+◌, ◌<◌, ◌≤◌, List, [], ◌∷◌, length}
use Rattle.std.specs.List.{AllByRecursion, flat_map}
use Rattle.std.specs.FinMap as map
use Rattle.br_bytes.specs.declared.run.Choice.{Choice}
use Rattle.br_bytes.specs.Memory.{Memory, with_bytes}
use Rattle.br_words.specs.Layout.{stack_base}
use Rattle.br_texts.specs.Lines.{bytes_line}

-- ranges that end in or before the data region, each at or after the end of the one
-- before it, and the first from an address on
abbrev pub AreRanges : ℕ → List Choice → Type 0
AreRanges from [] = Unit {0}
AreRanges from (c ∷ ranges) =
    (from ≤ c.addr) × (c.addr + length c.bytes ≤ stack_base) × AllByRecursion (λ b. b < 256) c.bytes
    × AreRanges (c.addr + length c.bytes) ranges

-- a memory with the bytes of ranges, in turn
abbrev pub with_ranges : Memory → List Choice → Memory
with_ranges m [] = m
with_ranges m (c ∷ ranges) = with_ranges (with_bytes m c.addr c.bytes) ranges

-- a memory with these ranges and nothing else
abbrev pub memory_of : List Choice → Memory
memory_of ranges = with_ranges map.empty ranges

-- what stands at n places from a place on
abbrev pub values : (ℕ → ℕ) → ℕ → ℕ → List ℕ
values at a zero = []
values at a (suc n) = at a ∷ values at (a + 1) n

-- a line for each range, with the bytes that now stand there
abbrev pub range_lines : (ℕ → ℕ) → List Choice → List ℕ
range_lines byte ranges =
    flat_map (λ c. bytes_line c.addr (values byte c.addr (length c.bytes))) ranges
