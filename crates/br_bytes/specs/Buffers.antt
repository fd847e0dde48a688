-- Ranges of a memory, tables of bytes, and the choices that buffers are made of.
use Rattle.std.specs.Prelude.{ℕ, ◌+◌, ◌%◌, ◌^◌, ◌<◌, Bool, true, not, ◌&&◌, List, [], ◌∷◌, length}
use Rattle.std.specs.Prelude.{take, drop, nat_lt, nat_le, ◌==◌, Option, Some, None, if◌then◌else◌}
use Rattle.std.specs.List.{AllByRecursion}
use Rattle.std.specs.FinMap as map
use Rattle.br_bytes.specs.declared.run.Choice.{Choice}
use Rattle.br_bytes.specs.Memory.{Memory}
use Rattle.br_bytes.specs.Number.{number_of}
use Rattle.br_words.specs.Layout.{stack_base, stack_end}

-- words are numbers below 2 ^ 32
abbrev pub AreWords : List ℕ → Type 0
AreWords = AllByRecursion (λ v. v < 2 ^ 32)

-- bytes are numbers below 256
abbrev pub AreBytes : List ℕ → Type 0
AreBytes = AllByRecursion (λ b. b < 256)

-- each choice is at an address that is a word, and holds bytes
abbrev pub AreChoices : List Choice → Type 0
AreChoices = AllByRecursion (λ c. (c.addr < 2 ^ 32) × AreBytes c.bytes)

-- the n bytes at offset i of a table, or None where one of them lies past its end
abbrev pub table_number : List ℕ → ℕ → ℕ → Option ℕ
table_number bytes i n =
    if nat_le (i + n) (length bytes) then Some (number_of (take n (drop i bytes))) else None

-- no address from `a` on, as many as the bytes, is in the memory
abbrev pub are_free : Memory → ℕ → List ℕ → Bool
are_free m a [] = true
are_free m a (b ∷ bs) = not (map.contains_key m a) && are_free m (a + 1) bs

-- A choice that a buffer of n bytes can take: an address that is a multiple of 4, n bytes, in the
-- stack region, and apart from the memory. An empty buffer may stand at the region's upper end.
abbrev pub is_good : ℕ → Memory → Choice → Bool
is_good n m c =
    (c.addr % 4 == 0) && (length c.bytes == n)
    && nat_le stack_base c.addr && nat_le (c.addr + n) stack_end
    && are_free m c.addr c.bytes

-- the memory without the n addresses from `a` on
abbrev pub without_range : Memory → ℕ → ℕ → Memory
without_range m a n = map.retain_keys m (λ q. not (nat_le a q && nat_lt q (a + n)))
