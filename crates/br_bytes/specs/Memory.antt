-- A memory: a finite map from addresses, which are words, to bytes. The i-th byte of an access
-- at `a` stands at `a + i` modulo 2 ^ 32, and its bytes are the number's, the lowest first
-- (RISC-V unprivileged manual, chapter 2.6).
use Rattle.std.specs.Prelude.{ℕ, suc, zero, ◌+◌, ◌%◌, ◌^◌, ◌<◌, ◌≤◌}
use Rattle.std.specs.Prelude.{List, [], ◌∷◌, Option, Some, None, IfSome}
use Rattle.std.specs.Ordering.{nat_cmp}
use Rattle.std.specs.FinMap.{FinMap}
use Rattle.std.specs.FinMap as map
use Rattle.std.specs.Option.{option_map}
use Rattle.br_words.specs.Layout.{data_base, stack_base}
use Rattle.br_bytes.specs.Number.{number_of, low_bytes}

abbrev pub Memory : Type 0
Memory = FinMap nat_cmp ℕ

-- each address is a word, and each byte is below 256
abbrev pub IsMemory : Memory → Type 0
IsMemory m = (a : ℕ) → IfSome (map.get m a) (λ b. (a < 2 ^ 32) × (b < 256))

-- each address is in the data region, and each byte is below 256
abbrev pub IsInData : Memory → Type 0
IsInData m = (a : ℕ) → IfSome (map.get m a) (λ b. (data_base ≤ a) × (a < stack_base) × (b < 256))

-- an address as it counts: modulo 2 ^ 32
abbrev pub place : ℕ → ℕ
place a = a % 2 ^ 32

-- a byte in front of bytes, where all are there
abbrev pub in_front : Option ℕ → Option (List ℕ) → Option (List ℕ)
in_front (Some b) (Some bs) = Some (b ∷ bs)
in_front (Some b) None = None
in_front None bs = None

-- the n bytes from `a` on, or None where one is missing
abbrev pub bytes_at : Memory → ℕ → ℕ → Option (List ℕ)
bytes_at m a zero = Some []
bytes_at m a (suc n) = in_front (map.get m (place a)) (bytes_at m (a + 1) n)

-- the number in the n bytes from `a` on, or None where one is missing
abbrev pub get_number : Memory → ℕ → ℕ → Option ℕ
get_number m a n = option_map number_of (bytes_at m a n)

-- the memory with these bytes from `a` on
abbrev pub with_bytes : Memory → ℕ → List ℕ → Memory
with_bytes m a [] = m
with_bytes m a (b ∷ bs) = map.insert (with_bytes m (a + 1) bs) (place a) b

-- the memory with the n low bytes of `v` from `a` on, or None where one of the bytes was missing
abbrev pub put_number : Memory → ℕ → ℕ → ℕ → Option Memory
put_number m a n v = option_map (λ _. with_bytes m a (low_bytes n v)) (bytes_at m a n)
