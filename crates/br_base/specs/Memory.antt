-- What contracts see of the ends in memory.
use Rattle.std.specs.Prelude.{ℕ, ◌+◌, ◌≤◌, ◌<◌, List, length, min, Contains, ◌⊎◌}
use Rattle.br_base.specs.Ends.{last_count}

-- a source in memory
pub record Supply : Type 0 where
  -- the bytes that are left
  pub left : List ℕ
  -- how many bytes one read moves at most
  pub most : ℕ
  -- the numbers of the reads that fail
  pub failing : List ℕ
  -- the number of the next read
  pub calls : ℕ
  -- the reads that failed so far
  pub faults : ℕ

-- a sink in memory
pub record Store : Type 0 where
  -- the bytes that it holds
  pub held : List ℕ
  -- how many bytes it has room for
  pub room : ℕ
  -- how many bytes one write moves at most
  pub most : ℕ
  -- the numbers of the writes that fail
  pub failing : List ℕ
  -- the number of the next write
  pub calls : ℕ
  -- the writes that failed so far
  pub faults : ℕ

-- the number of the call after this one; the last number stays
abbrev pub next_call : ℕ → ℕ
next_call call = min (call + 1) last_count

-- a write of a piece of this length fails: its number is one of
-- those that do, or the room is used up
abbrev pub WriteFails : Store → ℕ → Type 0
WriteFails s len = Contains s.failing s.calls ⊎ ((0 < len) × (s.room ≤ length s.held))
