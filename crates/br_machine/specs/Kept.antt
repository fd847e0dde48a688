-- How RAM is kept: the code's words, and the pages that are made. What is not
-- made is told by the code and by one word.
use Rattle.std.specs.Prelude.{◌≡◌, ℕ, zero, suc, ◌+◌, ◌-◌, ◌*◌, ◌/◌, ◌%◌, ◌<◌}
use Rattle.std.specs.Prelude.{◌≤◌, Bool, true, ◌&&◌, nat_le, nat_lt, List, []}
use Rattle.std.specs.Prelude.{◌∷◌, length, slice_index, slice_index_or, slice_set}
use Rattle.std.specs.Prelude.{if◌then◌else◌, Option, Some, None, unwrap_or}
use Rattle.std.specs.List.{AllByRecursion}
use Rattle.std.specs.FinMap as finite
use Rattle.br_bytes.specs.Number.{low_bytes}
use Rattle.br_bytes.specs.Memory.{Memory}
use Rattle.br_words.specs.declared.layout.Layout.{Layout}
use Rattle.br_words.specs.Layout.{code_base, code_end, most_words, ram_base}
use Rattle.br_machine.specs.State.{code_place, ram_size}
use Rattle.br_machine.specs.Start.{code_bytes}
use Rattle.br_machine.specs.Pages.{page_count, page_size}

-- what is kept: where RAM stands, the words of the code, the bytes, and which pages are made
pub record Kept : Type 0 where
  pub layout : Layout
  pub code : List ℕ
  pub bytes : List ℕ
  pub made : List Bool

-- what holds of it: the code's bytes are those of its words
pub record IsKept (k : Kept) : Type 0 where
  pub few : length k.code ≤ most_words k.layout
  pub pages : length k.made ≡ page_count k.layout
  pub size : length k.bytes ≡ ram_size k.layout
  pub bytes : AllByRecursion (λ b. b < 256) k.bytes
  pub code : (i : ℕ) → i < 4 * length k.code
      → slice_index k.bytes (code_place k.layout + i) ≡ slice_index (code_bytes k.code) i

-- ---- the bytes of RAM, by pages

-- The byte at a place of RAM where no memory is handed in: in the code region that of the code, or
-- 0 after it, and elsewhere that of the word.
abbrev pub first_byte : Layout → List ℕ → ℕ → ℕ → ℕ
first_byte l code junk place =
    let a = ram_base l + place
    in if nat_le (code_base l) a && nat_lt a (code_end l)
    then slice_index (code_bytes code) (a - code_base l)
    else slice_index (low_bytes 4 junk) (a % 4)

-- the byte of a page, where it is made
abbrev pub in_page : Option (List ℕ) → ℕ → ℕ → ℕ
in_page (Some page) i first = slice_index page i
in_page None i first = first

-- the byte at a place
abbrev pub byte_at : Layout → List ℕ → ℕ → List (Option (List ℕ)) → ℕ → ℕ
byte_at l code junk pages place =
    in_page (slice_index_or pages (place / page_size) None) (place % page_size)
    (first_byte l code junk place)

-- the values of a function at n numbers from `a` on
abbrev pub values : (ℕ → ℕ) → ℕ → ℕ → List ℕ
values f a zero = []
values f a (suc n) = f a ∷ values f (a + 1) n

unfoldable pub bytes_in : Layout → List ℕ → ℕ → List (Option (List ℕ)) → List ℕ
bytes_in l code junk pages = values (byte_at l code junk pages) 0 (ram_size l)

-- the pages after those of n bytes from a place on are made
abbrev pub with_made : List Bool → ℕ → ℕ → List Bool
with_made made place zero = made
with_made made place (suc n) = with_made (slice_set made (place / page_size) true) (place + 1) n

-- ---- the start

-- the byte at a place, with the memory over it
abbrev pub start_byte : Layout → List ℕ → Memory → ℕ → ℕ → ℕ
start_byte l code m junk place =
    unwrap_or (finite.get m (ram_base l + place)) (first_byte l code junk place)
