-- Labels by the offset that they stand at.
use Rattle.std.specs.Prelude.{ℕ, ◌≡◌, List, [], Vec, Option, Some, None}
use Rattle.std.specs.declared.alloc.Global.{Global}
use Rattle.std.specs.Ordering.{nat_cmp}
use Rattle.std.specs.BTreeMap.{BTreeMap, get}
use Rattle.br_image.specs.declared.images.Entry.{Entry}
use Rattle.br_listing.specs.Text.{labels_at}

-- the bytes that were looked up, none where nothing was found
abbrev pub bytes_or_none : Option (Vec ℕ Global) → List ℕ
bytes_or_none (Some v) = v.items
bytes_or_none None = []

-- at each offset the map has the lines of the functions that begin there
abbrev pub IsIndex : BTreeMap ℕ (Vec ℕ Global) → List Entry → Type 0
IsIndex m entries = (offset : ℕ) → bytes_or_none (get nat_cmp m offset) ≡ labels_at entries offset
