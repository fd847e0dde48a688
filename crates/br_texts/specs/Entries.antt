-- The entry that a script calls.
use Rattle.std.specs.Prelude.{ℕ, List, Option}
use Rattle.std.specs.List.{find}
use Rattle.std.specs.Str.{bytes_eq}
use Rattle.br_image.specs.declared.images.Entry.{Entry}

-- the entry of a name; no two entries of an image have one name
abbrev pub entry_named : List Entry → List ℕ → Option Entry
entry_named entries name = find (λ e. bytes_eq e.name name) entries
