-- A line that is told to a sink which may fail.
use Rattle.std.specs.Prelude.{ℕ, List, Option, ◌⊎◌}
use Rattle.std.specs.Io.KnownBytes.{Appends}
use Rattle.br_base.specs.Ends.{Rose, AppendsSome}

-- a sink, which failed so often before a call and after it, gained the whole line, or it failed and
-- gained a first part
abbrev pub Tells : (faults faults' : ℕ) → (before after : Option (List ℕ)) → List ℕ → Type 0
Tells faults faults' before after line =
    Appends before after line ⊎ (Rose faults faults' × AppendsSome before after line)
