-- Variables as they are kept: for each name of a function a word, or nothing where the variable is
-- not set.
use Rattle.std.specs.Prelude.{ℕ, List, [], ◌∷◌, Option, None, if◌then◌else◌}
use Rattle.std.specs.Str.{bytes_eq}
use Rattle.br_source_meaning.specs.Values.{Name, Locals}

-- a variable with this word, or not set
abbrev pub with_word : Name → Option ℕ → Locals → Locals
with_word x word locals y = if bytes_eq y x then word else locals y

-- the variables that these names and words are
abbrev pub locals_of : List Name → List (Option ℕ) → Locals
locals_of [] words x = None
locals_of (name ∷ names) [] x = None
locals_of (name ∷ names) (word ∷ words) x =
    if bytes_eq x name then word else locals_of names words x
