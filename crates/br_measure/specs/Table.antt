-- Calls as a table: for each function the numbers of the functions that it calls.
use Rattle.std.specs.Prelude.{◌≡◌, ℕ, ◌<◌, ◌==◌, Bool, true, List, [], ◌∷◌, Option, Some, None, map}
use Rattle.std.specs.Prelude.{length, slice_index_or}
use Rattle.std.specs.List.{filter_map, list_any}
use Rattle.br_syntax.specs.declared.program.Func.{Func}
use Rattle.br_syntax.specs.Functions.{number_named}
use Rattle.br_measure.specs.Paths.{callees}

-- the numbers of functions by name, without names that no function has
abbrev pub numbers_named : List Func → List (List ℕ) → List ℕ
numbers_named fs = filter_map (number_named fs)

-- the functions that each function calls
abbrev pub call_table : List Func → List (List ℕ)
call_table fs = map (λ f. numbers_named fs (callees f)) fs

-- the functions that one function calls
abbrev pub row : List (List ℕ) → ℕ → List ℕ
row table f = slice_index_or table f []

-- whether a number stands among numbers
abbrev pub has : List ℕ → ℕ → Bool
has ns n = list_any (λ m. n == m) ns

-- functions of which each calls the next
abbrev pub TablePath : List (List ℕ) → ℕ → List ℕ → ℕ → Type 0
TablePath table f [] g = has (row table f) g ≡ true
TablePath table f (h ∷ hs) g = (has (row table f) h ≡ true) × TablePath table h hs g

-- a path of at least one call leads from one function to another
abbrev pub Leads : List (List ℕ) → ℕ → ℕ → Type 0
Leads table f g = (between : List ℕ) × TablePath table f between g

-- each function of the table calls functions of the table alone
abbrev pub IsTable : List (List ℕ) → Type 0
IsTable table = (f g : ℕ) → has (row table f) g ≡ true → g < length table

-- the first function that has a path to itself, or none where none has one
abbrev pub IsFirstLoop : List (List ℕ) → Option ℕ → Type 0
IsFirstLoop table None = (f : ℕ) → Leads table f f → ⊥
IsFirstLoop table (Some f) = Leads table f f × ((g : ℕ) → g < f → Leads table g g → ⊥)
