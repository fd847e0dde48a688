-- Names in the order of their numbers.
use Rattle.std.specs.Prelude.{◌≡◌, ℕ, List, [], map, Some, slice_get, slice_index_or}
use Rattle.br_syntax.specs.declared.program.Func.{Func}
use Rattle.br_source_meaning.specs.Values.{Name}

-- the names of functions, which have their places in the text as their numbers
abbrev pub function_names : List Func → List Name
function_names fs = map (λ f. f.name) fs

-- the name of a number; a number that no name has stands for the empty list, which is no name
abbrev pub name_at : List Name → ℕ → Name
name_at names k = slice_index_or names k []

abbrev pub names_at : List Name → List ℕ → List Name
names_at names ks = map (name_at names) ks

-- names keep their numbers
abbrev pub Keeps : List Name → List Name → Type 0
Keeps old new = (k : ℕ) (x : Name) → slice_get old k ≡ Some x → slice_get new k ≡ Some x

-- What got numbers while the names grew from the old to the new ones is x, with the names put back.
-- They
-- may have grown further then.
abbrev pub Numbers : {T : Type 0} → List Name → List Name → (List Name → T) → T → Type 0
Numbers old new named x = (later : List Name) → Keeps new later → Keeps old later
    × (named later ≡ x)
