-- Functions in code, one after another.
use Rattle.std.specs.Prelude.{◌≡◌, ℕ, ◌+◌, ◌*◌, ◌<◌, ◌≤◌, nat_lt, if◌then◌else◌, Bool}
use Rattle.std.specs.Prelude.{false, IsTrue, List, [], ◌∷◌, ◌++◌, length, map, get_or}
use Rattle.std.specs.List.{AllByRecursion, list_all}
use Rattle.br_words.specs.declared.layout.Layout.TheVariants.{Two}
use Rattle.br_words.specs.Layout.{most_words}
use Rattle.br_flatimp.specs.declared.program.FlatFunc.{FlatFunc}
use Rattle.br_flatimp.specs.Parts.{throughout}
use Rattle.br_flatimp.specs.Sizes.{nest, flat_bulk}
use Rattle.br_flatimp.specs.Runs.{Forgets}
use Rattle.br_emit.specs.Code.{Item, Targets, address_of, callable_items}
use Rattle.br_emit.specs.Code.{entry_items, direct_items, is_called}
use Rattle.br_emit.specs.Sizes.{sized_all, begins, entries}
use Rattle.br_emit.specs.Ready.{Aims, is_encodable}

-- the code of the function numbered n and its entry, or its entry alone
abbrev pub one_items : Targets → Forgets → Bool → ℕ → ℕ → FlatFunc → List Item
one_items targets forgets called n target f =
    if called then callable_items targets forgets n f ++ entry_items targets.near target
    else direct_items targets f

-- functions from number n on, one after another
abbrev pub rest_items : Targets → Forgets → (ℕ → Bool) → ℕ → List FlatFunc → List Item
rest_items targets forgets called n [] = []
rest_items targets forgets called n (f ∷ rest) =
    one_items targets forgets (called n) n (targets.at n) f
    ++ rest_items targets forgets called (n + 1) rest

-- the flag of a number
abbrev pub flagged : List Bool → ℕ → Bool
flagged flags n = get_or flags n false

-- a function whose code can be written with so much room for lengths
pub record Writable (near : Bool) (most : ℕ) (f : FlatFunc) : Type 0 where
  pub nested : nest f ≤ 1048576
  pub form : IsTrue (list_all (throughout is_encodable) f.body)
  pub parts : length (sized_all near f.body (nest f)).parts ≤ most

-- the offset in bytes of a word of code, by its place
abbrev pub offset_of : ℕ → ℕ
offset_of place = 4 * place

-- a program whose code is in the reach of JAL from each of its words
abbrev pub is_near_program : List FlatFunc → Bool
is_near_program fs = nat_lt (flat_bulk fs) 262144

-- the addresses at which the functions of a program stand
abbrev pub addresses : Forgets → List FlatFunc → List ℕ
addresses forgets fs = map address_of (begins (is_near_program fs) forgets (is_called fs) 0 0 fs)

abbrev pub aims_of : Forgets → List FlatFunc → Aims
aims_of forgets fs = record { near = is_near_program fs; addresses = addresses forgets fs }

-- the offsets of their entries
abbrev pub entry_offsets : Forgets → List FlatFunc → List ℕ
entry_offsets forgets fs =
    map offset_of (entries (is_near_program fs) forgets (is_called fs) 0 0 fs)

-- the flags say which functions are called
abbrev pub AreCalled : List Bool → List FlatFunc → Type 0
AreCalled flags fs = (n : ℕ) → n < length fs → flagged flags n ≡ is_called fs n

-- a program whose code can be written with so much room for lengths
pub record CanWrite (most : ℕ) (fs : List FlatFunc) : Type 0 where
  pub each : AllByRecursion (Writable (is_near_program fs) most) fs
  pub few : flat_bulk fs ≤ most_words Two
