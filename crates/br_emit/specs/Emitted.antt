-- What is said of the image of a program in register form.
use Rattle.std.specs.Prelude.{◌≡◌, ℕ, ◌+◌, ◌*◌, ◌%◌, ◌<◌, ◌≤◌, min, List}
use Rattle.std.specs.Prelude.{[], ◌∷◌, length, map, Some, slice_get, get_or}
use Rattle.br_bytes.specs.Memory.{Memory}
use Rattle.br_bytes.specs.Buffers.{AreWords}
use Rattle.br_flatimp.specs.declared.program.FlatFunc.{FlatFunc}
use Rattle.br_flatimp.specs.Parts.{callees}
use Rattle.br_flatimp.specs.Sizes.{largest, own_need, flat_bulk}
use Rattle.br_flatimp.specs.Runs.{call}
use Rattle.br_image.specs.declared.images.Entry.{Entry}
use Rattle.br_machine.specs.Start.{Leftover, IsLeftover, IsInData}
use Rattle.br_emit.specs.Laid.{EntryShown}

-- The bytes of stack that functions need: for each a word for each of its names and one more, its
-- buffers, and the most that one of its callees needs. A sum past the largest word counts as that.
pub record AreNeeds (fs : List FlatFunc) (needs : List ℕ) : Type 0 where
  pub count : length needs ≡ length fs
  pub each : (n : ℕ) (f : FlatFunc) → slice_get fs n ≡ Some f
      → get_or needs n 0
      ≡ min 4294967295 (own_need f + largest (map (λ g. get_or needs g 0) (callees f)))

-- what an entry says of its function
pub record Describes (f : FlatFunc) (bytes : ℕ) (e : Entry) : Type 0 where
  pub name : e.name ≡ f.name
  pub args : e.args ≡ length f.args
  pub results : e.results ≡ length f.results
  pub need : e.need ≡ bytes

-- one entry for each function, in the order of the program, with its need
abbrev pub AllDescribed : List FlatFunc → List ℕ → List Entry → Type 0
AllDescribed [] [] [] = Unit {0}
AllDescribed (f ∷ fs) (need ∷ needs) (e ∷ entries) =
    Describes f need e × AllDescribed fs needs entries
AllDescribed [] needs (e ∷ entries) = ⊥
AllDescribed [] (need ∷ needs) [] = ⊥
AllDescribed (f ∷ fs) needs [] = ⊥
AllDescribed (f ∷ fs) [] (e ∷ entries) = ⊥

-- the offset in bytes of one of so many words of code
pub record IsOffset (words offset : ℕ) : Type 0 where
  pub aligned : offset % 4 ≡ 0
  pub inside : offset < 4 * words

-- The code shows each call of each function, begun at the function's entry: for all arguments,
-- memory in the data region, answers of devices, leftover contents and fuel there are choices of
-- buffers with which the flat call is undefined, or the machine makes its events and no others,
-- ends as it does with its words and its memory, keeps within the need that the entry states, and
-- makes at most as many steps as the program's flat bulk for each unit of fuel and one more.
abbrev pub ShowsProgram : List FlatFunc → List Entry → List ℕ → Type 0
ShowsProgram fs entries code =
    (n : ℕ) (f : FlatFunc) (e : Entry) → slice_get fs n ≡ Some f → slice_get entries n ≡ Some e
    → (fuel : ℕ) (args : List ℕ) → length args ≡ length f.args → AreWords args
    → (m : Memory) → IsInData m → (answers : List ℕ) → AreWords answers → (j : Leftover)
    → IsLeftover j
    → EntryShown code e.offset args m answers j fuel e.need ((fuel + 1) * flat_bulk fs)
    (λ choices. call fs n args m answers choices fuel)

-- at most as many arguments and results as words are passed in registers
pub record HasFewNames (f : FlatFunc) : Type 0 where
  pub args : length f.args ≤ 8
  pub results : length f.results ≤ 8

abbrev pub entry_of : FlatFunc → ℕ → ℕ → Entry
entry_of f offset need = record {
  name = f.name;
  args = length f.args;
  results = length f.results;
  offset = offset;
  need = need;
}

-- the entries of functions from number n on, by the offsets and needs of all functions
abbrev pub entries_of : List ℕ → List ℕ → ℕ → List FlatFunc → List Entry
entries_of offsets needs n [] = []
entries_of offsets needs n (f ∷ rest) =
    entry_of f (get_or offsets n 0) (get_or needs n 0) ∷ entries_of offsets needs (n + 1) rest
