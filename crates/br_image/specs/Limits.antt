-- The limits of an image.
use Rattle.std.specs.Prelude.{ℕ, List, ◌≡◌, ◌≢◌, ◌*◌, ◌%◌, ◌^◌, ◌<◌, ◌≤◌, All, AllPairs, length}
use Rattle.br_base.specs.Name.{IsName}
use Rattle.br_words.specs.declared.layout.Layout.{Layout}
use Rattle.br_words.specs.Layout.{most_words, most_stack}
use Rattle.br_image.specs.declared.images.Entry.{Entry}

-- the limits of an entry beside so many words of code
pub record EntryInLimits (words : ℕ) (e : Entry) : Type 0 where
  pub name : IsName e.name
  pub args : e.args ≤ 8
  pub results : e.results ≤ 8
  pub aligned : e.offset % 4 ≡ 0
  pub offset : e.offset < 4 * words
  pub need : e.need ≤ most_stack

-- no two entries have one name
abbrev pub HaveDifferentNames : List Entry → Type 0
HaveDifferentNames entries = AllPairs (λ a b. a.name ≢ b.name) entries

-- the limits of an image's parts
pub record InLimits (layout : Layout) (entries : List Entry) (code : List ℕ) : Type 0 where
  pub count : length code ≤ most_words layout
  pub words : All (λ w. w < 2 ^ 32) code
  pub each : All (EntryInLimits (length code)) entries
  pub names : HaveDifferentNames entries
