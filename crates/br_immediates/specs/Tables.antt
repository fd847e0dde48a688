-- What tables of literals say.
use Rattle.std.specs.Prelude.{ℕ}
use Rattle.std.specs.Ordering.{nat_cmp}
use Rattle.std.specs.BTreeMap.{BTreeMap, get}
use Rattle.br_immediates.specs.Immediates.{Literals}

-- the words of names in a table
abbrev pub literals_of : BTreeMap ℕ ℕ → Literals
literals_of m x = get nat_cmp m x
