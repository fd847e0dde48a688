-- Sets of registers as words, bit by bit, and what is found of the registers that calls may change.
use Rattle.std.specs.Prelude.{◌≡◌, ℕ, ◌<◌, nat_lt, ◌==◌, ◌&&◌, ◌||◌, true}
use Rattle.std.specs.Prelude.{IsTrue, List, Some, slice_get, get_or}
use Rattle.std.specs.Int.{bit_at}
use Rattle.br_flatimp.specs.declared.program.FlatFunc.{FlatFunc}
use Rattle.br_flatimp.specs.Values.{Names}
pub use Rattle.br_flatimp.specs.Parts.{own_written, own_read}
use Rattle.br_flatimp.specs.Parts.{callees, function_names}
use Rattle.br_flatimp.specs.Liveness.{is_in}
use Rattle.br_flatimp.specs.Renaming.{ReadsNoForgotten}
use Rattle.br_flatimp.specs.Runs.{Forgets}
use Rattle.br_emit.specs.Code.{AllFit, words_at, program_items}
use Rattle.br_emit.specs.Ready.{aimed}
use Rattle.br_emit.specs.Written.{aims_of, entry_offsets}
use Rattle.br_emit.specs.declared.flow.Flow.{Flow}

-- the registers of a set: those whose bit is 1
abbrev pub has : ℕ → Names
has set x = nat_lt x 32 && (bit_at set x == 1)

-- each register of the first is in the second
abbrev pub Below : Names → Names → Type 0
Below a b = (x : ℕ) → x < 32 → IsTrue (a x) → IsTrue (b x)

-- what a call of each function may change beside its results, a set for each
abbrev pub forgets_of : List ℕ → Forgets
forgets_of sets g = has (get_or sets g 0)

-- each set has no register that it had not
abbrev pub Narrowed : List ℕ → List ℕ → Type 0
Narrowed sets before = (g x : ℕ) → forgets_of sets g x ≡ true → forgets_of before g x ≡ true

-- what a call of another function may change that a function makes, a call of the function itself
-- may change, or it is a name of the function
abbrev pub IsClosed : Forgets → List FlatFunc → Type 0
IsClosed forgets fs =
    (n : ℕ) (f : FlatFunc) → slice_get fs n ≡ Some f → (g : ℕ) → is_in (callees f) g ≡ true
    → (x : ℕ) → forgets g x ≡ true → (forgets n x || is_in (function_names f) x) ≡ true

-- The code of a program and the offsets of its entries, where calls may change
-- registers that no function reads after them.
pub record IsWritten (fs : List FlatFunc) (words offsets : List ℕ) : Type 0 where
  pub forgets : Forgets
  pub dead : ReadsNoForgotten forgets fs
  pub closed : IsClosed forgets fs
  pub code : words ≡ words_at 0 (program_items (aimed (aims_of forgets fs)) forgets fs 0 fs)
  pub fit : AllFit (program_items (aimed (aims_of forgets fs)) forgets fs 0 fs)
  pub entries : offsets ≡ entry_offsets forgets fs

-- ---- what is live before statements

-- What is live before statements, when it is known what is live after them: what they may read
-- first, and what is live after them and they do not surely write.
abbrev pub handed : Flow → Names → Names
handed w after x = has w.reads x || (after x && has w.keeps x)
