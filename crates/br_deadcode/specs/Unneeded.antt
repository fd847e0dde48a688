-- What is left of a function where a set of names holds all that a statement which stays can need.
use Rattle.std.specs.Prelude.{◌≡◌, Bool, true, ◌&&◌, ◌||◌, List, [], ◌∷◌, map}
use Rattle.std.specs.Prelude.{Option, Some, None, if◌then◌else◌, IsTrue, slice_get}
use Rattle.std.specs.List.{list_all}
use Rattle.br_flatimp.specs.declared.program.Stmt.{Stmt}
use Rattle.br_flatimp.specs.declared.program.Stmt.TheOpen.{Stmt-F}
use Rattle.br_flatimp.specs.declared.program.Stmt.TheViews.{roll-Stmt}
use Rattle.br_flatimp.specs.declared.program.Stmt.TheFolds.{fold-Stmt}
use Rattle.br_flatimp.specs.declared.program.FlatFunc.{FlatFunc}
use Rattle.br_flatimp.specs.Values.{Names}
use Rattle.br_flatimp.specs.Parts.{read, throughout}
use Rattle.br_deadcode.specs.Sweeps.{is_idle, put}

-- ---- what is left

-- the statements of a part that are left
abbrev pub left_in : List (Option Stmt) → List Stmt
left_in [] = []
left_in (o ∷ os) = put o (left_in os)

-- a statement with what is left of its parts
abbrev pub kept_in : Stmt-F (Option Stmt) → Stmt-F Stmt
kept_in (Stmt-F.Stackalloc x n body) = Stmt-F.Stackalloc x n (left_in body)
kept_in (Stmt-F.If test first second) = Stmt-F.If test (left_in first) (left_in second)
kept_in (Stmt-F.Loop first test last) = Stmt-F.Loop (left_in first) test (left_in last)
kept_in (Stmt-F.Lit x n) = Stmt-F.Lit x n
kept_in (Stmt-F.Copy x y) = Stmt-F.Copy x y
kept_in (Stmt-F.Op x op y z) = Stmt-F.Op x op y z
kept_in (Stmt-F.Load x size y offset) = Stmt-F.Load x size y offset
kept_in (Stmt-F.Store size y z offset) = Stmt-F.Store size y z offset
kept_in (Stmt-F.Table x size bytes y) = Stmt-F.Table x size bytes y
kept_in (Stmt-F.Call xs g ys) = Stmt-F.Call xs g ys
kept_in (Stmt-F.Read x y) = Stmt-F.Read x y
kept_in (Stmt-F.Write y z) = Stmt-F.Write y z

-- a removable statement that writes a name outside the set goes
abbrev pub trim_step : Names → Stmt-F (Option Stmt) → Option Stmt
trim_step set y = if is_idle y set then None else Some (roll-Stmt (kept_in y))

abbrev pub trim : Names → Stmt → Option Stmt
trim set = fold-Stmt (Option Stmt) (trim_step set)

abbrev pub trimmed : Names → List Stmt → List Stmt
trimmed set body = left_in (map (trim set) body)

abbrev pub trimmed_function : Names → FlatFunc → FlatFunc
trimmed_function set f = record {
  name = f.name;
  args = f.args;
  results = f.results;
  names = f.names;
  body = trimmed set f.body;
}

-- ---- sets of names that hold all that is needed

-- it goes, or reads names of the set alone
abbrev pub reads_within : {X : Type 0} → Names → Stmt-F X → Bool
reads_within set y = is_idle y set || list_all set (read y)

abbrev pub is_closed : Names → Stmt → Bool
is_closed set = throughout (reads_within set)

abbrev pub is_closed_function : Names → FlatFunc → Bool
is_closed_function set f = list_all set f.results && list_all (is_closed set) f.body

-- a set by a list of bits, in which a name that the list does not reach is
abbrev pub bit : Option Bool → Bool
bit None = true
bit (Some b) = b

abbrev pub listed : List Bool → Names
listed bits x = bit (slice_get bits x)

-- ---- functions without what is not needed

-- by some set that holds all that is needed
pub record IsTrimmed (q p : FlatFunc) : Type 0 where
  pub set : Names
  pub closed : IsTrue (is_closed_function set p)
  pub left : q ≡ trimmed_function set p
