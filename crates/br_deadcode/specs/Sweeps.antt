-- What one sweep leaves of statements. It goes from the last statement to the first with
-- what is live after each, and leaves out a removable one that writes no live name; what
-- that one reads is not live for its sake.
use Rattle.std.specs.Prelude.{Bool, false, not, ◌&&◌, ◌||◌, List, [], ◌∷◌}
use Rattle.std.specs.Prelude.{map, Option, Some, None, if◌then◌else◌}
use Rattle.std.specs.List.{list_any}
use Rattle.br_flatimp.specs.declared.program.Cond.{Cond}
use Rattle.br_flatimp.specs.declared.program.Stmt.{Stmt, map-Stmt}
use Rattle.br_flatimp.specs.declared.program.Stmt.TheOpen.{Stmt-F}
use Rattle.br_flatimp.specs.declared.program.Stmt.TheViews.{roll-Stmt}
use Rattle.br_flatimp.specs.declared.program.Stmt.TheFolds.{fold-Stmt}
use Rattle.br_flatimp.specs.declared.program.FlatFunc.{FlatFunc}
use Rattle.br_flatimp.specs.Values.{Names}
use Rattle.br_flatimp.specs.Parts.{written, read, test_names}
use Rattle.br_flatimp.specs.Liveness.{is_in, is_removable, union, without}
use Rattle.br_flatimp.specs.Liveness.{Live, entry, at_test, live_step}

-- it does nothing else than to write names, and none of them is live after it
abbrev pub is_idle : {X : Type 0} → Stmt-F X → Names → Bool
is_idle y after = is_removable y && not (list_any after (written y))

abbrev pub idle : Stmt → Names → Bool
idle = fold-Stmt (Names → Bool) is_idle

-- a statement in a sweep, as a function of what is live after it
pub record Swept : Type 0 where
  pub live : Live
  -- what is live before it in the sweep
  pub before : Names → Names
  -- what is left of it
  pub left : Names → Option Stmt
  -- it or a statement in it is left out
  pub leaves_out : Names → Bool

abbrev pub lives_in : List Swept → List Live
lives_in cs = map (λ (c : Swept). c.live) cs

abbrev pub entry_left : List Swept → Names → Names
entry_left [] end = end
entry_left (c ∷ rest) end = c.before (entry_left rest end)

abbrev pub put : Option Stmt → List Stmt → List Stmt
put None cs = cs
put (Some c) cs = c ∷ cs

abbrev pub left_all : List Swept → Names → List Stmt
left_all [] end = []
left_all (c ∷ rest) end = put (c.left (entry_left rest end)) (left_all rest end)

abbrev pub any_left_out : List Swept → Names → Bool
any_left_out [] end = false
any_left_out (c ∷ rest) end = any_left_out rest end || c.leaves_out (entry_left rest end)

-- What is live at a loop's test, by all statements of its parts, so that
-- it is enough for what is left of them.
abbrev pub swept_test : List Swept → Cond → List Swept → Names → Names
swept_test first test last after = at_test (lives_in first) test (lives_in last) after

-- what is live after the last part of a loop
abbrev pub swept_start : List Swept → Cond → List Swept → Names → Names
swept_start first test last after = entry (lives_in first) (swept_test first test last after)

abbrev pub before_kept : Stmt-F Swept → Names → Names
before_kept (Stmt-F.Stackalloc x n body) after = without (entry_left body after) (x ∷ [])
before_kept (Stmt-F.If test first second) after =
    union (is_in (test_names test)) (union (entry_left first after) (entry_left second after))
before_kept (Stmt-F.Loop first test last) after =
    entry_left first (swept_test first test last after)
before_kept y after = union (without after (written y)) (is_in (read y))

-- a statement with what is left of its parts
abbrev pub kept : Stmt-F Swept → Names → Stmt-F Stmt
kept (Stmt-F.Stackalloc x n body) after = Stmt-F.Stackalloc x n (left_all body after)
kept (Stmt-F.If test first second) after =
    Stmt-F.If test (left_all first after) (left_all second after)
kept (Stmt-F.Loop first test last) after =
    Stmt-F.Loop (left_all first (swept_test first test last after)) test
    (left_all last (swept_start first test last after))
kept (Stmt-F.Lit x n) after = Stmt-F.Lit x n
kept (Stmt-F.Copy x y) after = Stmt-F.Copy x y
kept (Stmt-F.Op x op y z) after = Stmt-F.Op x op y z
kept (Stmt-F.Load x size y offset) after = Stmt-F.Load x size y offset
kept (Stmt-F.Store size y z offset) after = Stmt-F.Store size y z offset
kept (Stmt-F.Table x size bytes y) after = Stmt-F.Table x size bytes y
kept (Stmt-F.Call xs g ys) after = Stmt-F.Call xs g ys
kept (Stmt-F.Read x y) after = Stmt-F.Read x y
kept (Stmt-F.Write y z) after = Stmt-F.Write y z

-- a statement in the parts is left out
abbrev pub inner_left_out : Stmt-F Swept → Names → Bool
inner_left_out (Stmt-F.Stackalloc x n body) after = any_left_out body after
inner_left_out (Stmt-F.If test first second) after =
    any_left_out second after || any_left_out first after
inner_left_out (Stmt-F.Loop first test last) after =
    any_left_out last (swept_start first test last after)
    || any_left_out first (swept_test first test last after)
inner_left_out y after = false

abbrev pub sweep_step : Stmt-F Swept → Swept
sweep_step y = record {
  live = live_step (map-Stmt Swept Live (λ (c : Swept). c.live) y);
  before = λ after. if is_idle y after then after else before_kept y after;
  left = λ after. if is_idle y after then None else Some (roll-Stmt (kept y after));
  leaves_out = λ after. is_idle y after || inner_left_out y after;
}

abbrev pub sweep : Stmt → Swept
sweep = fold-Stmt Swept sweep_step

-- ---- statements in turn

-- what is live before them in a sweep
abbrev pub before_left : List Stmt → Names → Names
before_left body = entry_left (map sweep body)

-- what is left of them
abbrev pub left_of : List Stmt → Names → List Stmt
left_of body = left_all (map sweep body)

-- some are left out
abbrev pub leaves_of : List Stmt → Names → Bool
leaves_of body = any_left_out (map sweep body)

-- ---- functions and programs

-- a function after a sweep: its results are live at its end
abbrev pub swept_function : FlatFunc → FlatFunc
swept_function f = record {
  name = f.name;
  args = f.args;
  results = f.results;
  names = f.names;
  body = left_of f.body (is_in f.results);
}

abbrev pub function_leaves : FlatFunc → Bool
function_leaves f = leaves_of f.body (is_in f.results)

abbrev pub swept_program : List FlatFunc → List FlatFunc
swept_program = map swept_function

abbrev pub program_leaves : List FlatFunc → Bool
program_leaves fs = list_any function_leaves fs
