-- Which names are live where: those whose words may still be read. They are the
-- least sets that hold what a statement reads and what is live after it, its written
-- names aside, at each point of a function.
use Rattle.std.specs.Prelude.{ℕ, Bool, true, false, not, ◌&&◌, ◌||◌, List, [], ◌∷◌}
use Rattle.std.specs.Prelude.{◌++◌, map, Option, Some, None, IsTrue, ◌==◌, slice_get}
use Rattle.std.specs.List.{list_any}
use Rattle.br_flatimp.specs.declared.program.Cond.{Cond}
use Rattle.br_flatimp.specs.declared.program.Stmt.{Stmt}
use Rattle.br_flatimp.specs.declared.program.Stmt.TheOpen.{Stmt-F}
use Rattle.br_flatimp.specs.declared.program.Stmt.TheFolds.{fold-Stmt}
use Rattle.br_flatimp.specs.declared.program.FlatFunc.{FlatFunc}
use Rattle.br_flatimp.specs.Values.{Names}
use Rattle.br_flatimp.specs.Parts.{written, read, test_names, own_callees}

-- ---- sets of names

abbrev pub nothing : Names
nothing x = false

abbrev pub is_in : List ℕ → Names
is_in xs x = list_any (λ y. y == x) xs

abbrev pub union : Names → Names → Names
union a b x = a x || b x

-- the names of a set without those of a list
abbrev pub without : Names → List ℕ → Names
without a xs x = a x && not (is_in xs x)

-- each name of the first set is in the second
abbrev pub Within : Names → Names → Type 0
Within a b = (x : ℕ) → IsTrue (a x) → IsTrue (b x)

-- ---- statements and lists of them

-- what liveness says of a statement, when it is known what is live after it
pub record Moment : Type 0 where
  -- the names that it writes, and the function that it calls itself, if any
  pub written : List ℕ
  pub callees : List ℕ
  -- it is a Lit, Copy, Op, Load or Table
  pub is_removable : Bool
  pub is_copy : Bool
  -- the names that are live after it
  pub after : Names
  -- the names that are live after its write: a buffer's name is written before its body runs
  pub after_write : Names
  -- the names that are live at a loop's test
  pub test : Names

-- a statement, as a function of what is live after it
pub record Live : Type 0 where
  -- what is live before it
  pub before : Names → Names
  -- it and the statements in its parts, in preorder
  pub moments : Names → List Moment
  -- the sets before and after each of these, at the entry of each
  -- list in it, and at the test of each loop
  pub points : Names → List Names

-- the set before a list whose end has a set
abbrev pub entry : List Live → Names → Names
entry [] end = end
entry (s ∷ rest) end = s.before (entry rest end)

abbrev pub moments : List Live → Names → List Moment
moments [] end = []
moments (s ∷ rest) end = s.moments (entry rest end) ++ moments rest end

abbrev pub points : List Live → Names → List Names
points [] end = end ∷ []
points (s ∷ rest) end = s.points (entry rest end) ++ points rest end

-- What is live at a loop's test: the names that it reads, what is live after the loop, and what is
-- live before the last part with the first part after it, where nothing is live at the end of the
-- first part. It is the least set that holds the test's names, what is live after the loop, and
-- what is live before the last part with the first part and then the test after it: a part hands on
-- to its start what is live at its end, so a further turn adds nothing.
abbrev pub at_test : List Live → Cond → List Live → Names → Names
at_test first test last after =
    union (is_in (test_names test)) (union after (entry last (entry first nothing)))

abbrev pub is_removable : {X : Type 0} → Stmt-F X → Bool
is_removable (Stmt-F.Lit x n) = true
is_removable (Stmt-F.Copy x y) = true
is_removable (Stmt-F.Op x op y z) = true
is_removable (Stmt-F.Load x size y offset) = true
is_removable (Stmt-F.Table x size bytes y) = true
is_removable (Stmt-F.Store size y z offset) = false
is_removable (Stmt-F.Stackalloc x n body) = false
is_removable (Stmt-F.If test first second) = false
is_removable (Stmt-F.Loop first test last) = false
is_removable (Stmt-F.Call xs g ys) = false
is_removable (Stmt-F.Read x y) = false
is_removable (Stmt-F.Write y z) = false

abbrev pub is_copy : {X : Type 0} → Stmt-F X → Bool
is_copy (Stmt-F.Copy x y) = true
is_copy (Stmt-F.Lit x n) = false
is_copy (Stmt-F.Op x op y z) = false
is_copy (Stmt-F.Load x size y offset) = false
is_copy (Stmt-F.Table x size bytes y) = false
is_copy (Stmt-F.Store size y z offset) = false
is_copy (Stmt-F.Stackalloc x n body) = false
is_copy (Stmt-F.If test first second) = false
is_copy (Stmt-F.Loop first test last) = false
is_copy (Stmt-F.Call xs g ys) = false
is_copy (Stmt-F.Read x y) = false
is_copy (Stmt-F.Write y z) = false

-- what is live before a statement, given what is live after it
abbrev pub before_step : Stmt-F Live → Names → Names
before_step (Stmt-F.Stackalloc x n body) after = without (entry body after) (x ∷ [])
before_step (Stmt-F.If test first second) after =
    union (is_in (test_names test)) (union (entry first after) (entry second after))
before_step (Stmt-F.Loop first test last) after = entry first (at_test first test last after)
before_step y after = union (without after (written y)) (is_in (read y))

-- what is live after a statement's write
abbrev pub after_write : Stmt-F Live → Names → Names
after_write (Stmt-F.Stackalloc x n body) after = entry body after
after_write y after = after

-- what is live at a loop's test
abbrev pub tested : Stmt-F Live → Names → Names
tested (Stmt-F.Loop first test last) after = at_test first test last after
tested y after = nothing

abbrev pub inner_moments : Stmt-F Live → Names → List Moment
inner_moments (Stmt-F.Stackalloc x n body) after = moments body after
inner_moments (Stmt-F.If test first second) after = moments first after ++ moments second after
inner_moments (Stmt-F.Loop first test last) after =
    moments first (at_test first test last after)
    ++ moments last (entry first (at_test first test last after))
inner_moments y after = []

abbrev pub inner_points : Stmt-F Live → Names → List Names
inner_points (Stmt-F.Stackalloc x n body) after = points body after
inner_points (Stmt-F.If test first second) after = points first after ++ points second after
inner_points (Stmt-F.Loop first test last) after =
    at_test first test last after ∷ points first (at_test first test last after)
    ++ points last (entry first (at_test first test last after))
inner_points y after = []

abbrev pub moment : Stmt-F Live → Names → Moment
moment y after = record {
  written = written y;
  callees = own_callees y;
  is_removable = is_removable y;
  is_copy = is_copy y;
  after = after;
  after_write = after_write y after;
  test = tested y after;
}

abbrev pub live_step : Stmt-F Live → Live
live_step y = record {
  before = before_step y;
  moments = λ after. moment y after ∷ inner_moments y after;
  points = λ after. before_step y after ∷ after ∷ inner_points y after;
}

abbrev pub live : Stmt → Live
live = fold-Stmt Live live_step

-- what is live before a statement, when it is known what is live after it
abbrev pub before : Stmt → Names → Names
before s = (live s).before

-- what is live before statements, when it is known what is live after them
abbrev pub before_all : List Stmt → Names → Names
before_all body = entry (map live body)

-- ---- functions

-- A function's statements in preorder. Its results are live at its end.
abbrev pub function_moments : FlatFunc → List Moment
function_moments f = moments (map live f.body) (is_in f.results)

-- the sets before and after each statement of a function, at
-- the entry of each list, and at each test
abbrev pub function_points : FlatFunc → List Names
function_points f = points (map live f.body) (is_in f.results)

abbrev pub after_moment : Option Moment → Names
after_moment (Some moment) = moment.after
after_moment None = nothing

-- what is live after a statement of a function, by its number in preorder, counted from 0
abbrev pub live_after : FlatFunc → ℕ → Names
live_after f n = after_moment (slice_get (function_moments f) n)

-- no name that the statement writes is live after it, and it does nothing else than to write a name
abbrev pub is_dead : Moment → Bool
is_dead moment = moment.is_removable && not (list_any moment.after moment.written)

-- a function has no dead statement that can be removed
abbrev pub has_no_dead : FlatFunc → Bool
has_no_dead f = not (list_any is_dead (function_moments f))

-- none but copies
abbrev pub has_no_dead_but_copies : FlatFunc → Bool
has_no_dead_but_copies f =
    not (list_any (λ moment. is_dead moment && not moment.is_copy) (function_moments f))
