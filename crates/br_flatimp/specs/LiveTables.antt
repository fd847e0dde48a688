-- The rules of liveness, over statements that are numbered in preorder. A table says what is live
-- after each statement and at the test of each loop; a rule says that a set is within another.
use Rattle.std.specs.Prelude.{ℕ, suc, ◌+◌, List, [], ◌∷◌, ◌++◌, map, Option, Some, None, slice_get}
use Rattle.std.specs.List.{AllByRecursion}
use Rattle.br_flatimp.specs.declared.program.Stmt.{Stmt}
use Rattle.br_flatimp.specs.declared.program.Stmt.TheOpen.{Stmt-F}
use Rattle.br_flatimp.specs.declared.program.Stmt.TheFolds.{fold-Stmt}
use Rattle.br_flatimp.specs.declared.program.FlatFunc.{FlatFunc}
use Rattle.br_flatimp.specs.Values.{Names}
use Rattle.br_flatimp.specs.Parts.{written, read, test_names}
use Rattle.br_flatimp.specs.Liveness.{nothing, is_in, union, without, Within}
use Rattle.br_flatimp.specs.Liveness.{Moment, function_moments, live_after}

pub record Table : Type 0 where
  -- the names that are live after a statement, by its number
  pub after : ℕ → Names
  -- the names that are live at the test of a loop, by the loop's number
  pub test : ℕ → Names

-- the first set has to be within the second
pub record Rule : Type 0 where
  pub small : Names
  pub large : Names

abbrev pub IsKept : Rule → Type 0
IsKept r = Within r.small r.large

-- a statement, as a function of a table and its number
pub record Placed : Type 0 where
  -- how many statements it is, those in its parts counted
  pub count : ℕ
  -- the names that are live before it
  pub before : Table → ℕ → Names
  -- the rules of the statements in its parts, and of its test
  pub rules : Table → ℕ → List Rule

abbrev pub count_all : List Placed → ℕ
count_all [] = 0
count_all (s ∷ rest) = s.count + count_all rest

-- the set before a list, whose first statement has a number, and whose end has a set
abbrev pub entry_at : Table → List Placed → ℕ → Names → Names
entry_at t [] n end = end
entry_at t (s ∷ rest) n end = s.before t n

-- In a list, what is live after a statement holds what is live before the next, and
-- after the last what is live at the end.
abbrev pub list_rules : Table → List Placed → ℕ → Names → List Rule
list_rules t [] n end = []
list_rules t (s ∷ rest) n end =
    record { small = entry_at t rest (n + s.count) end; large = t.after n }
    ∷ s.rules t n ++ list_rules t rest (n + s.count) end

abbrev pub placed_count : Stmt-F Placed → ℕ
placed_count (Stmt-F.Stackalloc x k body) = suc (count_all body)
placed_count (Stmt-F.If test first second) = suc (count_all first + count_all second)
placed_count (Stmt-F.Loop first test last) = suc (count_all first + count_all last)
placed_count y = 1

-- The number of a second part is that after the first. The last part
-- of a loop ends where the first begins.
abbrev pub placed_before : Stmt-F Placed → Table → ℕ → Names
placed_before (Stmt-F.Stackalloc x k body) t n =
    without (entry_at t body (suc n) (t.after n)) (x ∷ [])
placed_before (Stmt-F.If test first second) t n =
    union (is_in (test_names test))
    (union (entry_at t first (suc n) (t.after n))
    (entry_at t second (suc n + count_all first) (t.after n)))
placed_before (Stmt-F.Loop first test last) t n = entry_at t first (suc n) (t.test n)
placed_before y t n = union (without (t.after n) (written y)) (is_in (read y))

abbrev pub placed_rules : Stmt-F Placed → Table → ℕ → List Rule
placed_rules (Stmt-F.Stackalloc x k body) t n = list_rules t body (suc n) (t.after n)
placed_rules (Stmt-F.If test first second) t n =
    list_rules t first (suc n) (t.after n)
    ++ list_rules t second (suc n + count_all first) (t.after n)
placed_rules (Stmt-F.Loop first test last) t n =
    record {
      small = union (is_in (test_names test)) (union (t.after n)
          (entry_at t last (suc n + count_all first) (entry_at t first (suc n) (t.test n))));
      large = t.test n;
    }
    ∷ list_rules t first (suc n) (t.test n)
    ++ list_rules t last (suc n + count_all first) (entry_at t first (suc n) (t.test n))
placed_rules y t n = []

abbrev pub placed_step : Stmt-F Placed → Placed
placed_step y = record { count = placed_count y; before = placed_before y; rules = placed_rules y }

abbrev pub placed : Stmt → Placed
placed = fold-Stmt Placed placed_step

-- a table keeps the rules of a function, whose results are live at its end
abbrev pub KeepsRules : FlatFunc → Table → Type 0
KeepsRules f t = AllByRecursion IsKept (list_rules t (map placed f.body) 0 (is_in f.results))

abbrev pub test_moment : Option Moment → Names
test_moment (Some moment) = moment.test
test_moment None = nothing

-- what is live after the statements of a function, and at the tests of its loops
abbrev pub live_table : FlatFunc → Table
live_table f =
    record { after = live_after f; test = λ n. test_moment (slice_get (function_moments f) n) }
