-- Sizes of flat programs, and the stack that functions need.
use Rattle.std.specs.Prelude.{◌≡◌, ℕ, zero, suc, ◌+◌, ◌*◌, ◌/◌, ◌≤◌, max, min, eqb, List}
use Rattle.std.specs.Prelude.{[], ◌∷◌, map, sum, length, Option, Some, None, slice_get}
use Rattle.std.specs.List.{Contains}
use Rattle.std.specs.Set.{distinct_count}
use Rattle.br_flatimp.specs.declared.program.Stmt.{Stmt}
use Rattle.br_flatimp.specs.declared.program.Stmt.TheOpen.{Stmt-F}
use Rattle.br_flatimp.specs.declared.program.Stmt.TheFolds.{fold-Stmt}
use Rattle.br_flatimp.specs.declared.program.FlatFunc.{FlatFunc}
use Rattle.br_flatimp.specs.Parts.{parts, function_names, callees}

-- the words that so many bytes take, the last maybe in part
abbrev pub words_for : ℕ → ℕ
words_for bytes = (bytes + 3) / 4

-- ---- units

-- a statement, its parts aside
abbrev pub own_units : {X : Type 0} → Stmt-F X → ℕ
own_units (Stmt-F.Table x size bytes y) = 1 + words_for (length bytes)
own_units (Stmt-F.Call xs g ys) = 1 + length xs + length ys
own_units (Stmt-F.Lit x n) = 1
own_units (Stmt-F.Copy x y) = 1
own_units (Stmt-F.Op x op y z) = 1
own_units (Stmt-F.Load x size y offset) = 1
own_units (Stmt-F.Store size y z offset) = 1
own_units (Stmt-F.Stackalloc x n body) = 1
own_units (Stmt-F.If test first second) = 1
own_units (Stmt-F.Loop first test last) = 1
own_units (Stmt-F.Read x y) = 1
own_units (Stmt-F.Write y z) = 1

-- a number for a statement, with those of the statements in it added
abbrev pub added : (Stmt-F ℕ → ℕ) → Stmt → ℕ
added own = fold-Stmt ℕ (λ y. own y + sum (map sum (parts y)))

-- how many statements a statement is, those in its parts counted
abbrev pub statement_count : Stmt → ℕ
statement_count = added (λ y. 1)

abbrev pub function_count : FlatFunc → ℕ
function_count f = sum (map statement_count f.body)

abbrev pub units : FlatFunc → ℕ
units f = 8 + length f.args + length f.results + sum (map (added own_units) f.body)

-- ---- buffers nested in one another

-- the largest of numbers, or 0 where there is none
abbrev pub largest : List ℕ → ℕ
largest [] = 0
largest (n ∷ ns) = max n (largest ns)

-- the bytes of a statement's own buffer
abbrev pub own_bytes : {X : Type 0} → Stmt-F X → ℕ
own_bytes (Stmt-F.Stackalloc x n body) = n
own_bytes (Stmt-F.Lit x n) = 0
own_bytes (Stmt-F.Copy x y) = 0
own_bytes (Stmt-F.Op x op y z) = 0
own_bytes (Stmt-F.Load x size y offset) = 0
own_bytes (Stmt-F.Store size y z offset) = 0
own_bytes (Stmt-F.Table x size bytes y) = 0
own_bytes (Stmt-F.If test first second) = 0
own_bytes (Stmt-F.Loop first test last) = 0
own_bytes (Stmt-F.Call xs g ys) = 0
own_bytes (Stmt-F.Read x y) = 0
own_bytes (Stmt-F.Write y z) = 0

abbrev pub statement_nest : Stmt → ℕ
statement_nest = fold-Stmt ℕ (λ y. own_bytes y + largest (map largest (parts y)))

-- the largest sum of buffer sizes nested in one another in a function
abbrev pub nest : FlatFunc → ℕ
nest f = largest (map statement_nest f.body)

-- ---- what a pass keeps

-- a function in place of another of the same name and counts, no larger and with no other callees
pub record KeptFunction (q p : FlatFunc) : Type 0 where
  pub name : q.name ≡ p.name
  pub args : length q.args ≡ length p.args
  pub results : length q.results ≡ length p.results
  pub units : units q ≤ units p
  pub names : q.names ≤ p.names
  pub nest : nest q ≤ nest p
  pub callees : (g : ℕ) → Contains (callees q) g → Contains (callees p) g

-- each function in place of another
abbrev pub Kept : List FlatFunc → List FlatFunc → Type 0
Kept [] [] = Unit {0}
Kept (q ∷ qs) (p ∷ ps) = KeptFunction q p × Kept qs ps
Kept [] (p ∷ ps) = ⊥
Kept (q ∷ qs) [] = ⊥

-- ---- flat bulk

-- the words of code of a statement, its parts aside
abbrev pub own_words : {X : Type 0} → Stmt-F X → ℕ
own_words (Stmt-F.Lit x n) = 2
own_words (Stmt-F.Copy x y) = 1
own_words (Stmt-F.Op x op y z) = 2
own_words (Stmt-F.Load x size y offset) = 1
own_words (Stmt-F.Store size y z offset) = 1
own_words (Stmt-F.Table x size bytes y) = 4 + words_for (length bytes)
own_words (Stmt-F.Stackalloc x n body) = 3
own_words (Stmt-F.If test first second) = 5
own_words (Stmt-F.Loop first test last) = 5
own_words (Stmt-F.Call xs g ys) = 2
own_words (Stmt-F.Read x y) = 1
own_words (Stmt-F.Write y z) = 1

abbrev pub statement_bulk : Stmt → ℕ
statement_bulk = added own_words

abbrev pub function_bulk : FlatFunc → ℕ
function_bulk f = 96 + sum (map statement_bulk f.body)

-- the most words of code of a program in register form
abbrev pub flat_bulk : List FlatFunc → ℕ
flat_bulk fs = sum (map function_bulk fs)

-- ---- the bytes of stack that a function needs

-- the function numbered f calls the one numbered g
pub record Calls (fs : List FlatFunc) (f g : ℕ) : Type 0 where
  pub caller : FlatFunc
  pub at : slice_get fs f ≡ Some caller
  pub called : Contains (callees caller) g

-- functions of which each calls the next: a path of calls from f to g has at least two
abbrev pub CallPath : List FlatFunc → ℕ → List ℕ → ℕ → Type 0
CallPath fs f [] g = Calls fs f g
CallPath fs f (h ∷ hs) g = Calls fs f h × CallPath fs h hs g

-- no function has a path of calls to itself
abbrev pub HasNoRecursion : List FlatFunc → Type 0
HasNoRecursion fs = (f : ℕ) (between : List ℕ) → CallPath fs f between f → ⊥

-- a word for each name that the function has and one more, and its buffers
abbrev pub own_need : FlatFunc → ℕ
own_need f = 4 * (distinct_count eqb (function_names f) + 1) + nest f

-- What a function needs, and the most that one of its callees needs, where a number that is no word
-- counts as the greatest word. Where no function has a path of calls to itself, a path of calls has
-- no more functions than the program, so a depth of that number is enough.
abbrev pub need_within : ℕ → List FlatFunc → Option FlatFunc → ℕ
need_within zero fs f = 0
need_within (suc depth) fs None = 0
need_within (suc depth) fs (Some f) =
    min 4294967295
    (own_need f + largest (map (λ g. need_within depth fs (slice_get fs g)) (callees f)))

abbrev pub need : List FlatFunc → FlatFunc → ℕ
need fs f = need_within (length fs) fs (Some f)

abbrev pub needs : List FlatFunc → List ℕ
needs fs = map (need fs) fs
