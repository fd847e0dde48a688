-- Functions with other names, and what a renaming has to keep apart.
use Rattle.std.specs.Prelude.{◌≡◌, ℕ, false, List, [], ◌∷◌, map, IsTrue}
use Rattle.std.specs.List.{AllByRecursion}
use Rattle.br_flatimp.specs.declared.program.Operand.{Operand}
use Rattle.br_flatimp.specs.declared.program.Operand.TheVariants as operand
use Rattle.br_flatimp.specs.declared.program.Cond.{Cond}
use Rattle.br_flatimp.specs.declared.program.Cond.TheVariants.{NonZero, Compare}
use Rattle.br_flatimp.specs.declared.program.Stmt.{Stmt}
use Rattle.br_flatimp.specs.declared.program.Stmt.TheOpen.{Stmt-F}
use Rattle.br_flatimp.specs.declared.program.Stmt.TheViews.{roll-Stmt}
use Rattle.br_flatimp.specs.declared.program.Stmt.TheFolds.{fold-Stmt}
use Rattle.br_flatimp.specs.Values.{Locals, Names}
use Rattle.br_flatimp.specs.declared.program.FlatFunc.{FlatFunc}
use Rattle.br_flatimp.specs.Liveness.{is_in, Moment, function_moments}
use Rattle.br_flatimp.specs.Matches.{Beside, IsSameDefined}
use Rattle.br_flatimp.specs.Runs.{State, Forgets}

abbrev pub renamed_operand : (ℕ → ℕ) → Operand → Operand
renamed_operand to (operand.Name y) = operand.Name (to y)
renamed_operand to (operand.Const c) = operand.Const c

abbrev pub renamed_test : (ℕ → ℕ) → Cond → Cond
renamed_test to (NonZero y) = NonZero (to y)
renamed_test to (Compare rel y z) = Compare rel (to y) (to z)

-- a statement with other names, its parts aside
abbrev pub renamed_step : {X : Type 0} → (ℕ → ℕ) → Stmt-F X → Stmt-F X
renamed_step to (Stmt-F.Lit x n) = Stmt-F.Lit (to x) n
renamed_step to (Stmt-F.Copy x y) = Stmt-F.Copy (to x) (to y)
renamed_step to (Stmt-F.Op x op y z) = Stmt-F.Op (to x) op (to y) (renamed_operand to z)
renamed_step to (Stmt-F.Load x size y offset) = Stmt-F.Load (to x) size (to y) offset
renamed_step to (Stmt-F.Store size y z offset) = Stmt-F.Store size (to y) (to z) offset
renamed_step to (Stmt-F.Table x size bytes y) = Stmt-F.Table (to x) size bytes (to y)
renamed_step to (Stmt-F.Stackalloc x n body) = Stmt-F.Stackalloc (to x) n body
renamed_step to (Stmt-F.If test first second) = Stmt-F.If (renamed_test to test) first second
renamed_step to (Stmt-F.Loop first test last) = Stmt-F.Loop first (renamed_test to test) last
renamed_step to (Stmt-F.Call xs g ys) = Stmt-F.Call (map to xs) g (map to ys)
renamed_step to (Stmt-F.Read x y) = Stmt-F.Read (to x) (to y)
renamed_step to (Stmt-F.Write y z) = Stmt-F.Write (to y) (to z)

-- a statement with other names throughout
abbrev pub renamed : (ℕ → ℕ) → Stmt → Stmt
renamed to = fold-Stmt Stmt (λ y. roll-Stmt (renamed_step to y))

-- each live name has the word that it has in the other, where
-- it has one there, maybe by another name
abbrev pub Covers : (ℕ → ℕ) → Names → Locals → Locals → Type 0
Covers to live l m = (x : ℕ) → IsTrue (live x) → IsSameDefined (l (to x)) (m x)

-- no other name of a set gets the new name that a name gets
abbrev pub IsApart : (ℕ → ℕ) → ℕ → Names → Type 0
IsApart to x live = (z : ℕ) → IsTrue (live z) → to z ≡ to x → z ≡ x

-- A statement may be renamed, and its calls may forget names: its written names stay apart from
-- what is live after the write, and what is live after a call and not its result is not forgotten.
pub record Allows (to : ℕ → ℕ) (forgets : Forgets) (m : Moment) : Type 0 where
  pub apart : (x : ℕ) → IsTrue (is_in m.written x) → IsApart to x m.after_write
  pub kept : (g x : ℕ) → IsTrue (is_in m.callees g) → IsTrue (m.after x) → is_in m.written x ≡ false
      → forgets g (to x) ≡ false

-- A function and one with other names throughout. Its arguments get different
-- names, and each statement may be renamed.
pub record RenamedFunction (to : ℕ → ℕ) (forgets : Forgets) (f2 f : FlatFunc) : Type 0 where
  pub name : f2.name ≡ f.name
  pub args : f2.args ≡ map to f.args
  pub results : f2.results ≡ map to f.results
  pub body : f2.body ≡ map (renamed to) f.body
  pub apart : (x : ℕ) → IsTrue (is_in f.args x) → IsApart to x (is_in f.args)
  pub allowed : AllByRecursion (Allows to forgets) (function_moments f)

-- functions, and those with other names, each by a renaming of its own
abbrev pub RenamedFunctions : Forgets → List FlatFunc → List FlatFunc → Type 0
RenamedFunctions forgets [] [] = Unit {0}
RenamedFunctions forgets (f2 ∷ fs2) (f ∷ fs) =
    ((to : ℕ → ℕ) × RenamedFunction to forgets f2 f) × RenamedFunctions forgets fs2 fs
RenamedFunctions forgets [] (f ∷ fs) = ⊥
RenamedFunctions forgets (f2 ∷ fs2) [] = ⊥

-- what is live after a call, and not its result, is not forgotten
pub record ForgetsDead (forgets : Forgets) (m : Moment) : Type 0 where
  pub kept : (g x : ℕ) → IsTrue (is_in m.callees g) → IsTrue (m.after x) → is_in m.written x ≡ false
      → forgets g x ≡ false

-- no function reads a name that one of its calls forgot
abbrev pub ReadsNoForgotten : Forgets → List FlatFunc → Type 0
ReadsNoForgotten forgets =
    AllByRecursion (λ f. AllByRecursion (ForgetsDead forgets) (function_moments f))

-- two states that differ in variables alone, where those of the
-- first cover the live ones of the second
abbrev pub At : (ℕ → ℕ) → Names → State → State → Type 0
At to live = Beside (Covers to live)
