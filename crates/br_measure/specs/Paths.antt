-- Which functions of a program call which, and the paths of calls from one to another.
use Rattle.std.specs.Prelude.{◌≡◌, ℕ, List, [], ◌∷◌, ◌++◌, Some, slice_get}
use Rattle.std.specs.List.{flat_map, Contains}
use Rattle.br_syntax.specs.declared.program.Cmd.TheOpen.{Cmd-F}
use Rattle.br_syntax.specs.declared.program.Cmd.TheFolds.{fold-Cmd}
use Rattle.br_syntax.specs.declared.program.Func.{Func}
use Rattle.br_syntax.specs.Functions.{number_named}

abbrev pub joined : List (List (List ℕ)) → List (List ℕ)
joined [] = []
joined (names ∷ rest) = names ++ joined rest

-- the names that a command calls, in the order of the text, given those of the commands in it
abbrev pub callees_step : Cmd-F (List (List ℕ)) → List (List ℕ)
callees_step (Cmd-F.Stackalloc x n body) = joined body
callees_step (Cmd-F.If e first second) = joined first ++ joined second
callees_step (Cmd-F.While e body) = joined body
callees_step (Cmd-F.Seq body) = joined body
callees_step (Cmd-F.Call at xs callee es) = callee ∷ []
callees_step Cmd-F.Skip = []
callees_step (Cmd-F.Set x e) = []
callees_step (Cmd-F.Unset x) = []
callees_step (Cmd-F.Store size a e) = []
callees_step (Cmd-F.Interact at xs action es) = []

-- the names that a function calls in its body
abbrev pub callees : Func → List (List ℕ)
callees f = flat_map (fold-Cmd (List (List ℕ)) callees_step) f.body

-- the function numbered f calls the one numbered g in its body
pub record Calls (fs : List Func) (f g : ℕ) : Type 0 where
  pub caller : Func
  pub at : slice_get fs f ≡ Some caller
  pub name : List ℕ
  pub called : Contains (callees caller) name
  pub named : number_named fs name ≡ Some g

-- functions of which each calls the next: a path of calls from f to g has at least two
abbrev pub CallPath : List Func → ℕ → List ℕ → ℕ → Type 0
CallPath fs f [] g = Calls fs f g
CallPath fs f (h ∷ hs) g = Calls fs f h × CallPath fs h hs g

-- no function has a path of calls to itself
abbrev pub HasNoRecursion : List Func → Type 0
HasNoRecursion fs = (f : ℕ) (between : List ℕ) → CallPath fs f between f → ⊥
