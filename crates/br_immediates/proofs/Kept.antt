-- Functions with constants have the same sizes and callees.
use Rattle.std.proofs.Common.{◌≡◌, ℕ, ◌+◌, ◌≤◌, List, [], ◌∷◌, ◌++◌, map, length, refl, sym, ap, subst, ◌∙◌, arith}
use Rattle.std.specs.Prelude.{sum}
use Rattle.std.specs.List.{flat_map, Contains}
use Rattle.br_flatimp.specs.declared.program.Stmt.{Stmt}
use Rattle.br_flatimp.specs.declared.program.Stmt.TheOpen.{Stmt-F}
use Rattle.br_flatimp.specs.declared.program.FlatFunc.{FlatFunc}
use Rattle.br_flatimp.specs.Parts.{parts, gathered, own_callees, callees}
use Rattle.br_flatimp.specs.Sizes.{own_units, units, largest, own_bytes, nest, KeptFunction, Kept}
use Rattle.br_immediates.specs.Immediates.{no_literals, with_constants, function_with_constants, program_with_constants}
use Rattle.br_immediates.proofs.Turns.{LooksAside, folds-stay}

abbrev units_step : Stmt-F ℕ → ℕ
units_step y = own_units y + sum (map sum (parts y))

units-aside : LooksAside units_step
units-aside known (Stmt-F.Lit x n) = refl
units-aside known (Stmt-F.Copy x y) = refl
units-aside known (Stmt-F.Op x op y z) = refl
units-aside known (Stmt-F.Load x size y offset) = refl
units-aside known (Stmt-F.Store size y z offset) = refl
units-aside known (Stmt-F.Table x size bytes y) = refl
units-aside known (Stmt-F.Stackalloc x n body) = refl
units-aside known (Stmt-F.If test first second) = refl
units-aside known (Stmt-F.Loop first test last) = refl
units-aside known (Stmt-F.Call xs g ys) = refl
units-aside known (Stmt-F.Read x y) = refl
units-aside known (Stmt-F.Write y z) = refl

abbrev nest_step : Stmt-F ℕ → ℕ
nest_step y = own_bytes y + largest (map largest (parts y))

nest-aside : LooksAside nest_step
nest-aside known (Stmt-F.Lit x n) = refl
nest-aside known (Stmt-F.Copy x y) = refl
nest-aside known (Stmt-F.Op x op y z) = refl
nest-aside known (Stmt-F.Load x size y offset) = refl
nest-aside known (Stmt-F.Store size y z offset) = refl
nest-aside known (Stmt-F.Table x size bytes y) = refl
nest-aside known (Stmt-F.Stackalloc x n body) = refl
nest-aside known (Stmt-F.If test first second) = refl
nest-aside known (Stmt-F.Loop first test last) = refl
nest-aside known (Stmt-F.Call xs g ys) = refl
nest-aside known (Stmt-F.Read x y) = refl
nest-aside known (Stmt-F.Write y z) = refl

abbrev callees_step : Stmt-F (List ℕ) → List ℕ
callees_step y = own_callees y ++ flat_map (flat_map (λ xs. xs)) (parts y)

callees-aside : LooksAside callees_step
callees-aside known (Stmt-F.Lit x n) = refl
callees-aside known (Stmt-F.Copy x y) = refl
callees-aside known (Stmt-F.Op x op y z) = refl
callees-aside known (Stmt-F.Load x size y offset) = refl
callees-aside known (Stmt-F.Store size y z offset) = refl
callees-aside known (Stmt-F.Table x size bytes y) = refl
callees-aside known (Stmt-F.Stackalloc x n body) = refl
callees-aside known (Stmt-F.If test first second) = refl
callees-aside known (Stmt-F.Loop first test last) = refl
callees-aside known (Stmt-F.Call xs g ys) = refl
callees-aside known (Stmt-F.Read x y) = refl
callees-aside known (Stmt-F.Write y z) = refl

gathered-all : (cs : List Stmt) → flat_map (gathered own_callees) cs ≡ flat_map (λ xs. xs)
    (map (gathered own_callees) cs)
gathered-all [] = refl
gathered-all (c ∷ cs) = ap (λ ys. gathered own_callees c ++ ys) (gathered-all cs)

callees-same : (f : FlatFunc) → callees (function_with_constants f) ≡ callees f
callees-same f =
    gathered-all (with_constants no_literals f.body)
    ∙ ap (flat_map (λ xs. xs)) (folds-stay callees_step callees-aside no_literals f.body)
    ∙ sym (gathered-all f.body)

not_above : (a b : ℕ) → a ≡ b → a ≤ b
not_above a b e = omega (arith, e)

kept-function : (f : FlatFunc) → KeptFunction (function_with_constants f) f
kept-function f = record {
  name = refl;
  args = refl;
  results = refl;
  units = not_above (units (function_with_constants f)) (units f)
      (ap (λ ns. 8 + length f.args + length f.results + sum ns) (folds-stay units_step units-aside no_literals f.body));
  names = not_above f.names f.names refl;
  nest = not_above (nest (function_with_constants f)) (nest f)
      (ap largest (folds-stay nest_step nest-aside no_literals f.body));
  callees = λ g h. subst (λ gs. Contains gs g) (callees-same f) h;
}

pub all-kept : (fs : List FlatFunc) → Kept (program_with_constants fs) fs
all-kept [] = tt
all-kept (f ∷ fs) = (kept-function f, all-kept fs)
