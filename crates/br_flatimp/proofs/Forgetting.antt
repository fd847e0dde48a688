-- Renamed programs, and programs whose calls forget what is not read.
use Rattle.std.proofs.Common.{◌≡◌, ℕ, zero, suc, List, [], ◌∷◌, map, length, refl, sym, ap, subst, ◌∙◌}
use Rattle.std.proofs.lemmas.List.{length-map}
use Rattle.std.specs.List.{AllByRecursion}
use Rattle.br_flatimp.specs.declared.program.Operand.{Operand}
use Rattle.br_flatimp.specs.declared.program.Operand.TheVariants as operand
use Rattle.br_flatimp.specs.declared.program.Cond.{Cond}
use Rattle.br_flatimp.specs.declared.program.Cond.TheVariants.{NonZero, Compare}
use Rattle.br_flatimp.specs.declared.program.Stmt.{Stmt, map-Stmt}
use Rattle.br_flatimp.specs.declared.program.Stmt.TheOpen.{Stmt-F}
use Rattle.br_flatimp.specs.declared.program.Stmt.TheViews.{roll-Stmt}
use Rattle.br_flatimp.specs.declared.program.Stmt.TheFolds.{fold-roll-Stmt, ind-Stmt}
use Rattle.br_flatimp.specs.declared.program.FlatFunc.{FlatFunc}
use Rattle.br_flatimp.specs.Values.{Names}
use Rattle.br_flatimp.specs.Runs.{State, Callee, Forgets, run, run_all}
use Rattle.br_flatimp.specs.Liveness.{Moment, moments, live, function_moments, before, before_all}
use Rattle.br_flatimp.specs.Matches.{SameOutside, Matches, CalleesMatch}
use Rattle.br_flatimp.specs.Refines.{Refines, signature, forgetting}
use Rattle.br_flatimp.specs.Renaming.{renamed_operand, renamed_test, renamed_step, renamed, Allows}
use Rattle.br_flatimp.specs.Renaming.{RenamedFunction, RenamedFunctions, ForgetsDead, ReadsNoForgotten, At}
use Rattle.br_flatimp.proofs.Programs.{EntriesMatch, refines-from_entries}
use Rattle.br_flatimp.proofs.Uniform.{renamed-statement, renamed-all, renamed-function}

-- ---- renamed programs

same-signature : (to : ℕ → ℕ) (forgets : Forgets) (f2 f : FlatFunc) → RenamedFunction to forgets f2 f
    → signature f2 ≡ signature f
same-signature to forgets f2 f how =
    let args : length f2.args ≡ length f.args = ap length how.args ∙ length-map f.args to in
    let results : length f2.results ≡ length f.results = ap length how.results ∙ length-map f.results to in
    let name : f2.name ≡ f.name = how.name in
    cc (args, results, name)

same-signatures : (forgets : Forgets) (qs ps : List FlatFunc) → RenamedFunctions forgets qs ps
    → map signature qs ≡ map signature ps
same-signatures forgets [] [] h = refl
same-signatures forgets (q ∷ qs) (p ∷ ps) h =
    let head : signature q ≡ signature p = same-signature h.0.0 forgets q p h.0.1 in
    let tail : map signature qs ≡ map signature ps = same-signatures forgets qs ps h.1 in
    cc (head, tail)
same-signatures forgets [] (p ∷ ps) h = absurd h
same-signatures forgets (q ∷ qs) [] h = absurd h

renamed-entries : (fq fp : Forgets) (qs ps : List FlatFunc) → RenamedFunctions fq qs ps → EntriesMatch fq fp qs ps
renamed-entries fq fp [] [] h q p callees g vs s t same = tt
renamed-entries fq fp (f2 ∷ qs) (f ∷ ps) h q p callees zero vs s t same =
    renamed-function h.0.0 fq fp q p callees f2 f h.0.1 vs s t same
renamed-entries fq fp (f2 ∷ qs) (f ∷ ps) h q p callees (suc g) vs s t same =
    renamed-entries fq fp qs ps h.1 q p callees g vs s t same
renamed-entries fq fp [] (p ∷ ps) h q r callees g vs s t same = absurd h
renamed-entries fq fp (q ∷ qs) [] h r p callees g vs s t same = absurd h

pub renamed-refines : (fq fp : Forgets) (qs ps : List FlatFunc) → RenamedFunctions fq qs ps
    → Refines (forgetting fq qs) (forgetting fp ps)
renamed-refines fq fp qs ps h =
    refines-from_entries fq fp qs ps (same-signatures fq qs ps h) (renamed-entries fq fp qs ps h)

-- ---- the same names

same_names : (xs : List ℕ) → map (λ x. x) xs ≡ xs
same_names [] = refl
same_names (x ∷ xs) = ap (λ ys. x ∷ ys) (same_names xs)

same_operand : (z : Operand) → renamed_operand (λ x. x) z ≡ z
same_operand (operand.Name y) = refl
same_operand (operand.Const c) = refl

same_test : (t : Cond) → renamed_test (λ x. x) t ≡ t
same_test (NonZero y) = refl
same_test (Compare rel y z) = refl

same_step : {X : Type 0} (y : Stmt-F X) → renamed_step (λ x. x) y ≡ y
same_step (Stmt-F.Lit x n) = refl
same_step (Stmt-F.Copy x y) = refl
same_step (Stmt-F.Op x op y z) = ap (Stmt-F.Op x op y) (same_operand z)
same_step (Stmt-F.Load x size y offset) = refl
same_step (Stmt-F.Store size y z offset) = refl
same_step (Stmt-F.Table x size bytes y) = refl
same_step (Stmt-F.Stackalloc x n body) = refl
same_step (Stmt-F.If test first second) = ap (λ t. Stmt-F.If t first second) (same_test test)
same_step (Stmt-F.Loop first test last) = ap (λ t. Stmt-F.Loop first t last) (same_test test)
same_step (Stmt-F.Call xs g ys) =
    ap (λ l. Stmt-F.Call l g (map (λ x. x) ys)) (same_names xs) ∙ ap (Stmt-F.Call xs g) (same_names ys)
same_step (Stmt-F.Read x y) = refl
same_step (Stmt-F.Write y z) = refl

abbrev Same : Type 0
Same = (c : Stmt) × (renamed (λ x. x) c ≡ c)

same_list : (cs : List Same) → map (renamed (λ x. x)) (map (λ e. e.0) cs) ≡ map (λ e. e.0) cs
same_list [] = refl
same_list (e ∷ cs) = ap (λ c. c ∷ map (renamed (λ x. x)) (map (λ e. e.0) cs)) e.1 ∙ ap (λ l. e.0 ∷ l) (same_list cs)

same_parts : (y : Stmt-F Same)
    → map-Stmt Stmt Stmt (renamed (λ x. x)) (map-Stmt Same Stmt (λ e. e.0) y) ≡ map-Stmt Same Stmt (λ e. e.0) y
same_parts (Stmt-F.Lit x n) = refl
same_parts (Stmt-F.Copy x y) = refl
same_parts (Stmt-F.Op x op y z) = refl
same_parts (Stmt-F.Load x size y offset) = refl
same_parts (Stmt-F.Store size y z offset) = refl
same_parts (Stmt-F.Table x size bytes y) = refl
same_parts (Stmt-F.Stackalloc x n body) = ap (Stmt-F.Stackalloc x n) (same_list body)
same_parts (Stmt-F.If test first second) =
    ap (λ l. Stmt-F.If test l (map (renamed (λ x. x)) (map (λ e. e.0) second))) (same_list first)
    ∙ ap (Stmt-F.If test (map (λ e. e.0) first)) (same_list second)
same_parts (Stmt-F.Loop first test last) =
    ap (λ l. Stmt-F.Loop l test (map (renamed (λ x. x)) (map (λ e. e.0) last))) (same_list first)
    ∙ ap (Stmt-F.Loop (map (λ e. e.0) first) test) (same_list last)
same_parts (Stmt-F.Call xs g ys) = refl
same_parts (Stmt-F.Read x y) = refl
same_parts (Stmt-F.Write y z) = refl

pub renamed-same : (c : Stmt) → renamed (λ x. x) c ≡ c
renamed-same = ind-Stmt (λ c. renamed (λ x. x) c ≡ c) (λ x y is.
    fold-roll-Stmt Stmt (λ z. roll-Stmt (renamed_step (λ x. x) z)) x
    ∙ ap roll-Stmt (same_step (map-Stmt Stmt Stmt (renamed (λ x. x)) x)
    ∙ subst (λ z. map-Stmt Stmt Stmt (renamed (λ x. x)) z ≡ z) is (same_parts y)))

pub renamed_all-same : (cs : List Stmt) → map (renamed (λ x. x)) cs ≡ cs
renamed_all-same [] = refl
renamed_all-same (c ∷ cs) =
    ap (λ d. d ∷ map (renamed (λ x. x)) cs) (renamed-same c) ∙ ap (λ l. c ∷ l) (renamed_all-same cs)

-- ---- forgetting

allows : (forgets : Forgets) (ms : List Moment) → AllByRecursion (ForgetsDead forgets) ms
    → AllByRecursion (Allows (λ x. x) forgets) ms
allows forgets [] h = tt
allows forgets (m ∷ ms) h = (record { apart = λ x i z alive e. e; kept = h.0.kept }, allows forgets ms h.1)

forgotten-function : (forgets : Forgets) (f : FlatFunc) → AllByRecursion (ForgetsDead forgets) (function_moments f)
    → RenamedFunction (λ x. x) forgets f f
forgotten-function forgets f h = record {
  name = refl;
  args = sym (same_names f.args);
  results = sym (same_names f.results);
  body = sym (renamed_all-same f.body);
  apart = λ x i z alive e. e;
  allowed = allows forgets (function_moments f) h;
}

forgotten-functions : (forgets : Forgets) (fs : List FlatFunc) → ReadsNoForgotten forgets fs
    → RenamedFunctions forgets fs fs
forgotten-functions forgets [] h = tt
forgotten-functions forgets (f ∷ fs) h =
    (((λ x. x), forgotten-function forgets f h.0), forgotten-functions forgets fs h.1)

pub forgetting-refines : (forgets others : Forgets) (fs : List FlatFunc) → ReadsNoForgotten forgets fs
    → Refines (forgetting forgets fs) (forgetting others fs)
forgetting-refines forgets others fs h = renamed-refines forgets others fs fs (forgotten-functions forgets fs h)

-- ---- agreement on what is live

pub agree-statement : (fq fp : Forgets) (q p : Callee) → CalleesMatch q p → (c : Stmt) (after : Names) (s t : State)
    → AllByRecursion (ForgetsDead fq) ((live c).moments after) → At (λ x. x) (before c after) s t
    → Matches (At (λ x. x) after) SameOutside (run fq q c s) (run fp p c t)
agree-statement fq fp q p callees c after s t allowed h =
    subst (λ d. Matches (At (λ x. x) after) SameOutside (run fq q d s) (run fp p c t)) (renamed-same c)
    (renamed-statement (λ x. x) fq fp q p callees c after s t (allows fq ((live c).moments after) allowed) h)

pub agree-all : (fq fp : Forgets) (q p : Callee) → CalleesMatch q p → (cs : List Stmt) (after : Names) (s t : State)
    → AllByRecursion (ForgetsDead fq) (moments (map live cs) after) → At (λ x. x) (before_all cs after) s t
    → Matches (At (λ x. x) after) SameOutside (run_all fq q cs s) (run_all fp p cs t)
agree-all fq fp q p callees cs after s t allowed h =
    subst (λ ds. Matches (At (λ x. x) after) SameOutside (run_all fq q ds s) (run_all fp p cs t)) (renamed_all-same cs)
    (renamed-all (λ x. x) fq fp q p (renamed-statement (λ x. x) fq fp q p callees) cs after s t
    (allows fq (moments (map live cs) after) allowed) h)
