-- The functions of a program in which no name is at fault have different names, so that each is the first of
-- its name.
use Rattle.std.proofs.Common.{◌≡◌, ◌||◌, ◌&&◌, not, Bool, true, false, if◌then◌else◌, cond, List, [], ◌∷◌}
use Rattle.std.proofs.Common.{◌++◌, map, Some, None, is_some, refl, sym, ap, subst, ◌∙◌, append_assoc}
use Rattle.std.specs.List.{list_any}
use Rattle.std.specs.Str.{bytes_eq}
use Rattle.std.proofs.lemmas.List.{append-nil, map-append}
use Rattle.std.proofs.lemmas.Slice.Eq.{bytes_eq-Decides}
use Rattle.br_syntax.specs.declared.program.Func.{Func}
use Rattle.br_syntax.specs.Functions.{function_named}
use Rattle.br_syntax.specs.NameFaults.{NameFault, DuplicateFunction, UnknownFunction, WrongArguments}
use Rattle.br_syntax.specs.NameFaults.{WrongResults, UnknownAction, duplicates_after}
use Rattle.br_source_meaning.specs.Values.{Name}
use Rattle.br_flatimp.specs.declared.program.FlatFunc.{FlatFunc}
use Rattle.br_flatimp.specs.WellFormed.{names_differ}
use Rattle.br_flatten.specs.Flatten.{is_listed}
use Rattle.br_flatten.specs.Places.{with_name, with_names}
use Rattle.br_flatten.specs.Programs.{IsFlat, AreFlat}
use Rattle.br_flatten.proofs.Commands.{none-first, none-second}

abbrev pub duplicates : List Func → List Func → List NameFault
duplicates = duplicates_after NameFault DuplicateFunction UnknownFunction WrongArguments WrongResults UnknownAction

new-name : (earlier : List Func) (f : Func) → (if is_some (function_named earlier f.name)
    then DuplicateFunction f.at ∷ [] else []) ≡ [] → is_some (function_named earlier f.name) ≡ false
new-name earlier f e = by (is_some (function_named earlier f.name)) e
  where
    by : (b : Bool) → (if b then DuplicateFunction f.at ∷ [] else []) ≡ [] → b ≡ false
    by true e = absurd (cc e)
    by false e = refl

-- ---- the functions of a name among more

named-kept : (earlier later : List Func) (x : Name) → is_some (function_named earlier x) ≡ true
    → is_some (function_named (earlier ++ later) x) ≡ true
named-kept [] later x e = absurd (cc e)
named-kept (f ∷ fs) later x e = by (bytes_eq f.name x) (named-kept fs later x) e
  where
    by : (b : Bool) → (is_some (function_named fs x) ≡ true → is_some (function_named (fs ++ later) x) ≡ true)
        → is_some (cond b (Some f) (function_named fs x)) ≡ true
        → is_some (cond b (Some f) (function_named (fs ++ later) x)) ≡ true
    by true again e = refl
    by false again e = again e

named-last : (earlier : List Func) (f : Func) → is_some (function_named (earlier ++ f ∷ []) f.name) ≡ true
named-last [] f =
    let same : bytes_eq f.name f.name ≡ true = (bytes_eq-Decides f.name f.name).1 refl in
    ap (λ b. is_some (cond b (Some f) None)) same
named-last (g ∷ gs) f = by (bytes_eq g.name f.name) (named-last gs f)
  where
    by : (b : Bool) → is_some (function_named (gs ++ f ∷ []) f.name) ≡ true
        → is_some (cond b (Some g) (function_named (gs ++ f ∷ []) f.name)) ≡ true
    by true e = refl
    by false e = e

listed-named : (fs : List Func) (x : Name) → is_listed (map (λ f. f.name) fs) x ≡ is_some (function_named fs x)
listed-named [] x = refl
listed-named (f ∷ fs) x = by (bytes_eq f.name x) (listed-named fs x)
  where
    by : (b : Bool) → is_listed (map (λ f. f.name) fs) x ≡ is_some (function_named fs x)
        → (b || is_listed (map (λ f. f.name) fs) x) ≡ is_some (cond b (Some f) (function_named fs x))
    by true e = refl
    by false e = e

-- ---- names that differ

no-later : (earlier fs : List Func) (x : Name) → is_some (function_named earlier x) ≡ true → duplicates earlier fs ≡ []
    → list_any (λ n. bytes_eq n x) (map (λ f. f.name) fs) ≡ false
no-later earlier [] x there none = refl
no-later earlier (g ∷ gs) x there none =
    let fresh = new-name earlier g (none-first (if is_some (function_named earlier g.name)
    then DuplicateFunction g.at ∷ [] else []) (duplicates (earlier ++ g ∷ []) gs) none) in
    let after = none-second (if is_some (function_named earlier g.name) then DuplicateFunction g.at ∷ [] else [])
    (duplicates (earlier ++ g ∷ []) gs) none in
    by fresh (no-later (earlier ++ g ∷ []) gs x (named-kept earlier (g ∷ []) x there) after) (bytes_eq g.name x) refl
  where
    by : is_some (function_named earlier g.name) ≡ false → list_any (λ n. bytes_eq n x) (map (λ f. f.name) gs) ≡ false
        → (b : Bool) → bytes_eq g.name x ≡ b → (b || list_any (λ n. bytes_eq n x) (map (λ f. f.name) gs)) ≡ false
    by fresh rest true e =
        let same : g.name ≡ x = (bytes_eq-Decides g.name x).0 e in
        let again = subst (λ y. is_some (function_named earlier y) ≡ true) (sym same) there in
        absurd (cc (again, fresh))
    by fresh rest false e = rest

-- the names of flat functions, which are those of their sources

same-name : (fs : List Func) (f : Func) (q : FlatFunc) → IsFlat fs f q → q.name ≡ f.name
same-name fs f q flat = ap (λ (p : FlatFunc). p.name) flat.is

others : (fs gs : List Func) (qs : List FlatFunc) (f : Func) (q : FlatFunc) → q.name ≡ f.name → AreFlat fs gs qs
    → list_any (λ g. bytes_eq g.name q.name) qs ≡ list_any (λ n. bytes_eq n f.name) (map (λ g. g.name) gs)
others fs [] [] f q same flat = refl
others fs [] (p ∷ qs) f q same flat = absurd flat
others fs (g ∷ gs) [] f q same flat = absurd flat
others fs (g ∷ gs) (p ∷ qs) f q same flat =
    ap (λ n. bytes_eq n q.name || list_any (λ g. bytes_eq g.name q.name) qs) (same-name fs g p flat.0)
    ∙ ap (λ n. bytes_eq g.name n || list_any (λ g. bytes_eq g.name q.name) qs) same
    ∙ ap (λ b. bytes_eq g.name f.name || b) (others fs gs qs f q same flat.1)

pub flat-names-differ : (fs earlier gs : List Func) (qs : List FlatFunc) → AreFlat fs gs qs → duplicates earlier gs ≡ []
    → names_differ qs ≡ true
flat-names-differ fs earlier [] [] flat none = refl
flat-names-differ fs earlier [] (q ∷ qs) flat none = absurd flat
flat-names-differ fs earlier (f ∷ gs) [] flat none = absurd flat
flat-names-differ fs earlier (f ∷ gs) (q ∷ qs) flat none =
    let after = none-second (if is_some (function_named earlier f.name) then DuplicateFunction f.at ∷ [] else [])
    (duplicates (earlier ++ f ∷ []) gs) none in
    let other = others fs gs qs f q (same-name fs f q flat.0) flat.1
    ∙ no-later (earlier ++ f ∷ []) gs f.name (named-last earlier f) after in
    ap (λ b. not b && names_differ qs) other ∙ flat-names-differ fs (earlier ++ f ∷ []) gs qs flat.1 after

-- ---- the numbers of functions by name

added : (earlier fs : List Func) → duplicates earlier fs ≡ []
    → with_names (map (λ f. f.name) earlier) (map (λ f. f.name) fs) ≡ map (λ f. f.name) earlier ++ map (λ f. f.name) fs
added earlier [] none = sym (append-nil (map (λ f. f.name) earlier))
added earlier (f ∷ fs) none =
    let fresh = new-name earlier f (none-first (if is_some (function_named earlier f.name)
    then DuplicateFunction f.at ∷ [] else []) (duplicates (earlier ++ f ∷ []) fs) none) in
    let after = none-second (if is_some (function_named earlier f.name) then DuplicateFunction f.at ∷ [] else [])
    (duplicates (earlier ++ f ∷ []) fs) none in
    let names = map (λ f. f.name) earlier in
    let one : with_name names f.name ≡ names ++ f.name ∷ [] =
    ap (λ b. if b then names else names ++ f.name ∷ []) (listed-named earlier f.name ∙ fresh) in
    let whole : names ++ f.name ∷ [] ≡ map (λ f. f.name) (earlier ++ f ∷ []) =
    sym (map-append (λ (f : Func). f.name) earlier (f ∷ [])) in
    ap (λ ns. with_names ns (map (λ f. f.name) fs)) (one ∙ whole) ∙ added (earlier ++ f ∷ []) fs after
    ∙ ap (λ ns. ns ++ map (λ f. f.name) fs) (sym whole) ∙ append_assoc names (f.name ∷ []) (map (λ f. f.name) fs)

pub all-names : (fs : List Func) → duplicates [] fs ≡ [] → with_names [] (map (λ f. f.name) fs) ≡ map (λ f. f.name) fs
all-names = added []
