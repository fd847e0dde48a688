-- Functions without what is not needed are no larger, well formed, and have the same statements that are not
-- removable.
use Rattle.std.proofs.Common.{◌≡◌, ℕ, zero, suc, ◌+◌, ◌<◌, ◌&&◌, ◌||◌, not, Bool, true, List, [], ◌∷◌, ◌++◌}
use Rattle.std.proofs.Common.{length, drop, get_or, append_assoc, refl, sym, ap, subst, ◌∙◌, slice_get}
use Rattle.std.proofs.Math.Path.{fun_ext}
use Rattle.std.specs.List.{list_all, list_any, Contains}
use Rattle.std.specs.Str.{bytes_eq}
use Rattle.br_flatimp.specs.declared.program.Stmt.{Stmt}
use Rattle.br_flatimp.specs.declared.program.Stmt.TheOpen.{Stmt-F}
use Rattle.br_flatimp.specs.declared.program.FlatFunc.{FlatFunc}
use Rattle.br_flatimp.specs.Parts.{throughout}
use Rattle.br_flatimp.specs.Sizes.{KeptFunction, Kept}
use Rattle.br_flatimp.specs.Values.{Names}
use Rattle.br_flatimp.specs.WellFormed.{are_below, all_differ, counts_fit, fits, is_well_formed_statement}
use Rattle.br_flatimp.specs.WellFormed.{is_well_formed_head, is_well_formed_function, names_differ, IsWellFormed}
use Rattle.br_deadcode.specs.LeftOut.{others_step, HasSameOthers, InPairs, MissesNoMore}
use Rattle.br_deadcode.specs.Unneeded.{trimmed, trimmed_function, IsTrimmed}
use Rattle.br_deadcode.proofs.Rounds.{IsLeftOf, next}
use Rattle.br_deadcode.proofs.Sizes.{units_step, NotAbove, SumNotAbove, itself, both_not_above}
use Rattle.br_deadcode.proofs.Sizes.{units-relation, nest_step, LargestNotAbove, nest-relation}
use Rattle.br_deadcode.proofs.Sizes.{callees_step, Among, AllAmong, callees-relation, gathered-all, Same}
use Rattle.br_deadcode.proofs.Sizes.{JoinedSame, others-relation, others-all, and-first, and-second}
use Rattle.br_deadcode.proofs.Sizes.{both, fits_step, Follows, AllFollow, formed-relation, all-made}
use Rattle.br_deadcode.proofs.Trims.{trimmed-related}
use Rattle.br_deadcode.proofs.Trimmed.{trimmed-refines, misses-no_more}

kept-function : (set : Names) (f : FlatFunc) → KeptFunction (trimmed_function set f) f
kept-function set f = record {
  name = refl;
  args = refl;
  results = refl;
  units = both_not_above (8 + length f.args + length f.results) (8 + length f.args + length f.results) _ _
      (itself (8 + length f.args + length f.results))
      (trimmed-related units_step NotAbove SumNotAbove units-relation set f.body);
  names = itself f.names;
  nest = trimmed-related nest_step NotAbove LargestNotAbove nest-relation set f.body;
  callees = λ g h.
      subst (λ xs. Contains xs g) (sym (gathered-all f.body))
      (trimmed-related callees_step Among AllAmong callees-relation set f.body g
      (subst (λ xs. Contains xs g) (gathered-all (trimmed set f.body)) h));
}

trimmed-keeps : (gs fs : List FlatFunc) → InPairs IsTrimmed gs fs → Kept gs fs
trimmed-keeps [] [] are = tt
trimmed-keeps (g ∷ gs) (f ∷ fs) are =
    (subst (λ h. KeptFunction h f) (sym are.0.left) (kept-function are.0.set f), trimmed-keeps gs fs are.1)
trimmed-keeps [] (f ∷ fs) are = absurd are
trimmed-keeps (g ∷ gs) [] are = absurd are

same-others : (set : Names) (f : FlatFunc) → HasSameOthers (trimmed_function set f) f
same-others set f =
    others-all (trimmed set f.body)
    ∙ trimmed-related others_step Same JoinedSame others-relation set f.body
    ∙ sym (others-all f.body)

pairs-of : (R : FlatFunc → FlatFunc → Type 0) → ((g f : FlatFunc) → IsTrimmed g f → R g f)
    → (gs fs : List FlatFunc) → InPairs IsTrimmed gs fs → InPairs R gs fs
pairs-of R each [] [] are = tt
pairs-of R each (g ∷ gs) (f ∷ fs) are = (each g f are.0, pairs-of R each gs fs are.1)
pairs-of R each [] (f ∷ fs) are = absurd are
pairs-of R each (g ∷ gs) [] are = absurd are

pub trimmed-left : (gs fs : List FlatFunc) → InPairs IsTrimmed gs fs → IsLeftOf gs fs
trimmed-left gs fs are = record {
  refines = trimmed-refines gs fs are;
  kept = trimmed-keeps gs fs are;
  others_stay = pairs-of HasSameOthers
      (λ g f is. subst (λ h. HasSameOthers h f) (sym is.left) (same-others is.set f)) gs fs are;
  missed = pairs-of MissesNoMore misses-no_more gs fs are;
}

-- ---- well formed

body-formed : (fs : List FlatFunc) (set : Names) (f : FlatFunc)
    → list_all (is_well_formed_statement fs f.names) f.body ≡ true
    → list_all (is_well_formed_statement fs f.names) (trimmed set f.body) ≡ true
body-formed fs set f h =
    sym (all-made (is_well_formed_statement fs f.names) (trimmed set f.body))
    ∙ trimmed-related (fits_step fs f.names) Follows AllFollow (formed-relation fs f.names) set f.body
    (all-made (is_well_formed_statement fs f.names) f.body ∙ h)

counts-same : (gs fs : List FlatFunc) → InPairs IsTrimmed gs fs → (k n m : ℕ)
    → counts_fit (slice_get gs k) n m ≡ counts_fit (slice_get fs k) n m
counts-same [] [] are k n m = refl
counts-same (g ∷ gs) (f ∷ fs) are zero n m =
    ap (λ (h : FlatFunc). counts_fit (slice_get (h ∷ gs) zero) n m) are.0.left
counts-same (g ∷ gs) (f ∷ fs) are (suc k) n m = counts-same gs fs are.1 k n m
counts-same [] (f ∷ fs) are k n m = absurd are
counts-same (g ∷ gs) [] are k n m = absurd are

fits-same : (gs fs : List FlatFunc) → InPairs IsTrimmed gs fs → (names : ℕ) {X : Type 0} (y : Stmt-F X)
    → fits gs names y ≡ fits fs names y
fits-same gs fs are names (Stmt-F.Lit x n) = refl
fits-same gs fs are names (Stmt-F.Copy x y) = refl
fits-same gs fs are names (Stmt-F.Op x op y z) = refl
fits-same gs fs are names (Stmt-F.Load x size y offset) = refl
fits-same gs fs are names (Stmt-F.Store size y z offset) = refl
fits-same gs fs are names (Stmt-F.Table x size bytes y) = refl
fits-same gs fs are names (Stmt-F.Stackalloc x n body) = refl
fits-same gs fs are names (Stmt-F.If test first second) = refl
fits-same gs fs are names (Stmt-F.Loop first test last) = refl
fits-same gs fs are names (Stmt-F.Call xs g ys) =
    ap (λ b. are_below names xs && are_below names ys && (b && all_differ xs))
    (counts-same gs fs are g (length xs) (length ys))
fits-same gs fs are names (Stmt-F.Read x y) = refl
fits-same gs fs are names (Stmt-F.Write y z) = refl

function-formed : (gs fs : List FlatFunc) → InPairs IsTrimmed gs fs → (set : Names) (f : FlatFunc)
    → is_well_formed_function fs f ≡ true → is_well_formed_function gs (trimmed_function set f) ≡ true
function-formed gs fs are set f h =
    let old = list_all (is_well_formed_statement fs f.names) f.body in
    let left : List Stmt = trimmed set f.body in
    let same : is_well_formed_statement gs f.names ≡ is_well_formed_statement fs f.names =
    ap (λ (t : Stmt-F Bool → Bool). throughout t) (fun_ext (λ y. fits-same gs fs are f.names y)) in
    both (is_well_formed_head f) (list_all (is_well_formed_statement gs f.names) left)
    (and-first (is_well_formed_head f) old h)
    (ap (λ (t : Stmt → Bool). list_all t left) same
    ∙ body-formed fs set f (and-second (is_well_formed_head f) old h))

functions-formed : (gs fs : List FlatFunc) → InPairs IsTrimmed gs fs → (hs is : List FlatFunc)
    → InPairs IsTrimmed hs is → list_all (is_well_formed_function fs) is ≡ true
    → list_all (is_well_formed_function gs) hs ≡ true
functions-formed gs fs are [] [] these h = refl
functions-formed gs fs are (q ∷ qs) (p ∷ ps) these h =
    let one = is_well_formed_function fs p in
    let rest = list_all (is_well_formed_function fs) ps in
    both (is_well_formed_function gs q) (list_all (is_well_formed_function gs) qs)
    (ap (is_well_formed_function gs) these.0.left
    ∙ function-formed gs fs are these.0.set p (and-first one rest h))
    (functions-formed gs fs are qs ps these.1 (and-second one rest h))
functions-formed gs fs are [] (p ∷ ps) these h = absurd these
functions-formed gs fs are (q ∷ qs) [] these h = absurd these

any-same : (name : List ℕ) (gs fs : List FlatFunc) → InPairs IsTrimmed gs fs
    → list_any (λ g. bytes_eq g.name name) gs ≡ list_any (λ g. bytes_eq g.name name) fs
any-same name [] [] are = refl
any-same name (g ∷ gs) (f ∷ fs) are =
    ap (λ (h : FlatFunc). bytes_eq h.name name || list_any (λ g. bytes_eq g.name name) gs) are.0.left
    ∙ ap (λ b. bytes_eq f.name name || b) (any-same name gs fs are.1)
any-same name [] (f ∷ fs) are = absurd are
any-same name (g ∷ gs) [] are = absurd are

names-same : (gs fs : List FlatFunc) → InPairs IsTrimmed gs fs → names_differ gs ≡ names_differ fs
names-same [] [] are = refl
names-same (g ∷ gs) (f ∷ fs) are =
    ap (λ (h : FlatFunc). not (list_any (λ k. bytes_eq k.name h.name) gs) && names_differ gs) are.0.left
    ∙ ap (λ b. not b && names_differ gs) (any-same f.name gs fs are.1)
    ∙ ap (λ b. not (list_any (λ k. bytes_eq k.name f.name) fs) && b) (names-same gs fs are.1)
names-same [] (f ∷ fs) are = absurd are
names-same (g ∷ gs) [] are = absurd are

pub trimmed-formed : (gs fs : List FlatFunc) → InPairs IsTrimmed gs fs → IsWellFormed fs → IsWellFormed gs
trimmed-formed gs fs are h =
    let all = list_all (is_well_formed_function fs) fs in
    both (names_differ gs) (list_all (is_well_formed_function gs) gs)
    (names-same gs fs are ∙ and-first (names_differ fs) all h)
    (functions-formed gs fs are gs fs are (and-second (names_differ fs) all h))

-- ---- functions in turn

-- what was made pairs with the functions so far
pub trimmed-next : (fs made new : List FlatFunc) (i : ℕ) (f g : FlatFunc) → i < length fs → f ≡ get_or fs i f
    → IsTrimmed g f → new ≡ made ++ g ∷ []
    → ((rest : List FlatFunc) → InPairs IsTrimmed rest (drop i fs) → InPairs IsTrimmed (made ++ rest) fs)
    → (rest : List FlatFunc) → InPairs IsTrimmed rest (drop (i + 1) fs) → InPairs IsTrimmed (new ++ rest) fs
trimmed-next fs made new i f g inside is one pushed before rest are =
    subst (λ zs. InPairs IsTrimmed (zs ++ rest) fs) (sym pushed)
    (subst (λ zs. InPairs IsTrimmed zs fs) (sym (append_assoc made (g ∷ []) rest))
    (before (g ∷ rest) (subst (λ zs. InPairs IsTrimmed (g ∷ rest) zs) (sym (next fs i f inside is)) (one, are))))
