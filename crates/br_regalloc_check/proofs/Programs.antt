-- Programs whose functions took new names are well formed and keep their sizes.
use Rattle.std.proofs.Common.{◌≡◌, ℕ, zero, suc, ◌<◌, ◌^◌, ◌&&◌, ◌||◌, ◌==◌, not, inl, inr}
use Rattle.std.proofs.Common.{IsTrue, List, [], ◌∷◌, length, refl, sym, ap, subst, ◌∙◌}
use mathlib.Core.Path.{fun_ext}
use Rattle.std.specs.Prelude.{slice_index, Bool}
use Rattle.std.specs.List.{AllByRecursion, list_all, list_any}
use Rattle.std.specs.Str.{bytes_eq}
use Rattle.std.proofs.lemmas.List.{length-map}
use Rattle.br_flatimp.specs.declared.program.FlatFunc.{FlatFunc}
use Rattle.br_flatimp.specs.declared.program.Proposal.{Proposal}
use Rattle.br_flatimp.specs.declared.program.Stmt.{Stmt}
use Rattle.br_flatimp.specs.declared.program.Stmt.TheOpen.{Stmt-F}
use Rattle.br_flatimp.specs.Parts.{throughout}
use Rattle.br_flatimp.specs.Sizes.{Kept, KeptFunction, function_count}
use Rattle.br_flatimp.specs.WellFormed.{all_differ, are_below, fits, is_well_formed_statement}
use Rattle.br_flatimp.specs.WellFormed.{is_well_formed_head, is_well_formed_function, names_differ, IsWellFormed}
use Rattle.br_regalloc_check.specs.Assigned.{AreAssigned, IsAssigned, KeepLean, KeepsLean}
use Rattle.br_regalloc_check.specs.Walks.{IsFit}
use Rattle.br_regalloc_check.proofs.Checked.{names-below}
use Rattle.br_regalloc_check.proofs.Dead.{none-dead, none-dead-but-copies}
use Rattle.br_regalloc_check.proofs.Formed.{SameCounts, function-fine, function-named, true-le}
use Rattle.br_regalloc_check.proofs.Lists.{and_both, both_and}
use Rattle.br_regalloc_check.proofs.Missed.{none-missed}
use Rattle.br_regalloc_check.proofs.Renames.{bulk-renamed, kept-renamed, kept-same}

pub fit-all : (gs fs : List FlatFunc) → IsTrue (list_all (is_well_formed_function gs) fs)
    → AllByRecursion (λ f. function_count f < 2 ^ 32) fs → AllByRecursion IsFit fs
fit-all gs [] h k = tt
fit-all gs (f ∷ fs) h k =
    let both = and_both (is_well_formed_function gs f) (list_all (is_well_formed_function gs) fs) h in
    let named = function-named gs f both.0 in
    (record { below = named.0; names = true-le f.names 1048576 named.1; count = k.0 }, fit-all gs fs both.1 k.1)

pub program-parts : (fs : List FlatFunc) → IsWellFormed fs
    → IsTrue (names_differ fs) × IsTrue (list_all (is_well_formed_function fs) fs)
program-parts fs h = and_both (names_differ fs) (list_all (is_well_formed_function fs) fs) h

-- ---- counts and names of functions

record Same (q f : FlatFunc) : Type 0 where
  name : q.name ≡ f.name
  args : length q.args ≡ length f.args
  results : length q.results ≡ length f.results

same-one : (q f : FlatFunc) (p : Proposal) → IsAssigned q f p → Same q f
same-one q f p (inl h) = subst (λ g. Same g f) (sym h.1) (record {
  name = refl;
  args = length-map f.args (slice_index p.to);
  results = length-map f.results (slice_index p.to);
})
same-one q f p (inr h) = subst (λ g. Same g f) (sym h.1) (record { name = refl; args = refl; results = refl })

pub same-counts : (qs fs : List FlatFunc) (ps : List Proposal) → AreAssigned qs fs ps → SameCounts qs fs
same-counts [] [] [] h g n m = refl
same-counts (q ∷ qs) (f ∷ fs) (p ∷ ps) h zero n m =
    let same = same-one q f p h.0 in
    ap (λ k. (n == k) && (m == length q.args)) same.results ∙ ap (λ k. (n == length f.results) && (m == k)) same.args
same-counts (q ∷ qs) (f ∷ fs) (p ∷ ps) h (suc g) n m = same-counts qs fs ps h.1 g n m
same-counts [] [] (p ∷ ps) h g n m = absurd h
same-counts [] (f ∷ fs) ps h g n m = absurd h
same-counts (q ∷ qs) [] ps h g n m = absurd h
same-counts (q ∷ qs) (f ∷ fs) [] h g n m = absurd h

any-same : (name : List ℕ) (qs fs : List FlatFunc) (ps : List Proposal) → AreAssigned qs fs ps
    → list_any (λ g. bytes_eq g.name name) qs ≡ list_any (λ g. bytes_eq g.name name) fs
any-same name [] [] [] h = refl
any-same name (q ∷ qs) (f ∷ fs) (p ∷ ps) h =
    ap (λ n. bytes_eq n name || list_any (λ g. bytes_eq g.name name) qs) (same-one q f p h.0).name
    ∙ ap (λ b. bytes_eq f.name name || b) (any-same name qs fs ps h.1)
any-same name [] [] (p ∷ ps) h = absurd h
any-same name [] (f ∷ fs) ps h = absurd h
any-same name (q ∷ qs) [] ps h = absurd h
any-same name (q ∷ qs) (f ∷ fs) [] h = absurd h

names-same : (qs fs : List FlatFunc) (ps : List Proposal) → AreAssigned qs fs ps → names_differ qs ≡ names_differ fs
names-same [] [] [] h = refl
names-same (q ∷ qs) (f ∷ fs) (p ∷ ps) h =
    ap (λ n. not (list_any (λ g. bytes_eq g.name n) qs) && names_differ qs) (same-one q f p h.0).name
    ∙ ap (λ b. not b && names_differ qs) (any-same f.name qs fs ps h.1)
    ∙ ap (λ b. not (list_any (λ g. bytes_eq g.name f.name) fs) && b) (names-same qs fs ps h.1)
names-same [] [] (p ∷ ps) h = absurd h
names-same [] (f ∷ fs) ps h = absurd h
names-same (q ∷ qs) [] ps h = absurd h
names-same (q ∷ qs) (f ∷ fs) [] h = absurd h

-- ---- functions

fits-same : (qs fs : List FlatFunc) → SameCounts qs fs → (n : ℕ) {X : Type 0} (y : Stmt-F X) → fits qs n y ≡ fits fs n y
fits-same qs fs same n (Stmt-F.Lit x k) = refl
fits-same qs fs same n (Stmt-F.Copy x y) = refl
fits-same qs fs same n (Stmt-F.Op x op y z) = refl
fits-same qs fs same n (Stmt-F.Load x size y offset) = refl
fits-same qs fs same n (Stmt-F.Store size y z offset) = refl
fits-same qs fs same n (Stmt-F.Table x size bytes y) = refl
fits-same qs fs same n (Stmt-F.Stackalloc x k body) = refl
fits-same qs fs same n (Stmt-F.If test first second) = refl
fits-same qs fs same n (Stmt-F.Loop first test last) = refl
fits-same qs fs same n (Stmt-F.Call xs g ys) =
    ap (λ b. are_below n xs && are_below n ys && (b && all_differ xs)) (same g (length xs) (length ys))
fits-same qs fs same n (Stmt-F.Read x y) = refl
fits-same qs fs same n (Stmt-F.Write y z) = refl

formed-same : (qs fs : List FlatFunc) → SameCounts qs fs → (n : ℕ)
    → is_well_formed_statement qs n ≡ is_well_formed_statement fs n
formed-same qs fs same n = ap (λ (t : Stmt-F Bool → Bool). throughout t) (fun_ext (λ y. fits-same qs fs same n y))

kept-formed : (qs fs : List FlatFunc) → SameCounts qs fs → (f : FlatFunc) → IsTrue (is_well_formed_function fs f)
    → IsTrue (is_well_formed_function qs f)
kept-formed qs fs same f h =
    ap (λ (t : Stmt → Bool). is_well_formed_head f && list_all t f.body) (formed-same qs fs same f.names) ∙ h

one-formed : (qs fs : List FlatFunc) → SameCounts qs fs → (q f : FlatFunc) (p : Proposal) → IsAssigned q f p
    → IsTrue (is_well_formed_function fs f) → IsTrue (is_well_formed_function qs q)
one-formed qs fs same q f p (inl h) k =
    subst (λ g. IsTrue (is_well_formed_function qs g)) (sym h.1) (function-fine qs fs same f p.to k h.0)
one-formed qs fs same q f p (inr h) k =
    subst (λ g. IsTrue (is_well_formed_function qs g)) (sym h.1) (kept-formed qs fs same f k)

all-formed : (os is : List FlatFunc) → SameCounts os is → (qs fs : List FlatFunc) (ps : List Proposal)
    → AreAssigned qs fs ps → IsTrue (list_all (is_well_formed_function is) fs)
    → IsTrue (list_all (is_well_formed_function os) qs)
all-formed os is same [] [] [] h k = refl
all-formed os is same (q ∷ qs) (f ∷ fs) (p ∷ ps) h k =
    let both = and_both (is_well_formed_function is f) (list_all (is_well_formed_function is) fs) k in
    both_and (is_well_formed_function os q) (list_all (is_well_formed_function os) qs)
    (one-formed os is same q f p h.0 both.0) (all-formed os is same qs fs ps h.1 both.1)
all-formed os is same [] [] (p ∷ ps) h k = absurd h
all-formed os is same [] (f ∷ fs) ps h k = absurd h
all-formed os is same (q ∷ qs) [] ps h k = absurd h
all-formed os is same (q ∷ qs) (f ∷ fs) [] h k = absurd h

pub program-formed : (qs fs : List FlatFunc) (ps : List Proposal) → AreAssigned qs fs ps → IsWellFormed fs
    → IsWellFormed qs
program-formed qs fs ps h k =
    let parts = program-parts fs k in
    both_and (names_differ qs) (list_all (is_well_formed_function qs) qs) (names-same qs fs ps h ∙ parts.0)
    (all-formed qs fs (same-counts qs fs ps h) qs fs ps h parts.1)

-- ---- sizes

one-kept : (is : List FlatFunc) (q f : FlatFunc) (p : Proposal) → IsAssigned q f p
    → IsTrue (is_well_formed_function is f) → KeptFunction q f
one-kept is q f p (inl h) k =
    subst (λ g. KeptFunction g f) (sym h.1)
    (kept-renamed f p.to h.0.count h.0.below (names-below f.names f (function-named is f k).0))
one-kept is q f p (inr h) k = subst (λ g. KeptFunction g f) (sym h.1) (kept-same f)

pub all-kept : (is qs fs : List FlatFunc) (ps : List Proposal) → AreAssigned qs fs ps
    → IsTrue (list_all (is_well_formed_function is) fs) → Kept qs fs
all-kept is [] [] [] h k = tt
all-kept is (q ∷ qs) (f ∷ fs) (p ∷ ps) h k =
    let both = and_both (is_well_formed_function is f) (list_all (is_well_formed_function is) fs) k in
    (one-kept is q f p h.0 both.0, all-kept is qs fs ps h.1 both.1)
all-kept is [] [] (p ∷ ps) h k = absurd h
all-kept is [] (f ∷ fs) ps h k = absurd h
all-kept is (q ∷ qs) [] ps h k = absurd h
all-kept is (q ∷ qs) (f ∷ fs) [] h k = absurd h

-- ---- operands and dead statements

one-lean : (q f : FlatFunc) (p : Proposal) → IsAssigned q f p → KeepsLean q f
one-lean q f p (inl h) =
    let to = slice_index p.to in
    subst (λ g. KeepsLean g f) (sym h.1) (record {
      none_missed = none-missed to f h.0.written;
      none_dead = none-dead to f h.0.written;
      none_dead_but_copies = none-dead-but-copies to f h.0.written;
      bulk = bulk-renamed to f;
    })
one-lean q f p (inr h) =
    subst (λ g. KeepsLean g f) (sym h.1)
    (record { none_missed = λ k. k; none_dead = λ k. k; none_dead_but_copies = λ k. k; bulk = refl })

pub all-lean : (qs fs : List FlatFunc) (ps : List Proposal) → AreAssigned qs fs ps → KeepLean qs fs
all-lean [] [] [] h = tt
all-lean (q ∷ qs) (f ∷ fs) (p ∷ ps) h = (one-lean q f p h.0, all-lean qs fs ps h.1)
all-lean [] [] (p ∷ ps) h = absurd h
all-lean [] (f ∷ fs) ps h = absurd h
all-lean (q ∷ qs) [] ps h = absurd h
all-lean (q ∷ qs) (f ∷ fs) [] h = absurd h
