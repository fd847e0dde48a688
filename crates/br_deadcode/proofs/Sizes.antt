-- What is left of a program has no greater sizes and no other callees, is well formed, and has the same
-- statements that are not removable.
use Rattle.std.proofs.Common.{◌≡◌, ℕ, zero, suc, ◌+◌, ◌≤◌, ◌&&◌, Bool, true, false, List, [], ◌∷◌, ◌++◌}
use Rattle.std.proofs.Common.{map, length, inl, inr, max, sum, refl, sym, ap, subst, ◌∙◌, arith, slice_get}
use Rattle.std.proofs.Math.Path.{fun_ext}
use Rattle.std.specs.List.{flat_map, list_all, list_any, Contains}
use Rattle.std.specs.Str.{bytes_eq}
use Rattle.std.proofs.lemmas.List.Elements.{Contains-append_left, Contains-append_right, Contains-append_cases}
use Rattle.br_flatimp.specs.declared.program.Stmt.{Stmt}
use Rattle.br_flatimp.specs.declared.program.Stmt.TheOpen.{Stmt-F}
use Rattle.br_flatimp.specs.declared.program.Stmt.TheViews.{roll-Stmt}
use Rattle.br_flatimp.specs.declared.program.FlatFunc.{FlatFunc}
use Rattle.br_flatimp.specs.Parts.{parts, gathered, own_callees, throughout}
use Rattle.br_flatimp.specs.Liveness.{is_in, is_removable}
use Rattle.br_flatimp.specs.Sizes.{own_units, units, largest, own_bytes, nest, KeptFunction, Kept}
use Rattle.br_flatimp.specs.WellFormed.{are_below, all_differ, counts_fit, fits, is_well_formed_statement}
use Rattle.br_flatimp.specs.WellFormed.{is_well_formed_head, is_well_formed_function, names_differ, IsWellFormed}
use Rattle.br_deadcode.specs.Sweeps.{left_of, swept_function, swept_program}
use Rattle.br_deadcode.specs.LeftOut.{joined, others_step, others, HasSameOthers, InPairs}
use Rattle.br_deadcode.proofs.Sums.{sum_cons}
use Rattle.br_deadcode.proofs.Relates.{Relation, left-related}

-- ---- units

abbrev pub units_step : Stmt-F ℕ → ℕ
units_step y = own_units y + sum (map sum (parts y))

abbrev pub NotAbove : ℕ → ℕ → Type 0
NotAbove x y = x ≤ y

abbrev pub SumNotAbove : List ℕ → List ℕ → Type 0
SumNotAbove xs ys = sum xs ≤ sum ys

one_sum : (k m n : ℕ) → m ≤ n → k + (0 + m) ≤ k + (0 + n)
one_sum k m n h = omega arith

two_sums : (k m n i j : ℕ) → m ≤ n → i ≤ j → k + ((0 + m) + i) ≤ k + ((0 + n) + j)
two_sums k m n i j h g = omega arith

pub both_not_above : (x y m n : ℕ) → x ≤ y → m ≤ n → x + m ≤ y + n
both_not_above x y m n h g = omega arith

sums-cons : (x y : ℕ) (xs ys : List ℕ) → x ≤ y → sum xs ≤ sum ys → sum (x ∷ xs) ≤ sum (y ∷ ys)
sums-cons x y xs ys h g = let a = sum_cons x xs in let b = sum_cons y ys in omega (arith, a, b, h, g)

sums-skip : (y : ℕ) (xs ys : List ℕ) → sum xs ≤ sum ys → sum xs ≤ sum (y ∷ ys)
sums-skip y xs ys h = let b = sum_cons y ys in omega (arith, b, h)

pub itself : (n : ℕ) → n ≤ n
itself n = omega arith

pub units-relation : Relation units_step NotAbove SumNotAbove
units-relation = record {
  same = itself;
  nil = itself 0;
  cons = λ x y xs ys h g. sums-cons x y xs ys h g;
  skip = λ y xs ys e h. sums-skip (units_step y) xs ys h;
  buffer = λ x n xs ys h. one_sum 1 (sum xs) (sum ys) h;
  choice = λ test xs ys us vs h g. two_sums 1 (sum xs) (sum ys) (sum us) (sum vs) h g;
  turns = λ test xs ys us vs h g. two_sums 1 (sum xs) (sum ys) (sum us) (sum vs) h g;
}

-- ---- buffers

abbrev pub nest_step : Stmt-F ℕ → ℕ
nest_step y = own_bytes y + largest (map largest (parts y))

abbrev pub LargestNotAbove : List ℕ → List ℕ → Type 0
LargestNotAbove xs ys = largest xs ≤ largest ys

one_largest : (k m n : ℕ) → m ≤ n → k + max m 0 ≤ k + max n 0
one_largest k m n h = omega arith

two_largest : (m n i j : ℕ) → m ≤ n → i ≤ j → 0 + max m (max i 0) ≤ 0 + max n (max j 0)
two_largest m n i j h g = omega arith

both_largest : (x y m n : ℕ) → x ≤ y → m ≤ n → max x m ≤ max y n
both_largest x y m n h g = omega arith

more_largest : (k m n : ℕ) → m ≤ n → m ≤ max k n
more_largest k m n h = omega arith

pub nest-relation : Relation nest_step NotAbove LargestNotAbove
nest-relation = record {
  same = itself;
  nil = itself 0;
  cons = λ x y xs ys h g. both_largest x y (largest xs) (largest ys) h g;
  skip = λ y xs ys e h. more_largest (nest_step y) (largest xs) (largest ys) h;
  buffer = λ x n xs ys h. one_largest n (largest xs) (largest ys) h;
  choice = λ test xs ys us vs h g. two_largest (largest xs) (largest ys) (largest us) (largest vs) h g;
  turns = λ test xs ys us vs h g. two_largest (largest xs) (largest ys) (largest us) (largest vs) h g;
}

-- ---- callees

abbrev all_items : List (List ℕ) → List ℕ
all_items = flat_map (λ xs. xs)

abbrev pub callees_step : Stmt-F (List ℕ) → List ℕ
callees_step y = own_callees y ++ flat_map all_items (parts y)

abbrev pub Among : List ℕ → List ℕ → Type 0
Among xs ys = (g : ℕ) → Contains xs g → Contains ys g

abbrev pub AllAmong : List (List ℕ) → List (List ℕ) → Type 0
AllAmong xs ys = Among (all_items xs) (all_items ys)

among-both : (xs ys us vs : List ℕ) → Among xs ys → Among us vs → Among (xs ++ us) (ys ++ vs)
among-both xs ys us vs h k g is =
    elim (Contains-append_cases xs us g is) as (λ w. Contains (ys ++ vs) g) [
      | inl l ↦ Contains-append_left ys vs g (h g l)
      | inr r ↦ Contains-append_right ys vs g (k g r)
    ]

among-itself : (xs : List ℕ) → Among xs xs
among-itself xs g h = h

pub callees-relation : Relation callees_step Among AllAmong
callees-relation = record {
  same = among-itself;
  nil = among-itself [];
  cons = λ x y xs ys h g. among-both x y (all_items xs) (all_items ys) h g;
  skip = λ y xs ys e h. λ g is. Contains-append_right (callees_step y) (all_items ys) g (h g is);
  buffer = λ x n xs ys h. among-both (all_items xs) (all_items ys) [] [] h (among-itself []);
  choice = λ test xs ys us vs h g.
      among-both (all_items xs) (all_items ys) (all_items us ++ []) (all_items vs ++ []) h
      (among-both (all_items us) (all_items vs) [] [] g (among-itself []));
  turns = λ test xs ys us vs h g.
      among-both (all_items xs) (all_items ys) (all_items us ++ []) (all_items vs ++ []) h
      (among-both (all_items us) (all_items vs) [] [] g (among-itself []));
}

-- ---- sizes of functions

pub gathered-all : (cs : List Stmt) → flat_map (gathered own_callees) cs ≡ all_items (map (gathered own_callees) cs)
gathered-all [] = refl
gathered-all (c ∷ cs) = ap (λ ys. gathered own_callees c ++ ys) (gathered-all cs)

kept-function : (f : FlatFunc) → KeptFunction (swept_function f) f
kept-function f = record {
  name = refl;
  args = refl;
  results = refl;
  units = both_not_above (8 + length f.args + length f.results) (8 + length f.args + length f.results) _ _
      (itself (8 + length f.args + length f.results))
      (left-related units_step NotAbove SumNotAbove units-relation f.body (is_in f.results));
  names = itself f.names;
  nest = left-related nest_step NotAbove LargestNotAbove nest-relation f.body (is_in f.results);
  callees = λ g h.
      subst (λ xs. Contains xs g) (sym (gathered-all f.body))
      (left-related callees_step Among AllAmong callees-relation f.body (is_in f.results) g
      (subst (λ xs. Contains xs g) (gathered-all (left_of f.body (is_in f.results))) h));
}

pub sweep-keeps : (fs : List FlatFunc) → Kept (swept_program fs) fs
sweep-keeps [] = tt
sweep-keeps (f ∷ fs) = (kept-function f, sweep-keeps fs)

not-above-trans : (a b c : ℕ) → a ≤ b → b ≤ c → a ≤ c
not-above-trans a b c h k = omega arith

kept-function-trans : (r q p : FlatFunc) → KeptFunction r q → KeptFunction q p → KeptFunction r p
kept-function-trans r q p h k = record {
  name = h.name ∙ k.name;
  args = h.args ∙ k.args;
  results = h.results ∙ k.results;
  units = not-above-trans (units r) (units q) (units p) h.units k.units;
  names = not-above-trans r.names q.names p.names h.names k.names;
  nest = not-above-trans (nest r) (nest q) (nest p) h.nest k.nest;
  callees = λ g is. k.callees g (h.callees g is);
}

pub kept-trans : (rs qs ps : List FlatFunc) → Kept rs qs → Kept qs ps → Kept rs ps
kept-trans [] [] [] h k = tt
kept-trans (r ∷ rs) (q ∷ qs) (p ∷ ps) h k = (kept-function-trans r q p h.0 k.0, kept-trans rs qs ps h.1 k.1)
kept-trans [] [] (p ∷ ps) h k = absurd k
kept-trans [] (q ∷ qs) ps h k = absurd h
kept-trans (r ∷ rs) [] ps h k = absurd h
kept-trans (r ∷ rs) (q ∷ qs) [] h k = absurd k

pub kept-itself : (fs : List FlatFunc) → Kept fs fs
kept-itself [] = tt
kept-itself (f ∷ fs) = (
  record {
    name = refl;
    args = refl;
    results = refl;
    units = itself (units f);
    names = itself f.names;
    nest = itself (nest f);
    callees = λ g h. h;
  },
  kept-itself fs,
)

-- ---- other statements

none-other : (y : Stmt-F (List Stmt)) → is_removable y ≡ true → others_step y ≡ []
none-other (Stmt-F.Lit x n) h = refl
none-other (Stmt-F.Copy x y) h = refl
none-other (Stmt-F.Op x op y z) h = refl
none-other (Stmt-F.Load x size y offset) h = refl
none-other (Stmt-F.Table x size bytes y) h = refl
none-other (Stmt-F.Store size y z offset) h = absurd (cc h)
none-other (Stmt-F.Stackalloc x n body) h = absurd (cc h)
none-other (Stmt-F.If test first second) h = absurd (cc h)
none-other (Stmt-F.Loop first test last) h = absurd (cc h)
none-other (Stmt-F.Call xs g ys) h = absurd (cc h)
none-other (Stmt-F.Read x y) h = absurd (cc h)
none-other (Stmt-F.Write y z) h = absurd (cc h)

abbrev pub Same : List Stmt → List Stmt → Type 0
Same xs ys = xs ≡ ys

abbrev pub JoinedSame : List (List Stmt) → List (List Stmt) → Type 0
JoinedSame xs ys = joined xs ≡ joined ys

pub others-relation : Relation others_step Same JoinedSame
others-relation = record {
  same = λ x. refl;
  nil = refl;
  cons = λ x y xs ys h g. ap (λ zs. zs ++ joined xs) h ∙ ap (λ zs. y ++ zs) g;
  skip = λ y xs ys e h. h ∙ ap (λ zs. zs ++ joined ys) (sym (none-other y e));
  buffer = λ x n xs ys h. ap (λ zs. roll-Stmt (Stmt-F.Stackalloc x n zs) ∷ []) h;
  choice = λ test xs ys us vs h g.
      ap (λ zs. roll-Stmt (Stmt-F.If test zs (joined us)) ∷ []) h
      ∙ ap (λ zs. roll-Stmt (Stmt-F.If test (joined ys) zs) ∷ []) g;
  turns = λ test xs ys us vs h g.
      ap (λ zs. roll-Stmt (Stmt-F.Loop zs test (joined us)) ∷ []) h
      ∙ ap (λ zs. roll-Stmt (Stmt-F.Loop (joined ys) test zs) ∷ []) g;
}

pub others-all : (cs : List Stmt) → flat_map others cs ≡ joined (map others cs)
others-all [] = refl
others-all (c ∷ cs) = ap (λ ys. others c ++ ys) (others-all cs)

same-others : (f : FlatFunc) → HasSameOthers (swept_function f) f
same-others f =
    others-all (left_of f.body (is_in f.results))
    ∙ left-related others_step Same JoinedSame others-relation f.body (is_in f.results)
    ∙ sym (others-all f.body)

pub others-stay : (fs : List FlatFunc) → InPairs HasSameOthers (swept_program fs) fs
others-stay [] = tt
others-stay (f ∷ fs) = (same-others f, others-stay fs)

-- ---- pairs of functions

pub pairs-itself : (R : FlatFunc → FlatFunc → Type 0) → ((f : FlatFunc) → R f f) → (fs : List FlatFunc)
    → InPairs R fs fs
pairs-itself R same [] = tt
pairs-itself R same (f ∷ fs) = (same f, pairs-itself R same fs)

pub pairs-trans : (R : FlatFunc → FlatFunc → Type 0) → ((r q p : FlatFunc) → R r q → R q p → R r p)
    → (rs qs ps : List FlatFunc) → InPairs R rs qs → InPairs R qs ps → InPairs R rs ps
pairs-trans R trans [] [] [] h k = tt
pairs-trans R trans (r ∷ rs) (q ∷ qs) (p ∷ ps) h k = (trans r q p h.0 k.0, pairs-trans R trans rs qs ps h.1 k.1)
pairs-trans R trans [] [] (p ∷ ps) h k = absurd k
pairs-trans R trans [] (q ∷ qs) ps h k = absurd h
pairs-trans R trans (r ∷ rs) [] ps h k = absurd h
pairs-trans R trans (r ∷ rs) (q ∷ qs) [] h k = absurd k

-- ---- well formed

pub and-first : (a b : Bool) → (a && b) ≡ true → a ≡ true
and-first true b e = refl
and-first false b e = absurd (cc e)

pub and-second : (a b : Bool) → (a && b) ≡ true → b ≡ true
and-second true b e = e
and-second false b e = absurd (cc e)

pub both : (a b : Bool) → a ≡ true → b ≡ true → (a && b) ≡ true
both a b e f = rw (e, f) refl

abbrev pub fits_step : List FlatFunc → ℕ → Stmt-F Bool → Bool
fits_step fs names y = fits fs names y && list_all (list_all (λ ok. ok)) (parts y)

abbrev pub Follows : Bool → Bool → Type 0
Follows b c = c ≡ true → b ≡ true

abbrev pub all_true : List Bool → Bool
all_true = list_all (λ ok. ok)

abbrev pub AllFollow : List Bool → List Bool → Type 0
AllFollow bs cs = all_true cs ≡ true → all_true bs ≡ true

one-part : (a b c : Bool) → (b ≡ true → c ≡ true) → (a && (b && true)) ≡ true → (a && (c && true)) ≡ true
one-part true true c k h = rw (k refl) refl
one-part true false c k h = absurd (cc h)
one-part false b c k h = absurd (cc h)

two-parts : (a b c d e : Bool) → (b ≡ true → d ≡ true) → (c ≡ true → e ≡ true) → (a && (b && (c && true))) ≡ true
    → (a && (d && (e && true))) ≡ true
two-parts true true true d e k l h = rw (k refl, l refl) refl
two-parts true true false d e k l h = absurd (cc h)
two-parts true false c d e k l h = absurd (cc h)
two-parts false b c d e k l h = absurd (cc h)

pub formed-relation : (fs : List FlatFunc) (names : ℕ) → Relation (fits_step fs names) Follows AllFollow
formed-relation fs names = record {
  same = λ x h. h;
  nil = λ h. h;
  cons = λ b c bs cs h g k.
      both b (all_true bs) (h (and-first c (all_true cs) k)) (g (and-second c (all_true cs) k));
  skip = λ y bs cs e h k. h (and-second (fits_step fs names y) (all_true cs) k);
  buffer = λ x n bs cs h.
      one-part (fits {X = Bool} fs names (Stmt-F.Stackalloc x n [])) (all_true cs) (all_true bs) h;
  choice = λ test bs cs ds es h g.
      two-parts (fits {X = Bool} fs names (Stmt-F.If test [] [])) (all_true cs) (all_true es) (all_true bs)
      (all_true ds) h g;
  turns = λ test bs cs ds es h g.
      two-parts (fits {X = Bool} fs names (Stmt-F.Loop [] test [])) (all_true cs) (all_true es) (all_true bs)
      (all_true ds) h g;
}

pub all-made : (t : Stmt → Bool) (cs : List Stmt) → all_true (map t cs) ≡ list_all t cs
all-made t [] = refl
all-made t (c ∷ cs) = ap (λ b. t c && b) (all-made t cs)

body-formed : (fs : List FlatFunc) (f : FlatFunc) → list_all (is_well_formed_statement fs f.names) f.body ≡ true
    → list_all (is_well_formed_statement fs f.names) (left_of f.body (is_in f.results)) ≡ true
body-formed fs f h =
    sym (all-made (is_well_formed_statement fs f.names) (left_of f.body (is_in f.results)))
    ∙ left-related (fits_step fs f.names) Follows AllFollow (formed-relation fs f.names) f.body (is_in f.results)
    (all-made (is_well_formed_statement fs f.names) f.body ∙ h)

counts-same : (fs : List FlatFunc) (g n m : ℕ)
    → counts_fit (slice_get (swept_program fs) g) n m ≡ counts_fit (slice_get fs g) n m
counts-same [] g n m = refl
counts-same (f ∷ fs) zero n m = refl
counts-same (f ∷ fs) (suc g) n m = counts-same fs g n m

fits-same : (fs : List FlatFunc) (names : ℕ) {X : Type 0} (y : Stmt-F X)
    → fits (swept_program fs) names y ≡ fits fs names y
fits-same fs names (Stmt-F.Lit x n) = refl
fits-same fs names (Stmt-F.Copy x y) = refl
fits-same fs names (Stmt-F.Op x op y z) = refl
fits-same fs names (Stmt-F.Load x size y offset) = refl
fits-same fs names (Stmt-F.Store size y z offset) = refl
fits-same fs names (Stmt-F.Table x size bytes y) = refl
fits-same fs names (Stmt-F.Stackalloc x n body) = refl
fits-same fs names (Stmt-F.If test first second) = refl
fits-same fs names (Stmt-F.Loop first test last) = refl
fits-same fs names (Stmt-F.Call xs g ys) =
    ap (λ b. are_below names xs && are_below names ys && (b && all_differ xs))
    (counts-same fs g (length xs) (length ys))
fits-same fs names (Stmt-F.Read x y) = refl
fits-same fs names (Stmt-F.Write y z) = refl

formed-same : (fs : List FlatFunc) (names : ℕ)
    → is_well_formed_statement (swept_program fs) names ≡ is_well_formed_statement fs names
formed-same fs names = ap (λ (t : Stmt-F Bool → Bool). throughout t) (fun_ext (λ y. fits-same fs names y))

function-formed : (fs : List FlatFunc) (f : FlatFunc) → is_well_formed_function fs f ≡ true
    → is_well_formed_function (swept_program fs) (swept_function f) ≡ true
function-formed fs f h =
    let old = list_all (is_well_formed_statement fs f.names) f.body in
    let left : List Stmt = left_of f.body (is_in f.results) in
    both (is_well_formed_head f) (list_all (is_well_formed_statement (swept_program fs) f.names) left)
    (and-first (is_well_formed_head f) old h)
    (ap (λ (t : Stmt → Bool). list_all t left) (formed-same fs f.names)
    ∙ body-formed fs f (and-second (is_well_formed_head f) old h))

functions-formed : (fs gs : List FlatFunc) → list_all (is_well_formed_function fs) gs ≡ true
    → list_all (is_well_formed_function (swept_program fs)) (swept_program gs) ≡ true
functions-formed fs [] h = refl
functions-formed fs (g ∷ gs) h =
    let one = is_well_formed_function fs g in
    let rest = list_all (is_well_formed_function fs) gs in
    both (is_well_formed_function (swept_program fs) (swept_function g))
    (list_all (is_well_formed_function (swept_program fs)) (swept_program gs))
    (function-formed fs g (and-first one rest h)) (functions-formed fs gs (and-second one rest h))

any-same : (name : List ℕ) (fs : List FlatFunc)
    → list_any (λ g. bytes_eq g.name name) (swept_program fs) ≡ list_any (λ g. bytes_eq g.name name) fs
any-same name [] = refl
any-same name (f ∷ fs) = rw (any-same name fs) refl

names-same : (fs : List FlatFunc) → names_differ (swept_program fs) ≡ names_differ fs
names-same [] = refl
names-same (f ∷ fs) = rw (any-same f.name fs, names-same fs) refl

pub sweep-formed : (fs : List FlatFunc) → IsWellFormed fs → IsWellFormed (swept_program fs)
sweep-formed fs h =
    let all = list_all (is_well_formed_function fs) fs in
    both (names_differ (swept_program fs))
    (list_all (is_well_formed_function (swept_program fs)) (swept_program fs))
    (names-same fs ∙ and-first (names_differ fs) all h) (functions-formed fs fs (and-second (names_differ fs) all h))
