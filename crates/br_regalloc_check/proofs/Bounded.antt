-- What is live is among the names of the function, which are below their count. So it is enough that those
-- below it stay apart.
use Rattle.std.proofs.Common.{ℕ, ◌<◌, not, IsTrue, inl, inr, List, [], ◌∷◌, ◌++◌, map, sym, subst}
use Rattle.std.specs.List.{AllByRecursion, flat_map}
use Rattle.br_flatimp.specs.declared.program.Stmt.{Stmt, map-Stmt}
use Rattle.br_flatimp.specs.declared.program.Stmt.TheOpen.{Stmt-F}
use Rattle.br_flatimp.specs.declared.program.Stmt.TheFolds.{fold-roll-Stmt, ind-Stmt}
use Rattle.br_flatimp.specs.Values.{Names}
use Rattle.br_flatimp.specs.Parts.{written, read, parts, test_names, operand_names, statement_names}
use Rattle.br_flatimp.specs.Liveness.{nothing, is_in, union, without, Live, Moment}
use Rattle.br_flatimp.specs.Liveness.{at_test, before_all, entry, live, live_step, moments}
use Rattle.br_flatimp.specs.WellFormed.{are_below}
use Rattle.br_regalloc_check.specs.Accepted.{AreApart, MayRename}
use Rattle.br_regalloc_check.specs.Walks.{AreApartBelow, MayRenameBelow}
use Rattle.br_regalloc_check.proofs.Below.{below-append, below-in}
use Rattle.br_regalloc_check.proofs.Lists.{all-join, all-change, or_cases, and_both}

abbrev pub IsBounded : ℕ → Names → Type 0
IsBounded n live = (x : ℕ) → IsTrue (live x) → x < n

bounded-union : (n : ℕ) (a b : Names) → IsBounded n a → IsBounded n b → IsBounded n (union a b)
bounded-union n a b h k x alive = elim (or_cases (a x) (b x) alive) [ inl e ↦ h x e | inr e ↦ k x e ]

bounded-without : (n : ℕ) (a : Names) (xs : List ℕ) → IsBounded n a → IsBounded n (without a xs)
bounded-without n a xs h x alive = h x (and_both (a x) (not (is_in xs x)) alive).0

bounded-nothing : (n : ℕ) → IsBounded n nothing
bounded-nothing n x alive = absurd (cc alive)

abbrev FewWritten : ℕ → Moment → Type 0
FewWritten n m = IsBounded n m.after_write

abbrev Keeps : ℕ → Live → Type 0
Keeps n l =
    (after : Names) → IsBounded n after → IsBounded n (l.before after) × AllByRecursion (FewWritten n) (l.moments after)

abbrev Stays : ℕ → Stmt → Type 0
Stays n c = IsTrue (are_below n (statement_names c)) → Keeps n (live c)

abbrev Each : ℕ → Type 0
Each n = (c : Stmt) × Stays n c

abbrev stmts : (n : ℕ) → List (Each n) → List Stmt
stmts n cs = map (λ e. e.0) cs

abbrev lives : (n : ℕ) → List (Each n) → List Live
lives n cs = map live (stmts n cs)

abbrev names : (n : ℕ) → List (Each n) → List ℕ
names n cs = flat_map (λ xs. xs) (map statement_names (stmts n cs))

all-stay : (n : ℕ) (cs : List (Each n)) → IsTrue (are_below n (names n cs)) → (end : Names) → IsBounded n end
    → IsBounded n (entry (lives n cs) end) × AllByRecursion (FewWritten n) (moments (lives n cs) end)
all-stay n [] below end h = (h, tt)
all-stay n (e ∷ cs) below end h =
    let split = below-append n (statement_names e.0) (names n cs) below in
    let rest = all-stay n cs split.1 end h in
    let one = e.1 split.0 (entry (lives n cs) end) rest.0 in (
      one.0,
      all-join (FewWritten n) ((live e.0).moments (entry (lives n cs) end)) (moments (lives n cs) end) one.1 rest.1,
    )

abbrev names_step : Stmt-F (List ℕ) → List ℕ
names_step y = (written y ++ read y) ++ flat_map (flat_map (λ xs. xs)) (parts y)

abbrev opened : (n : ℕ) → Stmt-F (Each n) → Stmt-F Stmt
opened n y = map-Stmt (Each n) Stmt (λ e. e.0) y

abbrev StaysLayer : ℕ → Stmt-F Stmt → Type 0
StaysLayer n y = IsTrue (are_below n (names_step (map-Stmt Stmt (List ℕ) statement_names y)))
    → Keeps n (live_step (map-Stmt Stmt Live live y))

-- a statement with no parts
simple : (n : ℕ) (xs ys : List ℕ) (after : Names) → IsTrue (are_below n ((xs ++ ys) ++ [])) → IsBounded n after
    → IsBounded n (union (without after xs) (is_in ys))
simple n xs ys after below h =
    let split = below-append n xs ys (below-append n (xs ++ ys) [] below).0 in
    bounded-union n (without after xs) (is_in ys) (bounded-without n after xs h) (below-in n ys split.1)

layer-stays : (n : ℕ) (y : Stmt-F (Each n)) → StaysLayer n (opened n y)
layer-stays n (Stmt-F.Lit x k) below after h = (simple n (x ∷ []) [] after below h, (h, tt))
layer-stays n (Stmt-F.Copy x y) below after h = (simple n (x ∷ []) (y ∷ []) after below h, (h, tt))
layer-stays n (Stmt-F.Op x op y z) below after h = (simple n (x ∷ []) (y ∷ operand_names z) after below h, (h, tt))
layer-stays n (Stmt-F.Load x size y offset) below after h = (simple n (x ∷ []) (y ∷ []) after below h, (h, tt))
layer-stays n (Stmt-F.Store size y z offset) below after h = (simple n [] (y ∷ z ∷ []) after below h, (h, tt))
layer-stays n (Stmt-F.Table x size bytes y) below after h = (simple n (x ∷ []) (y ∷ []) after below h, (h, tt))
layer-stays n (Stmt-F.Stackalloc x k body) below after h =
    let inner = below-append n (names n body) [] (below-append n (x ∷ []) (names n body ++ []) below).1 in
    let one = all-stay n body inner.0 after h in
    (bounded-without n (entry (lives n body) after) (x ∷ []) one.0, (one.0, one.1))
layer-stays n (Stmt-F.If test first second) below after h =
    let own = below-append n (test_names test) (names n first ++ (names n second ++ [])) below in
    let two = below-append n (names n first) (names n second ++ []) own.1 in
    let a = all-stay n first two.0 after h in
    let b = all-stay n second (below-append n (names n second) [] two.1).0 after h in (
      bounded-union n (is_in (test_names test)) (union (entry (lives n first) after) (entry (lives n second) after))
          (below-in n (test_names test) own.0)
          (bounded-union n (entry (lives n first) after) (entry (lives n second) after) a.0 b.0),
      (h, all-join (FewWritten n) (moments (lives n first) after) (moments (lives n second) after) a.1 b.1),
    )
layer-stays n (Stmt-F.Loop first test last) below after h =
    let own = below-append n (test_names test) (names n first ++ (names n last ++ [])) below in
    let two = below-append n (names n first) (names n last ++ []) own.1 in
    let of_last = (below-append n (names n last) [] two.1).0 in
    let f : Names → Names = entry (lives n first) in
    let l : Names → Names = entry (lives n last) in
    let t : Names = at_test (lives n first) test (lives n last) after in
    let few : IsBounded n t =
    bounded-union n (is_in (test_names test)) (union after (l (f nothing))) (below-in n (test_names test) own.0)
    (bounded-union n after (l (f nothing)) h
    (all-stay n last of_last (f nothing) (all-stay n first two.0 nothing (bounded-nothing n)).0).0) in
    let a = all-stay n first two.0 t few in
    let b = all-stay n last of_last (f t) a.0 in
    (a.0, (h, all-join (FewWritten n) (moments (lives n first) t) (moments (lives n last) (f t)) a.1 b.1))
layer-stays n (Stmt-F.Call xs g ys) below after h = (simple n xs ys after below h, (h, tt))
layer-stays n (Stmt-F.Read x y) below after h = (simple n (x ∷ []) (y ∷ []) after below h, (h, tt))
layer-stays n (Stmt-F.Write y z) below after h = (simple n [] (y ∷ z ∷ []) after below h, (h, tt))

statement-stays : (n : ℕ) (c : Stmt) → Stays n c
statement-stays n = ind-Stmt (Stays n) (λ x y is below.
    let step = subst (StaysLayer n) is (layer-stays n y) in
    subst (Keeps n) (sym (fold-roll-Stmt Live live_step x))
    (step (subst (λ xs. IsTrue (are_below n xs)) (fold-roll-Stmt (List ℕ) names_step x) below)))

pub bounded-all : (n : ℕ) (cs : List Stmt) → IsTrue (are_below n (flat_map statement_names cs)) → (end : Names)
    → IsBounded n end
    → IsBounded n (before_all cs end) × AllByRecursion (FewWritten n) (moments (map live cs) end)
bounded-all n [] below end h = (h, tt)
bounded-all n (c ∷ cs) below end h =
    let split = below-append n (statement_names c) (flat_map statement_names cs) below in
    let rest = bounded-all n cs split.1 end h in
    let one = statement-stays n c split.0 (before_all cs end) rest.0 in
    (one.0, all-join (FewWritten n) ((live c).moments (before_all cs end)) (moments (map live cs) end) one.1 rest.1)

-- ---- below the bound and everywhere

pub apart-everywhere : (n : ℕ) (to : ℕ → ℕ) (live : Names) → IsBounded n live → AreApartBelow n to live
    → AreApart to live
apart-everywhere n to live few h x alive z also same = h x (few x alive) alive z (few z also) also same

pub apart-below : (n : ℕ) (to : ℕ → ℕ) (live : Names) → AreApart to live → AreApartBelow n to live
apart-below n to live h x less alive z below also same = h x alive z also same

pub renames-everywhere : (n : ℕ) (to : ℕ → ℕ) (ms : List Moment) → AllByRecursion (FewWritten n) ms
    → AllByRecursion (MayRenameBelow n to) ms → AllByRecursion (MayRename to) ms
renames-everywhere n to = all-change (FewWritten n) (MayRenameBelow n to) (MayRename to) (λ m few h. record {
  differ = h.differ;
  apart = λ x i z also same. h.apart x i z (few z also) also same;
})

pub renames-below : (n : ℕ) (to : ℕ → ℕ) (ms : List Moment) → AllByRecursion (MayRename to) ms
    → AllByRecursion (MayRenameBelow n to) ms
renames-below n to ms h = all-change (MayRename to) (MayRename to) (MayRenameBelow n to) (λ m k l. record {
  differ = k.differ;
  apart = λ x i z less also same. k.apart x i z also same;
}) ms h h
