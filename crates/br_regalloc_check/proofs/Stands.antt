-- Rows that stand in a table from a number on: those of the first of two lists, and those of the second.
use Rattle.std.proofs.Common.{◌≡◌, ℕ, zero, suc, ◌+◌, ◌<◌, ◌≤◌, List, [], ◌∷◌, ◌++◌, map, length}
use Rattle.std.proofs.Common.{get_or, drop, refl, sym, ap, subst, ◌∙◌, append_assoc, arith}
use Rattle.std.specs.Prelude.{sum}
use Rattle.std.proofs.lemmas.Grind.{common_steps}
use Rattle.std.proofs.lemmas.List.{map-append, length-map, length-append}
use Rattle.br_flatimp.specs.declared.program.Stmt.{Stmt, map-Stmt}
use Rattle.br_flatimp.specs.declared.program.Stmt.TheOpen.{Stmt-F}
use Rattle.br_flatimp.specs.declared.program.Stmt.TheFolds.{fold-roll-Stmt, ind-Stmt}
use Rattle.br_flatimp.specs.Values.{Names}
use Rattle.br_flatimp.specs.Parts.{parts}
use Rattle.br_flatimp.specs.Sizes.{statement_count}
use Rattle.br_flatimp.specs.Liveness.{Live, Moment, at_test, entry, inner_moments, live, live_step, moment, moments}
use Rattle.br_live.specs.Tables.{Row, rows_after}
use Rattle.br_regalloc_check.specs.Walks.{HaveBound, HaveName, StandsAt}

rows-append : (n : ℕ) (ms ns : List Moment) → rows_after n (ms ++ ns) ≡ rows_after n ms ++ rows_after n ns
rows-append n ms ns = map-append (λ (m : Moment). record { bound = n; set = m.after }) ms ns

pub sum-cons : (n : ℕ) (ns : List ℕ) → sum (n ∷ ns) ≡ n + sum ns
sum-cons n ns = grind (arith, common_steps)

stands-is : (rows : List Row) (at n : ℕ) (ms ns : List Moment) (h : StandsAt rows at n (ms ++ ns))
    → drop at rows ≡ rows_after n ms ++ (rows_after n ns ++ h.0)
stands-is rows at n ms ns h =
    h.1 ∙ ap (λ rs. rs ++ h.0) (rows-append n ms ns) ∙ append_assoc (rows_after n ms) (rows_after n ns) h.0

pub stands-first : (rows : List Row) (at n : ℕ) (ms ns : List Moment) → StandsAt rows at n (ms ++ ns)
    → StandsAt rows at n ms
stands-first rows at n ms ns h = (rows_after n ns ++ h.0, stands-is rows at n ms ns h)

drop_more : {X : Type 0} (a b : ℕ) (xs ys zs : List X) → length ys ≡ b → drop a xs ≡ ys ++ zs → drop (a + b) xs ≡ zs
drop_more a b xs [] zs count is = ap (λ n. drop n xs) (let same : a + b ≡ a = omega arith in same) ∙ is
drop_more a b xs (y ∷ ys) zs count is =
    let next : drop (a + 1) xs ≡ ys ++ zs = one a xs y (ys ++ zs) is in
    ap (λ n. drop n xs) (let same : a + b ≡ a + 1 + length ys = omega arith in same)
    ∙ drop_more (a + 1) (length ys) xs ys zs refl next
  where
    one : {X : Type 0} (k : ℕ) (us : List X) (v : X) (vs : List X) → drop k us ≡ v ∷ vs → drop (k + 1) us ≡ vs
    one zero [] v vs e = absurd (cc e)
    one (suc k) [] v vs e = absurd (cc e)
    one zero (u ∷ us) v vs e = cc e
    one {X} (suc k) (u ∷ us) v vs e =
        ap (λ n. drop {A = X} n (u ∷ us)) (let same : suc k + 1 ≡ suc (k + 1) = omega arith in same) ∙ one k us v vs e

pub stands-second : (rows : List Row) (at n : ℕ) (ms ns : List Moment) → StandsAt rows at n (ms ++ ns)
    → StandsAt rows (at + length ms) n ns
stands-second rows at n ms ns h = (
  h.0,
  drop_more at (length ms) rows (rows_after n ms) (rows_after n ns
      ++ h.0) (length-map ms (λ (m : Moment). record { bound = n; set = m.after })) (stands-is rows at n ms ns h),
)

pub stands-head : (rows : List Row) (at n : ℕ) (m : Moment) (ms : List Moment) (d : Row) → StandsAt rows at n (m ∷ ms)
    → get_or rows at d ≡ record { bound = n; set = m.after }
stands-head rows at n m ms d h = at_drop rows at (rows_after n ms ++ h.0) (record { bound = n; set = m.after }) d h.1
  where
    at_drop : (rs : List Row) (k : ℕ) (more : List Row) (r e : Row) → drop k rs ≡ r ∷ more → get_or rs k e ≡ r
    at_drop [] zero more r e is = absurd (cc is)
    at_drop [] (suc k) more r e is = absurd (cc is)
    at_drop (q ∷ rs) zero more r e is = cc is
    at_drop (q ∷ rs) (suc k) more r e is = at_drop rs k more r e is

-- ---- how many moments there are

abbrev Counted : Stmt → Type 0
Counted c = (a : Names) → length ((live c).moments a) ≡ statement_count c

abbrev Each : Type 0
Each = (c : Stmt) × Counted c

abbrev stmts : List Each → List Stmt
stmts cs = map (λ e. e.0) cs

each-counted : (cs : List Each) (a : Names)
    → length (moments (map live (stmts cs)) a) ≡ sum (map statement_count (stmts cs))
each-counted [] a = refl
each-counted (e ∷ cs) a =
    let end : Names = entry (map live (stmts cs)) a in
    length-append ((live e.0).moments end) (moments (map live (stmts cs)) a)
    ∙ ap (λ n. n + length (moments (map live (stmts cs)) a)) (e.1 end)
    ∙ ap (λ n. statement_count e.0 + n) (each-counted cs a)
    ∙ sym (sum-cons (statement_count e.0) (map statement_count (stmts cs)))

abbrev count_step : Stmt-F ℕ → ℕ
count_step y = 1 + sum (map sum (parts y))

abbrev lives : Stmt-F Each → Stmt-F Live
lives y = map-Stmt Stmt Live live (map-Stmt Each Stmt (λ e. e.0) y)

step-counted : (y : Stmt-F Each) (a : Names) → length (moment (lives y) a ∷ inner_moments (lives y) a)
    ≡ count_step (map-Stmt Stmt ℕ statement_count (map-Stmt Each Stmt (λ e. e.0) y))
step-counted (Stmt-F.Lit x n) a = refl
step-counted (Stmt-F.Copy x y) a = refl
step-counted (Stmt-F.Op x op y z) a = refl
step-counted (Stmt-F.Load x size y offset) a = refl
step-counted (Stmt-F.Store size y z offset) a = refl
step-counted (Stmt-F.Table x size bytes y) a = refl
step-counted (Stmt-F.Stackalloc x n body) a = omega (arith, each-counted body a)
step-counted (Stmt-F.If test first second) a =
    omega (
      arith,
      length-append (moments (map live (stmts first)) a) (moments (map live (stmts second)) a),
      each-counted first a,
      each-counted second a,
    )
step-counted (Stmt-F.Loop first test last) a =
    let t : Names = at_test (map live (stmts first)) test (map live (stmts last)) a in
    let end : Names = entry (map live (stmts first)) t in
    omega (
      arith,
      length-append (moments (map live (stmts first)) t) (moments (map live (stmts last)) end),
      each-counted first t,
      each-counted last end,
    )
step-counted (Stmt-F.Call xs g ys) a = refl
step-counted (Stmt-F.Read x y) a = refl
step-counted (Stmt-F.Write y z) a = refl

pub moments-count : (c : Stmt) (a : Names) → length ((live c).moments a) ≡ statement_count c
moments-count = ind-Stmt Counted (λ x y is a.
    ap (λ (l : Live). length (l.moments a)) (fold-roll-Stmt Live live_step x)
    ∙ subst (λ z. length (moment (map-Stmt Stmt Live live z) a ∷ inner_moments (map-Stmt Stmt Live live z) a)
    ≡ count_step (map-Stmt Stmt ℕ statement_count z)) is (step-counted y a)
    ∙ sym (fold-roll-Stmt ℕ count_step x))

pub all-moments-count : (cs : List Stmt) (a : Names) → length (moments (map live cs) a) ≡ sum (map statement_count cs)
all-moments-count [] a = refl
all-moments-count (c ∷ cs) a =
    let end : Names = entry (map live cs) a in
    length-append ((live c).moments end) (moments (map live cs) a)
    ∙ ap (λ n. n + length (moments (map live cs) a)) (moments-count c end)
    ∙ ap (λ n. statement_count c + n) (all-moments-count cs a)
    ∙ sym (sum-cons (statement_count c) (map statement_count cs))

-- ---- the rows of a table

pub bound-name : (n x : ℕ) → x < n → (rows : List Row) → HaveBound n rows → HaveName x rows
bound-name n x less [] h = tt
bound-name n x less (r ∷ rows) h =
    (let one : r.bound ≡ n = h.0 in let more : x < r.bound = omega arith in more, bound-name n x less rows h.1)

pub bound-after : (n : ℕ) (ms : List Moment) → HaveBound n (rows_after n ms)
bound-after n [] = tt
bound-after n (m ∷ ms) = (refl, bound-after n ms)

pub bound-at : (n : ℕ) (rows : List Row) (k : ℕ) (d : Row) → k < length rows → HaveBound n rows
    → (get_or rows k d).bound ≡ n
bound-at n [] k d inside h = absurd (omega arith)
bound-at n (r ∷ rows) zero d inside h = h.0
bound-at n (r ∷ rows) (suc k) d inside h = bound-at n rows k d (omega arith) h.1

pub name-at : (x : ℕ) (rows : List Row) (k : ℕ) (d : Row) → k < length rows → HaveName x rows
    → x < (get_or rows k d).bound
name-at x [] k d inside h = absurd (omega arith)
name-at x (r ∷ rows) zero d inside h = h.0
name-at x (r ∷ rows) (suc k) d inside h = name-at x rows k d (omega arith) h.1

-- the row of a statement is the first of its rows
abbrev HasRow : Live → Type 0
HasRow l = (rows : List Row) (at n : ℕ) (a : Names) (d : Row) → StandsAt rows at n (l.moments a)
    → get_or rows at d ≡ record { bound = n; set = a }

has-row : (c : Stmt) → HasRow (live c)
has-row = ind-Stmt (λ c. HasRow (live c)) (λ x y is.
    subst HasRow (sym (fold-roll-Stmt Live live_step x))
    (λ rows at n a d h.
    stands-head rows at n (moment (map-Stmt Stmt Live live x) a) (inner_moments (map-Stmt Stmt Live live x) a) d h))

pub row-here : (rows : List Row) (at n : ℕ) (c : Stmt) (a : Names) (d : Row) → StandsAt rows at n ((live c).moments a)
    → get_or rows at d ≡ record { bound = n; set = a }
row-here rows at n c a d h = has-row c rows at n a d h

-- a statement is at least one
pub count-some : (c : Stmt) → 1 ≤ statement_count c
count-some = ind-Stmt (λ c. 1 ≤ statement_count c) (λ x y is. let e = fold-roll-Stmt ℕ count_step x in omega (arith, e))
