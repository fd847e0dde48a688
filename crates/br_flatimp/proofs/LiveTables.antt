-- What is live is the least table that keeps the rules.
use Rattle.std.proofs.Common.{◌≡◌, ℕ, zero, suc, ◌+◌, not, inl, inr, List, [], ◌∷◌, ◌++◌, map, length, Some, refl}
use Rattle.std.proofs.Common.{sym, ap, subst, ◌∙◌, IsTrue, add-zero, length-append, append_assoc, arith, slice_get}
use Rattle.std.specs.List.{AllByRecursion}
use Rattle.br_flatimp.specs.declared.program.Stmt.{Stmt, map-Stmt}
use Rattle.br_flatimp.specs.declared.program.Stmt.TheOpen.{Stmt-F}
use Rattle.br_flatimp.specs.declared.program.Stmt.TheFolds.{fold-roll-Stmt, ind-Stmt}
use Rattle.br_flatimp.specs.declared.program.FlatFunc.{FlatFunc}
use Rattle.br_flatimp.specs.declared.program.Stmt.TheViews.{roll-Stmt}
use Rattle.br_flatimp.specs.Parts.{test_names, operand_names}
use Rattle.br_flatimp.specs.Values.{Names}
use Rattle.br_flatimp.specs.Liveness.{nothing, is_in, union, without, Within, Moment, Live, entry}
use Rattle.br_flatimp.specs.Liveness.{moments, at_test, live_step, live, function_moments, after_moment}
use Rattle.br_flatimp.specs.LiveTables.{Table, Rule, IsKept, Placed, count_all, entry_at, list_rules}
use Rattle.br_flatimp.specs.LiveTables.{placed_step, placed, KeepsRules, test_moment, live_table}
use Rattle.br_flatimp.proofs.Live.{or_left, or_right, or_cases, and_both, both_and, test-holds, test-least}
use Rattle.br_flatimp.proofs.Uniform.{all-left, all-right}

-- from a number on, a table has each set of these statements, in preorder
abbrev pub Holds : Table → ℕ → List Moment → Type 0
Holds t n [] = Unit {0}
Holds t n (m ∷ ms) = Within m.after (t.after n) × Within m.test (t.test n) × Holds t (suc n) ms

pub holds-append : (t : Table) (n : ℕ) (xs ys : List Moment) → Holds t n xs → Holds t (n + length xs) ys
    → Holds t n (xs ++ ys)
holds-append t n [] ys h k = subst (λ m. Holds t m ys) (add-zero n) k
holds-append t n (m ∷ xs) ys h k =
    let moved : n + suc (length xs) ≡ suc n + length xs = omega arith in
    (h.0, h.1, holds-append t (suc n) xs ys h.2 (subst (λ i. Holds t i ys) moved k))

within-trans : (a b c : Names) → Within a b → Within b c → Within a c
within-trans a b c h k x e = k x (h x e)

within-itself : (a : Names) → Within a a
within-itself a x e = e

within-nothing : (a : Names) → Within nothing a
within-nothing a x e = absurd (cc e)

within-union : (a b c d : Names) → Within a c → Within b d → Within (union a b) (union c d)
within-union a b c d h k x e =
    elim (or_cases (a x) (b x) e) as (λ w. IsTrue (union c d x)) [
      | inl i ↦ or_left (c x) (d x) (h x i)
      | inr i ↦ or_right (c x) (d x) (k x i)
    ]

within-without : (a b : Names) (xs : List ℕ) → Within a b → Within (without a xs) (without b xs)
within-without a b xs h x e = let both = and_both (a x) (not (is_in xs x)) e in
    both_and (b x) (not (is_in xs x)) (h x both.0) both.1

-- ---- the counts

abbrev Counted : Type 0
Counted = (c : Stmt) × ((after : Names) → length ((live c).moments after) ≡ (placed c).count)

abbrev counted : List Counted → List Stmt
counted cs = map (λ e. e.0) cs

count-list : (cs : List Counted) (end : Names)
    → length (moments (map live (counted cs)) end) ≡ count_all (map placed (counted cs))
count-list [] end = refl
count-list (e ∷ cs) end =
    let rest : Names = entry (map live (counted cs)) end in
    length-append ((live e.0).moments rest) (moments (map live (counted cs)) end)
    ∙ ap (λ k. k + length (moments (map live (counted cs)) end)) (e.1 rest)
    ∙ ap (λ k. (placed e.0).count + k) (count-list cs end)

count-two : (xs ys : List Counted) (a b : Names) → length (moments (map live (counted xs)) a
    ++ moments (map live (counted ys)) b) ≡ count_all (map placed (counted xs)) + count_all (map placed (counted ys))
count-two xs ys a b =
    length-append (moments (map live (counted xs)) a) (moments (map live (counted ys)) b)
    ∙ ap (λ k. k + length (moments (map live (counted ys)) b)) (count-list xs a)
    ∙ ap (λ k. count_all (map placed (counted xs)) + k) (count-list ys b)

count-step : (y : Stmt-F Counted) (after : Names)
    → length ((live_step (map-Stmt Stmt Live live (map-Stmt Counted Stmt (λ e. e.0) y))).moments after)
    ≡ (placed_step (map-Stmt Stmt Placed placed (map-Stmt Counted Stmt (λ e. e.0) y))).count
count-step (Stmt-F.Lit x n) after = refl
count-step (Stmt-F.Copy x y) after = refl
count-step (Stmt-F.Op x op y z) after = refl
count-step (Stmt-F.Load x size y offset) after = refl
count-step (Stmt-F.Store size y z offset) after = refl
count-step (Stmt-F.Table x size bytes y) after = refl
count-step (Stmt-F.Stackalloc x n body) after = ap suc (count-list body after)
count-step (Stmt-F.If test first second) after = ap suc (count-two first second after after)
count-step (Stmt-F.Loop first test last) after =
    let end : Names = at_test (map live (counted first)) test (map live (counted last)) after in
    ap suc (count-two first last end (entry (map live (counted first)) end))
count-step (Stmt-F.Call xs g ys) after = refl
count-step (Stmt-F.Read x y) after = refl
count-step (Stmt-F.Write y z) after = refl

pub count-moments : (c : Stmt) (after : Names) → length ((live c).moments after) ≡ (placed c).count
count-moments = ind-Stmt (λ c. (after : Names) → length ((live c).moments after) ≡ (placed c).count) (λ x y is after.
    let step = subst (λ z. length ((live_step (map-Stmt Stmt Live live z)).moments after)
    ≡ (placed_step (map-Stmt Stmt Placed placed z)).count) is (count-step y after) in
    ap (λ l. length (l.moments after)) (fold-roll-Stmt Live live_step x) ∙ step
    ∙ sym (ap (λ l. l.count) (fold-roll-Stmt Placed placed_step x)))

pub count-all : (cs : List Stmt) (end : Names) → length (moments (map live cs) end) ≡ count_all (map placed cs)
count-all [] end = refl
count-all (c ∷ cs) end =
    let rest : Names = entry (map live cs) end in
    length-append ((live c).moments rest) (moments (map live cs) end)
    ∙ ap (λ k. k + length (moments (map live cs) end)) (count-moments c rest)
    ∙ ap (λ k. (placed c).count + k) (count-all cs end)

-- ---- the least

-- where a table that keeps the rules has no less after a statement, it has no less before it and in it
abbrev pub IsLow : Stmt → Type 0
IsLow c =
    (t : Table) (n : ℕ) (after : Names) → Within after (t.after n) → AllByRecursion IsKept ((placed c).rules t n) →
    Within ((live c).before after) ((placed c).before t n) × Holds t n ((live c).moments after)

abbrev Low : Type 0
Low = (c : Stmt) × IsLow c

abbrev lows : List Low → List Stmt
lows cs = map (λ e. e.0) cs

low-list : (cs : List Low) (t : Table) (n : ℕ) (end limit : Names)
    → Within end limit → AllByRecursion IsKept (list_rules t (map placed (lows cs)) n limit)
    → Within (entry (map live (lows cs)) end) (entry_at t (map placed (lows cs)) n limit)
    × Holds t n (moments (map live (lows cs)) end)
low-list [] t n end limit h kept = (h, tt)
low-list (e ∷ cs) t n end limit h kept =
    let next : ℕ = n + (placed e.0).count in
    let own : List Rule = (placed e.0).rules t n in
    let others : List Rule = list_rules t (map placed (lows cs)) next limit in
    let rest = low-list cs t next end limit h (all-right IsKept own others kept.1) in
    let after : Names = entry (map live (lows cs)) end in
    let first = e.1 t n after (within-trans after (entry_at t (map placed (lows cs)) next limit) (t.after n) rest.0
    kept.0) (all-left IsKept own others kept.1) in
    let place : (placed e.0).count ≡ length ((live e.0).moments after) = sym (count-moments e.0 after) in (
      first.0,
      holds-append t n ((live e.0).moments after) (moments (map live (lows cs)) end) first.1 (subst
          (λ k. Holds t (n + k) (moments (map live (lows cs)) end)) place rest.1),
    )

-- two parts, one after the other
low-two : (xs ys : List Low) (t : Table) (n : ℕ) (a b : Names) → Holds t n (moments (map live (lows xs)) a)
    → Holds t (n + count_all (map placed (lows xs))) (moments (map live (lows ys)) b)
    → Holds t n (moments (map live (lows xs)) a ++ moments (map live (lows ys)) b)
low-two xs ys t n a b h k =
    holds-append t n (moments (map live (lows xs)) a) (moments (map live (lows ys)) b) h
    (subst (λ i. Holds t (n + i) (moments (map live (lows ys)) b)) (sym (count-all (lows xs) a)) k)

low-one : (t : Table) (n : ℕ) (after : Names) (xs ys : List ℕ) → Within after (t.after n)
    → Within (union (without after xs) (is_in ys)) (union (without (t.after n) xs) (is_in ys))
low-one t n after xs ys h = within-union (without after xs) (is_in ys) (without (t.after n) xs) (is_in ys)
    (within-without after (t.after n) xs h) (within-itself (is_in ys))

low-step : (y : Stmt-F Low) (t : Table) (n : ℕ) (after : Names) → Within after (t.after n)
    → AllByRecursion IsKept ((placed_step (map-Stmt Stmt Placed placed (map-Stmt Low Stmt (λ e. e.0) y))).rules t n)
    → Within ((live_step (map-Stmt Stmt Live live (map-Stmt Low Stmt (λ e. e.0) y))).before after)
    ((placed_step (map-Stmt Stmt Placed placed (map-Stmt Low Stmt (λ e. e.0) y))).before t n)
    × Holds t n ((live_step (map-Stmt Stmt Live live (map-Stmt Low Stmt (λ e. e.0) y))).moments after)
low-step (Stmt-F.Lit x v) t n after h kept = (low-one t n after (x ∷ []) [] h, (h, within-nothing (t.test n), tt))
low-step (Stmt-F.Copy x y) t n after h kept =
    (low-one t n after (x ∷ []) (y ∷ []) h, (h, within-nothing (t.test n), tt))
low-step (Stmt-F.Op x op y z) t n after h kept =
    (low-one t n after (x ∷ []) (y ∷ operand_names z) h, (h, within-nothing (t.test n), tt))
low-step (Stmt-F.Load x size y offset) t n after h kept =
    (low-one t n after (x ∷ []) (y ∷ []) h, (h, within-nothing (t.test n), tt))
low-step (Stmt-F.Store size y z offset) t n after h kept =
    (low-one t n after [] (y ∷ z ∷ []) h, (h, within-nothing (t.test n), tt))
low-step (Stmt-F.Table x size bytes y) t n after h kept =
    (low-one t n after (x ∷ []) (y ∷ []) h, (h, within-nothing (t.test n), tt))
low-step (Stmt-F.Call xs g ys) t n after h kept = (low-one t n after xs ys h, (h, within-nothing (t.test n), tt))
low-step (Stmt-F.Read x y) t n after h kept =
    (low-one t n after (x ∷ []) (y ∷ []) h, (h, within-nothing (t.test n), tt))
low-step (Stmt-F.Write y z) t n after h kept = (low-one t n after [] (y ∷ z ∷ []) h, (h, within-nothing (t.test n), tt))
low-step (Stmt-F.Stackalloc x k body) t n after h kept =
    let inner = low-list body t (suc n) after (t.after n) h kept in (
      within-without (entry (map live (lows body)) after) (entry_at t (map placed (lows body)) (suc n) (t.after n)) (x
          ∷ []) inner.0,
      (h, within-nothing (t.test n), inner.1),
    )
low-step (Stmt-F.If test first second) t n after h kept =
    let one : List Stmt = lows first in
    let two : List Stmt = lows second in
    let place : ℕ = suc n + count_all (map placed one) in
    let left : List Rule = list_rules t (map placed one) (suc n) (t.after n) in
    let right : List Rule = list_rules t (map placed two) place (t.after n) in
    let a = low-list first t (suc n) after (t.after n) h (all-left IsKept left right kept) in
    let b = low-list second t place after (t.after n) h (all-right IsKept left right kept) in
    let here : Names = is_in (test_names test) in (
      within-union here (union (entry (map live one) after) (entry (map live two) after))
          here (union (entry_at t (map placed one) (suc n) (t.after n)) (entry_at t (map placed two) place (t.after n)))
          (within-itself here)
          (within-union (entry (map live one) after) (entry (map live two) after) (entry_at t (map placed one) (suc n)
          (t.after n)) (entry_at t (map placed two) place (t.after n)) a.0 b.0),
      (h, within-nothing (t.test n), low-two first second t (suc n) after after a.1 b.1),
    )
low-step (Stmt-F.Loop first test last) t n after h kept =
    let one : List Stmt = lows first in
    let two : List Stmt = lows last in
    let place : ℕ = suc n + count_all (map placed one) in
    let start : Names = entry_at t (map placed one) (suc n) (t.test n) in
    let left : List Rule = list_rules t (map placed one) (suc n) (t.test n) in
    let right : List Rule = list_rules t (map placed two) place start in
    let keeps_one : AllByRecursion IsKept left = all-left IsKept left right kept.1 in
    let keeps_two : AllByRecursion IsKept right = all-right IsKept left right kept.1 in
    let here : Names = is_in (test_names test) in
    let limit : Names = entry (map live one) (t.test n) in
    let turn_one = low-list first t (suc n) (t.test n) (t.test n) (within-itself (t.test n)) keeps_one in
    let turn_two = low-list last t place limit start turn_one.0 keeps_two in
    let end : Names = at_test (map live one) test (map live two) after in
    let closed : Within (union here (union after (entry (map live two) limit))) (t.test n) =
    within-trans (union here (union after (entry (map live two) limit)))
    (union here (union (t.after n) (entry_at t (map placed two) place start))) (t.test n)
    (within-union here (union after (entry (map live two) limit)) here
    (union (t.after n) (entry_at t (map placed two) place start)) (within-itself here)
    (within-union after (entry (map live two) limit) (t.after n) (entry_at t (map placed two) place start)
    h turn_two.0))
    kept.0 in
    let least : Within end (t.test n) = test-least one test two after (t.test n) closed in
    let a = low-list first t (suc n) end (t.test n) least keeps_one in
    let b = low-list last t place (entry (map live one) end) start a.0 keeps_two in
    (a.0, (h, least, low-two first last t (suc n) end (entry (map live one) end) a.1 b.1))

pub low-statement : (c : Stmt) → IsLow c
low-statement = ind-Stmt IsLow (λ x y is t n after h kept.
    let way = subst (λ p. AllByRecursion IsKept (p.rules t n)) (fold-roll-Stmt Placed placed_step x) kept in
    let step = subst (λ z. AllByRecursion IsKept ((placed_step (map-Stmt Stmt Placed placed z)).rules t n) → Within
    ((live_step (map-Stmt Stmt Live live z)).before after) ((placed_step (map-Stmt Stmt Placed placed z)).before t
    n) × Holds t n ((live_step (map-Stmt Stmt Live live z)).moments after)) is (low-step y t n after h) way in
    let one = subst (λ l. Within (l.before after) ((placed_step (map-Stmt Stmt Placed placed x)).before t n)
    × Holds t n (l.moments after)) (sym (fold-roll-Stmt Live live_step x)) step in
    subst (λ p. Within ((live (roll-Stmt x)).before after) (p.before t n)
    × Holds t n ((live (roll-Stmt x)).moments after)) (sym (fold-roll-Stmt Placed placed_step x)) one)

abbrev with_facts : List Stmt → List Low
with_facts [] = []
with_facts (c ∷ cs) = (c, low-statement c) ∷ with_facts cs

lows-with : (cs : List Stmt) → lows (with_facts cs) ≡ cs
lows-with [] = refl
lows-with (c ∷ cs) = ap (λ l. c ∷ l) (lows-with cs)

-- each table that keeps the rules of a function has all that is live in it
low-function : (f : FlatFunc) (t : Table) → KeepsRules f t → Holds t 0 (function_moments f)
low-function f t h =
    let kept = subst (λ b. AllByRecursion IsKept (list_rules t (map placed b) 0 (is_in f.results)))
    (sym (lows-with f.body)) h in
    let low = low-list (with_facts f.body) t 0 (is_in f.results) (is_in f.results)
    (within-itself (is_in f.results)) kept in
    subst (λ b. Holds t 0 (moments (map live b) (is_in f.results))) (lows-with f.body) low.1

holds-at : (t : Table) (n : ℕ) (ms : List Moment) → Holds t n ms → (k : ℕ)
    → Within (after_moment (slice_get ms k)) (t.after (n + k)) × Within (test_moment (slice_get ms k)) (t.test (n + k))
holds-at t n [] h k = (within-nothing (t.after (n + k)), within-nothing (t.test (n + k)))
holds-at t n (m ∷ ms) h zero = (
  subst (λ i. Within m.after (t.after i)) (sym (add-zero n)) h.0,
  subst (λ i. Within m.test (t.test i)) (sym (add-zero n)) h.1,
)
holds-at t n (m ∷ ms) h (suc k) =
    let moved : suc n + k ≡ n + suc k = omega arith in
    subst (λ i. Within (after_moment (slice_get ms k)) (t.after i) × Within (test_moment (slice_get ms k)) (t.test i))
    moved (holds-at t (suc n) ms h.2 k)

from_zero : (k : ℕ) → 0 + k ≡ k
from_zero k = omega arith

pub table-least : (f : FlatFunc) (t : Table) → KeepsRules f t → (k : ℕ)
    → Within ((live_table f).after k) (t.after k) × Within ((live_table f).test k) (t.test k)
table-least f t h k =
    subst (λ i. Within ((live_table f).after k) (t.after i) × Within ((live_table f).test k) (t.test i)) (from_zero k)
    (holds-at t 0 (function_moments f) (low-function f t h) k)

-- ---- there is one

-- from a number on, a table has just the sets of these statements
abbrev pub Agrees : Table → ℕ → List Moment → Type 0
Agrees t n [] = Unit {0}
Agrees t n (m ∷ ms) = (t.after n ≡ m.after) × (t.test n ≡ m.test) × Agrees t (suc n) ms

agrees-left : (t : Table) (n : ℕ) (xs ys : List Moment) → Agrees t n (xs ++ ys) → Agrees t n xs
agrees-left t n [] ys h = tt
agrees-left t n (m ∷ xs) ys h = (h.0, h.1, agrees-left t (suc n) xs ys h.2)

agrees-right : (t : Table) (n : ℕ) (xs ys : List Moment) → Agrees t n (xs ++ ys) → Agrees t (n + length xs) ys
agrees-right t n [] ys h = subst (λ i. Agrees t i ys) (sym (add-zero n)) h
agrees-right t n (m ∷ xs) ys h =
    let moved : suc n + length xs ≡ n + suc (length xs) = omega arith in
    subst (λ i. Agrees t i ys) moved (agrees-right t (suc n) xs ys h.2)

all-join : (xs ys : List Rule) → AllByRecursion IsKept xs → AllByRecursion IsKept ys → AllByRecursion IsKept (xs ++ ys)
all-join [] ys h k = k
all-join (x ∷ xs) ys h k = (h.0, all-join xs ys h.1 k)

within-same : (a b : Names) → a ≡ b → Within a b
within-same a b h x e = subst (λ s. IsTrue (s x)) h e

abbrev pub IsMade : Stmt → Type 0
IsMade c =
    (t : Table) (n : ℕ) (after : Names) → Agrees t n ((live c).moments after) →
    (t.after n ≡ after) × ((placed c).before t n ≡ (live c).before after) × AllByRecursion IsKept ((placed c).rules t n)

abbrev Made : Type 0
Made = (c : Stmt) × IsMade c

abbrev mades : List Made → List Stmt
mades cs = map (λ e. e.0) cs

-- a list in a table, where its end has a set
abbrev ListMade : Table → List Stmt → ℕ → Names → Names → Type 0
ListMade t cs n limit end =
    (entry_at t (map placed cs) n limit ≡ entry (map live cs) end)
    × AllByRecursion IsKept (list_rules t (map placed cs) n limit)

made-list : (cs : List Made) (t : Table) (n : ℕ) (end : Names) → Agrees t n (moments (map live (mades cs)) end)
    → ListMade t (mades cs) n end end
made-list [] t n end h = (refl, tt)
made-list (e ∷ cs) t n end h =
    let after : Names = entry (map live (mades cs)) end in
    let own : List Moment = (live e.0).moments after in
    let others : List Moment = moments (map live (mades cs)) end in
    let next : ℕ = n + (placed e.0).count in
    let first = e.1 t n after (agrees-left t n own others h) in
    let rest = made-list cs t next end
    (subst (λ k. Agrees t (n + k) others) (count-moments e.0 after) (agrees-right t n own others h)) in (
      first.1,
      (
        within-same (entry_at t (map placed (mades cs)) next end) (t.after n) (rest.0 ∙ sym first.0),
        all-join ((placed e.0).rules t n) (list_rules t (map placed (mades cs)) next end) first.2 rest.1,
      ),
    )

made-second : (xs ys : List Made) (t : Table) (n : ℕ) (a b : Names)
    → Agrees t n (moments (map live (mades xs)) a ++ moments (map live (mades ys)) b)
    → ListMade t (mades ys) (n + count_all (map placed (mades xs))) b b
made-second xs ys t n a b h =
    made-list ys t (n + count_all (map placed (mades xs))) b
    (subst (λ k. Agrees t (n + k) (moments (map live (mades ys)) b)) (count-all (mades xs) a)
    (agrees-right t n (moments (map live (mades xs)) a) (moments (map live (mades ys)) b) h))

made-one : (t : Table) (n : ℕ) (after : Names) (xs ys : List ℕ) → t.after n ≡ after
    → union (without (t.after n) xs) (is_in ys) ≡ union (without after xs) (is_in ys)
made-one t n after xs ys h = ap (λ a. union (without a xs) (is_in ys)) h

made-step : (y : Stmt-F Made) (t : Table) (n : ℕ) (after : Names)
    → Agrees t n ((live_step (map-Stmt Stmt Live live (map-Stmt Made Stmt (λ e. e.0) y))).moments after)
    → (t.after n ≡ after) × ((placed_step (map-Stmt Stmt Placed placed (map-Stmt Made Stmt (λ e. e.0) y))).before t n
    ≡ (live_step (map-Stmt Stmt Live live (map-Stmt Made Stmt (λ e. e.0) y))).before after)
    × AllByRecursion IsKept ((placed_step (map-Stmt Stmt Placed placed (map-Stmt Made Stmt (λ e. e.0) y))).rules t n)
made-step (Stmt-F.Lit x v) t n after h = (h.0, made-one t n after (x ∷ []) [] h.0, tt)
made-step (Stmt-F.Copy x y) t n after h = (h.0, made-one t n after (x ∷ []) (y ∷ []) h.0, tt)
made-step (Stmt-F.Op x op y z) t n after h = (h.0, made-one t n after (x ∷ []) (y ∷ operand_names z) h.0, tt)
made-step (Stmt-F.Load x size y offset) t n after h = (h.0, made-one t n after (x ∷ []) (y ∷ []) h.0, tt)
made-step (Stmt-F.Store size y z offset) t n after h = (h.0, made-one t n after [] (y ∷ z ∷ []) h.0, tt)
made-step (Stmt-F.Table x size bytes y) t n after h = (h.0, made-one t n after (x ∷ []) (y ∷ []) h.0, tt)
made-step (Stmt-F.Call xs g ys) t n after h = (h.0, made-one t n after xs ys h.0, tt)
made-step (Stmt-F.Read x y) t n after h = (h.0, made-one t n after (x ∷ []) (y ∷ []) h.0, tt)
made-step (Stmt-F.Write y z) t n after h = (h.0, made-one t n after [] (y ∷ z ∷ []) h.0, tt)
made-step (Stmt-F.Stackalloc x k body) t n after h =
    let inner = subst (λ e. ListMade t (mades body) (suc n) e after) (sym h.0) (made-list body t (suc n) after h.2) in
    (h.0, ap (λ a. without a (x ∷ [])) inner.0, inner.1)
made-step (Stmt-F.If test first second) t n after h =
    let one : List Stmt = mades first in
    let two : List Stmt = mades second in
    let place : ℕ = suc n + count_all (map placed one) in
    let a = subst (λ e. ListMade t one (suc n) e after) (sym h.0) (made-list first t (suc n) after
    (agrees-left t (suc n) (moments (map live one) after) (moments (map live two) after) h.2)) in
    let b = subst (λ e. ListMade t two place e after) (sym h.0) (made-second first second t (suc n) after after h.2) in
    let here : Names = is_in (test_names test) in (
      h.0,
      ap (λ s. union here (union s (entry_at t (map placed two) place (t.after n)))) a.0
          ∙ ap (λ s. union here (union (entry (map live one) after) s)) b.0,
      all-join (list_rules t (map placed one) (suc n) (t.after n))
          (list_rules t (map placed two) place (t.after n)) a.1 b.1,
    )
made-step (Stmt-F.Loop first test last) t n after h =
    let one : List Stmt = mades first in
    let two : List Stmt = mades last in
    let place : ℕ = suc n + count_all (map placed one) in
    let here : Names = is_in (test_names test) in
    let end : Names = at_test (map live one) test (map live two) after in
    let start : Names = entry (map live one) end in
    let a = subst (λ e. ListMade t one (suc n) e end) (sym h.1) (made-list first t (suc n) end
    (agrees-left t (suc n) (moments (map live one) end) (moments (map live two) start) h.2)) in
    let b = subst (λ e. ListMade t two place e start) (sym a.0) (made-second first last t (suc n) end start h.2) in
    let begun : Names = entry_at t (map placed one) (suc n) (t.test n) in
    let whole : union here (union (t.after n) (entry_at t (map placed two) place begun))
    ≡ union here (union after (entry (map live two) start)) =
    ap (λ s. union here (union s (entry_at t (map placed two) place begun))) h.0
    ∙ ap (λ s. union here (union after s)) b.0 in
    let rule : Within (union here (union (t.after n) (entry_at t (map placed two) place begun))) (t.test n) =
    subst (λ s. Within s (t.test n))
    (sym whole) (subst (λ s. Within (union here (union after (entry (map live two) start))) s) (sym h.1)
    (test-holds one test two after)) in (
      h.0,
      a.0,
      (
        rule,
        all-join (list_rules t (map placed one) (suc n) (t.test n)) (list_rules t (map placed two) place
            begun) a.1 b.1,
      ),
    )

made-statement : (c : Stmt) → IsMade c
made-statement = ind-Stmt IsMade (λ x y is t n after h.
    let way = subst (λ l. Agrees t n (l.moments after)) (fold-roll-Stmt Live live_step x) h in
    let step = subst (λ z. Agrees t n ((live_step (map-Stmt Stmt Live live z)).moments after) → (t.after n ≡ after)
    × ((placed_step (map-Stmt Stmt Placed placed z)).before t n ≡ (live_step (map-Stmt Stmt Live live z)).before
    after) × AllByRecursion IsKept ((placed_step (map-Stmt Stmt Placed placed z)).rules t n)) is
    (made-step y t n after) way in
    let one = subst (λ l. (t.after n ≡ after) × ((placed_step (map-Stmt Stmt Placed placed x)).before t n
    ≡ l.before after) × AllByRecursion IsKept ((placed_step (map-Stmt Stmt Placed placed x)).rules t n))
    (sym (fold-roll-Stmt Live live_step x)) step in
    subst (λ p. (t.after n ≡ after) × (p.before t n ≡ (live (roll-Stmt x)).before after)
    × AllByRecursion IsKept (p.rules t n)) (sym (fold-roll-Stmt Placed placed_step x)) one)

abbrev with_tables : List Stmt → List Made
with_tables [] = []
with_tables (c ∷ cs) = (c, made-statement c) ∷ with_tables cs

mades-with : (cs : List Stmt) → mades (with_tables cs) ≡ cs
mades-with [] = refl
mades-with (c ∷ cs) = ap (λ l. c ∷ l) (mades-with cs)

-- the table of these statements
abbrev table_of : List Moment → Table
table_of ms = record { after = λ n. after_moment (slice_get ms n); test = λ n. test_moment (slice_get ms n) }

get-after : (front ms : List Moment) (m : Moment) → slice_get (front ++ m ∷ ms) (length front) ≡ Some m
get-after [] ms m = refl
get-after (x ∷ front) ms m = get-after front ms m

agrees-table : (front ms : List Moment) → Agrees (table_of (front ++ ms)) (length front) ms
agrees-table front [] = tt
agrees-table front (m ∷ ms) =
    let here = get-after front ms m in
    let joined : (front ++ m ∷ []) ++ ms ≡ front ++ m ∷ ms = append_assoc front (m ∷ []) ms in
    let longer : length (front ++ m ∷ []) ≡ suc (length front) = omega (arith, length-append front (m ∷ [])) in
    let rest = agrees-table (front ++ m ∷ []) ms in
    let moved = subst (λ l. Agrees (table_of l) (length (front ++ m ∷ [])) ms) joined rest in
    (ap after_moment here, ap test_moment here, subst (λ k. Agrees (table_of (front ++ m ∷ ms)) k ms) longer moved)

pub table-keeps : (f : FlatFunc) → KeepsRules f (live_table f)
table-keeps f =
    let body : List Stmt = mades (with_tables f.body) in
    let end : Names = is_in f.results in
    let agrees : Agrees (live_table f) 0 (function_moments f) = agrees-table [] (function_moments f) in
    let here = subst (λ b. Agrees (live_table f) 0 (moments (map live b) end)) (sym (mades-with f.body)) agrees in
    let made = made-list (with_tables f.body) (live_table f) 0 end here in
    subst (λ b. AllByRecursion IsKept (list_rules (live_table f) (map placed b) 0 end)) (mades-with f.body) made.1
