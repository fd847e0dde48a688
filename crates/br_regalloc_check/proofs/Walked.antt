-- What a statement needs: of the names that it writes itself, and of the statements in its parts.
use Rattle.std.proofs.Common.{◌≡◌, ℕ, suc, ◌+◌, ◌<◌, ◌≤◌, ◌↔◌, ℤ, Bool, true, false, IsTrue, ◌⊎◌, inl, inr}
use Rattle.std.proofs.Common.{List, [], ◌∷◌, ◌++◌, map, length, get_or, drop, refl, sym, ap, subst, ◌∙◌, arith}
use Rattle.std.specs.Prelude.{sum}
use Rattle.std.specs.List.{AllByRecursion, flat_map}
use Rattle.br_words.specs.declared.operation.BinOp.{BinOp}
use Rattle.br_words.specs.declared.size.Size.{Size}
use Rattle.br_flatimp.specs.declared.program.Operand.{Operand}
use Rattle.br_flatimp.specs.declared.program.Cond.{Cond}
use Rattle.br_flatimp.specs.declared.program.Stmt.{Stmt}
use Rattle.br_flatimp.specs.declared.program.Stmt.TheOpen.{Stmt-F}
use Rattle.br_flatimp.specs.declared.program.Stmt.TheVariants.{Lit, Copy, Op, Load, Table}
use Rattle.br_flatimp.specs.declared.program.Stmt.TheVariants.{Stackalloc, If, Loop, Call, Read}
use Rattle.br_flatimp.specs.Parts.{statement_names}
use Rattle.br_flatimp.specs.Sizes.{statement_count}
use Rattle.br_flatimp.specs.Values.{Names}
use Rattle.br_flatimp.specs.Liveness.{is_in, Moment, at_test, before, before_all, live, moments}
use Rattle.br_flatimp.specs.WellFormed.{all_differ, are_below}
use Rattle.br_live.specs.Tables.{Row}
use Rattle.br_regalloc_check.specs.Walks.{AreApartBelow, IsApartBelow, MayRenameBelow, StandsAt}
use Rattle.br_regalloc_check.proofs.Forms.{itself, count-stackalloc, count-if, count-loop, moments-lit}
use Rattle.br_regalloc_check.proofs.Forms.{moments-copy, moments-op, moments-load, moments-table}
use Rattle.br_regalloc_check.proofs.Forms.{moments-stackalloc, moments-if, moments-loop, moments-call, moments-read}
use Rattle.br_regalloc_check.proofs.Below.{below-as, below-if, below-loop}
use Rattle.br_regalloc_check.proofs.Lists.{all-split, all-join, drop_next, each-in, in-each}
use Rattle.br_regalloc_check.proofs.Stands.{stands-first, stands-second, all-moments-count, sum-cons}

-- a statement that writes some names itself, and the moments of the statements in it
pub record Own (s : Stmt) (xs : List ℕ) (a aw : Names) (ms : List Moment) : Type 0 where
  pub m : Moment
  pub written : m.written ≡ xs
  pub after_write : m.after_write ≡ aw
  pub moments : (live s).moments a ≡ m ∷ ms

abbrev pub OwnMay : ℕ → (ℕ → ℕ) → List ℕ → Names → Type 0
OwnMay n to xs aw = IsTrue (all_differ (map to xs)) × AllByRecursion (λ x. IsApartBelow n to x aw) xs

abbrev pub May : ℕ → (ℕ → ℕ) → List Moment → Type 0
May n to = AllByRecursion (MayRenameBelow n to)

pub own-in : (n : ℕ) (to : ℕ → ℕ) (s : Stmt) (xs : List ℕ) (a aw : Names) (ms : List Moment) → Own s xs a aw ms
    → OwnMay n to xs aw → May n to ms → May n to ((live s).moments a)
own-in n to s xs a aw ms o h k = subst (May n to) (sym o.moments) (
  record {
    differ = subst (λ ys. IsTrue (all_differ (map to ys))) (sym o.written) h.0;
    apart = λ x i. subst (IsApartBelow n to x) (sym o.after_write)
        (each-in (λ y. IsApartBelow n to y aw) xs h.1 x (subst (λ ys. IsTrue (is_in ys x)) o.written i));
  },
  k,
)

pub own-out : (n : ℕ) (to : ℕ → ℕ) (s : Stmt) (xs : List ℕ) (a aw : Names) (ms : List Moment) → Own s xs a aw ms
    → May n to ((live s).moments a) → OwnMay n to xs aw × May n to ms
own-out n to s xs a aw ms o h =
    let whole = subst (May n to) o.moments h in (
      (
        subst (λ ys. IsTrue (all_differ (map to ys))) o.written whole.0.differ,
        in-each (λ y. IsApartBelow n to y aw) xs (λ x i. subst (IsApartBelow n to x) o.after_write
            (whole.0.apart x (subst (λ ys. IsTrue (is_in ys x)) (sym o.written) i))),
      ),
      whole.1,
    )

-- ---- forms

abbrev pub IsSingle : Stmt → ℕ → Type 0
IsSingle s x =
    ((n : ℕ) × (s ≡ Lit x n))
    ⊎ (((y : ℕ) × (s ≡ Copy x y))
    ⊎ (((op : BinOp) × (y : ℕ) × (z : Operand) × (s ≡ Op x op y z))
    ⊎ (((size : Size) × (y : ℕ) × (d : ℤ) × (s ≡ Load x size y d))
    ⊎ (((size : Size) × (bytes : List ℕ) × (y : ℕ) × (s ≡ Table x size bytes y))
    ⊎ ((y : ℕ) × (s ≡ Read x y))))))

own-as : (s c : Stmt) (y : Stmt-F Stmt) (xs : List ℕ) (a aw : Names) (ms : List Moment) → s ≡ c
    → (itself y a).written ≡ xs → (itself y a).after_write ≡ aw
    → (live c).moments a ≡ itself y a ∷ ms → Own s xs a aw ms
own-as s c y xs a aw ms is w k e =
    record { m = itself y a; written = w; after_write = k; moments = ap (λ d. (live d).moments a) is ∙ e }

pub own-single : (s : Stmt) (x : ℕ) → IsSingle s x → (a : Names) → Own s (x ∷ []) a a []
own-single s x (inl e) a = own-as s (Lit x e.0) (Stmt-F.Lit x e.0) (x ∷ []) a a [] e.1 refl refl (moments-lit x e.0 a)
own-single s x (inr (inl e)) a =
    own-as s (Copy x e.0) (Stmt-F.Copy x e.0) (x ∷ []) a a [] e.1 refl refl (moments-copy x e.0 a)
own-single s x (inr (inr (inl e))) a =
    own-as s (Op x e.0 e.1 e.2) (Stmt-F.Op x e.0 e.1 e.2) (x ∷ []) a a [] e.3 refl refl (moments-op x e.0 e.1 e.2 a)
own-single s x (inr (inr (inr (inl e)))) a = own-as s (Load x e.0 e.1 e.2) (Stmt-F.Load x e.0 e.1 e.2) (x ∷ []) a a []
    e.3 refl refl (moments-load x e.0 e.1 e.2 a)
own-single s x (inr (inr (inr (inr (inl e))))) a = own-as s (Table x e.0 e.1 e.2) (Stmt-F.Table x e.0 e.1 e.2) (x ∷ [])
    a a [] e.3 refl refl (moments-table x e.0 e.1 e.2 a)
own-single s x (inr (inr (inr (inr (inr e))))) a =
    own-as s (Read x e.0) (Stmt-F.Read x e.0) (x ∷ []) a a [] e.1 refl refl (moments-read x e.0 a)

pub own-call : (s : Stmt) (xs : List ℕ) (g : ℕ) (ys : List ℕ) → s ≡ Call xs g ys → (a : Names) → Own s xs a a []
own-call s xs g ys is a = own-as s (Call xs g ys) (Stmt-F.Call xs g ys) xs a a [] is refl refl (moments-call xs g ys a)

pub own-buffer : (s : Stmt) (x n : ℕ) (body : List Stmt) → s ≡ Stackalloc x n body → (a : Names)
    → Own s (x ∷ []) a (before_all body a) (moments (map live body) a)
own-buffer s x n body is a = own-as s (Stackalloc x n body) (Stmt-F.Stackalloc x n body) (x ∷ []) a (before_all body a)
    (moments (map live body) a) is refl refl (moments-stackalloc x n body a)

abbrev pub IsPair : Stmt → List Stmt → List Stmt → Type 0
IsPair s first second = ((test : Cond) × (s ≡ If test first second)) ⊎ ((test : Cond) × (s ≡ Loop first test second))

-- a statement with two parts, and what is live at their ends
pub record Pair (s : Stmt) (first second : List Stmt) (a : Names) : Type 0 where
  pub end : Names
  pub other : Names
  pub own : Own s [] a a (moments (map live first) end ++ moments (map live second) other)

pub own-pair : (s : Stmt) (first second : List Stmt) → IsPair s first second → (a : Names) → Pair s first second a
own-pair s first second (inl e) a = record {
  end = a;
  other = a;
  own = own-as s (If e.0 first second) (Stmt-F.If e.0 first second) [] a a
      (moments (map live first) a ++ moments (map live second) a) e.1 refl refl (moments-if e.0 first second a);
}
own-pair s first second (inr e) a =
    let t : Names = at_test (map live first) e.0 (map live second) a in
    record {
      end = t;
      other = before_all first t;
      own = own-as s (Loop first e.0 second) (Stmt-F.Loop first e.0 second) [] a a (moments (map live first) t
          ++ moments (map live second) (before_all first t)) e.1 refl refl (moments-loop first e.0 second a);
    }

-- ---- answers

pub single-answers : (n : ℕ) (to : ℕ → ℕ) (s : Stmt) (x : ℕ) (a set : Names) (r : Bool) → IsSingle s x → set ≡ a
    → (IsTrue r ↔ IsApartBelow n to x set)
    → IsTrue r ↔ May n to ((live s).moments a)
single-answers n to s x a set r is same h =
    let o = own-single s x is a in (
      λ sure. own-in n to s (x ∷ []) a a [] o (refl, (subst (IsApartBelow n to x) same (h.0 sure), tt)) tt,
      λ may. h.1 (subst (IsApartBelow n to x) (sym same) (own-out n to s (x ∷ []) a a [] o may).0.1.0),
    )

pub call-answers : (n : ℕ) (to : ℕ → ℕ) (s : Stmt) (xs : List ℕ) (g : ℕ) (ys : List ℕ) (a set : Names) (r : Bool)
    → s ≡ Call xs g ys → set ≡ a → IsTrue (all_differ (map to xs))
    → (IsTrue r ↔ AllByRecursion (λ x. IsApartBelow n to x set) xs) → IsTrue r ↔ May n to ((live s).moments a)
call-answers n to s xs g ys a set r is same differ h =
    let o = own-call s xs g ys is a in (
      λ sure. own-in n to s xs a a [] o
          (differ, subst (λ l. AllByRecursion (λ x. IsApartBelow n to x l) xs) same (h.0 sure)) tt,
      λ may. h.1
          (subst (λ l. AllByRecursion (λ x. IsApartBelow n to x l) xs) (sym same) (own-out n to s xs a a [] o may).0.1),
    )

pub buffer-then : (n : ℕ) (to : ℕ → ℕ) (s : Stmt) (x k : ℕ) (body : List Stmt) (a : Names) (b r : Bool)
    → s ≡ Stackalloc x k body → b ≡ true
    → (IsTrue b ↔ IsApartBelow n to x (before_all body a)) → (IsTrue r ↔ May n to (moments (map live body) a))
    → IsTrue r ↔ May n to ((live s).moments a)
buffer-then n to s x k body a b r is sure h g =
    let o = own-buffer s x k body is a in (
      λ so. own-in n to s (x ∷ []) a (before_all body a) (moments (map live body) a) o (refl, (h.0 sure, tt)) (g.0 so),
      λ may. g.1 (own-out n to s (x ∷ []) a (before_all body a) (moments (map live body) a) o may).1,
    )

pub buffer-else : (n : ℕ) (to : ℕ → ℕ) (s : Stmt) (x k : ℕ) (body : List Stmt) (a : Names) (b : Bool)
    → s ≡ Stackalloc x k body → b ≡ false
    → (IsTrue b ↔ IsApartBelow n to x (before_all body a)) → IsTrue b ↔ May n to ((live s).moments a)
buffer-else n to s x k body a b is not h =
    let o = own-buffer s x k body is a in (
      λ so. absurd (cc (so, not)),
      λ may. h.1 (own-out n to s (x ∷ []) a (before_all body a) (moments (map live body) a) o may).0.1.0,
    )

pub pair-then : (n : ℕ) (to : ℕ
    → ℕ) (s : Stmt) (first second : List Stmt) (a : Names) (p : Pair s first second a) (b r : Bool) → b ≡ true
    → (IsTrue b ↔ May n to (moments (map live first) p.end)) → (IsTrue r ↔ May n to (moments (map live second) p.other))
    → IsTrue r ↔ May n to ((live s).moments a)
pair-then n to s first second a p b r sure h g =
    let ms : List Moment = moments (map live first) p.end in
    let ns : List Moment = moments (map live second) p.other in (
      λ so. own-in n to s [] a a (ms ++ ns) p.own (refl, tt) (all-join (MayRenameBelow n to) ms ns (h.0 sure) (g.0 so)),
      λ may. g.1 (all-split (MayRenameBelow n to) ms ns (own-out n to s [] a a (ms ++ ns) p.own may).1).1,
    )

pub pair-else : (n : ℕ) (to : ℕ
    → ℕ) (s : Stmt) (first second : List Stmt) (a : Names) (p : Pair s first second a) (b : Bool) → b ≡ false
    → (IsTrue b ↔ May n to (moments (map live first) p.end)) → IsTrue b ↔ May n to ((live s).moments a)
pair-else n to s first second a p b not h =
    let ms : List Moment = moments (map live first) p.end in
    let ns : List Moment = moments (map live second) p.other in (
      λ so. absurd (cc (so, not)),
      λ may. h.1 (all-split (MayRenameBelow n to) ms ns (own-out n to s [] a a (ms ++ ns) p.own may).1).0,
    )

-- ---- rows

-- the rows of the statements in a statement
pub stands-inner : (rows : List Row) (at n : ℕ) (s : Stmt) (xs : List ℕ) (a aw : Names) (ms : List Moment)
    → Own s xs a aw ms → StandsAt rows at n ((live s).moments a)
    → StandsAt rows (at + 1) n ms
stands-inner rows at n s xs a aw ms o h = stands-second rows at n (o.m ∷ []) ms (subst (StandsAt rows at n) o.moments h)

pub pair-first : (rows : List Row) (at n : ℕ) (s : Stmt) (first second : List Stmt) (a : Names) (p : Pair s first second
    a) → StandsAt rows at n ((live s).moments a)
    → StandsAt rows (at + 1) n (moments (map live first) p.end)
pair-first rows at n s first second a p h =
    let ms : List Moment = moments (map live first) p.end in
    let ns : List Moment = moments (map live second) p.other in
    stands-first rows (at + 1) n ms ns (stands-inner rows at n s [] a a (ms ++ ns) p.own h)

pub pair-second : (rows : List Row) (at n : ℕ) (s : Stmt) (first second : List Stmt) (a : Names) (p : Pair s first
    second a) → StandsAt rows at n ((live s).moments a)
    → StandsAt rows (at + 1 + sum (map statement_count first)) n (moments (map live second) p.other)
pair-second rows at n s first second a p h =
    let ms : List Moment = moments (map live first) p.end in
    let ns : List Moment = moments (map live second) p.other in
    subst (λ k. StandsAt rows (at + 1 + k) n ns) (all-moments-count first p.end)
    (stands-second rows (at + 1) n ms ns (stands-inner rows at n s [] a a (ms ++ ns) p.own h))

-- ---- a statement in a list

pub item-drop : (body : List Stmt) (i : ℕ) (s : Stmt) → i < length body → s ≡ get_or body i s
    → drop i body ≡ s ∷ drop (i + 1) body
item-drop body i s inside is = drop_next body i s inside ∙ ap (λ c. c ∷ drop (i + 1) body) (sym is)

pub item-moments : (body : List Stmt) (i : ℕ) (s : Stmt) (a : Names) → i < length body → s ≡ get_or body i s
    → moments (map live (drop i body)) a
    ≡ (live s).moments (before_all (drop (i + 1) body) a) ++ moments (map live (drop (i + 1) body)) a
item-moments body i s a inside is = ap (λ b. moments (map live b) a) (item-drop body i s inside is)

pub item-count : (body : List Stmt) (i : ℕ) (s : Stmt) → i < length body → s ≡ get_or body i s
    → sum (map statement_count (drop i body)) ≡ statement_count s + sum (map statement_count (drop (i + 1) body))
item-count body i s inside is = ap (λ b. sum (map statement_count b)) (item-drop body i s inside is)
    ∙ sum-cons (statement_count s) (map statement_count (drop (i + 1) body))

-- ---- the first of statements

pub first-apart : (bound : ℕ) (to : ℕ → ℕ) (rows : List Row) (at n x : ℕ) (part : List Stmt) (s : Stmt) (r : Bool)
    (end : Names) → 1 ≤ length part → s ≡ get_or part 0 s
    → ((names : ℕ) (after : Names) → StandsAt rows at names ((live s).moments after)
    → IsTrue r ↔ IsApartBelow bound to x (before s after))
    → StandsAt rows at n (moments (map live part) end) → IsTrue r ↔ IsApartBelow bound to x (before_all part end)
first-apart bound to rows at n x [] s r end some is claim h = absurd (omega arith)
first-apart bound to rows at n x (c ∷ part) s r end some is claim h =
    let after : Names = before_all part end in
    let first = stands-first rows at n ((live c).moments after) (moments (map live part) end) h in
    subst (λ d. IsTrue r ↔ IsApartBelow bound to x (before d after)) is
    (claim n after (subst (λ d. StandsAt rows at n ((live d).moments after)) (sym is) first))

pub first-all : (bound : ℕ) (to : ℕ → ℕ) (rows : List Row) (at n : ℕ) (part : List Stmt) (s : Stmt) (r : Bool)
    (end : Names) → 1 ≤ length part → s ≡ get_or part 0 s
    → ((names : ℕ) (after : Names) → StandsAt rows at names ((live s).moments after)
    → IsTrue r ↔ AreApartBelow bound to (before s after))
    → StandsAt rows at n (moments (map live part) end)
    → IsTrue r ↔ (0 < length part → AreApartBelow bound to (before_all part end))
first-all bound to rows at n [] s r end some is claim h = absurd (omega arith)
first-all bound to rows at n (c ∷ part) s r end some is claim h =
    let after : Names = before_all part end in
    let first = stands-first rows at n ((live c).moments after) (moments (map live part) end) h in
    let one = subst (λ d. IsTrue r ↔ AreApartBelow bound to (before d after)) is
    (claim n after (subst (λ d. StandsAt rows at n ((live d).moments after)) (sym is) first)) in
    (λ sure more. one.0 sure, λ apart. one.1 (apart some))

-- ---- how many statements there are, and their names

pub count-buffer : (s : Stmt) (x n : ℕ) (body : List Stmt) → s ≡ Stackalloc x n body
    → statement_count s ≡ suc (sum (map statement_count body))
count-buffer s x n body is = ap statement_count is ∙ count-stackalloc x n body

pub count-pair : (s : Stmt) (first second : List Stmt) → IsPair s first second
    → statement_count s ≡ suc (sum (map statement_count first) + sum (map statement_count second))
count-pair s first second (inl e) = ap statement_count e.1 ∙ count-if e.0 first second
count-pair s first second (inr e) = ap statement_count e.1 ∙ count-loop first e.0 second

pub below-pair : (b : ℕ) (s : Stmt) (first second : List Stmt) → IsPair s first second
    → IsTrue (are_below b (statement_names s))
    → IsTrue (are_below b (flat_map statement_names first)) × IsTrue (are_below b (flat_map statement_names second))
below-pair b s first second (inl e) h =
    let all = below-if b e.0 first second (below-as b s (If e.0 first second) e.1 h) in (all.1, all.2)
below-pair b s first second (inr e) h =
    let all = below-loop b first e.0 second (below-as b s (Loop first e.0 second) e.1 h) in (all.1, all.2)
