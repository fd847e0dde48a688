-- What statements in register form have as much of as those that they come from: buffers, callees, and buffers
-- nested in one another. All of these say nothing of statements that only move words.
use Rattle.std.proofs.Common.{◌≡◌, ℕ, ℤ, suc, ◌*◌, List, [], ◌∷◌, ◌++◌, map, length, Bool, true}
use Rattle.std.proofs.Common.{false, if◌then◌else◌, nat_lt, refl, sym, ap, subst, ◌∙◌, pos}
use Rattle.br_words.specs.declared.operation.BinOp.{BinOp}
use Rattle.br_words.specs.declared.operation.BinOp.TheVariants.{Add}
use Rattle.br_words.specs.declared.size.Size.{Size}
use Rattle.br_words.specs.declared.size.Size.TheVariants.{Four}
use Rattle.br_flatimp.specs.declared.program.Operand.{Operand}
use Rattle.br_flatimp.specs.declared.program.Operand.TheVariants as operand
use Rattle.br_flatimp.specs.declared.program.Cond.{Cond}
use Rattle.br_flatimp.specs.declared.program.Cond.TheVariants.{NonZero, Compare}
use Rattle.br_flatimp.specs.declared.program.Stmt.{Stmt, map-Stmt}
use Rattle.br_flatimp.specs.declared.program.Stmt.TheOpen.{Stmt-F}
use Rattle.br_flatimp.specs.declared.program.Stmt.TheViews.{roll-Stmt}
use Rattle.br_flatimp.specs.declared.program.Stmt.TheFolds.{fold-Stmt, fold-roll-Stmt, ind-Stmt}
use Rattle.br_spill.specs.Spill.{Layout, fetch, put_away, bring, at, keep, put, pass, copy, bring_operand, operand_at}
use Rattle.br_spill.specs.Spill.{bring_test, test_at, in_order, passes, takes, joined, spilled_step, spilled}
use Rattle.br_spill.specs.declared.place.Place.{Place}
use Rattle.br_spill.specs.declared.place.Place.TheVariants.{Register, Slot}

-- What is counted of statements: `all` puts it together for statements in turn, with `plus` and `none`.
pub record Counted (X : Type 0) : Type 0 where
  pub step : Stmt-F X → X
  pub none : X
  pub plus : X → X → X
  pub all : List X → X
  pub empty : all [] ≡ none
  pub cons : (x : X) (xs : List X) → all (x ∷ xs) ≡ plus x (all xs)
  pub left : (x : X) → plus none x ≡ x
  pub right : (x : X) → plus x none ≡ x
  pub assoc : (x y z : X) → plus (plus x y) z ≡ plus x (plus y z)
  pub buffer : ℕ → X → X
  pub called : ℕ → X
  pub lit : (x n : ℕ) → step (Stmt-F.Lit x n) ≡ none
  pub copies : (x y : ℕ) → step (Stmt-F.Copy x y) ≡ none
  pub op : (x : ℕ) (o : BinOp) (y : ℕ) (z : Operand) → step (Stmt-F.Op x o y z) ≡ none
  pub load : (x : ℕ) (size : Size) (y : ℕ) (offset : ℤ) → step (Stmt-F.Load x size y offset) ≡ none
  pub store : (size : Size) (y z : ℕ) (offset : ℤ) → step (Stmt-F.Store size y z offset) ≡ none
  pub table : (x : ℕ) (size : Size) (bytes : List ℕ) (y : ℕ) → step (Stmt-F.Table x size bytes y) ≡ none
  pub reads : (x y : ℕ) → step (Stmt-F.Read x y) ≡ none
  pub writes : (y z : ℕ) → step (Stmt-F.Write y z) ≡ none
  pub stackalloc : (x n : ℕ) (body : List X) → step (Stmt-F.Stackalloc x n body) ≡ buffer n (all body)
  pub if_else : (test : Cond) (first second : List X)
      → step (Stmt-F.If test first second) ≡ plus (all first) (all second)
  pub loops : (first : List X) (test : Cond) (last : List X)
      → step (Stmt-F.Loop first test last) ≡ plus (all first) (all last)
  pub calls : (xs : List ℕ) (g : ℕ) (ys : List ℕ) → step (Stmt-F.Call xs g ys) ≡ called g

abbrev pub of : {X : Type 0} → Counted X → Stmt → X
of {X} c = fold-Stmt X c.step

abbrev pub total : {X : Type 0} → Counted X → List Stmt → X
total c xs = c.all (map (of c) xs)

pub total-append : {X : Type 0} (c : Counted X) (xs ys : List Stmt)
    → total c (xs ++ ys) ≡ c.plus (total c xs) (total c ys)
total-append c [] ys = sym (ap (λ x. c.plus x (total c ys)) c.empty ∙ c.left (total c ys))
total-append c (x ∷ xs) ys =
    c.cons (of c x) (map (of c) (xs ++ ys)) ∙ ap (c.plus (of c x)) (total-append c xs ys)
    ∙ sym (c.assoc (of c x) (total c xs) (total c ys))
    ∙ ap (λ y. c.plus y (total c ys)) (sym (c.cons (of c x) (map (of c) xs)))

-- a statement in front
first : {X : Type 0} (c : Counted X) (y : Stmt-F Stmt) (xs : List Stmt)
    → total c (roll-Stmt y ∷ xs) ≡ c.plus (c.step (map-Stmt Stmt X (of c) y)) (total c xs)
first {X} c y xs =
    c.cons (of c (roll-Stmt y)) (map (of c) xs) ∙ ap (λ x. c.plus x (total c xs)) (fold-roll-Stmt X c.step y)

-- a statement of which nothing is said, in front of others
skip : {X : Type 0} (c : Counted X) (y : Stmt-F Stmt) (xs : List Stmt) → c.step (map-Stmt Stmt X (of c) y) ≡ c.none
    → total c (roll-Stmt y ∷ xs) ≡ total c xs
skip c y xs e = first c y xs ∙ ap (λ x. c.plus x (total c xs)) e ∙ c.left (total c xs)

-- one of which something is said, alone
pub alone : {X : Type 0} (c : Counted X) (y : Stmt-F Stmt)
    → total c (roll-Stmt y ∷ []) ≡ c.step (map-Stmt Stmt X (of c) y)
alone {X} c y =
    first c y [] ∙ ap (c.plus (c.step (map-Stmt Stmt X (of c) y))) c.empty ∙ c.right (c.step (map-Stmt Stmt X (of c) y))

-- pieces of which nothing is said, in front of others
after : {X : Type 0} (c : Counted X) (xs ys : List Stmt) → total c xs ≡ c.none → total c (xs ++ ys) ≡ total c ys
after c xs ys e = total-append c xs ys ∙ ap (λ x. c.plus x (total c ys)) e ∙ c.left (total c ys)

-- ---- pieces

fetch-none : {X : Type 0} (c : Counted X) (k r : ℕ) → total c (fetch k r) ≡ c.none
fetch-none {X} c k r = by (nat_lt k 512)
  where
    by : (b : Bool)
        → total c (if b then roll-Stmt (Stmt-F.Load r Four 3 (pos (4 * k))) ∷ [] else roll-Stmt (Stmt-F.Lit r (4 * k))
        ∷ roll-Stmt (Stmt-F.Op r Add r (operand.Name 3)) ∷ roll-Stmt (Stmt-F.Load r Four r (pos 0)) ∷ []) ≡ c.none
    by true = skip c (Stmt-F.Load r Four 3 (pos (4 * k))) [] (c.load r Four 3 (pos (4 * k))) ∙ c.empty
    by false =
        skip c (Stmt-F.Lit r (4 * k)) (roll-Stmt (Stmt-F.Op r Add r (operand.Name 3))
        ∷ roll-Stmt (Stmt-F.Load r Four r (pos 0)) ∷ []) (c.lit r (4 * k))
        ∙ skip c (Stmt-F.Op r Add r (operand.Name 3)) (roll-Stmt (Stmt-F.Load r Four r (pos 0)) ∷ [])
        (c.op r Add r (operand.Name 3))
        ∙ skip c (Stmt-F.Load r Four r (pos 0)) [] (c.load r Four r (pos 0)) ∙ c.empty

put_away-none : {X : Type 0} (c : Counted X) (k r : ℕ) → total c (put_away k r) ≡ c.none
put_away-none {X} c k r = by (nat_lt k 512)
  where
    by : (b : Bool)
        → total c (if b then roll-Stmt (Stmt-F.Store Four 3 r (pos (4 * k))) ∷ [] else roll-Stmt (Stmt-F.Lit 5 (4 * k))
        ∷ roll-Stmt (Stmt-F.Op 5 Add 5 (operand.Name 3)) ∷ roll-Stmt (Stmt-F.Store Four 5 r (pos 0)) ∷ []) ≡ c.none
    by true = skip c (Stmt-F.Store Four 3 r (pos (4 * k))) [] (c.store Four 3 r (pos (4 * k))) ∙ c.empty
    by false =
        skip c (Stmt-F.Lit 5 (4 * k)) (roll-Stmt (Stmt-F.Op 5 Add 5 (operand.Name 3))
        ∷ roll-Stmt (Stmt-F.Store Four 5 r (pos 0)) ∷ []) (c.lit 5 (4 * k))
        ∙ skip c (Stmt-F.Op 5 Add 5 (operand.Name 3)) (roll-Stmt (Stmt-F.Store Four 5 r (pos 0)) ∷ [])
        (c.op 5 Add 5 (operand.Name 3))
        ∙ skip c (Stmt-F.Store Four 5 r (pos 0)) [] (c.store Four 5 r (pos 0)) ∙ c.empty

bring-none : {X : Type 0} (c : Counted X) (p : Place) (spare : ℕ) → total c (bring p spare) ≡ c.none
bring-none c (Register r) spare = c.empty
bring-none c (Slot k) spare = fetch-none c k spare

keep-none : {X : Type 0} (c : Counted X) (p : Place) → total c (keep p) ≡ c.none
keep-none c (Register r) = c.empty
keep-none c (Slot k) = put_away-none c k 4

put-none : {X : Type 0} (c : Counted X) (p : Place) (r : ℕ) → total c (put p r) ≡ c.none
put-none c (Register q) r = skip c (Stmt-F.Copy q r) [] (c.copies q r) ∙ c.empty
put-none c (Slot k) r = put_away-none c k r

pass-none : {X : Type 0} (c : Counted X) (p : Place) (r : ℕ) → total c (pass p r) ≡ c.none
pass-none c (Register q) r = skip c (Stmt-F.Copy r q) [] (c.copies r q) ∙ c.empty
pass-none c (Slot k) r = fetch-none c k r

copy-none : {X : Type 0} (c : Counted X) (to from : Place) → total c (copy to from) ≡ c.none
copy-none c to (Register r) = put-none c to r
copy-none c to (Slot k) = after c (fetch k (at to 4)) (keep to) (fetch-none c k (at to 4)) ∙ keep-none c to

operand-none : {X : Type 0} (c : Counted X) (l : Layout) (z : Operand) → total c (bring_operand l z) ≡ c.none
operand-none c l (operand.Name z) = bring-none c (l.place z) 5
operand-none c l (operand.Const k) = c.empty

test-none : {X : Type 0} (c : Counted X) (l : Layout) (test : Cond) → total c (bring_test l test) ≡ c.none
test-none c l (NonZero y) = bring-none c (l.place y) 4
test-none c l (Compare rel y z) =
    after c (bring (l.place y) 4) (bring (l.place z) 5) (bring-none c (l.place y) 4) ∙ bring-none c (l.place z) 5

pub passes-none : {X : Type 0} (c : Counted X) (ps : List Place) (to : ℕ) → total c (passes ps to) ≡ c.none
passes-none c [] to = c.empty
passes-none c (p ∷ ps) to = after c (pass p to) (passes ps (suc to)) (pass-none c p to) ∙ passes-none c ps (suc to)

pub takes-none : {X : Type 0} (c : Counted X) (ps : List Place) (from : ℕ) → total c (takes ps from) ≡ c.none
takes-none c [] from = c.empty
takes-none c (p ∷ ps) from = after c (put p from) (takes ps (suc from)) (put-none c p from) ∙ takes-none c ps (suc from)

-- ---- statements

abbrev Same : {X : Type 0} → Counted X → Layout → Stmt → Type 0
Same c l s = total c (spilled l s) ≡ of c s

abbrev Known : {X : Type 0} → Counted X → Layout → Type 0
Known c l = (s : Stmt) × Same c l s

abbrev stmts : {X : Type 0} (c : Counted X) (l : Layout) → List (Known c l) → List Stmt
stmts c l xs = map (λ e. e.0) xs

same-all : {X : Type 0} (c : Counted X) (l : Layout) (xs : List (Known c l))
    → total c (joined (map (spilled l) (stmts c l xs))) ≡ total c (stmts c l xs)
same-all c l [] = refl
same-all c l (x ∷ xs) =
    total-append c (spilled l x.0) (joined (map (spilled l) (stmts c l xs)))
    ∙ ap (λ y. c.plus y (total c (joined (map (spilled l) (stmts c l xs))))) x.1
    ∙ ap (c.plus (of c x.0)) (same-all c l xs)
    ∙ sym (c.cons (of c x.0) (map (of c) (stmts c l xs)))

abbrev LayerSame : {X : Type 0} → Counted X → Layout → Stmt-F Stmt → Type 0
LayerSame {X} c l y =
    total c (spilled_step l (map-Stmt Stmt (List Stmt) (spilled l) y)) ≡ c.step (map-Stmt Stmt X (of c) y)

layer : {X : Type 0} (c : Counted X) (l : Layout) (y : Stmt-F (Known c l))
    → LayerSame c l (map-Stmt (Known c l) Stmt (λ e. e.0) y)
layer c l (Stmt-F.Lit x n) =
    skip c (Stmt-F.Lit (at (l.place x) 4) n) (keep (l.place x)) (c.lit (at (l.place x) 4) n) ∙ keep-none c (l.place x)
    ∙ sym (c.lit x n)
layer c l (Stmt-F.Copy x y) = copy-none c (l.place x) (l.place y) ∙ sym (c.copies x y)
layer c l (Stmt-F.Op x o y z) =
    let last : Stmt-F Stmt = Stmt-F.Op (at (l.place x) 4) o (at (l.place y) 4) (operand_at l z) in
    after c (bring (l.place y) 4) (bring_operand l z ++ roll-Stmt last ∷ keep (l.place x)) (bring-none c (l.place y) 4)
    ∙ after c (bring_operand l z) (roll-Stmt last ∷ keep (l.place x)) (operand-none c l z)
    ∙ skip c last (keep (l.place x)) (c.op (at (l.place x) 4) o (at (l.place y) 4) (operand_at l z))
    ∙ keep-none c (l.place x) ∙ sym (c.op x o y z)
layer c l (Stmt-F.Load x size y offset) =
    let last : Stmt-F Stmt = Stmt-F.Load (at (l.place x) 4) size (at (l.place y) 4) offset in
    after c (bring (l.place y) 4) (roll-Stmt last ∷ keep (l.place x)) (bring-none c (l.place y) 4)
    ∙ skip c last (keep (l.place x)) (c.load (at (l.place x) 4) size (at (l.place y) 4) offset)
    ∙ keep-none c (l.place x) ∙ sym (c.load x size y offset)
layer c l (Stmt-F.Store size y z offset) =
    let last : Stmt-F Stmt = Stmt-F.Store size (at (l.place y) 4) (at (l.place z) 5) offset in
    after c (bring (l.place y) 4) (bring (l.place z) 5 ++ roll-Stmt last ∷ []) (bring-none c (l.place y) 4)
    ∙ after c (bring (l.place z) 5) (roll-Stmt last ∷ []) (bring-none c (l.place z) 5)
    ∙ skip c last [] (c.store size (at (l.place y) 4) (at (l.place z) 5) offset) ∙ c.empty
    ∙ sym (c.store size y z offset)
layer c l (Stmt-F.Table x size bytes y) =
    let last : Stmt-F Stmt = Stmt-F.Table (at (l.place x) 4) size bytes (at (l.place y) 4) in
    after c (bring (l.place y) 4) (roll-Stmt last ∷ keep (l.place x)) (bring-none c (l.place y) 4)
    ∙ skip c last (keep (l.place x)) (c.table (at (l.place x) 4) size bytes (at (l.place y) 4))
    ∙ keep-none c (l.place x) ∙ sym (c.table x size bytes y)
layer c l (Stmt-F.Stackalloc x n body) =
    let flat = joined (map (spilled l) (stmts c l body)) in
    alone c (Stmt-F.Stackalloc (at (l.place x) 4) n (keep (l.place x) ++ flat))
    ∙ c.stackalloc (at (l.place x) 4) n (map (of c) (keep (l.place x) ++ flat))
    ∙ ap (c.buffer n) (after c (keep (l.place x)) flat (keep-none c (l.place x)) ∙ same-all c l body)
    ∙ sym (c.stackalloc x n (map (of c) (stmts c l body)))
layer c l (Stmt-F.If test first second) =
    let one = joined (map (spilled l) (stmts c l first)) in
    let two = joined (map (spilled l) (stmts c l second)) in
    let last : Stmt-F Stmt = Stmt-F.If (test_at l test) one two in
    after c (bring_test l test) (roll-Stmt last ∷ []) (test-none c l test) ∙ alone c last
    ∙ c.if_else (test_at l test) (map (of c) one) (map (of c) two)
    ∙ ap (λ x. c.plus x (total c two)) (same-all c l first)
    ∙ ap (c.plus (total c (stmts c l first))) (same-all c l second)
    ∙ sym (c.if_else test (map (of c) (stmts c l first)) (map (of c) (stmts c l second)))
layer c l (Stmt-F.Loop first test last) =
    let one = joined (map (spilled l) (stmts c l first)) in
    let two = joined (map (spilled l) (stmts c l last)) in
    let brings = bring_test l test in
    alone c (Stmt-F.Loop (one ++ brings) (test_at l test) two)
    ∙ c.loops (map (of c) (one ++ brings)) (test_at l test) (map (of c) two)
    ∙ ap (λ x. c.plus x (total c two)) (total-append c one brings ∙ ap (c.plus (total c one)) (test-none c l test)
    ∙ c.right (total c one) ∙ same-all c l first)
    ∙ ap (c.plus (total c (stmts c l first))) (same-all c l last)
    ∙ sym (c.loops (map (of c) (stmts c l first)) test (map (of c) (stmts c l last)))
layer c l (Stmt-F.Call xs g ys) =
    let y : Stmt-F Stmt = Stmt-F.Call (in_order 10 (length xs)) g (in_order 10 (length ys)) in
    let taking = takes (map l.place xs) 10 in
    after c (passes (map l.place ys) 10) (roll-Stmt y ∷ taking) (passes-none c (map l.place ys) 10)
    ∙ first c y taking ∙ ap (c.plus (c.step (Stmt-F.Call (in_order 10 (length xs)) g (in_order 10 (length ys)))))
    (takes-none c (map l.place xs) 10)
    ∙ c.right (c.step (Stmt-F.Call (in_order 10 (length xs)) g (in_order 10 (length ys))))
    ∙ c.calls (in_order 10 (length xs)) g (in_order 10 (length ys)) ∙ sym (c.calls xs g ys)
layer c l (Stmt-F.Read x y) =
    let last : Stmt-F Stmt = Stmt-F.Read (at (l.place x) 4) (at (l.place y) 4) in
    after c (bring (l.place y) 4) (roll-Stmt last ∷ keep (l.place x)) (bring-none c (l.place y) 4)
    ∙ skip c last (keep (l.place x)) (c.reads (at (l.place x) 4) (at (l.place y) 4)) ∙ keep-none c (l.place x)
    ∙ sym (c.reads x y)
layer c l (Stmt-F.Write y z) =
    let last : Stmt-F Stmt = Stmt-F.Write (at (l.place y) 4) (at (l.place z) 5) in
    after c (bring (l.place y) 4) (bring (l.place z) 5 ++ roll-Stmt last ∷ []) (bring-none c (l.place y) 4)
    ∙ after c (bring (l.place z) 5) (roll-Stmt last ∷ []) (bring-none c (l.place z) 5)
    ∙ skip c last [] (c.writes (at (l.place y) 4) (at (l.place z) 5)) ∙ c.empty ∙ sym (c.writes y z)

pub same-statement : {X : Type 0} (c : Counted X) (l : Layout) (s : Stmt) → Same c l s
same-statement {X} c l = ind-Stmt (Same c l) (λ x y is.
    let step = subst (LayerSame c l) is (layer c l y) in
    ap (total c) (fold-roll-Stmt (List Stmt) (spilled_step l) x) ∙ step ∙ sym (fold-roll-Stmt X c.step x))

pub same-statements : {X : Type 0} (c : Counted X) (l : Layout) (xs : List Stmt)
    → total c (joined (map (spilled l) xs)) ≡ total c xs
same-statements c l [] = refl
same-statements c l (x ∷ xs) =
    total-append c (spilled l x) (joined (map (spilled l) xs))
    ∙ ap (λ y. c.plus y (total c (joined (map (spilled l) xs)))) (same-statement c l x)
    ∙ ap (c.plus (of c x)) (same-statements c l xs)
    ∙ sym (c.cons (of c x) (map (of c) xs))

-- the whole body of a function, with arguments taken and results passed
pub same-body : {X : Type 0} (c : Counted X) (l : Layout) (args results : List ℕ) (xs : List Stmt) → total c
    (takes (map l.place args) 10 ++ (joined (map (spilled l) xs) ++ passes (map l.place results) 10)) ≡ total c xs
same-body c l args results xs =
    after c (takes (map l.place args) 10) (joined (map (spilled l) xs) ++ passes (map l.place results) 10)
    (takes-none c (map l.place args) 10)
    ∙ total-append c (joined (map (spilled l) xs)) (passes (map l.place results) 10)
    ∙ ap (c.plus (total c (joined (map (spilled l) xs)))) (passes-none c (map l.place results) 10)
    ∙ c.right (total c (joined (map (spilled l) xs))) ∙ same-statements c l xs
