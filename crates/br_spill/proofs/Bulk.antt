-- Flat bulk of functions in register form: at most 24 times the units of those that they come from.
use Rattle.std.proofs.Common.{◌≡◌, ℕ, zero, suc, ◌+◌, ◌*◌, ◌≤◌, List, [], ◌∷◌, ◌++◌, map, length, Bool}
use Rattle.std.proofs.Common.{true, false, if◌then◌else◌, nat_lt, refl, sym, ap, subst, ◌∙◌, arith, pos}
use Rattle.std.specs.Prelude.{sum}
use Rattle.br_words.specs.declared.operation.BinOp.TheVariants.{Add}
use Rattle.br_words.specs.declared.size.Size.TheVariants.{Four}
use Rattle.br_flatimp.specs.declared.program.Operand.{Operand}
use Rattle.br_flatimp.specs.declared.program.Operand.TheVariants as operand
use Rattle.br_flatimp.specs.declared.program.Cond.{Cond}
use Rattle.br_flatimp.specs.declared.program.Cond.TheVariants.{NonZero, Compare}
use Rattle.br_flatimp.specs.declared.program.Stmt.{Stmt, map-Stmt}
use Rattle.br_flatimp.specs.declared.program.Stmt.TheOpen.{Stmt-F}
use Rattle.br_flatimp.specs.declared.program.Stmt.TheViews.{roll-Stmt}
use Rattle.br_flatimp.specs.declared.program.Stmt.TheFolds.{fold-roll-Stmt, ind-Stmt}
use Rattle.br_flatimp.specs.declared.program.FlatFunc.{FlatFunc}
use Rattle.br_flatimp.specs.Parts.{parts}
use Rattle.br_flatimp.specs.Sizes.{words_for, own_units, added, units, own_words}
use Rattle.br_flatimp.specs.Sizes.{statement_bulk, function_bulk, flat_bulk}
use Rattle.br_spill.proofs.Sizes.{sum_cons}
use Rattle.br_spill.specs.Spill.{Layout, fetch, put_away, bring, at, keep, put, pass, copy, bring_operand}
use Rattle.br_spill.specs.Spill.{operand_at, bring_test, test_at, in_order, passes, takes, joined}
use Rattle.br_spill.specs.Spill.{spilled_step, spilled, in_buffer, spilled_function, SpilledFunctions}
use Rattle.br_spill.specs.declared.place.Place.{Place}
use Rattle.br_spill.specs.declared.place.Place.TheVariants.{Register, Slot}

-- ---- sums

abbrev bulk : List Stmt → ℕ
bulk xs = sum (map statement_bulk xs)

abbrev own_step : Stmt-F ℕ → ℕ
own_step y = own_words y + sum (map sum (parts y))

abbrev unit_step : Stmt-F ℕ → ℕ
unit_step y = own_units y + sum (map sum (parts y))

bulk-append : (xs ys : List Stmt) → bulk (xs ++ ys) ≡ bulk xs + bulk ys
bulk-append [] ys = zero_first (bulk ys)
  where
    zero_first : (n : ℕ) → n ≡ 0 + n
    zero_first n = omega arith
bulk-append (x ∷ xs) ys =
    let whole = sum_cons (statement_bulk x) (map statement_bulk (xs ++ ys)) in
    let front = sum_cons (statement_bulk x) (map statement_bulk xs) in
    let rest = bulk-append xs ys in
    omega (arith, whole, front, rest)

-- a statement in front of others
bulk-first : (y : Stmt-F Stmt) (xs : List Stmt)
    → bulk (roll-Stmt y ∷ xs) ≡ own_step (map-Stmt Stmt ℕ statement_bulk y) + bulk xs
bulk-first y xs = sum_cons (statement_bulk (roll-Stmt y)) (map statement_bulk xs)
    ∙ ap (λ n. n + bulk xs) (fold-roll-Stmt ℕ own_step y)

-- ---- pieces

fetch-few : (k r : ℕ) → bulk (fetch k r) ≤ 5
fetch-few k r = by (nat_lt k 512)
  where
    by : (b : Bool) → bulk (if b then roll-Stmt (Stmt-F.Load r Four 3 (pos (4 * k))) ∷ [] else roll-Stmt (Stmt-F.Lit r
        (4 * k)) ∷ roll-Stmt (Stmt-F.Op r Add r (operand.Name 3)) ∷ roll-Stmt (Stmt-F.Load r Four r (pos 0)) ∷ []) ≤ 5
    by true = let is = bulk-first (Stmt-F.Load r Four 3 (pos (4 * k))) [] in omega (arith, is)
    by false =
        let one = bulk-first (Stmt-F.Lit r (4 * k))
        (roll-Stmt (Stmt-F.Op r Add r (operand.Name 3)) ∷ roll-Stmt (Stmt-F.Load r Four r (pos 0)) ∷ []) in
        let two = bulk-first (Stmt-F.Op r Add r (operand.Name 3)) (roll-Stmt (Stmt-F.Load r Four r (pos 0)) ∷ []) in
        let three = bulk-first (Stmt-F.Load r Four r (pos 0)) [] in
        omega (arith, one, two, three)

put_away-few : (k r : ℕ) → bulk (put_away k r) ≤ 5
put_away-few k r = by (nat_lt k 512)
  where
    by : (b : Bool) → bulk (if b then roll-Stmt (Stmt-F.Store Four 3 r (pos (4 * k))) ∷ [] else roll-Stmt (Stmt-F.Lit 5
        (4 * k)) ∷ roll-Stmt (Stmt-F.Op 5 Add 5 (operand.Name 3)) ∷ roll-Stmt (Stmt-F.Store Four 5 r (pos 0)) ∷ []) ≤ 5
    by true = let is = bulk-first (Stmt-F.Store Four 3 r (pos (4 * k))) [] in omega (arith, is)
    by false =
        let one = bulk-first (Stmt-F.Lit 5 (4 * k))
        (roll-Stmt (Stmt-F.Op 5 Add 5 (operand.Name 3)) ∷ roll-Stmt (Stmt-F.Store Four 5 r (pos 0)) ∷ []) in
        let two = bulk-first (Stmt-F.Op 5 Add 5 (operand.Name 3)) (roll-Stmt (Stmt-F.Store Four 5 r (pos 0)) ∷ []) in
        let three = bulk-first (Stmt-F.Store Four 5 r (pos 0)) [] in
        omega (arith, one, two, three)

bring-few : (p : Place) (spare : ℕ) → bulk (bring p spare) ≤ 5
bring-few (Register r) spare = omega arith
bring-few (Slot k) spare = fetch-few k spare

keep-few : (p : Place) → bulk (keep p) ≤ 5
keep-few (Register r) = omega arith
keep-few (Slot k) = put_away-few k 4

put-few : (p : Place) (r : ℕ) → bulk (put p r) ≤ 5
put-few (Register q) r = let is = bulk-first (Stmt-F.Copy q r) [] in omega (arith, is)
put-few (Slot k) r = put_away-few k r

pass-few : (p : Place) (r : ℕ) → bulk (pass p r) ≤ 5
pass-few (Register q) r = let is = bulk-first (Stmt-F.Copy r q) [] in omega (arith, is)
pass-few (Slot k) r = fetch-few k r

copy-few : (to from : Place) → bulk (copy to from) ≤ 10
copy-few to (Register r) = let is = put-few to r in omega (arith, is)
copy-few to (Slot k) =
    let sum = bulk-append (fetch k (at to 4)) (keep to) in
    let one = fetch-few k (at to 4) in
    let two = keep-few to in
    omega (arith, sum, one, two)

operand-few : (l : Layout) (z : Operand) → bulk (bring_operand l z) ≤ 5
operand-few l (operand.Name z) = bring-few (l.place z) 5
operand-few l (operand.Const c) = omega arith

test-few : (l : Layout) (test : Cond) → bulk (bring_test l test) ≤ 10
test-few l (NonZero y) = let is = bring-few (l.place y) 4 in omega (arith, is)
test-few l (Compare rel y z) =
    let sum = bulk-append (bring (l.place y) 4) (bring (l.place z) 5) in
    let one = bring-few (l.place y) 4 in
    let two = bring-few (l.place z) 5 in
    omega (arith, sum, one, two)

passes-few : (l : Layout) (ys : List ℕ) (to : ℕ) → bulk (passes (map l.place ys) to) ≤ 5 * length ys
passes-few l [] to = omega arith
passes-few l (y ∷ ys) to =
    let sum = bulk-append (pass (l.place y) to) (passes (map l.place ys) (suc to)) in
    let one = pass-few (l.place y) to in
    let rest = passes-few l ys (suc to) in
    omega (arith, sum, one, rest)

takes-few : (l : Layout) (xs : List ℕ) (from : ℕ) → bulk (takes (map l.place xs) from) ≤ 5 * length xs
takes-few l [] from = omega arith
takes-few l (x ∷ xs) from =
    let sum = bulk-append (put (l.place x) from) (takes (map l.place xs) (suc from)) in
    let one = put-few (l.place x) from in
    let rest = takes-few l xs (suc from) in
    omega (arith, sum, one, rest)

-- ---- statements

abbrev Small : Layout → Stmt → Type 0
Small l s = bulk (spilled l s) ≤ 24 * added own_units s

abbrev Known : Layout → Type 0
Known l = (s : Stmt) × Small l s

abbrev stmts : (l : Layout) → List (Known l) → List Stmt
stmts l xs = map (λ e. e.0) xs

abbrev units_of : List Stmt → ℕ
units_of xs = sum (map (added own_units) xs)

more : (w a b u v z : ℕ) → w ≡ a + b → a ≤ 24 * u → b ≤ 24 * v → z ≡ u + v → w ≤ 24 * z
more w a b u v z sum one two is = omega (arith, sum, one, two, is)

small-all : (l : Layout) (xs : List (Known l))
    → bulk (joined (map (spilled l) (stmts l xs))) ≤ 24 * units_of (stmts l xs)
small-all l [] = omega arith
small-all l (x ∷ xs) =
    let sum = bulk-append (spilled l x.0) (joined (map (spilled l) (stmts l xs))) in
    let one = x.1 in
    let rest = small-all l xs in
    more (bulk (spilled l x.0 ++ joined (map (spilled l) (stmts l xs)))) (bulk (spilled l x.0))
    (bulk (joined (map (spilled l) (stmts l xs)))) (added own_units x.0) (units_of (stmts l xs))
    (units_of (stmts l (x ∷ xs))) sum one rest (sum_cons (added own_units x.0) (map (added own_units) (stmts l xs)))

abbrev LayerSmall : Layout → Stmt-F Stmt → Type 0
LayerSmall l y = bulk (spilled_step l (map-Stmt Stmt (List Stmt) (spilled l) y))
    ≤ 24 * unit_step (map-Stmt Stmt ℕ (added own_units) y)

-- a piece, one statement, and a piece
around : (xs : List Stmt) (y : Stmt-F Stmt) (zs : List Stmt) (a b w : ℕ) → bulk xs ≤ a
    → own_step (map-Stmt Stmt ℕ statement_bulk y) ≡ w → bulk zs ≤ b → bulk (xs ++ roll-Stmt y ∷ zs) ≤ a + w + b
around xs y zs a b w one is two =
    let sum = bulk-append xs (roll-Stmt y ∷ zs) in
    let front = bulk-first y zs in
    omega (arith, sum, front, one, is, two)

-- two pieces in front
around-two : (xs ys : List Stmt) (y : Stmt-F Stmt) (zs : List Stmt) (a b c w : ℕ)
    → bulk xs ≤ a → bulk ys ≤ b → own_step (map-Stmt Stmt ℕ statement_bulk y) ≡ w → bulk zs ≤ c
    → bulk (xs ++ (ys ++ roll-Stmt y ∷ zs)) ≤ a + b + w + c
around-two xs ys y zs a b c w one two is three =
    let sum = bulk-append xs (ys ++ roll-Stmt y ∷ zs) in
    let rest = around ys y zs b c w two is three in
    omega (arith, sum, rest, one)

le-then : (a b c : ℕ) → a ≤ b → b ≤ c → a ≤ c
le-then a b c h k = omega (arith, h, k)

layer : (l : Layout) (y : Stmt-F (Known l)) → LayerSmall l (map-Stmt (Known l) Stmt (λ e. e.0) y)
layer l (Stmt-F.Lit x n) =
    let is = bulk-first (Stmt-F.Lit (at (l.place x) 4) n) (keep (l.place x)) in
    let two = keep-few (l.place x) in
    omega (arith, is, two)
layer l (Stmt-F.Copy x y) = let is = copy-few (l.place x) (l.place y) in omega (arith, is)
layer l (Stmt-F.Op x o y z) =
    let last : Stmt-F Stmt = Stmt-F.Op (at (l.place x) 4) o (at (l.place y) 4) (operand_at l z) in
    let is = around-two (bring (l.place y) 4) (bring_operand l z) last (keep (l.place x)) 5 5 5 2
    (bring-few (l.place y) 4) (operand-few l z) refl (keep-few (l.place x)) in
    omega (arith, is)
layer l (Stmt-F.Load x size y offset) =
    let last : Stmt-F Stmt = Stmt-F.Load (at (l.place x) 4) size (at (l.place y) 4) offset in
    let is = around (bring (l.place y) 4) last (keep (l.place x)) 5 5 1 (bring-few (l.place y) 4) refl
    (keep-few (l.place x)) in
    omega (arith, is)
layer l (Stmt-F.Store size y z offset) =
    let last : Stmt-F Stmt = Stmt-F.Store size (at (l.place y) 4) (at (l.place z) 5) offset in
    let is = around-two (bring (l.place y) 4) (bring (l.place z) 5) last [] 5 5 0 1 (bring-few (l.place y) 4)
    (bring-few (l.place z) 5) refl (omega arith) in
    omega (arith, is)
layer l (Stmt-F.Table x size bytes y) =
    let last : Stmt-F Stmt = Stmt-F.Table (at (l.place x) 4) size bytes (at (l.place y) 4) in
    let is = around (bring (l.place y) 4) last (keep (l.place x)) 5 5 (4 + words_for (length bytes) + 0)
    (bring-few (l.place y) 4) refl (keep-few (l.place x)) in
    table (bulk (bring (l.place y) 4 ++ roll-Stmt last ∷ keep (l.place x))) (words_for (length bytes)) is
  where
    table : (a w : ℕ) → a ≤ 5 + (4 + w + 0) + 5 → a ≤ 24 * (1 + w + 0)
    table a w h = omega (arith, h)
layer l (Stmt-F.Stackalloc x n body) =
    let flat = joined (map (spilled l) (stmts l body)) in
    let is = bulk-first (Stmt-F.Stackalloc (at (l.place x) 4) n (keep (l.place x) ++ flat)) [] in
    let sum = bulk-append (keep (l.place x)) flat in
    let two = keep-few (l.place x) in
    let rest = small-all l body in
    buffer (bulk (roll-Stmt (Stmt-F.Stackalloc (at (l.place x) 4) n (keep (l.place x) ++ flat)) ∷ [])) (bulk
    (keep (l.place x) ++ flat)) (bulk (keep (l.place x))) (bulk flat) (units_of (stmts l body)) is sum two rest
  where
    buffer : (w a b c u : ℕ) → w ≡ 3 + (0 + a) + 0 → a ≡ b + c → b ≤ 5 → c ≤ 24 * u → w ≤ 24 * (1 + (0 + u))
    buffer w a b c u is sum two rest = omega (arith, is, sum, two, rest)
layer l (Stmt-F.If test first second) =
    let one = joined (map (spilled l) (stmts l first)) in
    let two = joined (map (spilled l) (stmts l second)) in
    let last : Stmt-F Stmt = Stmt-F.If (test_at l test) one two in
    let is = around (bring_test l test) last [] 10 0 (5 + (0 + bulk one + bulk two)) (test-few l test) refl
    (omega arith) in
    both (bulk (bring_test l test ++ roll-Stmt last ∷ [])) (bulk one) (bulk two) (units_of (stmts l first))
    (units_of (stmts l second)) is (small-all l first) (small-all l second)
  where
    both : (w a b u v : ℕ) → w ≤ 10 + (5 + (0 + a + b)) + 0 → a ≤ 24 * u → b ≤ 24 * v → w ≤ 24 * (1 + (0 + u + v))
    both w a b u v is one two = omega (arith, is, one, two)
layer l (Stmt-F.Loop first test last) =
    let one = joined (map (spilled l) (stmts l first)) in
    let two = joined (map (spilled l) (stmts l last)) in
    let y : Stmt-F Stmt = Stmt-F.Loop (one ++ bring_test l test) (test_at l test) two in
    let is = bulk-first y [] in
    both (bulk (roll-Stmt y ∷ [])) (bulk (one ++ bring_test l test)) (bulk one) (bulk (bring_test l test)) (bulk two)
    (units_of (stmts l first)) (units_of (stmts l last)) is (bulk-append one (bring_test l test)) (test-few l test)
    (small-all l first) (small-all l last)
  where
    both : (w c a t b u v : ℕ) → w ≡ 5 + (0 + c + b) + 0 → c ≡ a + t → t ≤ 10 → a ≤ 24 * u → b ≤ 24 * v
        → w ≤ 24 * (1 + (0 + u + v))
    both w c a t b u v is sum ten one two = omega (arith, is, sum, ten, one, two)
layer l (Stmt-F.Call xs g ys) =
    let y : Stmt-F Stmt = Stmt-F.Call (in_order 10 (length xs)) g (in_order 10 (length ys)) in
    let is = around (passes (map l.place ys) 10) y (takes (map l.place xs) 10) (5 * length ys) (5 * length xs) 2
    (passes-few l ys 10) refl (takes-few l xs 10) in
    passed (bulk (passes (map l.place ys) 10 ++ roll-Stmt y ∷ takes (map l.place xs) 10)) (length xs) (length ys) is
  where
    passed : (w a b : ℕ) → w ≤ 5 * b + 2 + 5 * a → w ≤ 24 * (1 + a + b + 0)
    passed w a b is = omega (arith, is)
layer l (Stmt-F.Read x y) =
    let last : Stmt-F Stmt = Stmt-F.Read (at (l.place x) 4) (at (l.place y) 4) in
    let is = around (bring (l.place y) 4) last (keep (l.place x)) 5 5 1 (bring-few (l.place y) 4) refl
    (keep-few (l.place x)) in
    omega (arith, is)
layer l (Stmt-F.Write y z) =
    let last : Stmt-F Stmt = Stmt-F.Write (at (l.place y) 4) (at (l.place z) 5) in
    let is = around-two (bring (l.place y) 4) (bring (l.place z) 5) last [] 5 5 0 1 (bring-few (l.place y) 4)
    (bring-few (l.place z) 5) refl (omega arith) in
    omega (arith, is)

small-statement : (l : Layout) (s : Stmt) → Small l s
small-statement l = ind-Stmt (Small l) (λ x y is.
    let step = subst (LayerSmall l) is (layer l y) in
    let one = subst (λ b. bulk b ≤ 24 * unit_step (map-Stmt Stmt ℕ (added own_units) x))
    (sym (fold-roll-Stmt (List Stmt) (spilled_step l) x)) step in
    subst (λ n. bulk (spilled l (roll-Stmt x)) ≤ 24 * n) (sym (fold-roll-Stmt ℕ unit_step x)) one)

small-statements : (l : Layout) (xs : List Stmt) → bulk (joined (map (spilled l) xs)) ≤ 24 * units_of xs
small-statements l [] = omega arith
small-statements l (x ∷ xs) =
    more (bulk (spilled l x ++ joined (map (spilled l) xs))) (bulk (spilled l x)) (bulk (joined (map (spilled l) xs)))
    (added own_units x) (units_of xs) (units_of (x ∷ xs))
    (bulk-append (spilled l x) (joined (map (spilled l) xs))) (small-statement l x) (small-statements l xs)
    (sum_cons (added own_units x) (map (added own_units) xs))

pub function-small : (l : Layout) (f : FlatFunc) → function_bulk (spilled_function l f) ≤ 24 * units f
function-small l f = by l.slots
  where
    body : List Stmt
    body = takes (map l.place f.args) 10 ++ (joined (map (spilled l) f.body) ++ passes (map l.place f.results) 10)

    within : bulk body ≤ 5 * length f.args + 24 * units_of f.body + 5 * length f.results
    within =
        let one = bulk-append (takes (map l.place f.args) 10)
        (joined (map (spilled l) f.body) ++ passes (map l.place f.results) 10) in
        let two = bulk-append (joined (map (spilled l) f.body)) (passes (map l.place f.results) 10) in
        let a = takes-few l f.args 10 in
        let b = small-statements l f.body in
        let c = passes-few l f.results 10 in
        omega (arith, one, two, a, b, c)

    room : (w a u r : ℕ) → w ≤ 5 * a + 24 * u + 5 * r → 96 + (3 + w) ≤ 24 * (8 + a + r + u)
    room w a u r h = omega (arith, h)

    by : (n : ℕ) → 96 + bulk (in_buffer n body) ≤ 24 * units f
    by zero = le-then (96 + bulk body) (96 + (3 + bulk body)) (24 * units f) (omega arith)
        (room (bulk body) (length f.args) (units_of f.body) (length f.results) within)
    by (suc n) =
        let is = bulk-first (Stmt-F.Stackalloc 3 (4 * suc n) body) [] in
        le-then (96 + bulk (roll-Stmt (Stmt-F.Stackalloc 3 (4 * suc n) body) ∷ []))
        (96 + (3 + bulk body)) (24 * units f) (omega (arith, is))
        (room (bulk body) (length f.args) (units_of f.body) (length f.results) within)

-- the flat bulk of a program
pub program-small : (qs ps : List FlatFunc) → SpilledFunctions qs ps → flat_bulk qs ≤ 24 * sum (map units ps)
program-small [] [] h = omega arith
program-small [] (p ∷ ps) h = absurd h
program-small (q ∷ qs) [] h = absurd h
program-small (q ∷ qs) (p ∷ ps) h =
    let one = subst (λ f. function_bulk f ≤ 24 * units p) (sym h.0.2) (function-small h.0.0 p) in
    let rest = program-small qs ps h.1 in
    let whole = sum_cons (function_bulk q) (map function_bulk qs) in
    let others = sum_cons (units p) (map units ps) in
    together (flat_bulk (q ∷ qs)) (function_bulk q) (flat_bulk qs) (sum (map units (p ∷ ps))) (units p)
    (sum (map units ps)) whole others one rest
  where
    together : (w a b z u v : ℕ) → w ≡ a + b → z ≡ u + v → a ≤ 24 * u → b ≤ 24 * v → w ≤ 24 * z
    together w a b z u v e f one two = omega (arith, e, f, one, two)
