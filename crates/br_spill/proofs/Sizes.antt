-- Buffers, callees and buffers nested in one another, of functions in register form.
use Rattle.std.proofs.Common.{◌≡◌, ℕ, zero, suc, ◌+◌, ◌*◌, ◌≤◌, max, List, [], ◌∷◌, ◌++◌}
use Rattle.std.proofs.Common.{map, refl, sym, ap, ◌∙◌, arith, append-nil, append_assoc}
use Rattle.std.specs.Prelude.{sum}
use Rattle.std.specs.List.{flat_map, fold}
use Rattle.br_flatimp.specs.declared.program.Stmt.{Stmt}
use Rattle.br_flatimp.specs.declared.program.Stmt.TheOpen.{Stmt-F}
use Rattle.br_flatimp.specs.declared.program.Stmt.TheViews.{roll-Stmt}
use Rattle.br_flatimp.specs.declared.program.FlatFunc.{FlatFunc}
use Rattle.br_flatimp.specs.Parts.{parts, gathered, own_callees, callees}
use Rattle.br_flatimp.specs.Sizes.{largest, own_bytes, nest}
use Rattle.br_spill.specs.Spill.{Layout, Fits, passes, takes, joined, spilled}
use Rattle.br_spill.specs.Spill.{in_buffer, spilled_function, own_buffers, buffers}
use Rattle.br_spill.proofs.Neutral.{Counted, total, alone, same-body}

-- ---- sums

fold_from : (a : ℕ) (xs : List ℕ) → fold (λ x y. x + y) a xs ≡ a + sum xs
fold_from a [] = zero-after a
  where
    zero-after : (a : ℕ) → a ≡ a + 0
    zero-after a = omega arith
fold_from a (x ∷ xs) = fold_from (a + x) xs ∙ (let is = fold_from (0 + x) xs in omega (arith, is))

pub sum_cons : (x : ℕ) (xs : List ℕ) → sum (x ∷ xs) ≡ x + sum xs
sum_cons x xs = fold_from (0 + x) xs ∙ omega arith

-- ---- buffers nested in one another

max-left : (x : ℕ) → max 0 x ≡ x
max-left x = omega arith

max-right : (x : ℕ) → max x 0 ≡ x
max-right x = omega arith

max-assoc : (x y z : ℕ) → max (max x y) z ≡ max x (max y z)
max-assoc x y z = omega arith

max-two : (a b : ℕ) → 0 + max a (max b 0) ≡ max a b
max-two a b = omega arith

zero-plus : (x : ℕ) → 0 + x ≡ x
zero-plus x = omega arith

abbrev nested : Counted ℕ
nested = record {
  step = λ y. own_bytes y + largest (map largest (parts y));
  none = 0;
  plus = max;
  all = largest;
  empty = refl;
  cons = λ x xs. refl;
  left = max-left;
  right = max-right;
  assoc = max-assoc;
  buffer = λ n x. n + max x 0;
  called = λ g. 0;
  lit = λ x n. refl;
  copies = λ x y. refl;
  op = λ x o y z. refl;
  load = λ x size y offset. refl;
  store = λ size y z offset. refl;
  table = λ x size bytes y. refl;
  reads = λ x y. refl;
  writes = λ y z. refl;
  stackalloc = λ x n body. refl;
  if_else = λ test first second. max-two (largest first) (largest second);
  loops = λ first test last. max-two (largest first) (largest last);
  calls = λ xs g ys. refl;
}

abbrev body_of : Layout → FlatFunc → List Stmt
body_of l f = takes (map l.place f.args) 10 ++ (joined (map (spilled l) f.body) ++ passes (map l.place f.results) 10)

pub nest-grows : (l : Layout) (f : FlatFunc) → Fits f.names l → nest (spilled_function l f) ≤ nest f + 4 * f.names
nest-grows l f fits = by l.slots fits.few
  where
    same : total nested (body_of l f) ≡ nest f
    same = same-body nested l f.args f.results f.body

    by : (n : ℕ) → n ≤ f.names → total nested (in_buffer n (body_of l f)) ≤ nest f + 4 * f.names
    by zero few = omega (arith, same)
    by (suc n) few =
        let is : total nested (roll-Stmt (Stmt-F.Stackalloc 3 (4 * suc n) (body_of l f)) ∷ []) ≡ 4 * suc n
        + max (total nested (body_of l f)) 0 = alone nested (Stmt-F.Stackalloc 3 (4 * suc n) (body_of l f)) in
        omega (arith, is, same, few)

-- ---- callees

abbrev called_in : Counted (List ℕ)
called_in = record {
  step = λ y. own_callees y ++ flat_map (flat_map (λ xs. xs)) (parts y);
  none = [];
  plus = λ xs ys. xs ++ ys;
  all = flat_map (λ xs. xs);
  empty = refl;
  cons = λ x xs. refl;
  left = λ x. refl;
  right = λ x. append-nil x;
  assoc = λ x y z. append_assoc x y z;
  buffer = λ n x. x ++ [];
  called = λ g. g ∷ [];
  lit = λ x n. refl;
  copies = λ x y. refl;
  op = λ x o y z. refl;
  load = λ x size y offset. refl;
  store = λ size y z offset. refl;
  table = λ x size bytes y. refl;
  reads = λ x y. refl;
  writes = λ y z. refl;
  stackalloc = λ x n body. refl;
  if_else = λ test first second. ap (λ xs. flat_map (λ xs. xs) first ++ xs) (append-nil (flat_map (λ xs. xs) second));
  loops = λ first test last. ap (λ xs. flat_map (λ xs. xs) first ++ xs) (append-nil (flat_map (λ xs. xs) last));
  calls = λ xs g ys. refl;
}

callees-all : (xs : List Stmt) → flat_map (gathered own_callees) xs ≡ total called_in xs
callees-all [] = refl
callees-all (x ∷ xs) = ap (λ ys. gathered own_callees x ++ ys) (callees-all xs)

pub callees-stay : (l : Layout) (f : FlatFunc) → callees (spilled_function l f) ≡ callees f
callees-stay l f = callees-all (in_buffer l.slots (body_of l f)) ∙ by l.slots ∙ sym (callees-all f.body)
  where
    same : total called_in (body_of l f) ≡ total called_in f.body
    same = same-body called_in l f.args f.results f.body

    by : (n : ℕ) → total called_in (in_buffer n (body_of l f)) ≡ total called_in f.body
    by zero = same
    by (suc n) = alone called_in (Stmt-F.Stackalloc 3 (4 * suc n) (body_of l f))
        ∙ append-nil (total called_in (body_of l f)) ∙ same

-- ---- how many buffers

-- the sum of two sums, as it computes
two-parts : (a b : ℕ) → 0 + sum (a ∷ b ∷ []) ≡ a + b
two-parts a b = let is = two_added a b in omega (arith, is)
  where
    two_added : (a b : ℕ) → 0 + (0 + a + b) ≡ a + b
    two_added a b = omega arith

abbrev counted : Counted ℕ
counted = record {
  step = λ y. own_buffers y + sum (map sum (parts y));
  none = 0;
  plus = λ x y. x + y;
  all = sum;
  empty = refl;
  cons = sum_cons;
  left = λ x. omega arith;
  right = λ x. omega arith;
  assoc = λ x y z. omega arith;
  buffer = λ n x. 1 + (0 + x);
  called = λ g. 0;
  lit = λ x n. refl;
  copies = λ x y. refl;
  op = λ x o y z. refl;
  load = λ x size y offset. refl;
  store = λ size y z offset. refl;
  table = λ x size bytes y. refl;
  reads = λ x y. refl;
  writes = λ y z. refl;
  stackalloc = λ x n body. refl;
  if_else = λ test first second. two-parts (sum first) (sum second);
  loops = λ first test last. two-parts (sum first) (sum last);
  calls = λ xs g ys. refl;
}

pub buffers-stay : (l : Layout) (f : FlatFunc) → l.slots ≡ 0 → buffers (spilled_function l f) ≡ buffers f
buffers-stay l f none =
    ap (λ n. total counted (in_buffer n (body_of l f))) none ∙ same-body counted l f.args f.results f.body

-- with no more buffers than before there are no words of one
pub no-slots : (l : Layout) (f : FlatFunc) → buffers (spilled_function l f) ≤ buffers f → l.slots ≡ 0
no-slots l f few = by l.slots few
  where
    by : (n : ℕ) → total counted (in_buffer n (body_of l f)) ≤ buffers f → n ≡ 0
    by zero e = refl
    by (suc n) e =
        let is : total counted (roll-Stmt (Stmt-F.Stackalloc 3 (4 * suc n) (body_of l f)) ∷ [])
        ≡ 1 + (0 + total counted (body_of l f)) = alone counted (Stmt-F.Stackalloc 3 (4 * suc n) (body_of l f)) in
        let same : total counted (body_of l f) ≡ buffers f = same-body counted l f.args f.results f.body in
        absurd (omega (arith, is, same, e))
