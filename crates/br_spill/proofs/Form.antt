-- Statements of a layout fit so many registers, and with at most 32 they are in register form.
use Rattle.std.proofs.Common.{◌≡◌, ℕ, ℤ, zero, suc, ◌+◌, ◌*◌, ◌%◌, ◌<◌, ◌≤◌, ◌==◌, ◌&&◌, ◌||◌, not}
use Rattle.std.proofs.Common.{nat_le, nat_lt, Bool, true, false, if◌then◌else◌, List, [], ◌∷◌}
use Rattle.std.proofs.Common.{◌++◌, map, length, refl, sym, ap, subst, ◌∙◌, arith, pos, slice_get}
use Rattle.std.specs.List.{list_all, list_any}
use Rattle.std.proofs.lemmas.Bool.Decides.{nat_tests}
use Rattle.br_words.specs.declared.operation.BinOp.{BinOp}
use Rattle.br_words.specs.declared.operation.BinOp.TheVariants.{Add}
use Rattle.br_words.specs.declared.size.Size.{Size}
use Rattle.br_words.specs.declared.size.Size.TheVariants.{Four}
use Rattle.br_flatimp.specs.declared.program.Operand.{Operand}
use Rattle.br_flatimp.specs.declared.program.Operand.TheVariants as operand
use Rattle.br_flatimp.specs.declared.program.Cond.{Cond}
use Rattle.br_flatimp.specs.declared.program.Cond.TheVariants.{NonZero, Compare}
use Rattle.br_flatimp.specs.declared.program.Stmt.{Stmt, map-Stmt}
use Rattle.br_flatimp.specs.declared.program.Stmt.TheOpen.{Stmt-F}
use Rattle.br_flatimp.specs.declared.program.Stmt.TheViews.{roll-Stmt}
use Rattle.br_flatimp.specs.declared.program.Stmt.TheFolds.{fold-roll-Stmt}
use Rattle.br_flatimp.specs.declared.program.FlatFunc.{FlatFunc}
use Rattle.br_flatimp.specs.Parts.{parts, throughout, operand_names, test_names}
use Rattle.br_flatimp.specs.WellFormed.{is_immediate, operand_fits, all_differ, counts_fit, are_below}
use Rattle.br_flatimp.specs.WellFormed.{fits, is_in_order, is_passing, are_registers, uses_registers}
use Rattle.br_spill.specs.Spill.{Layout, holds_names, is_inside, Fits, fetch, put_away, bring, at, keep, put, pass}
use Rattle.br_spill.specs.Spill.{copy, bring_operand, operand_at, bring_test, test_at, passes, takes, in_order}
use Rattle.br_spill.specs.declared.place.Place.{Place}
use Rattle.br_spill.specs.declared.place.Place.TheVariants.{Register, Slot}

-- ---- registers

-- a register of so many
pub record IsRegister (count x : ℕ) : Type 0 where
  pub low : 3 ≤ x
  pub high : x < count

abbrev pub are_within : ℕ → List ℕ → Bool
are_within count = list_all (λ x. nat_le 3 x && nat_lt x count)

within-more : (count x : ℕ) (xs : List ℕ) → IsRegister count x → are_within count xs ≡ true
    → are_within count (x ∷ xs) ≡ true
within-more count x xs r rest = by (nat_le 3 x) (nat_lt x count) (at-most 3 x r.low) (less x count r.high)
  where
    at-most : (a b : ℕ) → a ≤ b → nat_le a b ≡ true
    at-most a b l = grind (arith, nat_tests)

    less : (a b : ℕ) → a < b → nat_lt a b ≡ true
    less a b l = grind (arith, nat_tests)

    by : (a b : Bool) → a ≡ true → b ≡ true → ((a && b) && are_within count xs) ≡ true
    by a b e f = rw (e, f, rest) refl

one-within : (count x : ℕ) → IsRegister count x → are_within count (x ∷ []) ≡ true
one-within count x r = within-more count x [] r refl

two-within : (count x y : ℕ) → IsRegister count x → IsRegister count y → are_within count (x ∷ y ∷ []) ≡ true
two-within count x y r q = within-more count x (y ∷ []) r (one-within count y q)

pub and-first : (a b : Bool) → (a && b) ≡ true → a ≡ true
and-first true b e = refl
and-first false b e = absurd (cc e)

pub and-second : (a b : Bool) → (a && b) ≡ true → b ≡ true
and-second true b e = e
and-second false b e = absurd (cc e)

pub both : (a b : Bool) → a ≡ true → b ≡ true → (a && b) ≡ true
both a b e f = rw (e, f) refl

pub within-below : (count : ℕ) (xs : List ℕ) → are_within count xs ≡ true → are_below count xs ≡ true
within-below count [] h = refl
within-below count (x ∷ xs) h =
    both (nat_lt x count) (are_below count xs)
    (and-second (nat_le 3 x) (nat_lt x count) (and-first (nat_le 3 x && nat_lt x count) (are_within count xs) h))
    (within-below count xs (and-second (nat_le 3 x && nat_lt x count) (are_within count xs) h))

-- of at most 32, each is a register of register form
within-registers : (count : ℕ) → count ≤ 32 → (xs : List ℕ) → are_within count xs ≡ true → are_registers xs ≡ true
within-registers count narrow [] h = refl
within-registers count narrow (x ∷ xs) h =
    let here = and-first (nat_le 3 x && nat_lt x count) (are_within count xs) h in
    both (nat_le 3 x && nat_le x 31) (are_registers xs)
    (both (nat_le 3 x) (nat_le x 31) (and-first (nat_le 3 x) (nat_lt x count) here)
    (last x (and-second (nat_le 3 x) (nat_lt x count) here)))
    (within-registers count narrow xs (and-second (nat_le 3 x && nat_lt x count) (are_within count xs) h))
  where
    last : (x : ℕ) → nat_lt x count ≡ true → nat_le x 31 ≡ true
    last x e = grind (arith, nat_tests)

-- ---- names in order

pub in_order-within : (count n a : ℕ) → 3 ≤ a → a + n ≤ count → are_within count (in_order a n) ≡ true
in_order-within count zero a low high = refl
in_order-within count (suc n) a low high =
    within-more count a (in_order (suc a) n) (record { low = low; high = omega (arith, high) })
    (in_order-within count n (suc a) (omega (arith, low)) (omega (arith, high)))

pub in_order-passing : (n a : ℕ) → is_in_order a (in_order a n) ≡ true
in_order-passing zero a = refl
in_order-passing (suc n) a =
    both (a == a) (is_in_order (suc a) (in_order (suc a) n)) (same a) (in_order-passing n (suc a))
  where
    same : (a : ℕ) → (a == a) ≡ true
    same a = grind (arith, nat_tests)

in_order-apart : (n a b : ℕ) → a < b → list_any (λ y. y == a) (in_order b n) ≡ false
in_order-apart zero a b less = refl
in_order-apart (suc n) a b less = by (b == a) (list_any (λ y. y == a) (in_order (suc b) n)) (differ b a less)
    (in_order-apart n a (suc b) (omega (arith, less)))
  where
    differ : (b a : ℕ) → a < b → (b == a) ≡ false
    differ b a less = grind (arith, nat_tests)

    by : (p q : Bool) → p ≡ false → q ≡ false → (p || q) ≡ false
    by p q e f = rw (e, f) refl

pub in_order-differ : (n a : ℕ) → all_differ (in_order a n) ≡ true
in_order-differ zero a = refl
in_order-differ (suc n) a = both (not (list_any (λ y. y == a) (in_order (suc a) n))) (all_differ (in_order (suc a) n))
    (ap not (in_order-apart n a (suc a) (omega arith))) (in_order-differ n (suc a))

pub in_order-length : (n a : ℕ) → length (in_order a n) ≡ n
in_order-length zero a = refl
in_order-length (suc n) a = ap suc (in_order-length n (suc a))

-- ---- a test of statements that holds of statements with so many registers

pub record Fine (count : ℕ) (qs : List FlatFunc) (t : Stmt-F Bool → Bool) : Type 0 where
  pub enough : 18 ≤ count
  pub lit : (x n : ℕ) → IsRegister count x → t (Stmt-F.Lit x n) ≡ true
  pub copies : (x y : ℕ) → IsRegister count x → IsRegister count y → t (Stmt-F.Copy x y) ≡ true
  pub op : (x : ℕ) (o : BinOp) (y : ℕ) (z : Operand) → IsRegister count x → IsRegister count y
      → are_within count (operand_names z) ≡ true → operand_fits o z ≡ true → t (Stmt-F.Op x o y z) ≡ true
  pub load : (x : ℕ) (size : Size) (y : ℕ) (offset : ℤ) → IsRegister count x → IsRegister count y
      → is_immediate offset ≡ true → t (Stmt-F.Load x size y offset) ≡ true
  pub store : (size : Size) (y z : ℕ) (offset : ℤ) → IsRegister count y → IsRegister count z
      → is_immediate offset ≡ true → t (Stmt-F.Store size y z offset) ≡ true
  pub table : (x : ℕ) (size : Size) (bytes : List ℕ) (y : ℕ) → IsRegister count x → IsRegister count y
      → t (Stmt-F.Table x size bytes y) ≡ true
  pub stackalloc : (x n : ℕ) (body : List Bool) → IsRegister count x → (n % 4 == 0) ≡ true
      → t (Stmt-F.Stackalloc x n body) ≡ true
  pub if_else : (test : Cond) (first second : List Bool) → are_within count (test_names test) ≡ true
      → t (Stmt-F.If test first second) ≡ true
  pub loops : (first : List Bool) (test : Cond) (last : List Bool) → are_within count (test_names test) ≡ true
      → t (Stmt-F.Loop first test last) ≡ true
  pub calls : (n g m : ℕ) → n ≤ 8 → m ≤ 8 → counts_fit (slice_get qs g) n m ≡ true
      → t (Stmt-F.Call (in_order 10 n) g (in_order 10 m)) ≡ true
  pub reads : (x y : ℕ) → IsRegister count x → IsRegister count y → t (Stmt-F.Read x y) ≡ true
  pub writes : (y z : ℕ) → IsRegister count y → IsRegister count z → t (Stmt-F.Write y z) ≡ true

three : (a b c : Bool) → a ≡ true → b ≡ true → c ≡ true → (a && b && c) ≡ true
three a b c e f g = rw (e, f, g) refl

pub registers-fine : (count : ℕ) → 18 ≤ count → count ≤ 32 → (qs : List FlatFunc) → Fine count qs uses_registers
registers-fine count enough narrow qs = record {
  enough = enough;
  lit = λ x n a. three (are_registers (x ∷ [])) true true (one x a) refl refl;
  copies = λ x y a b. three (are_registers (x ∷ [])) (are_registers (y ∷ [])) true (one x a) (one y b) refl;
  op = λ x o y z a b c d. three (are_registers (x ∷ [])) (are_registers (y ∷ operand_names z)) true (one x a)
      (some (y ∷ operand_names z) (within-more count y (operand_names z) b c)) refl;
  load = λ x size y offset a b c. three (are_registers (x ∷ [])) (are_registers (y ∷ [])) true (one x a) (one y b) refl;
  store = λ size y z offset a b c. three true (are_registers (y ∷ z ∷ [])) true refl (two y z a b) refl;
  table = λ x size bytes y a b. three (are_registers (x ∷ [])) (are_registers (y ∷ [])) true (one x a) (one y b) refl;
  stackalloc = λ x n body a b. three (are_registers (x ∷ [])) true true (one x a) refl refl;
  if_else =
      λ test first second a. three true (are_registers (test_names test)) true refl (some (test_names test) a) refl;
  loops = λ first test last a. three true (are_registers (test_names test)) true refl (some (test_names test) a) refl;
  calls = λ n g m a b c. three (are_registers (in_order 10 n)) (are_registers (in_order 10 m))
      (is_passing (in_order 10 n) && is_passing (in_order 10 m))
      (some (in_order 10 n) (in_order-within count n 10 (omega arith) (omega (arith, a, enough))))
      (some (in_order 10 m) (in_order-within count m 10 (omega arith) (omega (arith, b, enough))))
      (both (is_passing (in_order 10 n)) (is_passing (in_order 10 m)) (in_order-passing n 10) (in_order-passing m 10));
  reads = λ x y a b. three (are_registers (x ∷ [])) (are_registers (y ∷ [])) true (one x a) (one y b) refl;
  writes = λ y z a b. three true (are_registers (y ∷ z ∷ [])) true refl (two y z a b) refl;
}
  where
    some : (xs : List ℕ) → are_within count xs ≡ true → are_registers xs ≡ true
    some = within-registers count narrow

    one : (x : ℕ) → IsRegister count x → are_registers (x ∷ []) ≡ true
    one x a = some (x ∷ []) (one-within count x a)

    two : (x y : ℕ) → IsRegister count x → IsRegister count y → are_registers (x ∷ y ∷ []) ≡ true
    two x y a b = some (x ∷ y ∷ []) (two-within count x y a b)

counts-same : (qs : List FlatFunc) (n g m : ℕ) → counts_fit (slice_get qs g) n m ≡ true
    → counts_fit (slice_get qs g) (length (in_order 10 n)) (length (in_order 10 m)) ≡ true
counts-same qs n g m h =
    subst (λ a. counts_fit (slice_get qs g) a (length (in_order 10 m)) ≡ true) (sym (in_order-length n 10))
    (subst (λ b. counts_fit (slice_get qs g) n b ≡ true) (sym (in_order-length m 10)) h)

pub fits-fine : (count : ℕ) → 18 ≤ count → (qs : List FlatFunc) → Fine count qs (fits qs count)
fits-fine count enough qs = record {
  enough = enough;
  lit = λ x n a. three (are_below count (x ∷ [])) true true (one x a) refl refl;
  copies = λ x y a b. three (are_below count (x ∷ [])) (are_below count (y ∷ [])) true (one x a) (one y b) refl;
  op = λ x o y z a b c d. three (are_below count (x ∷ [])) (are_below count (y ∷ operand_names z)) (operand_fits o z)
      (one x a) (within-below count (y ∷ operand_names z) (within-more count y (operand_names z) b c)) d;
  load = λ x size y offset a b c.
      three (are_below count (x ∷ [])) (are_below count (y ∷ [])) (is_immediate offset) (one x a) (one y b) c;
  store = λ size y z offset a b c. three true (are_below count (y ∷ z ∷ [])) (is_immediate offset) refl (two y z a b) c;
  table =
      λ x size bytes y a b. three (are_below count (x ∷ [])) (are_below count (y ∷ [])) true (one x a) (one y b) refl;
  stackalloc = λ x n body a b. three (are_below count (x ∷ [])) true (n % 4 == 0) (one x a) refl b;
  if_else = λ test first second a.
      three true (are_below count (test_names test)) true refl (within-below count (test_names test) a) refl;
  loops = λ first test last a.
      three true (are_below count (test_names test)) true refl (within-below count (test_names test) a) refl;
  calls = λ n g m a b c. three (are_below count (in_order 10 n)) (are_below count (in_order 10 m))
      (counts_fit (slice_get qs g) (length (in_order 10 n)) (length (in_order 10 m)) && all_differ (in_order 10 n))
      (within-below count (in_order 10 n) (in_order-within count n 10 (omega arith) (omega (arith, a, enough))))
      (within-below count (in_order 10 m) (in_order-within count m 10 (omega arith) (omega (arith, b, enough))))
      (both (counts_fit (slice_get qs g) (length (in_order 10 n)) (length (in_order 10 m))) (all_differ (in_order 10 n))
      (counts-same qs n g m c) (in_order-differ n 10));
  reads = λ x y a b. three (are_below count (x ∷ [])) (are_below count (y ∷ [])) true (one x a) (one y b) refl;
  writes = λ y z a b. three true (are_below count (y ∷ z ∷ [])) true refl (two y z a b) refl;
}
  where
    one : (x : ℕ) → IsRegister count x → are_below count (x ∷ []) ≡ true
    one x a = within-below count (x ∷ []) (one-within count x a)

    two : (x y : ℕ) → IsRegister count x → IsRegister count y → are_below count (x ∷ y ∷ []) ≡ true
    two x y a b = within-below count (x ∷ y ∷ []) (two-within count x y a b)

-- ---- lists of statements

abbrev pub all : (Stmt-F Bool → Bool) → List Stmt → Bool
all t = list_all (throughout t)

pub all-append : (t : Stmt-F Bool → Bool) (xs ys : List Stmt) → all t xs ≡ true → all t ys ≡ true
    → all t (xs ++ ys) ≡ true
all-append t [] ys h k = k
all-append t (x ∷ xs) ys h k =
    both (throughout t x) (all t (xs ++ ys)) (and-first (throughout t x) (all t xs) h)
    (all-append t xs ys (and-second (throughout t x) (all t xs) h) k)

abbrev pub step : (Stmt-F Bool → Bool) → Stmt-F Bool → Bool
step t y = t y && list_all (list_all (λ ok. ok)) (parts y)

pub all-first : (t : Stmt-F Bool → Bool) (y : Stmt-F Stmt) (xs : List Stmt)
    → step t (map-Stmt Stmt Bool (throughout t) y) ≡ true → all t xs ≡ true → all t (roll-Stmt y ∷ xs) ≡ true
all-first t y xs h k = both (throughout t (roll-Stmt y)) (all t xs) (fold-roll-Stmt Bool (step t) y ∙ h) k

-- a statement with no parts
pub leaf : (b : Bool) → b ≡ true → (b && true) ≡ true
leaf b e = rw e refl

-- ---- pieces

pub three-register : (count : ℕ) → 18 ≤ count → IsRegister count 3
three-register count enough = record { low = omega arith; high = omega (arith, enough) }

pub four-register : (count : ℕ) → 18 ≤ count → IsRegister count 4
four-register count enough = record { low = omega arith; high = omega (arith, enough) }

pub five-register : (count : ℕ) → 18 ≤ count → IsRegister count 5
five-register count enough = record { low = omega arith; high = omega (arith, enough) }

near-offset : (k : ℕ) → nat_lt k 512 ≡ true → is_immediate (pos (4 * k)) ≡ true
near-offset k e = grind (arith, nat_tests)

fetch-fine : (count : ℕ) (qs : List FlatFunc) (t : Stmt-F Bool → Bool) → Fine count qs t → (k r : ℕ)
    → IsRegister count r → all t (fetch k r) ≡ true
fetch-fine count qs t f k r a = by (nat_lt k 512) refl
  where
    by : (b : Bool) → nat_lt k 512 ≡ b
        → all t (if b then roll-Stmt (Stmt-F.Load r Four 3 (pos (4 * k))) ∷ [] else roll-Stmt (Stmt-F.Lit r (4 * k))
        ∷ roll-Stmt (Stmt-F.Op r Add r (operand.Name 3)) ∷ roll-Stmt (Stmt-F.Load r Four r (pos 0)) ∷ []) ≡ true
    by true e = all-first t (Stmt-F.Load r Four 3 (pos (4 * k))) [] (leaf (t (Stmt-F.Load r Four 3 (pos (4 * k))))
        (f.load r Four 3 (pos (4 * k)) a (three-register count f.enough) (near-offset k e))) refl
    by false e =
        all-first t (Stmt-F.Lit r (4 * k)) (roll-Stmt (Stmt-F.Op r Add r (operand.Name 3))
        ∷ roll-Stmt (Stmt-F.Load r Four r (pos 0)) ∷ []) (leaf (t (Stmt-F.Lit r (4 * k))) (f.lit r (4 * k) a))
        (all-first t (Stmt-F.Op r Add r (operand.Name 3)) (roll-Stmt (Stmt-F.Load r Four r (pos 0)) ∷ [])
        (leaf (t (Stmt-F.Op r Add r (operand.Name 3)))
        (f.op r Add r (operand.Name 3) a a (one-within count 3 (three-register count f.enough)) refl))
        (all-first t (Stmt-F.Load r Four r (pos 0)) []
        (leaf (t (Stmt-F.Load r Four r (pos 0))) (f.load r Four r (pos 0) a a refl)) refl))

put_away-fine : (count : ℕ) (qs : List FlatFunc) (t : Stmt-F Bool → Bool) → Fine count qs t → (k r : ℕ)
    → IsRegister count r → all t (put_away k r) ≡ true
put_away-fine count qs t f k r a = by (nat_lt k 512) refl
  where
    by : (b : Bool) → nat_lt k 512 ≡ b
        → all t (if b then roll-Stmt (Stmt-F.Store Four 3 r (pos (4 * k))) ∷ [] else roll-Stmt (Stmt-F.Lit 5 (4 * k))
        ∷ roll-Stmt (Stmt-F.Op 5 Add 5 (operand.Name 3)) ∷ roll-Stmt (Stmt-F.Store Four 5 r (pos 0)) ∷ []) ≡ true
    by true e = all-first t (Stmt-F.Store Four 3 r (pos (4 * k))) [] (leaf (t (Stmt-F.Store Four 3 r (pos (4 * k))))
        (f.store Four 3 r (pos (4 * k)) (three-register count f.enough) a (near-offset k e))) refl
    by false e =
        all-first t (Stmt-F.Lit 5 (4 * k))
        (roll-Stmt (Stmt-F.Op 5 Add 5 (operand.Name 3)) ∷ roll-Stmt (Stmt-F.Store Four 5 r (pos 0)) ∷ [])
        (leaf (t (Stmt-F.Lit 5 (4 * k))) (f.lit 5 (4 * k) (five-register count f.enough)))
        (all-first t (Stmt-F.Op 5 Add 5 (operand.Name 3)) (roll-Stmt (Stmt-F.Store Four 5 r (pos 0)) ∷ [])
        (leaf (t (Stmt-F.Op 5 Add 5 (operand.Name 3))) (f.op 5 Add 5 (operand.Name 3) (five-register count f.enough)
        (five-register count f.enough) (one-within count 3 (three-register count f.enough)) refl))
        (all-first t (Stmt-F.Store Four 5 r (pos 0)) [] (leaf (t (Stmt-F.Store Four 5 r (pos 0)))
        (f.store Four 5 r (pos 0) (five-register count f.enough) a refl)) refl))

-- places of names
pub record IsPlace (count : ℕ) (p : Place) : Type 0 where
  pub register : (r : ℕ) → p ≡ Register r → IsRegister count r

held-register : (registers slots r : ℕ) → 18 ≤ registers → holds_names registers slots r ≡ true → IsRegister registers r
held-register registers slots r enough is =
    by (nat_le 3 r) (nat_le r 9) (nat_le 18 r) (nat_lt r registers) refl refl refl refl
    (and-first ((nat_le 3 r && nat_le r 9) || (nat_le 18 r && nat_lt r registers)) ((slots == 0) || nat_le 6 r) is)
  where
    by : (a b c d : Bool) → nat_le 3 r ≡ a → nat_le r 9 ≡ b → nat_le 18 r ≡ c → nat_lt r registers ≡ d
        → ((a && b) || (c && d)) ≡ true → IsRegister registers r
    by true true c d e f g h is = record { low = grind (arith, nat_tests); high = grind (arith, nat_tests) }
    by true false true true e f g h is = record { low = grind (arith, nat_tests); high = grind (arith, nat_tests) }
    by false b true true e f g h is = record { low = grind (arith, nat_tests); high = grind (arith, nat_tests) }
    by true false true false e f g h is = absurd (cc is)
    by true false false d e f g h is = absurd (cc is)
    by false b true false e f g h is = absurd (cc is)
    by false b false d e f g h is = absurd (cc is)

place-register : (names : ℕ) (l : Layout) → Fits names l → (x : ℕ) → x < names → IsPlace l.registers (l.place x)
place-register names l fits x less = record {
  register = λ r is. held-register l.registers l.slots r fits.enough
      (subst (λ p. is_inside l.registers l.slots p ≡ true) is (fits.inside x less));
}

pub at-register : (count : ℕ) (p : Place) (spare : ℕ) → IsPlace count p → IsRegister count spare
    → IsRegister count (at p spare)
at-register count (Register r) spare h a = h.register r refl
at-register count (Slot k) spare h a = a

pub bring-fine : (count : ℕ) (qs : List FlatFunc) (t : Stmt-F Bool → Bool) → Fine count qs t → (p : Place) (spare : ℕ)
    → IsRegister count spare → all t (bring p spare) ≡ true
bring-fine count qs t f (Register r) spare a = refl
bring-fine count qs t f (Slot k) spare a = fetch-fine count qs t f k spare a

pub keep-fine : (count : ℕ) (qs : List FlatFunc) (t : Stmt-F Bool → Bool) → Fine count qs t → (p : Place)
    → all t (keep p) ≡ true
keep-fine count qs t f (Register r) = refl
keep-fine count qs t f (Slot k) = put_away-fine count qs t f k 4 (four-register count f.enough)

put-fine : (count : ℕ) (qs : List FlatFunc) (t : Stmt-F Bool → Bool) → Fine count qs t → (p : Place) (r : ℕ)
    → IsPlace count p → IsRegister count r → all t (put p r) ≡ true
put-fine count qs t f (Register q) r h a =
    all-first t (Stmt-F.Copy q r) [] (leaf (t (Stmt-F.Copy q r)) (f.copies q r (h.register q refl) a)) refl
put-fine count qs t f (Slot k) r h a = put_away-fine count qs t f k r a

pass-fine : (count : ℕ) (qs : List FlatFunc) (t : Stmt-F Bool → Bool) → Fine count qs t → (p : Place) (r : ℕ)
    → IsPlace count p → IsRegister count r → all t (pass p r) ≡ true
pass-fine count qs t f (Register q) r h a =
    all-first t (Stmt-F.Copy r q) [] (leaf (t (Stmt-F.Copy r q)) (f.copies r q a (h.register q refl))) refl
pass-fine count qs t f (Slot k) r h a = fetch-fine count qs t f k r a

pub copy-fine : (count : ℕ) (qs : List FlatFunc) (t : Stmt-F Bool → Bool) → Fine count qs t → (to from : Place)
    → IsPlace count to → IsPlace count from → all t (copy to from) ≡ true
copy-fine count qs t f to (Register r) h k = put-fine count qs t f to r h (k.register r refl)
copy-fine count qs t f to (Slot n) h k = all-append t (fetch n (at to 4)) (keep to) (fetch-fine count qs t f n (at to 4)
    (at-register count to 4 h (four-register count f.enough))) (keep-fine count qs t f to)

-- ---- names of a function

below : (x n : ℕ) → nat_lt x n ≡ true → x < n
below x n e = grind (arith, nat_tests)

pub place-of : (names : ℕ) (l : Layout) → Fits names l → (x : ℕ) (xs : List ℕ) → are_below names (x ∷ xs) ≡ true
    → IsPlace l.registers (l.place x)
place-of names l fits x xs h =
    place-register names l fits x (below x names (and-first (nat_lt x names) (are_below names xs) h))

pub rest-of : (names x : ℕ) (xs : List ℕ) → are_below names (x ∷ xs) ≡ true → are_below names xs ≡ true
rest-of names x xs h = and-second (nat_lt x names) (are_below names xs) h

pub operand-fine : (count : ℕ) (qs : List FlatFunc) (t : Stmt-F Bool → Bool) → Fine count qs t
    → (l : Layout) (z : Operand) → all t (bring_operand l z) ≡ true
operand-fine count qs t f l (operand.Name z) = bring-fine count qs t f (l.place z) 5 (five-register count f.enough)
operand-fine count qs t f l (operand.Const c) = refl

pub operand-registers : (names : ℕ) (l : Layout) → Fits names l → (z : Operand)
    → are_below names (operand_names z) ≡ true → are_within l.registers (operand_names (operand_at l z)) ≡ true
operand-registers names l fits (operand.Name z) h = one-within l.registers (at (l.place z) 5)
    (at-register l.registers (l.place z) 5 (place-of names l fits z [] h) (five-register l.registers fits.enough))
operand-registers names l fits (operand.Const c) h = refl

pub operand-still_fits : (l : Layout) (o : BinOp) (z : Operand) → operand_fits o z ≡ true
    → operand_fits o (operand_at l z) ≡ true
operand-still_fits l o (operand.Name z) h = refl
operand-still_fits l o (operand.Const c) h = h

pub test-fine : (count : ℕ) (qs : List FlatFunc) (t : Stmt-F Bool → Bool) → Fine count qs t → (l : Layout) (test : Cond)
    → all t (bring_test l test) ≡ true
test-fine count qs t f l (NonZero y) = bring-fine count qs t f (l.place y) 4 (four-register count f.enough)
test-fine count qs t f l (Compare rel y z) = all-append
    t (bring (l.place y) 4) (bring (l.place z) 5) (bring-fine count qs t f (l.place y) 4 (four-register count f.enough))
    (bring-fine count qs t f (l.place z) 5 (five-register count f.enough))

pub test-registers : (names : ℕ) (l : Layout) → Fits names l → (test : Cond) → are_below names (test_names test) ≡ true
    → are_within l.registers (test_names (test_at l test)) ≡ true
test-registers names l fits (NonZero y) h = one-within l.registers (at (l.place y) 4)
    (at-register l.registers (l.place y) 4 (place-of names l fits y [] h) (four-register l.registers fits.enough))
test-registers names l fits (Compare rel y z) h =
    two-within l.registers (at (l.place y) 4) (at (l.place z) 5) (at-register l.registers (l.place y) 4
    (place-of names l fits y (z ∷ []) h) (four-register l.registers fits.enough))
    (at-register l.registers (l.place z) 5 (place-of names l fits z [] (rest-of names y (z ∷ []) h))
    (five-register l.registers fits.enough))

pub passes-fine : (names : ℕ) (l : Layout) → Fits names l → (qs : List FlatFunc) (t : Stmt-F Bool → Bool)
    → Fine l.registers qs t → (ys : List ℕ) (to : ℕ) → are_below names ys ≡ true → 3 ≤ to → to + length ys ≤ l.registers
    → all t (passes (map l.place ys) to) ≡ true
passes-fine names l fits qs t f [] to h low high = refl
passes-fine names l fits qs t f (y ∷ ys) to h low high =
    all-append t (pass (l.place y) to) (passes (map l.place ys) (suc to)) (pass-fine l.registers qs t f (l.place y) to
    (place-of names l fits y ys h) (record { low = low; high = omega (arith, high) }))
    (passes-fine names l fits qs t f ys (suc to) (rest-of names y ys h) (omega (arith, low)) (omega (arith, high)))

pub takes-fine : (names : ℕ) (l : Layout) → Fits names l → (qs : List FlatFunc) (t : Stmt-F Bool → Bool)
    → Fine l.registers qs t → (xs : List ℕ) (from : ℕ) → are_below names xs ≡ true → 3 ≤ from
    → from + length xs ≤ l.registers
    → all t (takes (map l.place xs) from) ≡ true
takes-fine names l fits qs t f [] from h low high = refl
takes-fine names l fits qs t f (x ∷ xs) from h low high =
    all-append t (put (l.place x) from) (takes (map l.place xs) (suc from)) (put-fine l.registers qs t f (l.place x)
    from (place-of names l fits x xs h) (record { low = low; high = omega (arith, high) }))
    (takes-fine names l fits qs t f xs (suc from) (rest-of names x xs h) (omega (arith, low)) (omega (arith, high)))
