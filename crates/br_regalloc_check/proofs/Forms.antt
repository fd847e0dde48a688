-- What is counted, live and renamed of each form of statement.
use Rattle.std.proofs.Common.{◌≡◌, ℕ, suc, ◌+◌, ℤ, List, [], ◌∷◌, ◌++◌, map, sym, ap, ◌∙◌, append-nil, arith}
use Rattle.std.specs.Prelude.{sum}
use Rattle.std.specs.List.{flat_map}
use Rattle.std.proofs.lemmas.List.Folds.{flat_map-map}
use Rattle.br_words.specs.declared.operation.BinOp.{BinOp}
use Rattle.br_words.specs.declared.size.Size.{Size}
use Rattle.br_flatimp.specs.declared.program.Cond.{Cond}
use Rattle.br_flatimp.specs.declared.program.Operand.{Operand}
use Rattle.br_flatimp.specs.declared.program.Stmt.{Stmt, map-Stmt}
use Rattle.br_flatimp.specs.declared.program.Stmt.TheOpen.{Stmt-F}
use Rattle.br_flatimp.specs.declared.program.Stmt.TheViews.{roll-Stmt}
use Rattle.br_flatimp.specs.declared.program.Stmt.TheVariants.{Lit, Copy, Op, Load, Store, Table, Stackalloc}
use Rattle.br_flatimp.specs.declared.program.Stmt.TheVariants.{If, Loop, Call, Read, Write, rolls-Lit}
use Rattle.br_flatimp.specs.declared.program.Stmt.TheVariants.{rolls-Copy, rolls-Op, rolls-Load, rolls-Store}
use Rattle.br_flatimp.specs.declared.program.Stmt.TheVariants.{rolls-Table, rolls-Stackalloc, rolls-If}
use Rattle.br_flatimp.specs.declared.program.Stmt.TheVariants.{rolls-Loop, rolls-Call, rolls-Read, rolls-Write}
use Rattle.br_flatimp.specs.declared.program.Stmt.TheFolds.{fold-roll-Stmt}
use Rattle.br_flatimp.specs.Values.{Names}
use Rattle.br_flatimp.specs.Parts.{written, read, parts, test_names, operand_names, statement_names}
use Rattle.br_flatimp.specs.Sizes.{statement_count}
use Rattle.br_flatimp.specs.Liveness.{is_in, union, without, Live, Moment, before, before_all, before_step}
use Rattle.br_flatimp.specs.Liveness.{inner_moments, live, live_step, moment, moments, at_test}
use Rattle.br_flatimp.specs.Renaming.{renamed, renamed_operand, renamed_step, renamed_test}

abbrev names_step : Stmt-F (List ℕ) → List ℕ
names_step y = (written y ++ read y) ++ flat_map (flat_map (λ xs. xs)) (parts y)

abbrev count_step : Stmt-F ℕ → ℕ
count_step y = 1 + sum (map sum (parts y))

names-of : (y : Stmt-F Stmt) (c : Stmt) → roll-Stmt y ≡ c
    → statement_names c ≡ names_step (map-Stmt Stmt (List ℕ) statement_names y)
names-of y c is = ap statement_names (sym is) ∙ fold-roll-Stmt (List ℕ) names_step y

count-of : (y : Stmt-F Stmt) (c : Stmt) → roll-Stmt y ≡ c
    → statement_count c ≡ count_step (map-Stmt Stmt ℕ statement_count y)
count-of y c is = ap statement_count (sym is) ∙ fold-roll-Stmt ℕ count_step y

live-of : (y : Stmt-F Stmt) (c : Stmt) → roll-Stmt y ≡ c → live c ≡ live_step (map-Stmt Stmt Live live y)
live-of y c is = ap live (sym is) ∙ fold-roll-Stmt Live live_step y

before-of : (y : Stmt-F Stmt) (c : Stmt) → roll-Stmt y ≡ c → (a : Names)
    → before c a ≡ before_step (map-Stmt Stmt Live live y) a
before-of y c is a = ap (λ (l : Live). l.before a) (live-of y c is)

moments-of : (y : Stmt-F Stmt) (c : Stmt) → roll-Stmt y ≡ c → (a : Names)
    → (live c).moments a ≡ moment (map-Stmt Stmt Live live y) a ∷ inner_moments (map-Stmt Stmt Live live y) a
moments-of y c is a = ap (λ (l : Live). l.moments a) (live-of y c is)

renamed-of : (to : ℕ → ℕ) (y : Stmt-F Stmt) (c d : Stmt) → roll-Stmt y ≡ c
    → roll-Stmt (renamed_step to (map-Stmt Stmt Stmt (renamed to) y)) ≡ d → renamed to c ≡ d
renamed-of to y c d is made =
    ap (renamed to) (sym is) ∙ fold-roll-Stmt Stmt (λ z. roll-Stmt (renamed_step to z)) y ∙ made

one_part : (F : Stmt → List ℕ) (body : List Stmt) → flat_map (flat_map (λ xs. xs)) (map F body ∷ []) ≡ flat_map F body
one_part F body = append-nil (flat_map (λ xs. xs) (map F body)) ∙ flat_map-map (λ xs. xs) F body

two_parts : (F : Stmt → List ℕ) (first second : List Stmt)
    → flat_map (flat_map (λ xs. xs)) (map F first ∷ map F second ∷ []) ≡ flat_map F first ++ flat_map F second
two_parts F first second =
    ap (λ ys. flat_map (λ xs. xs) (map F first) ++ ys) (one_part F second)
    ∙ ap (λ ys. ys ++ flat_map F second) (flat_map-map (λ xs. xs) F first)

-- ---- the names in a statement

pub names-lit : (x n : ℕ) → statement_names (Lit x n) ≡ x ∷ []
names-lit x n = names-of (Stmt-F.Lit x n) (Lit x n) (rolls-Lit x n)

pub names-copy : (x y : ℕ) → statement_names (Copy x y) ≡ x ∷ y ∷ []
names-copy x y = names-of (Stmt-F.Copy x y) (Copy x y) (rolls-Copy x y)

pub names-op : (x : ℕ) (op : BinOp) (y : ℕ) (z : Operand) → statement_names (Op x op y z) ≡ x ∷ y ∷ operand_names z
names-op x op y z =
    names-of (Stmt-F.Op x op y z) (Op x op y z) (rolls-Op x op y z) ∙ append-nil (x ∷ y ∷ operand_names z)

pub names-load : (x : ℕ) (size : Size) (y : ℕ) (offset : ℤ) → statement_names (Load x size y offset) ≡ x ∷ y ∷ []
names-load x size y offset = names-of (Stmt-F.Load x size y offset) (Load x size y offset) (rolls-Load x size y offset)

pub names-store : (size : Size) (y z : ℕ) (offset : ℤ) → statement_names (Store size y z offset) ≡ y ∷ z ∷ []
names-store size y z offset =
    names-of (Stmt-F.Store size y z offset) (Store size y z offset) (rolls-Store size y z offset)

pub names-table : (x : ℕ) (size : Size) (bytes : List ℕ) (y : ℕ) → statement_names (Table x size bytes y) ≡ x ∷ y ∷ []
names-table x size bytes y = names-of (Stmt-F.Table x size bytes y) (Table x size bytes y) (rolls-Table x size bytes y)

pub names-stackalloc : (x n : ℕ) (body : List Stmt)
    → statement_names (Stackalloc x n body) ≡ x ∷ flat_map statement_names body
names-stackalloc x n body = names-of (Stmt-F.Stackalloc x n body) (Stackalloc x n body) (rolls-Stackalloc x n body)
    ∙ ap (λ zs. x ∷ zs) (one_part statement_names body)

pub names-if : (test : Cond) (first second : List Stmt) → statement_names (If test first second)
    ≡ test_names test ++ (flat_map statement_names first ++ flat_map statement_names second)
names-if test first second = names-of (Stmt-F.If test first second) (If test first second) (rolls-If test first second)
    ∙ ap (λ zs. test_names test ++ zs) (two_parts statement_names first second)

pub names-loop : (first : List Stmt) (test : Cond) (last : List Stmt) → statement_names (Loop first test last)
    ≡ test_names test ++ (flat_map statement_names first ++ flat_map statement_names last)
names-loop first test last = names-of (Stmt-F.Loop first test last) (Loop first test last) (rolls-Loop first test last)
    ∙ ap (λ zs. test_names test ++ zs) (two_parts statement_names first last)

pub names-call : (xs : List ℕ) (g : ℕ) (ys : List ℕ) → statement_names (Call xs g ys) ≡ xs ++ ys
names-call xs g ys = names-of (Stmt-F.Call xs g ys) (Call xs g ys) (rolls-Call xs g ys) ∙ append-nil (xs ++ ys)

pub names-read : (x y : ℕ) → statement_names (Read x y) ≡ x ∷ y ∷ []
names-read x y = names-of (Stmt-F.Read x y) (Read x y) (rolls-Read x y)

pub names-write : (y z : ℕ) → statement_names (Write y z) ≡ y ∷ z ∷ []
names-write y z = names-of (Stmt-F.Write y z) (Write y z) (rolls-Write y z)

-- ---- how many statements it is

pub count-lit : (x n : ℕ) → statement_count (Lit x n) ≡ 1
count-lit x n = omega (arith, count-of (Stmt-F.Lit x n) (Lit x n) (rolls-Lit x n))

pub count-copy : (x y : ℕ) → statement_count (Copy x y) ≡ 1
count-copy x y = omega (arith, count-of (Stmt-F.Copy x y) (Copy x y) (rolls-Copy x y))

pub count-op : (x : ℕ) (op : BinOp) (y : ℕ) (z : Operand) → statement_count (Op x op y z) ≡ 1
count-op x op y z = omega (arith, count-of (Stmt-F.Op x op y z) (Op x op y z) (rolls-Op x op y z))

pub count-load : (x : ℕ) (size : Size) (y : ℕ) (offset : ℤ) → statement_count (Load x size y offset) ≡ 1
count-load x size y offset =
    omega (arith, count-of (Stmt-F.Load x size y offset) (Load x size y offset) (rolls-Load x size y offset))

pub count-store : (size : Size) (y z : ℕ) (offset : ℤ) → statement_count (Store size y z offset) ≡ 1
count-store size y z offset =
    omega (arith, count-of (Stmt-F.Store size y z offset) (Store size y z offset) (rolls-Store size y z offset))

pub count-table : (x : ℕ) (size : Size) (bytes : List ℕ) (y : ℕ) → statement_count (Table x size bytes y) ≡ 1
count-table x size bytes y =
    omega (arith, count-of (Stmt-F.Table x size bytes y) (Table x size bytes y) (rolls-Table x size bytes y))

pub count-stackalloc : (x n : ℕ) (body : List Stmt)
    → statement_count (Stackalloc x n body) ≡ suc (sum (map statement_count body))
count-stackalloc x n body =
    omega (arith, count-of (Stmt-F.Stackalloc x n body) (Stackalloc x n body) (rolls-Stackalloc x n body))

pub count-if : (test : Cond) (first second : List Stmt)
    → statement_count (If test first second) ≡ suc (sum (map statement_count first) + sum (map statement_count second))
count-if test first second =
    omega (arith, count-of (Stmt-F.If test first second) (If test first second) (rolls-If test first second))

pub count-loop : (first : List Stmt) (test : Cond) (last : List Stmt)
    → statement_count (Loop first test last) ≡ suc (sum (map statement_count first) + sum (map statement_count last))
count-loop first test last =
    omega (arith, count-of (Stmt-F.Loop first test last) (Loop first test last) (rolls-Loop first test last))

pub count-call : (xs : List ℕ) (g : ℕ) (ys : List ℕ) → statement_count (Call xs g ys) ≡ 1
count-call xs g ys = omega (arith, count-of (Stmt-F.Call xs g ys) (Call xs g ys) (rolls-Call xs g ys))

pub count-read : (x y : ℕ) → statement_count (Read x y) ≡ 1
count-read x y = omega (arith, count-of (Stmt-F.Read x y) (Read x y) (rolls-Read x y))

pub count-write : (y z : ℕ) → statement_count (Write y z) ≡ 1
count-write y z = omega (arith, count-of (Stmt-F.Write y z) (Write y z) (rolls-Write y z))

pub ruleset counts = (
  count-lit,
  count-copy,
  count-op,
  count-load,
  count-store,
  count-table,
  count-stackalloc,
  count-if,
  count-loop,
  count-call,
  count-read,
  count-write,
)

-- ---- what is live before it

pub before-lit : (x n : ℕ) (a : Names) → before (Lit x n) a ≡ union (without a (x ∷ [])) (is_in ([]))
before-lit x n = before-of (Stmt-F.Lit x n) (Lit x n) (rolls-Lit x n)

pub before-copy : (x y : ℕ) (a : Names) → before (Copy x y) a ≡ union (without a (x ∷ [])) (is_in (y ∷ []))
before-copy x y = before-of (Stmt-F.Copy x y) (Copy x y) (rolls-Copy x y)

pub before-op : (x : ℕ) (op : BinOp) (y : ℕ) (z : Operand) (a : Names)
    → before (Op x op y z) a ≡ union (without a (x ∷ [])) (is_in (y ∷ operand_names z))
before-op x op y z = before-of (Stmt-F.Op x op y z) (Op x op y z) (rolls-Op x op y z)

pub before-load : (x : ℕ) (size : Size) (y : ℕ) (offset : ℤ) (a : Names)
    → before (Load x size y offset) a ≡ union (without a (x ∷ [])) (is_in (y ∷ []))
before-load x size y offset =
    before-of (Stmt-F.Load x size y offset) (Load x size y offset) (rolls-Load x size y offset)

pub before-store : (size : Size) (y z : ℕ) (offset : ℤ) (a : Names)
    → before (Store size y z offset) a ≡ union (without a ([])) (is_in (y ∷ z ∷ []))
before-store size y z offset =
    before-of (Stmt-F.Store size y z offset) (Store size y z offset) (rolls-Store size y z offset)

pub before-table : (x : ℕ) (size : Size) (bytes : List ℕ) (y : ℕ) (a : Names)
    → before (Table x size bytes y) a ≡ union (without a (x ∷ [])) (is_in (y ∷ []))
before-table x size bytes y =
    before-of (Stmt-F.Table x size bytes y) (Table x size bytes y) (rolls-Table x size bytes y)

pub before-stackalloc : (x n : ℕ) (body : List Stmt) (a : Names)
    → before (Stackalloc x n body) a ≡ without (before_all body a) (x ∷ [])
before-stackalloc x n body = before-of (Stmt-F.Stackalloc x n body) (Stackalloc x n body) (rolls-Stackalloc x n body)

pub before-if : (test : Cond) (first second : List Stmt) (a : Names) → before (If test first second) a
    ≡ union (is_in (test_names test)) (union (before_all first a) (before_all second a))
before-if test first second =
    before-of (Stmt-F.If test first second) (If test first second) (rolls-If test first second)

pub before-loop : (first : List Stmt) (test : Cond) (last : List Stmt) (a : Names)
    → before (Loop first test last) a ≡ before_all first (at_test (map live first) test (map live last) a)
before-loop first test last =
    before-of (Stmt-F.Loop first test last) (Loop first test last) (rolls-Loop first test last)

pub before-call : (xs : List ℕ) (g : ℕ) (ys : List ℕ) (a : Names)
    → before (Call xs g ys) a ≡ union (without a (xs)) (is_in (ys))
before-call xs g ys = before-of (Stmt-F.Call xs g ys) (Call xs g ys) (rolls-Call xs g ys)

pub before-read : (x y : ℕ) (a : Names) → before (Read x y) a ≡ union (without a (x ∷ [])) (is_in (y ∷ []))
before-read x y = before-of (Stmt-F.Read x y) (Read x y) (rolls-Read x y)

pub before-write : (y z : ℕ) (a : Names) → before (Write y z) a ≡ union (without a ([])) (is_in (y ∷ z ∷ []))
before-write y z = before-of (Stmt-F.Write y z) (Write y z) (rolls-Write y z)

-- ---- its moments

abbrev pub itself : Stmt-F Stmt → Names → Moment
itself y = moment (map-Stmt Stmt Live live y)

pub moments-lit : (x n : ℕ) (a : Names) → (live (Lit x n)).moments a ≡ itself (Stmt-F.Lit x n) a ∷ []
moments-lit x n = moments-of (Stmt-F.Lit x n) (Lit x n) (rolls-Lit x n)

pub moments-copy : (x y : ℕ) (a : Names) → (live (Copy x y)).moments a ≡ itself (Stmt-F.Copy x y) a ∷ []
moments-copy x y = moments-of (Stmt-F.Copy x y) (Copy x y) (rolls-Copy x y)

pub moments-op : (x : ℕ) (op : BinOp) (y : ℕ) (z : Operand) (a : Names)
    → (live (Op x op y z)).moments a ≡ itself (Stmt-F.Op x op y z) a ∷ []
moments-op x op y z = moments-of (Stmt-F.Op x op y z) (Op x op y z) (rolls-Op x op y z)

pub moments-load : (x : ℕ) (size : Size) (y : ℕ) (offset : ℤ) (a : Names)
    → (live (Load x size y offset)).moments a ≡ itself (Stmt-F.Load x size y offset) a ∷ []
moments-load x size y offset =
    moments-of (Stmt-F.Load x size y offset) (Load x size y offset) (rolls-Load x size y offset)

pub moments-store : (size : Size) (y z : ℕ) (offset : ℤ) (a : Names)
    → (live (Store size y z offset)).moments a ≡ itself (Stmt-F.Store size y z offset) a ∷ []
moments-store size y z offset =
    moments-of (Stmt-F.Store size y z offset) (Store size y z offset) (rolls-Store size y z offset)

pub moments-table : (x : ℕ) (size : Size) (bytes : List ℕ) (y : ℕ) (a : Names)
    → (live (Table x size bytes y)).moments a ≡ itself (Stmt-F.Table x size bytes y) a ∷ []
moments-table x size bytes y =
    moments-of (Stmt-F.Table x size bytes y) (Table x size bytes y) (rolls-Table x size bytes y)

pub moments-stackalloc : (x n : ℕ) (body : List Stmt) (a : Names)
    → (live (Stackalloc x n body)).moments a ≡ itself (Stmt-F.Stackalloc x n body) a ∷ moments (map live body) a
moments-stackalloc x n body = moments-of (Stmt-F.Stackalloc x n body) (Stackalloc x n body) (rolls-Stackalloc x n body)

pub moments-if : (test : Cond) (first second : List Stmt) (a : Names) → (live (If test first second)).moments a
    ≡ itself (Stmt-F.If test first second) a ∷ (moments (map live first) a ++ moments (map live second) a)
moments-if test first second =
    moments-of (Stmt-F.If test first second) (If test first second) (rolls-If test first second)

pub moments-loop : (first : List Stmt) (test : Cond) (last : List Stmt) (a : Names)
    → (live (Loop first test last)).moments a ≡ itself (Stmt-F.Loop first test last) a
    ∷ (moments (map live first) (at_test (map live first) test (map live last) a)
    ++ moments (map live last) (before_all first (at_test (map live first) test (map live last) a)))
moments-loop first test last =
    moments-of (Stmt-F.Loop first test last) (Loop first test last) (rolls-Loop first test last)

pub moments-call : (xs : List ℕ) (g : ℕ) (ys : List ℕ) (a : Names)
    → (live (Call xs g ys)).moments a ≡ itself (Stmt-F.Call xs g ys) a ∷ []
moments-call xs g ys = moments-of (Stmt-F.Call xs g ys) (Call xs g ys) (rolls-Call xs g ys)

pub moments-read : (x y : ℕ) (a : Names) → (live (Read x y)).moments a ≡ itself (Stmt-F.Read x y) a ∷ []
moments-read x y = moments-of (Stmt-F.Read x y) (Read x y) (rolls-Read x y)

pub moments-write : (y z : ℕ) (a : Names) → (live (Write y z)).moments a ≡ itself (Stmt-F.Write y z) a ∷ []
moments-write y z = moments-of (Stmt-F.Write y z) (Write y z) (rolls-Write y z)

-- ---- it with other names

pub renamed-lit : (to : ℕ → ℕ) (x n : ℕ) → renamed to (Lit x n) ≡ Lit (to x) n
renamed-lit to x n = renamed-of to (Stmt-F.Lit x n) (Lit x n) (Lit (to x) n) (rolls-Lit x n) (rolls-Lit (to x) n)

pub renamed-copy : (to : ℕ → ℕ) (x y : ℕ) → renamed to (Copy x y) ≡ Copy (to x) (to y)
renamed-copy to x y =
    renamed-of to (Stmt-F.Copy x y) (Copy x y) (Copy (to x) (to y)) (rolls-Copy x y) (rolls-Copy (to x) (to y))

pub renamed-op : (to : ℕ → ℕ) (x : ℕ) (op : BinOp) (y : ℕ) (z : Operand)
    → renamed to (Op x op y z) ≡ Op (to x) op (to y) (renamed_operand to z)
renamed-op to x op y z = renamed-of to (Stmt-F.Op x op y z) (Op x op y z) (Op (to x) op (to y) (renamed_operand to z))
    (rolls-Op x op y z) (rolls-Op (to x) op (to y) (renamed_operand to z))

pub renamed-load : (to : ℕ → ℕ) (x : ℕ) (size : Size) (y : ℕ) (offset : ℤ)
    → renamed to (Load x size y offset) ≡ Load (to x) size (to y) offset
renamed-load to x size y offset = renamed-of to (Stmt-F.Load x size y offset) (Load x size y offset)
    (Load (to x) size (to y) offset) (rolls-Load x size y offset) (rolls-Load (to x) size (to y) offset)

pub renamed-store : (to : ℕ → ℕ) (size : Size) (y z : ℕ) (offset : ℤ)
    → renamed to (Store size y z offset) ≡ Store size (to y) (to z) offset
renamed-store to size y z offset = renamed-of to (Stmt-F.Store size y z offset) (Store size y z offset)
    (Store size (to y) (to z) offset) (rolls-Store size y z offset) (rolls-Store size (to y) (to z) offset)

pub renamed-table : (to : ℕ → ℕ) (x : ℕ) (size : Size) (bytes : List ℕ) (y : ℕ)
    → renamed to (Table x size bytes y) ≡ Table (to x) size bytes (to y)
renamed-table to x size bytes y = renamed-of to (Stmt-F.Table x size bytes y) (Table x size bytes y)
    (Table (to x) size bytes (to y)) (rolls-Table x size bytes y) (rolls-Table (to x) size bytes (to y))

pub renamed-stackalloc : (to : ℕ → ℕ) (x n : ℕ) (body : List Stmt)
    → renamed to (Stackalloc x n body) ≡ Stackalloc (to x) n (map (renamed to) body)
renamed-stackalloc to x n body = renamed-of to (Stmt-F.Stackalloc x n body) (Stackalloc x n body) (Stackalloc (to x) n
    (map (renamed to) body)) (rolls-Stackalloc x n body) (rolls-Stackalloc (to x) n (map (renamed to) body))

pub renamed-if : (to : ℕ → ℕ) (test : Cond) (first second : List Stmt)
    → renamed to (If test first second) ≡ If (renamed_test to test) (map (renamed to) first) (map (renamed to) second)
renamed-if to test first second = renamed-of to (Stmt-F.If test first second) (If test first second)
    (If (renamed_test to test) (map (renamed to) first) (map (renamed to) second)) (rolls-If test first second)
    (rolls-If (renamed_test to test) (map (renamed to) first) (map (renamed to) second))

pub renamed-loop : (to : ℕ → ℕ) (first : List Stmt) (test : Cond) (last : List Stmt)
    → renamed to (Loop first test last) ≡ Loop (map (renamed to) first) (renamed_test to test) (map (renamed to) last)
renamed-loop to first test last = renamed-of to (Stmt-F.Loop first test last) (Loop first test last)
    (Loop (map (renamed to) first) (renamed_test to test) (map (renamed to) last)) (rolls-Loop first test last)
    (rolls-Loop (map (renamed to) first) (renamed_test to test) (map (renamed to) last))

pub renamed-call : (to : ℕ → ℕ) (xs : List ℕ) (g : ℕ) (ys : List ℕ)
    → renamed to (Call xs g ys) ≡ Call (map to xs) g (map to ys)
renamed-call to xs g ys = renamed-of to (Stmt-F.Call xs g ys) (Call xs g ys) (Call (map to xs) g (map to ys))
    (rolls-Call xs g ys) (rolls-Call (map to xs) g (map to ys))

pub renamed-read : (to : ℕ → ℕ) (x y : ℕ) → renamed to (Read x y) ≡ Read (to x) (to y)
renamed-read to x y =
    renamed-of to (Stmt-F.Read x y) (Read x y) (Read (to x) (to y)) (rolls-Read x y) (rolls-Read (to x) (to y))

pub renamed-write : (to : ℕ → ℕ) (y z : ℕ) → renamed to (Write y z) ≡ Write (to y) (to z)
renamed-write to y z =
    renamed-of to (Stmt-F.Write y z) (Write y z) (Write (to y) (to z)) (rolls-Write y z) (rolls-Write (to y) (to z))

pub ruleset renames = (
  renamed-lit,
  renamed-copy,
  renamed-op,
  renamed-load,
  renamed-store,
  renamed-table,
  renamed-stackalloc,
  renamed-if,
  renamed-loop,
  renamed-call,
  renamed-read,
  renamed-write,
)
