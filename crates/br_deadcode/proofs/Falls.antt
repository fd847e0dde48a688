-- A sweep that leaves something out leaves fewer statements.
use Rattle.std.proofs.Common.{◌≡◌, ℕ, ◌+◌, ◌<◌, ◌≤◌, Bool, true, false, ◌||◌, List, [], ◌∷◌, map}
use Rattle.std.proofs.Common.{Option, Some, None, sum, refl, sym, subst, arith, if◌then◌else◌}
use Rattle.br_flatimp.specs.declared.program.Stmt.{Stmt, map-Stmt}
use Rattle.br_flatimp.specs.declared.program.Stmt.TheOpen.{Stmt-F}
use Rattle.br_flatimp.specs.declared.program.Stmt.TheViews.{roll-Stmt}
use Rattle.br_flatimp.specs.declared.program.Stmt.TheFolds.{fold-roll-Stmt, ind-Stmt}
use Rattle.br_flatimp.specs.declared.program.FlatFunc.{FlatFunc}
use Rattle.br_flatimp.specs.Values.{Names}
use Rattle.br_flatimp.specs.Parts.{parts}
use Rattle.br_flatimp.specs.Liveness.{is_in}
use Rattle.br_flatimp.specs.Sizes.{statement_count, function_count}
use Rattle.br_deadcode.proofs.Sums.{sum_cons}
use Rattle.br_deadcode.specs.Sweeps.{is_idle, Swept, put, swept_test, swept_start, kept, inner_left_out}
use Rattle.br_deadcode.specs.Sweeps.{sweep_step, sweep, before_left, left_of, leaves_of, swept_function}
use Rattle.br_deadcode.specs.Sweeps.{function_leaves, swept_program, program_leaves}

-- how many statements are left of one
abbrev left_count : Option Stmt → ℕ
left_count None = 0
left_count (Some c) = statement_count c

abbrev counts : List Stmt → ℕ
counts cs = sum (map statement_count cs)

counts-put : (o : Option Stmt) (cs : List Stmt) → counts (put o cs) ≡ left_count o + counts cs
counts-put None cs = omega arith
counts-put (Some c) cs = sum_cons (statement_count c) (map statement_count cs)

-- one more where something is left out
abbrev more : Bool → ℕ
more b = if b then 1 else 0

more-or : (a b : Bool) (m n k l : ℕ) → m + more a ≤ k → n + more b ≤ l → n + m + more (a || b) ≤ l + k
more-or true true m n k l h g = omega arith
more-or true false m n k l h g = omega arith
more-or false true m n k l h g = omega arith
more-or false false m n k l h g = omega arith

abbrev Falls : Stmt → Type 0
Falls c = (a : Names) → left_count ((sweep c).left a) + more ((sweep c).leaves_out a) ≤ statement_count c

abbrev Each : Type 0
Each = (c : Stmt) × Falls c

abbrev stmts : List Each → List Stmt
stmts cs = map (λ e. e.0) cs

next-falls : (c : Stmt) (cs : List Stmt) (a : Names) → counts (left_of cs a) + more (leaves_of cs a) ≤ counts cs
    → left_count ((sweep c).left (before_left cs a)) + more
    ((sweep c).leaves_out (before_left cs a)) ≤ statement_count c
    → counts (left_of (c ∷ cs) a) + more (leaves_of (c ∷ cs) a) ≤ counts (c ∷ cs)
next-falls c cs a rest one =
    let b : Names = before_left cs a in
    let o : Option Stmt = (sweep c).left b in
    let put_is = counts-put o (left_of cs a) in
    let whole = sum_cons (statement_count c) (map statement_count cs) in
    let both = more-or (leaves_of cs a) ((sweep c).leaves_out b) (counts (left_of cs a)) (left_count o) (counts cs)
    (statement_count c) rest one in
    omega (arith, put_is, whole, both)

each-falls : (cs : List Each) (a : Names)
    → counts (left_of (stmts cs) a) + more (leaves_of (stmts cs) a) ≤ counts (stmts cs)
each-falls [] a = omega arith
each-falls (e ∷ cs) a = next-falls e.0 (stmts cs) a (each-falls cs a) (e.1 (before_left (stmts cs) a))

abbrev count_step : Stmt-F ℕ → ℕ
count_step y = 1 + sum (map sum (parts y))

abbrev counted : Stmt-F Stmt → ℕ
counted z = count_step (map-Stmt Stmt ℕ statement_count z)

abbrev opened : Stmt-F Each → Stmt-F Stmt
opened y = map-Stmt Each Stmt (λ e. e.0) y

-- what is left of an idle statement, and of another
abbrev FallsStep : Names → Stmt-F Stmt → Type 0
FallsStep a z =
    let w : Stmt-F Swept = map-Stmt Stmt Swept sweep z in
    (if is_idle w a then 0 else counted (kept w a)) + more (is_idle w a || inner_left_out w a) ≤ counted z

simple-falls : (b : Bool) → (if b then 0 else 1) + more (b || false) ≤ 1
simple-falls true = omega arith
simple-falls false = omega arith

one-part : (n k : ℕ) (b : Bool) → n + more b ≤ k → (1 + (0 + n)) + more b ≤ 1 + (0 + k)
one-part n k true h = omega arith
one-part n k false h = omega arith

two-parts : (m n k l : ℕ) (a b : Bool) → m + more a ≤ k → n + more b ≤ l
    → (1 + ((0 + m) + n)) + more (b || a) ≤ 1 + ((0 + k) + l)
two-parts m n k l true true h g = omega arith
two-parts m n k l true false h g = omega arith
two-parts m n k l false true h g = omega arith
two-parts m n k l false false h g = omega arith

step-falls : (y : Stmt-F Each) (a : Names) → FallsStep a (opened y)
step-falls (Stmt-F.Lit x n) a = simple-falls (is_idle {X = Swept} (Stmt-F.Lit x n) a)
step-falls (Stmt-F.Copy x y) a = simple-falls (is_idle {X = Swept} (Stmt-F.Copy x y) a)
step-falls (Stmt-F.Op x op y z) a = simple-falls (is_idle {X = Swept} (Stmt-F.Op x op y z) a)
step-falls (Stmt-F.Load x size y offset) a = simple-falls (is_idle {X = Swept} (Stmt-F.Load x size y offset) a)
step-falls (Stmt-F.Table x size bytes y) a = simple-falls (is_idle {X = Swept} (Stmt-F.Table x size bytes y) a)
step-falls (Stmt-F.Store size y z offset) a = simple-falls false
step-falls (Stmt-F.Call xs g ys) a = simple-falls false
step-falls (Stmt-F.Read x y) a = simple-falls false
step-falls (Stmt-F.Write y z) a = simple-falls false
step-falls (Stmt-F.Stackalloc x n body) a =
    one-part (counts (left_of (stmts body) a)) (counts (stmts body)) (leaves_of (stmts body) a) (each-falls body a)
step-falls (Stmt-F.If test first second) a =
    two-parts (counts (left_of (stmts first) a)) (counts (left_of (stmts second) a)) (counts (stmts first))
    (counts (stmts second)) (leaves_of (stmts first) a) (leaves_of (stmts second) a)
    (each-falls first a) (each-falls second a)
step-falls (Stmt-F.Loop first test last) a =
    let t : Names = swept_test (map sweep (stmts first)) test (map sweep (stmts last)) a in
    let s : Names = swept_start (map sweep (stmts first)) test (map sweep (stmts last)) a in
    two-parts (counts (left_of (stmts first) t)) (counts (left_of (stmts last) s)) (counts (stmts first))
    (counts (stmts last)) (leaves_of (stmts first) t) (leaves_of (stmts last) s)
    (each-falls first t) (each-falls last s)

-- what is left, as a number
left-choice : (b : Bool) (z : Stmt-F Stmt)
    → left_count (if b then None else Some (roll-Stmt z)) ≡ (if b then 0 else counted z)
left-choice true z = refl
left-choice false z = fold-roll-Stmt ℕ count_step z

falls : (c : Stmt) → Falls c
falls = ind-Stmt Falls (λ x y is a.
    let w : Stmt-F Swept = map-Stmt Stmt Swept sweep x in
    subst (λ (s : Swept). left_count (s.left a) + more (s.leaves_out a) ≤ statement_count (roll-Stmt x))
    (sym (fold-roll-Stmt Swept sweep_step x))
    (subst (λ n. n + more (is_idle w a || inner_left_out w a) ≤ statement_count (roll-Stmt x))
    (sym (left-choice (is_idle w a) (kept w a)))
    (subst (λ n. (if is_idle w a then 0 else counted (kept w a)) + more (is_idle w a || inner_left_out w a) ≤ n)
    (sym (fold-roll-Stmt ℕ count_step x))
    (subst (FallsStep a) is (step-falls y a)))))

falls-all : (cs : List Stmt) (a : Names) → counts (left_of cs a) + more (leaves_of cs a) ≤ counts cs
falls-all [] a = omega arith
falls-all (c ∷ cs) a = next-falls c cs a (falls-all cs a) (falls c (before_left cs a))

-- the statements of a program
abbrev pub program_count : List FlatFunc → ℕ
program_count fs = sum (map function_count fs)

more-first : (a b : Bool) (m n k l : ℕ) → m + more a ≤ k → n + more b ≤ l → m + n + more (a || b) ≤ k + l
more-first true true m n k l h g = omega arith
more-first true false m n k l h g = omega arith
more-first false true m n k l h g = omega arith
more-first false false m n k l h g = omega arith

program-falls : (fs : List FlatFunc) → program_count (swept_program fs) + more (program_leaves fs) ≤ program_count fs
program-falls [] = omega arith
program-falls (f ∷ fs) =
    let both = more-first (function_leaves f) (program_leaves fs) (function_count (swept_function f))
    (program_count (swept_program fs)) (function_count f) (program_count fs)
    (falls-all f.body (is_in f.results)) (program-falls fs) in
    let left = sum_cons (function_count (swept_function f)) (map function_count (swept_program fs)) in
    let whole = sum_cons (function_count f) (map function_count fs) in
    omega (arith, both, left, whole)

pub fewer : (fs : List FlatFunc) → program_leaves fs ≡ true → program_count (swept_program fs) < program_count fs
fewer fs h = by (program_leaves fs) h (program-falls fs)
  where
    by : (b : Bool) → b ≡ true → program_count (swept_program fs) + more b ≤ program_count fs
        → program_count (swept_program fs) < program_count fs
    by true e k = omega arith
    by false e k = absurd (cc e)
