-- Which statements a set closes, by their kind.
use Rattle.std.proofs.Common.{◌≡◌, ℕ, ℤ, Bool, true, false, not, ◌&&◌, ◌||◌}
use Rattle.std.proofs.Common.{List, [], ◌∷◌, map, refl, sym, ap, subst, ◌∙◌}
use Rattle.std.specs.List.{list_all}
use Rattle.br_words.specs.declared.operation.BinOp.{BinOp}
use Rattle.br_words.specs.declared.size.Size.{Size}
use Rattle.br_flatimp.specs.declared.program.Cond.{Cond}
use Rattle.br_flatimp.specs.declared.program.Operand.{Operand}
use Rattle.br_flatimp.specs.declared.program.Stmt.{Stmt, map-Stmt}
use Rattle.br_flatimp.specs.declared.program.Stmt.TheOpen.{Stmt-F}
use Rattle.br_flatimp.specs.declared.program.Stmt.TheViews.{roll-Stmt}
use Rattle.br_flatimp.specs.declared.program.Stmt.TheVariants.{Lit, Copy, Op, Load, Store, Table, Stackalloc}
use Rattle.br_flatimp.specs.declared.program.Stmt.TheVariants.{If, Loop, Call, Read, Write, rolls-Lit}
use Rattle.br_flatimp.specs.declared.program.Stmt.TheVariants.{rolls-Copy, rolls-Op, rolls-Load, rolls-Store}
use Rattle.br_flatimp.specs.declared.program.Stmt.TheVariants.{rolls-Table, rolls-Stackalloc, rolls-If}
use Rattle.br_flatimp.specs.declared.program.Stmt.TheVariants.{rolls-Loop, rolls-Call, rolls-Read, rolls-Write}
use Rattle.br_flatimp.specs.declared.program.Stmt.TheFolds.{fold-roll-Stmt, ind-Stmt}
use Rattle.br_flatimp.specs.Values.{Names}
use Rattle.br_flatimp.specs.Parts.{operand_names, test_names, read, parts}
use Rattle.br_flatimp.specs.declared.program.FlatFunc.{FlatFunc}
use Rattle.br_deadcode.specs.Sweeps.{is_idle}
use Rattle.br_deadcode.specs.Unneeded.{reads_within, is_closed, is_closed_function, listed}
use Rattle.br_deadcode.proofs.Sizes.{both, all_true, all-made}

abbrev pub closed_step : Names → Stmt-F Bool → Bool
closed_step set y = reads_within set y && list_all (list_all (λ ok. ok)) (parts y)

pub closed-roll : (set : Names) (x : Stmt-F Stmt)
    → is_closed set (roll-Stmt x) ≡ closed_step set (map-Stmt Stmt Bool (is_closed set) x)
closed-roll set x = fold-roll-Stmt Bool (closed_step set) x

of : (set : Names) (x : Stmt-F Stmt) (s : Stmt) → roll-Stmt x ≡ s
    → is_closed set s ≡ closed_step set (map-Stmt Stmt Bool (is_closed set) x)
of set x s is = ap (is_closed set) (sym is) ∙ closed-roll set x

none : (a : Bool) → ((not (a || false) || true) && true) ≡ true
none true = refl
none false = refl

one : (a b : Bool) → ((not (a || false) || (b && true)) && true) ≡ (not a || b)
one true true = refl
one true false = refl
one false b = refl

more : (a b : Bool) → ((not (a || false) || b) && true) ≡ (not a || b)
more true true = refl
more true false = refl
more false b = refl

only : (b : Bool) → (b && true) ≡ b
only true = refl
only false = refl

pair : (a b : Bool) → ((a && (b && true)) && true) ≡ (a && b)
pair true true = refl
pair true false = refl
pair false b = refl

pub closed-lit : (x n : ℕ) (set : Names) → is_closed set (Lit x n) ≡ true
closed-lit x n set = of set (Stmt-F.Lit x n) (Lit x n) (rolls-Lit x n) ∙ none (set x)

pub closed-copy : (x y : ℕ) (set : Names) → is_closed set (Copy x y) ≡ (not (set x) || set y)
closed-copy x y set = of set (Stmt-F.Copy x y) (Copy x y) (rolls-Copy x y) ∙ one (set x) (set y)

pub closed-op : (x : ℕ) (op : BinOp) (y : ℕ) (z : Operand) (set : Names)
    → is_closed set (Op x op y z) ≡ (not (set x) || (set y && list_all set (operand_names z)))
closed-op x op y z set =
    of set (Stmt-F.Op x op y z) (Op x op y z) (rolls-Op x op y z)
    ∙ more (set x) (set y && list_all set (operand_names z))

pub closed-load : (x : ℕ) (size : Size) (y : ℕ) (offset : ℤ) (set : Names)
    → is_closed set (Load x size y offset) ≡ (not (set x) || set y)
closed-load x size y offset set =
    of set (Stmt-F.Load x size y offset) (Load x size y offset) (rolls-Load x size y offset) ∙ one (set x) (set y)

pub closed-table : (x : ℕ) (size : Size) (bytes : List ℕ) (y : ℕ) (set : Names)
    → is_closed set (Table x size bytes y) ≡ (not (set x) || set y)
closed-table x size bytes y set =
    of set (Stmt-F.Table x size bytes y) (Table x size bytes y) (rolls-Table x size bytes y) ∙ one (set x) (set y)

pub closed-store : (size : Size) (y z : ℕ) (offset : ℤ) (set : Names)
    → is_closed set (Store size y z offset) ≡ (set y && set z)
closed-store size y z offset set =
    of set (Stmt-F.Store size y z offset) (Store size y z offset) (rolls-Store size y z offset)
    ∙ pair (set y) (set z)

pub closed-write : (y z : ℕ) (set : Names) → is_closed set (Write y z) ≡ (set y && set z)
closed-write y z set = of set (Stmt-F.Write y z) (Write y z) (rolls-Write y z) ∙ pair (set y) (set z)

pub closed-read : (x y : ℕ) (set : Names) → is_closed set (Read x y) ≡ set y
closed-read x y set = of set (Stmt-F.Read x y) (Read x y) (rolls-Read x y) ∙ only (set y && true) ∙ only (set y)

pub closed-call : (xs : List ℕ) (g : ℕ) (ys : List ℕ) (set : Names)
    → is_closed set (Call xs g ys) ≡ list_all set ys
closed-call xs g ys set = of set (Stmt-F.Call xs g ys) (Call xs g ys) (rolls-Call xs g ys) ∙ only (list_all set ys)

pub closed-stackalloc : (x n : ℕ) (body : List Stmt) (set : Names)
    → is_closed set (Stackalloc x n body) ≡ list_all (is_closed set) body
closed-stackalloc x n body set =
    of set (Stmt-F.Stackalloc x n body) (Stackalloc x n body) (rolls-Stackalloc x n body)
    ∙ only (all_true (map (is_closed set) body)) ∙ all-made (is_closed set) body

two : (test : Bool) (set : Names) (cs ds : List Stmt)
    → (test && (all_true (map (is_closed set) cs) && (all_true (map (is_closed set) ds) && true)))
    ≡ (test && (list_all (is_closed set) cs && list_all (is_closed set) ds))
two test set cs ds =
    ap (λ b. test && (all_true (map (is_closed set) cs) && b))
    (only (all_true (map (is_closed set) ds)) ∙ all-made (is_closed set) ds)
    ∙ ap (λ a. test && (a && list_all (is_closed set) ds)) (all-made (is_closed set) cs)

pub closed-if : (test : Cond) (first second : List Stmt) (set : Names)
    → is_closed set (If test first second)
    ≡ (list_all set (test_names test) && (list_all (is_closed set) first && list_all (is_closed set) second))
closed-if test first second set =
    of set (Stmt-F.If test first second) (If test first second) (rolls-If test first second)
    ∙ two (list_all set (test_names test)) set first second

pub closed-loop : (first : List Stmt) (test : Cond) (last : List Stmt) (set : Names)
    → is_closed set (Loop first test last)
    ≡ (list_all set (test_names test) && (list_all (is_closed set) first && list_all (is_closed set) last))
closed-loop first test last set =
    of set (Stmt-F.Loop first test last) (Loop first test last) (rolls-Loop first test last)
    ∙ two (list_all set (test_names test)) set first last

pub ruleset closes = (
  closed-lit,
  closed-copy,
  closed-op,
  closed-load,
  closed-table,
  closed-store,
  closed-stackalloc,
  closed-if,
  closed-loop,
  closed-call,
  closed-read,
  closed-write,
)

-- ---- the set of all names

abbrev every : Names
every = listed []

all-in : (xs : List ℕ) → list_all every xs ≡ true
all-in [] = refl
all-in (x ∷ xs) = all-in xs

or-true : (a b : Bool) → b ≡ true → (a || b) ≡ true
or-true true b h = refl
or-true false b h = h

abbrev Each : Type 0
Each = (c : Stmt) × (is_closed every c ≡ true)

each-closed : (es : List Each) → all_true (map (is_closed every) (map (λ e. e.0) es)) ≡ true
each-closed [] = refl
each-closed (e ∷ es) =
    both (is_closed every e.0) (all_true (map (is_closed every) (map (λ d. d.0) es))) e.1 (each-closed es)

parts-closed : (y : Stmt-F Each)
    → list_all all_true (parts (map-Stmt Stmt Bool (is_closed every) (map-Stmt Each Stmt (λ e. e.0) y))) ≡ true
parts-closed (Stmt-F.Lit x n) = refl
parts-closed (Stmt-F.Copy x y) = refl
parts-closed (Stmt-F.Op x op y z) = refl
parts-closed (Stmt-F.Load x size y offset) = refl
parts-closed (Stmt-F.Store size y z offset) = refl
parts-closed (Stmt-F.Table x size bytes y) = refl
parts-closed (Stmt-F.Call xs g ys) = refl
parts-closed (Stmt-F.Read x y) = refl
parts-closed (Stmt-F.Write y z) = refl
parts-closed (Stmt-F.Stackalloc x n body) =
    only (all_true (map (is_closed every) (map (λ e. e.0) body))) ∙ each-closed body
parts-closed (Stmt-F.If test first second) =
    both (all_true (map (is_closed every) (map (λ e. e.0) first)))
    (all_true (map (is_closed every) (map (λ e. e.0) second)) && true) (each-closed first)
    (only (all_true (map (is_closed every) (map (λ e. e.0) second))) ∙ each-closed second)
parts-closed (Stmt-F.Loop first test last) =
    both (all_true (map (is_closed every) (map (λ e. e.0) first)))
    (all_true (map (is_closed every) (map (λ e. e.0) last)) && true) (each-closed first)
    (only (all_true (map (is_closed every) (map (λ e. e.0) last))) ∙ each-closed last)

statement-closed : (c : Stmt) → is_closed every c ≡ true
statement-closed = ind-Stmt (λ c. is_closed every c ≡ true) (λ x y is.
    let w : Stmt-F Bool = map-Stmt Stmt Bool (is_closed every) x in
    closed-roll every x
    ∙ both (reads_within every w) (list_all all_true (parts w))
    (or-true (is_idle w every) (list_all every (read w)) (all-in (read w)))
    (subst (λ (z : Stmt-F Stmt). list_all all_true (parts (map-Stmt Stmt Bool (is_closed every) z)) ≡ true) is
    (parts-closed y)))

all-closed : (cs : List Stmt) → list_all (is_closed every) cs ≡ true
all-closed [] = refl
all-closed (c ∷ cs) = both (is_closed every c) (list_all (is_closed every) cs) (statement-closed c) (all-closed cs)

pub every_closed : (f : FlatFunc) → is_closed_function (listed []) f ≡ true
every_closed f =
    both (list_all every f.results) (list_all (is_closed every) f.body) (all-in f.results) (all-closed f.body)
