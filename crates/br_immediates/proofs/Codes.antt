-- What stands for each form of statement, and whether the literals in it are words.
use Rattle.std.proofs.Common.{◌≡◌, ℕ, ℤ, Bool, true, false, ◌&&◌, List, [], ◌∷◌, map, Some, None, refl, sym, ap, ◌∙◌}
use Rattle.std.specs.List.{list_all}
use Rattle.br_words.specs.declared.operation.BinOp.{BinOp}
use Rattle.br_words.specs.declared.size.Size.{Size}
use Rattle.br_flatimp.specs.declared.program.Cond.{Cond}
use Rattle.br_flatimp.specs.declared.program.Operand.{Operand}
use Rattle.br_flatimp.specs.declared.program.Stmt.{Stmt, map-Stmt}
use Rattle.br_flatimp.specs.declared.program.Stmt.TheOpen.{Stmt-F}
use Rattle.br_flatimp.specs.declared.program.Stmt.TheViews.{roll-Stmt}
use Rattle.br_flatimp.specs.declared.program.Stmt.TheVariants.{Lit, Copy, Op, Load, Store, Table, Stackalloc}
use Rattle.br_flatimp.specs.declared.program.Stmt.TheVariants.{If, Loop, Call, Read, Write, rolls-Lit}
use Rattle.br_flatimp.specs.declared.program.Stmt.TheVariants.{rolls-Copy, rolls-Op, rolls-Load, rolls-Store}
use Rattle.br_flatimp.specs.declared.program.Stmt.TheVariants.{rolls-Table, rolls-Stackalloc, rolls-If}
use Rattle.br_flatimp.specs.declared.program.Stmt.TheVariants.{rolls-Loop, rolls-Call, rolls-Read, rolls-Write}
use Rattle.br_flatimp.specs.declared.program.Stmt.TheFolds.{fold-roll-Stmt}
use Rattle.br_flatimp.specs.Parts.{parts, throughout}
use Rattle.br_immediates.specs.Immediates.{Literals, no_literals, with_literal, literals_after}
use Rattle.br_immediates.specs.Immediates.{with_constant, turn, Turn, with_constants, literal_fits}
use Rattle.br_immediates.proofs.Turns.{layer, turn-roll, made-roll}

-- from one layer to what stands for it and what is known after it
made-of : (known : Literals) (x : Stmt-F Stmt) (c d : Stmt) → roll-Stmt x ≡ c → roll-Stmt (layer known x) ≡ d
    → (turn c).made known ≡ d
made-of known x c d is to = ap (λ s. (turn s).made known) (sym is) ∙ made-roll known x ∙ to

after-of : (known : Literals) (x : Stmt-F Stmt) (c : Stmt) → roll-Stmt x ≡ c
    → (turn c).after known ≡ literals_after (map-Stmt Stmt Turn turn x) known
after-of known x c is = ap (λ s. (turn s).after known) (sym is) ∙ ap (λ t. t.after known) (turn-roll x)

-- ---- what stands for it

pub made-lit : (known : Literals) (x n : ℕ) → (turn (Lit x n)).made known ≡ Lit x n
made-lit known x n = made-of known (Stmt-F.Lit x n) (Lit x n) (Lit x n) (rolls-Lit x n) (rolls-Lit x n)

pub made-copy : (known : Literals) (x y : ℕ) → (turn (Copy x y)).made known ≡ Copy x y
made-copy known x y = made-of known (Stmt-F.Copy x y) (Copy x y) (Copy x y) (rolls-Copy x y) (rolls-Copy x y)

pub made-op : (known : Literals) (x : ℕ) (o : BinOp) (y : ℕ) (z : Operand)
    → (turn (Op x o y z)).made known ≡ Op x o y (with_constant o known z)
made-op known x o y z =
    made-of known (Stmt-F.Op x o y z) (Op x o y z) (Op x o y (with_constant o known z)) (rolls-Op x o y z)
    (rolls-Op x o y (with_constant o known z))

pub made-load : (known : Literals) (x : ℕ) (size : Size) (y : ℕ) (offset : ℤ)
    → (turn (Load x size y offset)).made known ≡ Load x size y offset
made-load known x size y offset =
    made-of known (Stmt-F.Load x size y offset) (Load x size y offset) (Load x size y offset)
    (rolls-Load x size y offset) (rolls-Load x size y offset)

pub made-store : (known : Literals) (size : Size) (y z : ℕ) (offset : ℤ)
    → (turn (Store size y z offset)).made known ≡ Store size y z offset
made-store known size y z offset =
    made-of known (Stmt-F.Store size y z offset) (Store size y z offset) (Store size y z offset)
    (rolls-Store size y z offset) (rolls-Store size y z offset)

pub made-table : (known : Literals) (x : ℕ) (size : Size) (bytes : List ℕ) (y : ℕ)
    → (turn (Table x size bytes y)).made known ≡ Table x size bytes y
made-table known x size bytes y =
    made-of known (Stmt-F.Table x size bytes y) (Table x size bytes y) (Table x size bytes y)
    (rolls-Table x size bytes y) (rolls-Table x size bytes y)

pub made-stackalloc : (known : Literals) (x n : ℕ) (body : List Stmt)
    → (turn (Stackalloc x n body)).made known ≡ Stackalloc x n (with_constants no_literals body)
made-stackalloc known x n body =
    made-of known (Stmt-F.Stackalloc x n body) (Stackalloc x n body) (Stackalloc x n (with_constants no_literals body))
    (rolls-Stackalloc x n body) (rolls-Stackalloc x n (with_constants no_literals body))

pub made-if : (known : Literals) (test : Cond) (first second : List Stmt)
    → (turn (If test first second)).made known ≡ If test (with_constants no_literals first)
    (with_constants no_literals second)
made-if known test first second =
    made-of known (Stmt-F.If test first second) (If test first second)
    (If test (with_constants no_literals first) (with_constants no_literals second)) (rolls-If test first second)
    (rolls-If test (with_constants no_literals first) (with_constants no_literals second))

pub made-loop : (known : Literals) (first : List Stmt) (test : Cond) (last : List Stmt)
    → (turn (Loop first test last)).made known ≡ Loop (with_constants no_literals first) test
    (with_constants no_literals last)
made-loop known first test last =
    made-of known (Stmt-F.Loop first test last) (Loop first test last)
    (Loop (with_constants no_literals first) test (with_constants no_literals last)) (rolls-Loop first test last)
    (rolls-Loop (with_constants no_literals first) test (with_constants no_literals last))

pub made-call : (known : Literals) (xs : List ℕ) (g : ℕ) (ys : List ℕ) → (turn (Call xs g ys)).made known ≡ Call xs g ys
made-call known xs g ys =
    made-of known (Stmt-F.Call xs g ys) (Call xs g ys) (Call xs g ys) (rolls-Call xs g ys) (rolls-Call xs g ys)

pub made-read : (known : Literals) (x y : ℕ) → (turn (Read x y)).made known ≡ Read x y
made-read known x y = made-of known (Stmt-F.Read x y) (Read x y) (Read x y) (rolls-Read x y) (rolls-Read x y)

pub made-write : (known : Literals) (y z : ℕ) → (turn (Write y z)).made known ≡ Write y z
made-write known y z = made-of known (Stmt-F.Write y z) (Write y z) (Write y z) (rolls-Write y z) (rolls-Write y z)

pub ruleset made = (
  made-lit,
  made-copy,
  made-op,
  made-load,
  made-store,
  made-table,
  made-stackalloc,
  made-if,
  made-loop,
  made-call,
  made-read,
  made-write,
)

-- ---- what is known after it

pub after-lit : (known : Literals) (x n : ℕ) → (turn (Lit x n)).after known ≡ with_literal x (Some n) known
after-lit known x n = after-of known (Stmt-F.Lit x n) (Lit x n) (rolls-Lit x n)

pub after-copy : (known : Literals) (x y : ℕ) → (turn (Copy x y)).after known ≡ with_literal x None known
after-copy known x y = after-of known (Stmt-F.Copy x y) (Copy x y) (rolls-Copy x y)

pub after-op : (known : Literals) (x : ℕ) (o : BinOp) (y : ℕ) (z : Operand)
    → (turn (Op x o y z)).after known ≡ with_literal x None known
after-op known x o y z = after-of known (Stmt-F.Op x o y z) (Op x o y z) (rolls-Op x o y z)

pub after-load : (known : Literals) (x : ℕ) (size : Size) (y : ℕ) (offset : ℤ)
    → (turn (Load x size y offset)).after known ≡ with_literal x None known
after-load known x size y offset =
    after-of known (Stmt-F.Load x size y offset) (Load x size y offset) (rolls-Load x size y offset)

pub after-store : (known : Literals) (size : Size) (y z : ℕ) (offset : ℤ)
    → (turn (Store size y z offset)).after known ≡ known
after-store known size y z offset =
    after-of known (Stmt-F.Store size y z offset) (Store size y z offset) (rolls-Store size y z offset)

pub after-table : (known : Literals) (x : ℕ) (size : Size) (bytes : List ℕ) (y : ℕ)
    → (turn (Table x size bytes y)).after known ≡ with_literal x None known
after-table known x size bytes y =
    after-of known (Stmt-F.Table x size bytes y) (Table x size bytes y) (rolls-Table x size bytes y)

pub after-stackalloc : (known : Literals) (x n : ℕ) (body : List Stmt)
    → (turn (Stackalloc x n body)).after known ≡ no_literals
after-stackalloc known x n body =
    after-of known (Stmt-F.Stackalloc x n body) (Stackalloc x n body) (rolls-Stackalloc x n body)

pub after-if : (known : Literals) (test : Cond) (first second : List Stmt)
    → (turn (If test first second)).after known ≡ no_literals
after-if known test first second =
    after-of known (Stmt-F.If test first second) (If test first second) (rolls-If test first second)

pub after-loop : (known : Literals) (first : List Stmt) (test : Cond) (last : List Stmt)
    → (turn (Loop first test last)).after known ≡ no_literals
after-loop known first test last =
    after-of known (Stmt-F.Loop first test last) (Loop first test last) (rolls-Loop first test last)

pub after-call : (known : Literals) (xs : List ℕ) (g : ℕ) (ys : List ℕ)
    → (turn (Call xs g ys)).after known ≡ no_literals
after-call known xs g ys = after-of known (Stmt-F.Call xs g ys) (Call xs g ys) (rolls-Call xs g ys)

pub after-read : (known : Literals) (x y : ℕ) → (turn (Read x y)).after known ≡ with_literal x None known
after-read known x y = after-of known (Stmt-F.Read x y) (Read x y) (rolls-Read x y)

pub after-write : (known : Literals) (y z : ℕ) → (turn (Write y z)).after known ≡ known
after-write known y z = after-of known (Stmt-F.Write y z) (Write y z) (rolls-Write y z)

pub ruleset after = (
  after-lit,
  after-copy,
  after-op,
  after-load,
  after-store,
  after-table,
  after-stackalloc,
  after-if,
  after-loop,
  after-call,
  after-read,
  after-write,
)

-- ---- literals that are words

abbrev fits_step : Stmt-F Bool → Bool
fits_step y = literal_fits y && list_all (list_all (λ ok. ok)) (parts y)

all-made : (t : Stmt → Bool) (xs : List Stmt) → list_all (λ ok. ok) (map t xs) ≡ list_all t xs
all-made t [] = refl
all-made t (x ∷ xs) = ap (λ b. t x && b) (all-made t xs)

one : (a : Bool) → (true && (a && true)) ≡ a
one true = refl
one false = refl

two : (a b : Bool) → (true && (a && (b && true))) ≡ (a && b)
two true true = refl
two true false = refl
two false b = refl

abbrev fits : Stmt → Bool
fits = throughout literal_fits

pub words-buffer : (x n : ℕ) (body : List Stmt)
    → throughout literal_fits (Stackalloc x n body) ≡ list_all (throughout literal_fits) body
words-buffer x n body =
    ap fits (sym (rolls-Stackalloc x n body)) ∙ fold-roll-Stmt Bool fits_step (Stmt-F.Stackalloc x n body)
    ∙ one (list_all (λ ok. ok) (map fits body)) ∙ all-made fits body

pub words-if : (test : Cond) (first second : List Stmt)
    → throughout literal_fits (If test first second) ≡ (list_all (throughout literal_fits) first && list_all
    (throughout literal_fits) second)
words-if test first second =
    ap fits (sym (rolls-If test first second)) ∙ fold-roll-Stmt Bool fits_step (Stmt-F.If test first second)
    ∙ two (list_all (λ ok. ok) (map fits first)) (list_all (λ ok. ok) (map fits second))
    ∙ ap (λ b. b && list_all (λ ok. ok) (map fits second)) (all-made fits first)
    ∙ ap (λ b. list_all fits first && b) (all-made fits second)

pub words-loop : (first : List Stmt) (test : Cond) (last : List Stmt)
    → throughout literal_fits (Loop first test last) ≡ (list_all (throughout literal_fits) first && list_all
    (throughout literal_fits) last)
words-loop first test last =
    ap fits (sym (rolls-Loop first test last)) ∙ fold-roll-Stmt Bool fits_step (Stmt-F.Loop first test last)
    ∙ two (list_all (λ ok. ok) (map fits first)) (list_all (λ ok. ok) (map fits last))
    ∙ ap (λ b. b && list_all (λ ok. ok) (map fits last)) (all-made fits first)
    ∙ ap (λ b. list_all fits first && b) (all-made fits last)

pub ruleset words = (words-buffer, words-if, words-loop)
