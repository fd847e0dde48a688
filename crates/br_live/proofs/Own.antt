-- What statements write and read themselves, and what is live before them.
use Rattle.std.proofs.Common.{◌≡◌, ℕ, zero, suc, ◌<◌, ℤ, Bool, true, false, ◌||◌, IsTrue, nat_lt, List, []}
use Rattle.std.proofs.Common.{◌∷◌, ◌++◌, length, get_or, map, sym, ap, subst, ◌∙◌, refl, append-nil, arith}
use Rattle.std.proofs.Math.Path.{fun_ext}
use Rattle.std.proofs.lemmas.Bool.{and_parts}
use Rattle.std.proofs.lemmas.List.Folds.{flat_map-map}
use Rattle.std.specs.List.{flat_map}
use Rattle.br_live.proofs.Names.{union-none, without-none}
use Rattle.br_words.specs.declared.operation.BinOp.{BinOp}
use Rattle.br_words.specs.declared.size.Size.{Size}
use Rattle.br_flatimp.specs.declared.program.Cond.{Cond}
use Rattle.br_flatimp.specs.declared.program.Operand.{Operand}
use Rattle.br_flatimp.specs.declared.program.Stmt.{Stmt}
use Rattle.br_flatimp.specs.declared.program.Stmt.TheOpen.{Stmt-F}
use Rattle.br_flatimp.specs.declared.program.Stmt.TheVariants.{Lit, Copy, Op, Load, Store, Table, Stackalloc}
use Rattle.br_flatimp.specs.declared.program.Stmt.TheVariants.{If, Loop, Call, Read, Write, rolls-Lit}
use Rattle.br_flatimp.specs.declared.program.Stmt.TheVariants.{rolls-Copy, rolls-Op, rolls-Load, rolls-Store}
use Rattle.br_flatimp.specs.declared.program.Stmt.TheVariants.{rolls-Table, rolls-Stackalloc, rolls-If}
use Rattle.br_flatimp.specs.declared.program.Stmt.TheVariants.{rolls-Loop, rolls-Call, rolls-Read, rolls-Write}
use Rattle.br_flatimp.specs.declared.program.Stmt.TheFolds.{fold-roll-Stmt}
use Rattle.br_flatimp.specs.Values.{Names}
use Rattle.br_flatimp.specs.Parts.{written, read, parts, test_names, operand_names, statement_names}
use Rattle.br_flatimp.specs.WellFormed.{are_below}
use Rattle.br_flatimp.specs.Liveness.{nothing, is_in, union, without, Live}
use Rattle.br_flatimp.specs.Liveness.{live_step, live, before, before_all, at_test}
use Rattle.br_flatimp.specs.Parts.{own_read, own_written}

pub written-lit : (x n : ℕ) → own_written (Lit x n) ≡ x ∷ []
written-lit x n = ap own_written (sym (rolls-Lit x n)) ∙ fold-roll-Stmt (List ℕ) written (Stmt-F.Lit x n)

pub read-lit : (x n : ℕ) → own_read (Lit x n) ≡ []
read-lit x n = ap own_read (sym (rolls-Lit x n)) ∙ fold-roll-Stmt (List ℕ) read (Stmt-F.Lit x n)

pub written-copy : (x y : ℕ) → own_written (Copy x y) ≡ x ∷ []
written-copy x y = ap own_written (sym (rolls-Copy x y)) ∙ fold-roll-Stmt (List ℕ) written (Stmt-F.Copy x y)

pub read-copy : (x y : ℕ) → own_read (Copy x y) ≡ y ∷ []
read-copy x y = ap own_read (sym (rolls-Copy x y)) ∙ fold-roll-Stmt (List ℕ) read (Stmt-F.Copy x y)

pub written-op : (x : ℕ) (op : BinOp) (y : ℕ) (z : Operand) → own_written (Op x op y z) ≡ x ∷ []
written-op x op y z = ap own_written (sym (rolls-Op x op y z)) ∙ fold-roll-Stmt (List ℕ) written (Stmt-F.Op x op y z)

pub read-op : (x : ℕ) (op : BinOp) (y : ℕ) (z : Operand) → own_read (Op x op y z) ≡ y ∷ operand_names z
read-op x op y z = ap own_read (sym (rolls-Op x op y z)) ∙ fold-roll-Stmt (List ℕ) read (Stmt-F.Op x op y z)

pub written-load : (x : ℕ) (size : Size) (y : ℕ) (offset : ℤ) → own_written (Load x size y offset) ≡ x ∷ []
written-load x size y offset =
    ap own_written (sym (rolls-Load x size y offset)) ∙ fold-roll-Stmt (List ℕ) written (Stmt-F.Load x size y offset)

pub read-load : (x : ℕ) (size : Size) (y : ℕ) (offset : ℤ) → own_read (Load x size y offset) ≡ y ∷ []
read-load x size y offset =
    ap own_read (sym (rolls-Load x size y offset)) ∙ fold-roll-Stmt (List ℕ) read (Stmt-F.Load x size y offset)

pub written-store : (size : Size) (y z : ℕ) (offset : ℤ) → own_written (Store size y z offset) ≡ []
written-store size y z offset =
    ap own_written (sym (rolls-Store size y z offset)) ∙ fold-roll-Stmt (List ℕ) written (Stmt-F.Store size y z offset)

pub read-store : (size : Size) (y z : ℕ) (offset : ℤ) → own_read (Store size y z offset) ≡ y ∷ z ∷ []
read-store size y z offset =
    ap own_read (sym (rolls-Store size y z offset)) ∙ fold-roll-Stmt (List ℕ) read (Stmt-F.Store size y z offset)

pub written-table : (x : ℕ) (size : Size) (bytes : List ℕ) (y : ℕ) → own_written (Table x size bytes y) ≡ x ∷ []
written-table x size bytes y =
    ap own_written (sym (rolls-Table x size bytes y)) ∙ fold-roll-Stmt (List ℕ) written (Stmt-F.Table x size bytes y)

pub read-table : (x : ℕ) (size : Size) (bytes : List ℕ) (y : ℕ) → own_read (Table x size bytes y) ≡ y ∷ []
read-table x size bytes y =
    ap own_read (sym (rolls-Table x size bytes y)) ∙ fold-roll-Stmt (List ℕ) read (Stmt-F.Table x size bytes y)

pub written-stackalloc : (x n : ℕ) (body : List Stmt) → own_written (Stackalloc x n body) ≡ x ∷ []
written-stackalloc x n body =
    ap own_written (sym (rolls-Stackalloc x n body)) ∙ fold-roll-Stmt (List ℕ) written (Stmt-F.Stackalloc x n body)

pub read-stackalloc : (x n : ℕ) (body : List Stmt) → own_read (Stackalloc x n body) ≡ []
read-stackalloc x n body =
    ap own_read (sym (rolls-Stackalloc x n body)) ∙ fold-roll-Stmt (List ℕ) read (Stmt-F.Stackalloc x n body)

pub written-if : (test : Cond) (first second : List Stmt) → own_written (If test first second) ≡ []
written-if test first second =
    ap own_written (sym (rolls-If test first second)) ∙ fold-roll-Stmt (List ℕ) written (Stmt-F.If test first second)

pub read-if : (test : Cond) (first second : List Stmt) → own_read (If test first second) ≡ test_names test
read-if test first second =
    ap own_read (sym (rolls-If test first second)) ∙ fold-roll-Stmt (List ℕ) read (Stmt-F.If test first second)

pub written-loop : (first : List Stmt) (test : Cond) (last : List Stmt) → own_written (Loop first test last) ≡ []
written-loop first test last =
    ap own_written (sym (rolls-Loop first test last)) ∙ fold-roll-Stmt (List ℕ) written (Stmt-F.Loop first test last)

pub read-loop : (first : List Stmt) (test : Cond) (last : List Stmt) → own_read (Loop first test last) ≡ test_names test
read-loop first test last =
    ap own_read (sym (rolls-Loop first test last)) ∙ fold-roll-Stmt (List ℕ) read (Stmt-F.Loop first test last)

pub written-call : (xs : List ℕ) (g : ℕ) (ys : List ℕ) → own_written (Call xs g ys) ≡ xs
written-call xs g ys = ap own_written (sym (rolls-Call xs g ys)) ∙ fold-roll-Stmt (List ℕ) written (Stmt-F.Call xs g ys)

pub read-call : (xs : List ℕ) (g : ℕ) (ys : List ℕ) → own_read (Call xs g ys) ≡ ys
read-call xs g ys = ap own_read (sym (rolls-Call xs g ys)) ∙ fold-roll-Stmt (List ℕ) read (Stmt-F.Call xs g ys)

pub written-read : (x y : ℕ) → own_written (Read x y) ≡ x ∷ []
written-read x y = ap own_written (sym (rolls-Read x y)) ∙ fold-roll-Stmt (List ℕ) written (Stmt-F.Read x y)

pub read-read : (x y : ℕ) → own_read (Read x y) ≡ y ∷ []
read-read x y = ap own_read (sym (rolls-Read x y)) ∙ fold-roll-Stmt (List ℕ) read (Stmt-F.Read x y)

pub written-write : (y z : ℕ) → own_written (Write y z) ≡ []
written-write y z = ap own_written (sym (rolls-Write y z)) ∙ fold-roll-Stmt (List ℕ) written (Stmt-F.Write y z)

pub read-write : (y z : ℕ) → own_read (Write y z) ≡ y ∷ z ∷ []
read-write y z = ap own_read (sym (rolls-Write y z)) ∙ fold-roll-Stmt (List ℕ) read (Stmt-F.Write y z)

pub ruleset own_lists = (
  written-lit,
  read-lit,
  written-copy,
  read-copy,
  written-op,
  read-op,
  written-load,
  read-load,
  written-store,
  read-store,
  written-table,
  read-table,
  written-stackalloc,
  read-stackalloc,
  written-if,
  read-if,
  written-loop,
  read-loop,
  written-call,
  read-call,
  written-read,
  read-read,
  written-write,
  read-write,
)

-- ---- what is live before a statement

pub live-lit : (x n : ℕ) (after : Names) → before (Lit x n) after ≡ union (without after (x ∷ [])) (is_in ([]))
live-lit x n after =
    ap (λ (l : Live). l.before after) (ap live (sym (rolls-Lit x n)) ∙ fold-roll-Stmt Live live_step (Stmt-F.Lit x n))

pub live-copy : (x y : ℕ) (after : Names) → before (Copy x y) after ≡ union (without after (x ∷ [])) (is_in (y ∷ []))
live-copy x y after =
    ap (λ (l : Live). l.before after) (ap live (sym (rolls-Copy x y)) ∙ fold-roll-Stmt Live live_step (Stmt-F.Copy x y))

pub live-op : (x : ℕ) (op : BinOp) (y : ℕ) (z : Operand) (after : Names)
    → before (Op x op y z) after ≡ union (without after (x ∷ [])) (is_in (y ∷ operand_names z))
live-op x op y z after = ap (λ (l : Live). l.before after)
    (ap live (sym (rolls-Op x op y z)) ∙ fold-roll-Stmt Live live_step (Stmt-F.Op x op y z))

pub live-load : (x : ℕ) (size : Size) (y : ℕ) (offset : ℤ) (after : Names)
    → before (Load x size y offset) after ≡ union (without after (x ∷ [])) (is_in (y ∷ []))
live-load x size y offset after = ap (λ (l : Live). l.before after)
    (ap live (sym (rolls-Load x size y offset)) ∙ fold-roll-Stmt Live live_step (Stmt-F.Load x size y offset))

pub live-store : (size : Size) (y z : ℕ) (offset : ℤ) (after : Names)
    → before (Store size y z offset) after ≡ union (without after ([])) (is_in (y ∷ z ∷ []))
live-store size y z offset after = ap (λ (l : Live). l.before after)
    (ap live (sym (rolls-Store size y z offset)) ∙ fold-roll-Stmt Live live_step (Stmt-F.Store size y z offset))

pub live-table : (x : ℕ) (size : Size) (bytes : List ℕ) (y : ℕ) (after : Names)
    → before (Table x size bytes y) after ≡ union (without after (x ∷ [])) (is_in (y ∷ []))
live-table x size bytes y after = ap (λ (l : Live). l.before after)
    (ap live (sym (rolls-Table x size bytes y)) ∙ fold-roll-Stmt Live live_step (Stmt-F.Table x size bytes y))

pub live-stackalloc : (x n : ℕ) (body : List Stmt) (after : Names)
    → before (Stackalloc x n body) after ≡ without (before_all body after) (x ∷ [])
live-stackalloc x n body after = ap (λ (l : Live). l.before after)
    (ap live (sym (rolls-Stackalloc x n body)) ∙ fold-roll-Stmt Live live_step (Stmt-F.Stackalloc x n body))

pub live-if : (test : Cond) (first second : List Stmt) (after : Names) → before (If test first second) after
    ≡ union (is_in (test_names test)) (union (before_all first after) (before_all second after))
live-if test first second after = ap (λ (l : Live). l.before after)
    (ap live (sym (rolls-If test first second)) ∙ fold-roll-Stmt Live live_step (Stmt-F.If test first second))

pub live-loop : (first : List Stmt) (test : Cond) (last : List Stmt) (after : Names)
    → before (Loop first test last) after ≡ before_all first (at_test (map live first) test (map live last) after)
live-loop first test last after = ap (λ (l : Live). l.before after)
    (ap live (sym (rolls-Loop first test last)) ∙ fold-roll-Stmt Live live_step (Stmt-F.Loop first test last))

pub live-call : (xs : List ℕ) (g : ℕ) (ys : List ℕ) (after : Names)
    → before (Call xs g ys) after ≡ union (without after (xs)) (is_in (ys))
live-call xs g ys after = ap (λ (l : Live). l.before after)
    (ap live (sym (rolls-Call xs g ys)) ∙ fold-roll-Stmt Live live_step (Stmt-F.Call xs g ys))

pub live-read : (x y : ℕ) (after : Names) → before (Read x y) after ≡ union (without after (x ∷ [])) (is_in (y ∷ []))
live-read x y after =
    ap (λ (l : Live). l.before after) (ap live (sym (rolls-Read x y)) ∙ fold-roll-Stmt Live live_step (Stmt-F.Read x y))

pub live-write : (y z : ℕ) (after : Names) → before (Write y z) after ≡ union (without after ([])) (is_in (y ∷ z ∷ []))
live-write y z after = ap (λ (l : Live). l.before after)
    (ap live (sym (rolls-Write y z)) ∙ fold-roll-Stmt Live live_step (Stmt-F.Write y z))

-- ---- a statement with no parts

pub plain-lit : (x n : ℕ) (after : Names)
    → union (without after (own_written (Lit x n))) (is_in (own_read (Lit x n))) ≡ before (Lit x n) after
plain-lit x n after =
    ap (λ (zs : List ℕ). union (without after zs) (is_in (own_read (Lit x n)))) (written-lit x n)
    ∙ ap (λ (ys : List ℕ). union (without after (x ∷ [])) (is_in ys)) (read-lit x n)
    ∙ sym (live-lit x n after)

pub plain-copy : (x y : ℕ) (after : Names)
    → union (without after (own_written (Copy x y))) (is_in (own_read (Copy x y))) ≡ before (Copy x y) after
plain-copy x y after =
    ap (λ (zs : List ℕ). union (without after zs) (is_in (own_read (Copy x y)))) (written-copy x y)
    ∙ ap (λ (ys : List ℕ). union (without after (x ∷ [])) (is_in ys)) (read-copy x y)
    ∙ sym (live-copy x y after)

pub plain-op : (x : ℕ) (op : BinOp) (y : ℕ) (z : Operand) (after : Names)
    → union (without after (own_written (Op x op y z))) (is_in (own_read (Op x op y z))) ≡ before (Op x op y z) after
plain-op x op y z after =
    ap (λ (zs : List ℕ). union (without after zs) (is_in (own_read (Op x op y z)))) (written-op x op y z)
    ∙ ap (λ (ys : List ℕ). union (without after (x ∷ [])) (is_in ys)) (read-op x op y z)
    ∙ sym (live-op x op y z after)

pub plain-load : (x : ℕ) (size : Size) (y : ℕ) (offset : ℤ) (after : Names)
    → union (without after (own_written (Load x size y offset))) (is_in (own_read (Load x size y offset)))
    ≡ before (Load x size y offset) after
plain-load x size y offset after =
    ap (λ (zs : List ℕ). union (without after zs) (is_in (own_read (Load x size y offset))))
    (written-load x size y offset)
    ∙ ap (λ (ys : List ℕ). union (without after (x ∷ [])) (is_in ys)) (read-load x size y offset)
    ∙ sym (live-load x size y offset after)

pub plain-store : (size : Size) (y z : ℕ) (offset : ℤ) (after : Names)
    → union (without after (own_written (Store size y z offset))) (is_in (own_read (Store size y z offset)))
    ≡ before (Store size y z offset) after
plain-store size y z offset after =
    ap (λ (zs : List ℕ). union (without after zs) (is_in (own_read (Store size y z offset))))
    (written-store size y z offset)
    ∙ ap (λ (ys : List ℕ). union (without after ([])) (is_in ys)) (read-store size y z offset)
    ∙ sym (live-store size y z offset after)

pub plain-table : (x : ℕ) (size : Size) (bytes : List ℕ) (y : ℕ) (after : Names)
    → union (without after (own_written (Table x size bytes y))) (is_in (own_read (Table x size bytes y)))
    ≡ before (Table x size bytes y) after
plain-table x size bytes y after =
    ap (λ (zs : List ℕ). union (without after zs) (is_in (own_read (Table x size bytes y))))
    (written-table x size bytes y)
    ∙ ap (λ (ys : List ℕ). union (without after (x ∷ [])) (is_in ys)) (read-table x size bytes y)
    ∙ sym (live-table x size bytes y after)

pub plain-call : (xs : List ℕ) (g : ℕ) (ys : List ℕ) (after : Names)
    → union (without after (own_written (Call xs g ys))) (is_in (own_read (Call xs g ys))) ≡ before (Call xs g ys) after
plain-call xs g ys after =
    ap (λ (zs : List ℕ). union (without after zs) (is_in (own_read (Call xs g ys)))) (written-call xs g ys)
    ∙ ap (λ (ys : List ℕ). union (without after xs) (is_in ys)) (read-call xs g ys)
    ∙ sym (live-call xs g ys after)

pub plain-read : (x y : ℕ) (after : Names)
    → union (without after (own_written (Read x y))) (is_in (own_read (Read x y))) ≡ before (Read x y) after
plain-read x y after =
    ap (λ (zs : List ℕ). union (without after zs) (is_in (own_read (Read x y)))) (written-read x y)
    ∙ ap (λ (ys : List ℕ). union (without after (x ∷ [])) (is_in ys)) (read-read x y)
    ∙ sym (live-read x y after)

pub plain-write : (y z : ℕ) (after : Names)
    → union (without after (own_written (Write y z))) (is_in (own_read (Write y z))) ≡ before (Write y z) after
plain-write y z after =
    ap (λ (zs : List ℕ). union (without after zs) (is_in (own_read (Write y z)))) (written-write y z)
    ∙ ap (λ (ys : List ℕ). union (without after ([])) (is_in ys)) (read-write y z)
    ∙ sym (live-write y z after)

-- ---- the names of parts are below what the names of a statement are below

pub below-append : (n : ℕ) (xs ys : List ℕ) → IsTrue (are_below n (xs ++ ys))
    → IsTrue (are_below n xs) × IsTrue (are_below n ys)
below-append n [] ys h = (refl, h)
below-append n (x ∷ xs) ys h =
    let both = and_parts (nat_lt x n) (are_below n (xs ++ ys)) h in
    let rest = below-append n xs ys both.1 in
    (rw both.0 rest.0, rest.1)

one_part : (F : Stmt → List ℕ) (body : List Stmt) → flat_map (flat_map (λ xs. xs)) (map F body ∷ []) ≡ flat_map F body
one_part F body = append-nil (flat_map (λ xs. xs) (map F body)) ∙ flat_map-map (λ xs. xs) F body

two_parts : (F : Stmt → List ℕ) (first second : List Stmt)
    → flat_map (flat_map (λ xs. xs)) (map F first ∷ map F second ∷ []) ≡ flat_map F first ++ flat_map F second
two_parts F first second =
    ap (λ ys. flat_map (λ xs. xs) (map F first) ++ ys) (one_part F second)
    ∙ ap (λ ys. ys ++ flat_map F second) (flat_map-map (λ xs. xs) F first)

abbrev names_step : Stmt-F (List ℕ) → List ℕ
names_step y = (written y ++ read y) ++ flat_map (flat_map (λ xs. xs)) (parts y)

pub below-stackalloc : (b : ℕ) (x n : ℕ) (body : List Stmt)
    → IsTrue (are_below b (statement_names (Stackalloc x n body)))
    → IsTrue (are_below b (flat_map statement_names body))
below-stackalloc b x n body h =
    let split : statement_names (Stackalloc x n body) ≡ (x ∷ []) ++ flat_map statement_names body =
    ap statement_names (sym (rolls-Stackalloc x n body))
    ∙ fold-roll-Stmt (List ℕ) names_step (Stmt-F.Stackalloc x n body)
    ∙ ap (λ ys. x ∷ ys) (one_part statement_names body) in
    (below-append b (x ∷ []) (flat_map statement_names body) (subst (λ ys. IsTrue (are_below b ys)) split h)).1

pub below-if : (b : ℕ) (test : Cond) (first second : List Stmt)
    → IsTrue (are_below b (statement_names (If test first second)))
    → IsTrue (are_below b (flat_map statement_names first)) × IsTrue (are_below b (flat_map statement_names second))
below-if b test first second h =
    let split : statement_names (If test first second)
    ≡ test_names test ++ (flat_map statement_names first ++ flat_map statement_names second) =
    ap statement_names (sym (rolls-If test first second))
    ∙ fold-roll-Stmt (List ℕ) names_step (Stmt-F.If test first second)
    ∙ ap (λ ys. test_names test ++ ys) (two_parts statement_names first second) in
    below-append b (flat_map statement_names first) (flat_map statement_names second)
    (below-append b (test_names test) (flat_map statement_names first ++ flat_map statement_names second)
    (subst (λ ys. IsTrue (are_below b ys)) split h)).1

pub below-loop : (b : ℕ) (first : List Stmt) (test : Cond) (last : List Stmt)
    → IsTrue (are_below b (statement_names (Loop first test last)))
    → IsTrue (are_below b (flat_map statement_names first)) × IsTrue (are_below b (flat_map statement_names last))
below-loop b first test last h =
    let split : statement_names (Loop first test last)
    ≡ test_names test ++ (flat_map statement_names first ++ flat_map statement_names last) =
    ap statement_names (sym (rolls-Loop first test last))
    ∙ fold-roll-Stmt (List ℕ) names_step (Stmt-F.Loop first test last)
    ∙ ap (λ ys. test_names test ++ ys) (two_parts statement_names first last) in
    below-append b (flat_map statement_names first) (flat_map statement_names last)
    (below-append b (test_names test) (flat_map statement_names first ++ flat_map statement_names last)
    (subst (λ ys. IsTrue (are_below b ys)) split h)).1

pub below-item : (b : ℕ) (body : List Stmt) (k : ℕ) (s : Stmt) → k < length body → s ≡ get_or body k s
    → IsTrue (are_below b (flat_map statement_names body)) → IsTrue (are_below b (statement_names s))
below-item b [] k s inside is h = absurd (omega arith)
below-item b (c ∷ body) zero s inside is h = subst (λ d. IsTrue (are_below b (statement_names d))) (sym is)
    (below-append b (statement_names c) (flat_map statement_names body) h).0
below-item b (c ∷ body) (suc k) s inside is h =
    below-item b body k s (omega arith) is (below-append b (statement_names c) (flat_map statement_names body) h).1

-- ---- statements with parts

pub parts-stackalloc : (x n : ℕ) (body : List Stmt) (after : Names) → union (without (before_all body after)
    (own_written (Stackalloc x n body))) (is_in (own_read (Stackalloc x n body))) ≡ before (Stackalloc x n body) after
parts-stackalloc x n body after =
    ap (λ (zs : List ℕ). union (without (before_all body after) zs) (is_in (own_read (Stackalloc x n body))))
    (written-stackalloc x n body)
    ∙ ap (λ (zs : List ℕ). union (without (before_all body after) (x ∷ [])) (is_in zs)) (read-stackalloc x n body)
    ∙ union-none (without (before_all body after) (x ∷ []))
    ∙ sym (live-stackalloc x n body after)

test_first : (a : Names) (xs : List ℕ) → union (without a []) (is_in xs) ≡ union (is_in xs) a
test_first a xs =
    ap (λ (s : Names). union s (is_in xs)) (without-none a) ∙ fun_ext (λ y. either_order (a y) (is_in xs y))
  where
    either_order : (p q : Bool) → (p || q) ≡ (q || p)
    either_order true true = refl
    either_order true false = refl
    either_order false true = refl
    either_order false false = refl

pub parts-if : (test : Cond) (first second : List Stmt) (after : Names)
    → union (without (union (before_all first after) (before_all second after)) (own_written (If test first second)))
    (is_in (own_read (If test first second))) ≡ before (If test first second) after
parts-if test first second after =
    let a : Names = union (before_all first after) (before_all second after) in
    ap (λ (zs : List ℕ). union (without a zs) (is_in (own_read (If test first second)))) (written-if test first second)
    ∙ ap (λ (zs : List ℕ). union (without a []) (is_in zs)) (read-if test first second)
    ∙ test_first a (test_names test)
    ∙ sym (live-if test first second after)

-- what is live at a loop's test, as it is made up
pub parts-loop : (first : List Stmt) (test : Cond) (last : List Stmt) (after : Names)
    → union (without (union after (before_all last (before_all first nothing))) (own_written (Loop first test last)))
    (is_in (own_read (Loop first test last))) ≡ at_test (map live first) test (map live last) after
parts-loop first test last after =
    let a : Names = union after (before_all last (before_all first nothing)) in
    ap (λ (zs : List ℕ). union (without a zs) (is_in (own_read (Loop first test last)))) (written-loop first test last)
    ∙ ap (λ (zs : List ℕ). union (without a []) (is_in zs)) (read-loop first test last)
    ∙ test_first a (test_names test)

-- what is live before a loop, as it is made up
pub loop_before : (first : List Stmt) (test : Cond) (last : List Stmt) (after : Names) → before_all first
    (union (without (union after (before_all last (before_all first nothing))) (own_written (Loop first test last)))
    (is_in (own_read (Loop first test last)))) ≡ before (Loop first test last) after
loop_before first test last after =
    ap (before_all first) (parts-loop first test last after) ∙ sym (live-loop first test last after)
