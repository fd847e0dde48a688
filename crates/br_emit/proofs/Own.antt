-- What statements write and read themselves, and what is live before them.
use Rattle.std.proofs.Common.{◌≡◌, ℕ, ℤ, ◌⊎◌, inl, inr, List, [], ◌∷◌, ◌++◌, map, sym, ap, subst, ◌∙◌}
use Rattle.br_words.specs.declared.operation.BinOp.{BinOp}
use Rattle.br_words.specs.declared.size.Size.{Size}
use Rattle.br_flatimp.specs.declared.program.Cond.{Cond}
use Rattle.br_flatimp.specs.declared.program.Operand.{Operand}
use Rattle.br_flatimp.specs.declared.program.Stmt.{Stmt}
use Rattle.br_flatimp.specs.declared.program.Stmt.TheOpen.{Stmt-F}
use Rattle.br_flatimp.specs.declared.program.Stmt.TheVariants.{Lit, Copy, Op, Load, Store, Table, Stackalloc}
use Rattle.br_flatimp.specs.declared.program.Stmt.TheVariants.{If, Loop, Call, Read, Write, rolls-Lit}
use Rattle.br_flatimp.specs.declared.program.Stmt.TheVariants.{rolls-Copy, rolls-Op, rolls-Load, rolls-Store}
use Rattle.br_flatimp.specs.declared.program.Stmt.TheVariants.{rolls-Table, rolls-Stackalloc, rolls-If}
use Rattle.br_flatimp.specs.declared.program.Stmt.TheVariants.{rolls-Loop, rolls-Call, rolls-Read, rolls-Write}
use Rattle.br_flatimp.specs.declared.program.Stmt.TheFolds.{fold-roll-Stmt}
use Rattle.br_flatimp.specs.Values.{Names}
use Rattle.br_flatimp.specs.Parts.{written, read, test_names, operand_names}
use Rattle.br_flatimp.specs.Liveness.{is_in, union, without, Live, live_step, live}
use Rattle.br_flatimp.specs.Liveness.{before, before_all, moments, moment, at_test}
use Rattle.br_emit.specs.Registers.{own_read, own_written}

pub written-lit : (x n : ℕ) → own_written (Lit x n) ≡ x ∷ []
written-lit x n = ap own_written (sym (rolls-Lit x n)) ∙ fold-roll-Stmt (List ℕ) written (Stmt-F.Lit x n)

pub read-lit : (x n : ℕ) → own_read (Lit x n) ≡ []
read-lit x n = ap own_read (sym (rolls-Lit x n)) ∙ fold-roll-Stmt (List ℕ) read (Stmt-F.Lit x n)

pub written-copy : (x y : ℕ) → own_written (Copy x y) ≡ x ∷ []
written-copy x y = ap own_written (sym (rolls-Copy x y)) ∙ fold-roll-Stmt (List ℕ) written (Stmt-F.Copy x y)

pub read-copy : (x y : ℕ) → own_read (Copy x y) ≡ y ∷ []
read-copy x y = ap own_read (sym (rolls-Copy x y)) ∙ fold-roll-Stmt (List ℕ) read (Stmt-F.Copy x y)

pub written-op : (x : ℕ) (op : BinOp) (y : ℕ) (z : Operand) → own_written (Op x op y z) ≡ x ∷ []
written-op x op y z = ap own_written (sym (rolls-Op x op y z)) ∙ fold-roll-Stmt (List ℕ) written (Stmt-F.Op x op y z)

pub read-op : (x : ℕ) (op : BinOp) (y : ℕ) (z : Operand) → own_read (Op x op y z) ≡ y ∷ operand_names z
read-op x op y z = ap own_read (sym (rolls-Op x op y z)) ∙ fold-roll-Stmt (List ℕ) read (Stmt-F.Op x op y z)

pub written-load : (x : ℕ) (size : Size) (y : ℕ) (offset : ℤ) → own_written (Load x size y offset) ≡ x ∷ []
written-load x size y offset =
    ap own_written (sym (rolls-Load x size y offset)) ∙ fold-roll-Stmt (List ℕ) written (Stmt-F.Load x size y offset)

pub read-load : (x : ℕ) (size : Size) (y : ℕ) (offset : ℤ) → own_read (Load x size y offset) ≡ y ∷ []
read-load x size y offset =
    ap own_read (sym (rolls-Load x size y offset)) ∙ fold-roll-Stmt (List ℕ) read (Stmt-F.Load x size y offset)

pub written-store : (size : Size) (y z : ℕ) (offset : ℤ) → own_written (Store size y z offset) ≡ []
written-store size y z offset =
    ap own_written (sym (rolls-Store size y z offset)) ∙ fold-roll-Stmt (List ℕ) written (Stmt-F.Store size y z offset)

pub read-store : (size : Size) (y z : ℕ) (offset : ℤ) → own_read (Store size y z offset) ≡ y ∷ z ∷ []
read-store size y z offset =
    ap own_read (sym (rolls-Store size y z offset)) ∙ fold-roll-Stmt (List ℕ) read (Stmt-F.Store size y z offset)

pub written-table : (x : ℕ) (size : Size) (bytes : List ℕ) (y : ℕ) → own_written (Table x size bytes y) ≡ x ∷ []
written-table x size bytes y =
    ap own_written (sym (rolls-Table x size bytes y)) ∙ fold-roll-Stmt (List ℕ) written (Stmt-F.Table x size bytes y)

pub read-table : (x : ℕ) (size : Size) (bytes : List ℕ) (y : ℕ) → own_read (Table x size bytes y) ≡ y ∷ []
read-table x size bytes y =
    ap own_read (sym (rolls-Table x size bytes y)) ∙ fold-roll-Stmt (List ℕ) read (Stmt-F.Table x size bytes y)

pub written-stackalloc : (x n : ℕ) (body : List Stmt) → own_written (Stackalloc x n body) ≡ x ∷ []
written-stackalloc x n body =
    ap own_written (sym (rolls-Stackalloc x n body)) ∙ fold-roll-Stmt (List ℕ) written (Stmt-F.Stackalloc x n body)

pub read-stackalloc : (x n : ℕ) (body : List Stmt) → own_read (Stackalloc x n body) ≡ []
read-stackalloc x n body =
    ap own_read (sym (rolls-Stackalloc x n body)) ∙ fold-roll-Stmt (List ℕ) read (Stmt-F.Stackalloc x n body)

pub written-if : (test : Cond) (first second : List Stmt) → own_written (If test first second) ≡ []
written-if test first second =
    ap own_written (sym (rolls-If test first second)) ∙ fold-roll-Stmt (List ℕ) written (Stmt-F.If test first second)

pub read-if : (test : Cond) (first second : List Stmt) → own_read (If test first second) ≡ test_names test
read-if test first second =
    ap own_read (sym (rolls-If test first second)) ∙ fold-roll-Stmt (List ℕ) read (Stmt-F.If test first second)

pub written-loop : (first : List Stmt) (test : Cond) (last : List Stmt) → own_written (Loop first test last) ≡ []
written-loop first test last =
    ap own_written (sym (rolls-Loop first test last)) ∙ fold-roll-Stmt (List ℕ) written (Stmt-F.Loop first test last)

pub read-loop : (first : List Stmt) (test : Cond) (last : List Stmt) → own_read (Loop first test last) ≡ test_names test
read-loop first test last =
    ap own_read (sym (rolls-Loop first test last)) ∙ fold-roll-Stmt (List ℕ) read (Stmt-F.Loop first test last)

pub written-call : (xs : List ℕ) (g : ℕ) (ys : List ℕ) → own_written (Call xs g ys) ≡ xs
written-call xs g ys = ap own_written (sym (rolls-Call xs g ys)) ∙ fold-roll-Stmt (List ℕ) written (Stmt-F.Call xs g ys)

pub read-call : (xs : List ℕ) (g : ℕ) (ys : List ℕ) → own_read (Call xs g ys) ≡ ys
read-call xs g ys = ap own_read (sym (rolls-Call xs g ys)) ∙ fold-roll-Stmt (List ℕ) read (Stmt-F.Call xs g ys)

pub written-read : (x y : ℕ) → own_written (Read x y) ≡ x ∷ []
written-read x y = ap own_written (sym (rolls-Read x y)) ∙ fold-roll-Stmt (List ℕ) written (Stmt-F.Read x y)

pub read-read : (x y : ℕ) → own_read (Read x y) ≡ y ∷ []
read-read x y = ap own_read (sym (rolls-Read x y)) ∙ fold-roll-Stmt (List ℕ) read (Stmt-F.Read x y)

pub written-write : (y z : ℕ) → own_written (Write y z) ≡ []
written-write y z = ap own_written (sym (rolls-Write y z)) ∙ fold-roll-Stmt (List ℕ) written (Stmt-F.Write y z)

pub read-write : (y z : ℕ) → own_read (Write y z) ≡ y ∷ z ∷ []
read-write y z = ap own_read (sym (rolls-Write y z)) ∙ fold-roll-Stmt (List ℕ) read (Stmt-F.Write y z)

pub ruleset own_lists = (
  written-lit,
  read-lit,
  written-copy,
  read-copy,
  written-op,
  read-op,
  written-load,
  read-load,
  written-store,
  read-store,
  written-table,
  read-table,
  written-stackalloc,
  read-stackalloc,
  written-if,
  read-if,
  written-loop,
  read-loop,
  written-call,
  read-call,
  written-read,
  read-read,
  written-write,
  read-write,
)

-- ---- what is live before a statement

pub live-lit : (x n : ℕ) (after : Names) → before (Lit x n) after ≡ union (without after (x ∷ [])) (is_in ([]))
live-lit x n after =
    ap (λ (l : Live). l.before after) (ap live (sym (rolls-Lit x n)) ∙ fold-roll-Stmt Live live_step (Stmt-F.Lit x n))

pub live-copy : (x y : ℕ) (after : Names) → before (Copy x y) after ≡ union (without after (x ∷ [])) (is_in (y ∷ []))
live-copy x y after =
    ap (λ (l : Live). l.before after) (ap live (sym (rolls-Copy x y)) ∙ fold-roll-Stmt Live live_step (Stmt-F.Copy x y))

pub live-op : (x : ℕ) (op : BinOp) (y : ℕ) (z : Operand) (after : Names)
    → before (Op x op y z) after ≡ union (without after (x ∷ [])) (is_in (y ∷ operand_names z))
live-op x op y z after = ap (λ (l : Live). l.before after)
    (ap live (sym (rolls-Op x op y z)) ∙ fold-roll-Stmt Live live_step (Stmt-F.Op x op y z))

pub live-load : (x : ℕ) (size : Size) (y : ℕ) (offset : ℤ) (after : Names)
    → before (Load x size y offset) after ≡ union (without after (x ∷ [])) (is_in (y ∷ []))
live-load x size y offset after = ap (λ (l : Live). l.before after)
    (ap live (sym (rolls-Load x size y offset)) ∙ fold-roll-Stmt Live live_step (Stmt-F.Load x size y offset))

pub live-store : (size : Size) (y z : ℕ) (offset : ℤ) (after : Names)
    → before (Store size y z offset) after ≡ union (without after ([])) (is_in (y ∷ z ∷ []))
live-store size y z offset after = ap (λ (l : Live). l.before after)
    (ap live (sym (rolls-Store size y z offset)) ∙ fold-roll-Stmt Live live_step (Stmt-F.Store size y z offset))

pub live-table : (x : ℕ) (size : Size) (bytes : List ℕ) (y : ℕ) (after : Names)
    → before (Table x size bytes y) after ≡ union (without after (x ∷ [])) (is_in (y ∷ []))
live-table x size bytes y after = ap (λ (l : Live). l.before after)
    (ap live (sym (rolls-Table x size bytes y)) ∙ fold-roll-Stmt Live live_step (Stmt-F.Table x size bytes y))

pub live-stackalloc : (x n : ℕ) (body : List Stmt) (after : Names)
    → before (Stackalloc x n body) after ≡ without (before_all body after) (x ∷ [])
live-stackalloc x n body after = ap (λ (l : Live). l.before after)
    (ap live (sym (rolls-Stackalloc x n body)) ∙ fold-roll-Stmt Live live_step (Stmt-F.Stackalloc x n body))

pub live-if : (test : Cond) (first second : List Stmt) (after : Names) → before (If test first second) after
    ≡ union (is_in (test_names test)) (union (before_all first after) (before_all second after))
live-if test first second after = ap (λ (l : Live). l.before after)
    (ap live (sym (rolls-If test first second)) ∙ fold-roll-Stmt Live live_step (Stmt-F.If test first second))

pub live-loop : (first : List Stmt) (test : Cond) (last : List Stmt) (after : Names)
    → before (Loop first test last) after ≡ before_all first (at_test (map live first) test (map live last) after)
live-loop first test last after = ap (λ (l : Live). l.before after)
    (ap live (sym (rolls-Loop first test last)) ∙ fold-roll-Stmt Live live_step (Stmt-F.Loop first test last))

pub live-call : (xs : List ℕ) (g : ℕ) (ys : List ℕ) (after : Names)
    → before (Call xs g ys) after ≡ union (without after (xs)) (is_in (ys))
live-call xs g ys after = ap (λ (l : Live). l.before after)
    (ap live (sym (rolls-Call xs g ys)) ∙ fold-roll-Stmt Live live_step (Stmt-F.Call xs g ys))

pub live-read : (x y : ℕ) (after : Names) → before (Read x y) after ≡ union (without after (x ∷ [])) (is_in (y ∷ []))
live-read x y after =
    ap (λ (l : Live). l.before after) (ap live (sym (rolls-Read x y)) ∙ fold-roll-Stmt Live live_step (Stmt-F.Read x y))

pub live-write : (y z : ℕ) (after : Names) → before (Write y z) after ≡ union (without after ([])) (is_in (y ∷ z ∷ []))
live-write y z after = ap (λ (l : Live). l.before after)
    (ap live (sym (rolls-Write y z)) ∙ fold-roll-Stmt Live live_step (Stmt-F.Write y z))

-- ---- a statement with no parts

pub plain-lit : (x n : ℕ) (after : Names)
    → union (without after (own_written (Lit x n))) (is_in (own_read (Lit x n))) ≡ before (Lit x n) after
plain-lit x n after =
    ap (λ (zs : List ℕ). union (without after zs) (is_in (own_read (Lit x n)))) (written-lit x n)
    ∙ ap (λ (ys : List ℕ). union (without after (x ∷ [])) (is_in ys)) (read-lit x n)
    ∙ sym (live-lit x n after)

pub plain-copy : (x y : ℕ) (after : Names)
    → union (without after (own_written (Copy x y))) (is_in (own_read (Copy x y))) ≡ before (Copy x y) after
plain-copy x y after =
    ap (λ (zs : List ℕ). union (without after zs) (is_in (own_read (Copy x y)))) (written-copy x y)
    ∙ ap (λ (ys : List ℕ). union (without after (x ∷ [])) (is_in ys)) (read-copy x y)
    ∙ sym (live-copy x y after)

pub plain-op : (x : ℕ) (op : BinOp) (y : ℕ) (z : Operand) (after : Names)
    → union (without after (own_written (Op x op y z))) (is_in (own_read (Op x op y z))) ≡ before (Op x op y z) after
plain-op x op y z after =
    ap (λ (zs : List ℕ). union (without after zs) (is_in (own_read (Op x op y z)))) (written-op x op y z)
    ∙ ap (λ (ys : List ℕ). union (without after (x ∷ [])) (is_in ys)) (read-op x op y z)
    ∙ sym (live-op x op y z after)

pub plain-load : (x : ℕ) (size : Size) (y : ℕ) (offset : ℤ) (after : Names)
    → union (without after (own_written (Load x size y offset))) (is_in (own_read (Load x size y offset)))
    ≡ before (Load x size y offset) after
plain-load x size y offset after =
    ap (λ (zs : List ℕ). union (without after zs) (is_in (own_read (Load x size y offset))))
    (written-load x size y offset)
    ∙ ap (λ (ys : List ℕ). union (without after (x ∷ [])) (is_in ys)) (read-load x size y offset)
    ∙ sym (live-load x size y offset after)

pub plain-store : (size : Size) (y z : ℕ) (offset : ℤ) (after : Names)
    → union (without after (own_written (Store size y z offset))) (is_in (own_read (Store size y z offset)))
    ≡ before (Store size y z offset) after
plain-store size y z offset after =
    ap (λ (zs : List ℕ). union (without after zs) (is_in (own_read (Store size y z offset))))
    (written-store size y z offset)
    ∙ ap (λ (ys : List ℕ). union (without after ([])) (is_in ys)) (read-store size y z offset)
    ∙ sym (live-store size y z offset after)

pub plain-table : (x : ℕ) (size : Size) (bytes : List ℕ) (y : ℕ) (after : Names)
    → union (without after (own_written (Table x size bytes y))) (is_in (own_read (Table x size bytes y)))
    ≡ before (Table x size bytes y) after
plain-table x size bytes y after =
    ap (λ (zs : List ℕ). union (without after zs) (is_in (own_read (Table x size bytes y))))
    (written-table x size bytes y)
    ∙ ap (λ (ys : List ℕ). union (without after (x ∷ [])) (is_in ys)) (read-table x size bytes y)
    ∙ sym (live-table x size bytes y after)

pub plain-call : (xs : List ℕ) (g : ℕ) (ys : List ℕ) (after : Names)
    → union (without after (own_written (Call xs g ys))) (is_in (own_read (Call xs g ys))) ≡ before (Call xs g ys) after
plain-call xs g ys after =
    ap (λ (zs : List ℕ). union (without after zs) (is_in (own_read (Call xs g ys)))) (written-call xs g ys)
    ∙ ap (λ (ys : List ℕ). union (without after xs) (is_in ys)) (read-call xs g ys)
    ∙ sym (live-call xs g ys after)

pub plain-read : (x y : ℕ) (after : Names)
    → union (without after (own_written (Read x y))) (is_in (own_read (Read x y))) ≡ before (Read x y) after
plain-read x y after =
    ap (λ (zs : List ℕ). union (without after zs) (is_in (own_read (Read x y)))) (written-read x y)
    ∙ ap (λ (ys : List ℕ). union (without after (x ∷ [])) (is_in ys)) (read-read x y)
    ∙ sym (live-read x y after)

pub plain-write : (y z : ℕ) (after : Names)
    → union (without after (own_written (Write y z))) (is_in (own_read (Write y z))) ≡ before (Write y z) after
plain-write y z after =
    ap (λ (zs : List ℕ). union (without after zs) (is_in (own_read (Write y z)))) (written-write y z)
    ∙ ap (λ (ys : List ℕ). union (without after ([])) (is_in ys)) (read-write y z)
    ∙ sym (live-write y z after)

abbrev pub IsPlain : Stmt → Type 0
IsPlain s =
    ((a : ℕ) × (b : ℕ) × (s ≡ Lit a b))
    ⊎ (((a : ℕ) × (b : ℕ) × (s ≡ Copy a b))
    ⊎ (((a : ℕ) × (b : BinOp) × (c : ℕ) × (d : Operand) × (s ≡ Op a b c d))
    ⊎ (((a : ℕ) × (b : Size) × (c : ℕ) × (d : ℤ) × (s ≡ Load a b c d))
    ⊎ (((a : Size) × (b : ℕ) × (c : ℕ) × (d : ℤ) × (s ≡ Store a b c d))
    ⊎ (((a : ℕ) × (b : Size) × (c : List ℕ) × (d : ℕ) × (s ≡ Table a b c d))
    ⊎ (((a : List ℕ) × (b : ℕ) × (c : List ℕ) × (s ≡ Call a b c))
    ⊎ (((a : ℕ) × (b : ℕ) × (s ≡ Read a b))
    ⊎ (((a : ℕ) × (b : ℕ) × (s ≡ Write a b))))))))))

-- what is live before a statement with no parts
abbrev pub Hands : Stmt → Type 0
Hands s = (after : Names) → union (without after (own_written s)) (is_in (own_read s)) ≡ before s after

pub plain : (s : Stmt) → IsPlain s → Hands s
plain s (inl e) = subst Hands (sym e.2) (plain-lit e.0 e.1)
plain s (inr (inl e)) = subst Hands (sym e.2) (plain-copy e.0 e.1)
plain s (inr (inr (inl e))) = subst Hands (sym e.4) (plain-op e.0 e.1 e.2 e.3)
plain s (inr (inr (inr (inl e)))) = subst Hands (sym e.4) (plain-load e.0 e.1 e.2 e.3)
plain s (inr (inr (inr (inr (inl e))))) = subst Hands (sym e.4) (plain-store e.0 e.1 e.2 e.3)
plain s (inr (inr (inr (inr (inr (inl e)))))) = subst Hands (sym e.4) (plain-table e.0 e.1 e.2 e.3)
plain s (inr (inr (inr (inr (inr (inr (inl e))))))) = subst Hands (sym e.3) (plain-call e.0 e.1 e.2)
plain s (inr (inr (inr (inr (inr (inr (inr (inl e)))))))) = subst Hands (sym e.2) (plain-read e.0 e.1)
plain s (inr (inr (inr (inr (inr (inr (inr (inr e)))))))) = subst Hands (sym e.2) (plain-write e.0 e.1)

-- ---- the moments of statements

pub moments-stackalloc : (x n : ℕ) (body : List Stmt) (after : Names) → (live (Stackalloc x n body)).moments after
    ≡ moment (Stmt-F.Stackalloc x n (map live body)) after ∷ moments (map live body) after
moments-stackalloc x n body after = ap (λ (l : Live). l.moments after)
    (ap live (sym (rolls-Stackalloc x n body)) ∙ fold-roll-Stmt Live live_step (Stmt-F.Stackalloc x n body))

pub moments-if : (test : Cond) (first second : List Stmt) (after : Names) → (live (If test first second)).moments after
    ≡ moment (Stmt-F.If test (map live first) (map live second)) after
    ∷ (moments (map live first) after ++ moments (map live second) after)
moments-if test first second after = ap (λ (l : Live). l.moments after)
    (ap live (sym (rolls-If test first second)) ∙ fold-roll-Stmt Live live_step (Stmt-F.If test first second))

pub moments-loop : (first : List Stmt) (test : Cond) (last : List Stmt) (after : Names)
    → (live (Loop first test last)).moments after
    ≡ moment (Stmt-F.Loop (map live first) test (map live last)) after
    ∷ (moments (map live first) (at_test (map live first) test (map live last) after)
    ++ moments (map live last) (before_all first (at_test (map live first) test (map live last) after)))
moments-loop first test last after = ap (λ (l : Live). l.moments after)
    (ap live (sym (rolls-Loop first test last)) ∙ fold-roll-Stmt Live live_step (Stmt-F.Loop first test last))

pub moments-call : (xs : List ℕ) (g : ℕ) (ys : List ℕ) (after : Names)
    → (live (Call xs g ys)).moments after ≡ moment (Stmt-F.Call xs g ys) after ∷ []
moments-call xs g ys after = ap (λ (l : Live). l.moments after)
    (ap live (sym (rolls-Call xs g ys)) ∙ fold-roll-Stmt Live live_step (Stmt-F.Call xs g ys))
