-- The statements in register form of statements without parts.
use Rattle.std.proofs.Common.{◌≡◌, ℕ, ℤ, List, [], ◌∷◌, ◌++◌, map, length, sym, ap, ◌∙◌, append_assoc}
use Rattle.br_words.specs.declared.operation.BinOp.{BinOp}
use Rattle.br_words.specs.declared.size.Size.{Size}
use Rattle.br_flatimp.specs.declared.program.Cond.{Cond}
use Rattle.br_flatimp.specs.declared.program.Operand.{Operand}
use Rattle.br_flatimp.specs.declared.program.Stmt.{Stmt}
use Rattle.br_flatimp.specs.declared.program.Stmt.TheOpen.{Stmt-F}
use Rattle.br_flatimp.specs.declared.program.Stmt.TheVariants.{Lit, Op, Load, Store, Table, If, Call, Read, Write}
use Rattle.br_flatimp.specs.declared.program.Stmt.TheVariants.{rolls-If, rolls-Lit, rolls-Op, rolls-Load, rolls-Store}
use Rattle.br_flatimp.specs.declared.program.Stmt.TheVariants.{rolls-Table, rolls-Call, rolls-Read, rolls-Write}
use Rattle.br_flatimp.specs.declared.program.Stmt.TheFolds.{fold-roll-Stmt}
use Rattle.br_spill.specs.Spill.{Layout, bring, at, keep, bring_operand, operand_at, bring_test}
use Rattle.br_spill.specs.Spill.{test_at, joined, passes, takes, in_order, spilled_step, spilled}

pub code-lit : (l : Layout) (x n : ℕ) → spilled l (Lit x n) ≡ Lit (at (l.place x) 4) n ∷ keep (l.place x)
code-lit l x n =
    ap (spilled l) (sym (rolls-Lit x n)) ∙ fold-roll-Stmt (List Stmt) (spilled_step l) (Stmt-F.Lit x n)
    ∙ ap (λ y. y ∷ keep (l.place x)) (rolls-Lit (at (l.place x) 4) n)

pub code-op : (l : Layout) (x : ℕ) (o : BinOp) (y : ℕ) (z : Operand) → spilled l (Op x o y z) ≡ bring (l.place y) 4
    ++ (bring_operand l z ++ Op (at (l.place x) 4) o (at (l.place y) 4) (operand_at l z) ∷ keep (l.place x))
code-op l x o y z =
    ap (spilled l) (sym (rolls-Op x o y z)) ∙ fold-roll-Stmt (List Stmt) (spilled_step l) (Stmt-F.Op x o y z)
    ∙ ap (λ s. bring (l.place y) 4 ++ (bring_operand l z ++ s ∷ keep (l.place x)))
    (rolls-Op (at (l.place x) 4) o (at (l.place y) 4) (operand_at l z))

pub code-load : (l : Layout) (x : ℕ) (size : Size) (y : ℕ) (offset : ℤ) → spilled l (Load x size y offset)
    ≡ bring (l.place y) 4 ++ Load (at (l.place x) 4) size (at (l.place y) 4) offset ∷ keep (l.place x)
code-load l x size y offset =
    ap (spilled l) (sym (rolls-Load x size y offset))
    ∙ fold-roll-Stmt (List Stmt) (spilled_step l) (Stmt-F.Load x size y offset)
    ∙ ap (λ s. bring (l.place y) 4 ++ s ∷ keep (l.place x))
    (rolls-Load (at (l.place x) 4) size (at (l.place y) 4) offset)

pub code-store : (l : Layout) (size : Size) (y z : ℕ) (offset : ℤ) → spilled l (Store size y z offset)
    ≡ bring (l.place y) 4 ++ (bring (l.place z) 5 ++ Store size (at (l.place y) 4) (at (l.place z) 5) offset ∷ [])
code-store l size y z offset =
    ap (spilled l) (sym (rolls-Store size y z offset))
    ∙ fold-roll-Stmt (List Stmt) (spilled_step l) (Stmt-F.Store size y z offset)
    ∙ ap (λ s. bring (l.place y) 4 ++ (bring (l.place z) 5 ++ s ∷ []))
    (rolls-Store size (at (l.place y) 4) (at (l.place z) 5) offset)

pub code-table : (l : Layout) (x : ℕ) (size : Size) (bytes : List ℕ) (y : ℕ) → spilled l (Table x size bytes y)
    ≡ bring (l.place y) 4 ++ Table (at (l.place x) 4) size bytes (at (l.place y) 4) ∷ keep (l.place x)
code-table l x size bytes y =
    ap (spilled l) (sym (rolls-Table x size bytes y))
    ∙ fold-roll-Stmt (List Stmt) (spilled_step l) (Stmt-F.Table x size bytes y)
    ∙ ap (λ s. bring (l.place y) 4 ++ s ∷ keep (l.place x))
    (rolls-Table (at (l.place x) 4) size bytes (at (l.place y) 4))

pub code-call : (l : Layout) (xs : List ℕ) (g : ℕ) (ys : List ℕ) → spilled l (Call xs g ys) ≡ passes (map l.place ys) 10
    ++ Call (in_order 10 (length xs)) g (in_order 10 (length ys)) ∷ takes (map l.place xs) 10
code-call l xs g ys =
    ap (spilled l) (sym (rolls-Call xs g ys)) ∙ fold-roll-Stmt (List Stmt) (spilled_step l) (Stmt-F.Call xs g ys)
    ∙ ap (λ s. passes (map l.place ys) 10 ++ s ∷ takes (map l.place xs) 10)
    (rolls-Call (in_order 10 (length xs)) g (in_order 10 (length ys)))

pub code-read : (l : Layout) (x y : ℕ)
    → spilled l (Read x y) ≡ bring (l.place y) 4 ++ Read (at (l.place x) 4) (at (l.place y) 4) ∷ keep (l.place x)
code-read l x y =
    ap (spilled l) (sym (rolls-Read x y)) ∙ fold-roll-Stmt (List Stmt) (spilled_step l) (Stmt-F.Read x y)
    ∙ ap (λ s. bring (l.place y) 4 ++ s ∷ keep (l.place x)) (rolls-Read (at (l.place x) 4) (at (l.place y) 4))

pub code-write : (l : Layout) (y z : ℕ) → spilled l (Write y z)
    ≡ bring (l.place y) 4 ++ (bring (l.place z) 5 ++ Write (at (l.place y) 4) (at (l.place z) 5) ∷ [])
code-write l y z =
    ap (spilled l) (sym (rolls-Write y z)) ∙ fold-roll-Stmt (List Stmt) (spilled_step l) (Stmt-F.Write y z)
    ∙ ap (λ s. bring (l.place y) 4 ++ (bring (l.place z) 5 ++ s ∷ []))
    (rolls-Write (at (l.place y) 4) (at (l.place z) 5))

pub ruleset codes = (code-lit, code-op, code-load, code-store, code-table, code-call, code-read, code-write)

code-if : (l : Layout) (test : Cond) (first second : List Stmt) → spilled l (If test first second)
    ≡ bring_test l test ++ If (test_at l test) (joined (map (spilled l) first)) (joined (map (spilled l) second)) ∷ []
code-if l test first second =
    ap (spilled l) (sym (rolls-If test first second))
    ∙ fold-roll-Stmt (List Stmt) (spilled_step l) (Stmt-F.If test first second)
    ∙ ap (λ s. bring_test l test ++ s ∷ [])
    (rolls-If (test_at l test) (joined (map (spilled l) first)) (joined (map (spilled l) second)))

-- a part that is made from nothing
pub from_none : (l : Layout) (none made bs body : List Stmt) → none ≡ [] → bs ≡ body
    → made ≡ none ++ joined (map (spilled l) bs) → made ≡ joined (map (spilled l) body)
from_none l none made bs body empty same is =
    is ∙ ap (λ xs. xs ++ joined (map (spilled l) bs)) empty ∙ ap (λ xs. joined (map (spilled l) xs)) same

pub if-made : (l : Layout) (s : Stmt) (test at_test : Cond) (first second out brought new one two : List Stmt)
    → s ≡ If test first second → brought ≡ out ++ bring_test l test → at_test ≡ test_at l test
    → one ≡ joined (map (spilled l) first) → two ≡ joined (map (spilled l) second)
    → new ≡ brought ++ If at_test one two ∷ [] → new ≡ out ++ spilled l s
if-made l s test at_test first second out brought new one two is a b c d e =
    e ∙ ap (λ xs. xs ++ If at_test one two ∷ []) a ∙ append_assoc out (bring_test l test) (If at_test one two ∷ [])
    ∙ ap (λ t. out ++ (bring_test l test ++ If t one two ∷ [])) b
    ∙ ap (λ xs. out ++ (bring_test l test ++ If (test_at l test) xs two ∷ [])) c
    ∙ ap (λ xs. out ++ (bring_test l test ++ If (test_at l test) (joined (map (spilled l) first)) xs ∷ [])) d
    ∙ ap (λ xs. out ++ xs) (sym (code-if l test first second)) ∙ ap (λ z. out ++ spilled l z) (sym is)
