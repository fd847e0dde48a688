-- Tests of statements with parts.
use Rattle.std.proofs.Common.{◌≡◌, ℕ, Bool, true, false, ◌&&◌, List, [], ◌∷◌, map, refl, sym, ap, ◌∙◌}
use Rattle.std.specs.List.{list_all}
use Rattle.br_flatimp.specs.declared.program.Cond.{Cond}
use Rattle.br_flatimp.specs.declared.program.Stmt.{Stmt}
use Rattle.br_flatimp.specs.declared.program.Stmt.TheOpen.{Stmt-F}
use Rattle.br_flatimp.specs.declared.program.Stmt.TheVariants.{Stackalloc, If, Loop, rolls-Stackalloc}
use Rattle.br_flatimp.specs.declared.program.Stmt.TheVariants.{rolls-If, rolls-Loop}
use Rattle.br_flatimp.specs.declared.program.Stmt.TheFolds.{fold-roll-Stmt}
use Rattle.br_flatimp.specs.Parts.{parts, throughout}
use Rattle.br_spill.specs.Spill.{words_fit}

abbrev step : (Stmt-F Bool → Bool) → Stmt-F Bool → Bool
step t y = t y && list_all (list_all (λ ok. ok)) (parts y)

all-made : (t : Stmt → Bool) (xs : List Stmt) → list_all (λ ok. ok) (map t xs) ≡ list_all t xs
all-made t [] = refl
all-made t (x ∷ xs) = ap (λ b. t x && b) (all-made t xs)

one : (a : Bool) → (true && (a && true)) ≡ a
one true = refl
one false = refl

two : (a b : Bool) → (true && (a && (b && true))) ≡ (a && b)
two true true = refl
two true false = refl
two false b = refl

buffer-part : (t : Stmt-F Bool → Bool) (x n : ℕ) (body : List Stmt)
    → t (Stmt-F.Stackalloc x n (map (throughout t) body)) ≡ true
    → throughout t (Stackalloc x n body) ≡ list_all (throughout t) body
buffer-part t x n body own =
    ap (throughout t) (sym (rolls-Stackalloc x n body)) ∙ fold-roll-Stmt Bool (step t) (Stmt-F.Stackalloc x n body)
    ∙ ap (λ b. b && (list_all (λ ok. ok) (map (throughout t) body) && true)) own
    ∙ one (list_all (λ ok. ok) (map (throughout t) body)) ∙ all-made (throughout t) body

if-parts : (t : Stmt-F Bool → Bool) (test : Cond) (first second : List Stmt)
    → t (Stmt-F.If test (map (throughout t) first) (map (throughout t) second)) ≡ true
    → throughout t (If test first second) ≡ (list_all (throughout t) first && list_all (throughout t) second)
if-parts t test first second own =
    ap (throughout t) (sym (rolls-If test first second)) ∙ fold-roll-Stmt Bool (step t) (Stmt-F.If test first second)
    ∙ ap (λ b. b && (list_all (λ ok. ok) (map (throughout t) first)
    && (list_all (λ ok. ok) (map (throughout t) second) && true))) own
    ∙ two (list_all (λ ok. ok) (map (throughout t) first)) (list_all (λ ok. ok) (map (throughout t) second))
    ∙ ap (λ b. b && list_all (λ ok. ok) (map (throughout t) second)) (all-made (throughout t) first)
    ∙ ap (λ b. list_all (throughout t) first && b) (all-made (throughout t) second)

loop-parts : (t : Stmt-F Bool → Bool) (first : List Stmt) (test : Cond) (last : List Stmt)
    → t (Stmt-F.Loop (map (throughout t) first) test (map (throughout t) last)) ≡ true
    → throughout t (Loop first test last) ≡ (list_all (throughout t) first && list_all (throughout t) last)
loop-parts t first test last own =
    ap (throughout t) (sym (rolls-Loop first test last)) ∙ fold-roll-Stmt Bool (step t) (Stmt-F.Loop first test last)
    ∙ ap (λ b. b && (list_all (λ ok. ok) (map (throughout t) first)
    && (list_all (λ ok. ok) (map (throughout t) last) && true))) own
    ∙ two (list_all (λ ok. ok) (map (throughout t) first)) (list_all (λ ok. ok) (map (throughout t) last))
    ∙ ap (λ b. b && list_all (λ ok. ok) (map (throughout t) last)) (all-made (throughout t) first)
    ∙ ap (λ b. list_all (throughout t) first && b) (all-made (throughout t) last)

pub words-buffer : (x n : ℕ) (body : List Stmt)
    → throughout words_fit (Stackalloc x n body) ≡ list_all (throughout words_fit) body
words-buffer x n body = buffer-part words_fit x n body refl

pub words-if : (test : Cond) (first second : List Stmt) → throughout words_fit (If test first second)
    ≡ (list_all (throughout words_fit) first && list_all (throughout words_fit) second)
words-if test first second = if-parts words_fit test first second refl

pub words-loop : (first : List Stmt) (test : Cond) (last : List Stmt) → throughout words_fit (Loop first test last)
    ≡ (list_all (throughout words_fit) first && list_all (throughout words_fit) last)
words-loop first test last = loop-parts words_fit first test last refl

pub ruleset words = (words-buffer, words-if, words-loop)
