-- What a statement with parts is in register form.
use Rattle.std.proofs.Common.{◌≡◌, ℕ, ◌&&◌, Bool, true, false, nat_le, List, [], map, refl, sym, ap, ◌∙◌}
use Rattle.std.specs.List.{list_all}
use Rattle.br_flatimp.specs.declared.program.Cond.{Cond}
use Rattle.br_flatimp.specs.declared.program.Stmt.{Stmt}
use Rattle.br_flatimp.specs.declared.program.Stmt.TheOpen.{Stmt-F}
use Rattle.br_flatimp.specs.declared.program.Stmt.TheVariants.{Stackalloc, If, Loop, Call, rolls-Stackalloc}
use Rattle.br_flatimp.specs.declared.program.Stmt.TheVariants.{rolls-If, rolls-Loop, rolls-Call}
use Rattle.br_flatimp.specs.declared.program.Stmt.TheFolds.{fold-roll-Stmt}
use Rattle.br_flatimp.specs.Parts.{parts, test_names, throughout}
use Rattle.br_flatimp.specs.WellFormed.{are_registers, is_passing, uses_registers}
use Rattle.br_flatimp.proofs.Decided.{all-made}

abbrev step : Stmt-F Bool → Bool
step y = uses_registers y && list_all (list_all (λ ok. ok)) (parts y)

abbrev each : List Stmt → Bool
each = list_all (throughout uses_registers)

pub registers-stackalloc : (x n : ℕ) (body : List Stmt)
    → throughout uses_registers (Stackalloc x n body) ≡ ((nat_le 3 x && nat_le x 31) && each body)
registers-stackalloc x n body =
    ap (throughout uses_registers) (sym (rolls-Stackalloc x n body))
    ∙ fold-roll-Stmt Bool step (Stmt-F.Stackalloc x n body)
    ∙ ap (λ b. uses_registers {X = Bool} (Stmt-F.Stackalloc x n []) && (b && true))
    (all-made (throughout uses_registers) body)
    ∙ plain (nat_le 3 x && nat_le x 31) (each body)
  where
    plain : (a b : Bool) → ((((a && true) && true) && true) && (b && true)) ≡ (a && b)
    plain true true = refl
    plain true false = refl
    plain false b = refl

two : (a b c : Bool) → (((true && a) && true) && (b && (c && true))) ≡ (a && (b && c))
two true true true = refl
two true true false = refl
two true false c = refl
two false b c = refl

pub registers-if : (test : Cond) (first second : List Stmt) → throughout uses_registers (If test first second)
    ≡ (are_registers (test_names test) && (each first && each second))
registers-if test first second =
    ap (throughout uses_registers) (sym (rolls-If test first second))
    ∙ fold-roll-Stmt Bool step (Stmt-F.If test first second)
    ∙ ap (λ b. own && (b && (list_all (λ ok. ok) (map (throughout uses_registers) second) && true)))
    (all-made (throughout uses_registers) first)
    ∙ ap (λ b. own && (each first && (b && true))) (all-made (throughout uses_registers) second)
    ∙ two (are_registers (test_names test)) (each first) (each second)
  where
    own : Bool
    own = (true && are_registers (test_names test)) && true

pub registers-loop : (first : List Stmt) (test : Cond) (last : List Stmt)
    → throughout uses_registers (Loop first test last) ≡ (are_registers (test_names test) && (each first && each last))
registers-loop first test last =
    ap (throughout uses_registers) (sym (rolls-Loop first test last))
    ∙ fold-roll-Stmt Bool step (Stmt-F.Loop first test last)
    ∙ ap (λ b. own && (b && (list_all (λ ok. ok) (map (throughout uses_registers) last) && true)))
    (all-made (throughout uses_registers) first)
    ∙ ap (λ b. own && (each first && (b && true))) (all-made (throughout uses_registers) last)
    ∙ two (are_registers (test_names test)) (each first) (each last)
  where
    own : Bool
    own = (true && are_registers (test_names test)) && true

pub registers-call : (xs : List ℕ) (g : ℕ) (ys : List ℕ) → throughout uses_registers (Call xs g ys)
    ≡ (are_registers xs && are_registers ys && (is_passing xs && is_passing ys))
registers-call xs g ys =
    ap (throughout uses_registers) (sym (rolls-Call xs g ys))
    ∙ fold-roll-Stmt Bool step (Stmt-F.Call xs g ys)
    ∙ plain (are_registers xs && are_registers ys && (is_passing xs && is_passing ys))
  where
    plain : (a : Bool) → (a && true) ≡ a
    plain true = refl
    plain false = refl

pub ruleset registers_of_parts = (registers-stackalloc, registers-if, registers-loop, registers-call)
