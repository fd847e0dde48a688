-- Tests joined by `&&`, tests of all items of a list, and what makes a statement with parts well formed.
use Rattle.std.proofs.Common.{◌≡◌, ℕ, ◌%◌, ◌==◌, Bool, true, false, ◌&&◌}
use Rattle.std.proofs.Common.{List, [], ◌∷◌, map, refl, sym, ap, ◌∙◌, nat_lt}
use Rattle.std.specs.List.{list_all}
use Rattle.br_flatimp.specs.declared.program.Cond.{Cond}
use Rattle.br_flatimp.specs.declared.program.Stmt.{Stmt}
use Rattle.br_flatimp.specs.declared.program.Stmt.TheOpen.{Stmt-F}
use Rattle.br_flatimp.specs.declared.program.Stmt.TheVariants.{Stackalloc, If, Loop, rolls-Stackalloc}
use Rattle.br_flatimp.specs.declared.program.Stmt.TheVariants.{rolls-If, rolls-Loop}
use Rattle.br_flatimp.specs.declared.program.Stmt.TheFolds.{fold-roll-Stmt}
use Rattle.br_flatimp.specs.declared.program.FlatFunc.{FlatFunc}
use Rattle.br_flatimp.specs.Parts.{parts, test_names}
use Rattle.br_flatimp.specs.WellFormed.{are_below, fits, is_well_formed_statement}

pub and_true : (b : Bool) → (b && true) ≡ b
and_true true = refl
and_true false = refl

pub and_assoc : (a b c : Bool) → ((a && b) && c) ≡ (a && (b && c))
and_assoc true b c = refl
and_assoc false b c = refl

swap : (a b c d : Bool) → ((a && b) && (c && d)) ≡ ((a && c) && (b && d))
swap true true c d = refl
swap true false true d = refl
swap true false false d = refl
swap false b c d = refl

-- each item passes two tests where each passes the one and each the other
pub all-both : {X : Type 0} (p q : X → Bool) (xs : List X)
    → list_all (λ x. p x && q x) xs ≡ (list_all p xs && list_all q xs)
all-both p q [] = refl
all-both p q (x ∷ xs) = ap (λ b. (p x && q x) && b) (all-both p q xs) ∙ swap (p x) (q x) (list_all p xs) (list_all q xs)

-- the tests of items, made first
pub all-made : {X : Type 0} (p : X → Bool) (xs : List X) → list_all (λ ok. ok) (map p xs) ≡ list_all p xs
all-made p [] = refl
all-made p (x ∷ xs) = ap (λ b. p x && b) (all-made p xs)

-- a statement's own test, and those of its parts
abbrev step : List FlatFunc → ℕ → Stmt-F Bool → Bool
step fs names y = fits fs names y && list_all (list_all (λ ok. ok)) (parts y)

abbrev each : List FlatFunc → ℕ → List Stmt → Bool
each fs names = list_all (is_well_formed_statement fs names)

pub statement-stackalloc : (fs : List FlatFunc) (names x n : ℕ) (body : List Stmt)
    → is_well_formed_statement fs names (Stackalloc x n body) ≡ ((nat_lt x names && (n % 4 == 0)) && each fs names body)
statement-stackalloc fs names x n body =
    ap (is_well_formed_statement fs names) (sym (rolls-Stackalloc x n body))
    ∙ fold-roll-Stmt Bool (step fs names) (Stmt-F.Stackalloc x n body)
    ∙ ap (λ b. fits {X = Bool} fs names (Stmt-F.Stackalloc x n []) && (b && true))
    (all-made (is_well_formed_statement fs names) body)
    ∙ plain (nat_lt x names) (n % 4 == 0) (each fs names body)
  where
    plain : (a b c : Bool) → ((((a && true) && true) && b) && (c && true)) ≡ ((a && b) && c)
    plain true true true = refl
    plain true true false = refl
    plain true false c = refl
    plain false b c = refl

pub statement-if : (fs : List FlatFunc) (names : ℕ) (test : Cond) (first second : List Stmt)
    → is_well_formed_statement fs names (If test first second)
    ≡ (are_below names (test_names test) && (each fs names first && each fs names second))
statement-if fs names test first second =
    ap (is_well_formed_statement fs names) (sym (rolls-If test first second))
    ∙ fold-roll-Stmt Bool (step fs names) (Stmt-F.If test first second)
    ∙ ap (λ b. own && (b && (list_all (λ ok. ok) (map (is_well_formed_statement fs names) second) && true)))
    (all-made (is_well_formed_statement fs names) first)
    ∙ ap (λ b. own && (each fs names first && (b && true))) (all-made (is_well_formed_statement fs names) second)
    ∙ two (are_below names (test_names test)) (each fs names first) (each fs names second)
  where
    own : Bool
    own = true && (are_below names (test_names test) && true)

    two : (a b c : Bool) → ((true && (a && true)) && (b && (c && true))) ≡ (a && (b && c))
    two true true true = refl
    two true true false = refl
    two true false c = refl
    two false b c = refl

pub statement-loop : (fs : List FlatFunc) (names : ℕ) (test : Cond) (first last : List Stmt)
    → is_well_formed_statement fs names (Loop first test last)
    ≡ (are_below names (test_names test) && (each fs names first && each fs names last))
statement-loop fs names test first last =
    ap (is_well_formed_statement fs names) (sym (rolls-Loop first test last))
    ∙ fold-roll-Stmt Bool (step fs names) (Stmt-F.Loop first test last)
    ∙ ap (λ b. own && (b && (list_all (λ ok. ok) (map (is_well_formed_statement fs names) last) && true)))
    (all-made (is_well_formed_statement fs names) first)
    ∙ ap (λ b. own && (each fs names first && (b && true))) (all-made (is_well_formed_statement fs names) last)
    ∙ two (are_below names (test_names test)) (each fs names first) (each fs names last)
  where
    own : Bool
    own = true && (are_below names (test_names test) && true)

    two : (a b c : Bool) → ((true && (a && true)) && (b && (c && true))) ≡ (a && (b && c))
    two true true true = refl
    two true true false = refl
    two true false c = refl
    two false b c = refl

pub ruleset ands = (and_true, and_assoc)

pub ruleset whole = (statement-stackalloc, statement-if, statement-loop)
