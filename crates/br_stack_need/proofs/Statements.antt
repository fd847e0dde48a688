-- The names, callees and buffers of statements that have parts.
use Rattle.std.proofs.Common.{◌≡◌, ℕ, ◌+◌, max, List, [], ◌∷◌, ◌++◌, map, sym, ap}
use Rattle.std.proofs.Common.{◌∙◌, append-nil, append_assoc, arith, ◌⊎◌, inl, inr}
use Rattle.std.proofs.lemmas.List.Folds.{flat_map-map}
use Rattle.std.specs.List.{flat_map}
use Rattle.br_flatimp.specs.declared.program.Cond.{Cond}
use Rattle.br_flatimp.specs.declared.program.Stmt.{Stmt}
use Rattle.br_flatimp.specs.declared.program.Stmt.TheOpen.{Stmt-F}
use Rattle.br_flatimp.specs.declared.program.Stmt.TheVariants.{Stackalloc, If, Loop, Call, rolls-Stackalloc}
use Rattle.br_flatimp.specs.declared.program.Stmt.TheVariants.{rolls-If, rolls-Loop, rolls-Call}
use Rattle.br_flatimp.specs.declared.program.Stmt.TheFolds.{fold-roll-Stmt}
use Rattle.br_flatimp.specs.Parts.{written, read, parts, gathered, test_names, statement_names, own_callees}
use Rattle.br_flatimp.specs.Sizes.{own_bytes, largest, statement_nest}

-- ---- lists for one part and for two

one_part : (F : Stmt → List ℕ) (body : List Stmt) → flat_map (flat_map (λ xs. xs)) (map F body ∷ []) ≡ flat_map F body
one_part F body = append-nil (flat_map (λ xs. xs) (map F body)) ∙ flat_map-map (λ xs. xs) F body

two_parts : (F : Stmt → List ℕ) (first second : List Stmt)
    → flat_map (flat_map (λ xs. xs)) (map F first ∷ map F second ∷ []) ≡ flat_map F first ++ flat_map F second
two_parts F first second =
    ap (λ ys. flat_map (λ xs. xs) (map F first) ++ ys) (one_part F second)
    ∙ ap (λ ys. ys ++ flat_map F second) (flat_map-map (λ xs. xs) F first)

-- ---- names

abbrev names_step : Stmt-F (List ℕ) → List ℕ
names_step y = (written y ++ read y) ++ flat_map (flat_map (λ xs. xs)) (parts y)

pub names-stackalloc : (x n : ℕ) (body : List Stmt)
    → statement_names (Stackalloc x n body) ≡ x ∷ flat_map statement_names body
names-stackalloc x n body =
    ap statement_names (sym (rolls-Stackalloc x n body))
    ∙ fold-roll-Stmt (List ℕ) names_step (Stmt-F.Stackalloc x n body)
    ∙ ap (λ ys. x ∷ ys) (one_part statement_names body)

pub names-if : (test : Cond) (first second : List Stmt) → statement_names (If test first second)
    ≡ test_names test ++ (flat_map statement_names first ++ flat_map statement_names second)
names-if test first second =
    ap statement_names (sym (rolls-If test first second))
    ∙ fold-roll-Stmt (List ℕ) names_step (Stmt-F.If test first second)
    ∙ ap (λ ys. test_names test ++ ys) (two_parts statement_names first second)

pub names-loop : (first : List Stmt) (test : Cond) (last : List Stmt) → statement_names (Loop first test last)
    ≡ test_names test ++ (flat_map statement_names first ++ flat_map statement_names last)
names-loop first test last =
    ap statement_names (sym (rolls-Loop first test last))
    ∙ fold-roll-Stmt (List ℕ) names_step (Stmt-F.Loop first test last)
    ∙ ap (λ ys. test_names test ++ ys) (two_parts statement_names first last)

pub names-call : (xs : List ℕ) (g : ℕ) (ys : List ℕ) → statement_names (Call xs g ys) ≡ xs ++ ys
names-call xs g ys =
    ap statement_names (sym (rolls-Call xs g ys))
    ∙ fold-roll-Stmt (List ℕ) names_step (Stmt-F.Call xs g ys)
    ∙ append-nil (xs ++ ys)

-- ---- callees

abbrev calls_step : Stmt-F (List ℕ) → List ℕ
calls_step y = own_callees y ++ flat_map (flat_map (λ xs. xs)) (parts y)

abbrev statement_callees : Stmt → List ℕ
statement_callees = gathered own_callees

pub callees-stackalloc : (x n : ℕ) (body : List Stmt)
    → gathered own_callees (Stackalloc x n body) ≡ flat_map (gathered own_callees) body
callees-stackalloc x n body =
    ap statement_callees (sym (rolls-Stackalloc x n body))
    ∙ fold-roll-Stmt (List ℕ) calls_step (Stmt-F.Stackalloc x n body)
    ∙ one_part statement_callees body

pub callees-if : (test : Cond) (first second : List Stmt) → gathered own_callees (If test first second)
    ≡ flat_map (gathered own_callees) first ++ flat_map (gathered own_callees) second
callees-if test first second =
    ap statement_callees (sym (rolls-If test first second))
    ∙ fold-roll-Stmt (List ℕ) calls_step (Stmt-F.If test first second)
    ∙ two_parts statement_callees first second

pub callees-loop : (first : List Stmt) (test : Cond) (last : List Stmt) → gathered own_callees (Loop first test last)
    ≡ flat_map (gathered own_callees) first ++ flat_map (gathered own_callees) last
callees-loop first test last =
    ap statement_callees (sym (rolls-Loop first test last))
    ∙ fold-roll-Stmt (List ℕ) calls_step (Stmt-F.Loop first test last)
    ∙ two_parts statement_callees first last

-- the callees so far, those of a first part and those of a last part
pub two_called : (s : Stmt) (first last xs ys : List Stmt) (before middle after : List ℕ)
    → (((test : Cond) × (s ≡ If test first last)) ⊎ ((test : Cond) × (s ≡ Loop first test last)))
    → xs ≡ first → ys ≡ last
    → middle ≡ before ++ flat_map (gathered own_callees) xs → after ≡ middle ++ flat_map (gathered own_callees) ys
    → after ≡ before ++ gathered own_callees s
two_called s first last xs ys before middle after is first_is last_is one two =
    let A = flat_map statement_callees first in
    let B = flat_map statement_callees last in
    let parts : statement_callees s ≡ A ++ B = made is in
    let front : middle ≡ before ++ A = one ∙ ap (λ q. before ++ flat_map statement_callees q) first_is in
    let back : after ≡ middle ++ B = two ∙ ap (λ q. middle ++ flat_map statement_callees q) last_is in
    back ∙ ap (λ q. q ++ B) front ∙ append_assoc before A B ∙ ap (λ q. before ++ q) (sym parts)
  where
    made : (((test : Cond) × (s ≡ If test first last)) ⊎ ((test : Cond) × (s ≡ Loop first test last)))
        → statement_callees s ≡ flat_map statement_callees first ++ flat_map statement_callees last
    made (inl h) = ap statement_callees h.1 ∙ callees-if h.0 first last
    made (inr h) = ap statement_callees h.1 ∙ callees-loop first h.0 last

-- ---- buffers

abbrev nest_step : Stmt-F ℕ → ℕ
nest_step y = own_bytes y + largest (map largest (parts y))

pub nest-stackalloc : (x n : ℕ) (body : List Stmt)
    → statement_nest (Stackalloc x n body) ≡ n + largest (map statement_nest body)
nest-stackalloc x n body =
    ap statement_nest (sym (rolls-Stackalloc x n body))
    ∙ fold-roll-Stmt ℕ nest_step (Stmt-F.Stackalloc x n body)
    ∙ plain n (largest (map statement_nest body))
  where
    plain : (a b : ℕ) → a + max b 0 ≡ a + b
    plain a b = omega arith

pub nest-if : (test : Cond) (first second : List Stmt) → statement_nest (If test first second)
    ≡ max (largest (map statement_nest first)) (largest (map statement_nest second))
nest-if test first second =
    ap statement_nest (sym (rolls-If test first second))
    ∙ fold-roll-Stmt ℕ nest_step (Stmt-F.If test first second)
    ∙ plain (largest (map statement_nest first)) (largest (map statement_nest second))
  where
    plain : (a b : ℕ) → 0 + max a (max b 0) ≡ max a b
    plain a b = omega arith

pub nest-loop : (first : List Stmt) (test : Cond) (last : List Stmt) → statement_nest (Loop first test last)
    ≡ max (largest (map statement_nest first)) (largest (map statement_nest last))
nest-loop first test last =
    ap statement_nest (sym (rolls-Loop first test last))
    ∙ fold-roll-Stmt ℕ nest_step (Stmt-F.Loop first test last)
    ∙ plain (largest (map statement_nest first)) (largest (map statement_nest last))
  where
    plain : (a b : ℕ) → 0 + max a (max b 0) ≡ max a b
    plain a b = omega arith

pub ruleset nest_of_parts = (nest-stackalloc, nest-if, nest-loop)
