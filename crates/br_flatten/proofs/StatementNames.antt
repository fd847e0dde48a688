-- The least number above the names in a statement with parts or lists of names.
use Rattle.std.proofs.Common.{◌≡◌, ℕ, suc, max, List, ◌++◌, map, sym, ap, ◌∙◌}
use Rattle.std.specs.List.{flat_map}
use Rattle.std.proofs.lemmas.List.{append-nil}
use Rattle.br_flatimp.specs.declared.program.Cond.{Cond}
use Rattle.br_flatimp.specs.declared.program.Stmt.{Stmt}
use Rattle.br_flatimp.specs.declared.program.Stmt.TheOpen.{Stmt-F}
use Rattle.br_flatimp.specs.declared.program.Stmt.TheFolds.{fold-roll-Stmt}
use Rattle.br_flatimp.specs.declared.program.Stmt.TheVariants.{Stackalloc, If, Loop, Call, rolls-Stackalloc}
use Rattle.br_flatimp.specs.declared.program.Stmt.TheVariants.{rolls-If, rolls-Loop, rolls-Call}
use Rattle.br_flatimp.specs.Parts.{statement_names, test_names}
use Rattle.br_flatten.specs.Flatten.{above}
use Rattle.br_flatten.proofs.LeastAbove.{above-append, above_item, flat_map-map}
use Rattle.br_flatten.proofs.Fine.{joined_names, test-parts}

pub names-stackalloc : (x n : ℕ) (body : List Stmt)
    → above (statement_names (Stackalloc x n body)) ≡ max (suc x) (above (flat_map statement_names body))
names-stackalloc x n body =
    ap (λ s. above (statement_names s)) (sym (rolls-Stackalloc x n body))
    ∙ ap above (fold-roll-Stmt (List ℕ) joined_names (Stmt-F.Stackalloc x n body))
    ∙ ap (λ q. max (suc x) (above q))
    (append-nil (flat_map (λ xs. xs) (map statement_names body)) ∙ flat_map-map statement_names body)

pub names-if : (test : Cond) (A B : List Stmt) → above (statement_names (If test A B))
    ≡ max (above (test_names test)) (max (above (flat_map statement_names A)) (above (flat_map statement_names B)))
names-if test A B =
    ap (λ s. above (statement_names s)) (sym (rolls-If test A B))
    ∙ ap above (fold-roll-Stmt (List ℕ) joined_names (Stmt-F.If test A B)) ∙ test-parts test A B

pub names-loop : (test : Cond) (A B : List Stmt) → above (statement_names (Loop A test B))
    ≡ max (above (test_names test)) (max (above (flat_map statement_names A)) (above (flat_map statement_names B)))
names-loop test A B =
    ap (λ s. above (statement_names s)) (sym (rolls-Loop A test B))
    ∙ ap above (fold-roll-Stmt (List ℕ) joined_names (Stmt-F.Loop A test B)) ∙ test-parts test A B

pub names-call : (xs : List ℕ) (g : ℕ) (ys : List ℕ)
    → above (statement_names (Call xs g ys)) ≡ max (above xs) (above ys)
names-call xs g ys =
    ap (λ s. above (statement_names s)) (sym (rolls-Call xs g ys))
    ∙ ap above (fold-roll-Stmt (List ℕ) joined_names (Stmt-F.Call xs g ys))
    ∙ ap above (append-nil (xs ++ ys)) ∙ above-append xs ys

pub ruleset names_of = (names-stackalloc, names-if, names-loop, names-call, above_item)
