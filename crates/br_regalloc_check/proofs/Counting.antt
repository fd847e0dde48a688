-- Counts of names, raised one by one.
use Rattle.std.proofs.Common.{◌≡◌, ℕ, suc, max, ◌+◌, ◌<◌, List, [], ◌∷◌, ◌++◌}
use Rattle.std.proofs.Common.{length, get_or, drop, refl, ap, ◌∙◌, arith}
use Rattle.std.specs.List.{flat_map}
use Rattle.std.proofs.lemmas.Grind.{common_steps}
use Rattle.br_flatimp.specs.declared.program.Cond.{Cond}
use Rattle.br_flatimp.specs.declared.program.Stmt.{Stmt}
use Rattle.br_flatimp.specs.declared.program.Stmt.TheVariants.{Stackalloc, If, Loop, Call}
use Rattle.br_flatimp.specs.Parts.{statement_names, test_names}
use Rattle.br_regalloc_check.specs.Assigned.{names_for}
use Rattle.br_regalloc_check.specs.Walks.{counted}
use Rattle.br_regalloc_check.proofs.Forms.{names-stackalloc, names-if, names-loop, names-call}

pub counted-append : (n : ℕ) (xs ys : List ℕ) → counted n (xs ++ ys) ≡ counted (counted n xs) ys
counted-append n [] ys = refl
counted-append n (x ∷ xs) ys = counted-append (max n (suc x)) xs ys

pub counted-is : (n : ℕ) (xs : List ℕ) → counted n xs ≡ max n (names_for xs)
counted-is n [] = omega arith
counted-is n (x ∷ xs) = counted-is (max n (suc x)) xs
    ∙ (let same : max (max n (suc x)) (names_for xs) ≡ max n (max (suc x) (names_for xs)) = omega arith in same)

pub counted_number : (n : ℕ) (xs : List ℕ) (i d : ℕ) → i < length xs
    → counted n (drop i xs) ≡ counted (max n (suc (get_or xs i d))) (drop (i + 1) xs)
counted_number n xs i d inside =
    ap (counted n) (let split : drop i xs ≡ get_or xs i d ∷ drop (i + 1) xs = grind (arith, common_steps) in split)

pub counted_item : {X : Type 0} (n : ℕ) (F : X → List ℕ) (xs : List X) (i : ℕ) (x : X) → i < length xs
    → x ≡ get_or xs i x
    → counted n (flat_map F (drop i xs)) ≡ counted (counted n (F x)) (flat_map F (drop (i + 1) xs))
counted_item {X} n F xs i x inside is =
    let split : drop i xs ≡ x ∷ drop (i + 1) xs = grind (arith, common_steps) in
    ap (λ (ys : List X). counted n (flat_map F ys)) split ∙ counted-append n (F x) (flat_map F (drop (i + 1) xs))

three : (n : ℕ) (xs ys zs : List ℕ) → counted n (xs ++ (ys ++ zs)) ≡ counted (counted (counted n xs) ys) zs
three n xs ys zs = counted-append n xs (ys ++ zs) ∙ counted-append (counted n xs) ys zs

pub counted-stackalloc : (n x k : ℕ) (body : List Stmt)
    → counted n (statement_names (Stackalloc x k body)) ≡ counted (max n (suc x)) (flat_map statement_names body)
counted-stackalloc n x k body = ap (counted n) (names-stackalloc x k body)

pub counted-if : (n : ℕ) (test : Cond) (first second : List Stmt) → counted n (statement_names (If test first second))
    ≡ counted (counted (counted n (test_names test)) (flat_map statement_names first)) (flat_map statement_names second)
counted-if n test first second = ap (counted n) (names-if test first second)
    ∙ three n (test_names test) (flat_map statement_names first) (flat_map statement_names second)

pub counted-loop : (n : ℕ) (first : List Stmt) (test : Cond) (last : List Stmt)
    → counted n (statement_names (Loop first test last))
    ≡ counted (counted (counted n (test_names test)) (flat_map statement_names first)) (flat_map statement_names last)
counted-loop n first test last = ap (counted n) (names-loop first test last)
    ∙ three n (test_names test) (flat_map statement_names first) (flat_map statement_names last)

pub counted-call : (n : ℕ) (xs : List ℕ) (g : ℕ) (ys : List ℕ)
    → counted n (statement_names (Call xs g ys)) ≡ counted (counted n xs) ys
counted-call n xs g ys = ap (counted n) (names-call xs g ys) ∙ counted-append n xs ys

pub ruleset counted_parts = (counted-stackalloc, counted-if, counted-loop, counted-call)
