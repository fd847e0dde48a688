-- The units of a statement with parts.
use Rattle.std.proofs.Common.{◌≡◌, ℕ, ◌+◌, ◌<◌, ◌≤◌, min, List, [], ◌∷◌, map}
use Rattle.std.proofs.Common.{sum, length, get_or, drop, sym, ap, ◌∙◌, arith}
use Rattle.std.proofs.lemmas.Grind.{common_steps}
use Rattle.std.proofs.lemmas.List.Sums.{sum-map, sum_by-cons}
use Rattle.br_flatimp.specs.declared.program.Cond.{Cond}
use Rattle.br_flatimp.specs.declared.program.Stmt.{Stmt}
use Rattle.br_flatimp.specs.declared.program.Stmt.TheOpen.{Stmt-F}
use Rattle.br_flatimp.specs.declared.program.Stmt.TheFolds.{fold-roll-Stmt}
use Rattle.br_flatimp.specs.declared.program.Stmt.TheVariants.{Stackalloc, If, Loop, Call, rolls-Stackalloc}
use Rattle.br_flatimp.specs.declared.program.Stmt.TheVariants.{rolls-If, rolls-Loop, rolls-Call}
use Rattle.br_flatimp.specs.Sizes.{own_units, added}
use Rattle.br_flatten.proofs.Fine.{joined_units}

pub units-stackalloc : (x n : ℕ) (body : List Stmt)
    → added own_units (Stackalloc x n body) ≡ 1 + sum (map (added own_units) body)
units-stackalloc x n body =
    let whole =
    ap (added own_units) (sym (rolls-Stackalloc x n body))
    ∙ fold-roll-Stmt ℕ joined_units (Stmt-F.Stackalloc x n body) in
    omega (arith, whole)

pub units-if : (test : Cond) (A B : List Stmt)
    → added own_units (If test A B) ≡ 1 + sum (map (added own_units) A) + sum (map (added own_units) B)
units-if test A B =
    let whole =
    ap (added own_units) (sym (rolls-If test A B)) ∙ fold-roll-Stmt ℕ joined_units (Stmt-F.If test A B) in
    omega (arith, whole)

pub units-loop : (test : Cond) (A B : List Stmt)
    → added own_units (Loop A test B) ≡ 1 + sum (map (added own_units) A) + sum (map (added own_units) B)
units-loop test A B =
    let whole =
    ap (added own_units) (sym (rolls-Loop A test B)) ∙ fold-roll-Stmt ℕ joined_units (Stmt-F.Loop A test B) in
    omega (arith, whole)

pub units-call : (xs : List ℕ) (g : ℕ) (ys : List ℕ) → added own_units (Call xs g ys) ≡ 1 + length xs + length ys
units-call xs g ys =
    let whole =
    ap (added own_units) (sym (rolls-Call xs g ys)) ∙ fold-roll-Stmt ℕ joined_units (Stmt-F.Call xs g ys) in
    omega (arith, whole)

-- one item of a list further
pub units_item : {X : Type 0} (F : X → ℕ) (xs : List X) (i : ℕ) (x : X) → i < length xs → x ≡ get_or xs i x
    → sum (map F (drop i xs)) ≡ F x + sum (map F (drop (i + 1) xs))
units_item {X} F xs i x inside is =
    let split : drop i xs ≡ x ∷ drop (i + 1) xs = grind (arith, common_steps) in
    let more : sum (map F (x ∷ drop (i + 1) xs)) ≡ F x + sum (map F (drop (i + 1) xs)) = omega
    (arith, sum-map F (x ∷ drop (i + 1) xs), sum-map F (drop (i + 1) xs), sum_by-cons F x (drop (i + 1) xs)) in
    ap (λ (ys : List X). sum (map F ys)) split ∙ more

-- no item is left
pub units_none : {X : Type 0} (F : X → ℕ) (xs : List X) (i all whole most : ℕ) → length xs ≤ i → all ≤ most
    → min (all + sum (map F (drop i xs))) most ≡ whole → all ≡ whole
units_none {X} F xs i all whole most past inside so_far =
    let none : drop i xs ≡ [] = grind (arith, common_steps) in
    let rest = ap (λ (ys : List X). min (all + sum (map F ys)) most) none in
    omega (arith, rest, inside, so_far)

pub ruleset units_of = (units-stackalloc, units-if, units-loop, units-call, units_item)
