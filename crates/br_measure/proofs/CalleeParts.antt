-- The callees of parts in turn.
use Rattle.std.proofs.Common.{◌≡◌, ℕ, ◌+◌, ◌<◌, List, [], ◌∷◌, ◌++◌, length, get_or, drop, map, refl, sym, ap, ◌∙◌}
use Rattle.std.proofs.Common.{append_assoc, arith}
use Rattle.std.proofs.lemmas.Grind.{common_steps}
use Rattle.std.proofs.lemmas.List.Elements.{filter_map-append}
use Rattle.std.specs.List.{flat_map}
use Rattle.br_syntax.specs.declared.program.Expr.{Expr}
use Rattle.br_syntax.specs.declared.program.Cmd.{Cmd}
use Rattle.br_syntax.specs.declared.program.Cmd.TheVariants.{If, rolls-If}
use Rattle.br_syntax.specs.declared.program.Cmd.TheOpen.{Cmd-F}
use Rattle.br_syntax.specs.declared.program.Cmd.TheFolds.{fold-Cmd, fold-roll-Cmd}
use Rattle.br_syntax.specs.declared.program.Func.{Func}
use Rattle.br_syntax.specs.Functions.{number_named}
use Rattle.br_measure.specs.Paths.{callees_step, joined}
use Rattle.br_measure.specs.Table.{numbers_named}

pub joined_map : {X : Type 0} (F : X → List (List ℕ)) (xs : List X) → joined (map F xs) ≡ flat_map F xs
joined_map F [] = refl
joined_map F (x ∷ xs) = ap (λ more. F x ++ more) (joined_map F xs)

pub numbers_append : (fs : List Func) (xs ys : List (List ℕ)) → numbers_named fs (xs ++ ys)
    ≡ numbers_named fs xs ++ numbers_named fs ys
numbers_append fs xs ys = filter_map-append (number_named fs) xs ys

-- the callees so far and those of the items that follow, one item further
pub numbers_step : {X : Type 0} (fs : List Func) (F : X → List (List ℕ)) (xs : List X) (i : ℕ) (x : X)
    (found more whole : List ℕ)
    → i < length xs → x ≡ get_or xs i x → more ≡ found ++ numbers_named fs (F x)
    → found ++ numbers_named fs (joined (map F (drop i xs))) ≡ whole
    → more ++ numbers_named fs (joined (map F (drop (i + 1) xs))) ≡ whole
numbers_step {X} fs F xs i x found more whole inside is one so_far =
    let split : drop i xs ≡ x ∷ drop (i + 1) xs = grind (arith, common_steps) in
    let there = ap (λ (ys : List X). numbers_named fs (joined (map F ys))) split
    ∙ numbers_append fs (F x) (joined (map F (drop (i + 1) xs))) in
    rw (one, append_assoc found (numbers_named fs (F x)) (numbers_named fs (joined (map F (drop (i + 1) xs)))), ← there)
    so_far

pub numbers_of_choice : (fs : List Func) (e : Expr) (first second : List Cmd) (found : List ℕ)
    → (found ++ numbers_named fs (joined (map (fold-Cmd (List (List ℕ)) callees_step) first))) ++ numbers_named fs
    (joined (map (fold-Cmd (List (List ℕ)) callees_step) second))
    ≡ found ++ numbers_named fs (fold-Cmd (List (List ℕ)) callees_step (If e first second))
numbers_of_choice fs e first second found =
    let F = fold-Cmd (List (List ℕ)) callees_step in
    let parts : F (If e first second) ≡ joined (map F first) ++ joined (map F second) =
    ap F (sym (rolls-If e first second)) ∙ fold-roll-Cmd (List (List ℕ)) callees_step (Cmd-F.If e first second) in
    rw (
      append_assoc found (numbers_named fs (joined (map F first))) (numbers_named fs (joined (map F second))),
      ←
          numbers_append fs (joined (map F first)) (joined (map F second)),
      ← parts,
    ) refl
