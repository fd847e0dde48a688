-- Names that are added in turn to a list of names.
use Rattle.std.proofs.Common.{◌≡◌, ℕ, ◌+◌, ◌<◌, List, [], ◌∷◌, ◌++◌, map, length, get_or, drop, refl, ap, ◌∙◌, arith}
use Rattle.std.proofs.lemmas.Grind.{common_steps}
use Rattle.br_source_meaning.specs.Values.{Name}
use Rattle.br_flatten.specs.Places.{all_of, with_name, with_names}

pub with_names-append : (names xs ys : List Name) → with_names names (xs ++ ys) ≡ with_names (with_names names xs) ys
with_names-append names [] ys = refl
with_names-append names (x ∷ xs) ys = with_names-append (with_name names x) xs ys

-- the names so far and those of the items that follow, one item further
pub names_step : {X : Type 0} (F : X → List Name) (xs : List X) (i : ℕ) (x : X) (names more whole : List Name)
    → i < length xs → x ≡ get_or xs i x → more ≡ with_names names (F x)
    → with_names names (all_of (map F (drop i xs))) ≡ whole → with_names more (all_of (map F (drop (i + 1) xs))) ≡ whole
names_step {X} F xs i x names more whole inside is one so_far =
    let split : drop i xs ≡ x ∷ drop (i + 1) xs = grind (arith, common_steps) in
    let there = ap (λ (ys : List X). with_names names (all_of (map F ys))) split
    ∙ with_names-append names (F x) (all_of (map F (drop (i + 1) xs))) in
    rw (one, ← there) so_far
