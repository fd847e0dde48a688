-- Words that are computed one after the other.
use Rattle.std.proofs.Common.{◌≡◌, ℕ, suc, ◌+◌, ◌<◌, List, [], ◌∷◌, ◌++◌, length, drop, get_or, Option, Some, None}
use Rattle.std.proofs.Common.{append_assoc, add-one, refl, sym, ap, ◌∙◌}
use Rattle.std.proofs.Math.Seq.{drop-cons}
use Rattle.std.specs.Option.{option_map, option_and_then}
use Rattle.br_bytes.specs.Memory.{Memory}
use Rattle.br_source_meaning.specs.Values.{Name, Locals, value, values}
use Rattle.br_source_meaning.specs.Numbered.{named_expr, named_exprs}
use Rattle.br_source_meaning.specs.declared.numbered.NumberedExpr.{NumberedExpr}

shifted : (words : List ℕ) (v : ℕ) (rest : Option (List ℕ))
    → option_map (λ vs. words ++ vs) (option_and_then (λ vs. Some (v ∷ vs)) rest)
    ≡ option_map (λ vs. (words ++ v ∷ []) ++ vs) rest
shifted words v None = refl
shifted words v (Some vs) = simp append_assoc

-- one more word of expressions
pub values-more : (own : List Name) (locals : Locals) (m : Memory) (es : List NumberedExpr) (i : ℕ) (e : NumberedExpr)
    (v : ℕ) (words more : List ℕ) (all : Option (List ℕ)) → i < length es → e ≡ get_or es i e
    → value locals m (named_expr own e) ≡ Some v → more ≡ words ++ v ∷ [] → all
    ≡ option_map (λ vs. words ++ vs) (values locals m (named_exprs own (drop i es))) → all
    ≡ option_map (λ vs. more ++ vs) (values locals m (named_exprs own (drop (i + 1) es)))
values-more own locals m es i e v words more all inside is known pushed so_far =
    let rest : Option (List ℕ) = values locals m (named_exprs own (drop (suc i) es)) in
    so_far
    ∙ ap (λ es. option_map (λ vs. words ++ vs) (values locals m (named_exprs own es)))
    (drop-cons es i e inside ∙ ap (λ (d : NumberedExpr). d ∷ drop (suc i) es) (sym is))
    ∙ ap (λ o. option_map (λ vs. words ++ vs) (option_and_then (λ v. option_and_then (λ vs. Some (v ∷ vs)) rest) o))
    known
    ∙ shifted words v rest
    ∙ ap (λ ws. option_map (λ vs. ws ++ vs) rest) (sym pushed)
    ∙ ap (λ n. option_map (λ vs. more ++ vs) (values locals m (named_exprs own (drop n es)))) (sym (add-one i))
