-- One more function among those that are numbered by name.
use Rattle.std.proofs.Common.{◌≡◌, ℕ, ◌+◌, ◌<◌, List, [], ◌∷◌, ◌++◌, Bool, true, false, cond, Some, None, is_some}
use Rattle.std.proofs.Common.{length, get_or, take, refl, sym, ap, ◌∙◌, arith}
use Rattle.std.proofs.lemmas.Grind.{common_steps}
use Rattle.std.proofs.lemmas.List.{take_more}
use Rattle.std.proofs.lemmas.Slice.Eq.{bytes_eq-Decides}
use Rattle.std.specs.Str.{bytes_eq}
use Rattle.br_syntax.specs.declared.program.Func.{Func}
use Rattle.br_syntax.specs.Functions.{number_named}
use Rattle.br_numbering.proofs.Positions.{position_push_found, position_push_new, position_push_other}

-- the functions up to a place and the one there
pub taken : (fs : List Func) (i : ℕ) (f : Func) → i < length fs → f ≡ get_or fs i f → take (i + 1) fs
    ≡ take i fs ++ f ∷ []
taken fs i f inside is = take_more fs i f inside ∙ ap (λ (g : Func). take i fs ++ g ∷ []) (sym is)

known_push : (fs : List Func) (f : Func) (x : List ℕ) → is_some (number_named fs f.name) ≡ true
    → (b : Bool) → bytes_eq f.name x ≡ b → number_named (fs ++ f ∷ []) x ≡ number_named fs x
known_push fs f x known true same =
    let e : f.name ≡ x = (bytes_eq-Decides f.name x).0 same in
    position_push_found (λ g. bytes_eq g.name x) fs f (rw e at known)
known_push fs f x known false other = position_push_other (λ g. bytes_eq g.name x) fs f other

new_push : (fs : List Func) (f : Func) (x : List ℕ) → number_named fs f.name ≡ None
    → (b : Bool) → bytes_eq f.name x ≡ b → number_named (fs ++ f ∷ []) x ≡ cond b (Some (length fs)) (number_named fs x)
new_push fs f x unknown true same =
    let e : f.name ≡ x = (bytes_eq-Decides f.name x).0 same in
    position_push_new (λ g. bytes_eq g.name x) fs f (rw e at unknown)
    ∙ ap (λ (b : Bool). cond b (Some (length fs)) None) same
new_push fs f x unknown false other = position_push_other (λ g. bytes_eq g.name x) fs f other

module _ (fs : List Func) (i : ℕ) (f : Func) (inside : i < length fs) (is : f ≡ get_or fs i f) where
  pub number_known : (x : List ℕ) → is_some (number_named (take i fs) f.name) ≡ true → number_named (take (i + 1) fs) x
      ≡ number_named (take i fs) x
  number_known x known = ap (λ gs. number_named gs x) (taken fs i f inside is)
      ∙ known_push (take i fs) f x known (bytes_eq f.name x) refl

  pub number_new : (x : List ℕ) → number_named (take i fs) f.name ≡ None → number_named (take (i + 1) fs) x
      ≡ cond (bytes_eq f.name x) (Some i) (number_named (take i fs) x)
  number_new x unknown =
      let n : length (take i fs) ≡ i = grind (arith, common_steps) in
      ap (λ gs. number_named gs x) (taken fs i f inside is) ∙ new_push (take i fs) f x unknown (bytes_eq f.name x) refl
      ∙ ap (λ (m : ℕ). cond (bytes_eq f.name x) (Some m) (number_named (take i fs) x)) n
