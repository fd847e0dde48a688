-- The entries of an image and the functions that they describe stand in the same order.
use Rattle.std.proofs.Common.{◌≡◌, ℕ, zero, suc, List, [], ◌∷◌, Some, refl, slice_get, subst}
use Rattle.br_syntax.specs.declared.program.Func.{Func}
use Rattle.br_image.specs.declared.images.Entry.{Entry}
use Rattle.br_compile.specs.Implements.{Describes, AllDescribed}

-- each entry describes the function of its number
pub function_of_entry : (fs gs : List Func) (entries : List Entry) → AllDescribed fs gs entries
    → (n : ℕ) (entry : Entry) → slice_get entries n ≡ Some entry
    → (f : Func) × (slice_get gs n ≡ Some f) × Describes fs f entry
function_of_entry fs [] [] all n entry at = absurd (cc)
function_of_entry fs [] (e ∷ es) all n entry at = absurd all
function_of_entry fs (g ∷ gs) [] all n entry at = absurd all
function_of_entry fs (g ∷ gs) (e ∷ es) all zero entry at =
    let same : e ≡ entry = cc in (g, refl, subst (Describes fs g) same all.0)
function_of_entry fs (g ∷ gs) (e ∷ es) all (suc n) entry at = function_of_entry fs gs es all.1 n entry at

-- and each function has an entry that describes it
pub entry_of_function : (fs gs : List Func) (entries : List Entry) → AllDescribed fs gs entries
    → (n : ℕ) (f : Func) → slice_get gs n ≡ Some f
    → (entry : Entry) × (slice_get entries n ≡ Some entry) × Describes fs f entry
entry_of_function fs [] [] all n f at = absurd (cc)
entry_of_function fs [] (e ∷ es) all n f at = absurd all
entry_of_function fs (g ∷ gs) [] all n f at = absurd all
entry_of_function fs (g ∷ gs) (e ∷ es) all zero f at =
    let same : g ≡ f = cc in (e, refl, subst (λ h. Describes fs h e) same all.0)
entry_of_function fs (g ∷ gs) (e ∷ es) all (suc n) f at = entry_of_function fs gs es all.1 n f at
