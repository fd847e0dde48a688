-- The function that a script calls.
use Rattle.std.proofs.Common.{◌≡◌, ℕ, ◌<◌, List, Bool, true, false, cond, Some, None, length, refl, ap, ◌∙◌, arith}
use Rattle.std.proofs.lemmas.Bool.{ltb-true, ltb-false}
use Rattle.std.proofs.lemmas.List.Folds.{find_at}
use Rattle.std.proofs.lemmas.Option.{slice_get_past}
use Rattle.std.specs.List.{slice_get}
use Rattle.br_syntax.specs.declared.program.Func.{Func}
use Rattle.br_syntax.specs.Functions.{function_named, number_named}

picked : (b : Bool) (n i : ℕ) → cond b (Some n) None ≡ Some i → n ≡ i
picked true n i e = cc
picked false n i e = cc

picked_true : (b : Bool) (n i : ℕ) → cond b (Some n) None ≡ Some i → b ≡ true
picked_true true n i e = refl
picked_true false n i e = cc

not_picked : (b : Bool) (n : ℕ) → cond b (Some n) None ≡ None → b ≡ false
not_picked true n e = cc
not_picked false n e = refl

-- the first function of a name has the number of the name
pub function_at_number : (fs : List Func) (name : List ℕ) (n : ℕ) → number_named fs name ≡ Some n
    → function_named fs name ≡ slice_get fs n
function_at_number fs name n e = find_at _ fs ∙ ap (slice_get fs) (picked _ _ n e)

-- a number of a name is one of a function
pub number_within : (fs : List Func) (name : List ℕ) (n : ℕ) → number_named fs name ≡ Some n → n < length fs
number_within fs name n e =
    let low = ltb-true _ (length fs) (picked_true _ _ n e) in
    let same = picked _ _ n e in
    omega (arith, low, same)

-- a name without a number has no function
pub no_function : (fs : List Func) (name : List ℕ) → number_named fs name ≡ None → function_named fs name ≡ None
no_function fs name e = find_at _ fs ∙ slice_get_past fs _ (ltb-false _ (length fs) (not_picked _ _ e))
