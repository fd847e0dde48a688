-- The functions of a program that is equal to the firmware up to offsets: each is the first of its name.
use Rattle.std.proofs.Common.{◌≡◌, ℕ, zero, suc, Bool, true, false, not, ◌&&◌, ◌||◌, cond}
use Rattle.std.proofs.Common.{List, [], ◌∷◌, map, Some, None, refl, sym, ap, ◌∙◌, slice_get}
use Rattle.std.specs.List.{list_any}
use Rattle.std.specs.Option.{option_map}
use Rattle.std.specs.Str.{bytes_eq}
use Rattle.std.proofs.lemmas.Option.{slice_get-map}
use Rattle.std.proofs.lemmas.Simd.{map-map}
use Rattle.std.proofs.lemmas.Slice.Eq.{bytes_eq-Decides}
use Rattle.br_syntax.specs.declared.program.Func.{Func}
use Rattle.br_syntax.specs.Functions.{function_named}
use Rattle.br_syntax.specs.Offsets.{unplaced_function, without_offsets, IsEqualUpToOffsets}
use Rattle.br_lightbulb.specs.Names as name
use Rattle.br_lightbulb.specs.Polls.{firmware}

-- ---- the first of a name

-- no name stands in a list twice
abbrev differ : List (List ℕ) → Bool
differ [] = true
differ (x ∷ xs) = not (list_any (λ y. bytes_eq x y) xs) && differ xs

abbrev name_of : Func → List ℕ
name_of f = f.name

-- a name that no function has is none of theirs
other_name : (x : List ℕ) (fs : List Func) → list_any (λ y. bytes_eq x y) (map name_of fs) ≡ false
    → (n : ℕ) (f : Func) → slice_get fs n ≡ Some f → bytes_eq x f.name ≡ false
other_name x [] none n f at = absurd (cc)
other_name x (g ∷ gs) none n f at = by (bytes_eq x g.name) refl none n at (other_name x gs)
  where
    by : (b : Bool) → bytes_eq x g.name ≡ b → (b || list_any (λ y. bytes_eq x y) (map name_of gs)) ≡ false
        → (n : ℕ) → slice_get (g ∷ gs) n ≡ Some f
        → (list_any (λ y. bytes_eq x y) (map name_of gs) ≡ false → (n : ℕ) (f : Func) → slice_get gs n ≡ Some f
        → bytes_eq x f.name ≡ false)
        → bytes_eq x f.name ≡ false
    by true is unlike n at others = absurd (cc)
    by false is unlike zero at others = let same : g ≡ f = cc in ap (λ (h : Func). bytes_eq x h.name) (sym same) ∙ is
    by false is unlike (suc n) at others = others unlike n f at

-- where names differ, each function is the first of its name
pub first_of_its_name : (fs : List Func) → differ (map name_of fs) ≡ true
    → (n : ℕ) (f : Func) → slice_get fs n ≡ Some f → function_named fs f.name ≡ Some f
first_of_its_name [] apart n f at = absurd (cc)
first_of_its_name (g ∷ gs) apart zero f at =
    let same : g ≡ f = cc in
    let itself : bytes_eq g.name f.name ≡ true = (bytes_eq-Decides g.name f.name).1 (ap name_of same) in
    ap (λ b. cond b (Some g) (function_named gs f.name)) itself ∙ ap Some same
first_of_its_name (g ∷ gs) apart (suc n) f at =
    by (list_any (λ y. bytes_eq g.name y) (map name_of gs)) refl apart (λ rest. first_of_its_name gs rest n f at)
  where
    by : (b : Bool) → list_any (λ y. bytes_eq g.name y) (map name_of gs) ≡ b → (not b && differ (map name_of gs)) ≡ true
        → (differ (map name_of gs) ≡ true → function_named gs f.name ≡ Some f) → function_named (g ∷ gs) f.name ≡ Some f
    by true is rest others = absurd (cc)
    by false is rest others =
        ap (λ b. cond b (Some g) (function_named gs f.name)) (other_name g.name gs is n f at) ∙ others rest

-- ---- the firmware

-- the name and the arguments of a function
abbrev head : Func → List ℕ × List (List ℕ)
head f = (f.name, f.args)

heads_stay : (fs : List Func) → map head (without_offsets fs) ≡ map head fs
heads_stay fs = map-map head unplaced_function fs

same_heads : (fs : List Func) → IsEqualUpToOffsets fs firmware → map head fs ≡ map head firmware
same_heads fs equal = sym (heads_stay fs) ∙ ap (map head) equal ∙ heads_stay firmware

names_are : (fs : List Func) → map name_of fs ≡ map (λ (h : List ℕ × List (List ℕ)). h.0) (map head fs)
names_are fs = sym (map-map (λ (h : List ℕ × List (List ℕ)). h.0) head fs)

names_differ : (fs : List Func) → IsEqualUpToOffsets fs firmware → differ (map name_of fs) ≡ true
names_differ fs equal =
    ap differ (names_are fs ∙ ap (map (λ (h : List ℕ × List (List ℕ)). h.0)) (same_heads fs equal))

same_head : (f : Func) → Some (head f) ≡ Some (name.main, []) → (f.name ≡ name.main) × (f.args ≡ [])
same_head f e = let both : head f ≡ (name.main, []) = cc in (ap (λ h. h.0) both, ap (λ h. h.1) both)

-- the last function is `main`, and takes no arguments
pub has_main : (fs : List Func) → IsEqualUpToOffsets fs firmware
    → (f : Func) × (slice_get fs 9 ≡ Some f) × (f.name ≡ name.main) × (f.args ≡ [])
has_main fs equal = by (slice_get fs 9) refl
  where
    there : option_map head (slice_get fs 9) ≡ Some (name.main, [])
    there = sym (slice_get-map head fs 9) ∙ ap (λ hs. slice_get hs 9) (same_heads fs equal)

    by : (o : _) → slice_get fs 9 ≡ o → (f : Func) × (slice_get fs 9 ≡ Some f) × (f.name ≡ name.main) × (f.args ≡ [])
    by None is = let e = ap (option_map head) (sym is) ∙ there in absurd (cc)
    by (Some f) is =
        let both = same_head f (ap (option_map head) (sym is) ∙ there) in
        (f, is, both.0, both.1)

-- each function of that name is the first of it, and takes no arguments
pub main_is_first : (fs : List Func) → IsEqualUpToOffsets fs firmware
    → (n : ℕ) (f : Func) → slice_get fs n ≡ Some f → f.name ≡ name.main
    → (function_named fs name.main ≡ Some f) × (f.args ≡ [])
main_is_first fs equal n f at is =
    let first : function_named fs name.main ≡ Some f =
    ap (function_named fs) (sym is) ∙ first_of_its_name fs (names_differ fs equal) n f at in
    let last = has_main fs equal in
    let also : function_named fs name.main ≡ Some last.0 =
    ap (function_named fs) (sym last.2) ∙ first_of_its_name fs (names_differ fs equal) 9 last.0 last.1 in
    let same : f ≡ last.0 = cc in
    (first, ap (λ (g : Func). g.args) same ∙ last.3)
