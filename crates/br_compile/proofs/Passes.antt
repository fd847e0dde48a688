-- What the passes make of a program of the source, by their contracts.
use Rattle.std.proofs.Common.{◌≡◌, ℕ, ◌+◌, ◌<◌, ◌≤◌, Bool, true, false, ◌&&◌, List, [], ◌∷◌, map, length}
use Rattle.std.proofs.Common.{Some, refl, sym, ap, subst, ◌∙◌, slice_get, get_or, min, sum, arith}
use Rattle.std.specs.Prelude.{All, unwrap_or}
use Rattle.std.specs.Option.{option_map}
use Rattle.std.specs.List.{AllByRecursion, list_all}
use Rattle.std.proofs.lemmas.Option.{slice_get-get_or, slice_get-map, unwrap_or-slice_get}
use Rattle.std.proofs.lemmas.List.{length-map}
use Rattle.std.proofs.lemmas.List.Elements.{All-map}
use Rattle.br_words.specs.declared.layout.Layout.TheVariants.{Two}
use Rattle.br_words.specs.Layout.{most_words}
use Rattle.br_syntax.specs.declared.program.Func.{Func}
use Rattle.br_measure.specs.Bulk as source
use Rattle.br_measure.specs.Measure.{measure}
use Rattle.br_measure.specs.Faults.{IsSound}
use Rattle.br_flatimp.specs.declared.program.FlatFunc.{FlatFunc}
use Rattle.br_flatimp.specs.Liveness.{has_no_dead}
use Rattle.br_flatimp.specs.Missed.{has_no_missed}
use Rattle.br_flatimp.specs.Parts.{callees}
use Rattle.br_flatimp.specs.Refines.{Meaning, Refines, meaning, signature}
use Rattle.br_flatimp.specs.Sizes.{HasNoRecursion, KeptFunction, Kept, units}
use Rattle.br_flatimp.specs.Sizes.{largest, need, needs, own_need, nest, flat_bulk}
use Rattle.br_flatimp.specs.WellFormed.{IsRegisterForm, IsWellFormed}
use Rattle.br_flatten.specs.Meaning.{source_meaning, source_signature}
use Rattle.br_flatten.specs.Sized.{IsSized, AreSized}
use Rattle.br_deadcode.specs.LeftOut.{InPairs, MissesNoMore}
use Rattle.br_regalloc_check.specs.Assigned.{KeepLean}
use Rattle.br_spill.specs.Spill.{Layout, AreAsLean, StayLean, buffers, spilled_function, wide_layout, wide_program}
use Rattle.br_emit.specs.Emitted.{AreNeeds}
use Rattle.br_compile.specs.Lowered.{AreSmall, HaveGrown, IsFlat, IsInRegisters, IsLean, IsSmall}
use Rattle.br_compile.proofs.Grown.{program_grown, sum_cons}
use Rattle.br_compile.proofs.Needing.{MeasuresAdd, needs_within, no_recursion}

and-first : (a b : Bool) → (a && b) ≡ true → a ≡ true
and-first true b e = refl
and-first false b e = absurd (cc e)

and-second : (a b : Bool) → (a && b) ≡ true → b ≡ true
and-second true b e = e
and-second false b e = absurd (cc e)

both : (a b : Bool) → a ≡ true → b ≡ true → (a && b) ≡ true
both a b e f = rw (e, f) refl

-- the units of flat functions are within the bulk of the source
units_within : (fs gs : List Func) (ps : List FlatFunc) → AreSized fs gs ps → sum (map units ps) ≤ source.bulk gs
units_within fs [] [] sized = omega arith
units_within fs [] (p ∷ ps) sized = absurd sized
units_within fs (f ∷ gs) [] sized = absurd sized
units_within fs (f ∷ gs) (p ∷ ps) sized =
    omega (
      arith,
      sized.0.units,
      units_within fs gs ps sized.1,
      sum_cons (units p) (map units ps),
      sum_cons (source.function_bulk f) (map source.function_bulk gs),
    )

-- ---- passes between flattening and register form

-- that refinements compose, as br_flatimp says
abbrev pub Composes : Type 0
Composes = (r q p : Meaning) → Refines r q → Refines q p → Refines r p

kept_function : (fs : List Func) (f : Func) (q p : FlatFunc) → IsSized fs f p → KeptFunction q p → IsSized fs f q
kept_function fs f q p sized kept = record {
  units = omega (arith, kept.units, sized.units);
  names = omega (arith, kept.names, sized.names);
  nest = omega (arith, kept.nest, sized.nest);
  callees = λ g calls. sized.callees g (kept.callees g calls);
}

kept_functions : (fs gs : List Func) (qs ps : List FlatFunc) → AreSized fs gs ps → Kept qs ps → AreSized fs gs qs
kept_functions fs [] [] [] sized kept = tt
kept_functions fs [] (q ∷ qs) [] sized kept = absurd kept
kept_functions fs [] qs (p ∷ ps) sized kept = absurd sized
kept_functions fs (f ∷ gs) qs [] sized kept = absurd sized
kept_functions fs (f ∷ gs) [] (p ∷ ps) sized kept = absurd kept
kept_functions fs (f ∷ gs) (q ∷ qs) (p ∷ ps) sized kept =
    (kept_function fs f q p sized.0 kept.0, kept_functions fs gs qs ps sized.1 kept.1)

-- what a pass makes of flat functions is flat functions of the same program, where it keeps them
pub after_pass : Composes → (fs : List Func) (qs ps : List FlatFunc) → IsFlat ps fs
    → IsWellFormed qs → Refines (meaning qs) (meaning ps) → Kept qs ps → IsFlat qs fs
after_pass composes fs qs ps flat formed refines kept = record {
  well_formed = formed;
  refines = composes (meaning qs) (meaning ps) (source_meaning fs) refines flat.refines;
  sizes = kept_functions fs fs qs ps flat.sizes kept;
}

-- what the crates below say of programs
pub record Passes : Type 0 where
  pub adds : MeasuresAdd
  pub bounded : (fs : List FlatFunc) (bound : ℕ → ℕ) → IsRegisterForm fs
      → ((f : ℕ) (caller : FlatFunc) → slice_get fs f ≡ Some caller
      → 120 + nest caller + largest (map bound (callees caller)) ≤ bound f)
      → (f : ℕ) (caller : FlatFunc) → slice_get fs f ≡ Some caller → need fs caller ≤ bound f
  pub composes : Composes

pub in_registers : Passes → (fs : List Func) (ps qs : List FlatFunc) → IsSound fs → IsFlat ps fs
    → HaveGrown qs ps → Refines (meaning qs) (meaning ps) → IsRegisterForm qs
    → IsInRegisters qs fs
in_registers passes fs ps qs sound flat grown refines form = record {
  register_form = form;
  refines = passes.composes (meaning qs) (meaning ps) (source_meaning fs) refines flat.refines;
  no_recursion = no_recursion passes.adds fs ps qs flat.sizes grown sound.no_recursion;
  within =
      needs_within passes.adds fs ps qs flat.sizes grown sound.no_recursion (λ bound. passes.bounded qs bound form);
  short = omega (arith, program_grown qs ps grown, units_within fs fs ps flat.sizes);
}

small_each : (fs gs : List Func) (ps : List FlatFunc) → AreSized fs gs ps → source.bulk gs ≤ 32768
    → AllByRecursion IsSmall ps
small_each fs [] [] sized few = tt
small_each fs [] (p ∷ ps) sized few = absurd sized
small_each fs (f ∷ gs) [] sized few = absurd sized
small_each fs (f ∷ gs) (p ∷ ps) sized few =
    let whole = sum_cons (source.function_bulk f) (map source.function_bulk gs) in (
      record { units = omega (arith, sized.0.units, whole, few); names = omega (arith, sized.0.names, whole, few) },
      small_each fs gs ps sized.1 (omega (arith, whole, few)),
    )

pub are_small : (fs : List Func) (ps : List FlatFunc) → IsFlat ps fs → source.bulk fs ≤ 32768 → AreSmall ps
are_small fs ps flat few = record { well_formed = flat.well_formed; each = small_each fs fs ps flat.sizes few }

-- ---- functions without buffers

pub lean : (qs ps : List FlatFunc) → StayLean qs ps → list_all has_no_missed ps ≡ true → list_all has_no_dead ps ≡ true
    → AllByRecursion IsLean qs
lean [] [] stay missed dead = tt
lean [] (p ∷ ps) stay missed dead = absurd stay
lean (q ∷ qs) [] stay missed dead = absurd stay
lean (q ∷ qs) (p ∷ ps) stay missed dead = (
  record {
    none_missed = λ none. stay.0.none_missed none (and-first (has_no_missed p) (list_all has_no_missed ps) missed);
    none_dead = λ none. stay.0.none_dead none (and-first (has_no_dead p) (list_all has_no_dead ps) dead);
  },
  lean qs ps stay.1 (and-second (has_no_missed p) (list_all has_no_missed ps) missed)
      (and-second (has_no_dead p) (list_all has_no_dead ps) dead),
)

-- In registers alone nothing comes to be missed or dead but copies, and new names change nothing of that.
pub wide_lean : ((names : ℕ) → names ≤ 1048544 → (wide_layout names).slots ≡ 0)
    → ((l : Layout) (f : FlatFunc) → l.slots ≡ 0 → buffers (spilled_function l f) ≡ buffers f)
    → (rs ps : List FlatFunc) → AllByRecursion IsSmall ps → AreAsLean (wide_program ps) ps
    → KeepLean rs (wide_program ps)
    → list_all has_no_missed ps ≡ true → list_all has_no_dead ps ≡ true → AllByRecursion IsLean rs
wide_lean slots same [] [] small as_lean keep missed dead = tt
wide_lean slots same [] (p ∷ ps) small as_lean keep missed dead = absurd keep
wide_lean slots same (r ∷ rs) [] small as_lean keep missed dead = absurd keep
wide_lean slots same (r ∷ rs) (p ∷ ps) small as_lean keep missed dead =
    let none = same (wide_layout p.names) p (slots p.names (omega (arith, small.0.names))) in
    let no_more : buffers (spilled_function (wide_layout p.names) p) ≤ buffers p = omega (arith, none) in (
      record {
        none_missed = λ _. keep.0.none_missed
            (as_lean.0.none_missed no_more (and-first (has_no_missed p) (list_all has_no_missed ps) missed));
        none_dead = λ _. keep.0.none_dead_but_copies
            (as_lean.0.none_dead no_more (and-first (has_no_dead p) (list_all has_no_dead ps) dead));
      },
      wide_lean slots same rs ps small.1 as_lean.1 keep.1
          (and-second (has_no_missed p) (list_all has_no_missed ps) missed)
          (and-second (has_no_dead p) (list_all has_no_dead ps) dead),
    )

pub renamed_none_missed : (qs ps : List FlatFunc) → KeepLean qs ps → list_all has_no_missed ps ≡ true
    → list_all has_no_missed qs ≡ true
renamed_none_missed [] [] keep missed = refl
renamed_none_missed [] (p ∷ ps) keep missed = absurd keep
renamed_none_missed (q ∷ qs) [] keep missed = absurd keep
renamed_none_missed (q ∷ qs) (p ∷ ps) keep missed =
    both (has_no_missed q) (list_all has_no_missed qs)
    (keep.0.none_missed (and-first (has_no_missed p) (list_all has_no_missed ps) missed))
    (renamed_none_missed qs ps keep.1 (and-second (has_no_missed p) (list_all has_no_missed ps) missed))

pub renamed_none_dead : (qs ps : List FlatFunc) → KeepLean qs ps → list_all has_no_dead ps ≡ true
    → list_all has_no_dead qs ≡ true
renamed_none_dead [] [] keep dead = refl
renamed_none_dead [] (p ∷ ps) keep dead = absurd keep
renamed_none_dead (q ∷ qs) [] keep dead = absurd keep
renamed_none_dead (q ∷ qs) (p ∷ ps) keep dead =
    both (has_no_dead q) (list_all has_no_dead qs)
    (keep.0.none_dead (and-first (has_no_dead p) (list_all has_no_dead ps) dead))
    (renamed_none_dead qs ps keep.1 (and-second (has_no_dead p) (list_all has_no_dead ps) dead))

-- a removal leaves no operand missed where none was
pub still-none-missed : (qs ps : List FlatFunc) → InPairs MissesNoMore qs ps → list_all has_no_missed ps ≡ true
    → list_all has_no_missed qs ≡ true
still-none-missed [] [] pairs missed = refl
still-none-missed [] (p ∷ ps) pairs missed = absurd pairs
still-none-missed (q ∷ qs) [] pairs missed = absurd pairs
still-none-missed (q ∷ qs) (p ∷ ps) pairs missed =
    both (has_no_missed q) (list_all has_no_missed qs)
    (pairs.0 (and-first (has_no_missed p) (list_all has_no_missed ps) missed))
    (still-none-missed qs ps pairs.1 (and-second (has_no_missed p) (list_all has_no_missed ps) missed))

-- ---- what emission asks for

-- each function needs no more than the stack has
pub needs_are_shallow : (fs : List Func) (qs : List FlatFunc) → IsSound fs → length qs ≡ length fs → IsInRegisters qs fs
    → All (λ n. n ≤ 1048576) (needs qs)
needs_are_shallow fs qs sound count lowered = All-map (λ n. n ≤ 1048576) (need qs) qs shallow
  where
    shallow : All (λ q. need qs q ≤ 1048576) qs
    shallow k d low = by fs refl
      where
        by : (gs : List Func) → gs ≡ fs → need qs (get_or qs k d) ≤ 1048576
        by [] none = let e = ap length none in absurd (omega (arith, e, count, low))
        by (g ∷ gs) some =
            let inside : k < length fs = omega (arith, count, low) in
            let here : slice_get fs k ≡ Some (get_or fs k g) = slice_get-get_or fs k g inside in
            let there : slice_get qs k ≡ Some (get_or qs k d) = slice_get-get_or qs k d low in
            let most : measure fs (get_or fs k g) ≤ 1048576 = sound.shallow k g inside in
            omega (arith, lowered.within k (get_or qs k d) (get_or fs k g) there here, most)

-- flat functions that refine those of the source are as many
pub as_many : (fs : List Func) (qs : List FlatFunc) → Refines (meaning qs) (source_meaning fs) → length qs ≡ length fs
as_many fs qs refines = sym (length-map qs signature) ∙ ap length refines.same ∙ length-map fs source_signature

-- the code fits the code region
pub fits_region : (fs : List Func) (qs : List FlatFunc) → IsSound fs → IsInRegisters qs fs
    → flat_bulk qs ≤ most_words Two
fits_region fs qs sound lowered = omega (arith, lowered.short, sound.small)

-- a list at numbers, where two functions agree on each
same_map : (F G : ℕ → ℕ) → ((g : ℕ) → F g ≡ G g) → (gs : List ℕ) → map F gs ≡ map G gs
same_map F G same [] = refl
same_map F G same (g ∷ gs) = ap (λ x. x ∷ map F gs) (same g) ∙ ap (λ xs. G g ∷ xs) (same_map F G same gs)

need_at : (qs : List FlatFunc) (g : ℕ) → get_or (needs qs) g 0 ≡ unwrap_or (option_map (need qs) (slice_get qs g)) 0
need_at qs g = sym (unwrap_or-slice_get (map (need qs) qs) g 0) ∙ ap (λ o. unwrap_or o 0) (slice_get-map (need qs) qs g)

-- that needs add up, as br_stack_need says
abbrev pub NeedsAdd : Type 0
NeedsAdd = (fs : List FlatFunc) (f : ℕ) (caller : FlatFunc) → HasNoRecursion fs → slice_get fs f ≡ Some caller
    → need fs caller ≡ min 4294967295 (own_need caller
    + largest (map (λ g. unwrap_or (option_map (need fs) (slice_get fs g)) 0) (callees caller)))

-- what functions need is what emission takes as their needs
pub are_needs : NeedsAdd → (qs : List FlatFunc) (stack : List ℕ) → HasNoRecursion qs → stack ≡ needs qs
    → AreNeeds qs stack
are_needs adds qs stack none is = subst (AreNeeds qs) (sym is) (record {
  count = length-map qs (need qs);
  each = λ n f at.
      need_at qs n ∙ ap (λ o. unwrap_or (option_map (need qs) o) 0) at ∙ adds qs n f none at
      ∙ ap (λ v. min 4294967295 (own_need f + largest v)) (sym (same_map (λ g. get_or (needs qs) g 0)
      (λ g. unwrap_or (option_map (need qs) (slice_get qs g)) 0) (need_at qs) (callees f)));
})
