-- Functions by fitting layouts that have no more buffers than those that they come from miss no operand and have no
-- dead statement but copies, where those miss none and have no dead one.
use Rattle.std.proofs.Common.{◌≡◌, ℕ, ◌≤◌, true, List, [], ◌∷◌, sym, subst, ◌∙◌, arith}
use Rattle.std.specs.List.{list_all}
use Rattle.br_flatimp.specs.declared.program.FlatFunc.{FlatFunc}
use Rattle.br_flatimp.specs.WellFormed.{is_well_formed_function, names_differ, IsWellFormed}
use Rattle.br_spill.specs.Spill.{Layout, Fits, layout_of, spilled_function, spilled_program}
use Rattle.br_spill.specs.Spill.{SpilledFunctions, buffers, IsAsLean, AreAsLean, StaysLean, StayLean}
use Rattle.br_spill.proofs.Form.{and-first, and-second}
use Rattle.br_spill.proofs.Layouts.{few-slots, well-formed-spilled}
use Rattle.br_spill.specs.declared.place.Kind.TheVariants.{Narrow}
use Rattle.br_spill.proofs.Sizes.{buffers-stay, no-slots}
use Rattle.br_spill.proofs.Missed.{no-more-missed}
use Rattle.br_spill.proofs.Dead.{none-wasted}

function-lean : (ps : List FlatFunc) → list_all (is_well_formed_function ps) ps ≡ true → (l : Layout) (f : FlatFunc)
    → Fits f.names l → is_well_formed_function ps f ≡ true
    → IsAsLean (spilled_function l f) f
function-lean ps formed l f fits h = record {
  none_missed = λ few missed. no-more-missed ps l f fits (no-slots l f few) h ∙ missed;
  none_dead = λ few dead. none-wasted ps formed l f fits (no-slots l f few) h dead;
}

functions-lean : (ps : List FlatFunc) → list_all (is_well_formed_function ps) ps ≡ true → (qs fs : List FlatFunc)
    → SpilledFunctions qs fs → list_all (is_well_formed_function ps) fs ≡ true
    → AreAsLean qs fs
functions-lean ps formed [] [] spilled h = tt
functions-lean ps formed [] (f ∷ fs) spilled h = absurd spilled
functions-lean ps formed (q ∷ qs) [] spilled h = absurd spilled
functions-lean ps formed (q ∷ qs) (f ∷ fs) spilled h = (
  subst (λ r. IsAsLean r f) (sym spilled.0.2) (function-lean ps formed spilled.0.0 f spilled.0.1
      (and-first (is_well_formed_function ps f) (list_all (is_well_formed_function ps) fs) h)),
  functions-lean ps formed qs fs spilled.1
      (and-second (is_well_formed_function ps f) (list_all (is_well_formed_function ps) fs) h),
)

pub programs-lean : (qs ps : List FlatFunc) → IsWellFormed ps → SpilledFunctions qs ps → AreAsLean qs ps
programs-lean qs ps h spilled =
    let formed = and-second (names_differ ps) (list_all (is_well_formed_function ps) ps) h in
    functions-lean ps formed qs ps spilled formed

-- ---- programs in register form

none-more : (a b : ℕ) → a ≡ 0 → a ≤ b
none-more a b none = omega (arith, none)

stays-lean : (f : FlatFunc) → IsAsLean (spilled_function (layout_of f.names) f) f
    → StaysLean (spilled_function (layout_of f.names) f) f
stays-lean f lean = record {
  none_missed = λ none missed.
      lean.none_missed (none-more (buffers (spilled_function (layout_of f.names) f)) (buffers f) none) missed;
  none_dead =
      λ none dead. lean.none_dead (none-more (buffers (spilled_function (layout_of f.names) f)) (buffers f) none) dead;
  few = λ few. buffers-stay (layout_of f.names) f (few-slots f.names few);
}

stay-lean : (fs : List FlatFunc) → AreAsLean (spilled_program fs) fs → StayLean (spilled_program fs) fs
stay-lean [] lean = tt
stay-lean (f ∷ fs) lean = (stays-lean f lean.0, stay-lean fs lean.1)

pub program-lean : (ps : List FlatFunc) → IsWellFormed ps → StayLean (spilled_program ps) ps
program-lean ps h = stay-lean ps (programs-lean (spilled_program ps) ps h (well-formed-spilled Narrow ps h))
