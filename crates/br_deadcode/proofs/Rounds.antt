-- Lists of functions item by item, and what sweeps keep together.
use Rattle.std.proofs.Common.{◌≡◌, ℕ, zero, suc, ◌+◌, ◌<◌, ◌&&◌, ◌||◌, Bool, true, false, List, [], ◌∷◌, ◌++◌, length}
use Rattle.std.proofs.Common.{drop, get_or, refl, sym, ap, ◌∙◌, IsTrue, append_assoc, add-one, drop-cons, arith}
use Rattle.std.specs.List.{list_all}
use Rattle.br_flatimp.specs.declared.program.FlatFunc.{FlatFunc}
use Rattle.br_flatimp.specs.Refines.{Refines, meaning}
use Rattle.br_flatimp.specs.Sizes.{Kept}
use Rattle.br_flatimp.specs.WellFormed.{is_well_formed_function, names_differ, IsWellFormed}
use Rattle.br_flatimp.proofs.Composes.{refines-itself, refines-trans}
use Rattle.br_deadcode.specs.LeftOut.{HasSameOthers, InPairs, MissesNoMore}
use Rattle.br_deadcode.specs.Sweeps.{swept_function, function_leaves, swept_program, program_leaves}
use Rattle.br_deadcode.proofs.Missing.{sweep-misses_no_more}
use Rattle.br_deadcode.proofs.Runs.{sweep-refines}
use Rattle.br_deadcode.proofs.Sizes.{kept-itself, kept-trans, others-stay, pairs-itself, pairs-trans, sweep-keeps}
use Rattle.br_deadcode.proofs.Steps.{or_assoc}

and-first : (a b : Bool) → (a && b) ≡ true → a ≡ true
and-first true b e = refl
and-first false b e = absurd (cc e)

and-second : (a b : Bool) → (a && b) ≡ true → b ≡ true
and-second true b e = e
and-second false b e = absurd (cc e)

item-of : (t : FlatFunc → Bool) (gs : List FlatFunc) (i : ℕ) (f : FlatFunc) → list_all t gs ≡ true → i < length gs
    → f ≡ get_or gs i f → t f ≡ true
item-of t [] i f all inside is = absurd (omega arith)
item-of t (g ∷ gs) zero f all inside is = ap t is ∙ and-first (t g) (list_all t gs) all
item-of t (g ∷ gs) (suc i) f all inside is = item-of t gs i f (and-second (t g) (list_all t gs) all) (omega arith) is

pub item-formed : (fs : List FlatFunc) (i : ℕ) (f : FlatFunc) → IsWellFormed fs → i < length fs → f ≡ get_or fs i f
    → IsTrue (is_well_formed_function fs f)
item-formed fs i f formed inside is =
    item-of (is_well_formed_function fs) fs i f
    (and-second (names_differ fs) (list_all (is_well_formed_function fs) fs) formed) inside is

pub next : (fs : List FlatFunc) (i : ℕ) (f : FlatFunc) → i < length fs → f ≡ get_or fs i f
    → drop i fs ≡ f ∷ drop (i + 1) fs
next fs i f inside is = rw (add-one, drop-cons fs i f, ← is) refl

pub one-more : (fs made new : List FlatFunc) (i : ℕ) (f q : FlatFunc) → i < length fs → f ≡ get_or fs i f
    → q ≡ swept_function f → new ≡ made ++ q ∷ []
    → made ++ swept_program (drop i fs) ≡ swept_program fs
    → new ++ swept_program (drop (i + 1) fs) ≡ swept_program fs
one-more fs made new i f q inside is same pushed before =
    ap (λ zs. zs ++ swept_program (drop (i + 1) fs)) pushed
    ∙ append_assoc made (q ∷ []) (swept_program (drop (i + 1) fs))
    ∙ ap (λ r. made ++ r ∷ swept_program (drop (i + 1) fs)) same
    ∙ ap (λ zs. made ++ swept_program zs) (sym (next fs i f inside is)) ∙ before

pub one-leaves : (fs : List FlatFunc) (i : ℕ) (f : FlatFunc) (r new whole : Bool) → i < length fs → f ≡ get_or fs i f
    → new ≡ (r || function_leaves f)
    → (r || program_leaves (drop i fs)) ≡ whole
    → (new || program_leaves (drop (i + 1) fs)) ≡ whole
one-leaves fs i f r new whole inside is same before =
    ap (λ b. b || program_leaves (drop (i + 1) fs)) same
    ∙ or_assoc r (function_leaves f) (program_leaves (drop (i + 1) fs))
    ∙ ap (λ zs. r || program_leaves zs) (sym (next fs i f inside is)) ∙ before

-- ---- what is left of a program

pub record IsLeftOf (qs ps : List FlatFunc) : Type 0 where
  pub refines : Refines (meaning qs) (meaning ps)
  pub kept : Kept qs ps
  pub others_stay : InPairs HasSameOthers qs ps
  pub missed : InPairs MissesNoMore qs ps

pub left-itself : (fs : List FlatFunc) → IsLeftOf fs fs
left-itself fs = record {
  refines = refines-itself (meaning fs);
  kept = kept-itself fs;
  others_stay = pairs-itself HasSameOthers (λ f. refl) fs;
  missed = pairs-itself MissesNoMore (λ f h. h) fs;
}

-- after one sweep
pub left-once : (fs : List FlatFunc) → IsLeftOf (swept_program fs) fs
left-once fs = record {
  refines = sweep-refines fs;
  kept = sweep-keeps fs;
  others_stay = others-stay fs;
  missed = sweep-misses_no_more fs;
}

pub left-trans : (rs qs ps : List FlatFunc) → IsLeftOf rs qs → IsLeftOf qs ps → IsLeftOf rs ps
left-trans rs qs ps h k = record {
  refines = refines-trans (meaning rs) (meaning qs) (meaning ps) h.refines k.refines;
  kept = kept-trans rs qs ps h.kept k.kept;
  others_stay = pairs-trans HasSameOthers (λ r q p a b. a ∙ b) rs qs ps h.others_stay k.others_stay;
  missed = pairs-trans MissesNoMore (λ r q p a b c. a (b c)) rs qs ps h.missed k.missed;
}
