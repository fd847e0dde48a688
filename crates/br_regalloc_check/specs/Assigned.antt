-- Programs whose functions have taken new names.
use Rattle.std.specs.Prelude.{◌≡◌, ℕ, suc, List, [], ◌∷◌, map, slice_index, ◌⊎◌, IsTrue}
use Rattle.br_flatimp.specs.declared.program.FlatFunc.{FlatFunc}
use Rattle.br_flatimp.specs.declared.program.Proposal.{Proposal}
use Rattle.br_flatimp.specs.Liveness.{has_no_dead, has_no_dead_but_copies}
use Rattle.br_flatimp.specs.Missed.{has_no_missed}
use Rattle.br_flatimp.specs.Parts.{function_names}
use Rattle.br_flatimp.specs.Renaming.{renamed}
use Rattle.br_flatimp.specs.Sizes.{largest, function_bulk}
use Rattle.br_regalloc_check.specs.Accepted.{IsAccepted}

-- one more than the largest of names, or 0 where there is none
abbrev pub names_for : List ℕ → ℕ
names_for xs = largest (map suc xs)

-- a function whose count of names is what the names in it need
abbrev pub recounted : FlatFunc → FlatFunc
recounted f = record f { names = names_for (function_names f) }

-- a function with other names throughout
abbrev pub function_renamed : (ℕ → ℕ) → FlatFunc → FlatFunc
function_renamed to f = recounted (record f {
  args = map to f.args;
  results = map to f.results;
  body = map (renamed to) f.body;
})

-- a function that took new names where it may, and else stays as it is
abbrev pub IsAssigned : FlatFunc → FlatFunc → Proposal → Type 0
IsAssigned q f p =
    (IsAccepted f p.to × (q ≡ function_renamed (slice_index p.to) f))
    ⊎ ((IsAccepted f p.to → ⊥) × (q ≡ f))

-- functions that took new names, each where it may take those of its own proposal
abbrev pub AreAssigned : List FlatFunc → List FlatFunc → List Proposal → Type 0
AreAssigned [] [] [] = Unit {0}
AreAssigned (q ∷ qs) (f ∷ fs) (p ∷ ps) = IsAssigned q f p × AreAssigned qs fs ps
AreAssigned [] [] (p ∷ ps) = ⊥
AreAssigned [] (f ∷ fs) ps = ⊥
AreAssigned (q ∷ qs) [] ps = ⊥
AreAssigned (q ∷ qs) (f ∷ fs) [] = ⊥

-- ---- operands and dead statements

-- A function with new names beside the one that it comes from: it misses no operand if that one
-- misses none, has no dead statement if that one has none, and none but copies if that one has none
-- but copies. Its bulk is the same.
pub record KeepsLean (q f : FlatFunc) : Type 0 where
  pub none_missed : IsTrue (has_no_missed f) → IsTrue (has_no_missed q)
  pub none_dead : IsTrue (has_no_dead f) → IsTrue (has_no_dead q)
  pub none_dead_but_copies : IsTrue (has_no_dead_but_copies f) → IsTrue (has_no_dead_but_copies q)
  pub bulk : function_bulk q ≡ function_bulk f

-- each function beside the one that it comes from
abbrev pub KeepLean : List FlatFunc → List FlatFunc → Type 0
KeepLean [] [] = Unit {0}
KeepLean (q ∷ qs) (f ∷ fs) = KeepsLean q f × KeepLean qs fs
KeepLean [] (f ∷ fs) = ⊥
KeepLean (q ∷ qs) [] = ⊥
