-- How large functions in register form are beside the flat functions that they come from.
use Rattle.std.proofs.Common.{◌≡◌, ℕ, ◌+◌, ◌*◌, ◌≤◌, List, [], ◌∷◌, map, sum, subst, ap, ◌∙◌, arith}
use Rattle.std.specs.List.{Contains, fold}
use Rattle.br_flatimp.specs.declared.program.FlatFunc.{FlatFunc}
use Rattle.br_flatimp.specs.Parts.{callees}
use Rattle.br_flatimp.specs.Sizes.{Kept, flat_bulk, function_bulk, nest, units}
use Rattle.br_regalloc_check.specs.Assigned.{KeepLean}
use Rattle.br_spill.specs.Spill.{Layout, Fits, SpilledFunctions, spilled_function}
use Rattle.br_compile.specs.Lowered.{HasGrown, HaveGrown}

fold_from : (a : ℕ) (xs : List ℕ) → fold ◌+◌ a xs ≡ a + sum xs
fold_from a [] = omega arith
fold_from a (x ∷ xs) = fold_from (a + x) xs ∙ (let e = fold_from (0 + x) xs in omega (arith, e))

pub sum_cons : (x : ℕ) (xs : List ℕ) → sum (x ∷ xs) ≡ x + sum xs
sum_cons x xs = fold_from (0 + x) xs ∙ omega arith

-- a program has at most 24 words for each unit of the one that it comes from
pub program_grown : (qs ps : List FlatFunc) → HaveGrown qs ps → flat_bulk qs ≤ 24 * sum (map units ps)
program_grown [] [] grown = omega arith
program_grown [] (p ∷ ps) grown = absurd grown
program_grown (q ∷ qs) [] grown = absurd grown
program_grown (q ∷ qs) (p ∷ ps) grown =
    omega (
      arith,
      grown.0.bulk,
      program_grown qs ps grown.1,
      sum_cons (function_bulk q) (map function_bulk qs),
      sum_cons (units p) (map units ps),
    )

-- what br_spill says of sizes
pub record Laws : Type 0 where
  pub bulk : (l : Layout) (f : FlatFunc) → function_bulk (spilled_function l f) ≤ 24 * units f
  pub nest : (l : Layout) (f : FlatFunc) → Fits f.names l → nest (spilled_function l f) ≤ nest f + 4 * f.names
  pub callees : (l : Layout) (f : FlatFunc) → callees (spilled_function l f) ≡ callees f

one_spilled : Laws → (q p : FlatFunc) (l : Layout) → Fits p.names l → q ≡ spilled_function l p → HasGrown q p
one_spilled laws q p l fits is = record {
  bulk = omega (arith, ap function_bulk is, laws.bulk l p);
  nest = omega (arith, ap nest is, laws.nest l p fits);
  callees = λ g called. subst (λ gs. Contains gs g) (ap callees is ∙ laws.callees l p) called;
}

pub spilled_grown : Laws → (qs ps : List FlatFunc) → SpilledFunctions qs ps → HaveGrown qs ps
spilled_grown laws [] [] spilled = tt
spilled_grown laws [] (p ∷ ps) spilled = absurd spilled
spilled_grown laws (q ∷ qs) [] spilled = absurd spilled
spilled_grown laws (q ∷ qs) (p ∷ ps) spilled =
    (one_spilled laws q p spilled.0.0 spilled.0.1 spilled.0.2, spilled_grown laws qs ps spilled.1)

-- new names leave the sizes as they are
pub renamed_grown : (rs qs ps : List FlatFunc) → Kept rs qs → KeepLean rs qs → HaveGrown qs ps → HaveGrown rs ps
renamed_grown [] [] [] kept lean grown = tt
renamed_grown [] [] (p ∷ ps) kept lean grown = absurd grown
renamed_grown [] (q ∷ qs) ps kept lean grown = absurd kept
renamed_grown (r ∷ rs) [] ps kept lean grown = absurd kept
renamed_grown (r ∷ rs) (q ∷ qs) [] kept lean grown = absurd grown
renamed_grown (r ∷ rs) (q ∷ qs) (p ∷ ps) kept lean grown = (
  record {
    bulk = omega (arith, lean.0.bulk, grown.0.bulk);
    nest = omega (arith, kept.0.nest, grown.0.nest);
    callees = λ g called. grown.0.callees g (kept.0.callees g called);
  },
  renamed_grown rs qs ps kept.1 lean.1 grown.1,
)
