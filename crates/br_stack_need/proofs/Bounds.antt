-- Bounds of what functions in register form need.
use Rattle.std.proofs.Common.{◌≡◌, ℕ, zero, suc, ◌+◌, ◌<◌, ◌≤◌, ◌&&◌, Bool, false, cond, IsTrue, nat_le, eqb, List}
use Rattle.std.proofs.Common.{[], ◌∷◌, Option, Some, None, length, get_or, map, replicate, refl, ap, ◌∙◌, arith}
use Rattle.std.specs.List.{list_all, slice_get}
use Rattle.std.specs.Set.{is_member, distinct_count}
use Rattle.std.proofs.lemmas.Bool.{and_parts, leb-true, false_from_ne_true, or_from, eqb-true}
use Rattle.std.proofs.lemmas.List.{length-replicate}
use Rattle.std.proofs.lemmas.List.Sums.{count_by-le-length, sum_by-cons}
use Rattle.br_flatimp.specs.declared.program.FlatFunc.{FlatFunc}
use Rattle.br_flatimp.specs.Parts.{callees, function_names}
use Rattle.br_flatimp.specs.Sizes.{largest, need, need_within, nest, own_need}
use Rattle.br_flatimp.specs.WellFormed.{IsRegisterForm, are_registers}
use Rattle.br_stack_need.specs.Marks.{marked}
use Rattle.br_stack_need.proofs.Marking.{set_count, marked-length, found-marked, count-marked}
use Rattle.br_stack_need.proofs.Registers.{all_registers, registers_below}
use Rattle.br_stack_need.proofs.Rounds.{needs_at}

-- ---- at most 29 names

-- the numbers below three are no registers
no_register : (k : ℕ) → k < 3 → (xs : List ℕ) → IsTrue (are_registers xs) → is_member eqb xs k ≡ false
no_register k low [] h = refl
no_register k low (x ∷ xs) h =
    let two = and_parts (nat_le 3 x && nat_le x 31) (are_registers xs) h in
    let high : 3 ≤ x = leb-true 3 x (and_parts (nat_le 3 x) (nat_le x 31) two.0).0 in
    or_from (eqb k x) (is_member eqb xs k) (false_from_ne_true (eqb k x)
    (λ e. let same : k ≡ x = eqb-true k x e in omega arith)) (no_register k low xs two.1)

abbrev weight : Bool → ℕ
weight v = cond v 1 0

-- of 32 flags without the first three
few_flags : (s : List Bool) → length s ≡ 32 → get_or s 0 false ≡ false → get_or s 1 false ≡ false
    → get_or s 2 false ≡ false → set_count s ≤ 29
few_flags [] len a b c = omega arith
few_flags (x ∷ []) len a b c = omega arith
few_flags (x ∷ (y ∷ [])) len a b c = omega arith
few_flags (x ∷ (y ∷ (z ∷ s))) len a b c =
    let first : weight x ≡ 0 = ap weight a in
    let second : weight y ≡ 0 = ap weight b in
    let third : weight z ≡ 0 = ap weight c in
    let rest : set_count s ≤ length s = count_by-le-length (λ v. v) s in
    omega (
      arith,
      sum_by-cons weight x (y ∷ (z ∷ s)),
      sum_by-cons weight y (z ∷ s),
      sum_by-cons weight z s,
      first,
      second,
      third,
      rest,
    )

few_registers : (xs : List ℕ) → IsTrue (are_registers xs) → distinct_count eqb xs ≤ 29
few_registers xs h =
    let seen = marked (replicate 32 false) xs in
    let below = registers_below xs h in
    let len : length seen ≡ 32 = marked-length (replicate 32 false) xs ∙ length-replicate 32 false in
    let is = found-marked 32 xs below in
    let count : set_count seen ≡ distinct_count eqb xs = count-marked 32 xs below in
    let few : set_count seen ≤ 29 = few_flags seen len (is 0 ∙ no_register 0 (omega arith) xs h) (is 1
    ∙ no_register 1 (omega arith) xs h) (is 2 ∙ no_register 2 (omega arith) xs h) in
    omega (arith, count, few)

one_of : {X : Type 0} (p : X → Bool) (xs : List X) (n : ℕ) (x : X) → IsTrue (list_all p xs) → slice_get xs n ≡ Some x
    → IsTrue (p x)
one_of p [] n x h is = absurd (cc)
one_of p (y ∷ ys) zero x h is = let same : y ≡ x = cc in rw (← same) (and_parts (p y) (list_all p ys) h).0
one_of p (y ∷ ys) (suc n) x h is = one_of p ys n x (and_parts (p y) (list_all p ys) h).1 is

pub own_bounded : (fs : List FlatFunc) (f : ℕ) (caller : FlatFunc) → IsRegisterForm fs → slice_get fs f ≡ Some caller
    → own_need caller ≤ 120 + nest caller
own_bounded fs f caller form at =
    let registers = one_of (λ g. are_registers (function_names g)) fs f caller (all_registers fs form) at in
    omega (arith, few_registers (function_names caller) registers)

-- ---- numbers that bound what functions need

less_all : (F G : ℕ → ℕ) → ((n : ℕ) → F n ≤ G n) → (ns : List ℕ) → largest (map F ns) ≤ largest (map G ns)
less_all F G less [] = omega arith
less_all F G less (n ∷ ns) = omega (arith, less n, less_all F G less ns)

module _ (fs : List FlatFunc) (bound : ℕ → ℕ) (form : IsRegisterForm fs)
    (bounds : (f : ℕ) (caller : FlatFunc) → slice_get fs f ≡ Some caller
    → 120 + nest caller + largest (map bound (callees caller)) ≤ bound f)
  where
    option_bounded : (depth f : ℕ) (o : Option FlatFunc) → slice_get fs f ≡ o
        → ((g : ℕ) → needs_at depth fs g ≤ bound g) → need_within (suc depth) fs o ≤ bound f
    option_bounded depth f None at less = omega arith
    option_bounded depth f (Some caller) at less =
        omega (
          arith,
          own_bounded fs f caller form at,
          bounds f caller at,
          less_all (needs_at depth fs) bound less (callees caller),
        )

    at_depth : (depth f : ℕ) → needs_at depth fs f ≤ bound f
    at_depth zero f = omega arith
    at_depth (suc depth) f = option_bounded depth f (slice_get fs f) refl (at_depth depth)

    pub need_bounded : (f : ℕ) (caller : FlatFunc) → slice_get fs f ≡ Some caller → need fs caller ≤ bound f
    need_bounded f caller at =
        let same : needs_at (length fs) fs f ≡ need fs caller = ap (need_within (length fs) fs) at in
        omega (arith, same, at_depth (length fs) f)
