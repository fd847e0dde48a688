-- Functions whose names earlier ones have.
use Rattle.std.proofs.Common.{◌≡◌, ℕ, zero, suc, ◌+◌, ◌<◌, ◌≤◌, List, [], ◌∷◌, ◌++◌, Bool, true, false, not}
use Rattle.std.proofs.Common.{if◌then◌else◌, cond, ltb, Option, Some, None, is_some, length, get_or, slice_get, take}
use Rattle.std.proofs.Common.{drop, refl, sym, ap, ◌∙◌, arith, append_assoc, append-nil}
use Rattle.std.proofs.lemmas.Grind.{common_steps}
use Rattle.std.proofs.lemmas.Bool.Decides.{nat_tests}
use Rattle.std.specs.List.{position, position_or_len}
use Rattle.std.specs.Str.{bytes_eq}
use Rattle.br_syntax.specs.declared.program.Func.{Func}
use Rattle.br_syntax.specs.Functions.{function_named, number_named}
use Rattle.br_numbering.proofs.NumberedFunctions.{taken}
use Rattle.br_numbering.proofs.Positions.{finds_position, no_position}
use Rattle.br_measure.specs.declared.faults.NameFault.{NameFault}
use Rattle.br_measure.specs.declared.faults.NameFault.TheVariants.{DuplicateFunction}
use Rattle.br_measure.specs.Names.{duplicates_after}
use Rattle.br_measure.specs.Lowest.{lower, lowest}
use Rattle.br_measure.proofs.LowestParts.{lower_assoc, lowest_append}

-- ---- one function further

duplicates_front : (earlier : List Func) (f : Func) (fs : List Func) → duplicates_after earlier (f ∷ fs)
    ≡ duplicates_after earlier (f ∷ []) ++ duplicates_after (earlier ++ f ∷ []) fs
duplicates_front earlier f fs = by (is_some (function_named earlier f.name))
  where
    by : (b : Bool) → (if b then DuplicateFunction f.at ∷ [] else []) ++ duplicates_after (earlier ++ f ∷ []) fs
        ≡ ((if b then DuplicateFunction f.at ∷ [] else []) ++ []) ++ duplicates_after (earlier ++ f ∷ []) fs
    by true = refl
    by false = refl

pub duplicates_step : (fs : List Func) (i : ℕ) (f : Func) (fault part more whole : Option NameFault)
    → i < length fs → f ≡ get_or fs i f → part ≡ lowest (duplicates_after (take i fs) (f ∷ [])) → more
    ≡ lower fault part
    → lower fault (lowest (duplicates_after (take i fs) (drop i fs))) ≡ whole
    → lower more (lowest (duplicates_after (take (i + 1) fs) (drop (i + 1) fs))) ≡ whole
duplicates_step fs i f fault part more whole inside is found one so_far =
    let split : drop i fs ≡ f ∷ drop (i + 1) fs = grind (arith, common_steps) in
    let earlier = take i fs in
    let rest = duplicates_after (take (i + 1) fs) (drop (i + 1) fs) in
    let there : lowest (duplicates_after earlier (drop i fs))
    ≡ lower (lowest (duplicates_after earlier (f ∷ []))) (lowest rest) =
    ap (λ gs. lowest (duplicates_after earlier gs)) split
    ∙ ap lowest (duplicates_front earlier f (drop (i + 1) fs))
    ∙ lowest_append (duplicates_after earlier (f ∷ [])) (duplicates_after (earlier ++ f ∷ []) (drop (i + 1) fs))
    ∙ ap (λ gs. lower (lowest (duplicates_after earlier (f ∷ []))) (lowest (duplicates_after gs (drop (i + 1) fs))))
    (sym (taken fs i f inside is)) in
    rw (one, found, ← lower_assoc fault (lowest (duplicates_after earlier (f ∷ []))) (lowest rest), ← there) so_far

pub stands_below : (fs : List Func) (i : ℕ) (f : Func) → slice_get fs i ≡ Some f → i < length fs
stands_below [] i f e = absurd (cc e)
stands_below (g ∷ fs) zero f e = omega arith
stands_below (g ∷ fs) (suc i) f e = let less = stands_below fs i f e in omega (arith, less)

-- ---- the number of a name, and whether an earlier function has it

picked : (b : Bool) (n : ℕ) → is_some (cond b (Some n) None) ≡ b
picked true n = refl
picked false n = refl

place_of : (b : Bool) (n i : ℕ) → cond b (Some n) None ≡ Some i → n ≡ i
place_of true n i e = cc
place_of false n i e = cc

module _ {X : Type 0} (p : X → Bool) where
  position_or_len_is : (xs : List X) (n : ℕ) → position p xs ≡ Some n → position_or_len p xs ≡ n
  position_or_len_is xs n e = place_of (ltb (position_or_len p xs) (length xs)) (position_or_len p xs) n e

  -- the first that passes stands among the first i where its place is below i
  first_within : (xs : List X) (i : ℕ) → i ≤ length xs → ltb (position_or_len p (take i xs)) (length (take i xs))
      ≡ ltb (position_or_len p xs) i
  first_within [] i le = grind (arith, nat_tests, common_steps)
  first_within (x ∷ xs) zero le = grind (arith, nat_tests)
  first_within (x ∷ xs) (suc i) le = by (p x) (first_within xs i (omega (arith, le)))
    where
      by : (b : Bool) → ltb (position_or_len p (take i xs)) (length (take i xs)) ≡ ltb (position_or_len p xs) i
          → ltb (cond (not b) (1 + position_or_len p (take i xs)) 0) (suc (length (take i xs)))
          ≡ ltb (cond (not b) (1 + position_or_len p xs) 0) (suc i)
      by true e = grind (arith, nat_tests)
      by false e = grind (arith, nat_tests)

module _ (fs : List Func) (i : ℕ) (f : Func) (inside : i ≤ length fs) where
  earlier_first : is_some (function_named (take i fs) f.name) ≡ ltb (position_or_len (λ g. bytes_eq g.name f.name) fs) i
  earlier_first =
      let test : Func → Bool = λ g. bytes_eq g.name f.name in
      finds_position test (take i fs)
      ∙ picked (ltb (position_or_len test (take i fs)) (length (take i fs))) (position_or_len test (take i fs))
      ∙ first_within test fs i inside

  at_first : (b : Bool) → ltb (position_or_len (λ g. bytes_eq g.name f.name) fs) i ≡ b
      → duplicates_after (take i fs) (f ∷ []) ≡ (if b then DuplicateFunction f.at ∷ [] else []) ++ []
  at_first b e = ap (λ b. (if b then DuplicateFunction f.at ∷ [] else []) ++ []) (earlier_first ∙ e)

  pub duplicate_found : (n : ℕ) → number_named fs f.name ≡ Some n → n < i → Some (DuplicateFunction f.at)
      ≡ lowest (duplicates_after (take i fs) (f ∷ []))
  duplicate_found n is less =
      let place = position_or_len_is (λ g. bytes_eq g.name f.name) fs n is in
      sym (ap lowest (at_first true (grind (arith, nat_tests, place, less))))

  pub duplicate_none : (n : ℕ) → number_named fs f.name ≡ Some n → i ≤ n → None
      ≡ lowest (duplicates_after (take i fs) (f ∷ []))
  duplicate_none n is most =
      let place = position_or_len_is (λ g. bytes_eq g.name f.name) fs n is in
      sym (ap lowest (at_first false (grind (arith, nat_tests, place, most))))

  pub duplicate_unknown : number_named fs f.name ≡ None → None ≡ lowest (duplicates_after (take i fs) (f ∷ []))
  duplicate_unknown is =
      let past = no_position (λ g. bytes_eq g.name f.name) fs is in
      sym (ap lowest (at_first false (grind (arith, nat_tests, past, inside))))
