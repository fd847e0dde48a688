-- The first item that passes a test, and its place.
use Rattle.std.proofs.Common.{◌≡◌, ℕ, ◌+◌, ◌<◌, ◌≤◌, List, [], ◌∷◌, ◌++◌, Bool, true, false, not, cond, Some, None}
use Rattle.std.proofs.Common.{is_some, length, get_or, refl, ap, ◌∙◌, arith, ltb}
use Rattle.std.proofs.lemmas.Grind.{common_steps}
use Rattle.std.proofs.lemmas.Bool.{ltb-true, ltb-false}
use Rattle.std.proofs.lemmas.Bool.Decides.{nat_tests}
use Rattle.std.proofs.lemmas.List.{length_push}
use Rattle.std.proofs.lemmas.List.Folds.{find_at, position_or_len_push}
use Rattle.std.proofs.lemmas.List.Sums.{prefix_len-le-length}
use Rattle.std.proofs.lemmas.List.Quantifiers.{position-Some}
use Rattle.std.proofs.lemmas.Option.{slice_get-get_or, slice_get_past, slice_get_cases}
use Rattle.std.specs.List.{find, position, position_or_len, slice_get}

picked : (b : Bool) (n i : ℕ) → cond b (Some n) None ≡ Some i → n ≡ i
picked true n i e = cc
picked false n i e = cc

picked_true : (b : Bool) (n i : ℕ) → cond b (Some n) None ≡ Some i → b ≡ true
picked_true true n i e = refl
picked_true false n i e = cc

not_picked : (b : Bool) (n : ℕ) → cond b (Some n) None ≡ None → b ≡ false
not_picked true n e = cc
not_picked false n e = refl

pushed : (b : Bool) (m l : ℕ) → m ≡ l + cond b 0 1 → cond (ltb m (l + 1)) (Some m) None ≡ cond b (Some l) None
pushed b m l e = grind (arith, nat_tests)

module _ {X : Type 0} where
  stands : (xs : List X) (n : ℕ) → is_some (slice_get xs n) ≡ is_some (cond (ltb n (length xs)) (Some n) None)
  stands xs n = let c = slice_get_cases xs n in grind (arith, nat_tests)

  pub find_position : (p : X → Bool) (xs : List X) (i : ℕ) (d : X) → position p xs ≡ Some i → find p xs
      ≡ Some (get_or xs i d)
  find_position p xs i d e =
      let same : position_or_len p xs ≡ i =
      picked (ltb (position_or_len p xs) (length xs)) (position_or_len p xs) i e in
      find_at p xs ∙ (rw same (slice_get-get_or xs i d (position-Some p xs i d e).0))

  pub position_within : (p : X → Bool) (xs : List X) (i : ℕ) → position p xs ≡ Some i → i < length xs
  position_within p xs i e =
      let n = position_or_len p xs in
      omega (arith, ltb-true n (length xs) (picked_true (ltb n (length xs)) n i e), picked (ltb n (length xs)) n i e)

  pub find_at_position : (p : X → Bool) (xs : List X) (i : ℕ) → position p xs ≡ Some i → find p xs ≡ slice_get xs i
  find_at_position p xs i e = find_at p xs
      ∙ ap (slice_get xs) (picked (ltb (position_or_len p xs) (length xs)) (position_or_len p xs) i e)

  pub find_no_position : (p : X → Bool) (xs : List X) → position p xs ≡ None → find p xs ≡ None
  find_no_position p xs e =
      let n = position_or_len p xs in
      find_at p xs ∙ slice_get_past xs n (ltb-false n (length xs) (not_picked (ltb n (length xs)) n e))

  pub no_position : (p : X → Bool) (xs : List X) → position p xs ≡ None → length xs ≤ position_or_len p xs
  no_position p xs e = ltb-false (position_or_len p xs) (length xs)
      (not_picked (ltb (position_or_len p xs) (length xs)) (position_or_len p xs) e)

  pub finds_position : (p : X → Bool) (xs : List X) → is_some (find p xs) ≡ is_some (position p xs)
  finds_position p xs = ap is_some (find_at p xs) ∙ stands xs (position_or_len p xs)

  -- one more item after those that were searched
  pub position_push_found : (p : X → Bool) (xs : List X) (y : X) → is_some (position p xs) ≡ true
      → position p (xs ++ y ∷ []) ≡ position p xs
  position_push_found p xs y e = let f = position_or_len_push p xs y in grind (arith, common_steps, nat_tests)

  pub position_push_new : (p : X → Bool) (xs : List X) (y : X) → position p xs ≡ None → position p (xs ++ y ∷ [])
      ≡ cond (p y) (Some (length xs)) None
  position_push_new p xs y e =
      let n = position_or_len p xs in
      let past : length xs ≤ n = ltb-false n (length xs) (not_picked (ltb n (length xs)) n e) in
      let within = prefix_len-le-length (λ x. not (p x)) xs in
      let more : position_or_len p (xs ++ y ∷ []) ≡ length xs + cond (p y) 0 1 = position_or_len_push p xs y
      ∙ (let same : n ≡ length xs = omega arith in grind (arith, nat_tests)) in
      rw length_push (pushed (p y) (position_or_len p (xs ++ y ∷ [])) (length xs) more)

  pub position_push_other : (p : X → Bool) (xs : List X) (y : X) → p y ≡ false → position p (xs ++ y ∷ [])
      ≡ position p xs
  position_push_other p xs y e = let f = position_or_len_push p xs y in let within =
      prefix_len-le-length (λ x. not (p x)) xs in let n = length_push xs y in grind (arith, nat_tests)

pub ruleset positions = (find_position, find_no_position)
