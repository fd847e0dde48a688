-- Lists whose items were read one by one.
use Rattle.std.proofs.Common.{◌≡◌, ℕ, ◌≤◌, ◌<◌, List, [], ◌∷◌, length, get_or, take, drop, ◌+◌, ◌-◌, arith}
use Rattle.std.proofs.lemmas.Grind.{common_steps}

module _ {X : Type 0} where
  pub one_item : (xs : List X) (x : X) → length xs ≡ 1 → x ≡ get_or xs 0 x → xs ≡ x ∷ []
  one_item xs x n a = grind (arith, common_steps)

  pub two_items : (xs : List X) (x y : X) → length xs ≡ 2 → x ≡ get_or xs 0 x → y ≡ get_or xs 1 y → xs ≡ x ∷ y ∷ []
  two_items xs x y n a b = grind (arith, common_steps)

  pub three_items : (xs : List X) (x y z : X) → length xs ≡ 3 → x ≡ get_or xs 0 x → y ≡ get_or xs 1 y
      → z ≡ get_or xs 2 z → xs ≡ x ∷ y ∷ z ∷ []
  three_items xs x y z n a b c = grind (arith, common_steps)

  pub four_items : (xs : List X) (x y z w : X) → length xs ≡ 4 → x ≡ get_or xs 0 x → y ≡ get_or xs 1 y
      → z ≡ get_or xs 2 z → w ≡ get_or xs 3 w → xs ≡ x ∷ y ∷ z ∷ w ∷ []
  four_items xs x y z w n a b c d = grind (arith, common_steps)

  pub drop_item : (xs : List X) (i : ℕ) (x : X) → i < length xs → x ≡ get_or xs i x → drop i xs ≡ x ∷ drop (i + 1) xs
  drop_item xs i x inside is = grind (arith, common_steps)

  -- the patterns [a, rest @ ..], [a, b, rest @ ..] and so on
  pub rest_after_one : (xs : List X) (a : X) → 1 ≤ length xs → a ≡ get_or xs 0 a
      → xs ≡ a ∷ take (length xs - 1) (drop 1 xs)
  rest_after_one xs a n p = grind (arith, common_steps)

  pub rest_after_two : (xs : List X) (a b : X) → 2 ≤ length xs → a ≡ get_or xs 0 a → b ≡ get_or xs 1 b
      → xs ≡ a ∷ b ∷ take (length xs - 2) (drop 2 xs)
  rest_after_two xs a b n p q = grind (arith, common_steps)

  pub rest_after_four : (xs : List X) (a b c d : X) → 4 ≤ length xs → a ≡ get_or xs 0 a → b ≡ get_or xs 1 b
      → c ≡ get_or xs 2 c → d ≡ get_or xs 3 d → xs ≡ a ∷ b ∷ c ∷ d ∷ take (length xs - 4) (drop 4 xs)
  rest_after_four xs a b c d n p q r s = grind (arith, common_steps)

pub ruleset lists = (one_item, two_items, three_items, four_items, rest_after_one, rest_after_two, rest_after_four)
