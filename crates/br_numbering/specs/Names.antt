-- Names in the order of their numbers.
use Rattle.std.specs.Prelude.{ℕ, suc, List, [], ◌∷◌, ◌++◌, Bool, false, ◌||◌, if◌then◌else◌}
use Rattle.std.specs.Str.{bytes_eq}

-- a name is the list of its bytes
abbrev pub Name : Type 0
Name = List ℕ

-- the place of a name in a list, and the length of the list where it is not there
abbrev pub number : List Name → Name → ℕ
number [] x = 0
number (y ∷ ys) x = if bytes_eq y x then 0 else suc (number ys x)

abbrev pub is_listed : List Name → Name → Bool
is_listed [] x = false
is_listed (y ∷ ys) x = bytes_eq y x || is_listed ys x

-- a name that is not in a list goes to its end
abbrev pub with_name : List Name → Name → List Name
with_name names x = if is_listed names x then names else names ++ x ∷ []

abbrev pub with_names : List Name → List Name → List Name
with_names names [] = names
with_names names (x ∷ xs) = with_names (with_name names x) xs
