-- What a name is.
use Rattle.std.specs.Prelude.{ℕ, Bool, false, List, [], ◌∷◌, IsTrue, ◌==◌, ◌||◌, ◌&&◌}
use Rattle.std.specs.List.{list_all}
use Rattle.std.specs.Char.{is_ascii_alphabetic, is_ascii_alphanumeric}

-- a letter or an underscore
abbrev pub starts_name : ℕ → Bool
starts_name b = is_ascii_alphabetic b || (b == 95)

-- a letter, a digit or an underscore
abbrev pub continues_name : ℕ → Bool
continues_name b = is_ascii_alphanumeric b || (b == 95)

-- a byte that may start a name, and then bytes that may go on in one
abbrev pub is_name : List ℕ → Bool
is_name [] = false
is_name (b ∷ bs) = starts_name b && list_all continues_name bs

abbrev pub IsName : List ℕ → Type 0
IsName bs = IsTrue (is_name bs)
