-- Numbers as a text spells them.
use Rattle.std.specs.Prelude.{ℕ, ◌^◌, Bool, true, false, not, ◌&&◌, ◌||◌, List, [], ◌∷◌}
use Rattle.std.specs.Prelude.{length, Option, Some, None, nat_lt, nat_le, ◌==◌, if◌then◌else◌}
use Rattle.std.specs.Char.{is_digit}
use Rattle.std.specs.List.{list_all}
use Rattle.std.specs.Str.Parse.{digits_value}

-- each byte is a digit in the base; a digit above 9 is a letter of either case
abbrev pub are_digits : ℕ → List ℕ → Bool
are_digits base = list_all (λ c. is_digit c base)

-- the number that the digits stand for, where they are digits and it is below 2^32
abbrev pub word_in : ℕ → List ℕ → Option ℕ
word_in base ds = if are_digits base ds && nat_lt (digits_value base ds) (2 ^ 32)
    then Some (digits_value base ds) else None

abbrev pub is_empty : List ℕ → Bool
is_empty [] = true
is_empty (c ∷ cs) = false

-- there are bytes, and no zero stands before others
abbrev pub leads_no_zero : List ℕ → Bool
leads_no_zero [] = false
leads_no_zero (c ∷ cs) = is_empty cs || not (c == 48)

-- the bytes after `0x`, where the run begins so
abbrev pub behind_0x : List ℕ → Option (List ℕ)
behind_0x [] = None
behind_0x (c ∷ []) = None
behind_0x (c ∷ x ∷ ds) = if (c == 48) && (x == 120) then Some ds else None

-- one to eight hexadecimal digits
abbrev pub hexadecimal : Option (List ℕ) → Option ℕ
hexadecimal None = None
hexadecimal (Some ds) = if nat_le 1 (length ds) && nat_le (length ds) 8 then word_in 16 ds else None

-- the number that a run is, where it is one: in decimal, or `0x` and one
-- to eight hexadecimal digits; below 2^32
abbrev pub number_of : List ℕ → Option ℕ
number_of run = if leads_no_zero run then word_in 10 run else hexadecimal (behind_0x run)
