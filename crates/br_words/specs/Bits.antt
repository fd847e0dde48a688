-- Fields of a word, and signed numbers as bits: two's complement.
use Rattle.std.specs.Prelude.{ℕ, ◌+◌, ◌-◌, ◌/◌, ◌%◌, ◌^◌, nat_lt, if◌then◌else◌, ℤ, pos, negsuc}

-- bits hi down to lo of w, as a number
abbrev pub field : ℕ → ℕ → ℕ → ℕ
field hi lo w = w / 2 ^ lo % 2 ^ (hi + 1 - lo)

-- the word whose upper bits repeat bit n - 1 of x, a number of n bits
abbrev pub sign_extended : ℕ → ℕ → ℕ
sign_extended n x = if nat_lt x (2 ^ (n - 1)) then x else x + (2 ^ 32 - 2 ^ n)

-- the signed number that n bits stand for: from 2 ^ (n - 1) up
-- it is x - 2 ^ n; `negsuc k` is -(k + 1)
abbrev pub signed_bits : ℕ → ℕ → ℤ
signed_bits n x = if nat_lt x (2 ^ (n - 1)) then pos x else negsuc (2 ^ n - 1 - x)

-- the n low bits of a signed number: what it leaves modulo 2 ^ n
abbrev pub low_bits : ℕ → ℤ → ℕ
low_bits n (pos k) = k % 2 ^ n
low_bits n (negsuc k) = 2 ^ n - 1 - k % 2 ^ n
