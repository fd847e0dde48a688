-- Names in the order of their numbers, and one that is added to them.
use Rattle.std.proofs.Common.{◌≡◌, ℕ, zero, suc, ◌+◌, ◌<◌, ◌≤◌, ◌||◌, Bool, true, false, if◌then◌else◌, List, [], ◌∷◌}
use Rattle.std.proofs.Common.{◌++◌, length, slice_get, Some, refl, sym, ap, ◌∙◌, arith}
use Rattle.std.specs.Str.{bytes_eq}
use Rattle.std.proofs.lemmas.Slice.Eq.{bytes_eq-Decides}
use Rattle.br_numbering.specs.Names.{Name, number, is_listed, with_name, with_names}

equal-itself : (x : Name) → bytes_eq x x ≡ true
equal-itself x = (bytes_eq-Decides x x).1 refl

pub number-most : (names : List Name) (x : Name) → number names x ≤ length names
number-most [] x = omega arith
number-most (y ∷ ys) x = by (bytes_eq y x) (number-most ys x)
  where
    by : (b : Bool) → number ys x ≤ length ys → (if b then 0 else suc (number ys x)) ≤ suc (length ys)
    by true le = omega arith
    by false le = omega (arith, le)

-- a name that has a number stands at its place
pub at-number : (names : List Name) (x : Name) → number names x < length names → slice_get names (number names x)
    ≡ Some x
at-number [] x less = absurd (omega (arith, less))
at-number (y ∷ ys) x less = by (bytes_eq y x) refl (at-number ys x) less
  where
    by : (b : Bool) → bytes_eq y x ≡ b → (number ys x < length ys → slice_get ys (number ys x) ≡ Some x)
        → (if b then 0 else suc (number ys x)) < suc (length ys)
        → slice_get (y ∷ ys) (if b then 0 else suc (number ys x)) ≡ Some x
    by true same again inside = ap Some ((bytes_eq-Decides y x).0 same)
    by false other again inside = again (omega (arith, inside))

-- ---- one more name

ahead : (xs ys : List Name) (k : ℕ) (x : Name) → slice_get xs k ≡ Some x → slice_get (xs ++ ys) k ≡ Some x
ahead [] ys k x h = absurd (cc h)
ahead (z ∷ xs) ys zero x h = h
ahead (z ∷ xs) ys (suc k) x h = ahead xs ys k x h

-- names keep their numbers
pub added-stay : (names : List Name) (x : Name) (k : ℕ) (y : Name) → slice_get names k ≡ Some y
    → slice_get (with_name names x) k ≡ Some y
added-stay names x k y h = by (is_listed names x)
  where
    by : (b : Bool) → slice_get (if b then names else names ++ x ∷ []) k ≡ Some y
    by true = h
    by false = ahead names (x ∷ []) k y h

number-listed : (names : List Name) (x : Name) → is_listed names x ≡ true → number names x < length names
number-listed [] x h = absurd (cc h)
number-listed (y ∷ ys) x h = by (bytes_eq y x) (number-listed ys x) h
  where
    by : (b : Bool) → (is_listed ys x ≡ true → number ys x < length ys) → (b || is_listed ys x) ≡ true
        → (if b then 0 else suc (number ys x)) < suc (length ys)
    by true again h = omega arith
    by false again h = let less = again h in omega (arith, less)

listed-last : (names : List Name) (x : Name) → is_listed (names ++ x ∷ []) x ≡ true
listed-last [] x = ap (λ b. b || false) (equal-itself x)
listed-last (y ∷ ys) x = by (bytes_eq y x) (listed-last ys x)
  where
    by : (b : Bool) → is_listed (ys ++ x ∷ []) x ≡ true → (b || is_listed (ys ++ x ∷ []) x) ≡ true
    by true last = refl
    by false last = last

added-listed : (names : List Name) (x : Name) → is_listed (with_name names x) x ≡ true
added-listed names x = by (is_listed names x) refl
  where
    by : (b : Bool) → is_listed names x ≡ b → is_listed (if b then names else names ++ x ∷ []) x ≡ true
    by true e = e
    by false e = listed-last names x

-- the name that was added has its number
pub at-added : (names : List Name) (x : Name) → slice_get (with_name names x) (number (with_name names x) x) ≡ Some x
at-added names x = at-number (with_name names x) x (number-listed (with_name names x) x (added-listed names x))

number-last : (names : List Name) (x : Name) → number (names ++ x ∷ []) x ≡ number names x
number-last [] x = ap (λ b. if b then 0 else 1) (equal-itself x)
number-last (y ∷ ys) x = ap (λ n. if bytes_eq y x then 0 else suc n) (number-last ys x)

-- and it is the one that it had, or else the next
pub number-added : (names : List Name) (x : Name) → number (with_name names x) x ≡ number names x
number-added names x = by (is_listed names x)
  where
    by : (b : Bool) → number (if b then names else names ++ x ∷ []) x ≡ number names x
    by true = refl
    by false = number-last names x
