-- Lemmas on numbers of names, on set names, and on bytes at an address that is moved by nothing.
use Rattle.std.proofs.Common.{◌≡◌, ◌≢◌, ℕ, zero, suc, ◌+◌, ◌%◌, ◌^◌, ◌<◌, ◌==◌, ◌||◌, ◌&&◌, Bool, true, false}
use Rattle.std.proofs.Common.{if◌then◌else◌, List, [], ◌∷◌, length, Some, refl, sym, ap, ◌∙◌, arith, pos}
use Rattle.std.specs.FinMap as map
use Rattle.std.specs.Str.{bytes_eq}
use Rattle.std.proofs.lemmas.Bool.Decides.{nat_tests}
use Rattle.std.proofs.lemmas.Slice.Eq.{bytes_eq-Decides}
use Rattle.br_bytes.specs.Memory.{Memory, place, in_front, bytes_at, with_bytes}
use Rattle.br_source_meaning.specs.Values.{Name}
use Rattle.br_flatimp.specs.Values.{Locals, with_local, moved}
use Rattle.br_flatten.specs.Flatten.{number, is_listed}

pub and-first : (a b : Bool) → (a && b) ≡ true → a ≡ true
and-first true b e = refl
and-first false b e = absurd (cc e)

pub and-second : (a b : Bool) → (a && b) ≡ true → b ≡ true
and-second true b e = e
and-second false b e = absurd (cc e)

pub number-below : (names : List Name) (x : Name) → is_listed names x ≡ true → number names x < length names
number-below [] x h = absurd (cc h)
number-below (y ∷ ys) x h = by (bytes_eq y x) (number-below ys x) h
  where
    by : (b : Bool) → (is_listed ys x ≡ true → number ys x < length ys) → (b || is_listed ys x) ≡ true
        → (if b then 0 else suc (number ys x)) < suc (length ys)
    by true again h = omega arith
    by false again h = let less = again h in omega (arith, less)

pub number-same : (names : List Name) (x y : Name) → is_listed names x ≡ true → number names x ≡ number names y → x ≡ y
number-same [] x y h e = absurd (cc h)
number-same (z ∷ zs) x y h e = by (bytes_eq z x) (bytes_eq z y) refl refl (number-same zs x y) h e
  where
    by : (b c : Bool) → bytes_eq z x ≡ b
        → bytes_eq z y ≡ c → (is_listed zs x ≡ true → number zs x ≡ number zs y → x ≡ y) → (b || is_listed zs x) ≡ true
        → (if b then 0 else suc (number zs x)) ≡ (if c then 0 else suc (number zs y)) → x ≡ y
    by true true p q again h e = sym ((bytes_eq-Decides z x).0 p) ∙ (bytes_eq-Decides z y).0 q
    by true false p q again h e = absurd (omega (arith, e))
    by false true p q again h e = absurd (omega (arith, e))
    by false false p q again h e = let same : number zs x ≡ number zs y = omega (arith, e) in again h same

-- ---- set names

equal_itself : (x : ℕ) → (x == x) ≡ true
equal_itself x = grind (arith, nat_tests)

not_equal : (x y : ℕ) → y ≢ x → (y == x) ≡ false
not_equal x y ne = grind (arith, nat_tests)

pub with-same : (x v : ℕ) (l : Locals) → with_local x v l x ≡ Some v
with-same x v l = ap (λ b. if b then Some v else l x) (equal_itself x)

pub with-other : (x v y : ℕ) (l : Locals) → y ≢ x → with_local x v l y ≡ l y
with-other x v y l ne = ap (λ b. if b then Some v else l y) (not_equal x y ne)

-- ---- bytes at addresses that count as one

next_place : (a b : ℕ) → place a ≡ place b → place (a + 1) ≡ place (b + 1)
next_place a b e = omega (arith, e)

pub same_bytes : (m : Memory) (n a b : ℕ) → place a ≡ place b → bytes_at m a n ≡ bytes_at m b n
same_bytes m zero a b e = refl
same_bytes m (suc n) a b e =
    ap (λ q. in_front (map.get m q) (bytes_at m (a + 1) n)) e
    ∙ ap (in_front (map.get m (place b))) (same_bytes m n (a + 1) (b + 1) (next_place a b e))

pub same_written : (m : Memory) (bs : List ℕ) (a b : ℕ) → place a ≡ place b → with_bytes m a bs ≡ with_bytes m b bs
same_written m [] a b e = refl
same_written m (x ∷ bs) a b e =
    ap (λ q. map.insert (with_bytes m (a + 1) bs) q x) e
    ∙ ap (λ k. map.insert k (place b) x) (same_written m bs (a + 1) (b + 1) (next_place a b e))

pub place-moved : (a : ℕ) → place (moved a (pos 0)) ≡ place a
place-moved a = twice a
  where
    twice : (a : ℕ) → ((a + 0) % 2 ^ 32) % 2 ^ 32 ≡ a % 2 ^ 32
    twice a = omega arith
