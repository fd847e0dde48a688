-- Names that cover others: reading and writing them, maybe by other names.
use Rattle.std.proofs.Common.{◌≡◌, ◌≢◌, ℕ, Bool, true, false, not, ◌==◌, ◌||◌, List, [], ◌∷◌, map, Option}
use Rattle.std.proofs.Common.{Some, None, inl, inr, refl, sym, ap, subst, ◌∙◌, IsTrue, if◌then◌else◌, arith}
use Rattle.std.proofs.lemmas.Bool.Decides.{nat_tests}
use Rattle.br_bytes.specs.Memory.{in_front}
use Rattle.br_flatimp.specs.declared.program.Operand.{Operand}
use Rattle.br_flatimp.specs.declared.program.Operand.TheVariants as operand
use Rattle.br_flatimp.specs.declared.program.Rel.{Rel}
use Rattle.br_flatimp.specs.declared.program.Cond.{Cond}
use Rattle.br_flatimp.specs.declared.program.Cond.TheVariants.{NonZero, Compare}
use Rattle.br_flatimp.specs.Parts.{operand_names, test_names}
use Rattle.br_flatimp.specs.Values.{Locals, Names, no_locals, with_local, with_locals}
use Rattle.br_flatimp.specs.Values.{without_names, words_of, operand_word, compared, test_word}
use Rattle.br_flatimp.specs.Liveness.{is_in, without, Within}
use Rattle.br_flatimp.specs.Matches.{IsSameDefined}
use Rattle.br_flatimp.specs.Renaming.{renamed_operand, renamed_test, Covers, IsApart}
use Rattle.br_flatimp.proofs.Live.{or_left, or_right, and_both, both_and}

pub same_number : (x : ℕ) → (x == x) ≡ true
same_number x = grind (arith, nat_tests)

pub is_number : (x y : ℕ) → (x == y) ≡ true → x ≡ y
is_number x y h = grind (arith, nat_tests)

pub other_number : (x y : ℕ) → x ≢ y → (x == y) ≡ false
other_number x y h = grind (arith, nat_tests)

pub is_other : (x y : ℕ) → (x == y) ≡ false → x ≢ y
is_other x y h = grind (arith, nat_tests)

pub is_in-head : (x : ℕ) (xs : List ℕ) → IsTrue (is_in (x ∷ xs) x)
is_in-head x xs = or_left (x == x) (is_in xs x) (same_number x)

pub is_in-tail : (x z : ℕ) (xs : List ℕ) → IsTrue (is_in xs z) → IsTrue (is_in (x ∷ xs) z)
is_in-tail x z xs h = or_right (x == z) (is_in xs z) h

not_or : (a b : Bool) → a ≡ false → b ≡ false → IsTrue (not (a || b))
not_or a b h k = rw h (rw k refl)

not_true : (b : Bool) → IsTrue (not b) → b ≡ false
not_true true h = absurd (cc h)
not_true false h = refl

pub not_in-cons : (x z : ℕ) (xs : List ℕ) → z ≢ x → is_in xs z ≡ false → IsTrue (not (is_in (x ∷ xs) z))
not_in-cons x z xs h k = not_or (x == z) (is_in xs z) (other_number x z (λ e. h (sym e))) k

-- ---- reading

pub covers-within : (to : ℕ → ℕ) (small large : Names) (l m : Locals) → Within small large → Covers to large l m
    → Covers to small l m
covers-within to small large l m h k x alive = k x (h x alive)

same-in_front : (a b : Option ℕ) (c d : Option (List ℕ)) → IsSameDefined a b → IsSameDefined c d
    → IsSameDefined (in_front a c) (in_front b d)
same-in_front a None c d h k = inl refl
same-in_front a (Some y) c None h k = inl refl
same-in_front a (Some y) c (Some ys) (inl h) k = absurd (cc h)
same-in_front a (Some y) c (Some ys) (inr h) (inl k) = absurd (cc k)
same-in_front a (Some y) c (Some ys) (inr h) (inr k) = inr (ap (λ o. in_front o c) h ∙ ap (in_front (Some y)) k)

pub covers-words : (to : ℕ → ℕ) (ys : List ℕ) (l m : Locals) → Covers to (is_in ys) l m
    → IsSameDefined (words_of (map to ys) l) (words_of ys m)
covers-words to [] l m h = inr refl
covers-words to (y ∷ ys) l m h =
    same-in_front (l (to y)) (m y) (words_of (map to ys) l) (words_of ys m) (h y (is_in-head y ys))
    (covers-words to ys l m (λ z alive. h z (is_in-tail y z ys alive)))

pub covers-operand : (to : ℕ → ℕ) (z : Operand) (l m : Locals) → Covers to (is_in (operand_names z)) l m
    → IsSameDefined (operand_word (renamed_operand to z) l) (operand_word z m)
covers-operand to (operand.Name y) l m h = h y (is_in-head y [])
covers-operand to (operand.Const c) l m h = inr refl

same-compared : (rel : Rel) (a b c d : Option ℕ) → IsSameDefined a b → IsSameDefined c d
    → IsSameDefined (compared rel a c) (compared rel b d)
same-compared rel a None c d h k = inl refl
same-compared rel a (Some y) c None h k = inl refl
same-compared rel a (Some y) c (Some z) (inl h) k = absurd (cc h)
same-compared rel a (Some y) c (Some z) (inr h) (inl k) = absurd (cc k)
same-compared rel a (Some y) c (Some z) (inr h) (inr k) =
    inr (ap (λ o. compared rel o c) h ∙ ap (compared rel (Some y)) k)

pub covers-test : (to : ℕ → ℕ) (test : Cond) (l m : Locals) → Covers to (is_in (test_names test)) l m
    → IsSameDefined (test_word (renamed_test to test) l) (test_word test m)
covers-test to (NonZero y) l m h = h y (is_in-head y [])
covers-test to (Compare rel y z) l m h =
    same-compared rel (l (to y)) (m y) (l (to z)) (m z) (h y (is_in-head y (z ∷ [])))
    (h z (is_in-tail y z (z ∷ []) (is_in-head z [])))

-- ---- writing

pick : (a b : Bool) (w o p : Option ℕ) → (b ≡ true → a ≡ true) → (b ≡ false → (a ≡ false) × IsSameDefined o p)
    → IsSameDefined (if a then w else o) (if b then w else p)
pick true true w o p h k = inr refl
pick false true w o p h k = absurd (cc (h refl))
pick true false w o p h k = absurd (cc ((k refl).0))
pick false false w o p h k = (k refl).1

-- the same word, or none, at one name
covers-put : (to : ℕ → ℕ) (live : Names) (l m : Locals) (x : ℕ) (w : Option ℕ) → Covers to (without live (x ∷ [])) l m
    → IsApart to x live → Covers to live (λ y. if y == to x then w else l y) (λ y. if y == x then w else m y)
covers-put to live l m x w h apart z alive =
    pick (to z == to x) (z == x) w (l (to z)) (m z)
    (λ e. subst (λ k. (to k == to x) ≡ true) (sym (is_number z x e)) (same_number (to x)))
    (λ e. (
      other_number (to z) (to x) (λ same. is_other z x e (apart z alive same)),
      h z (both_and (live z) (not (is_in (x ∷ []) z)) alive (not_in-cons x z [] (is_other z x e) refl)),
    ))

pub covers-write : (to : ℕ → ℕ) (live : Names) (l m : Locals) (x v : ℕ) → Covers to (without live (x ∷ [])) l m
    → IsApart to x live → Covers to live (with_local (to x) v l) (with_local x v m)
covers-write to live l m x v h apart = covers-put to live l m x (Some v) h apart

-- what is left without one name and without others is left without all of them
without-cons : (live : Names) (x z : ℕ) (xs : List ℕ) → IsTrue (without (without live xs) (x ∷ []) z)
    → IsTrue (without live (x ∷ xs) z)
without-cons live x z xs h =
    let outer = and_both (without live xs z) (not (is_in (x ∷ []) z)) h in
    let inner = and_both (live z) (not (is_in xs z)) outer.0 in
    both_and (live z) (not (is_in (x ∷ xs) z)) inner.0 (last (x == z) (is_in xs z) outer.1 inner.1)
  where
    last : (a b : Bool) → IsTrue (not (a || false)) → IsTrue (not b) → IsTrue (not (a || b))
    last true b h k = h
    last false b h k = k

apart-without : (to : ℕ → ℕ) (x : ℕ) (live : Names) (xs : List ℕ) → IsApart to x live → IsApart to x (without live xs)
apart-without to x live xs h z alive same = h z ((and_both (live z) (not (is_in xs z)) alive).0) same

pub covers-write_all : (to : ℕ → ℕ) (live : Names) (xs vs : List ℕ) (l m : Locals)
    → Covers to (without live xs) l m → ((x : ℕ) → IsTrue (is_in xs x) → IsApart to x live)
    → Covers to live (with_locals (map to xs) vs l) (with_locals xs vs m)
covers-write_all to live [] vs l m h apart = λ x alive. h x (both_and (live x) true alive refl)
covers-write_all to live (x ∷ xs) (v ∷ vs) l m h apart =
    covers-write_all to live xs vs (with_local (to x) v l) (with_local x v m)
    (covers-put to (without live xs) l m x (Some v) (λ z alive. h z (without-cons live x z xs alive))
    (apart-without to x live xs (apart x (is_in-head x xs))))
    (λ z i. apart z (is_in-tail x z xs i))
covers-write_all to live (x ∷ xs) [] l m h apart =
    covers-write_all to live xs [] (without_names (λ y. y == to x) l) (without_names (λ y. y == x) m)
    (covers-put to (without live xs) l m x None (λ z alive. h z (without-cons live x z xs alive))
    (apart-without to x live xs (apart x (is_in-head x xs))))
    (λ z i. apart z (is_in-tail x z xs i))

-- what a call forgets is not live
pub covers-without : (to : ℕ → ℕ) (live set other : Names) (l m : Locals) → Covers to live l m
    → ((x : ℕ) → IsTrue (live x) → set (to x) ≡ false) → Covers to live (without_names set l) (without_names other m)
covers-without to live set other l m h kept x alive =
    drop (set (to x)) (other x) (l (to x)) (m x) (kept x alive) (h x alive)
  where
    drop : (a b : Bool) (o p : Option ℕ) → a ≡ false → IsSameDefined o p
        → IsSameDefined (if a then None else o) (if b then None else p)
    drop true b o p e k = absurd (cc e)
    drop false true o p e k = inl refl
    drop false false o p e k = k

-- ---- arguments

-- a name that is not among names that are set is as it was
with_locals-other : (xs vs : List ℕ) (m : Locals) (z : ℕ) → is_in xs z ≡ false → with_locals xs vs m z ≡ m z
with_locals-other [] vs m z h = refl
with_locals-other (x ∷ xs) (v ∷ vs) m z h =
    let parts = neither (x == z) (is_in xs z) h in
    with_locals-other xs vs (with_local x v m) z parts.1
    ∙ ap (λ b. if b then Some v else m z) (other_number z x (λ e. is_other x z parts.0 (sym e)))
  where
    neither : (a b : Bool) → (a || b) ≡ false → (a ≡ false) × (b ≡ false)
    neither true b h = absurd (cc h)
    neither false b h = (refl, h)
with_locals-other (x ∷ xs) [] m z h =
    let parts = neither (x == z) (is_in xs z) h in
    with_locals-other xs [] (without_names (λ y. y == x) m) z parts.1
    ∙ ap (λ b. if b then None else m z) (other_number z x (λ e. is_other x z parts.0 (sym e)))
  where
    neither : (a b : Bool) → (a || b) ≡ false → (a ≡ false) × (b ≡ false)
    neither true b h = absurd (cc h)
    neither false b h = (refl, h)

-- arguments whose new names differ among themselves
pub covers-args : (to : ℕ → ℕ) (live : Names) (xs vs : List ℕ) → ((x : ℕ) → IsTrue (is_in xs x)
    → IsApart to x (is_in xs)) → Covers to live (with_locals (map to xs) vs no_locals) (with_locals xs vs no_locals)
covers-args to live xs vs apart x alive =
    elim (is_in xs x) as (λ b. is_in xs x ≡ b
    → IsSameDefined (with_locals (map to xs) vs no_locals (to x)) (with_locals xs vs no_locals x)) [
      | true ↦ λ e. covers-write_all to (is_in xs) xs vs no_locals no_locals (λ z gone. inl refl) apart x e
      | false ↦ λ e. inl (with_locals-other xs vs no_locals x e)
    ] refl
