-- Words that are passed in registers 10, 11 and so on.
use Rattle.std.proofs.Common.{◌≡◌, ◌≢◌, ◌⊎◌, inl, inr, ℕ, zero, suc, ◌+◌, ◌<◌, ◌≤◌, ◌==◌, ◌||◌}
use Rattle.std.proofs.Common.{if◌then◌else◌, List, [], ◌∷◌, length, filter, Option, Some, None}
use Rattle.std.proofs.Common.{Bool, true, false, IsTrue, refl, sym, ap, subst, ◌∙◌, arith}
use Rattle.std.specs.Prelude.{slice_get}
use Rattle.std.specs.List.{AllByRecursion}
use Rattle.std.proofs.lemmas.Bool.Decides.{nat_tests}
use Rattle.br_flatimp.specs.Values.{Locals, with_local, with_locals, words_of}
use Rattle.br_flatimp.specs.WellFormed.{is_in_order}
use Rattle.br_flatimp.specs.Liveness.{is_in}
use Rattle.br_emit.specs.Code.{count_up}
use Rattle.br_emit.proofs.Stepping.{reads}
use Rattle.br_emit.proofs.Leaves.{both}
use Rattle.br_emit.proofs.Frames.{Rises, NoneOf, Stored}

-- words stand in registers from a on
pub record Standing (a : ℕ) (vs registers : List ℕ) : Type 0 where
  pub at : (i v : ℕ) → slice_get vs i ≡ Some v → reads registers (a + i) ≡ v

-- ---- lists of names in order

first_is : (a x : ℕ) (xs : List ℕ) → IsTrue (is_in_order a (x ∷ xs)) → x ≡ a
first_is a x xs h = let one = (both (x == a) (is_in_order (suc a) xs) h).0 in grind (arith, nat_tests)

rest_is : (a x : ℕ) (xs : List ℕ) → IsTrue (is_in_order a (x ∷ xs)) → IsTrue (is_in_order (suc a) xs)
rest_is a x xs h = (both (x == a) (is_in_order (suc a) xs) h).1

-- each name of names in order is one of them
pub in_order : (a : ℕ) (xs : List ℕ) (i : ℕ) → IsTrue (is_in_order a xs) → i < length xs → is_in xs (a + i) ≡ true
in_order a [] i h less = absurd (omega arith)
in_order a (x ∷ xs) zero h less =
    let x_is = first_is a x xs h in
    let here : (x == a + 0) ≡ true = (let same : x ≡ a + 0 = omega arith in grind (arith, nat_tests)) in
    rw here refl
in_order a (x ∷ xs) (suc i) h less =
    let rest = in_order (suc a) xs i (rest_is a x xs h) (omega arith) in
    let there : a + suc i ≡ suc a + i = omega arith in
    ap (is_in (x ∷ xs)) there ∙ later (x == suc a + i) (is_in xs (suc a + i)) rest
  where
    later : (p q : Bool) → q ≡ true → (p || q) ≡ true
    later true q h = refl
    later false q h = h

-- two lists in order of one length are one
pub same_order : (a : ℕ) (xs ys : List ℕ) → IsTrue (is_in_order a xs) → IsTrue (is_in_order a ys)
    → length xs ≡ length ys → xs ≡ ys
same_order a [] [] h k e = refl
same_order a [] (y ∷ ys) h k e = absurd (omega arith)
same_order a (x ∷ xs) [] h k e = absurd (omega arith)
same_order a (x ∷ xs) (y ∷ ys) h k e =
    let first : x ≡ y = first_is a x xs h ∙ sym (first_is a y ys k) in
    let rest = same_order (suc a) xs ys (rest_is a x xs h) (rest_is a y ys k) (omega arith) in
    rw (first, rest) refl

-- ---- words of names

record Joined (x : ℕ) (xs : List ℕ) (locals : Locals) (vs : List ℕ) : Type 0 where
  first : ℕ
  rest : List ℕ
  one : locals x ≡ Some first
  others : words_of xs locals ≡ Some rest
  all : vs ≡ first ∷ rest

joined : (x : ℕ) (xs : List ℕ) (locals : Locals) (vs : List ℕ) → words_of (x ∷ xs) locals ≡ Some vs
    → Joined x xs locals vs
joined x xs locals vs h = by (locals x) (words_of xs locals) refl refl h
  where
    by : (o : Option ℕ) (os : Option (List ℕ)) → locals x ≡ o → words_of xs locals ≡ os
        → words_of (x ∷ xs) locals ≡ Some vs → Joined x xs locals vs
    by None os e k h = absurd (cc (ap (λ q. q) h, e))
    by (Some v) None e k h = absurd (cc)
    by (Some v) (Some rest) e k h = record { first = v; rest = rest; one = e; others = k; all = cc }

-- as many words as names
pub of_length : (xs vs : List ℕ) (locals : Locals) → words_of xs locals ≡ Some vs → length xs ≡ length vs
of_length [] vs locals h = let none : [] ≡ vs = cc in ap length none
of_length (x ∷ xs) vs locals h =
    let j = joined x xs locals vs h in
    let rest = of_length xs j.rest locals j.others in
    let all = ap length j.all in
    omega arith

-- the words of names in order stand in their registers, where the names' words do
pub words_stand : (a : ℕ) (xs vs : List ℕ) (locals : Locals) (registers : List ℕ) → IsTrue (is_in_order a xs)
    → words_of xs locals ≡ Some vs
    → ((x v : ℕ) → a ≤ x → x < a + length xs → locals x ≡ Some v → reads registers x ≡ v) → Standing a vs registers
words_stand a [] vs locals registers order h values =
    let none : [] ≡ vs = cc in
    record { at = λ i v is. absurd (empty i v (subst (λ q. slice_get q i ≡ Some v) (sym none) is)) }
  where
    empty : (i v : ℕ) → slice_get [] i ≡ Some v → ⊥
    empty i v e = absurd (cc)
words_stand a (x ∷ xs) vs locals registers order h values =
    let j = joined x xs locals vs h in
    let x_is = first_is a x xs order in
    let rest = words_stand (suc a) xs j.rest locals registers (rest_is a x xs order) j.others
    (λ y v low high is. values y v (omega arith) (omega arith) is) in
    let first : reads registers a ≡ j.first =
    values a j.first (omega arith) (omega arith) (subst (λ y. locals y ≡ Some j.first) x_is j.one) in
    record { at = λ i v is. by i v first rest (subst (λ q. slice_get q i ≡ Some v) j.all is) }
  where
    by : (i v : ℕ) {first : ℕ} {rest : List ℕ} → reads registers a ≡ first → Standing (suc a) rest registers
        → slice_get (first ∷ rest) i ≡ Some v → reads registers (a + i) ≡ v
    by zero v one rest is = let here : a + 0 ≡ a = omega arith in ap (reads registers) here ∙ one ∙ cc
    by (suc i) v one rest is = let there : a + suc i ≡ suc a + i = omega arith in
        ap (reads registers) there ∙ rest.at i v is

-- ---- names that are set to words

-- where a word comes from that a name has after names in order were set to words
pub record Given (a : ℕ) (xs vs : List ℕ) (locals : Locals) (x v : ℕ) : Type 0 where
  pub from : ((i : ℕ) × (slice_get vs i ≡ Some v) × (x ≡ a + i) × (i < length xs))
      ⊎ ((locals x ≡ Some v) × (is_in xs x ≡ false))

pub where_from : (a : ℕ) (xs vs : List ℕ) (locals : Locals) (x v : ℕ) → IsTrue (is_in_order a xs)
    → length xs ≡ length vs → with_locals xs vs locals x ≡ Some v → Given a xs vs locals x v
where_from a [] [] locals x v order size h = record { from = inr (h, refl) }
where_from a [] (w ∷ vs) locals x v order size h = absurd (omega arith)
where_from a (y ∷ xs) [] locals x v order size h = absurd (omega arith)
where_from a (y ∷ xs) (w ∷ vs) locals x v order size h =
    let y_is = first_is a y xs order in
    by y_is (where_from (suc a) xs vs (with_local y w locals) x v (rest_is a y xs order) (omega arith) h).from
  where
    here : (b : Bool) → (x == y) ≡ b → y ≡ a → (if b then Some w else locals x) ≡ Some v → is_in xs x ≡ false
        → ((i : ℕ) × (slice_get (w ∷ vs) i ≡ Some v) × (x ≡ a + i) × (i < suc (length xs)))
        ⊎ ((locals x ≡ Some v) × (is_in (y ∷ xs) x ≡ false))
    here true e y_is is out =
        let same : x ≡ y = grind (arith, nat_tests) in
        let value : w ≡ v = cc in
        inl (0, ap Some value, omega arith, omega arith)
    here false e y_is is out =
        let ne : (y == x) ≡ false = (let apart : x ≢ y = grind (arith, nat_tests) in flip y x apart) in
        inr (is, rw (ne, out) refl)
      where
        flip : (p q : ℕ) → q ≢ p → (p == q) ≡ false
        flip p q ne = grind (arith, nat_tests)

    by : y ≡ a → ((i : ℕ) × (slice_get vs i ≡ Some v) × (x ≡ suc a + i) × (i < length xs))
        ⊎ ((with_local y w locals x ≡ Some v) × (is_in xs x ≡ false)) → Given a (y ∷ xs) (w ∷ vs) locals x v
    by y_is (inl (i, is, place, less)) = record { from = inl (suc i, is, omega arith, omega arith) }
    by y_is (inr (is, out)) = record { from = here (x == y) refl y_is is out }

-- ---- the registers that are saved

-- what a filter leaves of numbers that rise
pub filter_rises : (p : ℕ → Bool) (a n : ℕ) → Rises (filter p (count_up a n))
    × AllByRecursion (λ q. a ≤ q) (filter p (count_up a n)) × (length (filter p (count_up a n)) ≤ n)
filter_rises p a zero = (tt, tt, omega arith)
filter_rises p a (suc n) = by (p a) (filter_rises p (a + 1) n)
  where
    more : (k : ℕ) (xs : List ℕ) → a + 1 ≤ k → AllByRecursion (λ q. k ≤ q) xs → AllByRecursion (λ q. a < q) xs
    more k [] le h = tt
    more k (x ∷ xs) le h = (let l = h.0 in omega arith, more k xs le h.1)

    less : (xs : List ℕ) → AllByRecursion (λ q. a + 1 ≤ q) xs → AllByRecursion (λ q. a ≤ q) xs
    less [] h = tt
    less (x ∷ xs) h = (let l = h.0 in omega arith, less xs h.1)

    by : (b : Bool) → Rises (filter p (count_up (a + 1) n))
        × AllByRecursion (λ q. a + 1 ≤ q) (filter p (count_up (a + 1) n)) × (length (filter p (count_up (a + 1) n)) ≤ n)
        → Rises (if b then a ∷ filter p (count_up (a + 1) n) else filter p (count_up (a + 1) n)) × AllByRecursion
        (λ q. a ≤ q) (if b then a ∷ filter p (count_up (a + 1) n) else filter p (count_up (a + 1) n))
        × (length (if b then a ∷ filter p (count_up (a + 1) n) else filter p (count_up (a + 1) n)) ≤ suc n)
    by true (rises, low, short) = (
      (more (a + 1) (filter p (count_up (a + 1) n)) (omega arith) low, rises),
      (omega arith, less (filter p (count_up (a + 1) n)) low),
      omega arith,
    )
    by false (rises, low, short) = (rises, less (filter p (count_up (a + 1) n)) low, omega arith)

-- a number that a filter leaves out is none of the rest
pub none_left : (p : ℕ → Bool) (y a n : ℕ) → p y ≡ false → NoneOf y (filter p (count_up a n))
none_left p y a zero out = tt
none_left p y a (suc n) out = by (p a) refl (none_left p y (a + 1) n out)
  where
    by : (b : Bool) → p a ≡ b → NoneOf y (filter p (count_up (a + 1) n))
        → NoneOf y (if b then a ∷ filter p (count_up (a + 1) n) else filter p (count_up (a + 1) n))
    by true e rest = ((λ same. clash (sym e ∙ ap p (sym same) ∙ out)), rest)
      where
        clash : true ≡ false → ⊥
        clash e = absurd (cc)
    by false e rest = rest

-- a number that it keeps is where its word stands
pub kept_word : (p : ℕ → Bool) (y a n place : ℕ) (registers registers' ram : List ℕ) → p y ≡ true → a ≤ y → y < a + n
    → Stored registers' ram place (filter p (count_up a n)) → Stored registers ram place (filter p (count_up a n))
    → reads registers' y ≡ reads registers y
kept_word p y a zero place registers registers' ram is low high h k = absurd (omega arith)
kept_word p y a (suc n) place registers registers' ram is low high h k =
    by (p a) refl (λ place far h k. kept_word p y (a + 1) n place registers registers' ram is far (omega arith) h k) h k
  where
    clash : true ≡ false → ⊥
    clash e = absurd (cc)

    later : p a ≡ false → a + 1 ≤ y
    later out = ne_then (λ same. clash (sym is ∙ ap p same ∙ out))
      where
        ne_then : (y ≡ a → ⊥) → a + 1 ≤ y
        ne_then ne = omega arith

    by : (b : Bool) → p a ≡ b
        → ((place : ℕ) → a + 1 ≤ y → Stored registers' ram place (filter p (count_up (a + 1) n))
        → Stored registers ram place (filter p (count_up (a + 1) n)) → reads registers' y ≡ reads registers y)
        → Stored registers' ram place (if b then a ∷ filter p (count_up (a + 1) n) else filter p (count_up (a + 1) n))
        → Stored registers ram place (if b then a ∷ filter p (count_up (a + 1) n)
        else filter p (count_up (a + 1) n)) → reads registers' y ≡ reads registers y
    by true e again h k = first_or_later (y == a) refl
      where
        first_or_later : (b : Bool) → (y == a) ≡ b → reads registers' y ≡ reads registers y
        first_or_later true e =
            let same : y ≡ a = grind (arith, nat_tests) in
            ap (reads registers') same ∙ sym h.0 ∙ k.0 ∙ ap (reads registers) (sym same)
        first_or_later false e =
            let ne : y ≢ a = grind (arith, nat_tests) in
            again (place + 4) (omega arith) h.1 k.1
    by false e again h k = again place (later e) h k

-- ---- names that are set are read

set_other : (a : ℕ) (xs vs : List ℕ) (locals : Locals) (x : ℕ) → IsTrue (is_in_order a xs) → x < a
    → length xs ≡ length vs → with_locals xs vs locals x ≡ locals x
set_other a [] vs locals x order less size = refl
set_other a (y ∷ xs) [] locals x order less size = absurd (omega arith)
set_other a (y ∷ xs) (v ∷ vs) locals x order less size =
    let y_is = first_is a y xs order in
    set_other (suc a) xs vs (with_local y v locals) x (rest_is a y xs order) (omega arith) (omega arith)
    ∙ apart (x == y) refl y_is
  where
    apart : (b : Bool) → (x == y) ≡ b → y ≡ a → (if b then Some v else locals x) ≡ locals x
    apart true e y_is = let same : x ≡ y = grind (arith, nat_tests) in absurd (omega arith)
    apart false e y_is = refl

pub words_set : (a : ℕ) (xs vs : List ℕ) (locals : Locals) → IsTrue (is_in_order a xs) → length xs ≡ length vs
    → words_of xs (with_locals xs vs locals) ≡ Some vs
words_set a [] [] locals order size = refl
words_set a [] (v ∷ vs) locals order size = absurd (omega arith)
words_set a (x ∷ xs) [] locals order size = absurd (omega arith)
words_set a (x ∷ xs) (v ∷ vs) locals order size =
    let x_is = first_is a x xs order in
    let first : with_locals xs vs (with_local x v locals) x ≡ Some v =
    set_other (suc a) xs vs (with_local x v locals) x (rest_is a x xs order) (omega arith) (omega arith) ∙ here in
    let rest = words_set (suc a) xs vs (with_local x v locals) (rest_is a x xs order) (omega arith) in
    rw (first, rest) refl
  where
    here : (if x == x then Some v else locals x) ≡ Some v
    here = let same : (x == x) ≡ true = grind (arith, nat_tests) in rw same refl
