-- As many flags are set as there are different numbers, where no flag was set before.
use Rattle.std.proofs.Common.{◌≡◌, ℕ, zero, suc, ◌+◌, ◌<◌, ◌||◌, Bool, true, false, cond, IsTrue}
use Rattle.std.proofs.Common.{nat_lt, eqb, List, [], ◌∷◌, ◌++◌, length, get_or, set, drop, replicate}
use Rattle.std.proofs.Common.{refl, sym, ap, ◌∙◌, arith, get_or-set_same, get_or-set_other, length-set}
use Rattle.std.specs.Prelude.{count_by}
use Rattle.std.specs.List.{flat_map}
use Rattle.std.specs.Set.{is_member, unique_keys, distinct_count}
use Rattle.std.proofs.lemmas.Bool.{eqb-true, eqb-false, and_parts, ltb-true}
use Rattle.std.proofs.lemmas.Grind.{common_steps}
use Rattle.std.proofs.lemmas.List.{length-replicate}
use Rattle.std.proofs.lemmas.List.Sums.{sum_by-set}
use Rattle.br_flatimp.specs.declared.program.Cond.{Cond}
use Rattle.br_flatimp.specs.declared.program.Stmt.{Stmt}
use Rattle.br_flatimp.specs.declared.program.Stmt.TheVariants.{Stackalloc, If, Loop, Call}
use Rattle.br_flatimp.specs.Parts.{statement_names, test_names}
use Rattle.br_flatimp.specs.WellFormed.{are_below}
use Rattle.br_stack_need.specs.Marks.{marked}
use Rattle.br_stack_need.proofs.Statements.{names-stackalloc, names-if, names-loop, names-call}

pub marked-append : (seen : List Bool) (xs ys : List ℕ) → marked seen (xs ++ ys) ≡ marked (marked seen xs) ys
marked-append seen [] ys = refl
marked-append seen (x ∷ xs) ys = marked-append (set seen x true) xs ys

-- ---- one item at a time

pub marked_number : (seen : List Bool) (xs : List ℕ) (i d : ℕ) → i < length xs
    → marked seen (drop i xs) ≡ marked (set seen (get_or xs i d) true) (drop (i + 1) xs)
marked_number seen xs i d inside =
    ap (marked seen) (let split : drop i xs ≡ get_or xs i d ∷ drop (i + 1) xs = grind (arith, common_steps) in split)

pub marked_item : {X : Type 0} (seen : List Bool) (F : X → List ℕ) (xs : List X) (i : ℕ) (x : X) → i < length xs
    → x ≡ get_or xs i x
    → marked seen (flat_map F (drop i xs)) ≡ marked (marked seen (F x)) (flat_map F (drop (i + 1) xs))
marked_item {X} seen F xs i x inside is =
    let split : drop i xs ≡ x ∷ drop (i + 1) xs = grind (arith, common_steps) in
    ap (λ (ys : List X). marked seen (flat_map F ys)) split ∙ marked-append seen (F x) (flat_map F (drop (i + 1) xs))

-- ---- statements with parts

pub marked-stackalloc : (seen : List Bool) (x n : ℕ) (body : List Stmt)
    → marked seen (statement_names (Stackalloc x n body)) ≡ marked (set seen x true) (flat_map statement_names body)
marked-stackalloc seen x n body = ap (marked seen) (names-stackalloc x n body)

three : (seen : List Bool) (xs ys zs : List ℕ) → marked seen (xs ++ (ys ++ zs)) ≡ marked (marked (marked seen xs) ys) zs
three seen xs ys zs = marked-append seen xs (ys ++ zs) ∙ marked-append (marked seen xs) ys zs

pub marked-if : (seen : List Bool) (test : Cond) (first second : List Stmt)
    → marked seen (statement_names (If test first second))
    ≡ marked (marked (marked seen (test_names test)) (flat_map statement_names first)) (flat_map statement_names second)
marked-if seen test first second = ap (marked seen) (names-if test first second)
    ∙ three seen (test_names test) (flat_map statement_names first) (flat_map statement_names second)

pub marked-loop : (seen : List Bool) (first : List Stmt) (test : Cond) (last : List Stmt)
    → marked seen (statement_names (Loop first test last))
    ≡ marked (marked (marked seen (test_names test)) (flat_map statement_names first)) (flat_map statement_names last)
marked-loop seen first test last = ap (marked seen) (names-loop first test last)
    ∙ three seen (test_names test) (flat_map statement_names first) (flat_map statement_names last)

pub marked-call : (seen : List Bool) (xs : List ℕ) (g : ℕ) (ys : List ℕ)
    → marked seen (statement_names (Call xs g ys)) ≡ marked (marked seen xs) ys
marked-call seen xs g ys = ap (marked seen) (names-call xs g ys) ∙ marked-append seen xs ys

pub ruleset marked_parts = (marked-stackalloc, marked-if, marked-loop, marked-call)

-- ---- the count of flags

set_set : (seen : List Bool) (x y : ℕ) → set (set seen x true) y true ≡ set (set seen y true) x true
set_set [] x y = refl
set_set (b ∷ seen) zero zero = refl
set_set (b ∷ seen) zero (suc y) = refl
set_set (b ∷ seen) (suc x) zero = refl
set_set (b ∷ seen) (suc x) (suc y) = ap (λ (s : List Bool). b ∷ s) (set_set seen x y)

marked-set : (seen : List Bool) (x : ℕ) (ys : List ℕ) → marked (set seen x true) ys ≡ set (marked seen ys) x true
marked-set seen x [] = refl
marked-set seen x (y ∷ ys) = ap (λ (s : List Bool). marked s ys) (set_set seen x y) ∙ marked-set (set seen y true) x ys

pub marked-length : (seen : List Bool) (xs : List ℕ) → length (marked seen xs) ≡ length seen
marked-length seen [] = refl
marked-length seen (x ∷ xs) = marked-length (set seen x true) xs ∙ length-set seen x true

get_set : (seen : List Bool) (y x : ℕ) → y < length seen
    → get_or (set seen y true) x false ≡ (eqb x y || get_or seen x false)
get_set seen y x inside = by (eqb x y) refl
  where
    by : (t : Bool) → eqb x y ≡ t → get_or (set seen y true) x false ≡ (t || get_or seen x false)
    by true e = let same : x ≡ y = eqb-true x y e in
        ap (λ k. get_or (set seen y true) k false) same ∙ get_or-set_same seen y true false inside
    by false e = get_or-set_other seen y x true false (eqb-false x y e)

abbrev pub set_count : List Bool → ℕ
set_count = count_by (λ b. b)

abbrev weight : Bool → ℕ
weight b = cond b 1 0

count_set : (seen : List Bool) (x : ℕ) → x < length seen
    → set_count (set seen x true) ≡ cond (get_or seen x false) (set_count seen) (suc (set_count seen))
count_set seen x inside = by (get_or seen x false) refl
  where
    change : set_count (set seen x true) + weight (get_or seen x false) ≡ set_count seen + 1
    change = sum_by-set weight seen x true false inside

    by : (t : Bool) → get_or seen x false ≡ t
        → set_count (set seen x true) ≡ cond t (set_count seen) (suc (set_count seen))
    by true e = let one : weight (get_or seen x false) ≡ weight true = ap weight e in omega (arith, change, one)
    by false e = let none : weight (get_or seen x false) ≡ weight false = ap weight e in omega (arith, change, none)

module _ (z : List Bool) (unset : (k : ℕ) → get_or z k false ≡ false) (none : set_count z ≡ 0) where
  inside_of : (x : ℕ) (ys : List ℕ) → nat_lt x (length z) ≡ true → x < length (marked z ys)
  inside_of x ys small = let less : x < length z = ltb-true x (length z) small in omega (arith, marked-length z ys)

  -- which flags are set
  found : (xs : List ℕ) → IsTrue (are_below (length z) xs) → (x : ℕ) → get_or (marked z xs) x false ≡ is_member eqb xs x
  found [] below x = unset x
  found (y ∷ ys) below x =
      let parts = and_parts (nat_lt y (length z)) (are_below (length z) ys) below in
      ap (λ (s : List Bool). get_or s x false) (marked-set z y ys)
      ∙ get_set (marked z ys) y x (inside_of y ys parts.0)
      ∙ ap (λ b. eqb x y || b) (found ys parts.1 x)

  counted : (xs : List ℕ) → IsTrue (are_below (length z) xs) → set_count (marked z xs) ≡ distinct_count eqb xs
  counted [] below = none
  counted (x ∷ xs) below =
      let parts = and_parts (nat_lt x (length z)) (are_below (length z) xs) below in
      ap set_count (marked-set z x xs)
      ∙ count_set (marked z xs) x (inside_of x xs parts.0)
      ∙ ap (λ b. cond b (set_count (marked z xs)) (suc (set_count (marked z xs)))) (found xs parts.1 x)
      ∙ by (is_member eqb xs x) (counted xs parts.1)
    where
      by : (t : Bool) → set_count (marked z xs) ≡ distinct_count eqb xs
          → cond t (set_count (marked z xs)) (suc (set_count (marked z xs)))
          ≡ length (cond t (unique_keys eqb xs) (x ∷ unique_keys eqb xs))
      by true e = e
      by false e = ap suc e

unset_before : (n k : ℕ) → get_or (replicate n false) k false ≡ false
unset_before zero k = refl
unset_before (suc n) zero = refl
unset_before (suc n) (suc k) = unset_before n k

none_before : (n : ℕ) → set_count (replicate n false) ≡ 0
none_before zero = refl
none_before (suc n) = omega (arith, none_before n)

pub found-marked : (n : ℕ) (xs : List ℕ) → IsTrue (are_below n xs) → (x : ℕ)
    → get_or (marked (replicate n false) xs) x false ≡ is_member eqb xs x
found-marked n xs below =
    let size : length (replicate n false) ≡ n = length-replicate n false in
    found (replicate n false) (unset_before n) (none_before n) xs (rw size below)

pub count-marked : (n : ℕ) (xs : List ℕ) → IsTrue (are_below n xs)
    → set_count (marked (replicate n false) xs) ≡ distinct_count eqb xs
count-marked n xs below =
    let size : length (replicate n false) ≡ n = length-replicate n false in
    counted (replicate n false) (unset_before n) (none_before n) xs (rw size below)

-- the different names of a function
pub count-function : (n : ℕ) (args results body : List ℕ) → IsTrue (are_below n (args ++ results ++ body))
    → set_count (marked (marked (marked (replicate n false) args) results) body)
    ≡ distinct_count eqb (args ++ results ++ body)
count-function n args results body below =
    let z = replicate n false in
    let split : marked z (args ++ results ++ body) ≡ marked (marked (marked z args) results) body =
    marked-append z (args ++ results) body ∙ ap (λ (s : List Bool). marked s body) (marked-append z args results) in
    ap set_count (sym split) ∙ count-marked n (args ++ results ++ body) below
