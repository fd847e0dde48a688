-- Names that a set of keys holds: a name that is added, and the number of one.
use Rattle.std.proofs.Common.{◌≡◌, ℕ, suc, ◌+◌, ◌≤◌, ◌||◌, Bool, true, false, if◌then◌else◌, cond, List, [], ◌∷◌, ◌++◌}
use Rattle.std.proofs.Common.{map, length, Some, None, refl, sym, ap, ◌∙◌, arith, nat_lt, Bor}
use Rattle.std.specs.List.{list_any, position, position_or_len, AllByRecursion, IsDistinct}
use Rattle.std.specs.Str.{bytes_eq}
use Rattle.std.proofs.lemmas.Bool.Decides.{nat_tests}
use Rattle.std.proofs.lemmas.List.{map-append, length-map}
use Rattle.std.proofs.lemmas.List.Recursion.{is_position_or_len}
use Rattle.std.proofs.lemmas.Slice.Eq.{bytes_eq-Decides}
use Rattle.indexmap.specs.IndexSet.{insert_key}
use Rattle.br_numbering.specs.Names.{Name, number, is_listed, with_name}
use Rattle.br_numbering.proofs.Listed.{number-most, number-added}

equal-swapped : (xs ys : List ℕ) → bytes_eq xs ys ≡ bytes_eq ys xs
equal-swapped xs ys = by (bytes_eq xs ys) (bytes_eq ys xs) refl refl
  where
    by : (a b : Bool) → bytes_eq xs ys ≡ a → bytes_eq ys xs ≡ b → a ≡ b
    by true true e f = refl
    by false false e f = refl
    by true false e f = let back : bytes_eq ys xs ≡ true =
        (bytes_eq-Decides ys xs).1 (sym ((bytes_eq-Decides xs ys).0 e)) in absurd (cc (back, f))
    by false true e f = let back : bytes_eq xs ys ≡ true =
        (bytes_eq-Decides xs ys).1 (sym ((bytes_eq-Decides ys xs).0 f)) in absurd (cc (back, e))

among-listed : (ks : List (Bor (List ℕ))) (x : List ℕ) → list_any (λ k. bytes_eq x k.now) ks
    ≡ is_listed (map (λ k. k.now) ks) x
among-listed [] x = refl
among-listed (k ∷ ks) x =
    ap (λ b. b || list_any (λ k. bytes_eq x k.now) ks) (equal-swapped x k.now)
    ∙ ap (λ b. bytes_eq k.now x || b) (among-listed ks x)

pub listed-insert : (ks new : List (Bor (List ℕ))) (k : Bor (List ℕ)) → new
    ≡ insert_key (λ a b. bytes_eq a.now b.now) ks k → map (λ k. k.now) new ≡ with_name (map (λ k. k.now) ks) k.now
listed-insert ks new k is = ap (map (λ k. k.now)) is ∙ whole
  where
    by : (b : Bool) → map (λ k. k.now) (if b then ks else ks ++ k ∷ [])
        ≡ (if b then map (λ k. k.now) ks else map (λ k. k.now) ks ++ k.now ∷ [])
    by true = refl
    by false = map-append (λ (k : Bor (List ℕ)). k.now) ks (k ∷ [])

    whole : map (λ k. k.now) (insert_key (λ a b. bytes_eq a.now b.now) ks k) ≡ with_name (map (λ k. k.now) ks) k.now
    whole =
        by (list_any (λ j. bytes_eq k.now j.now) ks)
        ∙ ap (λ b. if b then map (λ k. k.now) ks else map (λ k. k.now) ks ++ k.now ∷ []) (among-listed ks k.now)

number-first : (x : List ℕ) (ks : List (Bor (List ℕ))) → number (map (λ k. k.now) ks) x
    ≡ position_or_len (λ k. bytes_eq x k.now) ks
number-first x = is_position_or_len (λ (ks : List (Bor (List ℕ))). number (map (λ k. k.now) ks) x)
    (λ k. bytes_eq x k.now) refl step
  where
    step : (k : Bor (List ℕ)) (ks : List (Bor (List ℕ)))
        → (if bytes_eq k.now x then 0 else suc (number (map (λ k. k.now) ks) x))
        ≡ cond (bytes_eq x k.now) 0 (1 + number (map (λ k. k.now) ks) x)
    step k ks = ap (λ b. if b then 0 else suc (number (map (λ k. k.now) ks) x)) (equal-swapped k.now x)
        ∙ by (bytes_eq x k.now)
      where
        by : (b : Bool) → (if b then 0 else suc (number (map (λ k. k.now) ks) x))
            ≡ cond b 0 (1 + number (map (λ k. k.now) ks) x)
        by true = refl
        by false = omega arith

-- the number that a set answers as it takes a name
pub number-insert : (ks new : List (Bor (List ℕ))) (k : Bor (List ℕ)) (i : ℕ) → new
    ≡ insert_key (λ a b. bytes_eq a.now b.now) ks k → i ≡ position_or_len (λ j. bytes_eq k.now j.now) ks → i
    ≡ number (map (λ k. k.now) new) k.now
number-insert ks new k i is at =
    at ∙ sym (number-first k.now ks) ∙ sym (number-added (map (λ k. k.now) ks) k.now)
    ∙ sym (ap (λ names. number names k.now) (listed-insert ks new k is))

found : (b : Bool) (p i : ℕ) → Some i ≡ cond b (Some p) None → i ≡ p
found true p i e = cc e
found false p i e = absurd (cc e)

missing : (p n : ℕ) → p ≤ n → None ≡ cond (nat_lt p n) (Some p) None → n ≡ p
missing p n le e = by (nat_lt p n) refl e
  where
    by : (b : Bool) → nat_lt p n ≡ b → None ≡ cond b (Some p) None → n ≡ p
    by true is e = absurd (cc e)
    by false is e = let not_less : n ≤ p = grind (arith, nat_tests) in omega (arith, not_less, le)

pub number-found : (ks : List (Bor (List ℕ))) (x : List ℕ) (i : ℕ) → Some i ≡ position (λ k. bytes_eq x k.now) ks → i
    ≡ number (map (λ k. k.now) ks) x
number-found ks x i is =
    found (nat_lt (position_or_len (λ k. bytes_eq x k.now) ks) (length ks)) (position_or_len (λ k. bytes_eq x k.now) ks)
    i is
    ∙ sym (number-first x ks)

pub number-missing : (ks : List (Bor (List ℕ))) (x : List ℕ) → None ≡ position (λ k. bytes_eq x k.now) ks → length ks
    ≡ number (map (λ k. k.now) ks) x
number-missing ks x is =
    let len = length-map ks (λ k. k.now) in
    let most = number-most (map (λ k. k.now) ks) x in
    let first = number-first x ks in
    missing (position_or_len (λ k. bytes_eq x k.now) ks) (length ks) (omega (arith, len, most, first)) is
    ∙ sym first

-- ---- names that differ

apart : (x : Name) (ks : List (Bor (List ℕ))) → AllByRecursion (λ k. bytes_eq x k.now ≡ false) ks
    → AllByRecursion (λ y. bytes_eq x y ≡ false) (map (λ k. k.now) ks)
apart x [] all = all
apart x (k ∷ ks) all = (all.0, apart x ks all.1)

pub distinct-names : (ks : List (Bor (List ℕ))) → IsDistinct (λ x y. bytes_eq x.now y.now) ks
    → IsDistinct bytes_eq (map (λ k. k.now) ks)
unfolding IsDistinct
distinct-names [] distinct = distinct
distinct-names (k ∷ ks) distinct = (apart k.now ks distinct.0, distinct-names ks distinct.1)
