-- What functions need one call deeper, and that nothing changes any more after a round that changes nothing.
use Rattle.std.proofs.Common.{◌≡◌, ℕ, zero, suc, ◌+◌, ◌<◌, ◌≤◌, List, [], ◌∷◌, Option, Some}
use Rattle.std.proofs.Common.{None, min, length, get_or, map, refl, sym, ap, ◌∙◌, arith, add-one}
use Rattle.std.proofs.lemmas.List.{get_or_past}
use Rattle.std.proofs.lemmas.Option.{slice_get_within}
use Rattle.std.specs.List.{slice_get}
use Rattle.br_flatimp.specs.declared.program.FlatFunc.{FlatFunc}
use Rattle.br_flatimp.specs.Parts.{callees}
use Rattle.br_flatimp.specs.Sizes.{largest, need, need_within, needs, own_need}

pub get_or_map : {X Y : Type 0} (F : X → Y) (xs : List X) (i : ℕ) (x : X) (d : Y) → slice_get xs i ≡ Some x
    → get_or (map F xs) i d ≡ F x
get_or_map F [] i x d is = absurd (omega (arith, slice_get_within [] i x is))
get_or_map F (y ∷ ys) zero x d is = let e : y ≡ x = cc in ap F e
get_or_map F (y ∷ ys) (suc i) x d is = get_or_map F ys i x d is

pub same_items : {X : Type 0} (F : X → ℕ) (xs : List X) (ns : List ℕ) → length ns ≡ length xs
    → ((k : ℕ) (x : X) → slice_get xs k ≡ Some x → get_or ns k 0 ≡ F x) → ns ≡ map F xs
same_items F [] [] len same = refl
same_items F [] (n ∷ ns) len same = absurd (omega arith)
same_items F (x ∷ xs) [] len same = absurd (omega arith)
same_items F (x ∷ xs) (n ∷ ns) len same =
    let rest = same_items F xs ns (omega arith) (λ k y is. same (suc k) y is) in
    let head = same 0 x refl in
    cc

pub map_length : {X Y : Type 0} (F : X → Y) (xs : List X) → length (map F xs) ≡ length xs
map_length F [] = refl
map_length F (x ∷ xs) = let rest = map_length F xs in omega arith

none_past : {X : Type 0} (xs : List X) (i : ℕ) → slice_get xs i ≡ None → length xs ≤ i
none_past [] i is = omega arith
none_past (x ∷ xs) zero is = cc
none_past (x ∷ xs) (suc i) is = omega (arith, none_past xs i is)

map_same : (F G : ℕ → ℕ) → ((n : ℕ) → F n ≡ G n) → (ns : List ℕ) → map F ns ≡ map G ns
map_same F G same [] = refl
map_same F G same (n ∷ ns) = let rest = map_same F G same ns in let head = same n in cc

-- what the function of a number needs so many calls deep
abbrev pub needs_at : ℕ → List FlatFunc → ℕ → ℕ
needs_at depth fs n = need_within depth fs (slice_get fs n)

pub none_needs : (depth : ℕ) (fs : List FlatFunc) → need_within depth fs None ≡ 0
none_needs zero fs = refl
none_needs (suc depth) fs = refl

-- ---- a round

module _ (fs : List FlatFunc) (own : List ℕ) (table : List (List ℕ)) (needs after : List ℕ) (depth : ℕ)
    (own_is : own ≡ map (λ f. min 4294967295 (own_need f)) fs)
    (table_is : table ≡ map callees fs)
    (needs_are : (f : ℕ) → get_or needs f 0 ≡ needs_at depth fs f)
    (len : length after ≡ length table)
    (round : (f : ℕ) → f < length table → get_or after f 0
    ≡ min 4294967295 (get_or own f 0 + largest (map (λ g. get_or needs g 0) (get_or table f []))))
  where
    rows : length table ≡ length fs
    rows = ap (λ (t : List (List ℕ)). length t) table_is ∙ map_length callees fs

    at_function : (f : ℕ) (caller : FlatFunc) → slice_get fs f ≡ Some caller
        → get_or after f 0 ≡ need_within (depth + 1) fs (Some caller)
    at_function f caller is =
        let inside = slice_get_within fs f caller is in
        let its_own : get_or own f 0 ≡ min 4294967295 (own_need caller) = ap (λ ns. get_or ns f 0) own_is
        ∙ get_or_map (λ g. min 4294967295 (own_need g)) fs f caller 0 is in
        let its_row : get_or table f [] ≡ callees caller = ap (λ (t : List (List ℕ)). get_or t f []) table_is
        ∙ get_or_map callees fs f caller [] is in
        let of_callees : largest (map (λ g. get_or needs g 0) (get_or table f []))
        ≡ largest (map (needs_at depth fs) (callees caller)) =
        ap (λ ns. largest (map (λ g. get_or needs g 0) ns)) its_row
        ∙ ap largest (map_same (λ g. get_or needs g 0) (needs_at depth fs) needs_are (callees caller)) in
        rw add-one (omega (arith, round f (omega (arith, rows)), its_own, of_callees))

    at_option : (f : ℕ) (o : Option FlatFunc) → slice_get fs f ≡ o → get_or after f 0 ≡ need_within (depth + 1) fs o
    at_option f None is =
        let past = none_past fs f is in
        get_or_past after f 0 (omega (arith, past, rows)) ∙ sym (none_needs (depth + 1) fs)
    at_option f (Some caller) is = at_function f caller is

    pub one_deeper : (f : ℕ) → get_or after f 0 ≡ needs_at (depth + 1) fs f
    one_deeper f = at_option f (slice_get fs f) refl

-- ---- a round that changes nothing

module _ (fs : List FlatFunc) where
  one_more : (low high : ℕ) → ((f : ℕ) → needs_at low fs f ≡ needs_at high fs f) → (o : Option FlatFunc)
      → need_within (suc low) fs o ≡ need_within (suc high) fs o
  one_more low high same None = refl
  one_more low high same (Some caller) =
      ap (λ (m : ℕ). min 4294967295 (own_need caller + m))
      (ap largest (map_same (needs_at low fs) (needs_at high fs) same (callees caller)))

  pub settled : (depth : ℕ) → ((f : ℕ) → needs_at depth fs f ≡ needs_at (depth + 1) fs f) → (k more : ℕ)
      → more ≡ depth + k → (f : ℕ) → needs_at depth fs f ≡ needs_at more fs f
  settled depth same zero more is f = let equal : depth ≡ more = omega arith in ap (λ (n : ℕ). needs_at n fs f) equal
  settled depth same (suc k) more is f =
      let next : depth + 1 ≡ suc depth = omega arith in
      let equal : suc (depth + k) ≡ more = omega arith in
      same f ∙ ap (λ (n : ℕ). needs_at n fs f) next
      ∙ one_more depth (depth + k) (settled depth same k (depth + k) refl) (slice_get fs f)
      ∙ ap (λ (n : ℕ). needs_at n fs f) equal

-- as many rounds as functions are the needs
pub all_rounds : (fs : List FlatFunc) (ns : List ℕ) → length ns ≡ length fs
    → ((f : ℕ) → get_or ns f 0 ≡ needs_at (length fs) fs f) → ns ≡ needs fs
all_rounds fs ns len are = same_items (need fs) fs ns len (λ k f is. are k ∙ ap (λ o. need_within (length fs) fs o) is)
