-- What functions need one call deeper.
use Rattle.std.proofs.Common.{◌≡◌, ℕ, zero, suc, ◌+◌, ◌*◌, ◌<◌, ◌≤◌, List, [], ◌∷◌, Option, Some, None, max, min}
use Rattle.std.proofs.Common.{length, get_or, map, refl, sym, ap, ◌∙◌, arith, add-one}
use Rattle.std.proofs.lemmas.List.{get_or_past}
use Rattle.std.proofs.lemmas.Option.{slice_get_within}
use Rattle.std.specs.List.{slice_get, cons_option}
use Rattle.std.specs.Str.{bytes_eq}
use Rattle.br_syntax.specs.declared.program.Func.{Func}
use Rattle.br_syntax.specs.Functions.{function_named, number_named}
use Rattle.br_measure.specs.Bulk.{function_bulk}
use Rattle.br_measure.specs.Measure.{nested_buffers, measure_within, largest}
use Rattle.br_measure.specs.Paths.{callees}
use Rattle.br_measure.specs.Table.{numbers_named, call_table, row}
use Rattle.br_numbering.proofs.Positions.{find_at_position, find_no_position}

pub get_or_map : {X Y : Type 0} (F : X → Y) (xs : List X) (i : ℕ) (x : X) (d : Y) → slice_get xs i ≡ Some x
    → get_or (map F xs) i d ≡ F x
get_or_map F [] i x d is = absurd (omega (arith, slice_get_within [] i x is))
get_or_map F (y ∷ ys) zero x d is = let e : y ≡ x = cc in ap F e
get_or_map F (y ∷ ys) (suc i) x d is = get_or_map F ys i x d is

pub same_items : {X : Type 0} (F : X → ℕ) (xs : List X) (ns : List ℕ) → length ns ≡ length xs
    → ((k : ℕ) (x : X) → slice_get xs k ≡ Some x → get_or ns k 0 ≡ F x) → ns ≡ map F xs
same_items F [] [] len same = refl
same_items F [] (n ∷ ns) len same = absurd (omega arith)
same_items F (x ∷ xs) [] len same = absurd (omega arith)
same_items F (x ∷ xs) (n ∷ ns) len same =
    let rest = same_items F xs ns (omega arith) (λ k y is. same (suc k) y is) in
    let head = same 0 x refl in
    cc

pub map_length : {X Y : Type 0} (F : X → Y) (xs : List X) → length (map F xs) ≡ length xs
map_length F [] = refl
map_length F (x ∷ xs) = let rest = map_length F xs in omega arith

none_past : {X : Type 0} (xs : List X) (i : ℕ) → slice_get xs i ≡ None → length xs ≤ i
none_past [] i is = omega arith
none_past (x ∷ xs) zero is = cc
none_past (x ∷ xs) (suc i) is = omega (arith, none_past xs i is)

map_same : (F G : ℕ → ℕ) → ((n : ℕ) → F n ≡ G n) → (ns : List ℕ) → map F ns ≡ map G ns
map_same F G same [] = refl
map_same F G same (n ∷ ns) = let rest = map_same F G same ns in let head = same n in cc

largest_capped : (w : ℕ → ℕ) (cap : ℕ) (ns : List ℕ) → largest (map (λ n. min (w n) cap) ns)
    ≡ min (largest (map w ns)) cap
largest_capped w cap [] = omega arith
largest_capped w cap (n ∷ ns) = omega (arith, largest_capped w cap ns)

pub none_needs : (depth : ℕ) (fs : List Func) → measure_within depth fs None ≡ 0
none_needs zero fs = refl
none_needs (suc depth) fs = refl

-- what the function of a number needs
abbrev pub needs_at : ℕ → List Func → ℕ → ℕ
needs_at depth fs n = measure_within depth fs (slice_get fs n)

one_callee : (depth : ℕ) (fs : List Func) (x : List ℕ) (o : Option ℕ) → number_named fs x ≡ o → (rest : List ℕ)
    → largest (map (needs_at depth fs) (cons_option o rest))
    ≡ max (measure_within depth fs (function_named fs x)) (largest (map (needs_at depth fs) rest))
one_callee depth fs x None is rest =
    let none : measure_within depth fs (function_named fs x) ≡ 0 =
    ap (measure_within depth fs) (find_no_position (λ f. bytes_eq f.name x) fs is) ∙ none_needs depth fs in
    omega (arith, none)
one_callee depth fs x (Some n) is rest =
    let same : measure_within depth fs (function_named fs x) ≡ needs_at depth fs n =
    ap (measure_within depth fs) (find_at_position (λ f. bytes_eq f.name x) fs n is) in
    omega (arith, same)

-- callees by number and by name
pub callee_needs : (depth : ℕ) (fs : List Func) (names : List (List ℕ))
    → largest (map (needs_at depth fs) (numbers_named fs names))
    ≡ largest (map (λ x. measure_within depth fs (function_named fs x)) names)
callee_needs depth fs [] = refl
callee_needs depth fs (x ∷ xs) =
    one_callee depth fs x (number_named fs x) refl (numbers_named fs xs)
    ∙ ap (λ (n : ℕ). max (measure_within depth fs (function_named fs x)) n) (callee_needs depth fs xs)

module _ (fs : List Func) (own needs after : List ℕ) (depth cap : ℕ)
    (own_is : own ≡ map (λ f. min (4 * function_bulk f + 256 + nested_buffers f) cap) fs)
    (needs_are : (f : ℕ) → get_or needs f 0 ≡ min (needs_at depth fs f) cap)
    (len : length after ≡ length fs)
    (round : (f : ℕ) → f < length fs → get_or after f 0
    ≡ min (get_or own f 0 + largest (map (λ g. get_or needs g 0) (row (call_table fs) f))) cap)
  where
    at_function : (f : ℕ) (caller : Func) → slice_get fs f ≡ Some caller → get_or after f 0
        ≡ min (measure_within (depth + 1) fs (Some caller)) cap
    at_function f caller is =
        let inside = slice_get_within fs f caller is in
        let its_own : get_or own f 0 ≡ min (4 * function_bulk caller + 256 + nested_buffers caller) cap =
        ap (λ ns. get_or ns f 0) own_is
        ∙ get_or_map (λ g. min (4 * function_bulk g + 256 + nested_buffers g) cap) fs f caller 0 is in
        let its_row : row (call_table fs) f ≡ numbers_named fs (callees caller) =
        get_or_map (λ g. numbers_named fs (callees g)) fs f caller [] is in
        let of_callees : largest (map (λ g. get_or needs g 0) (row (call_table fs) f))
        ≡ min (largest (map (λ x. measure_within depth fs (function_named fs x)) (callees caller))) cap =
        ap (λ ns. largest (map (λ g. get_or needs g 0) ns)) its_row
        ∙ ap largest (map_same (λ g. get_or needs g 0) (λ g. min (needs_at depth fs g) cap) needs_are
        (numbers_named fs (callees caller)))
        ∙ largest_capped (needs_at depth fs) cap (numbers_named fs (callees caller))
        ∙ ap (λ (n : ℕ). min n cap) (callee_needs depth fs (callees caller)) in
        rw add-one (omega (arith, round f inside, its_own, of_callees))

    at_option : (f : ℕ) (o : Option Func) → slice_get fs f ≡ o → get_or after f 0
        ≡ min (measure_within (depth + 1) fs o) cap
    at_option f None is =
        let past = none_past fs f is in
        let none : measure_within (depth + 1) fs None ≡ 0 = none_needs (depth + 1) fs in
        get_or_past after f 0 (omega (arith, past)) ∙ sym (rw none (omega arith))
    at_option f (Some caller) is = at_function f caller is

    pub one_deeper : (f : ℕ) → get_or after f 0 ≡ min (needs_at (depth + 1) fs f) cap
    one_deeper f = at_option f (slice_get fs f) refl
