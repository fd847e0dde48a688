-- Numbers that stand among numbers, and where paths lead.
use Rattle.std.proofs.Common.{◌≡◌, ℕ, zero, suc, ◌≤◌, Bool, true, ◌||◌, eqb, List, [], ◌∷◌, ◌++◌, length, map, arith}
use Rattle.std.proofs.lemmas.List.Folds.{list_any-append}
use Rattle.br_measure.specs.Measure.{largest}
use Rattle.br_measure.specs.Table.{row, has, TablePath, Leads}

pub has_append : (xs ys : List ℕ) (n : ℕ) → has (xs ++ ys) n ≡ (has xs n || has ys n)
has_append xs ys n = list_any-append (λ m. eqb n m) xs ys

-- one call more
pub path_on : (t : List (List ℕ)) (f : ℕ) (hs : List ℕ) (g k : ℕ) → TablePath t f hs g → has (row t g) k ≡ true
    → TablePath t f (hs ++ g ∷ []) k
path_on t f [] g k path call = (path, call)
path_on t f (h ∷ hs) g k path call = (path.0, path_on t h hs g k path.1 call)

pub leads_on : (t : List (List ℕ)) (f g k : ℕ) → Leads t f g → has (row t g) k ≡ true → Leads t f k
leads_on t f g k l call = (l.0 ++ g ∷ [], path_on t f l.0 g k l.1 call)

-- a set of functions that has the callees of one and of each in it has every function that a path leads to
pub path_stays : (t : List (List ℕ)) (In : ℕ → Bool)
    → ((h : ℕ) → In h ≡ true → (g : ℕ) → has (row t h) g ≡ true → In g ≡ true)
    → (f : ℕ) → ((g : ℕ) → has (row t f) g ≡ true → In g ≡ true) → (hs : List ℕ) (g : ℕ) → TablePath t f hs g → In g
    ≡ true
path_stays t In closed f start [] g path = start g path
path_stays t In closed f start (h ∷ hs) g path = path_stays t In closed h (closed h (start h path.0)) hs g path.1

pub row_length-le : (t : List (List ℕ)) (f : ℕ) → length (row t f) ≤ largest (map (λ (ns : List ℕ). length ns) t)
row_length-le [] f = omega arith
row_length-le (ns ∷ t) zero = omega arith
row_length-le (ns ∷ t) (suc f) = omega (arith, row_length-le t f)
