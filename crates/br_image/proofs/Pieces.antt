-- Lists that hold no separator, and what stands around the first one.
use Rattle.std.proofs.Common.{◌≡◌, ◌≢◌, ℕ, ◌^◌, ◌<◌, ◌==◌, Bool, true, List, [], ◌∷◌, ◌++◌, refl, arith}
use Rattle.std.specs.Prelude.{not}
use Rattle.std.specs.List.{list_all}
use Rattle.std.specs.Str.Parse.{AllDigits}
use Rattle.std.specs.Fmt.{decimal}
use Rattle.std.proofs.lemmas.Bool.{and_parts}
use Rattle.std.proofs.lemmas.Bool.Decides.{nat_tests}
use Rattle.std.proofs.lemmas.Fmt.{decimal_is_IsNumeral}
use Rattle.std.proofs.lemmas.Str.Parse.{digit_from_value}
use Rattle.std.proofs.lemmas.List.Elements.{All-cons, All-head, All-nil, All-tail}
use Rattle.br_image.specs.Forms.{Lacks}
use Rattle.br_base.specs.Name.{IsName, starts_name, continues_name}

-- no element is c
abbrev pub Free : ℕ → List ℕ → Type 0
Free c [] = Unit {0}
Free c (x ∷ xs) = (x ≢ c) × Free c xs

pub Free-append : (c : ℕ) (xs ys : List ℕ) → Free c xs → Free c ys → Free c (xs ++ ys)
Free-append c [] ys h k = k
Free-append c (x ∷ xs) ys h k = (h.0, Free-append c xs ys h.1 k)

-- what stands before the first c, and what stands after it
pub cut : (c : ℕ) (xs ys v w : List ℕ) → Free c xs → Free c ys → xs ++ c ∷ v ≡ ys ++ c ∷ w → (xs ≡ ys) × (v ≡ w)
cut c [] [] v w h k e = (refl, cc)
cut c [] (y ∷ ys) v w h k e = absurd (k.0 cc)
cut c (x ∷ xs) [] v w h k e = absurd (h.0 cc)
cut c (x ∷ xs) (y ∷ ys) v w h k e =
    let rest : xs ++ c ∷ v ≡ ys ++ c ∷ w = cc in
    let parts = cut c xs ys v w h.1 k.1 rest in
    let head : x ≡ y = cc in
    let tail = parts.0 in
    (cc, parts.1)

-- a list with a c in it is not free of it
pub Free-not : (c : ℕ) (xs v : List ℕ) → Free c (xs ++ c ∷ v) → ⊥
Free-not c [] v h = h.0 refl
Free-not c (x ∷ xs) v h = Free-not c xs v h.1

abbrev none_is : ℕ → List ℕ → Bool
none_is c xs = list_all (λ x. not (x == c)) xs

differs : (x c : ℕ) → not (x == c) ≡ true → x ≢ c
differs x c h = grind (arith, nat_tests)

pub Free-from_test : (c : ℕ) (xs : List ℕ) → none_is c xs ≡ true → Free c xs
Free-from_test c [] h = tt
Free-from_test c (x ∷ xs) h =
    let parts = and_parts (not (x == c)) (none_is c xs) h in
    (differs x c parts.0, Free-from_test c xs parts.1)

pub Free-digits : (c : ℕ) (ds : List ℕ) → c < 48 → AllDigits 10 ds → Free c ds
Free-digits c [] low h = tt
Free-digits c (d ∷ ds) low h =
    let range = digit_from_value d h.0 in
    let above : d ≢ c = omega arith in
    (above, Free-digits c ds low h.1)

pub Free-decimal : (c n : ℕ) → c < 48 → n < 2 ^ 64 → Free c (decimal n)
Free-decimal c n low small = Free-digits c (decimal n) low (decimal_is_IsNumeral n small).0.1

continues_above : (c b : ℕ) → c < 48 → continues_name b ≡ true → b ≢ c
continues_above c b low h = grind (arith, nat_tests)

starts_above : (c b : ℕ) → c < 48 → starts_name b ≡ true → b ≢ c
starts_above c b low h = grind (arith, nat_tests)

Free-continues : (c : ℕ) (bs : List ℕ) → c < 48 → list_all continues_name bs ≡ true → Free c bs
Free-continues c [] low h = tt
Free-continues c (b ∷ bs) low h =
    let parts = and_parts (continues_name b) (list_all continues_name bs) h in
    (continues_above c b low parts.0, Free-continues c bs low parts.1)

pub Free-name : (c : ℕ) (bs : List ℕ) → c < 48 → IsName bs → Free c bs
Free-name c [] low h = tt
Free-name c (b ∷ bs) low h =
    let parts = and_parts (starts_name b) (list_all continues_name bs) h in
    (starts_above c b low parts.0, Free-continues c bs low parts.1)

pub Free-lacks : (c : ℕ) (xs : List ℕ) → Lacks c xs → Free c xs
Free-lacks c [] h = tt
Free-lacks c (x ∷ xs) h = (All-head (λ b. b ≢ c) x xs h, Free-lacks c xs (All-tail (λ b. b ≢ c) x xs h))

pub Lacks-free : (c : ℕ) (xs : List ℕ) → Free c xs → Lacks c xs
Lacks-free c [] h = All-nil (λ b. b ≢ c)
Lacks-free c (x ∷ xs) h = All-cons (λ b. b ≢ c) x xs h.0 (Lacks-free c xs h.1)
