-- Lemmas on variables as they are kept.
use Rattle.std.proofs.Common.{◌≡◌, ℕ, zero, suc, ◌<◌, ◌≤◌, Bool, true, false, List, [], ◌∷◌, length, Option, None}
use Rattle.std.proofs.Common.{get_or, slice_set, if◌then◌else◌, replicate, ◌++◌, take, refl, sym, ap, ◌∙◌, arith}
use Rattle.std.specs.List.{IsDistinct, AllByRecursion}
use Rattle.std.specs.Str.{bytes_eq}
use Rattle.std.proofs.lemmas.Slice.Eq.{bytes_eq-Decides}
use Rattle.br_numbering.specs.Names.{number}
use Rattle.br_source_meaning.specs.Values.{Name, no_locals}
use Rattle.br_source_meaning.specs.Runs.{with_locals}
use Rattle.br_source_meaning.specs.Names.{names_at}
use Rattle.br_source_meaning.specs.Variables.{with_word, locals_of}
use Rattle.br_source_meaning.specs.Running.{names_of, locals_in}
use Rattle.br_source_meaning.specs.declared.variables.Variables.{Variables}

-- where no word is set, no variable is
none-at : (names : List Name) (n : ℕ) (x : Name) → locals_of names (replicate n None) x ≡ None
none-at [] n x = refl
none-at (y ∷ names) zero x = refl
none-at (y ∷ names) (suc n) x = by (bytes_eq x y) (none-at names n x)
  where
    by : (b : Bool) → locals_of names (replicate n None) x ≡ None
        → (if b then None else locals_of names (replicate n None) x) ≡ None
    by true h = refl
    by false h = h

none-set : (names : List Name) (n : ℕ) (words : List (Option ℕ)) → words ≡ replicate n None → locals_of names words
    ≡ no_locals
none-set names n words is = ap (locals_of names) is ∙ (λ i x. none-at names n x i)

-- what a list was filled up with
filled : (n m : ℕ) (xs words : List (Option ℕ)) → xs ≡ [] → words ≡ take n xs ++ replicate m None → words
    ≡ replicate m None
filled zero m xs words is all = all
filled (suc n) m xs words is all = all ∙ ap (λ xs. take (suc n) xs ++ replicate m None) is

pub none-filled : (names : List Name) (n m : ℕ) (xs words : List (Option ℕ)) → xs ≡ [] → words
    ≡ take n xs ++ replicate m None → locals_of names words ≡ no_locals
none-filled names n m xs words is all = none-set names m words (filled n m xs words is all)

same : (x : Name) → bytes_eq x x ≡ true
same x = (bytes_eq-Decides x x).1 refl

-- a later name is another one
apart : (q : Name) (names : List Name) (k : ℕ) → k < length names → AllByRecursion (λ y. bytes_eq q y ≡ false) names
    → bytes_eq q (get_or names k []) ≡ false
apart q [] k inside all = absurd (omega (arith, inside))
apart q (x ∷ names) zero inside all = all.0
apart q (x ∷ names) (suc k) inside all = apart q names k (omega (arith, inside)) all.1

swapped : (x y : Name) (b : Bool) → bytes_eq x y ≡ b → bytes_eq y x ≡ b
swapped x y true h = (bytes_eq-Decides y x).1 (sym ((bytes_eq-Decides x y).0 h))
swapped x y false h = by (bytes_eq y x) refl
  where
    by : (c : Bool) → bytes_eq y x ≡ c → c ≡ false
    by false e = refl
    by true e = let back : bytes_eq x y ≡ true =
        (bytes_eq-Decides x y).1 (sym ((bytes_eq-Decides y x).0 e)) in absurd (cc (back, h))

-- the word of a number's name
pub word-at : (names : List Name) (words : List (Option ℕ)) (k : ℕ) → IsDistinct bytes_eq names → length words
    ≡ length names → k < length names → locals_of names words (get_or names k []) ≡ get_or words k None
unfolding IsDistinct
word-at [] words k distinct long inside = absurd (omega (arith, inside))
word-at (q ∷ names) [] k distinct long inside = absurd (omega (arith, long))
word-at (q ∷ names) (w ∷ words) zero distinct long inside = ap (λ b. if b then w else locals_of names words q) (same q)
word-at (q ∷ names) (w ∷ words) (suc k) distinct long inside =
    let x = get_or names k [] in
    let other : bytes_eq x q ≡ false = swapped q x false (apart q names k (omega (arith, inside)) distinct.0) in
    ap (λ b. if b then w else locals_of names words x) other
    ∙ word-at names words k distinct.1 (omega (arith, long)) (omega (arith, inside))

-- after a change at a number
changed-at : (names : List Name) (words : List (Option ℕ)) (k : ℕ) (word : Option ℕ) (y : Name)
    → IsDistinct bytes_eq names → length words ≡ length names → k < length names
    → locals_of names (slice_set words k word) y ≡ with_word (get_or names k []) word (locals_of names words) y
unfolding IsDistinct
changed-at [] words k word y distinct long inside = absurd (omega (arith, inside))
changed-at (q ∷ names) [] k word y distinct long inside = absurd (omega (arith, long))
changed-at (q ∷ names) (w ∷ words) zero word y distinct long inside = by (bytes_eq y q)
  where
    by : (b : Bool) → (if b then word else locals_of names words y)
        ≡ (if b then word else (if b then w else locals_of names words y))
    by true = refl
    by false = refl
changed-at (q ∷ names) (w ∷ words) (suc k) word y distinct long inside =
    by (bytes_eq y q) refl (changed-at names words k word y distinct.1 (omega (arith, long)) (omega (arith, inside)))
  where
    x : Name
    x = get_or names k []

    rest : Option ℕ
    rest = locals_of names words y

    by : (b : Bool) → bytes_eq y q ≡ b → locals_of names (slice_set words k word) y
        ≡ (if bytes_eq y x then word else rest)
        → (if b then w else locals_of names (slice_set words k word) y)
        ≡ (if bytes_eq y x then word else (if b then w else rest))
    by false e h = h
    by true e h =
        let is : y ≡ q = (bytes_eq-Decides y q).0 e in
        let other : bytes_eq y x ≡ false = ap (λ z. bytes_eq z x) is
        ∙ apart q names k (omega (arith, inside)) distinct.0 in
        sym (ap (λ b. if b then word else w) other)

pub changed : (names : List Name) (words : List (Option ℕ)) (k : ℕ) (word : Option ℕ) → IsDistinct bytes_eq names
    → length words ≡ length names → k < length names
    → locals_of names (slice_set words k word) ≡ with_word (get_or names k []) word (locals_of names words)
changed names words k word distinct long inside = λ i y. changed-at names words k word y distinct long inside i

-- a name that is not there
pub absent : (names : List Name) (words : List (Option ℕ)) (x : Name) → length names ≤ number names x
    → locals_of names words x ≡ None
absent [] words x most = refl
absent (y ∷ names) [] x most = refl
absent (y ∷ names) (w ∷ words) x most = by (bytes_eq y x) refl (absent names words x) most
  where
    by : (b : Bool) → bytes_eq y x ≡ b → (length names ≤ number names x → locals_of names words x ≡ None)
        → suc (length names) ≤ (if b then 0 else suc (number names x))
        → (if bytes_eq x y then w else locals_of names words x) ≡ None
    by true e rest most = absurd (omega (arith, most))
    by false e rest most = ap (λ b. if b then w else locals_of names words x) (swapped y x false e)
        ∙ rest (omega (arith, most))

-- ---- variables by their names

-- after variables were set in turn
pub set-more : (v after : Variables) (ks vs : List ℕ) → after.names.now ≡ v.names.now
    → locals_of (names_of v) after.words ≡ with_locals (names_at (names_of v) ks) vs (locals_in v) → locals_in after
    ≡ with_locals (names_at (names_of v) ks) vs (locals_in v)
set-more v after ks vs same set = ap (λ (n : List Name). locals_of n after.words) same ∙ set

-- the same where none was set before
pub set-first : (names : List Name) (v after : Variables) (ks vs : List ℕ) → v.names.now ≡ names → locals_in v
    ≡ no_locals → after.names.now ≡ v.names.now → locals_of (names_of v) after.words
    ≡ with_locals (names_at (names_of v) ks) vs (locals_in v) → locals_in after
    ≡ with_locals (names_at names ks) vs no_locals
set-first names v after ks vs own none same set =
    set-more v after ks vs same set
    ∙ ap (with_locals (names_at (names_of v) ks) vs) none
    ∙ ap (λ (n : List Name). with_locals (names_at n ks) vs no_locals) own
