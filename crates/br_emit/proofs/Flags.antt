-- Flags of called functions, and what is the same by them and by the program.
use Rattle.std.proofs.Common.{◌≡◌, ℕ, suc, ◌+◌, ◌<◌, ◌≤◌, ◌==◌, ◌||◌, if◌then◌else◌, Bool, true, false}
use Rattle.std.proofs.Common.{List, [], ◌∷◌, ◌++◌, get_or, length, replicate, refl, ap, ◌∙◌, arith}
use Rattle.std.specs.List.{flat_map, list_any}
use Rattle.std.proofs.lemmas.List.{get_or-replicate, length-replicate}
use Rattle.br_flatimp.specs.declared.program.FlatFunc.{FlatFunc}
use Rattle.br_flatimp.specs.Parts.{callees}
use Rattle.br_flatimp.specs.Liveness.{is_in}
use Rattle.br_flatimp.specs.Runs.{Forgets}
use Rattle.br_emit.specs.Code.{Targets, callable_items, entry_items, direct_items, is_called, program_items}
use Rattle.br_emit.specs.Sizes.{callable_words, function_words, begins, entries, program_words}
use Rattle.br_emit.specs.Marks.{marked}
use Rattle.br_emit.specs.Written.{one_items, rest_items, flagged, AreCalled}
use Rattle.br_emit.proofs.Readiness.{flag_of}

any_both : (p : ℕ → Bool) (xs ys : List ℕ) → list_any p (xs ++ ys) ≡ (list_any p xs || list_any p ys)
any_both p [] ys = refl
any_both p (x ∷ xs) ys = by (p x) (any_both p xs ys)
  where
    by : (b : Bool) → list_any p (xs ++ ys) ≡ (list_any p xs || list_any p ys)
        → (b || list_any p (xs ++ ys)) ≡ ((b || list_any p xs) || list_any p ys)
    by true h = refl
    by false h = h

called_among : (fs : List FlatFunc) (n : ℕ) → is_in (flat_map callees fs) n ≡ is_called fs n
called_among [] n = refl
called_among (f ∷ fs) n = any_both (λ g. g == n) (callees f) (flat_map callees fs)
    ∙ ap (λ b. list_any (λ g. g == n) (callees f) || b) (called_among fs n)

-- the same flags of `size` numbers from n on
abbrev pub Agree : (ℕ → Bool) → (ℕ → Bool) → ℕ → ℕ → Type 0
Agree p q n size = (k : ℕ) → n ≤ k → k < n + size → p k ≡ q k

pub flags_are : (fs : List FlatFunc) (flags : List Bool)
    → flags ≡ marked (replicate (length fs) false) (flat_map callees fs) → AreCalled flags fs
flags_are fs flags is k inside =
    let size : length (replicate (length fs) false) ≡ length fs = length-replicate (length fs) false in
    let inside2 : k < length (replicate (length fs) false) = omega (arith, inside, size) in
    let unset : get_or (replicate (length fs) false) k false ≡ false =
    get_or-replicate (length fs) k false false inside in
    ap (λ q. get_or q k false) is
    ∙ flag_of (replicate (length fs) false) (flat_map callees fs) k inside2
    ∙ ap (λ b. b || is_in (flat_map callees fs) k) unset
    ∙ called_among fs k

pub agree : (fs : List FlatFunc) (flags : List Bool) → AreCalled flags fs
    → Agree (flagged flags) (is_called fs) 0 (length fs)
agree fs flags h k from below = h k (omega (arith, below))

agree_here : (p q : ℕ → Bool) (n size : ℕ) → Agree p q n (suc size) → p n ≡ q n
agree_here p q n size h = h n (omega arith) (omega arith)

agree_rest : (p q : ℕ → Bool) (n size : ℕ) → Agree p q n (suc size) → Agree p q (n + 1) size
agree_rest p q n size h k from below = h k (omega (arith, from)) (omega (arith, below))

pub same_begins : (near : Bool) (forgets : Forgets) (p q : ℕ → Bool) (place n : ℕ) (rest : List FlatFunc)
    → Agree p q n (length rest) → begins near forgets p place n rest ≡ begins near forgets q place n rest
same_begins near forgets p q place n [] h = refl
same_begins near forgets p q place n (f ∷ rest) h =
    ap (λ l. place ∷ l) (same_begins near forgets p q (place + function_words near forgets (p n) n f) (n + 1) rest
    (agree_rest p q n (length rest) h)
    ∙ ap (λ b. begins near forgets q (place + function_words near forgets b n f) (n + 1) rest)
    (agree_here p q n (length rest) h))

pub same_entries : (near : Bool) (forgets : Forgets) (p q : ℕ → Bool) (place n : ℕ) (rest : List FlatFunc)
    → Agree p q n (length rest) → entries near forgets p place n rest ≡ entries near forgets q place n rest
same_entries near forgets p q place n [] h = refl
same_entries near forgets p q place n (f ∷ rest) h =
    ap (λ l. (if p n then place + callable_words near forgets n f else place) ∷ l) (same_entries near forgets p q
    (place + function_words near forgets (p n) n f) (n + 1) rest (agree_rest p q n (length rest) h))
    ∙ ap (λ b. (if b then place + callable_words near forgets n f else place) ∷ entries near forgets q
    (place + function_words near forgets b n f) (n + 1) rest) (agree_here p q n (length rest) h)

pub same_words : (near : Bool) (forgets : Forgets) (p q : ℕ → Bool) (n : ℕ) (rest : List FlatFunc)
    → Agree p q n (length rest) → program_words near forgets p n rest ≡ program_words near forgets q n rest
same_words near forgets p q n [] h = refl
same_words near forgets p q n (f ∷ rest) h =
    ap (λ l. function_words near forgets (p n) n f + l)
    (same_words near forgets p q (n + 1) rest (agree_rest p q n (length rest) h))
    ∙ ap (λ b. function_words near forgets b n f + program_words near forgets q (n + 1) rest)
    (agree_here p q n (length rest) h)

-- functions one after another are the program
pub rest_is : (targets : Targets) (forgets : Forgets) (p : ℕ → Bool) (fs : List FlatFunc) (n : ℕ) (rest : List FlatFunc)
    → Agree p (is_called fs) n (length rest)
    → rest_items targets forgets p n rest ≡ program_items targets forgets fs n rest
rest_is targets forgets p fs n [] h = refl
rest_is targets forgets p fs n (f ∷ rest) h =
    ap (λ l. one_items targets forgets (p n) n (targets.at n) f ++ l)
    (rest_is targets forgets p fs (n + 1) rest (agree_rest p (is_called fs) n (length rest) h))
    ∙ ap (λ b. (if b then callable_items targets forgets n f ++ entry_items targets.near (targets.at n)
    else direct_items targets f) ++ program_items targets forgets fs (n + 1) rest)
    (agree_here p (is_called fs) n (length rest) h)
