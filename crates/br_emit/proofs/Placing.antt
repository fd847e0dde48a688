-- The places of functions that stand one after another.
use Rattle.std.proofs.Common.{◌≡◌, ℕ, ◌+◌, ◌-◌, ◌<◌, ◌≤◌, if◌then◌else◌, Bool, List, []}
use Rattle.std.proofs.Common.{◌∷◌, map, get_or, length, drop, sym, ap, subst, ◌∙◌, arith}
use Rattle.std.specs.List.{AllByRecursion}
use Rattle.br_flatimp.specs.declared.program.FlatFunc.{FlatFunc}
use Rattle.br_flatimp.specs.Runs.{Forgets}
use Rattle.br_emit.specs.Sizes.{callable_words, function_words, begins, entries, program_words}
use Rattle.br_emit.specs.Buffer.{Noted, noted}
use Rattle.br_emit.specs.Written.{Writable, offset_of}
use Rattle.br_emit.specs.Code.{address_of}
use Rattle.br_emit.proofs.Readiness.{noted_twice}
use Rattle.br_emit.proofs.Unrolling.{drop_next}

-- the place of an entry
abbrev pub entry_at : Bool → Forgets → Bool → ℕ → ℕ → FlatFunc → ℕ
entry_at near forgets called place n f = if called then place + callable_words near forgets n f else place

pub record PlaceHere (near : Bool) (forgets : Forgets) (called : ℕ → Bool) (place n : ℕ) (f : FlatFunc) (t o : Noted)
    (most : ℕ) : Type 0 where
  pub targets : 1 ≤ t.room
  pub offsets : 1 ≤ o.room
  pub writable : Writable near most f
  pub few : place + function_words near forgets (called n) n f ≤ 1048576

long_next : {X : Type 0} (xs : List X) (i : ℕ) (x : X) → i < length xs → x ≡ get_or xs i x
    → length (drop i xs) ≡ 1 + length (drop (i + 1) xs)
long_next xs i x inside is = let next = ap length (drop_next xs i x inside is) in omega (arith, next)

pub place_here : (near : Bool) (forgets : Forgets) (called : ℕ → Bool) (fs : List FlatFunc) (i place n : ℕ)
    (f : FlatFunc) (t o : Noted) (most : ℕ) → i < length fs → f ≡ get_or fs i f
    → length (drop i fs) ≤ t.room → length (drop i fs) ≤ o.room → AllByRecursion (Writable near most) (drop i fs)
    → place + program_words near forgets called n (drop i fs) ≤ 1048576
    → PlaceHere near forgets called place n f t o most
place_here near forgets called fs i place n f t o most inside is troom oroom writable few =
    let long = long_next fs i f inside is in
    let words = ap (program_words near forgets called n) (drop_next fs i f inside is) in
    record {
      targets = omega (arith, long, troom);
      offsets = omega (arith, long, oroom);
      writable = (subst (AllByRecursion (Writable near most)) (drop_next fs i f inside is) writable).0;
      few = omega (arith, words, few);
    }

pub record PlaceStep (near : Bool) (forgets : Forgets) (called : ℕ → Bool) (fs : List FlatFunc) (i place place' n : ℕ)
    (f : FlatFunc) (t t' o o' : Noted) (most : ℕ) : Type 0 where
  pub words : place' + program_words near forgets called (n + 1) (drop (i + 1) fs)
      ≡ place + program_words near forgets called n (drop i fs)
  pub targets : noted t' (map address_of (begins near forgets called place' (n + 1) (drop (i + 1) fs)))
      ≡ noted t (map address_of (begins near forgets called place n (drop i fs)))
  pub offsets : noted o' (map offset_of (entries near forgets called place' (n + 1) (drop (i + 1) fs)))
      ≡ noted o (map offset_of (entries near forgets called place n (drop i fs)))
  pub target_room : length (drop (i + 1) fs) ≤ t'.room
  pub offset_room : length (drop (i + 1) fs) ≤ o'.room
  pub writable : AllByRecursion (Writable near most) (drop (i + 1) fs)

pub place_step : (near : Bool) (forgets : Forgets) (called : ℕ → Bool) (fs : List FlatFunc) (i place place' n : ℕ)
    (f : FlatFunc) (t t' o o' : Noted) (most most' : ℕ) → i < length fs → f ≡ get_or fs i f
    → place' ≡ place + function_words near forgets (called n) n f → t' ≡ noted t (address_of place ∷ [])
    → o' ≡ noted o (offset_of (entry_at near forgets (called n) place n f) ∷ []) → most' ≡ most
    → length (drop i fs) ≤ t.room → length (drop i fs) ≤ o.room → AllByRecursion (Writable near most) (drop i fs)
    → PlaceStep near forgets called fs i place place' n f t t' o o' most'
place_step near forgets called fs i place place' n f t t' o o' most most' inside is place_is new_t new_o kept troom
    oroom writable =
    let next = drop_next fs i f inside is in
    let rest = drop (i + 1) fs in
    let long = long_next fs i f inside is in
    let words = ap (program_words near forgets called n) next in
    let tr : t'.room ≡ t.room - 1 = ap (λ q. q.room) new_t in
    let or : o'.room ≡ o.room - 1 = ap (λ q. q.room) new_o in
    record {
      words = omega (arith, words, place_is);
      targets =
          ap (λ q. noted q (map address_of (begins near forgets called place' (n + 1) rest))) new_t
          ∙ noted_twice t (address_of place ∷ []) (map address_of (begins near forgets called place' (n + 1) rest))
          ∙ ap (λ p. noted t (address_of place ∷ map address_of (begins near forgets called p (n + 1) rest))) place_is
          ∙ ap (λ q. noted t (map address_of (begins near forgets called place n q))) (sym next);
      offsets =
          ap (λ q. noted q (map offset_of (entries near forgets called place' (n + 1) rest))) new_o
          ∙ noted_twice o (offset_of (entry_at near forgets (called n) place n f) ∷ [])
          (map offset_of (entries near forgets called place' (n + 1) rest))
          ∙ ap (λ p. noted o (offset_of (entry_at near forgets (called n) place n f)
          ∷ map offset_of (entries near forgets called p (n + 1) rest))) place_is
          ∙ ap (λ q. noted o (map offset_of (entries near forgets called place n q))) (sym next);
      target_room = omega (arith, long, tr, troom);
      offset_room = omega (arith, long, or, oroom);
      writable = subst (λ m. AllByRecursion (Writable near m) rest) (sym kept)
          (subst (AllByRecursion (Writable near most)) next writable).1;
    }
