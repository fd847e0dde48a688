-- Where no function has a path of calls to itself, a path of calls within the program has no more functions
-- than the program, so that as many calls as functions reach all that a function may need.
use Rattle.std.proofs.Common.{◌≡◌, ℕ, zero, suc, ◌+◌, ◌<◌, ◌≤◌, Bool, true, false, eqb, List, [], ◌∷◌, Option, Some}
use Rattle.std.proofs.Common.{None, length, get_or, set, map, min, refl, sym, ap, ◌∙◌, arith, ⊎_elim, Contains}
use Rattle.std.proofs.lemmas.Bool.{false≢true, or_cases, or_parts, eqb-true, false_from_ne_true, eqb-false}
use Rattle.std.proofs.lemmas.List.{get_or-set_other}
use Rattle.std.proofs.lemmas.Option.{slice_get_within}
use Rattle.std.specs.List.{slice_get, list_any}
use Rattle.std.specs.Option.{unwrap_or, option_map}
use Rattle.br_flatimp.specs.declared.program.FlatFunc.{FlatFunc}
use Rattle.br_flatimp.specs.Parts.{callees}
use Rattle.br_flatimp.specs.Sizes.{Calls, CallPath, HasNoRecursion, largest, need, need_within, own_need}
use Rattle.br_stack_need.proofs.Rounds.{needs_at, none_needs}

abbrev has : List ℕ → ℕ → Bool
has ns n = list_any (λ m. eqb n m) ns

-- numbers of which none stands twice
abbrev Apart : List ℕ → Type 0
Apart [] = Unit {0}
Apart (x ∷ xs) = (has xs x ≡ false) × Apart xs

-- the sum of some weights, and of all
abbrev weights_of : List ℕ → List ℕ → ℕ
weights_of ws [] = 0
weights_of ws (x ∷ xs) = get_or ws x 0 + weights_of ws xs

abbrev all_weights : List ℕ → ℕ
all_weights [] = 0
all_weights (w ∷ ws) = w + all_weights ws

one_less : (ws : List ℕ) (x : ℕ) → get_or ws x 0 + all_weights (set ws x 0) ≡ all_weights ws
one_less [] x = refl
one_less (w ∷ ws) zero = omega arith
one_less (w ∷ ws) (suc x) = omega (arith, one_less ws x)

others_stay : (ws : List ℕ) (x : ℕ) (xs : List ℕ) → has xs x ≡ false → weights_of (set ws x 0) xs ≡ weights_of ws xs
others_stay ws x [] apart = refl
others_stay ws x (y ∷ ys) apart =
    let parts = or_parts (eqb x y) (has ys x) apart in
    let other : get_or (set ws x 0) y 0 ≡ get_or ws y 0 =
    get_or-set_other ws x y 0 0 (λ (e : y ≡ x). eqb-false x y parts.0 (sym e)) in
    omega (arith, other, others_stay ws x ys parts.1)

weights_apart : (xs ws : List ℕ) → Apart xs → weights_of ws xs ≤ all_weights ws
weights_apart [] ws apart = omega arith
weights_apart (x ∷ xs) ws apart =
    omega (arith, weights_apart xs (set ws x 0) apart.1, others_stay ws x xs apart.0, one_less ws x)

-- functions of the program of which each calls the next
abbrev Chain : List FlatFunc → ℕ → List ℕ → Type 0
Chain fs f [] = Unit {0}
Chain fs f (h ∷ hs) = Calls fs f h × (h < length fs) × Chain fs h hs

chain_path : (fs : List FlatFunc) (f : ℕ) (hs : List ℕ) (q : ℕ) → Chain fs f hs → has hs q ≡ true
    → (between : List ℕ) × CallPath fs f between q
chain_path fs f [] q chain stands = absurd (false≢true stands)
chain_path fs f (h ∷ hs) q chain stands =
    ⊎_elim
    (λ e. let same : q ≡ h = eqb-true q h e in rw same ([], chain.0))
    (λ e. let path = chain_path fs h hs q chain.2 e in (h ∷ path.0, (chain.0, path.1)))
    (or_cases (eqb q h) (has hs q) stands)

chain_apart : (fs : List FlatFunc) → HasNoRecursion fs → (f : ℕ) (hs : List ℕ) → Chain fs f hs → Apart (f ∷ hs)
chain_apart fs none f [] chain = (refl, tt)
chain_apart fs none f (h ∷ hs) chain = (
  false_from_ne_true (has (h ∷ hs) f)
      (λ stands. let path = chain_path fs f (h ∷ hs) f chain stands in none f path.0 path.1),
  chain_apart fs none h hs chain.2,
)

-- ---- a path has no more functions than the program

abbrev one : FlatFunc → ℕ
one f = 1

all_ones : (fs : List FlatFunc) → all_weights (map one fs) ≡ length fs
all_ones [] = refl
all_ones (f ∷ fs) = omega (arith, all_ones fs)

one_at : (fs : List FlatFunc) (x : ℕ) → x < length fs → get_or (map one fs) x 0 ≡ 1
one_at [] x inside = absurd (omega arith)
one_at (f ∷ fs) zero inside = refl
one_at (f ∷ fs) (suc x) inside = one_at fs x (omega arith)

chain_ones : (fs : List FlatFunc) (f : ℕ) (hs : List ℕ) → Chain fs f hs → weights_of (map one fs) hs ≡ length hs
chain_ones fs f [] chain = refl
chain_ones fs f (h ∷ hs) chain = omega (arith, one_at fs h chain.1, chain_ones fs h hs chain.2)

chain_short : (fs : List FlatFunc) → HasNoRecursion fs → (f : ℕ) → f < length fs → (hs : List ℕ) → Chain fs f hs
    → length hs < length fs
chain_short fs none f inside hs chain =
    omega (
      arith,
      weights_apart (f ∷ hs) (map one fs) (chain_apart fs none f hs chain),
      one_at fs f inside,
      chain_ones fs f hs chain,
      all_ones fs,
    )

-- ---- one call deeper changes nothing where no path is so long

map_same_in : (F G : ℕ → ℕ) (ns : List ℕ) → ((x : ℕ) → Contains ns x → F x ≡ G x) → map F ns ≡ map G ns
map_same_in F G [] same = refl
map_same_in F G (x ∷ xs) same =
    let head = same x (0, omega arith, refl) in
    let rest = map_same_in F G xs (λ y c. same y (suc c.0, omega (arith, c.1), c.2)) in
    cc

module _ (fs : List FlatFunc) where
  callees_same : (low high : ℕ) (caller : FlatFunc) (f : ℕ) → slice_get fs f ≡ Some caller
      → ((g : ℕ) → Calls fs f g → needs_at low fs g ≡ needs_at high fs g)
      → largest (map (needs_at low fs) (callees caller)) ≡ largest (map (needs_at high fs) (callees caller))
  callees_same low high caller f at same =
      ap largest (map_same_in (needs_at low fs) (needs_at high fs) (callees caller)
      (λ g called. same g (record { caller = caller; at = at; called = called })))

  -- where paths from f have fewer calls than so many
  abbrev Short : ℕ → ℕ → Type 0
  Short f n = (hs : List ℕ) → Chain fs f hs → length hs < n

  shorter : (f n g : ℕ) → Calls fs f g → g < length fs → Short f (suc n) → Short g n
  shorter f n g call inside short hs chain = omega (arith, short (g ∷ hs) (call, inside, chain))

  -- a function that is called, where its needs stay, or a number of no function
  called_stays : (n g : ℕ) (o : Option FlatFunc) → slice_get fs g ≡ o
      → (g < length fs → needs_at n fs g ≡ needs_at (suc n) fs g) → needs_at n fs g ≡ needs_at (suc n) fs g
  called_stays n g None at stays =
      ap (need_within n fs) at ∙ none_needs n fs ∙ sym (none_needs (suc n) fs) ∙ ap (need_within (suc n) fs) (sym at)
  called_stays n g (Some caller) at stays = stays (slice_get_within fs g caller at)

  stays_at : (n f : ℕ) (o : Option FlatFunc) → slice_get fs f ≡ o
      → ((g : ℕ) → Calls fs f g → needs_at n fs g ≡ needs_at (suc n) fs g)
      → need_within (suc n) fs o ≡ need_within (suc (suc n)) fs o
  stays_at n f None at same = refl
  stays_at n f (Some caller) at same =
      ap (λ (m : ℕ). min 4294967295 (own_need caller + m)) (callees_same n (suc n) caller f at same)

  stays : (n f : ℕ) → Short f n → needs_at n fs f ≡ needs_at (suc n) fs f
  stays zero f short = absurd (omega (arith, short [] tt))
  stays (suc n) f short =
      stays_at n f (slice_get fs f) refl
      (λ g call. called_stays n g (slice_get fs g) refl (λ inside. stays n g (shorter f n g call inside short)))

-- ---- what a function needs

of_option : (fs : List FlatFunc) (o : Option FlatFunc)
    → need_within (length fs) fs o ≡ unwrap_or (option_map (need fs) o) 0
of_option fs None = none_needs (length fs) fs
of_option fs (Some f) = refl

all_of_option : (fs : List FlatFunc) (ns : List ℕ) → largest (map (needs_at (length fs) fs) ns)
    ≡ largest (map (λ g. unwrap_or (option_map (need fs) (slice_get fs g)) 0) ns)
all_of_option fs [] = refl
all_of_option fs (g ∷ ns) = omega (arith, of_option fs (slice_get fs g), all_of_option fs ns)

needed : (fs : List FlatFunc) → HasNoRecursion fs → (f : ℕ) (caller : FlatFunc) → slice_get fs f ≡ Some caller
    → f < length fs → (n : ℕ) → length fs ≡ n
    → need_within n fs (Some caller) ≡ min 4294967295 (own_need caller + largest (map (needs_at n fs) (callees caller)))
needed fs none f caller at inside zero len = absurd (omega arith)
needed fs none f caller at inside (suc n) len =
    ap (λ (m : ℕ). min 4294967295 (own_need caller + m))
    (callees_same fs n (suc n) caller f at
    (λ g call. called_stays fs n g (slice_get fs g) refl
    (λ within. stays fs n g
    (shorter fs f n g call within (λ hs chain. omega (arith, chain_short fs none f inside hs chain))))))

pub needs_add_up : (fs : List FlatFunc) (f : ℕ) (caller : FlatFunc) → HasNoRecursion fs → slice_get fs f ≡ Some caller
    → need fs caller ≡ min 4294967295 (own_need caller
    + largest (map (λ g. unwrap_or (option_map (need fs) (slice_get fs g)) 0) (callees caller)))
needs_add_up fs f caller none at =
    needed fs none f caller at (slice_get_within fs f caller at) (length fs) refl
    ∙ ap (λ (m : ℕ). min 4294967295 (own_need caller + m)) (all_of_option fs (callees caller))
