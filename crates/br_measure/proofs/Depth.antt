-- Where no function has a path of calls to itself, a path has no more functions than the program, so
-- that as many calls as functions reach all that a function may need.
use Rattle.std.proofs.Common.{◌≡◌, ℕ, zero, suc, ◌+◌, ◌*◌, ◌<◌, ◌≤◌, true, false, eqb, List, [], ◌∷◌, Option, Some}
use Rattle.std.proofs.Common.{None, length, get_or, set, map, refl, sym, ap, ◌∙◌, arith, ⊎_elim, Contains}
use Rattle.std.proofs.lemmas.Bool.{false≢true, or_cases, or_parts, eqb-true, false_from_ne_true, eqb-false}
use Rattle.std.proofs.lemmas.List.{get_or-set_other}
use Rattle.std.proofs.lemmas.Option.{slice_get_within}
use Rattle.std.specs.List.{slice_get}
use Rattle.std.specs.Option.{unwrap_or, option_map}
use Rattle.std.specs.Str.{bytes_eq}
use Rattle.br_syntax.specs.declared.program.Func.{Func}
use Rattle.br_syntax.specs.Functions.{function_named, number_named}
use Rattle.br_measure.specs.Bulk.{function_bulk}
use Rattle.br_measure.specs.Measure.{nested_buffers, measure, measure_within, largest}
use Rattle.br_measure.specs.Paths.{callees, Calls, CallPath, HasNoRecursion}
use Rattle.br_measure.specs.Table.{has}
use Rattle.br_numbering.proofs.Positions.{find_at_position, find_no_position}
use Rattle.br_measure.proofs.Rounds.{needs_at, none_needs}
use Rattle.br_measure.proofs.TablePaths.{callee_within}

-- numbers of which none stands twice
abbrev pub Apart : List ℕ → Type 0
Apart [] = Unit {0}
Apart (x ∷ xs) = (has xs x ≡ false) × Apart xs

-- the sum of some weights, and of all
abbrev pub weights_of : List ℕ → List ℕ → ℕ
weights_of ws [] = 0
weights_of ws (x ∷ xs) = get_or ws x 0 + weights_of ws xs

abbrev pub all_weights : List ℕ → ℕ
all_weights [] = 0
all_weights (w ∷ ws) = w + all_weights ws

one_less : (ws : List ℕ) (x : ℕ) → get_or ws x 0 + all_weights (set ws x 0) ≡ all_weights ws
one_less [] x = refl
one_less (w ∷ ws) zero = omega arith
one_less (w ∷ ws) (suc x) = omega (arith, one_less ws x)

others_stay : (ws : List ℕ) (x : ℕ) (xs : List ℕ) → has xs x ≡ false → weights_of (set ws x 0) xs ≡ weights_of ws xs
others_stay ws x [] apart = refl
others_stay ws x (y ∷ ys) apart =
    let parts = or_parts (eqb x y) (has ys x) apart in
    let other : get_or (set ws x 0) y 0 ≡ get_or ws y 0 =
    get_or-set_other ws x y 0 0 (λ (e : y ≡ x). eqb-false x y parts.0 (sym e)) in
    omega (arith, other, others_stay ws x ys parts.1)

pub weights_apart : (xs ws : List ℕ) → Apart xs → weights_of ws xs ≤ all_weights ws
weights_apart [] ws apart = omega arith
weights_apart (x ∷ xs) ws apart =
    omega (arith, weights_apart xs (set ws x 0) apart.1, others_stay ws x xs apart.0, one_less ws x)

-- functions of which each calls the next
abbrev pub Chain : List Func → ℕ → List ℕ → Type 0
Chain fs f [] = Unit {0}
Chain fs f (h ∷ hs) = Calls fs f h × Chain fs h hs

chain_path : (fs : List Func) (f : ℕ) (hs : List ℕ) (q : ℕ) → Chain fs f hs → has hs q ≡ true → (between : List ℕ)
    × CallPath fs f between q
chain_path fs f [] q chain stands = absurd (false≢true stands)
chain_path fs f (h ∷ hs) q chain stands =
    ⊎_elim
    (λ e. let same : q ≡ h = eqb-true q h e in rw same ([], chain.0))
    (λ e. let path = chain_path fs h hs q chain.1 e in (h ∷ path.0, (chain.0, path.1)))
    (or_cases (eqb q h) (has hs q) stands)

pub chain_apart : (fs : List Func) → HasNoRecursion fs → (f : ℕ) (hs : List ℕ) → Chain fs f hs → Apart (f ∷ hs)
chain_apart fs none f [] chain = (refl, tt)
chain_apart fs none f (h ∷ hs) chain = (
  false_from_ne_true (has (h ∷ hs) f)
      (λ stands. let path = chain_path fs f (h ∷ hs) f chain stands in none f path.0 path.1),
  chain_apart fs none h hs chain.1,
)

-- a path has no more functions than the program

abbrev one : Func → ℕ
one f = 1

all_ones : (fs : List Func) → all_weights (map one fs) ≡ length fs
all_ones [] = refl
all_ones (f ∷ fs) = omega (arith, all_ones fs)

one_at : (fs : List Func) (x : ℕ) → x < length fs → get_or (map one fs) x 0 ≡ 1
one_at [] x inside = absurd (omega arith)
one_at (f ∷ fs) zero inside = refl
one_at (f ∷ fs) (suc x) inside = one_at fs x (omega arith)

chain_ones : (fs : List Func) (f : ℕ) (hs : List ℕ) → Chain fs f hs → weights_of (map one fs) hs ≡ length hs
chain_ones fs f [] chain = refl
chain_ones fs f (h ∷ hs) chain = omega (arith, one_at fs h (callee_within fs f h chain.0), chain_ones fs h hs chain.1)

pub chain_short : (fs : List Func) → HasNoRecursion fs → (f : ℕ) → f < length fs → (hs : List ℕ) → Chain fs f hs
    → length hs < length fs
chain_short fs none f inside hs chain =
    omega (
      arith,
      weights_apart (f ∷ hs) (map one fs) (chain_apart fs none f hs chain),
      one_at fs f inside,
      chain_ones
          fs f hs chain,
      all_ones fs,
    )

-- one call deeper changes nothing where no path is so long

map_same_in : (F G : List ℕ → ℕ) (names : List (List ℕ)) → ((x : List ℕ) → Contains names x → F x ≡ G x) → map F names
    ≡ map G names
map_same_in F G [] same = refl
map_same_in F G (x ∷ xs) same =
    let head = same x (0, omega arith, refl) in
    let rest = map_same_in F G xs (λ y c. same y (suc c.0, omega (arith, c.1), c.2)) in
    cc

module _ (fs : List Func) where
  -- what a callee of a name needs, by its number
  by_number : (low high : ℕ) (caller : Func) (f : ℕ) → slice_get fs f ≡ Some caller
      → ((g : ℕ) → Calls fs f g → needs_at low fs g ≡ needs_at high fs g)
      → (x : List ℕ) → Contains (callees caller) x → (o : Option ℕ) → number_named fs x ≡ o
      → measure_within low fs (function_named fs x) ≡ measure_within high fs (function_named fs x)
  by_number low high caller f at same x called None is =
      let none = find_no_position (λ h. bytes_eq h.name x) fs is in
      ap (measure_within low fs) none ∙ none_needs low fs ∙ sym (none_needs high fs)
      ∙ ap (measure_within high fs) (sym none)
  by_number low high caller f at same x called (Some g) is =
      let found = find_at_position (λ h. bytes_eq h.name x) fs g is in
      ap (measure_within low fs) found
      ∙ same g (record { caller = caller; at = at; name = x; called = called; named = is })
      ∙ ap (measure_within high fs) (sym found)

  callees_same : (low high : ℕ) (caller : Func) (f : ℕ) → slice_get fs f ≡ Some caller
      → ((g : ℕ) → Calls fs f g → needs_at low fs g ≡ needs_at high fs g)
      → largest (map (λ x. measure_within low fs (function_named fs x)) (callees caller))
      ≡ largest (map (λ x. measure_within high fs (function_named fs x)) (callees caller))
  callees_same low high caller f at same =
      ap largest (map_same_in (λ x. measure_within low fs (function_named fs x))
      (λ x. measure_within high fs (function_named fs x)) (callees caller)
      (λ x called. by_number low high caller f at same x called (number_named fs x) refl))

  -- where paths from f have fewer calls than so many
  abbrev Short : ℕ → ℕ → Type 0
  Short f n = (hs : List ℕ) → Chain fs f hs → length hs < n

  shorter : (f n g : ℕ) → Calls fs f g → Short f (suc n) → Short g n
  shorter f n g call short hs chain = omega (arith, short (g ∷ hs) (call, chain))

  stays_at : (n f : ℕ) (o : Option Func) → slice_get fs f ≡ o
      → ((g : ℕ) → Calls fs f g → needs_at n fs g ≡ needs_at (suc n) fs g)
      → measure_within (suc n) fs o ≡ measure_within (suc (suc n)) fs o
  stays_at n f None at same = refl
  stays_at n f (Some caller) at same =
      ap (λ (m : ℕ). 4 * function_bulk caller + 256 + nested_buffers caller + m)
      (callees_same n (suc n) caller f at same)

  pub stays : (n f : ℕ) → Short f n → needs_at n fs f ≡ needs_at (suc n) fs f
  stays zero f short = absurd (omega (arith, short [] tt))
  stays (suc n) f short = stays_at n f (slice_get fs f) refl (λ g call. stays n g (shorter f n g call short))

-- what the measure of a function is

measured_at : (fs : List Func) → HasNoRecursion fs → (f : ℕ) (caller : Func) → slice_get fs f ≡ Some caller
    → f < length fs → (n : ℕ) → length fs ≡ suc n
    → measure_within (suc n) fs (Some caller)
    ≡ 4 * function_bulk caller + 256 + nested_buffers caller + largest
    (map (λ x. measure_within (suc n) fs (function_named fs x)) (callees caller))
measured_at fs none f caller at inside n len =
    ap (λ (m : ℕ). 4 * function_bulk caller + 256 + nested_buffers caller + m)
    (callees_same fs n (suc n) caller f at
    (λ g call. stays fs n g (shorter fs f n g call (λ hs chain. omega (arith, chain_short fs none f inside hs chain)))))

of_option : (fs : List Func) (o : Option Func) → measure_within (length fs) fs o
    ≡ unwrap_or (option_map (measure fs) o) 0
of_option fs None = none_needs (length fs) fs
of_option fs (Some f) = refl

all_of_option : (fs : List Func) (names : List (List ℕ))
    → largest (map (λ x. measure_within (length fs) fs (function_named fs x)) names)
    ≡ largest (map (λ x. unwrap_or (option_map (measure fs) (function_named fs x)) 0) names)
all_of_option fs [] = refl
all_of_option fs (x ∷ xs) = omega (arith, of_option fs (function_named fs x), all_of_option fs xs)

measured : (fs : List Func) → HasNoRecursion fs → (f : ℕ) (caller : Func) → slice_get fs f ≡ Some caller → f < length fs
    → (n : ℕ) → length fs ≡ n
    → measure_within n fs (Some caller)
    ≡ 4 * function_bulk caller + 256 + nested_buffers caller + largest
    (map (λ x. measure_within n fs (function_named fs x)) (callees caller))
measured fs none f caller at inside zero len = absurd (omega arith)
measured fs none f caller at inside (suc n) len = measured_at fs none f caller at inside n len

pub measure_adds_up : (fs : List Func) (f : ℕ) (caller : Func) → HasNoRecursion fs → slice_get fs f ≡ Some caller
    → measure fs caller ≡ 4 * function_bulk caller + 256 + nested_buffers caller + largest
    (map (λ x. unwrap_or (option_map (measure fs) (function_named fs x)) 0) (callees caller))
measure_adds_up fs f caller none at =
    measured fs none f caller at (slice_get_within fs f caller at) (length fs) refl
    ∙ ap (λ (m : ℕ). 4 * function_bulk caller + 256 + nested_buffers caller + m) (all_of_option fs (callees caller))
