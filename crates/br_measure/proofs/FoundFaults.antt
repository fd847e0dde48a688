-- What each phase finds is the fault of the program.
use Rattle.std.proofs.Common.{⊎_elim, ◌≡◌, ℕ, zero, suc, ◌*◌, ◌<◌, ◌≤◌, Bool, true, false, cond, ltb, leb, List, []}
use Rattle.std.proofs.Common.{◌∷◌, Option, Some, None, min, length, get_or, map, refl, sym, ap, ◌∙◌, arith, Contains}
use Rattle.std.proofs.lemmas.Grind.{common_steps}
use Rattle.std.proofs.lemmas.Bool.{false≢true, ltb-true, ltb-false, lt-ltb, leb-true, leb-false}
use Rattle.std.proofs.lemmas.List.Sums.{fails_before_first}
use Rattle.std.proofs.lemmas.List.Quantifiers.{position-Some}
use Rattle.std.proofs.lemmas.Option.{slice_get-get_or, slice_get_within, get_or_from_slice_get}
use Rattle.std.specs.List.{All, position, slice_get}
use Rattle.br_syntax.specs.declared.program.Func.{Func}
use Rattle.br_measure.specs.declared.faults.NameFault.{NameFault}
use Rattle.br_measure.specs.declared.faults.NameFault.TheVariants.{DuplicateFunction, UnknownFunction, WrongArguments}
use Rattle.br_measure.specs.declared.faults.NameFault.TheVariants.{WrongResults, UnknownAction, TooLarge, Recursion}
use Rattle.br_measure.specs.declared.faults.NameFault.TheVariants.{StackTooDeep}
use Rattle.br_syntax.specs.FaultOrder.{IsLowest}
use Rattle.br_syntax.specs.NameFaults.{HasNoNameFault}
use Rattle.br_syntax.specs.Shape.{IsShaped}
use Rattle.br_measure.specs.Bulk.{bulk, largest_bulk}
use Rattle.br_measure.specs.Measure.{measure}
use Rattle.br_measure.specs.Names.{place, name_faults}
use Rattle.br_measure.specs.Paths.{HasNoRecursion}
use Rattle.br_measure.specs.Lowest.{lower_of, lower, lowest}
use Rattle.br_measure.specs.Table.{call_table, IsFirstLoop}
use Rattle.br_measure.specs.Faults.{IsRecursive, IsTooDeep, IsLaterFault, IsFault, IsSound}
use Rattle.br_numbering.proofs.Positions.{no_position}
use Rattle.br_measure.proofs.Bounded.{measure_fits}
use Rattle.br_measure.proofs.Rounds.{get_or_map, same_items, map_length}
use Rattle.br_measure.proofs.SameFaults.{no_fault_stands}
use Rattle.br_measure.proofs.TablePaths.{path_in_table, path_of_table}

-- the lowest fault that was computed

some_lower : (x : NameFault) (o : Option NameFault) → lower (Some x) o ≡ None → ⊥
some_lower x None e = cc
some_lower x (Some y) e = cc

pub none_lowest : (xs : List NameFault) → lowest xs ≡ None → xs ≡ []
none_lowest [] e = refl
none_lowest (x ∷ xs) e = absurd (some_lower x (lowest xs) e)

behind : (x y : NameFault) (ys : List NameFault) → Contains ys x → Contains (y ∷ ys) x
behind x y ys h = (suc h.0, omega (arith, h.1), h.2)

-- a fault that stands among these and is no higher than any of them
abbrev IsLeast : List NameFault → NameFault → Type 0
IsLeast xs x = Contains xs x × ((k : ℕ) (d : NameFault) → k < length xs → place x ≤ place (get_or xs k d))

first_le : (x y : NameFault) (k : ℕ) (d : NameFault) → k < length (y ∷ []) → y ≡ x
    → place x ≤ place (get_or (y ∷ []) k d)
first_le x y zero d inside same = rw same (omega arith)
first_le x y (suc k) d inside same = absurd (omega arith)

both_le : (x y : NameFault) (ys : List NameFault) → place x ≤ place y
    → ((k : ℕ) (d : NameFault) → k < length ys → place x ≤ place (get_or ys k d))
    → (k : ℕ) (d : NameFault) → k < length (y ∷ ys) → place x ≤ place (get_or (y ∷ ys) k d)
both_le x y ys first rest zero d inside = first
both_le x y ys first rest (suc k) d inside = rest k d (omega arith)

-- the lower of the first and the least of the others
least_of : (y z x : NameFault) (ys : List NameFault) → IsLeast ys z → (b : Bool) → leb (place y) (place z) ≡ b
    → cond b y z ≡ x → IsLeast (y ∷ ys) x
least_of y z x ys least true le is =
    let below = leb-true (place y) (place z) le in (
      (0, omega arith, is),
      both_le x y ys (rw is (omega arith))
          (λ k d inside. rw (← is) (omega (arith, below, least.1 k d inside))),
    )
least_of y z x ys least false le is =
    let above = leb-false (place y) (place z) le in
    (behind x y ys (rw is at least.0), both_le x y ys (rw (← is) (omega (arith, above))) (rw is at least.1))

least_with : (y x : NameFault) (ys : List NameFault) (o : Option NameFault) → lowest ys ≡ o
    → ((z : NameFault) → lowest ys ≡ Some z → IsLeast ys z)
    → lower (Some y) o ≡ Some x → IsLeast (y ∷ ys) x
least_with y x ys None is least e =
    let alone : y ≡ x = cc in
    let none = none_lowest ys is in
    ((0, omega arith, alone), rw none (λ k d inside. first_le x y k d inside alone))
least_with y x ys (Some z) is least e =
    let one : lower_of y z ≡ x = cc in
    least_of y z x ys (least z is) (leb (place y) (place z)) refl one

least_is : (xs : List NameFault) (x : NameFault) → lowest xs ≡ Some x → IsLeast xs x
least_is [] x e = absurd (cc)
least_is (y ∷ ys) x e = least_with y x ys (lowest ys) refl (λ z is. least_is ys z is) e

pub lowest_is : (xs : List NameFault) (x : NameFault) → lowest xs ≡ Some x → IsLowest place xs x
lowest_is xs x e = let l = least_is xs x e in record { stands = l.0; lowest = l.1 }

-- how many functions there are

pub few_functions : (fs : List Func) → 8 * length fs ≤ bulk fs
few_functions [] = omega arith
few_functions (f ∷ fs) = let rest = few_functions fs in grind (arith, common_steps)

-- recursion by the table

pub recursive_in_table : (fs : List Func) (f : ℕ) → IsFirstLoop (call_table fs) (Some f) → IsRecursive fs f
    × ((g : ℕ) → g < f → IsRecursive fs g → ⊥)
recursive_in_table fs f first = (
  (first.0.0, path_of_table fs f first.0.0 f first.0.1),
  λ g below r. first.1 g below
      (r.0, path_in_table fs g r.0 g r.1),
)

pub none_in_table : (fs : List Func) → IsFirstLoop (call_table fs) None → HasNoRecursion fs
none_in_table fs none = λ f between path. none f (between, path_in_table fs f between f path)

-- measures against the limit

module _ (fs : List Func) (ms : List ℕ) (cap limit : ℕ) (lower_limit : limit < cap)
    (are : ms ≡ map (λ f. min (measure fs f) cap) fs) where
  at_place : (k : ℕ) (f : Func) → slice_get fs k ≡ Some f → get_or ms k 0 ≡ min (measure fs f) cap
  at_place k f is = ap (λ ns. get_or ns k 0) are ∙ get_or_map (λ g. min (measure fs g) cap) fs k f 0 is

  above_limit : (k : ℕ) (f : Func) → slice_get fs k ≡ Some f → limit < measure fs f → ltb limit (get_or ms k 0) ≡ true
  above_limit k f is above = lt-ltb limit (get_or ms k 0) (omega (arith, at_place k f is))

  pub found_within : (k : ℕ) → position (λ m. ltb limit m) ms ≡ Some k → k < length fs
  found_within k found = omega (
    arith,
    (position-Some (λ m. ltb limit m) ms k 0 found).0,
    ap (λ (ns : List ℕ). length ns) are,
    map_length
        (λ f. min (measure fs f) cap) fs,
  )

  pub found_above : (k : ℕ) (f : Func) → position (λ m. ltb limit m) ms ≡ Some k → slice_get fs k ≡ Some f
      → limit < measure fs f
  found_above k f found is =
      omega (arith, ltb-true limit (get_or ms k 0) (position-Some (λ m. ltb limit m) ms k 0 found).1, at_place k f is)

  pub found_bytes : (k : ℕ) (f : Func) → slice_get fs k ≡ Some f → get_or ms k 0 ≡ min (measure fs f) cap
  found_bytes k f is = at_place k f is

  pub none_earlier : (k : ℕ) → position (λ m. ltb limit m) ms ≡ Some k → (g : ℕ) (f : Func) → g < k → slice_get fs g
      ≡ Some f → limit < measure fs f → ⊥
  none_earlier k found g f below is above =
      false≢true (sym ((position-Some (λ m. ltb limit m) ms k 0 found).2 g below) ∙ above_limit g f is above)

  lengths : length ms ≡ length fs
  lengths = ap (λ (ns : List ℕ). length ns) are ∙ map_length (λ f. min (measure fs f) cap) fs

  pub all_below : position (λ m. ltb limit m) ms ≡ None → (k : ℕ) (f : Func) → slice_get fs k ≡ Some f
      → measure fs f ≤ limit
  all_below none k f is =
      let past = no_position (λ m. ltb limit m) ms none in
      let inside = slice_get_within fs k f is in
      let below = ltb-false limit (get_or ms k 0)
      (fails_before_first (λ m. ltb limit m) ms k 0 (omega (arith, past, lengths))) in
      omega (arith, at_place k f is)

  pub all_shallow : position (λ m. ltb limit m) ms ≡ None → All (λ f. measure fs f ≤ limit) fs
  all_shallow none = λ k d inside. all_below none k (get_or fs k d) (slice_get-get_or fs k d inside)

  pub all_exact : position (λ m. ltb limit m) ms ≡ None → ms ≡ map (measure fs) fs
  all_exact none = same_items (measure fs) fs ms lengths
      (λ k f is. at_place k f is ∙ (omega (arith, all_below none k f is)))

-- the function of a number that is in range
pub function_at : (fs : List Func) (k : ℕ) → k < length fs → (f : Func) × (slice_get fs k ≡ Some f)
function_at [] k inside = absurd (omega arith)
function_at (f ∷ fs) zero inside = (f, refl)
function_at (f ∷ fs) (suc k) inside = function_at fs k (omega arith)

-- the first function above the limit
pub deep_at : (fs : List Func) (ms : List ℕ) → HasNoRecursion fs → IsShaped fs → bulk fs ≤ largest_bulk → ms
    ≡ map (λ f. min (measure fs f) 4294967295) fs → (k : ℕ) → position (λ m. ltb 1048576 m) ms ≡ Some k
    → IsTooDeep fs k (get_or ms k 0) × ((g t : ℕ) → g < k → IsTooDeep fs g t → ⊥)
deep_at fs ms none shaped small are k found =
    let limits : 1048576 < 4294967295 = omega arith in
    let f = function_at fs k (found_within fs ms 4294967295 1048576 limits are k found) in
    let fits = measure_fits fs none shaped small k f.0 f.1 in
    let bytes : get_or ms k 0 ≡ measure fs f.0 =
    omega (arith, found_bytes fs ms 4294967295 1048576 limits are k f.0 f.1, fits) in (
      record {
        function = f.0;
        at = f.1;
        bytes = bytes;
        above =
            found_above fs ms 4294967295 1048576 limits are k f.0 found f.1;
      },
      λ g t below deep. none_earlier fs ms 4294967295 1048576 limits are k found g deep.function below deep.at
          deep.above,
    )

-- measures that are kept are within the limit
pub kept_within : (fs : List Func) (ms : List ℕ) (k : ℕ) → All (λ f. measure fs f ≤ 1048576) fs → ms
    ≡ map (measure fs) fs → k < length fs → get_or ms k 0 ≤ 1048576
kept_within fs ms k shallow are inside =
    let f = function_at fs k inside in
    let here : get_or ms k 0 ≡ measure fs f.0 = ap (λ ns. get_or ns k 0) are ∙ get_or_map (measure fs) fs k f.0 0 f.1 in
    let same = get_or_from_slice_get fs k f.0 f.0 f.1 in
    omega (arith, here, ap (measure fs) same, shallow k f.0 inside)

-- a program that has no fault

pub no_name : (fs : List Func) → HasNoNameFault fs → (fault : NameFault) → IsLowest place (name_faults fs) fault → ⊥
no_name fs none fault lowest =
    let empty : length (name_faults fs) ≡ 0 = ap (λ (xs : List NameFault). length xs) (no_fault_stands fs none) in
    omega (arith, lowest.stands.1)

not_deep : (fs : List Func) → All (λ f. measure fs f ≤ 1048576) fs → (f s : ℕ) → IsTooDeep fs f s → ⊥
not_deep fs shallow f s deep =
    let same = get_or_from_slice_get fs f deep.function deep.function deep.at in
    omega (
      arith,
      deep.above,
      ap (measure fs) same,
      shallow f deep.function
          (slice_get_within fs f deep.function deep.at),
    )

no_later : (fs : List Func) → IsSound fs → (fault : NameFault) → IsLaterFault fs fault → ⊥
no_later fs sound (TooLarge b) later = omega (arith, sound.small, later.0)
no_later fs sound (Recursion f) later = sound.no_recursion f later.1.0 later.1.1
no_later fs sound (StackTooDeep f s) later = not_deep fs sound.shallow f s later.2
no_later fs sound (DuplicateFunction at) later = later
no_later fs sound (UnknownFunction at) later = later
no_later fs sound (WrongArguments at) later = later
no_later fs sound (WrongResults at) later = later
no_later fs sound (UnknownAction at) later = later

pub sound_has_none : (fs : List Func) (fault : NameFault) → IsSound fs → IsFault fs fault → ⊥
sound_has_none fs fault sound =
    ⊎_elim (λ lowest. no_name fs sound.names fault lowest) (λ later. no_later fs sound fault later.1)
