-- The image of a program: its code, its entries and its limits.
use Rattle.std.proofs.Common.{◌≡◌, ◌≢◌, ℕ, zero, suc, ◌+◌, ◌*◌, ◌^◌, ◌<◌, ◌≤◌, ◌&&◌, not, ◌||◌, nat_le}
use Rattle.std.proofs.Common.{if◌then◌else◌, Bool, true, false, IsTrue, List, [], ◌∷◌, ◌++◌, map, get_or}
use Rattle.std.proofs.Common.{drop, length, sum, Some, refl, sym, ap, subst, ◌∙◌, arith, append_assoc}
use Rattle.std.specs.Prelude.{All, slice_get, bytes_eq}
use Rattle.std.specs.List.{AllByRecursion, list_all, list_any}
use Rattle.std.proofs.lemmas.Bool.Decides.{nat_tests}
use Rattle.std.proofs.lemmas.List.Elements.{All-nil, All-cons}
use Rattle.std.proofs.lemmas.List.{length-map}
use Rattle.std.proofs.lemmas.List.Kept.{AllPairs-cons}
use Rattle.std.proofs.lemmas.Slice.Eq.{bytes_eq-Decides}
use Rattle.br_base.specs.Name.{IsName}
use Rattle.br_words.specs.declared.layout.Layout.TheVariants.{Two}
use Rattle.br_flatimp.specs.declared.program.FlatFunc.{FlatFunc}
use Rattle.br_flatimp.specs.Parts.{throughout, callees}
use Rattle.br_flatimp.specs.Renaming.{ReadsNoForgotten}
use Rattle.br_flatimp.specs.Runs.{Forgets, call}
use Rattle.br_flatimp.specs.Sizes.{nest, largest, own_need, function_bulk, flat_bulk}
use Rattle.br_flatimp.specs.WellFormed.{IsRegisterForm, names_differ, is_well_formed_function}
use Rattle.br_flatimp.specs.WellFormed.{is_well_formed_head, is_well_formed_statement, is_register_function}
use Rattle.br_flatimp.specs.WellFormed.{is_passing, is_list_of_names, are_below, all_differ, uses_registers}
use Rattle.br_image.specs.declared.images.Entry.{Entry}
use Rattle.br_image.specs.Limits.{InLimits, EntryInLimits, HaveDifferentNames}
use Rattle.br_emit.specs.Code.{AllFit, words_at, Targets, address_of, callable_items}
use Rattle.br_emit.specs.Code.{program_items, places, entry_place, is_called, function_items}
use Rattle.br_emit.specs.Sizes.{callable_words, function_words, begins, entries, program_words}
use Rattle.br_emit.specs.Registers.{IsClosed}
use Rattle.br_emit.specs.Ready.{Aims, InReach, aimed, is_encodable}
use Rattle.br_emit.specs.Written.{rest_items, flagged, AreCalled, Writable, CanWrite}
use Rattle.br_emit.specs.Written.{offset_of, is_near_program, aims_of, entry_offsets}
use Rattle.br_emit.specs.Laid.{IsCodeOf, EntryShown, ShowsFunction, callee_need}
use Rattle.br_emit.specs.Emitted.{AreNeeds, AllDescribed, IsOffset, ShowsProgram, HasFewNames, entry_of, entries_of}
use Rattle.br_emit.proofs.Leaves.{both}
use Rattle.br_emit.proofs.Readiness.{words_long}
use Rattle.br_emit.proofs.Totals.{sum_cons, all_within, callable_length, function_length}
use Rattle.br_emit.proofs.Totals.{program_length, program_most, begins_are}
use Rattle.br_emit.proofs.Needing.{own_need_is_enough}
use Rattle.br_emit.proofs.Encodable.{body_encodable}
use Rattle.br_emit.proofs.Unrolling.{drop_next}
use Rattle.br_emit.proofs.Flags.{agree, same_begins, same_entries, same_words, rest_is}

-- ---- lists

pub get_some : {X : Type 0} (h : X → ℕ) (xs : List X) (n : ℕ) (x : X) → slice_get xs n ≡ Some x
    → get_or (map h xs) n 0 ≡ h x
get_some h [] n x is = absurd (cc)
get_some h (y ∷ xs) zero x is = let same : y ≡ x = cc in ap h same
get_some h (y ∷ xs) (suc n) x is = get_some h xs n x is

all_by : {X : Type 0} (P : X → Type 0) (xs : List X) → ((n : ℕ) (x : X) → slice_get xs n ≡ Some x → P x)
    → AllByRecursion P xs
all_by P [] h = tt
all_by P (x ∷ xs) h = (h 0 x refl, all_by P xs (λ n y is. h (suc n) y is))

one_of : {X : Type 0} (p : X → Bool) (xs : List X) (n : ℕ) (x : X) → IsTrue (list_all p xs) → slice_get xs n ≡ Some x
    → IsTrue (p x)
one_of p [] n x h is = absurd (cc)
one_of p (y ∷ ys) zero x h is = let same : y ≡ x = cc in subst (λ q. IsTrue (p q)) same (both (p y) (list_all p ys) h).0
one_of p (y ∷ ys) (suc n) x h is = one_of p ys n x (both (p y) (list_all p ys) h).1 is

within_sum : {X : Type 0} (size : X → ℕ) (xs : List X) (n : ℕ) (x : X) → slice_get xs n ≡ Some x
    → size x ≤ sum (map size xs)
within_sum size [] n x is = absurd (cc)
within_sum size (y ∷ ys) zero x is =
    let same : y ≡ x = cc in
    let equal : size y ≡ size x = ap size same in
    let added = sum_cons (size y) (map size ys) in
    omega (arith, equal, added)
within_sum size (y ∷ ys) (suc n) x is =
    let added = sum_cons (size y) (map size ys) in
    let rest = within_sum size ys n x is in
    omega (arith, added, rest)

get_inside : {X : Type 0} (xs : List X) (n : ℕ) (x : X) → slice_get xs n ≡ Some x → n < length xs
get_inside [] n x is = absurd (cc)
get_inside (y ∷ ys) zero x is = omega arith
get_inside (y ∷ ys) (suc n) x is = let rest = get_inside ys n x is in omega (arith, rest)

-- ---- needs

pub need_few : (fs : List FlatFunc) (ns : List ℕ) → AreNeeds fs ns → All (λ n. n ≤ 1048576) ns → (n : ℕ) (f : FlatFunc)
    → slice_get fs n ≡ Some f → get_or ns n 0 ≤ 1048576
need_few fs ns are few n f there =
    let inside = get_inside fs n f there in
    let long = are.count in
    few n 0 (omega (arith, inside, long))

needed : (fs : List FlatFunc) (ns : List ℕ) → AreNeeds fs ns → All (λ n. n ≤ 1048576) ns → (n : ℕ) (f : FlatFunc)
    → slice_get fs n ≡ Some f
    → own_need f + largest (map (λ g. get_or ns g 0) (callees f)) ≤ get_or ns n 0
needed fs ns are few n f there =
    let adds = are.each n f there in
    let less = need_few fs ns are few n f there in
    omega (arith, adds, less)

-- ---- what is asked before code is written

record Formed (fs : List FlatFunc) (f : FlatFunc) : Type 0 where
  few_args : length f.args ≤ 8
  few_results : length f.results ≤ 8
  encodable : IsTrue (list_all (throughout is_encodable) f.body)

few_names : (names : ℕ) (xs : List ℕ) → IsTrue (is_list_of_names names xs) → length xs ≤ 8
few_names names xs h = let k = (both (nat_le (length xs) 8) (are_below names xs)
    (both (nat_le (length xs) 8 && are_below names xs) (all_differ xs) h).0).0 in grind (arith, nat_tests)

formed : (fs : List FlatFunc) → IsRegisterForm fs → (n : ℕ) (f : FlatFunc) → slice_get fs n ≡ Some f → Formed fs f
formed fs form n f there =
    let each = (both (names_differ fs) (list_all (is_well_formed_function fs) fs) form.0).1 in
    let well = both (is_well_formed_head f) (list_all (is_well_formed_statement fs f.names) f.body)
    (one_of (is_well_formed_function fs) fs n f each there) in
    let head = both (nat_le f.names 1048576 && is_list_of_names f.names f.args)
    (is_list_of_names f.names f.results) well.0 in
    let head2 = both (nat_le f.names 1048576) (is_list_of_names f.names f.args) head.0 in
    let register = both (is_passing f.args && is_passing f.results) (list_all (throughout uses_registers) f.body)
    (one_of is_register_function fs n f form.1 there) in
    record {
      few_args = few_names f.names f.args head2.1;
      few_results = few_names f.names f.results head.1;
      encodable = body_encodable fs f.names f.body well.1 register.1;
    }

pub can_write : (fs : List FlatFunc) (ns : List ℕ) (most : ℕ) → IsRegisterForm fs → AreNeeds fs ns
    → All (λ n. n ≤ 1048576) ns → flat_bulk fs ≤ 1048576 → flat_bulk fs ≤ most → CanWrite most fs
can_write fs ns most form is few fit room = record {
  each = all_by (Writable (is_near_program fs) most) fs
      (λ n f there.
      let within = all_within (is_near_program fs) f.body (nest f) in
      let parts = within.parts in
      let bulk = within_sum function_bulk fs n f there in
      let own = needed fs ns is few n f there in
      let less = need_few fs ns is few n f there in
      record {
        nested = omega (arith, own, less);
        form = (formed fs form n f there).encodable;
        parts = omega (arith, parts, bulk, room);
      });
  few = fit;
}

-- what can be written with so much room can be written with more
pub writable_more : (near : Bool) (most more : ℕ) (fs : List FlatFunc) → most ≤ more
    → AllByRecursion (Writable near most) fs → AllByRecursion (Writable near more) fs
writable_more near most more [] h each = tt
writable_more near most more (f ∷ fs) h each =
    let here = each.0 in
    let parts = here.parts in (
      record { nested = here.nested; form = here.form; parts = omega (arith, parts, h) },
      writable_more near most more fs h each.1,
    )

-- each function has at least one word in its bulk
pub functions_few : (fs : List FlatFunc) → length fs ≤ flat_bulk fs
functions_few [] = omega arith
functions_few (f ∷ fs) =
    let rest = functions_few fs in
    let added = sum_cons (function_bulk f) (map function_bulk fs) in
    omega (arith, rest, added)

pub have_few_names : (fs : List FlatFunc) → IsRegisterForm fs → AllByRecursion HasFewNames fs
have_few_names fs form = all_by HasFewNames fs
    (λ n f there. let is = formed fs form n f there in record { args = is.few_args; results = is.few_results })

-- ---- addresses

below : (near : Bool) (forgets : Forgets) (called : ℕ → Bool) (place n : ℕ) (rest : List FlatFunc) (g : ℕ)
    → get_or (map address_of (begins near forgets called place n rest)) g 0
    ≤ address_of (place + program_words near forgets called n rest)
below near forgets called place n [] g = omega arith
below near forgets called place n (f ∷ rest) zero = omega arith
below near forgets called place n (f ∷ rest) (suc g) =
    let later = below near forgets called (place + function_words near forgets (called n) n f) (n + 1) rest g in
    omega (arith, later)

pub in_reach : (forgets : Forgets) (fs : List FlatFunc) → flat_bulk fs ≤ 1048576 → (g : ℕ)
    → InReach ((aimed (aims_of forgets fs)).at g)
in_reach forgets fs fit g =
    let most = program_most (is_near_program fs) forgets (is_called fs) 0 fs in
    let less : (aimed (aims_of forgets fs)).at g
    ≤ 0x80300000 + 4 * (0 + program_words (is_near_program fs) forgets (is_called fs) 0 fs) =
    below (is_near_program fs) forgets (is_called fs) 0 0 fs g in
    omega (arith, most, less, fit)

aimed_at : (forgets : Forgets) (fs : List FlatFunc) (n place : ℕ)
    → slice_get (places (aimed (aims_of forgets fs)) forgets fs 0 0 fs) n ≡ Some place
    → (aimed (aims_of forgets fs)).at n ≡ 0x80300000 + 4 * place
aimed_at forgets fs n place at = get_some address_of (begins (is_near_program fs) forgets (is_called fs) 0 0 fs) n place
    (ap (λ q. slice_get q n) (begins_are (aimed (aims_of forgets fs)) forgets fs 0 0 fs) ∙ at)

-- ---- what is written, by the flags of called functions

pub words_few : (forgets : Forgets) (fs : List FlatFunc) (flags : List Bool) (most : ℕ) → AreCalled flags fs
    → flat_bulk fs ≤ most → program_words (is_near_program fs) forgets (flagged flags) 0 fs ≤ most
words_few forgets fs flags bound are fit =
    let same = same_words (is_near_program fs) forgets (flagged flags) (is_called fs) 0 fs (agree fs flags are) in
    let most = program_most (is_near_program fs) forgets (is_called fs) 0 fs in
    omega (arith, same, most, fit)

pub record Plan (forgets : Forgets) (fs : List FlatFunc) (flags : List Bool) (targets : Aims) : Type 0 where
  pub reach : (g : ℕ) → InReach ((aimed targets).at g)
  pub words : length (rest_items (aimed targets) forgets (flagged flags) 0 fs)
      ≡ program_words (is_near_program fs) forgets (flagged flags) 0 fs
  pub items : rest_items (aimed targets) forgets (flagged flags) 0 fs
      ≡ program_items (aimed (aims_of forgets fs)) forgets fs 0 fs

pub plan : (forgets : Forgets) (fs : List FlatFunc) (flags : List Bool) (targets : Aims)
    → AreCalled flags fs → flat_bulk fs ≤ 1048576 → targets ≡ record {
      near = is_near_program fs;
      addresses =
          map address_of (begins (is_near_program fs) forgets (flagged flags) 0 0 fs);
    } → Plan forgets fs flags targets
plan forgets fs flags targets are fit is =
    let agrees = agree fs flags are in
    let targets_are : targets ≡ aims_of forgets fs = is
    ∙ ap (λ q. record { near = is_near_program fs; addresses = map address_of q })
    (same_begins (is_near_program fs) forgets (flagged flags) (is_called fs) 0 0 fs agrees) in
    let items = rest_is (aimed targets) forgets (flagged flags) fs 0 fs agrees in
    record {
      reach = λ g. subst (λ q. InReach ((aimed q).at g)) (sym targets_are) (in_reach forgets fs fit g);
      words = ap length items ∙ program_length (aimed targets) forgets fs 0 fs
          ∙ ap (λ q. program_words q.near forgets (is_called fs) 0 fs) targets_are
          ∙ sym (same_words (is_near_program fs) forgets (flagged flags) (is_called fs) 0 fs agrees);
      items = items ∙ ap (λ q. program_items (aimed q) forgets fs 0 fs) targets_are;
    }

pub offsets_are : (forgets : Forgets) (fs : List FlatFunc) (flags : List Bool) → AreCalled flags fs
    → map offset_of (entries (is_near_program fs) forgets (flagged flags) 0 0 fs) ≡ entry_offsets forgets fs
offsets_are forgets fs flags are = ap (map offset_of)
    (same_entries (is_near_program fs) forgets (flagged flags) (is_called fs) 0 0 fs (agree fs flags are))

entries_long : (near : Bool) (forgets : Forgets) (called : ℕ → Bool) (place n : ℕ) (rest : List FlatFunc)
    → length (entries near forgets called place n rest) ≡ length rest
entries_long near forgets called place n [] = refl
entries_long near forgets called place n (f ∷ rest) = let rest_long = entries_long near forgets called
    (place + function_words near forgets (called n) n f) (n + 1) rest in omega (arith, rest_long)

pub offsets_long : (forgets : Forgets) (fs : List FlatFunc) → length (entry_offsets forgets fs) ≡ length fs
offsets_long forgets fs = length-map (entries (is_near_program fs) forgets (is_called fs) 0 0 fs) offset_of
    ∙ entries_long (is_near_program fs) forgets (is_called fs) 0 0 fs

-- ---- code

pub code_most : (forgets : Forgets) (fs : List FlatFunc) (code : List ℕ)
    → code ≡ words_at 0 (program_items (aimed (aims_of forgets fs)) forgets fs 0 fs) → length code ≤ flat_bulk fs
code_most forgets fs code items =
    let all = program_items (aimed (aims_of forgets fs)) forgets fs 0 fs in
    let size : length code ≡ length all = ap length items ∙ words_long 0 all in
    let words = program_length (aimed (aims_of forgets fs)) forgets fs 0 fs in
    let most = program_most (is_near_program fs) forgets (is_called fs) 0 fs in
    omega (arith, size, words, most)

pub code_is : (forgets : Forgets) (fs : List FlatFunc) (ns code : List ℕ) → ReadsNoForgotten forgets fs
    → IsClosed forgets fs → IsRegisterForm fs → AreNeeds fs ns → All (λ n. n ≤ 1048576) ns → flat_bulk fs ≤ 1048576
    → code ≡ words_at 0 (program_items (aimed (aims_of forgets fs)) forgets fs 0 fs)
    → AllFit (program_items (aimed (aims_of forgets fs)) forgets fs 0 fs)
    → IsCodeOf fs (aimed (aims_of forgets fs)) forgets (λ g. get_or ns g 0) code
code_is forgets fs ns code dead closed form is few fit items all_fit = record {
  form = form;
  items = items;
  fit = all_fit;
  few = let most = code_most forgets fs code items in omega (arith, most, fit);
  reach = λ near. (let most = code_most forgets fs code items in
      let small : flat_bulk fs < 262144 = grind (arith, nat_tests) in omega (arith, most, small));
  aimed = aimed_at forgets fs;
  dead = dead;
  needs = λ n f there.
      let own = needed fs ns is few n f there in
      let enough = own_need_is_enough (is_near_program fs) forgets fs n f closed there in
      let limit : callee_need fs (λ g. get_or ns g 0) n ≡ largest (map (λ g. get_or ns g 0) (callees f)) =
      rw there refl in
      omega (arith, own, enough, limit);
}

-- ---- entries

drop_get : (n : ℕ) (xs : List ℕ) (y : ℕ) (ys : List ℕ) → drop n xs ≡ y ∷ ys → get_or xs n 0 ≡ y
drop_get zero [] y ys is = absurd (cc)
drop_get zero (x ∷ xs) y ys is = cc
drop_get (suc n) [] y ys is = absurd (cc)
drop_get (suc n) (x ∷ xs) y ys is = drop_get n xs y ys is

drop_rest : (n : ℕ) (xs : List ℕ) (y : ℕ) (ys : List ℕ) → drop n xs ≡ y ∷ ys → drop (n + 1) xs ≡ ys
drop_rest zero [] y ys is = absurd (cc)
drop_rest zero (x ∷ xs) y ys is = cc
drop_rest (suc n) [] y ys is = absurd (cc)
drop_rest (suc n) (x ∷ xs) y ys is = let next : suc n + 1 ≡ suc (n + 1) = omega arith in
    ap (λ q. drop q (x ∷ xs)) next ∙ drop_rest n xs y ys is

described_from : (offsets ns : List ℕ) (n : ℕ) (rest : List FlatFunc) (tail : List ℕ) → drop n ns ≡ tail
    → length tail ≡ length rest → AllDescribed rest tail (entries_of offsets ns n rest)
described_from offsets ns n [] [] is long = tt
described_from offsets ns n [] (x ∷ tail) is long = absurd (omega (arith, long))
described_from offsets ns n (f ∷ rest) [] is long = absurd (omega (arith, long))
described_from offsets ns n (f ∷ rest) (x ∷ tail) is long = (
  record { name = refl; args = refl; results = refl; need = drop_get n ns x tail is },
  described_from offsets ns (n + 1) rest tail (drop_rest n ns x tail is) (omega (arith, long)),
)

pub described : (fs : List FlatFunc) (offsets ns : List ℕ) (es : List Entry) → AreNeeds fs ns
    → es ≡ entries_of offsets ns 0 fs → AllDescribed fs ns es
described fs offsets ns es needs are =
    subst (AllDescribed fs ns) (sym are) (described_from offsets ns 0 fs ns refl needs.count)

entry_at : (offsets ns : List ℕ) (n : ℕ) (rest : List FlatFunc) (k : ℕ) (f : FlatFunc) (e : Entry)
    → slice_get rest k ≡ Some f → slice_get (entries_of offsets ns n rest) k ≡ Some e
    → e ≡ entry_of f (get_or offsets (n + k) 0) (get_or ns (n + k) 0)
entry_at offsets ns n [] k f e there at = absurd (cc)
entry_at offsets ns n (g ∷ rest) zero f e there at =
    let same : g ≡ f = cc in
    let is : entry_of g (get_or offsets n 0) (get_or ns n 0) ≡ e = cc in
    let number : n ≡ n + 0 = omega arith in
    sym is ∙ ap (λ h. entry_of h (get_or offsets n 0) (get_or ns n 0)) same
    ∙ ap (λ q. entry_of f (get_or offsets q 0) (get_or ns q 0)) number
entry_at offsets ns n (g ∷ rest) (suc k) f e there at =
    let number : n + 1 + k ≡ n + suc k = omega arith in
    entry_at offsets ns (n + 1) rest k f e there at ∙ ap (λ q. entry_of f (get_or offsets q 0) (get_or ns q 0)) number

-- where the function of a number stands, and its entry
record Stands (targets : Targets) (forgets : Forgets) (fs : List FlatFunc) (place n : ℕ) (rest : List FlatFunc) (k : ℕ)
    (f : FlatFunc) : Type 0 where
  at : ℕ
  there : slice_get (places targets forgets fs place n rest) k ≡ Some at
  entry : get_or (map offset_of (entries targets.near forgets (is_called fs) place n rest)) k 0
      ≡ 4 * entry_place targets forgets fs at (n + k) f

stands : (targets : Targets) (forgets : Forgets) (fs : List FlatFunc) (place n : ℕ) (rest : List FlatFunc) (k : ℕ)
    (f : FlatFunc) → slice_get rest k ≡ Some f → Stands targets forgets fs place n rest k f
stands targets forgets fs place n [] k f is = absurd (cc)
stands targets forgets fs place n (g ∷ rest) zero f is =
    let same : g ≡ f = cc in
    let number : n ≡ n + 0 = omega arith in
    record {
      at = place;
      there = refl;
      entry =
          ap (λ w. 4 * (if is_called fs n then place + w else place)) (sym (callable_length targets forgets n g))
          ∙ ap (λ h. 4 * (if is_called fs n then place + length (callable_items targets forgets n h) else place)) same
          ∙ ap
          (λ q. 4 * (if is_called fs q then place + length (callable_items targets forgets q f) else place)) number;
    }
stands targets forgets fs place n (g ∷ rest) (suc k) f is =
    let next = stands targets forgets fs (place + length (function_items targets forgets fs n g)) (n + 1) rest k f is in
    let number : n + 1 + k ≡ n + suc k = omega arith in
    record {
      at = next.at;
      there = next.there;
      entry =
          ap (λ w. get_or (map offset_of (entries targets.near forgets (is_called fs) (place + w) (n + 1) rest)) k 0)
          (sym (function_length targets forgets fs n g))
          ∙ next.entry
          ∙ ap (λ q. 4 * entry_place targets forgets fs next.at q f) number;
    }

-- the law of programs in code
abbrev pub CodeShows : Type 0
CodeShows = (fs : List FlatFunc) (targets : Targets) (forgets : Forgets) (need : ℕ → ℕ) (code : List ℕ)
    → IsCodeOf fs targets forgets need code → (n : ℕ) (f : FlatFunc) (place : ℕ)
    → slice_get fs n ≡ Some f → slice_get (places targets forgets fs 0 0 fs) n ≡ Some place → need n ≤ 1048576
    → ShowsFunction fs targets forgets need code n f place

pub shows : (forgets : Forgets) (fs : List FlatFunc) (ns code : List ℕ) (es : List Entry)
    → CodeShows → IsCodeOf fs (aimed (aims_of forgets fs)) forgets (λ g. get_or ns g 0) code → AreNeeds fs ns
    → All (λ n. n ≤ 1048576) ns
    → es ≡ entries_of (entry_offsets forgets fs) ns 0 fs → ShowsProgram fs es code
shows forgets fs ns code es law is needs_are few are n f e there at fuel args count words m data_is answers
    words' j left =
    let number : 0 + n ≡ n = omega arith in
    let stand = stands (aimed (aims_of forgets fs)) forgets fs 0 0 fs n f there in
    let less = need_few fs ns needs_are few n f there in
    let entry : e ≡ entry_of f (get_or (entry_offsets forgets fs) n 0) (get_or ns n 0) =
    entry_at (entry_offsets forgets fs) ns 0 fs n f e there (ap (λ q. slice_get q n) (sym are) ∙ at)
    ∙ ap (λ q. entry_of f (get_or (entry_offsets forgets fs) q 0) (get_or ns q 0)) number in
    let offset : e.offset ≡ 4 * entry_place (aimed (aims_of forgets fs)) forgets fs stand.at n f =
    ap (λ q. q.offset) entry ∙ stand.entry
    ∙ ap (λ q. 4 * entry_place (aimed (aims_of forgets fs)) forgets fs stand.at q f) number in
    let need_is : e.need ≡ get_or ns n 0 = ap (λ q. q.need) entry in
    let shown = law fs (aimed (aims_of forgets fs)) forgets (λ g. get_or ns g 0) code is n f stand.at there stand.there
    less fuel args count words m data_is answers words' j left in
    subst (λ o. EntryShown code o args m answers j fuel e.need ((fuel + 1) * flat_bulk fs)
    (λ choices. call fs n args m answers choices fuel)) (sym offset)
    (subst (λ d. EntryShown code (4 * entry_place (aimed (aims_of forgets fs)) forgets fs stand.at n f) args m answers j
    fuel d ((fuel + 1) * flat_bulk fs) (λ choices. call fs n args m answers choices fuel)) (sym need_is) shown)

-- ---- limits

entries_inside : (near : Bool) (forgets : Forgets) (called : ℕ → Bool) (place n : ℕ) (rest : List FlatFunc) (words : ℕ)
    → place + program_words near forgets called n rest ≤ words
    → All (IsOffset words) (map offset_of (entries near forgets called place n rest))
entries_inside near forgets called place n [] words few = All-nil (IsOffset words)
entries_inside near forgets called place n (f ∷ rest) words few =
    All-cons (IsOffset words) (offset_of (if called n then place + callable_words near forgets n f else place))
    (map offset_of (entries near forgets called (place + function_words near forgets (called n) n f) (n + 1) rest))
    (here (called n) few)
    (entries_inside near forgets called (place + function_words near forgets (called n) n f) (n + 1) rest words
    (omega (arith, few)))
  where
    here : (b : Bool) → place + (function_words near forgets b n f + program_words near forgets called (n + 1) rest)
        ≤ words → IsOffset words (offset_of (if b then place + callable_words near forgets n f else place))
    here true few = record { aligned = omega arith; inside = omega (arith, few) }
    here false few = record { aligned = omega arith; inside = omega (arith, few) }

pub offsets_inside : (forgets : Forgets) (fs : List FlatFunc) (offsets code : List ℕ)
    → code ≡ words_at 0 (program_items (aimed (aims_of forgets fs)) forgets fs 0 fs)
    → offsets ≡ entry_offsets forgets fs → All (IsOffset (length code)) offsets
offsets_inside forgets fs offsets code items are =
    let all = program_items (aimed (aims_of forgets fs)) forgets fs 0 fs in
    let size : length code ≡ length all = ap length items ∙ words_long 0 all in
    let long = program_length (aimed (aims_of forgets fs)) forgets fs 0 fs in
    subst (All (IsOffset (length code))) (sym are)
    (entries_inside (is_near_program fs) forgets (is_called fs) 0 0 fs (length code) (omega (arith, size, long)))

each_in_limits : (words : ℕ) (offsets ns : List ℕ) (n : ℕ) (rest : List FlatFunc) → ((k : ℕ) (f : FlatFunc)
    → slice_get rest k ≡ Some f → EntryInLimits words (entry_of f (get_or offsets (n + k) 0) (get_or ns (n + k) 0)))
    → All (EntryInLimits words) (entries_of offsets ns n rest)
each_in_limits words offsets ns n [] h = All-nil (EntryInLimits words)
each_in_limits words offsets ns n (f ∷ rest) h =
    let number : n + 0 ≡ n = omega arith in
    All-cons (EntryInLimits words) (entry_of f (get_or offsets n 0) (get_or ns n 0))
    (entries_of offsets ns (n + 1) rest)
    (subst (λ q. EntryInLimits words (entry_of f (get_or offsets q 0) (get_or ns q 0))) number (h 0 f refl))
    (each_in_limits words offsets ns (n + 1) rest (λ k g is. let later : n + suc k ≡ n + 1 + k = omega arith in
    subst (λ q. EntryInLimits words (entry_of g (get_or offsets q 0) (get_or ns q 0))) later (h (suc k) g is)))

recursion_at : {X : Type 0} (P : X → Type 0) (xs : List X) (n : ℕ) (x : X) → AllByRecursion P xs
    → slice_get xs n ≡ Some x → P x
recursion_at P [] n x h is = absurd (cc)
recursion_at P (y ∷ xs) zero x h is = let same : y ≡ x = cc in subst P same h.0
recursion_at P (y ∷ xs) (suc n) x h is = recursion_at P xs n x h.1 is

-- two entries have different names
abbrev Apart : Entry → Entry → Type 0
Apart a b = a.name ≢ b.name

-- no two functions have one name
others_differ : (f : FlatFunc) (offsets ns : List ℕ) (n : ℕ) (rest : List FlatFunc) (e : Entry) → e.name ≡ f.name
    → list_any (λ g. bytes_eq g.name f.name) rest ≡ false → All (λ b. e.name ≢ b.name) (entries_of offsets ns n rest)
others_differ f offsets ns n [] e is none = All-nil (Apart e)
others_differ f offsets ns n (g ∷ rest) e is none =
    let parts = or_parts (bytes_eq g.name f.name) (list_any (λ g. bytes_eq g.name f.name) rest) none in
    All-cons (Apart e) (entry_of g (get_or offsets n 0) (get_or ns n 0)) (entries_of offsets ns (n + 1) rest)
    (λ same. true_or_false (bytes_eq g.name f.name) ((bytes_eq-Decides g.name f.name).1 (sym same ∙ is)) parts.0)
    (others_differ f offsets ns (n + 1) rest e is parts.1)
  where
    or_parts : (a b : Bool) → (a || b) ≡ false → (a ≡ false) × (b ≡ false)
    or_parts true b h = absurd (cc)
    or_parts false b h = (refl, h)

    true_or_false : (b : Bool) → b ≡ true → b ≡ false → ⊥
    true_or_false true h k = absurd (cc)
    true_or_false false h k = absurd (cc)

names_apart : (offsets ns : List ℕ) (n : ℕ) (rest : List FlatFunc) → IsTrue (names_differ rest)
    → HaveDifferentNames (entries_of offsets ns n rest)
names_apart offsets ns n [] h = λ i j d lt within. absurd (omega (arith, within))
names_apart offsets ns n (f ∷ rest) h =
    let parts = both (not (list_any (λ g. bytes_eq g.name f.name) rest)) (names_differ rest) h in
    AllPairs-cons Apart (entry_of f (get_or offsets n 0) (get_or ns n 0)) (entries_of offsets ns (n + 1) rest)
    (others_differ f offsets ns n' rest (entry_of f (get_or offsets n 0) (get_or ns n 0)) refl
    (none_of (list_any (λ g. bytes_eq g.name f.name) rest) parts.0))
    (names_apart offsets ns (n + 1) rest parts.1)
  where
    n' : ℕ
    n' = n + 1

    none_of : (b : Bool) → IsTrue (not b) → b ≡ false
    none_of true h = absurd (cc)
    none_of false h = refl

pub in_limits : (fs : List FlatFunc) (ns offsets code : List ℕ) (es : List Entry) → IsRegisterForm fs → AreNeeds fs ns
    → All (λ n. n ≤ 1048576) ns → length code ≤ 1048576
    → All (λ w. w < 2 ^ 32) code → length offsets ≡ length fs → All (IsOffset (length code)) offsets
    → AllByRecursion (λ f. IsName f.name) fs → es ≡ entries_of offsets ns 0 fs → InLimits Two es code
in_limits fs ns offsets code es form is few most words long inside named are = record {
  count = most;
  words = words;
  each = subst (All (EntryInLimits (length code))) (sym are)
      (each_in_limits (length code) offsets ns 0 fs
      (λ k f there.
      let number : 0 + k ≡ k = omega arith in
      let has = formed fs form k f there in
      let less = need_few fs ns is few k f there in
      let among = get_inside fs k f there in
      let offset = inside k 0 (omega (arith, among, long)) in
      subst (λ q. EntryInLimits (length code) (entry_of f (get_or offsets q 0) (get_or ns q 0))) (sym number)
      (record {
        name = recursion_at (λ (g : FlatFunc). IsName g.name) fs k f named there;
        args = has.few_args;
        results = has.few_results;
        aligned = offset.aligned;
        offset = offset.inside;
        need = less;
      })));
  names = subst HaveDifferentNames (sym are)
      (names_apart offsets ns 0 fs (both (names_differ fs) (list_all (is_well_formed_function fs) fs) form.0).0);
}

-- ---- entries, one after another

pub counts_here : (fs : List FlatFunc) (i : ℕ) (f : FlatFunc) → i < length fs → f ≡ get_or fs i f
    → AllByRecursion HasFewNames (drop i fs) → HasFewNames f
counts_here fs i f inside is counts = (subst (AllByRecursion HasFewNames) (drop_next fs i f inside is) counts).0

pub record EntriesStep (offsets ns : List ℕ) (fs : List FlatFunc) (i n : ℕ) (f : FlatFunc)
    (es es' : List Entry) : Type 0 where
  pub entries : es' ++ entries_of offsets ns (n + 1) (drop (i + 1) fs) ≡ es ++ entries_of offsets ns n (drop i fs)
  pub names : AllByRecursion (λ f. IsName f.name) (drop (i + 1) fs) → AllByRecursion (λ f. IsName f.name) (drop i fs)
  pub counts : AllByRecursion HasFewNames (drop (i + 1) fs)

pub entries_step : (offsets ns : List ℕ) (fs : List FlatFunc) (i n : ℕ) (f : FlatFunc) (es es' : List Entry)
    → i < length fs → f ≡ get_or fs i f
    → es' ≡ es ++ entry_of f (get_or offsets n 0) (get_or ns n 0) ∷ [] → IsName f.name
    → AllByRecursion HasFewNames (drop i fs) → EntriesStep offsets ns fs i n f es es'
entries_step offsets ns fs i n f es es' inside is new name counts =
    let next = drop_next fs i f inside is in
    let here = entry_of f (get_or offsets n 0) (get_or ns n 0) in
    let rest = entries_of offsets ns (n + 1) (drop (i + 1) fs) in
    record {
      entries = ap (λ q. q ++ rest) new ∙ append_assoc es (here ∷ []) rest
          ∙ ap (λ q. es ++ entries_of offsets ns n q) (sym next);
      names = λ h. subst (AllByRecursion (λ f. IsName f.name)) (sym next) (name, h);
      counts = (subst (AllByRecursion HasFewNames) next counts).1;
    }
