-- The flat program of a sound program is well formed and within the sizes of its source.
use Rattle.std.proofs.Common.{◌≡◌, ℕ, ◌+◌, ◌<◌, ◌≤◌, ◌&&◌, max, Bool, true, List, [], ◌∷◌, ◌++◌}
use Rattle.std.proofs.Common.{map, length, refl, sym, ap, subst, ◌∙◌, arith, nat_le, nat_lt}
use Rattle.std.specs.List.{flat_map, list_all, Contains}
use Rattle.std.proofs.lemmas.Bool.Decides.{nat_tests}
use Rattle.std.proofs.lemmas.List.{length-map}
use Rattle.std.proofs.lemmas.List.Sums.{sum-map, sum_by-cons}
use Rattle.br_syntax.specs.declared.program.Func.{Func}
use Rattle.br_syntax.specs.NameFaults.{NameFault, HasNoNameFault}
use Rattle.br_syntax.specs.Shape as shape
use Rattle.br_syntax.specs.Shape.{is_shaped_command, is_shaped_function, are_names, IsShaped}
use Rattle.br_source_meaning.specs.Values.{Name}
use Rattle.br_measure.specs.Bulk.{bulk, function_bulk}
use Rattle.br_flatimp.specs.declared.program.Stmt.{Stmt, map-Stmt}
use Rattle.br_flatimp.specs.declared.program.Stmt.TheOpen.{Stmt-F}
use Rattle.br_flatimp.specs.declared.program.Stmt.TheFolds.{fold-roll-Stmt, ind-Stmt}
use Rattle.br_flatimp.specs.declared.program.FlatFunc.{FlatFunc}
use Rattle.br_flatimp.specs.Parts.{written, read, parts, throughout, statement_names}
use Rattle.br_flatimp.specs.WellFormed.{values_fit, are_below, fits, all_differ, is_well_formed_statement}
use Rattle.br_flatimp.specs.WellFormed.{is_list_of_names, is_well_formed_head, is_well_formed_function, IsWellFormed}
use Rattle.br_flatten.specs.Flatten.{above, number, lists_names, lists_command, function_body, flat_function}
use Rattle.br_flatten.specs.Places.{first_places}
use Rattle.br_flatten.specs.Programs.{scope_of, IsFlat, AreFlat}
use Rattle.br_flatten.specs.Sized.{AreSized}
use Rattle.br_flatten.proofs.LeastAbove.{above-append}
use Rattle.br_flatten.proofs.Numbers.{and-first, and-second}
use Rattle.br_flatten.proofs.Fine.{joined_names, joined_values, layer_names, layer_values}
use Rattle.br_flatten.proofs.Commands.{faults, joins, none-first, none-second}
use Rattle.br_flatten.proofs.CommandSizes.{numbers-differ}
use Rattle.br_flatten.proofs.DifferentNames.{duplicates, flat-names-differ}
use Rattle.br_flatten.proofs.FirstPlaces.{lists-places}
use Rattle.br_flatten.proofs.ProgramSizes.{FunctionSized}
use Rattle.br_flatten.proofs.Members.{Member, sized-at, calls-fit, no-duplicates}

-- ---- names below a number

two : (a b : Bool) → a ≡ true → b ≡ true → (a && b) ≡ true
two a b e f = ap (λ c. c && b) e ∙ f

three : (a b c : Bool) → a ≡ true → b ≡ true → c ≡ true → (a && b && c) ≡ true
three a b c e f g = rw (e, f, g) refl

less : (x n : ℕ) → x < n → nat_lt x n ≡ true
less x n h = grind (arith, nat_tests)

below-above : (n : ℕ) (xs : List ℕ) → above xs ≤ n → are_below n xs ≡ true
below-above n [] h = refl
below-above n (x ∷ xs) h =
    two (nat_lt x n) (are_below n xs) (less x n (omega (arith, h))) (below-above n xs (omega (arith, h)))

-- ---- statements

written-map : {X Y : Type 0} (h : X → Y) (y : Stmt-F X) → written (map-Stmt X Y h y) ≡ written y
written-map h (Stmt-F.Lit x n) = refl
written-map h (Stmt-F.Copy x y) = refl
written-map h (Stmt-F.Op x op y z) = refl
written-map h (Stmt-F.Load x size y offset) = refl
written-map h (Stmt-F.Store size y z offset) = refl
written-map h (Stmt-F.Table x size bytes y) = refl
written-map h (Stmt-F.Stackalloc x n body) = refl
written-map h (Stmt-F.If test first second) = refl
written-map h (Stmt-F.Loop first test last) = refl
written-map h (Stmt-F.Call xs g ys) = refl
written-map h (Stmt-F.Read x y) = refl
written-map h (Stmt-F.Write y z) = refl

read-map : {X Y : Type 0} (h : X → Y) (y : Stmt-F X) → read (map-Stmt X Y h y) ≡ read y
read-map h (Stmt-F.Lit x n) = refl
read-map h (Stmt-F.Copy x y) = refl
read-map h (Stmt-F.Op x op y z) = refl
read-map h (Stmt-F.Load x size y offset) = refl
read-map h (Stmt-F.Store size y z offset) = refl
read-map h (Stmt-F.Table x size bytes y) = refl
read-map h (Stmt-F.Stackalloc x n body) = refl
read-map h (Stmt-F.If test first second) = refl
read-map h (Stmt-F.Loop first test last) = refl
read-map h (Stmt-F.Call xs g ys) = refl
read-map h (Stmt-F.Read x y) = refl
read-map h (Stmt-F.Write y z) = refl

parts-map : {X Y : Type 0} (h : X → Y) (y : Stmt-F X) → parts (map-Stmt X Y h y) ≡ map (map h) (parts y)
parts-map h (Stmt-F.Lit x n) = refl
parts-map h (Stmt-F.Copy x y) = refl
parts-map h (Stmt-F.Op x op y z) = refl
parts-map h (Stmt-F.Load x size y offset) = refl
parts-map h (Stmt-F.Store size y z offset) = refl
parts-map h (Stmt-F.Table x size bytes y) = refl
parts-map h (Stmt-F.Stackalloc x n body) = refl
parts-map h (Stmt-F.If test first second) = refl
parts-map h (Stmt-F.Loop first test last) = refl
parts-map h (Stmt-F.Call xs g ys) = refl
parts-map h (Stmt-F.Read x y) = refl
parts-map h (Stmt-F.Write y z) = refl

values-map : {X Y : Type 0} (qs : List FlatFunc) (h : X → Y) (y : Stmt-F X)
    → values_fit qs (map-Stmt X Y h y) ≡ values_fit qs y
values-map qs h (Stmt-F.Lit x n) = refl
values-map qs h (Stmt-F.Copy x y) = refl
values-map qs h (Stmt-F.Op x op y z) = refl
values-map qs h (Stmt-F.Load x size y offset) = refl
values-map qs h (Stmt-F.Store size y z offset) = refl
values-map qs h (Stmt-F.Table x size bytes y) = refl
values-map qs h (Stmt-F.Stackalloc x n body) = refl
values-map qs h (Stmt-F.If test first second) = refl
values-map qs h (Stmt-F.Loop first test last) = refl
values-map qs h (Stmt-F.Call xs g ys) = refl
values-map qs h (Stmt-F.Read x y) = refl
values-map qs h (Stmt-F.Write y z) = refl

abbrev StatementFits : List FlatFunc → ℕ → Stmt → Type 0
StatementFits qs n s = above (statement_names s) ≤ n → throughout (values_fit qs) s ≡ true
    → throughout (fits qs n) s ≡ true

abbrev Known : List FlatFunc → ℕ → Type 0
Known qs n = (s : Stmt) × StatementFits qs n s

abbrev plain : (qs : List FlatFunc) (n : ℕ) → Known qs n → Stmt
plain qs n s = s.0

inner-one : (qs : List FlatFunc) (n : ℕ) (xs : List (Known qs n))
    → above (flat_map (λ ys. ys) (map statement_names (map (plain qs n) xs))) ≤ n
    → list_all (λ ok. ok) (map (throughout (values_fit qs)) (map (plain qs n) xs)) ≡ true
    → list_all (λ ok. ok) (map (throughout (fits qs n)) (map (plain qs n) xs)) ≡ true
inner-one qs n [] h v = refl
inner-one qs n (x ∷ xs) h v =
    let rest = flat_map (λ ys. ys) (map statement_names (map (plain qs n) xs)) in
    let whole = above-append (statement_names x.0) rest in
    let values = list_all (λ ok. ok) (map (throughout (values_fit qs)) (map (plain qs n) xs)) in
    two (throughout (fits qs n) x.0) (list_all (λ ok. ok) (map (throughout (fits qs n)) (map (plain qs n) xs)))
    (x.1 (omega (arith, whole, h)) (and-first (throughout (values_fit qs) x.0) values v))
    (inner-one qs n xs (omega (arith, whole, h)) (and-second (throughout (values_fit qs) x.0) values v))

inner-all : (qs : List FlatFunc) (n : ℕ) (ps : List (List (Known qs n)))
    → above (flat_map (flat_map (λ ys. ys)) (map (map statement_names) (map (map (plain qs n)) ps))) ≤ n
    → list_all (list_all (λ ok. ok)) (map (map (throughout (values_fit qs))) (map (map (plain qs n)) ps)) ≡ true
    → list_all (list_all (λ ok. ok)) (map (map (throughout (fits qs n))) (map (map (plain qs n)) ps)) ≡ true
inner-all qs n [] h v = refl
inner-all qs n (p ∷ ps) h v =
    let first = flat_map (λ ys. ys) (map statement_names (map (plain qs n) p)) in
    let rest = flat_map (flat_map (λ ys. ys)) (map (map statement_names) (map (map (plain qs n)) ps)) in
    let whole = above-append first rest in
    let one = list_all (λ ok. ok) (map (throughout (values_fit qs)) (map (plain qs n) p)) in
    let values = list_all (list_all (λ ok. ok)) (map (map (throughout (values_fit qs))) (map (map (plain qs n)) ps)) in
    two (list_all (λ ok. ok) (map (throughout (fits qs n)) (map (plain qs n) p)))
    (list_all (list_all (λ ok. ok)) (map (map (throughout (fits qs n))) (map (map (plain qs n)) ps)))
    (inner-one qs n p (omega (arith, whole, h)) (and-first one values v))
    (inner-all qs n ps (omega (arith, whole, h)) (and-second one values v))

abbrev joined_fits : List FlatFunc → ℕ → Stmt-F Bool → Bool
joined_fits qs n z = fits qs n z && list_all (list_all (λ ok. ok)) (parts z)

abbrev LayerFits : List FlatFunc → ℕ → Stmt-F Stmt → Type 0
LayerFits qs n z = above (layer_names z) ≤ n → layer_values qs z ≡ true
    → joined_fits qs n (map-Stmt Stmt Bool (throughout (fits qs n)) z) ≡ true

layer : (qs : List FlatFunc) (n : ℕ) (y : Stmt-F (Known qs n))
    → LayerFits qs n (map-Stmt (Known qs n) Stmt (plain qs n) y)
layer qs n y h v =
    let z = map-Stmt (Known qs n) Stmt (plain qs n) y in
    let N = map-Stmt Stmt (List ℕ) statement_names z in
    let V = map-Stmt Stmt Bool (throughout (values_fit qs)) z in
    let T = map-Stmt Stmt Bool (throughout (fits qs n)) z in
    let ps = parts y in
    let parts_z : parts z ≡ map (map (plain qs n)) ps = parts-map (plain qs n) y in
    let parts_n : parts N ≡ map (map statement_names) (map (map (plain qs n)) ps) = parts-map statement_names z
    ∙ ap (map (map statement_names)) parts_z in
    let parts_v : parts V ≡ map (map (throughout (values_fit qs))) (map (map (plain qs n)) ps) =
    parts-map (throughout (values_fit qs)) z ∙ ap (map (map (throughout (values_fit qs)))) parts_z in
    let parts_t : parts T ≡ map (map (throughout (fits qs n))) (map (map (plain qs n)) ps) =
    parts-map (throughout (fits qs n)) z ∙ ap (map (map (throughout (fits qs n)))) parts_z in
    let rest = flat_map (flat_map (λ ys. ys)) (parts N) in
    let whole : above ((written N ++ read N) ++ rest) ≡ max (above (written N ++ read N)) (above rest) =
    above-append (written N ++ read N) rest in
    let head : above (written N ++ read N) ≡ max (above (written N)) (above (read N)) =
    above-append (written N) (read N) in
    let same_w : above (written N) ≡ above (written T) =
    ap above (written-map statement_names z ∙ sym (written-map (throughout (fits qs n)) z)) in
    let same_r : above (read N) ≡ above (read T) =
    ap above (read-map statement_names z ∙ sym (read-map (throughout (fits qs n)) z)) in
    let same_n : above rest
    ≡ above (flat_map (flat_map (λ ys. ys)) (map (map statement_names) (map (map (plain qs n)) ps))) =
    ap (λ q. above (flat_map (flat_map (λ ys. ys)) q)) parts_n in
    let own = and-first (values_fit qs V) (list_all (list_all (λ ok. ok)) (parts V)) v in
    let others = and-second (values_fit qs V) (list_all (list_all (λ ok. ok)) (parts V)) v in
    let values : values_fit qs T ≡ true = values-map qs (throughout (fits qs n)) z
    ∙ sym (values-map qs (throughout (values_fit qs)) z) ∙ own in
    let inner = inner-all qs n ps (omega (arith, h, whole, same_n))
    (ap (list_all (list_all (λ ok. ok))) (sym parts_v) ∙ others) in
    two (fits qs n T) (list_all (list_all (λ ok. ok)) (parts T))
    (three (are_below n (written T))
    (are_below n (read T)) (values_fit qs T) (below-above n (written T) (omega (arith, h, whole, head, same_w)))
    (below-above n (read T) (omega (arith, h, whole, head, same_r))) values)
    (ap (list_all (list_all (λ ok. ok))) parts_t ∙ inner)

statement-fits : (qs : List FlatFunc) (n : ℕ) (s : Stmt) → StatementFits qs n s
statement-fits qs n = ind-Stmt (StatementFits qs n) (λ x y is h v.
    let names = fold-roll-Stmt (List ℕ) joined_names x in
    let values = fold-roll-Stmt Bool (joined_values qs) x in
    let step = subst (LayerFits qs n) is (layer qs n y) in
    fold-roll-Stmt Bool (joined_fits qs n) x ∙ step (subst (λ q. above q ≤ n) names h) (sym values ∙ v))

statements-fit : (qs : List FlatFunc) (n : ℕ) (body : List Stmt) → above (flat_map statement_names body) ≤ n
    → list_all (throughout (values_fit qs)) body ≡ true → list_all (is_well_formed_statement qs n) body ≡ true
statements-fit qs n [] h v = refl
statements-fit qs n (s ∷ rest) h v =
    let whole = above-append (statement_names s) (flat_map statement_names rest) in
    let values = list_all (throughout (values_fit qs)) rest in
    two (is_well_formed_statement qs n s) (list_all (is_well_formed_statement qs n) rest)
    (statement-fits qs n s (omega (arith, whole, h)) (and-first (throughout (values_fit qs) s) values v))
    (statements-fit qs n rest (omega (arith, whole, h)) (and-second (throughout (values_fit qs) s) values v))

-- ---- functions

list-fits : (n : ℕ) (names xs : List Name) → lists_names names xs ≡ true → are_names xs ≡ true
    → above (map (number names) xs) ≤ n → is_list_of_names n (map (number names) xs) ≡ true
list-fits n names xs listed shaped h =
    let few = and-first (nat_le (length xs) 8) (shape.all_differ xs) shaped in
    let differ = and-second (nat_le (length xs) 8) (shape.all_differ xs) shaped in
    let ns = map (number names) xs in
    three (nat_le (length ns) 8) (are_below n ns) (all_differ ns) (ap (λ k. nat_le k 8) (length-map xs (number names))
    ∙ few) (below-above n ns h) (numbers-differ names xs listed differ)

few-names : (n : ℕ) → n ≤ 32768 → nat_le n 1048576 ≡ true
few-names n h = grind (arith, nat_tests)

holding-fits : (fs : List Func) (qs : List FlatFunc) (f : Func) (held : List ℕ) → is_shaped_function f ≡ true
    → FunctionSized fs qs f 0 (flat_function fs (scope_of f held) f) → function_bulk f ≤ 32768
    → is_well_formed_function qs (flat_function fs (scope_of f held) f) ≡ true
holding-fits fs qs f held shaped s small =
    let names = first_places f in
    let scope = scope_of f held in
    let q = flat_function fs scope f in
    let lists = lists-places f in
    let args = and-first (lists_names names f.args)
    (lists_names names f.results && list_all (lists_command names) f.body) lists in
    let rest = and-second (lists_names names f.args)
    (lists_names names f.results && list_all (lists_command names) f.body) lists in
    let results = and-first (lists_names names f.results) (list_all (lists_command names) f.body) rest in
    let shaped1 = and-first (are_names f.args) (are_names f.results && list_all is_shaped_command f.body) shaped in
    let shaped2 = and-first (are_names f.results) (list_all is_shaped_command f.body)
    (and-second (are_names f.args) (are_names f.results && list_all is_shaped_command f.body) shaped) in
    let A = map (number names) f.args in
    let R = map (number names) f.results in
    let S = flat_map statement_names (function_body fs scope f) in
    let whole : above (A ++ (R ++ S)) ≡ max (above A) (max (above R) (above S)) = above-append A (R ++ S)
    ∙ ap (max (above A)) (above-append R S) in
    let top = s.names in
    two (is_well_formed_head q) (list_all (is_well_formed_statement qs q.names) q.body)
    (three (nat_le q.names 1048576) (is_list_of_names q.names A) (is_list_of_names q.names R)
    (few-names q.names (omega (arith, top, small)))
    (list-fits q.names names f.args args shaped1 (omega (arith, whole)))
    (list-fits q.names names f.results results shaped2 (omega (arith, whole))))
    (statements-fit qs q.names (function_body fs scope f) (omega (arith, whole)) s.values)

function-fits : (fs gs : List Func) (qs : List FlatFunc) → AreFlat fs fs qs → (f : Func) (q : FlatFunc) → Member fs gs f
    → IsFlat fs f q → bulk gs ≤ 32768 → is_well_formed_function qs q ≡ true
function-fits fs gs qs flats f q m flat small =
    let within = m.small in
    ap (is_well_formed_function qs) flat.is
    ∙ holding-fits fs qs f flat.held m.shaped (subst (FunctionSized fs qs f 0) flat.is
    (sized-at fs gs qs (calls-fit fs qs flats) f q m flat)) (omega (arith, within, small))

-- ---- programs

abbrev body_faults : List Func → Func → List NameFault
body_faults fs f = joins (map (faults fs) f.body)

bulk-more : (f : Func) (fs : List Func) → bulk (f ∷ fs) ≡ function_bulk f + bulk fs
bulk-more f fs = omega (arith, sum-map function_bulk (f ∷ fs), sum-map function_bulk fs, sum_by-cons function_bulk f fs)

first-member : (fs : List Func) (g : Func) (gs : List Func) → joins (map (body_faults fs) (g ∷ gs)) ≡ []
    → list_all is_shaped_function (g ∷ gs) ≡ true → Member fs (g ∷ gs) g
first-member fs g gs none shaped =
    let more = bulk-more g gs in
    record {
      none = none-first (body_faults fs g) (joins (map (body_faults fs) gs)) none;
      shaped = and-first (is_shaped_function g) (list_all is_shaped_function gs) shaped;
      small = omega (arith, more);
    }

functions-fit : (fs : List Func) (all : List FlatFunc) → AreFlat fs fs all → (gs : List Func) (qs : List FlatFunc)
    → AreFlat fs gs qs → joins (map (body_faults fs) gs) ≡ [] → list_all is_shaped_function gs ≡ true → bulk gs ≤ 32768
    → list_all (is_well_formed_function all) qs ≡ true
functions-fit fs all whole [] [] flats none shaped small = refl
functions-fit fs all whole [] (q ∷ qs) flats none shaped small = absurd flats
functions-fit fs all whole (g ∷ gs) [] flats none shaped small = absurd flats
functions-fit fs all whole (g ∷ gs) (q ∷ qs) flats none shaped small =
    let more = bulk-more g gs in
    two (is_well_formed_function all q) (list_all (is_well_formed_function all) qs)
    (function-fits fs (g ∷ gs) all whole g q (first-member fs g gs none shaped) flats.0 small)
    (functions-fit fs all whole gs qs flats.1 (none-second (body_faults fs g) (joins (map (body_faults fs) gs)) none)
    (and-second (is_shaped_function g) (list_all is_shaped_function gs) shaped) (omega (arith, more, small)))

functions-sized : (fs : List Func) (all : List FlatFunc) → AreFlat fs fs all → (gs : List Func) (qs : List FlatFunc)
    → AreFlat fs gs qs → joins (map (body_faults fs) gs) ≡ [] → list_all is_shaped_function gs ≡ true
    → AreSized fs gs qs
functions-sized fs all whole [] [] flats none shaped = tt
functions-sized fs all whole [] (q ∷ qs) flats none shaped = absurd flats
functions-sized fs all whole (g ∷ gs) [] flats none shaped = absurd flats
functions-sized fs all whole (g ∷ gs) (q ∷ qs) flats none shaped =
    let s = sized-at fs (g ∷ gs) all (calls-fit fs all whole) g q (first-member fs g gs none shaped) flats.0 in
    let units = s.units in
    let names = s.names in (
      record {
        units = omega (arith, units);
        names = omega (arith, names);
        nest = s.nest;
        callees = λ n. subst (λ ns. Contains ns n) s.callees;
      },
      functions-sized fs all whole gs qs flats.1 (none-second (body_faults fs g) (joins (map (body_faults fs) gs)) none)
          (and-second (is_shaped_function g) (list_all is_shaped_function gs) shaped),
    )

pub flat-well_formed : (fs : List Func) (qs : List FlatFunc) → AreFlat fs fs qs → HasNoNameFault fs → IsShaped fs
    → bulk fs ≤ 32768 → IsWellFormed qs
flat-well_formed fs qs flats sound shaped small =
    ap (λ b. b && list_all (is_well_formed_function qs) qs)
    (flat-names-differ fs [] fs qs flats (no-duplicates fs sound))
    ∙ functions-fit fs qs flats fs qs flats
    (none-second (duplicates [] fs) (joins (map (body_faults fs) fs)) sound) shaped small

pub flat-sized : (fs : List Func) (qs : List FlatFunc) → AreFlat fs fs qs → HasNoNameFault fs → IsShaped fs
    → AreSized fs fs qs
flat-sized fs qs flats sound shaped = functions-sized fs qs flats fs qs flats
    (none-second (duplicates [] fs) (joins (map (body_faults fs) fs)) sound) shaped
