-- The sizes of statements, and that what they hold beside names and parts is in range.
use Rattle.std.proofs.Common.{◌≡◌, ℕ, ◌+◌, ◌%◌, ◌==◌, ◌<◌, ◌≤◌, max, Bool, true, ◌&&◌}
use Rattle.std.proofs.Common.{List, [], ◌∷◌, ◌++◌, map, sum, refl, ap, ◌∙◌, arith}
use Rattle.std.specs.List.{flat_map, list_all}
use Rattle.std.proofs.lemmas.Grind.{flat_map-append}
use Rattle.std.proofs.lemmas.List.{append-nil}
use Rattle.std.proofs.lemmas.List.Sums.{sum-map, sum_by-append}
use Rattle.std.proofs.lemmas.List.Folds.{list_all-append, list_all-map}
use Rattle.br_flatimp.specs.declared.program.Cond.{Cond}
use Rattle.br_flatimp.specs.declared.program.Stmt.{Stmt, map-Stmt}
use Rattle.br_flatimp.specs.declared.program.Stmt.TheOpen.{Stmt-F}
use Rattle.br_flatimp.specs.declared.program.Stmt.TheViews.{roll-Stmt}
use Rattle.br_flatimp.specs.declared.program.Stmt.TheFolds.{fold-roll-Stmt}
use Rattle.br_flatimp.specs.declared.program.FlatFunc.{FlatFunc}
use Rattle.br_flatimp.specs.Parts.{written, read, parts, throughout, gathered, statement_names, test_names, own_callees}
use Rattle.br_flatimp.specs.Sizes.{own_units, added, largest, own_bytes, statement_nest}
use Rattle.br_flatimp.specs.WellFormed.{values_fit}
use Rattle.br_flatten.specs.Flatten.{above}
use Rattle.br_flatten.proofs.LeastAbove.{above-append, flat_map-map}

-- Statements with names below a number, of so many units at most, with buffers nested in one another of so
-- many bytes at most, and with these callees.
pub record Fine (fs : List FlatFunc) (top size deep : ℕ) (gs : List ℕ) (body : List Stmt) : Type 0 where
  pub names : above (flat_map statement_names body) ≤ top
  pub units : sum (map (added own_units) body) ≤ size
  pub nest : largest (map statement_nest body) ≤ deep
  pub callees : flat_map (gathered own_callees) body ≡ gs
  pub values : list_all (throughout (values_fit fs)) body ≡ true

-- ---- lists in two parts

pub sum-append : {X : Type 0} (F : X → ℕ) (xs ys : List X) → sum (map F (xs ++ ys)) ≡ sum (map F xs) + sum (map F ys)
sum-append F xs ys = omega (arith, sum-map F (xs ++ ys), sum-map F xs, sum-map F ys, sum_by-append F xs ys)

pub largest-append : {X : Type 0} (F : X → ℕ) (xs ys : List X)
    → largest (map F (xs ++ ys)) ≡ max (largest (map F xs)) (largest (map F ys))
largest-append F [] ys = omega arith
largest-append F (x ∷ xs) ys = omega (arith, largest-append F xs ys)

both : (a b : Bool) → a ≡ true → b ≡ true → (a && b) ≡ true
both a b e f = ap (λ c. c && b) e ∙ f

pub fine-none : (fs : List FlatFunc) (top size deep : ℕ) → Fine fs top size deep [] []
fine-none fs top size deep =
    record { names = omega arith; units = omega arith; nest = omega arith; callees = refl; values = refl }

pub fine-append : (fs : List FlatFunc) (top size more deep : ℕ) (gs hs : List ℕ) (xs ys : List Stmt)
    → Fine fs top size deep gs xs → Fine fs top more deep hs ys → Fine fs top (size + more) deep (gs ++ hs) (xs ++ ys)
fine-append fs top size more deep gs hs xs ys a b =
    let names1 = a.names in
    let names2 = b.names in
    let units1 = a.units in
    let units2 = b.units in
    let nest1 = a.nest in
    let nest2 = b.nest in
    let whole : above (flat_map statement_names (xs ++ ys))
    ≡ max (above (flat_map statement_names xs)) (above (flat_map statement_names ys)) =
    ap above (flat_map-append statement_names xs ys)
    ∙ above-append (flat_map statement_names xs) (flat_map statement_names ys) in
    record {
      names = omega (arith, whole, names1, names2);
      units = omega (arith, sum-append (added own_units) xs ys, units1, units2);
      nest = omega (arith, largest-append statement_nest xs ys, nest1, nest2);
      callees = flat_map-append (gathered own_callees) xs ys
          ∙ ap (λ q. q ++ flat_map (gathered own_callees) ys) a.callees ∙ ap (λ q. gs ++ q) b.callees;
      values = list_all-append (throughout (values_fit fs)) xs ys ∙ both (list_all (throughout (values_fit fs)) xs)
          (list_all (throughout (values_fit fs)) ys) a.values b.values;
    }

pub fine-within : (fs : List FlatFunc) (top size deep top' size' deep' : ℕ) (gs : List ℕ) (body : List Stmt)
    → top ≤ top' → size ≤ size' → deep ≤ deep' → Fine fs top size deep gs body → Fine fs top' size' deep' gs body
fine-within fs top size deep top' size' deep' gs body t s d a =
    let names = a.names in
    let units = a.units in
    let nest = a.nest in
    record {
      names = omega (arith, names, t);
      units = omega (arith, units, s);
      nest = omega (arith, nest, d);
      callees = a.callees;
      values = a.values;
    }

-- ---- one statement, by what it is made of

abbrev pub joined_names : Stmt-F (List ℕ) → List ℕ
joined_names z = (written z ++ read z) ++ flat_map (flat_map (λ xs. xs)) (parts z)

abbrev pub joined_units : Stmt-F ℕ → ℕ
joined_units z = own_units z + sum (map sum (parts z))

abbrev pub joined_nest : Stmt-F ℕ → ℕ
joined_nest z = own_bytes z + largest (map largest (parts z))

abbrev pub joined_callees : Stmt-F (List ℕ) → List ℕ
joined_callees z = own_callees z ++ flat_map (flat_map (λ xs. xs)) (parts z)

abbrev pub joined_values : List FlatFunc → Stmt-F Bool → Bool
joined_values fs z = values_fit fs z && list_all (list_all (λ ok. ok)) (parts z)

abbrev pub layer_names : Stmt-F Stmt → List ℕ
layer_names y = joined_names (map-Stmt Stmt (List ℕ) statement_names y)

abbrev pub layer_units : Stmt-F Stmt → ℕ
layer_units y = joined_units (map-Stmt Stmt ℕ (added own_units) y)

abbrev pub layer_nest : Stmt-F Stmt → ℕ
layer_nest y = joined_nest (map-Stmt Stmt ℕ statement_nest y)

abbrev pub layer_callees : Stmt-F Stmt → List ℕ
layer_callees y = joined_callees (map-Stmt Stmt (List ℕ) (gathered own_callees) y)

abbrev pub layer_values : List FlatFunc → Stmt-F Stmt → Bool
layer_values fs y = joined_values fs (map-Stmt Stmt Bool (throughout (values_fit fs)) y)

pub fine-one : (fs : List FlatFunc) (top size deep : ℕ) (gs : List ℕ) (y : Stmt-F Stmt)
    → above (layer_names y) ≤ top → layer_units y ≤ size → layer_nest y ≤ deep → layer_callees y ≡ gs
    → layer_values fs y ≡ true
    → Fine fs top size deep gs (roll-Stmt y ∷ [])
fine-one fs top size deep gs y names units nest callees values =
    let rolled : statement_names (roll-Stmt y) ≡ layer_names y = fold-roll-Stmt (List ℕ) joined_names y in
    let counted : added own_units (roll-Stmt y) ≡ layer_units y = fold-roll-Stmt ℕ joined_units y in
    let nested : statement_nest (roll-Stmt y) ≡ layer_nest y = fold-roll-Stmt ℕ joined_nest y in
    let called : gathered own_callees (roll-Stmt y) ≡ layer_callees y = fold-roll-Stmt (List ℕ) joined_callees y in
    let fitted : throughout (values_fit fs) (roll-Stmt y) ≡ layer_values fs y =
    fold-roll-Stmt Bool (joined_values fs) y in
    let whole : above (flat_map statement_names (roll-Stmt y ∷ [])) ≡ above (layer_names y) =
    ap above (append-nil (statement_names (roll-Stmt y)) ∙ rolled) in
    record {
      names = omega (arith, whole, names);
      units = omega (arith, counted, units);
      nest = omega (arith, nested, nest);
      callees = append-nil (gathered own_callees (roll-Stmt y)) ∙ called ∙ callees;
      values = both (throughout (values_fit fs) (roll-Stmt y)) true (fitted ∙ values) refl;
    }

-- ---- statements with parts

pub names-parts : (A B : List Stmt)
    → above (flat_map (λ xs. xs) (map statement_names A) ++ (flat_map (λ xs. xs) (map statement_names B) ++ []))
    ≡ max (above (flat_map statement_names A)) (above (flat_map statement_names B))
names-parts A B =
    above-append (flat_map (λ xs. xs) (map statement_names A)) (flat_map (λ xs. xs) (map statement_names B) ++ [])
    ∙ ap (λ q. max (above q) (above (flat_map (λ xs. xs) (map statement_names B) ++ [])))
    (flat_map-map statement_names A)
    ∙ ap (λ q. max (above (flat_map statement_names A)) (above q))
    (append-nil (flat_map (λ xs. xs) (map statement_names B)) ∙ flat_map-map statement_names B)

pub test-parts : (test : Cond) (A B : List Stmt)
    → above (test_names test
    ++ (flat_map (λ xs. xs) (map statement_names A) ++ (flat_map (λ xs. xs) (map statement_names B) ++ [])))
    ≡ max (above (test_names test)) (max (above (flat_map statement_names A)) (above (flat_map statement_names B)))
test-parts test A B =
    above-append (test_names test)
    (flat_map (λ xs. xs) (map statement_names A) ++ (flat_map (λ xs. xs) (map statement_names B) ++ []))
    ∙ ap (max (above (test_names test))) (names-parts A B)

callees-parts : (A B : List Stmt) (gs hs : List ℕ) → flat_map (gathered own_callees) A ≡ gs
    → flat_map (gathered own_callees) B ≡ hs
    → flat_map (λ xs. xs) (map (gathered own_callees) A)
    ++ (flat_map (λ xs. xs) (map (gathered own_callees) B) ++ []) ≡ gs ++ hs
callees-parts A B gs hs e f =
    ap (λ q. q ++ (flat_map (λ xs. xs) (map (gathered own_callees) B) ++ []))
    (flat_map-map (gathered own_callees) A ∙ e)
    ∙ ap (λ q. gs ++ q)
    (append-nil (flat_map (λ xs. xs) (map (gathered own_callees) B)) ∙ flat_map-map (gathered own_callees) B ∙ f)

values-part : (fs : List FlatFunc) (A : List Stmt) → list_all (throughout (values_fit fs)) A ≡ true
    → list_all (λ ok. ok) (map (throughout (values_fit fs)) A) ≡ true
values-part fs A e = list_all-map (λ ok. ok) (throughout (values_fit fs)) A ∙ e

pub fine-if : (fs : List FlatFunc) (top size more deep : ℕ) (gs hs : List ℕ) (test : Cond) (A B : List Stmt)
    → above (test_names test) ≤ top → Fine fs top size deep gs A → Fine fs top more deep hs B
    → Fine fs top (1 + size + more) deep (gs ++ hs) (roll-Stmt (Stmt-F.If test A B) ∷ [])
fine-if fs top size more deep gs hs test A B below a b =
    let names1 = a.names in
    let names2 = b.names in
    let units1 = a.units in
    let units2 = b.units in
    let nest1 = a.nest in
    let nest2 = b.nest in
    fine-one fs top (1 + size + more) deep (gs ++ hs) (Stmt-F.If test A B)
    (omega (arith, below, test-parts test A B, names1, names2)) (omega (arith, units1, units2))
    (omega (arith, nest1, nest2))
    (callees-parts A B gs hs a.callees b.callees)
    (both (list_all (λ ok. ok) (map (throughout (values_fit fs)) A))
    (list_all (λ ok. ok) (map (throughout (values_fit fs)) B) && true) (values-part fs A a.values)
    (both (list_all (λ ok. ok) (map (throughout (values_fit fs)) B)) true (values-part fs B b.values) refl))

pub fine-loop : (fs : List FlatFunc) (top size more deep : ℕ) (gs hs : List ℕ) (test : Cond) (A B : List Stmt)
    → above (test_names test) ≤ top → Fine fs top size deep gs A → Fine fs top more deep hs B
    → Fine fs top (1 + size + more) deep (gs ++ hs) (roll-Stmt (Stmt-F.Loop A test B) ∷ [])
fine-loop fs top size more deep gs hs test A B below a b =
    let names1 = a.names in
    let names2 = b.names in
    let units1 = a.units in
    let units2 = b.units in
    let nest1 = a.nest in
    let nest2 = b.nest in
    fine-one fs top (1 + size + more) deep (gs ++ hs) (Stmt-F.Loop A test B)
    (omega (arith, below, test-parts test A B, names1, names2)) (omega (arith, units1, units2))
    (omega (arith, nest1, nest2))
    (callees-parts A B gs hs a.callees b.callees)
    (both (list_all (λ ok. ok) (map (throughout (values_fit fs)) A))
    (list_all (λ ok. ok) (map (throughout (values_fit fs)) B) && true) (values-part fs A a.values)
    (both (list_all (λ ok. ok) (map (throughout (values_fit fs)) B)) true (values-part fs B b.values) refl))

pub fine-stackalloc : (fs : List FlatFunc) (top size deep : ℕ) (gs : List ℕ) (x n : ℕ) (body : List Stmt) → x < top
    → (n % 4 == 0) ≡ true → Fine fs top size deep gs body
    → Fine fs top (1 + size) (n + deep) gs (roll-Stmt (Stmt-F.Stackalloc x n body) ∷ [])
fine-stackalloc fs top size deep gs x n body below whole a =
    let names1 = a.names in
    let units1 = a.units in
    let nest1 = a.nest in
    let inner : above (flat_map (λ xs. xs) (map statement_names body) ++ []) ≡ above (flat_map statement_names body) =
    ap above (append-nil (flat_map (λ xs. xs) (map statement_names body)) ∙ flat_map-map statement_names body) in
    fine-one fs top (1 + size) (n + deep) gs (Stmt-F.Stackalloc x n body)
    (omega (arith, below, inner, names1)) (omega (arith, units1)) (omega (arith, nest1))
    (append-nil (flat_map (λ xs. xs) (map (gathered own_callees) body))
    ∙ flat_map-map (gathered own_callees) body ∙ a.callees)
    (both (n % 4 == 0) (list_all (λ ok. ok) (map (throughout (values_fit fs)) body) && true) whole
    (both (list_all (λ ok. ok) (map (throughout (values_fit fs)) body)) true (values-part fs body a.values) refl))
