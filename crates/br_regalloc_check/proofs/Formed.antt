-- Functions with new names are well formed where those are that they come from.
use Rattle.std.proofs.Common.{◌≡◌, ℕ, ◌≤◌, ◌&&◌, Bool, true, IsTrue, nat_le, List, [], ◌∷◌}
use Rattle.std.proofs.Common.{◌++◌, map, length, refl, sym, ap, subst, ◌∙◌, arith, slice_get}
use Rattle.std.specs.Prelude.{slice_index}
use Rattle.std.specs.List.{AllByRecursion, flat_map, list_all}
use Rattle.std.proofs.lemmas.List.{length-map, map-append}
use Rattle.br_flatimp.specs.declared.program.Operand.{Operand}
use Rattle.br_flatimp.specs.declared.program.Operand.TheVariants as operand
use Rattle.br_words.specs.declared.operation.BinOp.{BinOp}
use Rattle.br_flatimp.specs.declared.program.Cond.{Cond}
use Rattle.br_flatimp.specs.declared.program.Cond.TheVariants.{NonZero, Compare}
use Rattle.br_flatimp.specs.declared.program.FlatFunc.{FlatFunc}
use Rattle.br_flatimp.specs.declared.program.Stmt.{Stmt, map-Stmt}
use Rattle.br_flatimp.specs.declared.program.Stmt.TheOpen.{Stmt-F}
use Rattle.br_flatimp.specs.declared.program.Stmt.TheFolds.{fold-roll-Stmt, ind-Stmt}
use Rattle.br_flatimp.specs.Parts.{written, read, parts, test_names, operand_names, statement_names, function_names}
use Rattle.br_flatimp.specs.Values.{Names}
use Rattle.br_flatimp.specs.Liveness.{is_in, Live, at_test, entry, inner_moments, live, live_step, moment, moments}
use Rattle.br_flatimp.specs.Renaming.{renamed, renamed_operand, renamed_step, renamed_test}
use Rattle.br_flatimp.specs.WellFormed.{operand_fits, values_fit, are_below, all_differ, counts_fit}
use Rattle.br_flatimp.specs.WellFormed.{fits, is_well_formed_statement, is_list_of_names}
use Rattle.br_flatimp.specs.WellFormed.{is_well_formed_head, is_well_formed_function}
use Rattle.br_regalloc_check.specs.Accepted.{IsAccepted, MayRename}
use Rattle.br_regalloc_check.specs.Assigned.{function_renamed, names_for}
use Rattle.br_regalloc_check.proofs.Below.{below-append, below-join}
use Rattle.br_regalloc_check.proofs.Checked.{names-below}
use Rattle.br_regalloc_check.proofs.Lists.{all-split, and_both, both_and}
use Rattle.br_regalloc_check.proofs.Renames.{fold-renamed, needs-enough, needs-few, renamed-below, renamed-names}

-- ---- the names of a statement that fits

abbrev fits_step : List FlatFunc → ℕ → Stmt-F Bool → Bool
fits_step fs names y = fits fs names y && list_all (list_all (λ ok. ok)) (parts y)

record FitsOwn (fs : List FlatFunc) (n : ℕ) (y : Stmt-F Bool) : Type 0 where
  written : IsTrue (are_below n (written y))
  read : IsTrue (are_below n (read y))
  values : IsTrue (values_fit fs y)
  parts : IsTrue (list_all (list_all (λ ok. ok)) (parts y))

fits-own : (fs : List FlatFunc) (n : ℕ) (y : Stmt-F Bool) → IsTrue (fits_step fs n y) → FitsOwn fs n y
fits-own fs n y h =
    let outer = and_both (fits fs n y) (list_all (list_all (λ ok. ok)) (parts y)) h in
    let inner = and_both (are_below n (written y) && are_below n (read y)) (values_fit fs y) outer.0 in
    let names = and_both (are_below n (written y)) (are_below n (read y)) inner.0 in
    record { written = names.0; read = names.1; values = inner.1; parts = outer.1 }

own-fits : (fs : List FlatFunc) (n : ℕ) (y : Stmt-F Bool) → FitsOwn fs n y → IsTrue (fits_step fs n y)
own-fits fs n y h =
    both_and (fits fs n y) (list_all (list_all (λ ok. ok)) (parts y))
    (both_and (are_below n (written y) && are_below n (read y)) (values_fit fs y)
    (both_and (are_below n (written y)) (are_below n (read y)) h.written h.read) h.values) h.parts

abbrev names_step : Stmt-F (List ℕ) → List ℕ
names_step y = (written y ++ read y) ++ flat_map (flat_map (λ xs. xs)) (parts y)

abbrev HasNames : List FlatFunc → ℕ → Stmt → Type 0
HasNames fs n c = IsTrue (is_well_formed_statement fs n c) → IsTrue (are_below n (statement_names c))

abbrev Named : List FlatFunc → ℕ → Type 0
Named fs n = (c : Stmt) × HasNames fs n c

abbrev named : (fs : List FlatFunc) (n : ℕ) → List (Named fs n) → List Stmt
named fs n cs = map (λ e. e.0) cs

abbrev names_in : (fs : List FlatFunc) (n : ℕ) → List (Named fs n) → List ℕ
names_in fs n cs = flat_map (λ xs. xs) (map statement_names (named fs n cs))

all-named : (fs : List FlatFunc) (n : ℕ) (cs : List (Named fs n))
    → IsTrue (list_all (λ ok. ok) (map (is_well_formed_statement fs n) (named fs n cs)))
    → IsTrue (are_below n (names_in fs n cs))
all-named fs n [] h = refl
all-named fs n (e ∷ cs) h =
    let both = and_both (is_well_formed_statement fs n e.0)
    (list_all (λ ok. ok) (map (is_well_formed_statement fs n) (named fs n cs))) h in
    below-join n (statement_names e.0) (names_in fs n cs) (e.1 both.0) (all-named fs n cs both.1)

abbrev NamedLayer : List FlatFunc → ℕ → Stmt-F Stmt → Type 0
NamedLayer fs n y = IsTrue (fits_step fs n (map-Stmt Stmt Bool (is_well_formed_statement fs n) y))
    → IsTrue (are_below n (names_step (map-Stmt Stmt (List ℕ) statement_names y)))

no-parts : (fs : List FlatFunc) (n : ℕ) (y : Stmt-F Bool) → IsTrue (fits_step fs n y)
    → IsTrue (are_below n ((written y ++ read y) ++ []))
no-parts fs n y h =
    let own = fits-own fs n y h in
    below-join n (written y ++ read y) [] (below-join n (written y) (read y) own.written own.read) refl

layer-named : (fs : List FlatFunc) (n : ℕ) (y : Stmt-F (Named fs n))
    → NamedLayer fs n (map-Stmt (Named fs n) Stmt (λ e. e.0) y)
layer-named fs n (Stmt-F.Lit x k) h = no-parts fs n (Stmt-F.Lit x k) h
layer-named fs n (Stmt-F.Copy x y) h = no-parts fs n (Stmt-F.Copy x y) h
layer-named fs n (Stmt-F.Op x op y z) h = no-parts fs n (Stmt-F.Op x op y z) h
layer-named fs n (Stmt-F.Load x size y offset) h = no-parts fs n (Stmt-F.Load x size y offset) h
layer-named fs n (Stmt-F.Store size y z offset) h = no-parts fs n (Stmt-F.Store size y z offset) h
layer-named fs n (Stmt-F.Table x size bytes y) h = no-parts fs n (Stmt-F.Table x size bytes y) h
layer-named fs n (Stmt-F.Stackalloc x k body) h =
    let bools : List Bool = map (is_well_formed_statement fs n) (named fs n body) in
    let own = fits-own fs n (Stmt-F.Stackalloc x k bools) h in
    let inner = and_both (list_all (λ ok. ok) bools) true own.parts in
    below-join n (x ∷ []) (names_in fs n body ++ []) own.written
    (below-join n (names_in fs n body) [] (all-named fs n body inner.0) refl)
layer-named fs n (Stmt-F.If test first second) h =
    let one : List Bool = map (is_well_formed_statement fs n) (named fs n first) in
    let two : List Bool = map (is_well_formed_statement fs n) (named fs n second) in
    let own = fits-own fs n (Stmt-F.If test one two) h in
    let inner = and_both (list_all (λ ok. ok) one) (list_all (λ ok. ok) two && true) own.parts in
    let last = and_both (list_all (λ ok. ok) two) true inner.1 in
    below-join n (test_names test) (names_in fs n first ++ (names_in fs n second ++ [])) own.read
    (below-join n (names_in fs n first) (names_in fs n second ++ []) (all-named fs n first inner.0)
    (below-join n (names_in fs n second) [] (all-named fs n second last.0) refl))
layer-named fs n (Stmt-F.Loop first test last) h =
    let one : List Bool = map (is_well_formed_statement fs n) (named fs n first) in
    let two : List Bool = map (is_well_formed_statement fs n) (named fs n last) in
    let own = fits-own fs n (Stmt-F.Loop one test two) h in
    let inner = and_both (list_all (λ ok. ok) one) (list_all (λ ok. ok) two && true) own.parts in
    let end = and_both (list_all (λ ok. ok) two) true inner.1 in
    below-join n (test_names test) (names_in fs n first ++ (names_in fs n last ++ [])) own.read
    (below-join n (names_in fs n first) (names_in fs n last ++ []) (all-named fs n first inner.0)
    (below-join n (names_in fs n last) [] (all-named fs n last end.0) refl))
layer-named fs n (Stmt-F.Call xs g ys) h = no-parts fs n (Stmt-F.Call xs g ys) h
layer-named fs n (Stmt-F.Read x y) h = no-parts fs n (Stmt-F.Read x y) h
layer-named fs n (Stmt-F.Write y z) h = no-parts fs n (Stmt-F.Write y z) h

statement-named : (fs : List FlatFunc) (n : ℕ) (c : Stmt) → HasNames fs n c
statement-named fs n = ind-Stmt (HasNames fs n) (λ x y is h.
    subst (λ xs. IsTrue (are_below n xs)) (sym (fold-roll-Stmt (List ℕ) names_step x))
    (subst (NamedLayer fs n) is (layer-named fs n y)
    (subst (λ b. IsTrue b) (fold-roll-Stmt Bool (fits_step fs n) x) h)))

body-named : (fs : List FlatFunc) (n : ℕ) (cs : List Stmt) → IsTrue (list_all (is_well_formed_statement fs n) cs)
    → IsTrue (are_below n (flat_map statement_names cs))
body-named fs n [] h = refl
body-named fs n (c ∷ cs) h =
    let both = and_both (is_well_formed_statement fs n c) (list_all (is_well_formed_statement fs n) cs) h in
    below-join n (statement_names c) (flat_map statement_names cs) (statement-named fs n c both.0)
    (body-named fs n cs both.1)

-- what a head says
record Head (f : FlatFunc) : Type 0 where
  few : IsTrue (nat_le f.names 1048576)
  args : IsTrue (is_list_of_names f.names f.args)
  results : IsTrue (is_list_of_names f.names f.results)

head-parts : (f : FlatFunc) → IsTrue (is_well_formed_head f) → Head f
head-parts f h =
    let outer = and_both (nat_le f.names 1048576 && is_list_of_names f.names f.args)
    (is_list_of_names f.names f.results) h in
    let inner = and_both (nat_le f.names 1048576) (is_list_of_names f.names f.args) outer.0 in
    record { few = inner.0; args = inner.1; results = outer.1 }

record Listed (n : ℕ) (xs : List ℕ) : Type 0 where
  few : IsTrue (nat_le (length xs) 8)
  below : IsTrue (are_below n xs)
  differ : IsTrue (all_differ xs)

list-parts : (n : ℕ) (xs : List ℕ) → IsTrue (is_list_of_names n xs) → Listed n xs
list-parts n xs h =
    let outer = and_both (nat_le (length xs) 8 && are_below n xs) (all_differ xs) h in
    let inner = and_both (nat_le (length xs) 8) (are_below n xs) outer.0 in
    record { few = inner.0; below = inner.1; differ = outer.1 }

parts-list : (n : ℕ) (xs : List ℕ) → Listed n xs → IsTrue (is_list_of_names n xs)
parts-list n xs h =
    both_and (nat_le (length xs) 8 && are_below n xs) (all_differ xs)
    (both_and (nat_le (length xs) 8) (are_below n xs) h.few h.below) h.differ

pub function-named : (fs : List FlatFunc) (f : FlatFunc) → IsTrue (is_well_formed_function fs f)
    → IsTrue (are_below f.names (function_names f)) × IsTrue (nat_le f.names 1048576)
function-named fs f h =
    let both = and_both (is_well_formed_head f) (list_all (is_well_formed_statement fs f.names) f.body) h in
    let head = head-parts f both.0 in
    let args = list-parts f.names f.args head.args in
    let results = list-parts f.names f.results head.results in (
      below-join f.names (f.args ++ f.results) (flat_map statement_names f.body)
          (below-join f.names f.args f.results args.below results.below) (body-named fs f.names f.body both.1),
      head.few,
    )

-- ---- statements with new names

-- the counts of functions stay
abbrev pub SameCounts : List FlatFunc → List FlatFunc → Type 0
SameCounts qs fs = (g n m : ℕ) → counts_fit (slice_get qs g) n m ≡ counts_fit (slice_get fs g) n m

abbrev Fine : List FlatFunc → List FlatFunc → ℕ → ℕ → (ℕ → ℕ) → Stmt → Type 0
Fine qs fs k n to c =
    IsTrue (is_well_formed_statement fs n c) → (after : Names) → AllByRecursion (MayRename to) ((live c).moments after)
    → IsTrue (are_below k (map to (statement_names c)))
    → IsTrue (is_well_formed_statement qs k (renamed to c))

abbrev FineLayer : List FlatFunc → List FlatFunc → ℕ → ℕ → (ℕ → ℕ) → Stmt-F Stmt → Type 0
FineLayer qs fs k n to y =
    IsTrue (fits_step fs n (map-Stmt Stmt Bool (is_well_formed_statement fs n) y)) → (after : Names)
    → AllByRecursion (MayRename to)
    (moment (map-Stmt Stmt Live live y) after ∷ inner_moments (map-Stmt Stmt Live live y) after)
    → IsTrue (are_below k (map to (names_step (map-Stmt Stmt (List ℕ) statement_names y))))
    → IsTrue (fits_step qs k
    (map-Stmt Stmt Bool (is_well_formed_statement qs k) (renamed_step to (map-Stmt Stmt Stmt (renamed to) y))))

abbrev Each : List FlatFunc → List FlatFunc → ℕ → ℕ → (ℕ → ℕ) → Type 0
Each qs fs k n to = (c : Stmt) × Fine qs fs k n to c

abbrev stmts : (qs fs : List FlatFunc) (k n : ℕ) (to : ℕ → ℕ) → List (Each qs fs k n to) → List Stmt
stmts qs fs k n to cs = map (λ e. e.0) cs

all-fine : (qs fs : List FlatFunc) (k n : ℕ) (to : ℕ → ℕ) (cs : List (Each qs fs k n to))
    → IsTrue (list_all (λ ok. ok) (map (is_well_formed_statement fs n) (stmts qs fs k n to cs)))
    → (end : Names) → AllByRecursion (MayRename to) (moments (map live (stmts qs fs k n to cs)) end)
    → IsTrue (are_below k (map to (flat_map (λ xs. xs) (map statement_names (stmts qs fs k n to cs)))))
    → IsTrue (list_all (λ ok. ok) (map (is_well_formed_statement qs k) (map (renamed to) (stmts qs fs k n to cs))))
all-fine qs fs k n to [] h end m b = refl
all-fine qs fs k n to (e ∷ cs) h end m b =
    let rest : List Stmt = stmts qs fs k n to cs in
    let both = and_both (is_well_formed_statement fs n e.0)
    (list_all (λ ok. ok) (map (is_well_formed_statement fs n) rest)) h in
    let may = all-split (MayRename to) ((live e.0).moments (entry (map live rest) end))
    (moments (map live rest) end) m in
    let names : List ℕ = flat_map (λ xs. xs) (map statement_names rest) in
    let few = below-append k (map to (statement_names e.0)) (map to names)
    (subst (λ xs. IsTrue (are_below k xs)) (map-append to (statement_names e.0) names) b) in
    both_and (is_well_formed_statement qs k (renamed to e.0))
    (list_all (λ ok. ok) (map (is_well_formed_statement qs k) (map (renamed to) rest)))
    (e.1 both.0 (entry (map live rest) end) may.0 few.0) (all-fine qs fs k n to cs both.1 end may.1 few.1)

record NewNames (k : ℕ) (to : ℕ → ℕ) (xs ys zs : List ℕ) : Type 0 where
  written : IsTrue (are_below k (map to xs))
  read : IsTrue (are_below k (map to ys))
  rest : IsTrue (are_below k (map to zs))

new-names : (k : ℕ) (to : ℕ → ℕ) (xs ys zs : List ℕ) → IsTrue (are_below k (map to ((xs ++ ys) ++ zs)))
    → NewNames k to xs ys zs
new-names k to xs ys zs h =
    let outer = below-append k (map to (xs ++ ys)) (map to zs)
    (subst (λ us. IsTrue (are_below k us)) (map-append to (xs ++ ys) zs) h) in
    let inner = below-append k (map to xs) (map to ys)
    (subst (λ us. IsTrue (are_below k us)) (map-append to xs ys) outer.0) in
    record { written = inner.0; read = inner.1; rest = outer.1 }

-- the names of two parts
two-rests : (k : ℕ) (to : ℕ → ℕ) (xs ys : List ℕ) → IsTrue (are_below k (map to (xs ++ (ys ++ []))))
    → IsTrue (are_below k (map to xs)) × IsTrue (are_below k (map to ys))
two-rests k to xs ys h =
    let outer = below-append k (map to xs) (map to (ys ++ []))
    (subst (λ us. IsTrue (are_below k us)) (map-append to xs (ys ++ [])) h) in
    let inner = below-append k (map to ys) [] (subst (λ us. IsTrue (are_below k us)) (map-append to ys []) outer.1) in
    (outer.0, inner.0)

one-rest : (k : ℕ) (to : ℕ → ℕ) (xs : List ℕ) → IsTrue (are_below k (map to (xs ++ [])))
    → IsTrue (are_below k (map to xs))
one-rest k to xs h = (below-append k (map to xs) [] (subst (λ us. IsTrue (are_below k us)) (map-append to xs []) h)).0

-- what is read, and what tests read, with new names
read-operand : (to : ℕ → ℕ) (y : ℕ) (z : Operand)
    → map to (y ∷ operand_names z) ≡ to y ∷ operand_names (renamed_operand to z)
read-operand to y (operand.Name z) = refl
read-operand to y (operand.Const c) = refl

read-test : (to : ℕ → ℕ) (t : Cond) → map to (test_names t) ≡ test_names (renamed_test to t)
read-test to (NonZero y) = refl
read-test to (Compare rel y z) = refl

fits-operand : (to : ℕ → ℕ) (op : BinOp) (z : Operand) → operand_fits op (renamed_operand to z) ≡ operand_fits op z
fits-operand to op (operand.Name y) = refl
fits-operand to op (operand.Const c) = refl

leaf : (qs : List FlatFunc) (k : ℕ) (y : Stmt-F Bool) → IsTrue (are_below k (written y)) → IsTrue (are_below k (read y))
    → IsTrue (values_fit qs y) → parts y ≡ [] → IsTrue (fits_step qs k y)
leaf qs k y w r v none =
    own-fits qs k y (record { written = w; read = r; values = v; parts = ap (list_all (list_all (λ ok. ok))) none })

layer-fine : (qs fs : List FlatFunc) (k n : ℕ) (to : ℕ → ℕ) → SameCounts qs fs → (y : Stmt-F (Each qs fs k n to))
    → FineLayer qs fs k n to (map-Stmt (Each qs fs k n to) Stmt (λ e. e.0) y)
layer-fine qs fs k n to same (Stmt-F.Lit x m) h after may b =
    let new = new-names k to (x ∷ []) [] [] b in leaf qs k (Stmt-F.Lit (to x) m) new.written new.read refl refl
layer-fine qs fs k n to same (Stmt-F.Copy x y) h after may b =
    let new = new-names k to (x ∷ []) (y ∷ []) [] b in
    leaf qs k (Stmt-F.Copy (to x) (to y)) new.written new.read refl refl
layer-fine qs fs k n to same (Stmt-F.Op x op y z) h after may b =
    let new = new-names k to (x ∷ []) (y ∷ operand_names z) [] b in
    let own = fits-own fs n (Stmt-F.Op x op y z) h in
    leaf qs k (Stmt-F.Op (to x) op (to y) (renamed_operand to z)) new.written
    (subst (λ us. IsTrue (are_below k us)) (read-operand to y z) new.read) (fits-operand to op z ∙ own.values) refl
layer-fine qs fs k n to same (Stmt-F.Load x size y offset) h after may b =
    let new = new-names k to (x ∷ []) (y ∷ []) [] b in leaf qs k (Stmt-F.Load (to x) size (to y) offset) new.written
    new.read (fits-own fs n (Stmt-F.Load x size y offset) h).values refl
layer-fine qs fs k n to same (Stmt-F.Store size y z offset) h after may b =
    let new = new-names k to [] (y ∷ z ∷ []) [] b in leaf qs k (Stmt-F.Store size (to y) (to z) offset) new.written
    new.read (fits-own fs n (Stmt-F.Store size y z offset) h).values refl
layer-fine qs fs k n to same (Stmt-F.Table x size bytes y) h after may b =
    let new = new-names k to (x ∷ []) (y ∷ []) [] b in
    leaf qs k (Stmt-F.Table (to x) size bytes (to y)) new.written new.read refl refl
layer-fine qs fs k n to same (Stmt-F.Stackalloc x m body) h after may b =
    let inside : List Stmt = stmts qs fs k n to body in
    let bools : List Bool = map (is_well_formed_statement fs n) inside in
    let own = fits-own fs n (Stmt-F.Stackalloc x m bools) h in
    let names : List ℕ = flat_map (λ xs. xs) (map statement_names inside) in
    let new = new-names k to (x ∷ []) [] (names ++ []) b in
    let fine = all-fine qs fs k n to body (and_both (list_all (λ ok. ok) bools) true own.parts).0 after may.1
    (one-rest k to names new.rest) in
    let others : List Bool = map (is_well_formed_statement qs k) (map (renamed to) inside) in
    own-fits qs k (Stmt-F.Stackalloc (to x) m others) (record {
      written = new.written;
      read = new.read;
      values = own.values;
      parts = both_and (list_all (λ ok. ok) others) true fine refl;
    })
layer-fine qs fs k n to same (Stmt-F.If test first second) h after may b =
    let one : List Stmt = stmts qs fs k n to first in
    let two : List Stmt = stmts qs fs k n to second in
    let own = fits-own fs n
    (Stmt-F.If test (map (is_well_formed_statement fs n) one) (map (is_well_formed_statement fs n) two)) h in
    let xs : List ℕ = flat_map (λ us. us) (map statement_names one) in
    let ys : List ℕ = flat_map (λ us. us) (map statement_names two) in
    let new = new-names k to [] (test_names test) (xs ++ (ys ++ [])) b in
    let rests = two-rests k to xs ys new.rest in
    let split = all-split (MayRename to) (moments (map live one) after) (moments (map live two) after) may.1 in
    let inner = and_both (list_all (λ ok. ok) (map (is_well_formed_statement fs n) one))
    (list_all (λ ok. ok) (map (is_well_formed_statement fs n) two) && true) own.parts in
    let last = and_both (list_all (λ ok. ok) (map (is_well_formed_statement fs n) two)) true inner.1 in
    let a : List Bool = map (is_well_formed_statement qs k) (map (renamed to) one) in
    let c : List Bool = map (is_well_formed_statement qs k) (map (renamed to) two) in
    own-fits qs k (Stmt-F.If (renamed_test to test) a c) (record {
      written = refl;
      read = subst (λ us. IsTrue (are_below k us)) (read-test to test) new.read;
      values = refl;
      parts = both_and (list_all (λ ok. ok) a) (list_all (λ ok. ok) c && true)
          (all-fine qs fs k n to first inner.0 after split.0 rests.0)
          (both_and (list_all (λ ok. ok) c) true (all-fine qs fs k n to second last.0 after split.1 rests.1) refl);
    })
layer-fine qs fs k n to same (Stmt-F.Loop first test last) h after may b =
    let one : List Stmt = stmts qs fs k n to first in
    let two : List Stmt = stmts qs fs k n to last in
    let t : Names = at_test (map live one) test (map live two) after in
    let own = fits-own fs n
    (Stmt-F.Loop (map (is_well_formed_statement fs n) one) test (map (is_well_formed_statement fs n) two)) h in
    let xs : List ℕ = flat_map (λ us. us) (map statement_names one) in
    let ys : List ℕ = flat_map (λ us. us) (map statement_names two) in
    let new = new-names k to [] (test_names test) (xs ++ (ys ++ [])) b in
    let rests = two-rests k to xs ys new.rest in
    let split = all-split (MayRename to) (moments (map live one) t)
    (moments (map live two) (entry (map live one) t)) may.1 in
    let inner = and_both (list_all (λ ok. ok) (map (is_well_formed_statement fs n) one))
    (list_all (λ ok. ok) (map (is_well_formed_statement fs n) two) && true) own.parts in
    let end = and_both (list_all (λ ok. ok) (map (is_well_formed_statement fs n) two)) true inner.1 in
    let a : List Bool = map (is_well_formed_statement qs k) (map (renamed to) one) in
    let c : List Bool = map (is_well_formed_statement qs k) (map (renamed to) two) in
    own-fits qs k (Stmt-F.Loop a (renamed_test to test) c) (record {
      written = refl;
      read = subst (λ us. IsTrue (are_below k us)) (read-test to test) new.read;
      values = refl;
      parts = both_and (list_all (λ ok. ok) a) (list_all (λ ok. ok) c && true)
          (all-fine qs fs k n to first inner.0 t split.0 rests.0)
          (both_and (list_all (λ ok. ok) c) true
          (all-fine qs fs k n to last end.0 (entry (map live one) t) split.1 rests.1) refl);
    })
layer-fine qs fs k n to same (Stmt-F.Call xs g ys) h after may b =
    let new = new-names k to xs ys [] b in
    let own = fits-own fs n (Stmt-F.Call xs g ys) h in
    let counts = and_both (counts_fit (slice_get fs g) (length xs) (length ys)) (all_differ xs) own.values in
    let fit : IsTrue (counts_fit (slice_get qs g) (length (map to xs)) (length (map to ys))) =
    ap (λ i. counts_fit (slice_get qs g) i (length (map to ys))) (length-map xs to)
    ∙ ap (λ i. counts_fit (slice_get qs g) (length xs) i) (length-map ys to)
    ∙ same g (length xs) (length ys) ∙ counts.0 in
    leaf qs k (Stmt-F.Call (map to xs) g (map to ys)) new.written new.read (both_and (counts_fit (slice_get qs g)
    (length (map to xs)) (length (map to ys))) (all_differ (map to xs)) fit may.0.differ) refl
layer-fine qs fs k n to same (Stmt-F.Read x y) h after may b =
    let new = new-names k to (x ∷ []) (y ∷ []) [] b in
    leaf qs k (Stmt-F.Read (to x) (to y)) new.written new.read refl refl
layer-fine qs fs k n to same (Stmt-F.Write y z) h after may b =
    let new = new-names k to [] (y ∷ z ∷ []) [] b in
    leaf qs k (Stmt-F.Write (to y) (to z)) new.written new.read refl refl

statement-fine : (qs fs : List FlatFunc) (k n : ℕ) (to : ℕ → ℕ) → SameCounts qs fs → (c : Stmt) → Fine qs fs k n to c
statement-fine qs fs k n to same = ind-Stmt (Fine qs fs k n to) (λ x y is h after may b.
    subst (λ t. IsTrue t) (sym (fold-renamed (fits_step qs k) to x))
    (subst (FineLayer qs fs k n to) is (layer-fine qs fs k n to same y)
    (subst (λ t. IsTrue t) (fold-roll-Stmt Bool (fits_step fs n) x) h) after
    (subst (λ l. AllByRecursion (MayRename to) (l.moments after)) (fold-roll-Stmt Live live_step x) may)
    (subst (λ xs. IsTrue (are_below k (map to xs))) (fold-roll-Stmt (List ℕ) names_step x) b)))

body-fine : (qs fs : List FlatFunc) (k n : ℕ) (to : ℕ → ℕ) → SameCounts qs fs → (cs : List Stmt)
    → IsTrue (list_all (is_well_formed_statement fs n) cs) → (end : Names)
    → AllByRecursion (MayRename to) (moments (map live cs) end)
    → IsTrue (are_below k (map to (flat_map statement_names cs)))
    → IsTrue (list_all (is_well_formed_statement qs k) (map (renamed to) cs))
body-fine qs fs k n to same [] h end may b = refl
body-fine qs fs k n to same (c ∷ cs) h end may b =
    let both = and_both (is_well_formed_statement fs n c) (list_all (is_well_formed_statement fs n) cs) h in
    let split = all-split (MayRename to) ((live c).moments (entry (map live cs) end)) (moments (map live cs) end) may in
    let few = below-append k (map to (statement_names c)) (map to (flat_map statement_names cs))
    (subst (λ xs. IsTrue (are_below k xs)) (map-append to (statement_names c) (flat_map statement_names cs)) b) in
    both_and (is_well_formed_statement qs k (renamed to c))
    (list_all (is_well_formed_statement qs k) (map (renamed to) cs))
    (statement-fine qs fs k n to same c both.0 (entry (map live cs) end) split.0 few.0)
    (body-fine qs fs k n to same cs both.1 end split.1 few.1)

-- ---- functions

le-true : (a b : ℕ) → a ≤ b → IsTrue (nat_le a b)
le-true a b h = grind arith

pub true-le : (a b : ℕ) → IsTrue (nat_le a b) → a ≤ b
true-le a b h = grind arith

new-list : (k n : ℕ) (to : ℕ → ℕ) (xs : List ℕ) → Listed n xs → IsTrue (are_below k (map to xs))
    → IsTrue (all_differ (map to xs)) → IsTrue (is_list_of_names k (map to xs))
new-list k n to xs h below differ = parts-list k (map to xs) (record {
  few = subst (λ i. IsTrue (nat_le i 8)) (sym (length-map xs to)) h.few;
  below = below;
  differ = differ;
})

pub function-fine : (qs fs : List FlatFunc) → SameCounts qs fs → (f : FlatFunc) (to : List ℕ)
    → IsTrue (is_well_formed_function fs f) → IsAccepted f to
    → IsTrue (is_well_formed_function qs (function_renamed (slice_index to) f))
function-fine qs fs same f to h ok =
    let q = function_renamed (slice_index to) f in
    let k : ℕ = names_for (function_names q) in
    let both = and_both (is_well_formed_head f) (list_all (is_well_formed_statement fs f.names) f.body) h in
    let head = head-parts f both.0 in
    let named = function-named fs f h in
    let old = renamed-below f.names f to ok.count ok.below (names-below f.names f named.0) in
    let few : k ≤ f.names = needs-few f.names (function_names q) (below-join f.names (q.args ++ q.results)
    (flat_map statement_names q.body) (below-join f.names q.args q.results old.args old.results) old.body) in
    let most : f.names ≤ 1048576 = true-le f.names 1048576 head.few in
    let new = names-below k q (needs-enough (function_names q)) in
    let body : IsTrue (are_below k (map (slice_index to) (flat_map statement_names f.body))) =
    subst (λ xs. IsTrue (are_below k xs)) (renamed-names (slice_index to) f.body) new.body in
    both_and (is_well_formed_head q) (list_all (is_well_formed_statement qs k) q.body)
    (both_and (nat_le k 1048576 && is_list_of_names k q.args) (is_list_of_names k q.results)
    (both_and (nat_le k 1048576) (is_list_of_names k q.args) (le-true k 1048576 (omega (arith, few, most)))
    (new-list k f.names (slice_index to) f.args (list-parts f.names f.args head.args) new.args ok.args))
    (new-list k f.names (slice_index to) f.results (list-parts f.names f.results head.results) new.results ok.results))
    (body-fine qs fs k f.names (slice_index to) same f.body both.1 (is_in f.results) ok.written body)
