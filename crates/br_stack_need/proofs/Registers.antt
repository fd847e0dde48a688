-- The names of a program in register form are numbers of registers.
use Rattle.std.proofs.Common.{◌≡◌, ℕ, suc, ◌+◌, ◌≤◌, ◌==◌, ◌&&◌, Bool, IsTrue, nat_lt, nat_le}
use Rattle.std.proofs.Common.{List, [], ◌∷◌, ◌++◌, map, length, refl, sym, ap, subst, ◌∙◌, arith}
use Rattle.std.specs.List.{list_all, flat_map}
use Rattle.std.proofs.lemmas.Bool.{and_parts, and_from, leb-true, eqb-true, lt-ltb, le-leb}
use Rattle.br_flatimp.specs.declared.program.Stmt.{Stmt, map-Stmt, roll-Stmt}
use Rattle.br_flatimp.specs.declared.program.Stmt.TheOpen.{Stmt-F}
use Rattle.br_flatimp.specs.declared.program.Stmt.TheFolds.{fold-roll-Stmt, ind-Stmt}
use Rattle.br_flatimp.specs.declared.program.FlatFunc.{FlatFunc}
use Rattle.br_flatimp.specs.Parts.{written, read, parts, throughout, statement_names, function_names}
use Rattle.br_flatimp.specs.WellFormed.{IsRegisterForm, all_differ, are_below, are_registers, is_in_order}
use Rattle.br_flatimp.specs.WellFormed.{is_list_of_names, is_passing, is_register_function}
use Rattle.br_flatimp.specs.WellFormed.{is_well_formed_function, is_well_formed_head, is_well_formed_statement}
use Rattle.br_flatimp.specs.WellFormed.{names_differ, passes_in_order, uses_registers}

-- ---- lists

all-append : (p : ℕ → Bool) (xs ys : List ℕ) → IsTrue (list_all p xs) → IsTrue (list_all p ys)
    → IsTrue (list_all p (xs ++ ys))
all-append p [] ys h k = k
all-append p (x ∷ xs) ys h k =
    let two = and_parts (p x) (list_all p xs) h in
    and_from (p x) (list_all p (xs ++ ys)) two.0 (all-append p xs ys two.1 k)

registers-append : (xs ys : List ℕ) → IsTrue (are_registers xs) → IsTrue (are_registers ys)
    → IsTrue (are_registers (xs ++ ys))
registers-append = all-append (λ x. nat_le 3 x && nat_le x 31)

in_order_registers : (a : ℕ) (xs : List ℕ) → 3 ≤ a → a + length xs ≤ 32 → IsTrue (is_in_order a xs)
    → IsTrue (are_registers xs)
in_order_registers a [] low few h = refl
in_order_registers a (x ∷ xs) low few h =
    let two = and_parts (x == a) (is_in_order (suc a) xs) h in
    let same : x ≡ a = eqb-true x a two.0 in
    and_from (nat_le 3 x && nat_le x 31) (are_registers xs)
    (and_from (nat_le 3 x) (nat_le x 31) (le-leb 3 x (omega arith)) (le-leb x 31 (omega arith)))
    (in_order_registers (suc a) xs (omega arith) (omega arith) two.1)

pub registers_below : (xs : List ℕ) → IsTrue (are_registers xs) → IsTrue (are_below 32 xs)
registers_below [] h = refl
registers_below (x ∷ xs) h =
    let two = and_parts (nat_le 3 x && nat_le x 31) (are_registers xs) h in
    let high : x ≤ 31 = leb-true x 31 (and_parts (nat_le 3 x) (nat_le x 31) two.0).1 in
    and_from (nat_lt x 32) (are_below 32 xs) (lt-ltb x 32 (omega arith)) (registers_below xs two.1)

-- ---- statements

parts_map : {A B : Type 0} (f : A → B) (y : Stmt-F A) → parts (map-Stmt A B f y) ≡ map (map f) (parts y)
parts_map f (Stmt-F.Lit x n) = refl
parts_map f (Stmt-F.Copy x y) = refl
parts_map f (Stmt-F.Op x o y z) = refl
parts_map f (Stmt-F.Load x size y offset) = refl
parts_map f (Stmt-F.Store size y z offset) = refl
parts_map f (Stmt-F.Table x size bytes y) = refl
parts_map f (Stmt-F.Stackalloc x n body) = refl
parts_map f (Stmt-F.If test first second) = refl
parts_map f (Stmt-F.Loop first test last) = refl
parts_map f (Stmt-F.Call xs g ys) = refl
parts_map f (Stmt-F.Read x y) = refl
parts_map f (Stmt-F.Write y z) = refl

-- what a layer says of itself does not look into its parts
record SameLayer {A B : Type 0} (f : A → B) (y : Stmt-F A) : Type 0 where
  using : uses_registers (map-Stmt A B f y) ≡ uses_registers y
  naming : written (map-Stmt A B f y) ++ read (map-Stmt A B f y) ≡ written y ++ read y

same_layer : {A B : Type 0} (f : A → B) (y : Stmt-F A) → SameLayer f y
same_layer f (Stmt-F.Lit x n) = record { using = refl; naming = refl }
same_layer f (Stmt-F.Copy x y) = record { using = refl; naming = refl }
same_layer f (Stmt-F.Op x o y z) = record { using = refl; naming = refl }
same_layer f (Stmt-F.Load x size y offset) = record { using = refl; naming = refl }
same_layer f (Stmt-F.Store size y z offset) = record { using = refl; naming = refl }
same_layer f (Stmt-F.Table x size bytes y) = record { using = refl; naming = refl }
same_layer f (Stmt-F.Stackalloc x n body) = record { using = refl; naming = refl }
same_layer f (Stmt-F.If test first second) = record { using = refl; naming = refl }
same_layer f (Stmt-F.Loop first test last) = record { using = refl; naming = refl }
same_layer f (Stmt-F.Call xs g ys) = record { using = refl; naming = refl }
same_layer f (Stmt-F.Read x y) = record { using = refl; naming = refl }
same_layer f (Stmt-F.Write y z) = record { using = refl; naming = refl }

abbrev InForm : Stmt → Type 0
InForm st = IsTrue (throughout uses_registers st) → IsTrue (are_registers (statement_names st))

each_registers : (cs : List ((st : Stmt) × InForm st))
    → IsTrue (list_all (λ ok. ok) (map (throughout uses_registers) (map (λ e. e.0) cs)))
    → IsTrue (are_registers (flat_map (λ xs. xs) (map statement_names (map (λ e. e.0) cs))))
each_registers [] h = refl
each_registers (e ∷ cs) h =
    let two = and_parts (throughout uses_registers e.0)
    (list_all (λ ok. ok) (map (throughout uses_registers) (map (λ e. e.0) cs))) h in
    registers-append (statement_names e.0) (flat_map (λ xs. xs) (map statement_names (map (λ e. e.0) cs))) (e.1 two.0)
    (each_registers cs two.1)

lists_registers : (css : List (List ((st : Stmt) × InForm st)))
    → IsTrue (list_all (list_all (λ ok. ok)) (map (map (throughout uses_registers)) (map (map (λ e. e.0)) css)))
    → IsTrue (are_registers (flat_map (flat_map (λ xs. xs)) (map (map statement_names) (map (map (λ e. e.0)) css))))
lists_registers [] h = refl
lists_registers (cs ∷ css) h =
    let two = and_parts (list_all (λ ok. ok) (map (throughout uses_registers) (map (λ e. e.0) cs)))
    (list_all (list_all (λ ok. ok)) (map (map (throughout uses_registers)) (map (map (λ e. e.0)) css))) h in
    registers-append (flat_map (λ xs. xs) (map statement_names (map (λ e. e.0) cs))) (flat_map (flat_map (λ xs. xs))
    (map (map statement_names) (map (map (λ e. e.0)) css))) (each_registers cs two.0) (lists_registers css two.1)

own_registers : {X : Type 0} (y : Stmt-F X) → IsTrue (uses_registers y) → IsTrue (are_registers (written y ++ read y))
own_registers y h =
    let two = and_parts (are_registers (written y) && are_registers (read y)) (passes_in_order y) h in
    let names = and_parts (are_registers (written y)) (are_registers (read y)) two.0 in
    registers-append (written y) (read y) names.0 names.1

statement_registers : (st : Stmt) → InForm st
statement_registers = ind-Stmt InForm (λ x y is. subst (λ z. InForm (roll-Stmt z)) is (layer y))
  where
    layer : (y : Stmt-F ((st : Stmt) × InForm st))
        → InForm (roll-Stmt (map-Stmt ((st : Stmt) × InForm st) Stmt (λ e. e.0) y))
    layer y h =
        let z = map-Stmt ((st : Stmt) × InForm st) Stmt (λ e. e.0) y in
        let rolled : throughout uses_registers (roll-Stmt z)
        ≡ (uses_registers (map-Stmt Stmt Bool (throughout uses_registers) z)
        && list_all (list_all (λ ok. ok)) (map (map (throughout uses_registers)) (parts z))) =
        fold-roll-Stmt Bool (λ y. uses_registers y && list_all (list_all (λ ok. ok)) (parts y)) z
        ∙ ap (λ q. uses_registers (map-Stmt Stmt Bool (throughout uses_registers) z)
        && list_all (list_all (λ ok. ok)) q) (parts_map (throughout uses_registers) z) in
        let two = and_parts (uses_registers (map-Stmt Stmt Bool (throughout uses_registers) z)) (list_all
        (list_all (λ ok. ok)) (map (map (throughout uses_registers)) (parts z))) (subst IsTrue rolled h) in
        let own = own_registers z (subst IsTrue (same_layer (throughout uses_registers) z).using two.0) in
        let inner = lists_registers
        (parts y) (subst (λ q. IsTrue (list_all (list_all (λ ok. ok)) (map (map (throughout uses_registers)) q)))
        (parts_map (λ e. e.0) y) two.1) in
        let names : statement_names (roll-Stmt z) ≡ (written z ++ read z)
        ++ flat_map (flat_map (λ xs. xs)) (map (map statement_names) (map (map (λ e. e.0)) (parts y))) =
        fold-roll-Stmt (List ℕ) (λ y. (written y ++ read y) ++ flat_map (flat_map (λ xs. xs)) (parts y)) z
        ∙ ap (λ q. (written (map-Stmt Stmt (List ℕ) statement_names z)
        ++ read (map-Stmt Stmt (List ℕ) statement_names z)) ++ flat_map (flat_map (λ xs. xs)) q)
        (parts_map statement_names z)
        ∙ ap (λ q. q ++ flat_map (flat_map (λ xs. xs)) (map (map statement_names) (parts z)))
        (same_layer statement_names z).naming
        ∙ ap (λ q. (written z ++ read z) ++ flat_map (flat_map (λ xs. xs)) (map (map statement_names) q))
        (parts_map (λ e. e.0) y) in
        subst (λ q. IsTrue (are_registers q)) (sym names) (registers-append (written z ++ read z)
        (flat_map (flat_map (λ xs. xs)) (map (map statement_names) (map (map (λ e. e.0)) (parts y)))) own inner)

body_registers : (body : List Stmt) → IsTrue (list_all (throughout uses_registers) body)
    → IsTrue (are_registers (flat_map statement_names body))
body_registers [] h = refl
body_registers (st ∷ body) h =
    let two = and_parts (throughout uses_registers st) (list_all (throughout uses_registers) body) h in
    registers-append (statement_names st) (flat_map statement_names body) (statement_registers st two.0)
    (body_registers body two.1)

-- ---- functions

passing_registers : (names : ℕ) (xs : List ℕ) → IsTrue (is_list_of_names names xs) → IsTrue (is_passing xs)
    → IsTrue (are_registers xs)
passing_registers names xs h k =
    let two = and_parts (nat_le (length xs) 8 && are_below names xs) (all_differ xs) h in
    let few : length xs ≤ 8 = leb-true (length xs) 8 (and_parts (nat_le (length xs) 8) (are_below names xs) two.0).0 in
    in_order_registers 10 xs (omega arith) (omega arith) k

function_registers : (fs : List FlatFunc) (f : FlatFunc) → IsTrue (is_well_formed_function fs f)
    → IsTrue (is_register_function f) → IsTrue (are_registers (function_names f))
function_registers fs f h k =
    let head = (and_parts (is_well_formed_head f) (list_all (is_well_formed_statement fs f.names) f.body) h).0 in
    let lists = and_parts (nat_le f.names 1048576 && is_list_of_names f.names f.args)
    (is_list_of_names f.names f.results) head in
    let args = (and_parts (nat_le f.names 1048576) (is_list_of_names f.names f.args) lists.0).1 in
    let form = and_parts (is_passing f.args && is_passing f.results) (list_all (throughout uses_registers) f.body) k in
    let passing = and_parts (is_passing f.args) (is_passing f.results) form.0 in
    registers-append (f.args ++ f.results) (flat_map statement_names f.body)
    (registers-append f.args f.results (passing_registers f.names f.args args passing.0)
    (passing_registers f.names f.results lists.1 passing.1))
    (body_registers f.body form.1)

each_function : (all fs : List FlatFunc) → IsTrue (list_all (is_well_formed_function all) fs)
    → IsTrue (list_all is_register_function fs) → IsTrue (list_all (λ f. are_registers (function_names f)) fs)
each_function all [] h k = refl
each_function all (f ∷ fs) h k =
    let two = and_parts (is_well_formed_function all f) (list_all (is_well_formed_function all) fs) h in
    let form = and_parts (is_register_function f) (list_all is_register_function fs) k in
    and_from (are_registers (function_names f)) (list_all (λ g. are_registers (function_names g)) fs)
    (function_registers all f two.0 form.0) (each_function all fs two.1 form.1)

pub all_registers : (fs : List FlatFunc) → IsRegisterForm fs
    → IsTrue (list_all (λ f. are_registers (function_names f)) fs)
all_registers fs form =
    each_function fs fs (and_parts (names_differ fs) (list_all (is_well_formed_function fs) fs) form.0).1 form.1

each_below : (fs : List FlatFunc) → IsTrue (list_all (λ f. are_registers (function_names f)) fs)
    → IsTrue (list_all (λ f. are_below 32 (function_names f)) fs)
each_below [] h = refl
each_below (f ∷ fs) h =
    let two = and_parts (are_registers (function_names f)) (list_all (λ g. are_registers (function_names g)) fs) h in
    and_from (are_below 32 (function_names f)) (list_all (λ g. are_below 32 (function_names g)) fs)
    (registers_below (function_names f) two.0) (each_below fs two.1)

pub all_below : (fs : List FlatFunc) → IsRegisterForm fs → IsTrue (list_all (λ f. are_below 32 (function_names f)) fs)
all_below fs form = each_below fs (all_registers fs form)
