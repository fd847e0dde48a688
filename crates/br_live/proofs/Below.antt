-- The names in well formed statements are below the count of names.
use Rattle.std.proofs.Common.{◌≡◌, ℕ, Bool, true, false, ◌&&◌, List, [], ◌∷◌, ◌++◌, map}
use Rattle.std.proofs.Common.{length, nat_le, nat_lt, refl, sym, subst, ◌∙◌, IsTrue}
use Rattle.std.specs.List.{flat_map, list_all}
use Rattle.br_flatimp.specs.declared.program.Stmt.{Stmt, map-Stmt}
use Rattle.br_flatimp.specs.declared.program.Stmt.TheOpen.{Stmt-F}
use Rattle.br_flatimp.specs.declared.program.Stmt.TheViews.{roll-Stmt}
use Rattle.br_flatimp.specs.declared.program.Stmt.TheFolds.{fold-roll-Stmt, ind-Stmt}
use Rattle.br_flatimp.specs.declared.program.FlatFunc.{FlatFunc}
use Rattle.br_flatimp.specs.Parts.{written, read, parts, test_names, operand_names, statement_names, function_names}
use Rattle.br_flatimp.specs.WellFormed.{are_below, all_differ, values_fit, fits, is_well_formed_statement}
use Rattle.br_flatimp.specs.WellFormed.{is_list_of_names, is_well_formed_head, is_well_formed_function}

and-first : (a b : Bool) → (a && b) ≡ true → a ≡ true
and-first true b e = refl
and-first false b e = absurd (cc e)

and-second : (a b : Bool) → (a && b) ≡ true → b ≡ true
and-second true b e = e
and-second false b e = absurd (cc e)

below-both : (n : ℕ) (xs ys : List ℕ) → are_below n xs ≡ true → are_below n ys ≡ true → are_below n (xs ++ ys) ≡ true
below-both n [] ys h k = k
below-both n (x ∷ xs) ys h k =
    let rest = below-both n xs ys (and-second (nat_lt x n) (are_below n xs) h) k in
    rw (and-first (nat_lt x n) (are_below n xs) h, rest) refl

-- what a statement writes and reads itself, and then the names in its parts
own-below : (n : ℕ) (w r rest : List ℕ) (v p : Bool) → (((are_below n w && are_below n r) && v) && p) ≡ true
    → (p ≡ true → are_below n rest ≡ true) → are_below n ((w ++ r) ++ rest) ≡ true
own-below n w r rest v p h inner =
    let own = and-first ((are_below n w && are_below n r) && v) p h in
    let two = and-first (are_below n w && are_below n r) v own in
    below-both n (w ++ r) rest
    (below-both n w r (and-first (are_below n w) (are_below n r) two) (and-second (are_below n w) (are_below n r) two))
    (inner (and-second ((are_below n w && are_below n r) && v) p h))

abbrev Below : List FlatFunc → ℕ → Stmt → Type 0
Below fs n c = is_well_formed_statement fs n c ≡ true → are_below n (statement_names c) ≡ true

abbrev Known : List FlatFunc → ℕ → Type 0
Known fs n = (c : Stmt) × Below fs n c

abbrev stmts : (fs : List FlatFunc) (n : ℕ) → List (Known fs n) → List Stmt
stmts fs n cs = map (λ e. e.0) cs

all-below : (fs : List FlatFunc) (n : ℕ) (cs : List (Known fs n))
    → list_all (λ ok. ok) (map (is_well_formed_statement fs n) (stmts fs n cs)) ≡ true
    → are_below n (flat_map (λ xs. xs) (map statement_names (stmts fs n cs))) ≡ true
all-below fs n [] h = refl
all-below fs n (e ∷ cs) h =
    let one = is_well_formed_statement fs n e.0 in
    let rest = list_all (λ ok. ok) (map (is_well_formed_statement fs n) (stmts fs n cs)) in
    below-both n (statement_names e.0) (flat_map (λ xs. xs) (map statement_names (stmts fs n cs)))
    (e.1 (and-first one rest h)) (all-below fs n cs (and-second one rest h))

abbrev opened : (fs : List FlatFunc) (n : ℕ) → Stmt-F (Known fs n) → Stmt-F Stmt
opened fs n y = map-Stmt (Known fs n) Stmt (λ e. e.0) y

abbrev fits_step : List FlatFunc → ℕ → Stmt-F Bool → Bool
fits_step fs n y = fits fs n y && list_all (list_all (λ ok. ok)) (parts y)

abbrev names_step : Stmt-F (List ℕ) → List ℕ
names_step y = (written y ++ read y) ++ flat_map (flat_map (λ xs. xs)) (parts y)

abbrev LayerBelow : List FlatFunc → ℕ → Stmt-F Stmt → Type 0
LayerBelow fs n z =
    fits_step fs n (map-Stmt Stmt Bool (is_well_formed_statement fs n) z) ≡ true
    → are_below n (names_step (map-Stmt Stmt (List ℕ) statement_names z)) ≡ true

simple-below : {X : Type 0} (fs : List FlatFunc) (n : ℕ) (y : Stmt-F X) → (fits fs n y && true) ≡ true
    → are_below n ((written y ++ read y) ++ []) ≡ true
simple-below fs n y h = own-below n (written y) (read y) [] (values_fit fs y) true h (λ e. refl)

-- the names of one part, and of two
one-part : (n : ℕ) (xs : List ℕ) (p : Bool) → (p ≡ true → are_below n xs ≡ true) → (p && true) ≡ true
    → are_below n (xs ++ []) ≡ true
one-part n xs p below h = below-both n xs [] (below (and-first p true h)) refl

two-parts : (n : ℕ) (xs ys : List ℕ) (p q : Bool) → (p ≡ true → are_below n xs ≡ true)
    → (q ≡ true → are_below n ys ≡ true) → (p && (q && true)) ≡ true → are_below n (xs ++ (ys ++ [])) ≡ true
two-parts n xs ys p q below more h =
    below-both n xs (ys ++ []) (below (and-first p (q && true) h)) (one-part n ys q more (and-second p (q && true) h))

abbrev formed : (fs : List FlatFunc) (n : ℕ) → List (Known fs n) → Bool
formed fs n cs = list_all (λ ok. ok) (map (is_well_formed_statement fs n) (stmts fs n cs))

abbrev names_in : (fs : List FlatFunc) (n : ℕ) → List (Known fs n) → List ℕ
names_in fs n cs = flat_map (λ xs. xs) (map statement_names (stmts fs n cs))

layer-below : (fs : List FlatFunc) (n : ℕ) (y : Stmt-F (Known fs n)) → LayerBelow fs n (opened fs n y)
layer-below fs n (Stmt-F.Lit x v) h = simple-below {X = Bool} fs n (Stmt-F.Lit x v) h
layer-below fs n (Stmt-F.Copy x y) h = simple-below {X = Bool} fs n (Stmt-F.Copy x y) h
layer-below fs n (Stmt-F.Op x op y z) h = simple-below {X = Bool} fs n (Stmt-F.Op x op y z) h
layer-below fs n (Stmt-F.Load x size y offset) h = simple-below {X = Bool} fs n (Stmt-F.Load x size y offset) h
layer-below fs n (Stmt-F.Store size y z offset) h = simple-below {X = Bool} fs n (Stmt-F.Store size y z offset) h
layer-below fs n (Stmt-F.Table x size bytes y) h = simple-below {X = Bool} fs n (Stmt-F.Table x size bytes y) h
layer-below fs n (Stmt-F.Call xs g ys) h = simple-below {X = Bool} fs n (Stmt-F.Call xs g ys) h
layer-below fs n (Stmt-F.Read x y) h = simple-below {X = Bool} fs n (Stmt-F.Read x y) h
layer-below fs n (Stmt-F.Write y z) h = simple-below {X = Bool} fs n (Stmt-F.Write y z) h
layer-below fs n (Stmt-F.Stackalloc x k body) h =
    own-below n (x ∷ []) [] (names_in fs n body ++ []) (values_fit {X = Bool} fs (Stmt-F.Stackalloc x k []))
    (formed fs n body && true) h
    (one-part n (names_in fs n body) (formed fs n body) (all-below fs n body))
layer-below fs n (Stmt-F.If test first second) h =
    own-below n [] (test_names test) (names_in fs n first ++ (names_in fs n second ++ [])) true
    (formed fs n first && (formed fs n second && true)) h
    (two-parts n (names_in fs n first) (names_in fs n second) (formed fs n first) (formed fs n second)
    (all-below fs n first) (all-below fs n second))
layer-below fs n (Stmt-F.Loop first test last) h =
    own-below n [] (test_names test) (names_in fs n first ++ (names_in fs n last ++ [])) true
    (formed fs n first && (formed fs n last && true)) h
    (two-parts n (names_in fs n first) (names_in fs n last) (formed fs n first) (formed fs n last)
    (all-below fs n first) (all-below fs n last))

pub below-statement : (fs : List FlatFunc) (n : ℕ) (c : Stmt) → Below fs n c
below-statement fs n = ind-Stmt (Below fs n) (λ x y is h.
    subst (λ xs. are_below n xs ≡ true) (sym (fold-roll-Stmt (List ℕ) names_step x))
    (subst (LayerBelow fs n) is (layer-below fs n y) (sym (fold-roll-Stmt Bool (fits_step fs n) x) ∙ h)))

pub below-statements : (fs : List FlatFunc) (n : ℕ) (cs : List Stmt)
    → list_all (is_well_formed_statement fs n) cs ≡ true → are_below n (flat_map statement_names cs) ≡ true
below-statements fs n [] h = refl
below-statements fs n (c ∷ cs) h =
    let one = is_well_formed_statement fs n c in
    let rest = list_all (is_well_formed_statement fs n) cs in
    below-both n (statement_names c) (flat_map statement_names cs) (below-statement fs n c (and-first one rest h))
    (below-statements fs n cs (and-second one rest h))

head-below : (n : ℕ) (xs : List ℕ) → is_list_of_names n xs ≡ true → are_below n xs ≡ true
head-below n xs h = and-second (nat_le (length xs) 8) (are_below n xs)
    (and-first (nat_le (length xs) 8 && are_below n xs) (all_differ xs) h)

pub below-function : (fs : List FlatFunc) (f : FlatFunc) → IsTrue (is_well_formed_function fs f)
    → IsTrue (are_below f.names (function_names f))
below-function fs f h =
    let n : ℕ = f.names in
    let body = list_all (is_well_formed_statement fs n) f.body in
    let head = and-first (is_well_formed_head f) body h in
    let first = and-first (nat_le n 1048576 && is_list_of_names n f.args) (is_list_of_names n f.results) head in
    below-both n (f.args ++ f.results) (flat_map statement_names f.body)
    (below-both n f.args f.results
    (head-below n f.args (and-second (nat_le n 1048576) (is_list_of_names n f.args) first))
    (head-below n f.results
    (and-second (nat_le n 1048576 && is_list_of_names n f.args) (is_list_of_names n f.results) head)))
    (below-statements fs n f.body (and-second (is_well_formed_head f) body h))
