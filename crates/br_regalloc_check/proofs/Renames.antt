-- What is counted of statements with other names, and the names in them.
use Rattle.std.proofs.Common.{◌≡◌, ℕ, suc, ◌+◌, ◌<◌, ◌≤◌, max, IsTrue, true, nat_lt, List, []}
use Rattle.std.proofs.Common.{◌∷◌, ◌++◌, map, length, get_or, refl, sym, ap, subst, ◌∙◌, arith}
use Rattle.std.specs.Prelude.{slice_index, sum}
use Rattle.std.specs.List.{Contains, flat_map}
use Rattle.std.proofs.lemmas.Bool.{ltb-true}
use Rattle.std.proofs.lemmas.List.{length-map, map-append, map-id}
use Rattle.br_flatimp.specs.declared.program.Cond.TheVariants.{NonZero, Compare}
use Rattle.br_flatimp.specs.declared.program.Operand.TheVariants as operand
use Rattle.br_flatimp.specs.declared.program.FlatFunc.{FlatFunc}
use Rattle.br_flatimp.specs.declared.program.Stmt.{Stmt, map-Stmt}
use Rattle.br_flatimp.specs.declared.program.Stmt.TheOpen.{Stmt-F}
use Rattle.br_flatimp.specs.declared.program.Stmt.TheViews.{roll-Stmt}
use Rattle.br_flatimp.specs.declared.program.Stmt.TheFolds.{fold-Stmt, fold-roll-Stmt, ind-Stmt}
use Rattle.br_flatimp.specs.Parts.{written, read, parts, function_names, statement_names, gathered, own_callees}
use Rattle.br_flatimp.specs.Sizes.{own_units, units, largest, own_bytes, nest, own_words, function_bulk, KeptFunction}
use Rattle.br_flatimp.specs.Renaming.{renamed, renamed_step}
use Rattle.br_flatimp.specs.WellFormed.{are_below}
use Rattle.br_regalloc_check.specs.Assigned.{names_for, function_renamed}
use Rattle.br_regalloc_check.proofs.Below.{below-at, below-join, below-more}
use Rattle.br_regalloc_check.proofs.Checked.{NamesBelow}
use Rattle.br_regalloc_check.proofs.Lists.{and_both, both_and}

-- a fold of a statement with other names is one step over the folds of its parts
pub fold-renamed : {X : Type 0} (g : Stmt-F X → X) (to : ℕ → ℕ) (x : Stmt-F Stmt)
    → fold-Stmt X g (renamed to (roll-Stmt x))
    ≡ g (map-Stmt Stmt X (fold-Stmt X g) (renamed_step to (map-Stmt Stmt Stmt (renamed to) x)))
fold-renamed {X} g to x =
    ap (fold-Stmt X g) (fold-roll-Stmt Stmt (λ z. roll-Stmt (renamed_step to z)) x)
    ∙ fold-roll-Stmt X g (renamed_step to (map-Stmt Stmt Stmt (renamed to) x))

-- ---- folds that follow the names

abbrev pub Follows : {X : Type 0} → (X → X) → (Stmt-F X → X) → (ℕ → ℕ) → Type 0
Follows {X} h g to = (y : Stmt-F X) → h (g y) ≡ g (renamed_step to (map-Stmt X X h y))

abbrev Goes : {X : Type 0} → (X → X) → (Stmt-F X → X) → (ℕ → ℕ) → Stmt → Type 0
Goes {X} h g to c = h (fold-Stmt X g c) ≡ fold-Stmt X g (renamed to c)

abbrev Each : {X : Type 0} (h : X → X) (g : Stmt-F X → X) (to : ℕ → ℕ) → Type 0
Each h g to = (c : Stmt) × Goes h g to c

abbrev stmts : {X : Type 0} (h : X → X) (g : Stmt-F X → X) (to : ℕ → ℕ) → List (Each h g to) → List Stmt
stmts h g to cs = map (λ e. e.0) cs

all-go : {X : Type 0} (h : X → X) (g : Stmt-F X → X) (to : ℕ → ℕ) (cs : List (Each h g to))
    → map h (map (fold-Stmt X g) (stmts h g to cs)) ≡ map (fold-Stmt X g) (map (renamed to) (stmts h g to cs))
all-go h g to [] = refl
all-go {X} h g to (e ∷ cs) =
    ap (λ x. x ∷ map h (map (fold-Stmt X g) (stmts h g to cs))) e.1
    ∙ ap (λ xs. fold-Stmt X g (renamed to e.0) ∷ xs) (all-go h g to cs)

abbrev opened : {X : Type 0} (h : X → X) (g : Stmt-F X → X) (to : ℕ → ℕ) → Stmt-F (Each h g to) → Stmt-F Stmt
opened h g to y = map-Stmt (Each h g to) Stmt (λ e. e.0) y

layer-goes : {X : Type 0} (h : X → X) (g : Stmt-F X → X) (to : ℕ → ℕ) (y : Stmt-F (Each h g to))
    → map-Stmt X X h (map-Stmt Stmt X (fold-Stmt X g) (opened h g to y))
    ≡ map-Stmt Stmt X (fold-Stmt X g) (map-Stmt Stmt Stmt (renamed to) (opened h g to y))
layer-goes h g to (Stmt-F.Lit x n) = refl
layer-goes h g to (Stmt-F.Copy x y) = refl
layer-goes h g to (Stmt-F.Op x op y z) = refl
layer-goes h g to (Stmt-F.Load x size y offset) = refl
layer-goes h g to (Stmt-F.Store size y z offset) = refl
layer-goes h g to (Stmt-F.Table x size bytes y) = refl
layer-goes h g to (Stmt-F.Stackalloc x n body) = ap (λ b. Stmt-F.Stackalloc x n b) (all-go h g to body)
layer-goes {X} h g to (Stmt-F.If test first second) =
    ap (λ b. Stmt-F.If test b (map h (map (fold-Stmt X g) (stmts h g to second)))) (all-go h g to first)
    ∙ ap (λ b. Stmt-F.If test (map (fold-Stmt X g) (map (renamed to) (stmts h g to first))) b) (all-go h g to second)
layer-goes {X} h g to (Stmt-F.Loop first test last) =
    ap (λ b. Stmt-F.Loop b test (map h (map (fold-Stmt X g) (stmts h g to last)))) (all-go h g to first)
    ∙ ap (λ b. Stmt-F.Loop (map (fold-Stmt X g) (map (renamed to) (stmts h g to first))) test b) (all-go h g to last)
layer-goes h g to (Stmt-F.Call xs g2 ys) = refl
layer-goes h g to (Stmt-F.Read x y) = refl
layer-goes h g to (Stmt-F.Write y z) = refl

-- the parts of a statement with other names
step-parts : {X : Type 0} (g : Stmt-F X → X) (to : ℕ → ℕ) (y : Stmt-F Stmt)
    → map-Stmt Stmt X (fold-Stmt X g) (renamed_step to y) ≡ renamed_step to (map-Stmt Stmt X (fold-Stmt X g) y)
step-parts g to (Stmt-F.Lit x n) = refl
step-parts g to (Stmt-F.Copy x y) = refl
step-parts g to (Stmt-F.Op x op y z) = refl
step-parts g to (Stmt-F.Load x size y offset) = refl
step-parts g to (Stmt-F.Store size y z offset) = refl
step-parts g to (Stmt-F.Table x size bytes y) = refl
step-parts g to (Stmt-F.Stackalloc x n body) = refl
step-parts g to (Stmt-F.If test first second) = refl
step-parts g to (Stmt-F.Loop first test last) = refl
step-parts g to (Stmt-F.Call xs g2 ys) = refl
step-parts g to (Stmt-F.Read x y) = refl
step-parts g to (Stmt-F.Write y z) = refl

pub fold-follows : {X : Type 0} (h : X → X) (g : Stmt-F X → X) (to : ℕ → ℕ) → Follows h g to → (c : Stmt)
    → h (fold-Stmt X g c) ≡ fold-Stmt X g (renamed to c)
fold-follows {X} h g to follows = ind-Stmt (Goes h g to) (λ x y is.
    ap h (fold-roll-Stmt X g x)
    ∙ follows (map-Stmt Stmt X (fold-Stmt X g) x)
    ∙ ap (λ z. g (renamed_step to z)) (subst (λ z. map-Stmt X X h (map-Stmt Stmt X (fold-Stmt X g) z)
    ≡ map-Stmt Stmt X (fold-Stmt X g) (map-Stmt Stmt Stmt (renamed to) z)) is (layer-goes h g to y))
    ∙ ap g (sym (step-parts g to (map-Stmt Stmt Stmt (renamed to) x)))
    ∙ sym (fold-renamed g to x))

-- ---- names

abbrev names_step : Stmt-F (List ℕ) → List ℕ
names_step y = (written y ++ read y) ++ flat_map (flat_map (λ xs. xs)) (parts y)

flat-mapped : (to : ℕ → ℕ) (xss : List (List ℕ))
    → map to (flat_map (λ xs. xs) xss) ≡ flat_map (λ xs. xs) (map (map to) xss)
flat-mapped to [] = refl
flat-mapped to (xs ∷ xss) = map-append to xs (flat_map (λ ys. ys) xss) ∙ ap (λ zs. map to xs ++ zs) (flat-mapped to xss)

one-part : (to : ℕ → ℕ) (own : List ℕ) (a : List (List ℕ))
    → map to (own ++ (flat_map (λ xs. xs) a ++ [])) ≡ map to own ++ (flat_map (λ xs. xs) (map (map to) a) ++ [])
one-part to own a =
    map-append to own (flat_map (λ xs. xs) a ++ [])
    ∙ ap (λ zs. map to own ++ zs) (map-append to (flat_map (λ xs. xs) a) [] ∙ ap (λ zs. zs ++ []) (flat-mapped to a))

two-parts : (to : ℕ → ℕ) (own : List ℕ) (a b : List (List ℕ))
    → map to (own ++ (flat_map (λ xs. xs) a ++ (flat_map (λ xs. xs) b ++ [])))
    ≡ map to own ++ (flat_map (λ xs. xs) (map (map to) a) ++ (flat_map (λ xs. xs) (map (map to) b) ++ []))
two-parts to own a b =
    map-append to own (flat_map (λ xs. xs) a ++ (flat_map (λ xs. xs) b ++ []))
    ∙ ap (λ zs. map to own ++ zs)
    (map-append to (flat_map (λ xs. xs) a) (flat_map (λ xs. xs) b ++ [])
    ∙ ap (λ zs. zs ++ map to (flat_map (λ xs. xs) b ++ [])) (flat-mapped to a)
    ∙ ap (λ zs. flat_map (λ xs. xs) (map (map to) a) ++ zs)
    (map-append to (flat_map (λ xs. xs) b) [] ∙ ap (λ zs. zs ++ []) (flat-mapped to b)))

names-follow : (to : ℕ → ℕ) → Follows (map to) names_step to
names-follow to (Stmt-F.Lit x n) = refl
names-follow to (Stmt-F.Copy x y) = refl
names-follow to (Stmt-F.Op x op y (operand.Name z)) = refl
names-follow to (Stmt-F.Op x op y (operand.Const z)) = refl
names-follow to (Stmt-F.Load x size y offset) = refl
names-follow to (Stmt-F.Store size y z offset) = refl
names-follow to (Stmt-F.Table x size bytes y) = refl
names-follow to (Stmt-F.Stackalloc x n body) = one-part to (x ∷ []) body
names-follow to (Stmt-F.If (NonZero y) first second) = two-parts to (y ∷ []) first second
names-follow to (Stmt-F.If (Compare rel y z) first second) = two-parts to (y ∷ z ∷ []) first second
names-follow to (Stmt-F.Loop first (NonZero y) last) = two-parts to (y ∷ []) first last
names-follow to (Stmt-F.Loop first (Compare rel y z) last) = two-parts to (y ∷ z ∷ []) first last
names-follow to (Stmt-F.Call xs g ys) = map-append to (xs ++ ys) [] ∙ ap (λ zs. zs ++ []) (map-append to xs ys)
names-follow to (Stmt-F.Read x y) = refl
names-follow to (Stmt-F.Write y z) = refl

pub renamed-names : (to : ℕ → ℕ) (cs : List Stmt)
    → flat_map statement_names (map (renamed to) cs) ≡ map to (flat_map statement_names cs)
renamed-names to [] = refl
renamed-names to (c ∷ cs) =
    ap (λ zs. zs ++ flat_map statement_names (map (renamed to) cs))
    (sym (fold-follows (map to) names_step to (names-follow to) c))
    ∙ ap (λ zs. map to (statement_names c) ++ zs) (renamed-names to cs)
    ∙ sym (map-append to (statement_names c) (flat_map statement_names cs))

-- new names are below what all entries are below
pub new-below : (n : ℕ) (to : List ℕ) (xs : List ℕ) → IsTrue (are_below n to) → IsTrue (are_below (length to) xs)
    → IsTrue (are_below n (map (slice_index to) xs))
new-below n to [] few h = refl
new-below n to (x ∷ xs) few h =
    let both = and_both (nat_lt x (length to)) (are_below (length to) xs) h in
    let less : get_or to x 0 < n = below-at n to x 0 (ltb-true x (length to) both.0) few in
    both_and (nat_lt (slice_index to x) n) (are_below n (map (slice_index to) xs))
    (let sure : nat_lt (slice_index to x) n ≡ true = grind arith in sure) (new-below n to xs few both.1)

pub renamed-below : (n : ℕ) (f : FlatFunc) (to : List ℕ) → length to ≡ f.names → IsTrue (are_below n to)
    → NamesBelow f.names f → NamesBelow n (function_renamed (slice_index to) f)
renamed-below n f to count few all = record {
  args = new-below n to f.args few (subst (λ k. IsTrue (are_below k f.args)) (sym count) all.args);
  results = new-below n to f.results few (subst (λ k. IsTrue (are_below k f.results)) (sym count) all.results);
  body = subst (λ xs. IsTrue (are_below n xs)) (sym (renamed-names (slice_index to) f.body))
      (new-below n to (flat_map statement_names f.body) few
      (subst (λ k. IsTrue (are_below k (flat_map statement_names f.body))) (sym count) all.body));
}

-- ---- how many names a function needs

pub needs-few : (n : ℕ) (xs : List ℕ) → IsTrue (are_below n xs) → names_for xs ≤ n
needs-few n [] h = omega arith
needs-few n (x ∷ xs) h =
    let both = and_both (nat_lt x n) (are_below n xs) h in
    let less : x < n = ltb-true x n both.0 in
    let rest = needs-few n xs both.1 in
    omega (arith, less, rest)

pub needs-enough : (xs : List ℕ) → IsTrue (are_below (names_for xs) xs)
needs-enough [] = refl
needs-enough (x ∷ xs) =
    let n : ℕ = max (suc x) (names_for xs) in
    both_and (nat_lt x n) (are_below n xs)
    (let less : x < n = omega arith in let sure : nat_lt x n ≡ true = grind arith in sure)
    (below-more (names_for xs) n xs (let more : names_for xs < n + 1 = omega arith in more) (needs-enough xs))

-- ---- sizes

same_id : {X : Type 0} (y : Stmt-F X) → map-Stmt X X (λ x. x) y ≡ y
same_id (Stmt-F.Lit x n) = refl
same_id (Stmt-F.Copy x y) = refl
same_id (Stmt-F.Op x op y z) = refl
same_id (Stmt-F.Load x size y offset) = refl
same_id (Stmt-F.Store size y z offset) = refl
same_id (Stmt-F.Table x size bytes y) = refl
same_id (Stmt-F.Stackalloc x n body) = ap (λ b. Stmt-F.Stackalloc x n b) (map-id body)
same_id (Stmt-F.If test first second) =
    ap (λ b. Stmt-F.If test b (map (λ x. x) second)) (map-id first) ∙ ap (λ b. Stmt-F.If test first b) (map-id second)
same_id (Stmt-F.Loop first test last) =
    ap (λ b. Stmt-F.Loop b test (map (λ x. x) last)) (map-id first) ∙ ap (λ b. Stmt-F.Loop first test b) (map-id last)
same_id (Stmt-F.Call xs g ys) = refl
same_id (Stmt-F.Read x y) = refl
same_id (Stmt-F.Write y z) = refl

abbrev LooksAside : {X : Type 0} → (Stmt-F X → X) → Type 0
LooksAside {X} g = (to : ℕ → ℕ) (y : Stmt-F X) → g (renamed_step to y) ≡ g y

-- what does not look at names stays
folds-stay : {X : Type 0} (g : Stmt-F X → X) → LooksAside g → (to : ℕ → ℕ) (cs : List Stmt)
    → map (fold-Stmt X g) (map (renamed to) cs) ≡ map (fold-Stmt X g) cs
folds-stay g aside to [] = refl
folds-stay {X} g aside to (c ∷ cs) =
    let one : fold-Stmt X g c ≡ fold-Stmt X g (renamed to c) =
    fold-follows (λ x. x) g to (λ y. sym (aside to y) ∙ ap (λ z. g (renamed_step to z)) (sym (same_id y))) c in
    ap (λ x. x ∷ map (fold-Stmt X g) (map (renamed to) cs)) (sym one)
    ∙ ap (λ xs. fold-Stmt X g c ∷ xs) (folds-stay g aside to cs)

abbrev units_step : Stmt-F ℕ → ℕ
units_step y = own_units y + sum (map sum (parts y))

units-aside : LooksAside units_step
units-aside to (Stmt-F.Lit x n) = refl
units-aside to (Stmt-F.Copy x y) = refl
units-aside to (Stmt-F.Op x op y z) = refl
units-aside to (Stmt-F.Load x size y offset) = refl
units-aside to (Stmt-F.Store size y z offset) = refl
units-aside to (Stmt-F.Table x size bytes y) = refl
units-aside to (Stmt-F.Stackalloc x n body) = refl
units-aside to (Stmt-F.If test first second) = refl
units-aside to (Stmt-F.Loop first test last) = refl
units-aside to (Stmt-F.Call xs g ys) =
    ap (λ n. 1 + n + length (map to ys) + 0) (length-map xs to) ∙ ap (λ n. 1 + length xs + n + 0) (length-map ys to)
units-aside to (Stmt-F.Read x y) = refl
units-aside to (Stmt-F.Write y z) = refl

abbrev bulk_step : Stmt-F ℕ → ℕ
bulk_step y = own_words y + sum (map sum (parts y))

bulk-aside : LooksAside bulk_step
bulk-aside to (Stmt-F.Lit x n) = refl
bulk-aside to (Stmt-F.Copy x y) = refl
bulk-aside to (Stmt-F.Op x op y z) = refl
bulk-aside to (Stmt-F.Load x size y offset) = refl
bulk-aside to (Stmt-F.Store size y z offset) = refl
bulk-aside to (Stmt-F.Table x size bytes y) = refl
bulk-aside to (Stmt-F.Stackalloc x n body) = refl
bulk-aside to (Stmt-F.If test first second) = refl
bulk-aside to (Stmt-F.Loop first test last) = refl
bulk-aside to (Stmt-F.Call xs g ys) = refl
bulk-aside to (Stmt-F.Read x y) = refl
bulk-aside to (Stmt-F.Write y z) = refl

pub bulk-renamed : (to : ℕ → ℕ) (f : FlatFunc) → function_bulk (function_renamed to f) ≡ function_bulk f
bulk-renamed to f = ap (λ ns. 96 + sum ns) (folds-stay bulk_step bulk-aside to f.body)

abbrev nest_step : Stmt-F ℕ → ℕ
nest_step y = own_bytes y + largest (map largest (parts y))

nest-aside : LooksAside nest_step
nest-aside to (Stmt-F.Lit x n) = refl
nest-aside to (Stmt-F.Copy x y) = refl
nest-aside to (Stmt-F.Op x op y z) = refl
nest-aside to (Stmt-F.Load x size y offset) = refl
nest-aside to (Stmt-F.Store size y z offset) = refl
nest-aside to (Stmt-F.Table x size bytes y) = refl
nest-aside to (Stmt-F.Stackalloc x n body) = refl
nest-aside to (Stmt-F.If test first second) = refl
nest-aside to (Stmt-F.Loop first test last) = refl
nest-aside to (Stmt-F.Call xs g ys) = refl
nest-aside to (Stmt-F.Read x y) = refl
nest-aside to (Stmt-F.Write y z) = refl

abbrev callees_step : Stmt-F (List ℕ) → List ℕ
callees_step y = own_callees y ++ flat_map (flat_map (λ xs. xs)) (parts y)

callees-aside : LooksAside callees_step
callees-aside to (Stmt-F.Lit x n) = refl
callees-aside to (Stmt-F.Copy x y) = refl
callees-aside to (Stmt-F.Op x op y z) = refl
callees-aside to (Stmt-F.Load x size y offset) = refl
callees-aside to (Stmt-F.Store size y z offset) = refl
callees-aside to (Stmt-F.Table x size bytes y) = refl
callees-aside to (Stmt-F.Stackalloc x n body) = refl
callees-aside to (Stmt-F.If test first second) = refl
callees-aside to (Stmt-F.Loop first test last) = refl
callees-aside to (Stmt-F.Call xs g ys) = refl
callees-aside to (Stmt-F.Read x y) = refl
callees-aside to (Stmt-F.Write y z) = refl

gathered-all : (cs : List Stmt)
    → flat_map (gathered own_callees) cs ≡ flat_map (λ xs. xs) (map (gathered own_callees) cs)
gathered-all [] = refl
gathered-all (c ∷ cs) = ap (λ ys. gathered own_callees c ++ ys) (gathered-all cs)

callees-same : (to : ℕ → ℕ) (cs : List Stmt)
    → flat_map (gathered own_callees) (map (renamed to) cs) ≡ flat_map (gathered own_callees) cs
callees-same to cs =
    gathered-all (map (renamed to) cs) ∙ ap (flat_map (λ xs. xs)) (folds-stay callees_step callees-aside to cs)
    ∙ sym (gathered-all cs)

not_above : (a b : ℕ) → a ≡ b → a ≤ b
not_above a b e = omega (arith, e)

pub kept-renamed : (f : FlatFunc) (to : List ℕ) → length to ≡ f.names → IsTrue (are_below f.names to)
    → NamesBelow f.names f → KeptFunction (function_renamed (slice_index to) f) f
kept-renamed f to count few all =
    let q = function_renamed (slice_index to) f in
    let fine = renamed-below f.names f to count few all in
    record {
      name = refl;
      args = length-map f.args (slice_index to);
      results = length-map f.results (slice_index to);
      units = not_above (units q) (units f)
          (ap (λ n. 8 + n + length q.results + sum (map (fold-Stmt ℕ units_step) q.body))
          (length-map f.args (slice_index to))
          ∙ ap (λ n. 8 + length f.args + n + sum (map (fold-Stmt ℕ units_step) q.body))
          (length-map f.results (slice_index to))
          ∙ ap (λ ns. 8 + length f.args + length f.results + sum ns)
          (folds-stay units_step units-aside (slice_index to) f.body));
      names = needs-few f.names (function_names q) (below-join f.names (q.args ++ q.results)
          (flat_map statement_names q.body) (below-join f.names q.args q.results fine.args fine.results) fine.body);
      nest = not_above (nest q) (nest f) (ap largest (folds-stay nest_step nest-aside (slice_index to) f.body));
      callees = λ g h. subst (λ gs. Contains gs g) (callees-same (slice_index to) f.body) h;
    }

pub kept-same : (f : FlatFunc) → KeptFunction f f
kept-same f = record {
  name = refl;
  args = refl;
  results = refl;
  units = not_above (units f) (units f) refl;
  names = not_above f.names f.names refl;
  nest = not_above (nest f) (nest f) refl;
  callees = λ g h. h;
}
