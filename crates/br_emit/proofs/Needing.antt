-- What a function saves is within what it needs for itself.
use Rattle.std.proofs.Common.{◌≡◌, ◌≢◌, ℕ, zero, suc, ◌+◌, ◌<◌, ◌≤◌, ◌==◌, ◌&&◌, ◌||◌, not}
use Rattle.std.proofs.Common.{eqb, cond, if◌then◌else◌, Bool, true, false, List, [], ◌∷◌, ◌++◌}
use Rattle.std.proofs.Common.{map, length, filter, Some, refl, sym, ap, subst, ◌∙◌, arith}
use Rattle.std.specs.Prelude.{slice_get}
use Rattle.std.specs.List.{flat_map, list_any}
use Rattle.std.specs.Set.{is_member, unique_keys, distinct_count}
use Rattle.std.proofs.lemmas.Bool.Decides.{nat_tests}
use Rattle.br_flatimp.specs.declared.program.Stmt.{Stmt, map-Stmt, roll-Stmt}
use Rattle.br_flatimp.specs.declared.program.Stmt.TheOpen.{Stmt-F}
use Rattle.br_flatimp.specs.declared.program.Stmt.TheFolds.{fold-roll-Stmt, ind-Stmt}
use Rattle.br_flatimp.specs.declared.program.FlatFunc.{FlatFunc}
use Rattle.br_flatimp.specs.Parts.{written, read, parts, gathered, statement_names, function_names, callees}
use Rattle.br_flatimp.specs.Liveness.{is_in}
use Rattle.br_flatimp.specs.Runs.{Forgets}
use Rattle.br_flatimp.specs.Sizes.{nest, own_need}
use Rattle.br_emit.specs.Code.{count_up, written_names, changes, saves, touches, is_saved, framed_bytes}
use Rattle.br_emit.specs.Registers.{IsClosed}

-- ---- numbers that pass a test, and the different numbers of a list

-- 1 where a test holds
abbrev unit : Bool → ℕ
unit b = if b then 1 else 0

-- how many of the k numbers from a on pass a test
abbrev passing : (ℕ → Bool) → ℕ → ℕ → ℕ
passing p a zero = 0
passing p a (suc k) = unit (p a) + passing p (a + 1) k

filter_length : (p : ℕ → Bool) (a k : ℕ) → length (filter p (count_up a k)) ≡ passing p a k
filter_length p a zero = refl
filter_length p a (suc k) = by (p a) (filter_length p (a + 1) k)
  where
    by : (b : Bool) → length (filter p (count_up (a + 1) k)) ≡ passing p (a + 1) k → length (if b
        then a ∷ filter p (count_up (a + 1) k) else filter p (count_up (a + 1) k)) ≡ unit b + passing p (a + 1) k
    by true h = omega (arith, h)
    by false h = omega (arith, h)

-- the test but for one number
abbrev but : (ℕ → Bool) → ℕ → ℕ → Bool
but p x r = p r && not (x == r)

and_true : (b : Bool) → b ≡ (b && true)
and_true true = refl
and_true false = refl

all_above : (p : ℕ → Bool) (x a k : ℕ) → x < a → passing p a k ≡ passing (but p x) a k
all_above p x a zero low = refl
all_above p x a (suc k) low =
    let other : (x == a) ≡ false = grind (arith, nat_tests) in
    let here : p a ≡ but p x a = and_true (p a) ∙ ap (λ b. p a && not b) (sym other) in
    ap (λ b. unit b + passing p (a + 1) k) here
    ∙ ap (λ n. unit (but p x a) + n) (all_above p x (a + 1) k (omega (arith, low)))

small : (b : Bool) → unit b ≤ 1
small true = omega arith
small false = omega arith

one_less : (p : ℕ → Bool) (x a k : ℕ) → passing p a k ≤ 1 + passing (but p x) a k
one_less p x a zero = omega arith
one_less p x a (suc k) = by (x == a) refl (one_less p x (a + 1) k)
  where
    by : (b : Bool) → (x == a) ≡ b → passing p (a + 1) k ≤ 1 + passing (but p x) (a + 1) k
        → passing p a (suc k) ≤ 1 + passing (but p x) a (suc k)
    by true e again =
        let same : x ≡ a = grind (arith, nat_tests) in
        let rest = all_above p x (a + 1) k (omega (arith, same)) in
        let one : unit (p a) ≤ 1 = small (p a) in
        omega (arith, rest, one)
    by false e again =
        let here : p a ≡ but p x a = and_true (p a) ∙ ap (λ b. p a && not b) (sym e) in
        let counted : unit (p a) ≡ unit (but p x a) = ap unit here in
        omega (arith, again, counted)

none_pass : (p : ℕ → Bool) (a k : ℕ) → ((r : ℕ) → p r ≡ false) → passing p a k ≡ 0
none_pass p a zero h = refl
none_pass p a (suc k) h =
    let here : unit (p a) ≡ 0 = ap unit (h a) in
    let rest = none_pass p (a + 1) k h in
    omega (arith, here, rest)

eqb_swap : (x y : ℕ) → eqb x y ≡ (y == x)
eqb_swap x y = by (eqb x y) (y == x) refl refl
  where
    by : (a b : Bool) → eqb x y ≡ a → (y == x) ≡ b → a ≡ b
    by true true e f = refl
    by false false e f = refl
    by true false e f =
        let same : x ≡ y = grind (arith, nat_tests) in
        let other : y ≢ x = grind (arith, nat_tests) in
        absurd (other (sym same))
    by false true e f =
        let same : y ≡ x = grind (arith, nat_tests) in
        let other : x ≢ y = grind (arith, nat_tests) in
        absurd (other (sym same))

member_is : (xs : List ℕ) (x : ℕ) → is_member eqb xs x ≡ is_in xs x
member_is [] x = refl
member_is (y ∷ xs) x =
    ap (λ b. b || is_member eqb xs x) (eqb_swap x y) ∙ ap (λ b. (y == x) || b) (member_is xs x)

false_of : (b : Bool) → (b ≡ true → false ≡ true) → b ≡ false
false_of true h = sym (h refl)
false_of false h = refl

parts_of_and : (a b : Bool) → (a && b) ≡ true → (a ≡ true) × (b ≡ true)
parts_of_and true true h = (refl, refl)
parts_of_and true false h = absurd (cc)
parts_of_and false b h = absurd (cc)

pub few_passing : (xs : List ℕ) (p : ℕ → Bool) (a k : ℕ) → ((r : ℕ) → p r ≡ true → is_in xs r ≡ true)
    → passing p a k ≤ distinct_count eqb xs
few_passing [] p a k h = let none = none_pass p a k (λ r. false_of (p r) (h r)) in omega (arith, none)
few_passing (x ∷ xs) p a k h = by (is_member eqb xs x) refl (few_passing xs p a k) (few_passing xs (but p x) a k)
  where
    among : (r : ℕ) (b : Bool) → (x == r) ≡ b → (b || is_in xs r) ≡ true → is_in xs x ≡ true → is_in xs r ≡ true
    among r true e l there = let same : x ≡ r = grind (arith, nat_tests) in subst (λ q. is_in xs q ≡ true) same there
    among r false e l there = l

    apart : (r : ℕ) (b : Bool) → (x == r) ≡ b → (p r && not b) ≡ true → (b || is_in xs r) ≡ true → is_in xs r ≡ true
    apart r true e both l = let no = (parts_of_and (p r) false both).1 in absurd (cc)
    apart r false e both l = l

    by : (b : Bool) → is_member eqb xs x ≡ b
        → (((r : ℕ) → p r ≡ true → is_in xs r ≡ true) → passing p a k ≤ distinct_count eqb xs)
        → (((r : ℕ) → but p x r ≡ true → is_in xs r ≡ true) → passing (but p x) a k ≤ distinct_count eqb xs)
        → passing p a k ≤ length (cond b (unique_keys eqb xs) (x ∷ unique_keys eqb xs))
    by true e whole less = whole (λ r l. among r (x == r) refl (h r l) (sym (member_is xs x) ∙ e))
    by false e whole less =
        let one = one_less p x a k in
        let rest : passing (but p x) a k ≤ length (unique_keys eqb xs) =
        less (λ r l. apart r (x == r) refl l (h r (parts_of_and (p r) (not (x == r)) l).0)) in
        omega (arith, one, rest)

-- ---- the names that a function writes are among its names

pub in_left : (xs ys : List ℕ) (x : ℕ) → is_in xs x ≡ true → is_in (xs ++ ys) x ≡ true
in_left [] ys x h = absurd (cc)
in_left (y ∷ xs) ys x h = by (y == x) h (in_left xs ys x)
  where
    by : (t : Bool) → (t || is_in xs x) ≡ true → (is_in xs x ≡ true → is_in (xs ++ ys) x ≡ true)
        → (t || is_in (xs ++ ys) x) ≡ true
    by true h again = refl
    by false h again = again h

pub in_right : (xs ys : List ℕ) (x : ℕ) → is_in ys x ≡ true → is_in (xs ++ ys) x ≡ true
in_right [] ys x h = h
in_right (y ∷ xs) ys x h = by (y == x) (in_right xs ys x h)
  where
    by : (t : Bool) → is_in (xs ++ ys) x ≡ true → (t || is_in (xs ++ ys) x) ≡ true
    by true h = refl
    by false h = h

in_both : (xs ys xs' ys' : List ℕ) (x : ℕ) → (is_in xs x ≡ true → is_in xs' x ≡ true)
    → (is_in ys x ≡ true → is_in ys' x ≡ true) → is_in (xs ++ ys) x ≡ true → is_in (xs' ++ ys') x ≡ true
in_both [] ys xs' ys' x h k l = in_right xs' ys' x (k l)
in_both (y ∷ xs) ys xs' ys' x h k l = by (y == x) h l (λ g. in_both xs ys xs' ys' x g k)
  where
    by : (b : Bool) → ((b || is_in xs x) ≡ true → is_in xs' x ≡ true) → (b || is_in (xs ++ ys) x) ≡ true
        → ((is_in xs x ≡ true → is_in xs' x ≡ true) → is_in (xs ++ ys) x ≡ true → is_in (xs' ++ ys') x ≡ true)
        → is_in (xs' ++ ys') x ≡ true
    by true h l again = in_left xs' ys' x (h refl)
    by false h l again = again h l

abbrev own_names : Stmt-F (List ℕ) → List ℕ
own_names y = written y ++ read y

abbrev Claim : ℕ → Stmt → Type 0
Claim x st = is_in (gathered written st) x ≡ true → is_in (gathered own_names st) x ≡ true

each : (x : ℕ) (cs : List ((st : Stmt) × Claim x st))
    → is_in (flat_map (λ xs. xs) (map (gathered written) (map (λ e. e.0) cs))) x ≡ true
    → is_in (flat_map (λ xs. xs) (map (gathered own_names) (map (λ e. e.0) cs))) x ≡ true
each x [] h = h
each x (e ∷ cs) h =
    in_both (gathered written e.0) (flat_map (λ xs. xs) (map (gathered written) (map (λ e. e.0) cs)))
    (gathered own_names e.0) (flat_map (λ xs. xs) (map (gathered own_names) (map (λ e. e.0) cs))) x
    e.1 (each x cs) h

lists : (x : ℕ) (css : List (List ((st : Stmt) × Claim x st)))
    → is_in (flat_map (flat_map (λ xs. xs)) (map (map (gathered written)) (map (map (λ e. e.0)) css))) x ≡ true
    → is_in (flat_map (flat_map (λ xs. xs)) (map (map (gathered own_names)) (map (map (λ e. e.0)) css))) x ≡ true
lists x [] h = h
lists x (cs ∷ css) h =
    in_both (flat_map (λ xs. xs) (map (gathered written) (map (λ e. e.0) cs)))
    (flat_map (flat_map (λ xs. xs)) (map (map (gathered written)) (map (map (λ e. e.0)) css)))
    (flat_map (λ xs. xs) (map (gathered own_names) (map (λ e. e.0) cs)))
    (flat_map (flat_map (λ xs. xs)) (map (map (gathered own_names)) (map (map (λ e. e.0)) css))) x
    (each x cs) (lists x css) h

-- what a layer says of itself does not look into its parts
record SameLayer {A B : Type 0} (f : A → B) (y : Stmt-F A) : Type 0 where
  writing : written (map-Stmt A B f y) ≡ written y
  reading : read (map-Stmt A B f y) ≡ read y
  inner : parts (map-Stmt A B f y) ≡ map (map f) (parts y)

same_layer : {A B : Type 0} (f : A → B) (y : Stmt-F A) → SameLayer f y
same_layer f (Stmt-F.Lit x n) = record { writing = refl; reading = refl; inner = refl }
same_layer f (Stmt-F.Copy x y) = record { writing = refl; reading = refl; inner = refl }
same_layer f (Stmt-F.Op x o y z) = record { writing = refl; reading = refl; inner = refl }
same_layer f (Stmt-F.Load x size y offset) = record { writing = refl; reading = refl; inner = refl }
same_layer f (Stmt-F.Store size y z offset) = record { writing = refl; reading = refl; inner = refl }
same_layer f (Stmt-F.Table x size bytes y) = record { writing = refl; reading = refl; inner = refl }
same_layer f (Stmt-F.Stackalloc x n body) = record { writing = refl; reading = refl; inner = refl }
same_layer f (Stmt-F.If test first second) = record { writing = refl; reading = refl; inner = refl }
same_layer f (Stmt-F.Loop first test last) = record { writing = refl; reading = refl; inner = refl }
same_layer f (Stmt-F.Call xs g ys) = record { writing = refl; reading = refl; inner = refl }
same_layer f (Stmt-F.Read x y) = record { writing = refl; reading = refl; inner = refl }
same_layer f (Stmt-F.Write y z) = record { writing = refl; reading = refl; inner = refl }

statement_written : (x : ℕ) (st : Stmt) → Claim x st
statement_written x = ind-Stmt (Claim x) (λ st y is. subst (λ z. Claim x (roll-Stmt z)) is (layer y))
  where
    layer : (y : Stmt-F ((st : Stmt) × Claim x st))
        → Claim x (roll-Stmt (map-Stmt ((st : Stmt) × Claim x st) Stmt (λ e. e.0) y))
    layer y h =
        let z = map-Stmt ((st : Stmt) × Claim x st) Stmt (λ e. e.0) y in
        let ps = (same_layer (λ e. e.0) y).inner in
        let names_of : (own : Stmt-F (List ℕ) → List ℕ)
        → gathered own (roll-Stmt z) ≡ own (map-Stmt Stmt (List ℕ) (gathered own) z)
        ++ flat_map (flat_map (λ xs. xs)) (map (map (gathered own)) (map (map (λ e. e.0)) (parts y))) =
        λ own. fold-roll-Stmt (List ℕ) (λ y. own y ++ flat_map (flat_map (λ xs. xs)) (parts y)) z
        ∙ ap (λ q. own (map-Stmt Stmt (List ℕ) (gathered own) z) ++ flat_map (flat_map (λ xs. xs)) q)
        ((same_layer (gathered own) z).inner ∙ ap (map (map (gathered own))) ps) in
        let w1 : written (map-Stmt Stmt (List ℕ) (gathered written) z) ≡ written z =
        (same_layer (gathered written) z).writing in
        let w2 : own_names (map-Stmt Stmt (List ℕ) (gathered own_names) z) ≡ written z ++ read z =
        ap (λ q. q ++ read (map-Stmt Stmt (List ℕ) (gathered own_names) z)) (same_layer (gathered own_names) z).writing
        ∙ ap (λ q. written z ++ q) (same_layer (gathered own_names) z).reading in
        let inner1 = flat_map (flat_map (λ xs. xs)) (map (map (gathered written)) (map (map (λ e. e.0)) (parts y))) in
        let inner2 = flat_map (flat_map (λ xs. xs)) (map (map (gathered own_names)) (map (map (λ e. e.0)) (parts y))) in
        let before = subst (λ q. is_in q x ≡ true) (names_of written ∙ ap (λ q. q ++ inner1) w1) h in
        subst (λ q. is_in q x ≡ true) (sym (names_of own_names ∙ ap (λ q. q ++ inner2) w2))
        (in_both (written z) inner1 (written z ++ read z) inner2 x (λ l. in_left (written z) (read z) x l)
        (lists x (parts y)) before)

pub body_written : (x : ℕ) (body : List Stmt) → is_in (flat_map (gathered written) body) x ≡ true
    → is_in (flat_map statement_names body) x ≡ true
body_written x [] h = h
body_written x (st ∷ body) h =
    in_both (gathered written st) (flat_map (gathered written) body) (statement_names st)
    (flat_map statement_names body) x (statement_written x st) (body_written x body) h

-- ---- what a function saves is among its names

some_one : (p : ℕ → Bool) (gs : List ℕ) → list_any p gs ≡ true → (g : ℕ) × (is_in gs g ≡ true) × (p g ≡ true)
some_one p [] h = absurd (cc)
some_one p (g ∷ gs) h = by (p g) refl h (some_one p gs)
  where
    by : (b : Bool) → p g ≡ b → (b || list_any p gs) ≡ true → (list_any p gs ≡ true
        → (k : ℕ) × (is_in gs k ≡ true) × (p k ≡ true)) → (k : ℕ) × (is_in (g ∷ gs) k ≡ true) × (p k ≡ true)
    by true e h again = let same : (g == g) ≡ true = grind (arith, nat_tests) in (g, ap (λ b. b || is_in gs g) same, e)
    by false e h again = let found = again h in (found.0, in_right (g ∷ []) gs found.0 found.1, found.2)

saved_in : (forgets : Forgets) (fs : List FlatFunc) (n : ℕ) (f : FlatFunc) (x : ℕ) → IsClosed forgets fs
    → slice_get fs n ≡ Some f → is_saved forgets n f x ≡ true → is_in (function_names f) x ≡ true
saved_in forgets fs n f x closed there h =
    let h1 = parts_of_and (changes forgets f x && not (is_in f.results x)) (not (forgets n x)) h in
    let h2 = (parts_of_and (changes forgets f x) (not (is_in f.results x)) h1.0).0 in
    by (is_in (written_names f) x) refl (forgets n x) refl h2 h1.1
  where
    by : (w : Bool) → is_in (written_names f) x ≡ w → (k : Bool) → forgets n x ≡ k
        → (w || list_any (λ g. forgets g x) (callees f)) ≡ true → not k ≡ true → is_in (function_names f) x ≡ true
    by true writes k e any kept =
        in_right (f.args ++ f.results) (flat_map statement_names f.body) x (body_written x f.body writes)
    by false writes true e any kept = absurd (cc)
    by false writes false e any kept =
        let found = some_one (λ g. forgets g x) (callees f) any in
        let owned = closed n f there found.0 found.1 x found.2 in
        sym (ap (λ b. b || is_in (function_names f) x) e) ∙ owned

-- the frame of a function and its buffers are no more than what it needs for itself
pub own_need_is_enough : (near : Bool) (forgets : Forgets) (fs : List FlatFunc) (n : ℕ) (f : FlatFunc)
    → IsClosed forgets fs → slice_get fs n ≡ Some f → framed_bytes near forgets n f + nest f ≤ own_need f
own_need_is_enough near forgets fs n f closed there =
    let counted = filter_length (is_saved forgets n f) 3 29 in
    let few = few_passing (function_names f) (is_saved forgets n f) 3 29
    (λ x h. saved_in forgets fs n f x closed there h) in
    let more = one_more (touches near forgets f 1) (saves forgets n f) in
    omega (arith, counted, few, more)
  where
    one_more : (t : Bool) (rs : List ℕ) → length (if t then 1 ∷ rs else rs) ≤ 1 + length rs
    one_more true rs = omega arith
    one_more false rs = omega arith
