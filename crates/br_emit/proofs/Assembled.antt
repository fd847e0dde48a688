-- A program in register form whose code is its items one after another is laid as the laws of entries ask.
use Rattle.std.proofs.Common.{◌≡◌, ℕ, zero, suc, ◌+◌, ◌-◌, ◌*◌, ◌%◌, ◌<◌, ◌≤◌, ◌==◌, ◌&&◌, ◌||◌, not, nat_le}
use Rattle.std.proofs.Common.{nat_lt, if◌then◌else◌, max, List, [], ◌∷◌, ◌++◌, map, length, sum, Option, Some, Bool}
use Rattle.std.proofs.Common.{true, false, IsTrue, refl, sym, ap, subst, ◌∙◌, arith, append_assoc, length-append}
use Rattle.std.specs.Prelude.{slice_get, IfSome}
use Rattle.br_words.specs.Words.{IsWord}
use Rattle.std.specs.List.{list_all, list_any, flat_map}
use Rattle.std.proofs.lemmas.Bool.Decides.{nat_tests}
use Rattle.br_flatimp.specs.declared.program.Stmt.{Stmt, map-Stmt, roll-Stmt}
use Rattle.br_flatimp.specs.declared.program.Stmt.TheOpen.{Stmt-F}
use Rattle.br_flatimp.specs.declared.program.Stmt.TheFolds.{fold-roll-Stmt, ind-Stmt}
use Rattle.br_flatimp.specs.declared.program.FlatFunc.{FlatFunc}
use Rattle.br_flatimp.specs.Parts.{written, read, parts, throughout, gathered, own_callees, callees}
use Rattle.br_flatimp.specs.Liveness.{is_in}
use Rattle.br_flatimp.specs.WellFormed.{is_passing, is_well_formed_function, is_register_function}
use Rattle.br_flatimp.specs.WellFormed.{is_well_formed_head, is_well_formed_statement, names_differ}
use Rattle.br_flatimp.specs.WellFormed.{is_list_of_names, are_below, all_differ, fits, values_fit, uses_registers}
use Rattle.br_flatimp.specs.Sizes.{own_bytes, statement_nest, nest, largest, function_bulk, flat_bulk}
use Rattle.br_flatimp.specs.Runs.{Forgets, call_forgetting}
use Rattle.br_bytes.specs.Memory.{Memory}
use Rattle.br_bytes.specs.Buffers.{AreWords}
use Rattle.br_machine.specs.Start.{Leftover, IsLeftover, IsInData}
use Rattle.br_machine.specs.State.{MachineState, IsMachine}
use Rattle.br_machine.specs.Step.{step}
use Rattle.br_emit.specs.Code.{Item, item_word, words_at, entry_place, AllFit, Targets, written_names}
use Rattle.br_emit.specs.Code.{changes, keeps_link, links, touches, is_called, framed_bytes, callable_items}
use Rattle.br_emit.specs.Code.{entry_items, direct_items, function_items, program_items, places}
use Rattle.br_emit.specs.Laid.{Placed, is_fine, may_call, Function, Laid, callee_need, IsCodeOf, EntryShown}
use Rattle.br_emit.proofs.Stepping.{Table}
use Rattle.br_emit.proofs.Pieces.{placed-front, placed-back}
use Rattle.br_emit.proofs.Leaves.{both}
use Rattle.br_emit.proofs.Statements.{sum_cons}
use Rattle.br_emit.proofs.Entries.{world, direct_shown, called_shown}

-- ---- code

get_after : {X : Type 0} (xs ys : List X) (i : ℕ) → slice_get (xs ++ ys) (length xs + i) ≡ slice_get ys i
get_after [] ys i = let same : 0 + i ≡ i = omega arith in ap (slice_get ys) same
get_after (x ∷ xs) ys i = let same : suc (length xs) + i ≡ suc (length xs + i) = omega arith in
    ap (slice_get (x ∷ (xs ++ ys))) same ∙ get_after xs ys i

placed_from : (before : List ℕ) (items : List Item) → AllFit items
    → Placed (before ++ words_at (length before) items) (length before) items
placed_from before [] fit = tt
placed_from before (i ∷ items) fit =
    let n = length before in
    let here : n ≡ n + 0 = omega arith in
    let more = before ++ item_word n i ∷ [] in
    let size : length more ≡ n + 1 = length-append before (item_word n i ∷ []) in
    let whole : more ++ words_at (length more) items ≡ before ++ words_at n (i ∷ items) =
    ap (λ q. more ++ words_at q items) size ∙ append_assoc before (item_word n i ∷ []) (words_at (n + 1) items) in (
      ap (slice_get (before ++ words_at n (i ∷ items))) here ∙ get_after before (words_at n (i ∷ items)) 0,
      fit.0,
      subst (λ q. Placed (before ++ words_at n (i ∷ items)) q items) size
          (subst (λ c. Placed c (length more) items) whole (placed_from more items fit.1)),
    )

pub all_placed : (code : List ℕ) (items : List Item) → code ≡ words_at 0 items → AllFit items → Placed code 0 items
all_placed code items is fit = subst (λ c. Placed c 0 items) (sym is) (placed_from [] items fit)

-- the code of each function
pub function_placed : (code : List ℕ) (targets : Targets) (forgets : Forgets) (fs : List FlatFunc) (place n : ℕ)
    (rest : List FlatFunc) → Placed code place (program_items targets forgets fs n rest)
    → (k at : ℕ) (f : FlatFunc) → slice_get rest k ≡ Some f → slice_get (places targets forgets fs place n rest) k
    ≡ Some at → Placed code at (function_items targets forgets fs (n + k) f)
function_placed code targets forgets fs place n [] placed k at f is there = absurd (cc)
function_placed code targets forgets fs place n (g ∷ rest) placed zero at f is there =
    let same : g ≡ f = cc in
    let here : place ≡ at = cc in
    let number : n ≡ n + 0 = omega arith in
    subst (λ h. Placed code at (function_items targets forgets fs (n + 0) h)) same
    (subst (λ q. Placed code q (function_items targets forgets fs (n + 0) g)) here
    (subst (λ q. Placed code place (function_items targets forgets fs q g)) number
    (placed-front code place (function_items targets forgets fs n g)
    (program_items targets forgets fs (n + 1) rest) placed)))
function_placed code targets forgets fs place n (g ∷ rest) placed (suc k) at f is there =
    let number : n + 1 + k ≡ n + suc k = omega arith in
    subst (λ q. Placed code at (function_items targets forgets fs q f)) number
    (function_placed code targets forgets fs (place + length (function_items targets forgets fs n g)) (n + 1) rest
    (placed-back code place (function_items targets forgets fs n g) (program_items targets forgets fs (n + 1) rest)
    placed) k at f is there)

-- each function has a place
place_of : (targets : Targets) (forgets : Forgets) (fs : List FlatFunc) (place n : ℕ) (rest : List FlatFunc) (k : ℕ)
    (f : FlatFunc) → slice_get rest k ≡ Some f
    → (at : ℕ) × (slice_get (places targets forgets fs place n rest) k ≡ Some at)
place_of targets forgets fs place n [] k f is = absurd (cc)
place_of targets forgets fs place n (g ∷ rest) zero f is = (place, refl)
place_of targets forgets fs place n (g ∷ rest) (suc k) f is =
    place_of targets forgets fs (place + length (function_items targets forgets fs n g)) (n + 1) rest k f is

-- ---- lists

pub one_of : {X : Type 0} (p : X → Bool) (xs : List X) (n : ℕ) (x : X) → IsTrue (list_all p xs)
    → slice_get xs n ≡ Some x → IsTrue (p x)
one_of p [] n x h is = absurd (cc)
one_of p (y ∷ ys) zero x h is = let same : y ≡ x = cc in subst (λ q. IsTrue (p q)) same (both (p y) (list_all p ys) h).0
one_of p (y ∷ ys) (suc n) x h is = one_of p ys n x (both (p y) (list_all p ys) h).1 is

and_of : (a b : Bool) → IsTrue a → IsTrue b → IsTrue (a && b)
and_of true b h k = k
and_of false b h k = absurd (cc)

less_than_largest : (need : ℕ → ℕ) (xs : List ℕ) (g : ℕ) → is_in xs g ≡ true → need g ≤ largest (map need xs)
less_than_largest need [] g is = absurd (cc)
less_than_largest need (x ∷ xs) g is = by (x == g) refl is (λ h. less_than_largest need xs g h)
  where
    by : (t : Bool) → (x == g) ≡ t → (t || is_in xs g) ≡ true → (is_in xs g ≡ true → need g ≤ largest (map need xs))
        → need g ≤ max (need x) (largest (map need xs))
    by true e is again =
        let same : x ≡ g = grind (arith, nat_tests) in
        let equal : need x ≡ need g = ap need same in
        omega arith
    by false e is again = let less = again is in omega arith

within_sum : {X : Type 0} (size : X → ℕ) (xs : List X) (n : ℕ) (x : X) → slice_get xs n ≡ Some x
    → size x ≤ sum (map size xs)
within_sum size [] n x is = absurd (cc)
within_sum size (y ∷ ys) zero x is =
    let same : y ≡ x = cc in
    let equal : size y ≡ size x = ap size same in
    let added = sum_cons (size y) (map size ys) in
    omega arith
within_sum size (y ∷ ys) (suc n) x is =
    let added = sum_cons (size y) (map size ys) in
    let rest = within_sum size ys n x is in
    omega arith

pub some_of : {X : Type 0} (p : X → Bool) (xs : List X) (n : ℕ) (x : X) → slice_get xs n ≡ Some x → p x ≡ true
    → list_any p xs ≡ true
some_of p [] n x is holds = absurd (cc)
some_of p (y ∷ ys) zero x is holds = let same : y ≡ x = cc in first (p y) (list_any p ys) (ap p same ∙ holds)
  where
    first : (a b : Bool) → a ≡ true → (a || b) ≡ true
    first true b e = refl
    first false b e = absurd (cc)
some_of p (y ∷ ys) (suc n) x is holds = later (p y) (list_any p ys) (some_of p ys n x is holds)
  where
    later : (a b : Bool) → b ≡ true → (a || b) ≡ true
    later true b e = refl
    later false b e = e

-- ---- what holds throughout a statement

parts_map : {A B : Type 0} (f : A → B) (y : Stmt-F A) → parts (map-Stmt A B f y) ≡ map (map f) (parts y)
parts_map f (Stmt-F.Lit x n) = refl
parts_map f (Stmt-F.Copy x y) = refl
parts_map f (Stmt-F.Op x o y z) = refl
parts_map f (Stmt-F.Load x size y offset) = refl
parts_map f (Stmt-F.Store size y z offset) = refl
parts_map f (Stmt-F.Table x size bytes y) = refl
parts_map f (Stmt-F.Stackalloc x n body) = refl
parts_map f (Stmt-F.If test first second) = refl
parts_map f (Stmt-F.Loop first test last) = refl
parts_map f (Stmt-F.Call xs g ys) = refl
parts_map f (Stmt-F.Read x y) = refl
parts_map f (Stmt-F.Write y z) = refl

-- a statement that changes x1 only where it may
abbrev keeps : {X : Type 0} → (ℕ → Bool) → Stmt-F X → Bool
keeps touched y = touched 1 || keeps_link y

-- what a layer says of itself does not look into its parts
record SameLayer {A B : Type 0} (fs : List FlatFunc) (names : ℕ) (touched called : ℕ → Bool) (f : A → B)
    (y : Stmt-F A) : Type 0 where
  fitting : fits fs names (map-Stmt A B f y) ≡ fits fs names y
  using : uses_registers (map-Stmt A B f y) ≡ uses_registers y
  fine : is_fine fs touched called (map-Stmt A B f y) ≡ is_fine fs touched called y
  keeping : keeps touched (map-Stmt A B f y) ≡ keeps touched y
  writing : written (map-Stmt A B f y) ≡ written y
  calling : own_callees (map-Stmt A B f y) ≡ own_callees y
  size : own_bytes (map-Stmt A B f y) ≡ own_bytes y

same_layer : {A B : Type 0} (fs : List FlatFunc) (names : ℕ) (touched called : ℕ → Bool) (f : A → B) (y : Stmt-F A)
    → SameLayer fs names touched called f y
same_layer fs names touched called f (Stmt-F.Lit x n) =
    record { fitting = refl; using = refl; fine = refl; keeping = refl; writing = refl; calling = refl; size = refl }
same_layer fs names touched called f (Stmt-F.Copy x y) =
    record { fitting = refl; using = refl; fine = refl; keeping = refl; writing = refl; calling = refl; size = refl }
same_layer fs names touched called f (Stmt-F.Op x o y z) =
    record { fitting = refl; using = refl; fine = refl; keeping = refl; writing = refl; calling = refl; size = refl }
same_layer fs names touched called f (Stmt-F.Load x size y offset) =
    record { fitting = refl; using = refl; fine = refl; keeping = refl; writing = refl; calling = refl; size = refl }
same_layer fs names touched called f (Stmt-F.Store size y z offset) =
    record { fitting = refl; using = refl; fine = refl; keeping = refl; writing = refl; calling = refl; size = refl }
same_layer fs names touched called f (Stmt-F.Table x size bytes y) =
    record { fitting = refl; using = refl; fine = refl; keeping = refl; writing = refl; calling = refl; size = refl }
same_layer fs names touched called f (Stmt-F.Stackalloc x n body) =
    record { fitting = refl; using = refl; fine = refl; keeping = refl; writing = refl; calling = refl; size = refl }
same_layer fs names touched called f (Stmt-F.If test first second) =
    record { fitting = refl; using = refl; fine = refl; keeping = refl; writing = refl; calling = refl; size = refl }
same_layer fs names touched called f (Stmt-F.Loop first test last) =
    record { fitting = refl; using = refl; fine = refl; keeping = refl; writing = refl; calling = refl; size = refl }
same_layer fs names touched called f (Stmt-F.Call xs g ys) =
    record { fitting = refl; using = refl; fine = refl; keeping = refl; writing = refl; calling = refl; size = refl }
same_layer fs names touched called f (Stmt-F.Read x y) =
    record { fitting = refl; using = refl; fine = refl; keeping = refl; writing = refl; calling = refl; size = refl }
same_layer fs names touched called f (Stmt-F.Write y z) =
    record { fitting = refl; using = refl; fine = refl; keeping = refl; writing = refl; calling = refl; size = refl }

in_left : (xs ys : List ℕ) (x : ℕ) → is_in xs x ≡ true → is_in (xs ++ ys) x ≡ true
in_left [] ys x h = absurd (cc)
in_left (y ∷ xs) ys x h = by (y == x) h (in_left xs ys x)
  where
    by : (t : Bool) → (t || is_in xs x) ≡ true → (is_in xs x ≡ true → is_in (xs ++ ys) x ≡ true)
        → (t || is_in (xs ++ ys) x) ≡ true
    by true h again = refl
    by false h again = again h

in_right : (xs ys : List ℕ) (x : ℕ) → is_in ys x ≡ true → is_in (xs ++ ys) x ≡ true
in_right [] ys x h = h
in_right (y ∷ xs) ys x h = by (y == x) (in_right xs ys x h)
  where
    by : (t : Bool) → is_in (xs ++ ys) x ≡ true → (t || is_in (xs ++ ys) x) ≡ true
    by true h = refl
    by false h = h

all_in : (p : ℕ → Bool) (xs : List ℕ) → ((x : ℕ) → is_in xs x ≡ true → p x ≡ true) → IsTrue (list_all p xs)
all_in p [] h = refl
all_in p (x ∷ xs) h =
    and_of (p x) (list_all p xs) (h x (here x (is_in xs x))) (all_in p xs (λ y l. h y (there x xs y l)))
  where
    here : (x : ℕ) (b : Bool) → (x == x || b) ≡ true
    here x b = let same : (x == x) ≡ true = grind (arith, nat_tests) in rw same refl

    there : (x : ℕ) (xs : List ℕ) (y : ℕ) → is_in xs y ≡ true → is_in (x ∷ xs) y ≡ true
    there x xs y l = in_right (x ∷ []) xs y l

-- what is asked of a statement, and what follows
abbrev FineClaim : List FlatFunc → ℕ → (ℕ → Bool) → (ℕ → Bool) → Stmt → Type 0
FineClaim fs names touched called st =
    IsTrue (throughout (fits fs names) st) → IsTrue (throughout uses_registers st)
    → IsTrue (throughout (keeps touched) st)
    → ((x : ℕ) → is_in (gathered written st) x ≡ true → touched x ≡ true)
    → ((g : ℕ) → is_in (gathered own_callees st) g ≡ true → called g ≡ true)
    → IsTrue (throughout (is_fine fs touched called) st)

abbrev FineClaimed : List FlatFunc → ℕ → (ℕ → Bool) → (ℕ → Bool) → Type 0
FineClaimed fs names touched called = (st : Stmt) × FineClaim fs names touched called st

each_fine : (fs : List FlatFunc) (names : ℕ) (touched called : ℕ → Bool)
    (cs : List (FineClaimed fs names touched called))
    → IsTrue (list_all (λ ok. ok) (map (throughout (fits fs names)) (map (λ e. e.0) cs)))
    → IsTrue (list_all (λ ok. ok) (map (throughout uses_registers) (map (λ e. e.0) cs)))
    → IsTrue (list_all (λ ok. ok) (map (throughout (keeps touched)) (map (λ e. e.0) cs)))
    → ((x : ℕ) → is_in (flat_map (λ xs. xs) (map (gathered written) (map (λ e. e.0) cs))) x ≡ true → touched x ≡ true)
    → ((g : ℕ) → is_in (flat_map (λ xs. xs) (map (gathered own_callees) (map (λ e. e.0) cs))) g ≡ true
    → called g ≡ true)
    → IsTrue (list_all (λ ok. ok) (map (throughout (is_fine fs touched called)) (map (λ e. e.0) cs)))
each_fine fs names touched called [] h k m w c = refl
each_fine fs names touched called (e ∷ cs) h k m w c =
    let h2 = both (throughout (fits fs names) e.0)
    (list_all (λ ok. ok) (map (throughout (fits fs names)) (map (λ e. e.0) cs))) h in
    let k2 = both (throughout uses_registers e.0)
    (list_all (λ ok. ok) (map (throughout uses_registers) (map (λ e. e.0) cs))) k in
    let m2 = both (throughout (keeps touched) e.0)
    (list_all (λ ok. ok) (map (throughout (keeps touched)) (map (λ e. e.0) cs))) m in
    and_of (throughout (is_fine fs touched called) e.0)
    (list_all (λ ok. ok) (map (throughout (is_fine fs touched called)) (map (λ e. e.0) cs)))
    (e.1 h2.0 k2.0 m2.0 (λ x l.
    w x (in_left (gathered written e.0) (flat_map (λ xs. xs) (map (gathered written) (map (λ e. e.0) cs))) x l))
    (λ g l. c g (in_left (gathered own_callees e.0)
    (flat_map (λ xs. xs) (map (gathered own_callees) (map (λ e. e.0) cs))) g l)))
    (each_fine fs names touched called cs h2.1 k2.1 m2.1 (λ x l.
    w x (in_right (gathered written e.0) (flat_map (λ xs. xs) (map (gathered written) (map (λ e. e.0) cs))) x l))
    (λ g l. c g (in_right (gathered own_callees e.0)
    (flat_map (λ xs. xs) (map (gathered own_callees) (map (λ e. e.0) cs))) g l)))

lists_fine : (fs : List FlatFunc) (names : ℕ) (touched called : ℕ → Bool)
    (css : List (List (FineClaimed fs names touched called)))
    → IsTrue (list_all (list_all (λ ok. ok)) (map (map (throughout (fits fs names))) (map (map (λ e. e.0)) css)))
    → IsTrue (list_all (list_all (λ ok. ok)) (map (map (throughout uses_registers)) (map (map (λ e. e.0)) css)))
    → IsTrue (list_all (list_all (λ ok. ok)) (map (map (throughout (keeps touched))) (map (map (λ e. e.0)) css)))
    → ((x : ℕ) → is_in (flat_map (flat_map (λ xs. xs)) (map (map (gathered written)) (map (map (λ e. e.0)) css))) x
    ≡ true → touched x ≡ true)
    → ((g : ℕ) → is_in (flat_map (flat_map (λ xs. xs)) (map (map (gathered own_callees)) (map (map (λ e. e.0)) css))) g
    ≡ true → called g ≡ true)
    → IsTrue
    (list_all (list_all (λ ok. ok)) (map (map (throughout (is_fine fs touched called))) (map (map (λ e. e.0)) css)))
lists_fine fs names touched called [] h k m w c = refl
lists_fine fs names touched called (cs ∷ css) h k m w c =
    let h2 = both (list_all (λ ok. ok) (map (throughout (fits fs names)) (map (λ e. e.0) cs)))
    (list_all (list_all (λ ok. ok)) (map (map (throughout (fits fs names))) (map (map (λ e. e.0)) css))) h in
    let k2 = both (list_all (λ ok. ok) (map (throughout uses_registers) (map (λ e. e.0) cs)))
    (list_all (list_all (λ ok. ok)) (map (map (throughout uses_registers)) (map (map (λ e. e.0)) css))) k in
    let m2 = both (list_all (λ ok. ok) (map (throughout (keeps touched)) (map (λ e. e.0) cs)))
    (list_all (list_all (λ ok. ok)) (map (map (throughout (keeps touched))) (map (map (λ e. e.0)) css))) m in
    let w1 = flat_map (λ xs. xs) (map (gathered written) (map (λ e. e.0) cs)) in
    let w2 = flat_map (flat_map (λ xs. xs)) (map (map (gathered written)) (map (map (λ e. e.0)) css)) in
    let c1 = flat_map (λ xs. xs) (map (gathered own_callees) (map (λ e. e.0) cs)) in
    let c2 = flat_map (flat_map (λ xs. xs)) (map (map (gathered own_callees)) (map (map (λ e. e.0)) css)) in
    and_of (list_all (λ ok. ok) (map (throughout (is_fine fs touched called)) (map (λ e. e.0) cs)))
    (list_all (list_all (λ ok. ok)) (map (map (throughout (is_fine fs touched called))) (map (map (λ e. e.0)) css)))
    (each_fine fs names touched called cs h2.0 k2.0 m2.0 (λ x l. w x (in_left w1 w2 x l))
    (λ g l. c g (in_left c1 c2 g l)))
    (lists_fine fs names touched called css h2.1 k2.1 m2.1 (λ x l. w x (in_right w1 w2 x l))
    (λ g l. c g (in_right c1 c2 g l)))

-- a layer is fine by itself
own_fine : {X : Type 0} (fs : List FlatFunc) (names : ℕ) (touched called : ℕ → Bool) (y : Stmt-F X)
    → IsTrue (fits fs names y) → IsTrue (uses_registers y) → IsTrue (keeps touched y)
    → ((x : ℕ) → is_in (written y) x ≡ true → touched x ≡ true)
    → ((g : ℕ) → is_in (own_callees y) g ≡ true → called g ≡ true) → IsTrue (is_fine fs touched called y)
own_fine fs names touched called y h k m w c =
    let values = (both (are_below names (written y) && are_below names (read y)) (values_fit fs y) h).1 in
    and_of (uses_registers y && values_fit fs y && list_all touched (written y) && list_all called (own_callees y))
    (keeps touched y)
    (and_of (uses_registers y && values_fit fs y && list_all touched (written y)) (list_all called (own_callees y))
    (and_of (uses_registers y && values_fit fs y) (list_all touched (written y)) (and_of (uses_registers y)
    (values_fit fs y) k values) (all_in touched (written y) w)) (all_in called (own_callees y) c)) m

pub statement_fine : (fs : List FlatFunc) (names : ℕ) (touched called : ℕ → Bool) (st : Stmt)
    → FineClaim fs names touched called st
statement_fine fs names touched called = ind-Stmt (FineClaim fs names touched called)
    (λ x y is. subst (λ z. FineClaim fs names touched called (roll-Stmt z)) is (layer y))
  where
    layer : (y : Stmt-F (FineClaimed fs names touched called)) →
        FineClaim fs names touched called (roll-Stmt (map-Stmt (FineClaimed fs names touched called) Stmt (λ e. e.0) y))
    layer y h k m w c =
        let z = map-Stmt (FineClaimed fs names touched called) Stmt (λ e. e.0) y in
        let ps = parts_map (λ e. e.0) y in
        let rolled : (test : Stmt-F Bool → Bool)
        → throughout test (roll-Stmt z) ≡ (test (map-Stmt Stmt Bool (throughout test) z)
        && list_all (list_all (λ ok. ok)) (map (map (throughout test)) (parts z))) =
        λ test. fold-roll-Stmt Bool (λ y. test y && list_all (list_all (λ ok. ok)) (parts y)) z
        ∙ ap (λ q. test (map-Stmt Stmt Bool (throughout test) z) && list_all (list_all (λ ok. ok)) q)
        (parts_map (throughout test) z) in
        let names_of : (own : Stmt-F (List ℕ) → List ℕ) → gathered own (roll-Stmt z) ≡ own (map-Stmt Stmt (List ℕ)
        (gathered own) z) ++ flat_map (flat_map (λ xs. xs)) (map (map (gathered own)) (parts z)) =
        λ own. fold-roll-Stmt (List ℕ) (λ y. own y ++ flat_map (flat_map (λ xs. xs)) (parts y)) z
        ∙ ap (λ q. own (map-Stmt Stmt (List ℕ) (gathered own) z) ++ flat_map (flat_map (λ xs. xs)) q)
        (parts_map (gathered own) z) in
        let h2 = both _ _ (subst IsTrue (rolled (fits fs names)) h) in
        let k2 = both _ _ (subst IsTrue (rolled uses_registers) k) in
        let m2 = both _ _ (subst IsTrue (rolled (keeps touched)) m) in
        let w1 = (same_layer fs names touched called (gathered written) z).writing in
        let c1 = (same_layer fs names touched called (gathered own_callees) z).calling in
        let writes : (x : ℕ)
        → is_in (written z ++ flat_map (flat_map (λ xs. xs)) (map (map (gathered written)) (parts z))) x ≡ true
        → touched x ≡ true =
        λ x l. w x (subst (λ q. is_in q x ≡ true) (sym (names_of written
        ∙ ap (λ q. q ++ flat_map (flat_map (λ xs. xs)) (map (map (gathered written)) (parts z))) w1)) l) in
        let calls : (g : ℕ) → is_in (own_callees z
        ++ flat_map (flat_map (λ xs. xs)) (map (map (gathered own_callees)) (parts z))) g ≡ true → called g ≡ true =
        λ g l. c g (subst (λ q. is_in q g ≡ true) (sym (names_of own_callees
        ∙ ap (λ q. q ++ flat_map (flat_map (λ xs. xs)) (map (map (gathered own_callees)) (parts z))) c1)) l) in
        let own = own_fine fs names touched called z
        (subst IsTrue (same_layer fs names touched called (throughout (fits fs names)) z).fitting h2.0)
        (subst IsTrue (same_layer fs names touched called (throughout uses_registers) z).using k2.0)
        (subst IsTrue (same_layer fs names touched called (throughout (keeps touched)) z).keeping m2.0)
        (λ x l. writes x (in_left (written z) _ x l)) (λ g l. calls g (in_left (own_callees z) _ g l)) in
        let inner = lists_fine fs names touched called (parts y)
        (subst (λ q. IsTrue (list_all (list_all (λ ok. ok)) (map (map (throughout (fits fs names))) q))) ps h2.1)
        (subst (λ q. IsTrue (list_all (list_all (λ ok. ok)) (map (map (throughout uses_registers)) q))) ps k2.1)
        (subst (λ q. IsTrue (list_all (list_all (λ ok. ok)) (map (map (throughout (keeps touched))) q))) ps m2.1)
        (subst (λ q. (x : ℕ) → is_in (flat_map (flat_map (λ xs. xs)) (map (map (gathered written)) q)) x ≡ true
        → touched x ≡ true) ps (λ x l. writes x (in_right (written z) _ x l)))
        (subst (λ q. (g : ℕ) → is_in (flat_map (flat_map (λ xs. xs)) (map (map (gathered own_callees)) q)) g ≡ true
        → called g ≡ true) ps (λ g l. calls g (in_right (own_callees z) _ g l))) in
        subst IsTrue (sym (rolled (is_fine fs touched called)))
        (and_of (is_fine fs touched called (map-Stmt Stmt Bool (throughout (is_fine fs touched called)) z)) _
        (subst IsTrue (sym (same_layer fs names touched called (throughout (is_fine fs touched called)) z).fine) own)
        (subst (λ q. IsTrue (list_all (list_all (λ ok. ok)) (map (map (throughout (is_fine fs touched called))) q)))
        (sym ps) inner))

-- ---- buffers

max_fours : (a b : ℕ) → a % 4 ≡ 0 → b % 4 ≡ 0 → max a b % 4 ≡ 0
max_fours a b h k = by (nat_le a b) refl
  where
    by : (t : Bool) → nat_le a b ≡ t → max a b % 4 ≡ 0
    by true e = let less : a ≤ b = grind (arith, nat_tests) in let is : max a b ≡ b = omega arith in
        ap (λ q. q % 4) is ∙ k
    by false e = let more : b < a = grind (arith, nat_tests) in let is : max a b ≡ a = omega arith in
        ap (λ q. q % 4) is ∙ h

abbrev Fours : List FlatFunc → ℕ → Stmt → Type 0
Fours fs names st = IsTrue (throughout (fits fs names) st) → statement_nest st % 4 ≡ 0

each_fours : (fs : List FlatFunc) (names : ℕ) (cs : List ((st : Stmt) × Fours fs names st))
    → IsTrue (list_all (λ ok. ok) (map (throughout (fits fs names)) (map (λ e. e.0) cs)))
    → largest (map statement_nest (map (λ e. e.0) cs)) % 4 ≡ 0
each_fours fs names [] h = refl
each_fours fs names (e ∷ cs) h =
    let h2 = both (throughout (fits fs names) e.0)
    (list_all (λ ok. ok) (map (throughout (fits fs names)) (map (λ e. e.0) cs))) h in
    max_fours (statement_nest e.0) (largest (map statement_nest (map (λ e. e.0) cs))) (e.1 h2.0)
    (each_fours fs names cs h2.1)

lists_fours : (fs : List FlatFunc) (names : ℕ) (css : List (List ((st : Stmt) × Fours fs names st)))
    → IsTrue (list_all (list_all (λ ok. ok)) (map (map (throughout (fits fs names))) (map (map (λ e. e.0)) css)))
    → largest (map largest (map (map statement_nest) (map (map (λ e. e.0)) css))) % 4 ≡ 0
lists_fours fs names [] h = refl
lists_fours fs names (cs ∷ css) h =
    let h2 = both (list_all (λ ok. ok) (map (throughout (fits fs names)) (map (λ e. e.0) cs)))
    (list_all (list_all (λ ok. ok)) (map (map (throughout (fits fs names))) (map (map (λ e. e.0)) css))) h in
    max_fours (largest (map statement_nest (map (λ e. e.0) cs)))
    (largest (map largest (map (map statement_nest) (map (map (λ e. e.0)) css)))) (each_fours fs names cs h2.0)
    (lists_fours fs names css h2.1)

own_fours : {X : Type 0} (fs : List FlatFunc) (names : ℕ) (y : Stmt-F X) → IsTrue (fits fs names y)
    → own_bytes y % 4 ≡ 0
own_fours fs names (Stmt-F.Lit x n) h = refl
own_fours fs names (Stmt-F.Copy x y) h = refl
own_fours fs names (Stmt-F.Op x o y z) h = refl
own_fours fs names (Stmt-F.Load x size y offset) h = refl
own_fours fs names (Stmt-F.Store size y z offset) h = refl
own_fours fs names (Stmt-F.Table x size bytes y) h = refl
own_fours fs names (Stmt-F.Stackalloc x n body) h = let k = (both _ (n % 4 == 0) h).1 in grind (arith, nat_tests)
own_fours fs names (Stmt-F.If test first second) h = refl
own_fours fs names (Stmt-F.Loop first test last) h = refl
own_fours fs names (Stmt-F.Call xs g ys) h = refl
own_fours fs names (Stmt-F.Read x y) h = refl
own_fours fs names (Stmt-F.Write y z) h = refl

statement_fours : (fs : List FlatFunc) (names : ℕ) (st : Stmt) → Fours fs names st
statement_fours fs names = ind-Stmt (Fours fs names) (λ x y is. subst (λ z. Fours fs names (roll-Stmt z)) is (layer y))
  where
    sum_fours : (a b : ℕ) → a % 4 ≡ 0 → b % 4 ≡ 0 → (a + b) % 4 ≡ 0
    sum_fours a b h k = omega arith

    layer : (y : Stmt-F ((st : Stmt) × Fours fs names st))
        → Fours fs names (roll-Stmt (map-Stmt ((st : Stmt) × Fours fs names st) Stmt (λ e. e.0) y))
    layer y h =
        let z = map-Stmt ((st : Stmt) × Fours fs names st) Stmt (λ e. e.0) y in
        let none : ℕ → Bool = λ q. true in
        let rolled : throughout (fits fs names) (roll-Stmt z)
        ≡ (fits fs names (map-Stmt Stmt Bool (throughout (fits fs names)) z)
        && list_all (list_all (λ ok. ok)) (map (map (throughout (fits fs names))) (parts z))) =
        fold-roll-Stmt Bool (λ y. fits fs names y && list_all (list_all (λ ok. ok)) (parts y)) z
        ∙ ap (λ q. fits fs names (map-Stmt Stmt Bool (throughout (fits fs names)) z)
        && list_all (list_all (λ ok. ok)) q) (parts_map (throughout (fits fs names)) z) in
        let h2 = both _ _ (subst IsTrue rolled h) in
        let own = own_fours fs names z
        (subst IsTrue (same_layer fs names none none (throughout (fits fs names)) z).fitting h2.0) in
        let inner = lists_fours fs names
        (parts y) (subst (λ q. IsTrue (list_all (list_all (λ ok. ok)) (map (map (throughout (fits fs names))) q)))
        (parts_map (λ e. e.0) y) h2.1) in
        let nests : statement_nest (roll-Stmt z)
        ≡ own_bytes z + largest (map largest (map (map statement_nest) (map (map (λ e. e.0)) (parts y)))) =
        fold-roll-Stmt ℕ (λ y. own_bytes y + largest (map largest (parts y))) z
        ∙ ap (λ q. own_bytes (map-Stmt Stmt ℕ statement_nest z) + largest (map largest q)) (parts_map statement_nest z)
        ∙ ap (λ q. q + largest (map largest (map (map statement_nest) (parts z))))
        (same_layer fs names none none statement_nest z).size
        ∙ ap (λ q. own_bytes z + largest (map largest (map (map statement_nest) q))) (parts_map (λ e. e.0) y) in
        ap (λ q. q % 4) nests ∙ sum_fours (own_bytes z)
        (largest (map largest (map (map statement_nest) (map (map (λ e. e.0)) (parts y))))) own inner

body_fours : (fs : List FlatFunc) (names : ℕ) (body : List Stmt) → IsTrue (list_all (throughout (fits fs names)) body)
    → largest (map statement_nest body) % 4 ≡ 0
body_fours fs names [] h = refl
body_fours fs names (st ∷ body) h =
    let h2 = both (throughout (fits fs names) st) (list_all (throughout (fits fs names)) body) h in
    max_fours (statement_nest st) (largest (map statement_nest body)) (statement_fours fs names st h2.0)
    (body_fours fs names body h2.1)

body_fine : (fs : List FlatFunc) (names : ℕ) (touched called : ℕ → Bool) (body : List Stmt)
    → IsTrue (list_all (throughout (fits fs names)) body) → IsTrue (list_all (throughout uses_registers) body)
    → IsTrue (list_all (throughout (keeps touched)) body)
    → ((x : ℕ) → is_in (flat_map (gathered written) body) x ≡ true → touched x ≡ true)
    → ((g : ℕ) → is_in (flat_map (gathered own_callees) body) g ≡ true → called g ≡ true)
    → IsTrue (list_all (throughout (is_fine fs touched called)) body)
body_fine fs names touched called [] h k m w c = refl
body_fine fs names touched called (st ∷ body) h k m w c =
    let h2 = both (throughout (fits fs names) st) (list_all (throughout (fits fs names)) body) h in
    let k2 = both (throughout uses_registers st) (list_all (throughout uses_registers) body) k in
    let m2 = both (throughout (keeps touched) st) (list_all (throughout (keeps touched)) body) m in
    and_of (throughout (is_fine fs touched called) st) (list_all (throughout (is_fine fs touched called)) body)
    (statement_fine fs names touched
    called st h2.0 k2.0 m2.0 (λ x l. w x (in_left (gathered written st) (flat_map (gathered written) body) x l))
    (λ g l. c g (in_left (gathered own_callees st) (flat_map (gathered own_callees) body) g l)))
    (body_fine fs names touched
    called body h2.1 k2.1 m2.1 (λ x l. w x (in_right (gathered written st) (flat_map (gathered written) body) x l))
    (λ g l. c g (in_right (gathered own_callees st) (flat_map (gathered own_callees) body) g l)))

-- ---- functions

or_left : (a b : Bool) → a ≡ true → (a || b) ≡ true
or_left true b e = refl
or_left false b e = absurd (cc)

callee_need_is : (fs : List FlatFunc) (need : ℕ → ℕ) (n : ℕ) (f : FlatFunc) → slice_get fs n ≡ Some f
    → callee_need fs need n ≡ largest (map need (callees f))
callee_need_is fs need n f there = rw there refl

at_most : (a b : ℕ) → a ≤ b → IsTrue (nat_le a b)
at_most a b h = grind (arith, nat_tests)

few_names : (names : ℕ) (xs : List ℕ) → IsTrue (is_list_of_names names xs) → length xs ≤ 8
few_names names xs h = let k = (both (nat_le (length xs) 8) (are_below names xs)
    (both (nat_le (length xs) 8 && are_below names xs) (all_differ xs) h).0).0 in grind (arith, nat_tests)

-- x1 may be changed, or no statement changes it
pub throughout_true : (st : Stmt) → IsTrue (throughout (λ y. true) st)
throughout_true = ind-Stmt (λ st. IsTrue (throughout (λ y. true) st))
    (λ x y is. subst (λ z. IsTrue (throughout (λ y. true) (roll-Stmt z))) is (layer y))
  where
    each : (cs : List ((st : Stmt) × IsTrue (throughout (λ y. true) st)))
        → IsTrue (list_all (λ ok. ok) (map (throughout (λ y. true)) (map (λ e. e.0) cs)))
    each [] = refl
    each (e ∷ cs) = and_of (throughout (λ y. true) e.0)
        (list_all (λ ok. ok) (map (throughout (λ y. true)) (map (λ e. e.0) cs))) e.1 (each cs)

    lists : (css : List (List ((st : Stmt) × IsTrue (throughout (λ y. true) st))))
        → IsTrue (list_all (list_all (λ ok. ok)) (map (map (throughout (λ y. true))) (map (map (λ e. e.0)) css)))
    lists [] = refl
    lists (cs ∷ css) = and_of (list_all (λ ok. ok) (map (throughout (λ y. true)) (map (λ e. e.0) cs))) (list_all
        (list_all (λ ok. ok)) (map (map (throughout (λ y. true))) (map (map (λ e. e.0)) css))) (each cs) (lists css)

    layer : (y : Stmt-F ((st : Stmt) × IsTrue (throughout (λ y. true) st))) → IsTrue (throughout (λ y. true)
        (roll-Stmt (map-Stmt ((st : Stmt) × IsTrue (throughout (λ y. true) st)) Stmt (λ e. e.0) y)))
    layer y =
        let z = map-Stmt ((st : Stmt) × IsTrue (throughout (λ y. true) st)) Stmt (λ e. e.0) y in
        let rolled : throughout (λ y. true) (roll-Stmt z)
        ≡ list_all (list_all (λ ok. ok)) (map (map (throughout (λ y. true))) (parts z)) =
        fold-roll-Stmt Bool (λ y. list_all (list_all (λ ok. ok)) (parts y)) z
        ∙ ap (list_all (list_all (λ ok. ok))) (parts_map (throughout (λ y. true)) z) in
        subst IsTrue
        (sym rolled) (subst (λ q. IsTrue (list_all (list_all (λ ok. ok)) (map (map (throughout (λ y. true))) q)))
        (sym (parts_map (λ e. e.0) y)) (lists (parts y)))

all_true : (body : List Stmt) → IsTrue (list_all (throughout (λ y. true)) body)
all_true [] = refl
all_true (st ∷ body) =
    and_of (throughout (λ y. true) st) (list_all (throughout (λ y. true)) body) (throughout_true st) (all_true body)

body_keeps : (near : Bool) (forgets : Forgets) (f : FlatFunc)
    → IsTrue (list_all (throughout (keeps (touches near forgets f))) f.body)
body_keeps near forgets f = by (touches near forgets f 1) refl
  where
    -- what touches x1 aside, the test is whether x1 is kept
    test : Bool → Type 0
    test b = IsTrue (list_all (throughout (λ y. b || keeps_link y)) f.body)

    none : (a l m k : Bool) → (a || (true && (not l || (not m || k)))) ≡ false → IsTrue m
    none false true true false e = refl
    none true l m k e = absurd (cc)
    none false false m k e = absurd (cc)
    none false true false k e = absurd (cc)
    none false true true true e = absurd (cc)

    by : (b : Bool) → touches near forgets f 1 ≡ b
        → IsTrue (list_all (throughout (keeps (touches near forgets f))) f.body)
    by true e = subst test (sym e) (all_true f.body)
    by false e = subst test (sym e)
        (none (changes forgets f 1) near (list_all (throughout keeps_link) f.body) (nat_lt 2047 (nest f)) e)

called_function : (fs : List FlatFunc) (n g : ℕ) (f : FlatFunc) → slice_get fs n ≡ Some f → is_in (callees f) g ≡ true
    → is_called fs g ≡ true
called_function fs n g f there is = some_of (λ h. list_any (λ k. k == g) (callees h)) fs n f there is

pub function_laid : (fs : List FlatFunc) (targets : Targets) (forgets : Forgets) (need : ℕ → ℕ) (code : List ℕ)
    → IsCodeOf fs targets forgets need code
    → (n : ℕ) (f : FlatFunc) → slice_get fs n ≡ Some f
    → Function code fs targets forgets (is_called fs) need (callee_need fs need) (flat_bulk fs - 16) n f
function_laid fs targets forgets need code is n f there =
    let formed = (both (names_differ fs) (list_all (is_well_formed_function fs) fs) is.form.0).1 in
    let well = one_of (is_well_formed_function fs) fs n f formed there in
    let well2 = both (is_well_formed_head f) (list_all (is_well_formed_statement fs f.names) f.body) well in
    let head = both (nat_le f.names 1048576 && is_list_of_names f.names f.args)
    (is_list_of_names f.names f.results) well2.0 in
    let head2 = both (nat_le f.names 1048576) (is_list_of_names f.names f.args) head.0 in
    let register = one_of is_register_function fs n f is.form.1 there in
    let register2 = both (is_passing f.args && is_passing f.results)
    (list_all (throughout uses_registers) f.body) register in
    let register3 = both (is_passing f.args) (is_passing f.results) register2.0 in
    let limit = callee_need_is fs need n f there in
    let bulk = within_sum function_bulk fs n f there in
    record {
      args = register3.0;
      few_args = few_names f.names f.args head2.1;
      results = register3.1;
      few_results = few_names f.names f.results head.1;
      body = body_fine fs f.names (touches targets.near forgets f) (may_call f need (callee_need fs need n)) f.body
          well2.1 register2.1 (body_keeps targets.near forgets f)
          (λ x l. or_left (changes forgets f x) ((x == 1) && links targets.near f)
          (or_left (is_in (written_names f) x) (list_any (λ g. forgets g x) (callees f)) l))
          (λ g l. and_of (is_in (callees f) g) (nat_le (need g) (callee_need fs need n)) l (at_most (need g)
          (callee_need fs need n) (subst (λ q. need g ≤ q) (sym limit) (less_than_largest need (callees f) g l))));
      bulk = omega arith;
      needs = is.needs n f there;
      fours = body_fours fs f.names f.body well2.1;
      calls = λ g l. called_function fs n g f there l;
      placed = λ called. stands (all_placed code (program_items targets forgets fs 0 fs) is.items is.fit)
          (place_of targets forgets fs 0 0 fs n f there) called;
    }
  where
    stands : Placed code 0 (program_items targets forgets fs 0 fs)
        → ((place : ℕ) × (slice_get (places targets forgets fs 0 0 fs) n ≡ Some place)) → is_called fs n ≡ true
        → (place : ℕ) × (targets.at n ≡ 0x80300000 + 4 * place) × Placed code place (callable_items targets forgets n f)
    stands placed (place, at_is) called =
        let here = function_placed code targets forgets fs 0 0 fs placed n place f there at_is in
        let number : 0 + n ≡ n = omega arith in
        let here2 = subst (λ q. Placed code place (function_items targets forgets fs q f)) number here in
        let here3 = subst (λ t. Placed code place (if t then callable_items targets forgets n f
        ++ entry_items targets.near (targets.at n) else direct_items targets f)) called here2 in (
          place,
          is.aimed n place at_is,
          placed-front code place (callable_items targets forgets n f) (entry_items
              targets.near (targets.at n)) here3,
        )

-- ---- entries

-- what a call from outside does, where calls forget names, is shown
abbrev pub ShowsForgetting : List FlatFunc → Targets → Forgets → (ℕ → ℕ) → List ℕ → ℕ → FlatFunc → ℕ → Type 0
ShowsForgetting fs targets forgets need code n f place =
    (fuel : ℕ) (args : List ℕ) → length args ≡ length f.args → AreWords args
    → (m : Memory) → IsInData m → (answers : List ℕ) → AreWords answers → (j : Leftover) → IsLeftover j
    → EntryShown code (4 * entry_place targets forgets fs place n f) args m answers j fuel (need n)
    ((fuel + 1) * flat_bulk fs) (λ choices. call_forgetting forgets fs n args m answers choices fuel)

pub function_shown : (t : Table) (steps : (s : MachineState) (next : Option ℕ) → IsMachine s → IfSome next IsWord
    → IsMachine (step s next).0) (fs : List FlatFunc) (targets : Targets) (forgets : Forgets) (need : ℕ
    → ℕ) (code : List ℕ) → IsCodeOf fs targets forgets need code
    → (n : ℕ) (f : FlatFunc) (place : ℕ) → slice_get fs n ≡ Some f
    → slice_get (places targets forgets fs 0 0 fs) n ≡ Some place → need n ≤ 1048576
    → ShowsForgetting fs targets forgets need code n f place
function_shown t steps fs targets forgets need code is n f place there at_is less fuel args count words m data_is
    answers words' j left =
    by (is_called fs n) refl
  where
    low : ℕ
    low = 0x80300000 - need n

    laid : Laid
    laid = record {
      code = code;
      fs = fs;
      targets = targets;
      forgets = forgets;
      called = is_called fs;
      need = need;
      limit = callee_need fs need;
      low = low;
      total = flat_bulk fs - 16;
      bottom = omega arith;
      reach = is.reach;
      functions = function_laid fs targets forgets need code is;
    }

    pays : 16 + (flat_bulk fs - 16) ≤ flat_bulk fs
    pays = let more = within_sum function_bulk fs n f there in omega arith

    needs : framed_bytes targets.near forgets n f + nest f + callee_need fs need n ≤ need n
    needs = is.needs n f there

    here : Placed code place (function_items targets forgets fs n f)
    here =
        let number : 0 + n ≡ n = omega arith in
        subst (λ q. Placed code place (function_items targets forgets fs q f)) number
        (function_placed code targets forgets fs 0 0 fs
        (all_placed code (program_items targets forgets fs 0 fs) is.items is.fit) n place f there at_is)

    Shown : ℕ → Type 0
    Shown entry = EntryShown code (4 * entry) args m answers j fuel (need n) ((fuel + 1) * flat_bulk fs)
        (λ choices. call_forgetting forgets fs n args m answers choices fuel)

    by : (b : Bool) → is_called fs n ≡ b
        → Shown (if is_called fs n then place + length (callable_items targets forgets n f) else place)
    by true called =
        let room : low + need n ≤ 0x80300000 = omega arith in
        let here2 = subst (λ b. Placed code place (if b then callable_items targets forgets n f
        ++ entry_items targets.near (targets.at n) else direct_items targets f)) called here in
        let entry = placed-back code place (callable_items targets forgets n f)
        (entry_items targets.near (targets.at n)) here2 in
        subst (λ b. Shown (if b then place + length (callable_items targets forgets n f) else place)) (sym called)
        (called_shown (world laid t steps) n f (place + length (callable_items targets forgets n f)) (flat_bulk fs)
        (need n) fuel there called entry is.few room pays refl args count words m data_is answers words' j left)
    by false called =
        let needed = needs in
        let room : low + nest f + callee_need fs need n ≤ 0x80300000 = omega (arith, needed) in
        let here2 = subst (λ b. Placed code place (if b then callable_items targets forgets n f
        ++ entry_items targets.near (targets.at n) else direct_items targets f)) called here in
        subst (λ b. Shown (if b then place + length (callable_items targets forgets n f) else place)) (sym called)
        (direct_shown (world laid t steps) n f place (flat_bulk fs) (need n) fuel there here2 is.few room pays refl args
        count words m data_is answers words' j left)
