-- Programs by fitting layouts are well formed, and with at most 32 registers in register form: statements, functions
-- and programs.
use Rattle.std.proofs.Common.{◌≡◌, ℕ, zero, suc, ◌*◌, ◌%◌, ◌≤◌, ◌==◌, ◌&&◌, ◌||◌, not, nat_le, Bool, true, false}
use Rattle.std.proofs.Common.{List, [], ◌∷◌, ◌++◌, map, length, Some, refl, sym, ap, subst, ◌∙◌, arith, slice_get}
use Rattle.std.specs.List.{list_all, list_any}
use Rattle.std.specs.Str.{bytes_eq}
use Rattle.std.proofs.lemmas.Bool.Decides.{nat_tests}
use Rattle.br_flatimp.specs.declared.program.Stmt.{Stmt, map-Stmt}
use Rattle.br_flatimp.specs.declared.program.Stmt.TheOpen.{Stmt-F}
use Rattle.br_flatimp.specs.declared.program.Stmt.TheViews.{roll-Stmt}
use Rattle.br_flatimp.specs.declared.program.Stmt.TheFolds.{fold-roll-Stmt, ind-Stmt}
use Rattle.br_flatimp.specs.declared.program.FlatFunc.{FlatFunc}
use Rattle.br_flatimp.specs.Parts.{throughout, operand_names, test_names}
use Rattle.br_flatimp.specs.WellFormed.{is_immediate, operand_fits, all_differ, counts_fit, are_below, fits}
use Rattle.br_flatimp.specs.WellFormed.{is_well_formed_statement, is_list_of_names, is_well_formed_head}
use Rattle.br_flatimp.specs.WellFormed.{is_well_formed_function, names_differ, IsWellFormed, is_passing}
use Rattle.br_flatimp.specs.WellFormed.{uses_registers, is_register_function, IsRegisterForm}
use Rattle.br_spill.specs.Spill.{Layout, Fits, bring, at, keep, bring_operand, operand_at}
use Rattle.br_spill.specs.Spill.{bring_test, test_at, passes, takes, in_order, joined, spilled_step}
use Rattle.br_spill.specs.Spill.{spilled, in_buffer, spilled_function, SpilledFunctions, is_narrow}
use Rattle.br_spill.proofs.Form.{and-first, and-second, both, in_order-within, in_order-passing, in_order-differ}
use Rattle.br_spill.proofs.Form.{in_order-length, within-below, Fine, registers-fine, fits-fine, all, step, all-append}
use Rattle.br_spill.proofs.Form.{all-first, leaf, three-register, four-register, five-register, place-of, rest-of}
use Rattle.br_spill.proofs.Form.{at-register, bring-fine, keep-fine, copy-fine, operand-fine, operand-registers}
use Rattle.br_spill.proofs.Form.{operand-still_fits, test-fine, test-registers, passes-fine, takes-fine}

-- calls that fit the functions fit those in register form
pub record CallsFit (ps qs : List FlatFunc) : Type 0 where
  pub few : (g n m : ℕ) → counts_fit (slice_get ps g) n m ≡ true → (n ≤ 8) × (m ≤ 8)
  pub counts : (g n m : ℕ) → counts_fit (slice_get ps g) n m ≡ true → counts_fit (slice_get qs g) n m ≡ true

abbrev StatementFine : List FlatFunc → ℕ → Layout → (Stmt-F Bool → Bool) → Stmt → Type 0
StatementFine ps names l t s = is_well_formed_statement ps names s ≡ true → all t (spilled l s) ≡ true

abbrev Known : List FlatFunc → ℕ → Layout → (Stmt-F Bool → Bool) → Type 0
Known ps names l t = (s : Stmt) × StatementFine ps names l t s

abbrev stmts : (ps : List FlatFunc) (names : ℕ) (l : Layout) (t : Stmt-F Bool → Bool)
    → List (Known ps names l t) → List Stmt
stmts ps names l t xs = map (λ e. e.0) xs

fine-all : (ps : List FlatFunc) (names : ℕ) (l : Layout) (t : Stmt-F Bool → Bool) (xs : List (Known ps names l t))
    → list_all (λ ok. ok) (map (is_well_formed_statement ps names) (stmts ps names l t xs)) ≡ true
    → all t (joined (map (spilled l) (stmts ps names l t xs))) ≡ true
fine-all ps names l t [] h = refl
fine-all ps names l t (x ∷ xs) h =
    let one = is_well_formed_statement ps names x.0 in
    let rest = list_all (λ ok. ok) (map (is_well_formed_statement ps names) (stmts ps names l t xs)) in
    all-append t (spilled l x.0) (joined (map (spilled l) (stmts ps names l t xs))) (x.1 (and-first one rest h))
    (fine-all ps names l t xs (and-second one rest h))

all-made : (t : Stmt-F Bool → Bool) (xs : List Stmt) → all t xs ≡ true
    → list_all (λ ok. ok) (map (throughout t) xs) ≡ true
all-made t [] h = refl
all-made t (x ∷ xs) h = both (throughout t x) (list_all (λ ok. ok) (map (throughout t) xs))
    (and-first (throughout t x) (all t xs) h) (all-made t xs (and-second (throughout t x) (all t xs) h))

-- a statement with one part, and one with two
one-part : (b c : Bool) → b ≡ true → c ≡ true → (b && (c && true)) ≡ true
one-part b c e f = rw (e, f) refl

two-parts : (b c d : Bool) → b ≡ true → c ≡ true → d ≡ true → (b && (c && (d && true))) ≡ true
two-parts b c d e f g = rw (e, f, g) refl

pub record Layer (names : ℕ) (xs ys : List ℕ) (values inner : Bool) : Type 0 where
  pub writes : are_below names xs ≡ true
  pub reads : are_below names ys ≡ true
  pub fit : values ≡ true
  pub parts : inner ≡ true

pub layer-facts : (names : ℕ) (xs ys : List ℕ) (values inner : Bool)
    → ((are_below names xs && are_below names ys && values) && inner) ≡ true → Layer names xs ys values inner
layer-facts names xs ys values inner h = split (are_below names xs) (are_below names ys) h refl refl
  where
    split : (a b : Bool) → ((a && b && values) && inner) ≡ true → are_below names xs ≡ a → are_below names ys ≡ b
        → Layer names xs ys values inner
    split true true h e f =
        record { writes = e; reads = f; fit = and-first values inner h; parts = and-second values inner h }
    split true false h e f = absurd (cc h)
    split false b h e f = absurd (cc h)

abbrev LayerFine : List FlatFunc → ℕ → Layout → (Stmt-F Bool → Bool) → Stmt-F Stmt → Type 0
LayerFine ps names l t y =
    step (fits ps names) (map-Stmt Stmt Bool (is_well_formed_statement ps names) y) ≡ true
    → all t (spilled_step l (map-Stmt Stmt (List Stmt) (spilled l) y)) ≡ true

layer : (ps qs : List FlatFunc) (names : ℕ) (l : Layout) → Fits names l
    → CallsFit ps qs → (t : Stmt-F Bool → Bool) → Fine l.registers qs t → (y : Stmt-F (Known ps names l t))
    → LayerFine ps names l t (map-Stmt (Known ps names l t) Stmt (λ e. e.0) y)
layer ps qs names l fit calls t f (Stmt-F.Lit x n) h =
    let k = layer-facts names (x ∷ []) [] true true h in
    let to = at-register l.registers (l.place x) 4 (place-of names l fit x [] k.writes)
    (four-register l.registers fit.enough) in
    all-first t (Stmt-F.Lit (at (l.place x) 4) n) (keep (l.place x)) (leaf (t (Stmt-F.Lit (at (l.place x) 4) n))
    (f.lit (at (l.place x) 4) n to)) (keep-fine l.registers qs t f (l.place x))
layer ps qs names l fit calls t f (Stmt-F.Copy x y) h =
    let k = layer-facts names (x ∷ []) (y ∷ []) true true h in
    copy-fine l.registers qs t f (l.place x) (l.place y) (place-of names l fit x [] k.writes)
    (place-of names l fit y [] k.reads)
layer ps qs names l fit calls t f (Stmt-F.Op x o y z) h =
    let k = layer-facts names (x ∷ []) (y ∷ operand_names z) (operand_fits o z) true h in
    let a = at (l.place x) 4 in
    let b = at (l.place y) 4 in
    let last : Stmt-F Stmt = Stmt-F.Op a o b (operand_at l z) in
    let to = at-register l.registers (l.place x) 4 (place-of names l fit x [] k.writes)
    (four-register l.registers fit.enough) in
    let from = at-register l.registers (l.place y) 4 (place-of names l fit y (operand_names z) k.reads)
    (four-register l.registers fit.enough) in
    all-append t (bring (l.place y) 4) (bring_operand l z ++ roll-Stmt last ∷ keep (l.place x))
    (bring-fine l.registers qs t f (l.place y) 4 (four-register l.registers fit.enough))
    (all-append t (bring_operand l z) (roll-Stmt last ∷ keep (l.place x)) (operand-fine l.registers qs t f l z)
    (all-first
    t last (keep (l.place x)) (leaf (t (Stmt-F.Op a o b (operand_at l z))) (f.op a o b (operand_at l z) to from
    (operand-registers names l fit z (rest-of names y (operand_names z) k.reads)) (operand-still_fits l o z k.fit)))
    (keep-fine l.registers qs t f (l.place x))))
layer ps qs names l fit calls t f (Stmt-F.Load x size y offset) h =
    let k = layer-facts names (x ∷ []) (y ∷ []) (is_immediate offset) true h in
    let a = at (l.place x) 4 in
    let b = at (l.place y) 4 in
    let last : Stmt-F Stmt = Stmt-F.Load a size b offset in
    let to = at-register l.registers (l.place x) 4 (place-of names l fit x [] k.writes)
    (four-register l.registers fit.enough) in
    let from = at-register l.registers (l.place y) 4 (place-of names l fit y [] k.reads)
    (four-register l.registers fit.enough) in
    all-append t (bring (l.place y) 4) (roll-Stmt last ∷ keep (l.place x))
    (bring-fine l.registers qs t f (l.place y) 4 (four-register l.registers fit.enough))
    (all-first t last (keep (l.place x)) (leaf (t (Stmt-F.Load a size b offset)) (f.load a size b offset to from k.fit))
    (keep-fine l.registers qs t f (l.place x)))
layer ps qs names l fit calls t f (Stmt-F.Store size y z offset) h =
    let k = layer-facts names [] (y ∷ z ∷ []) (is_immediate offset) true h in
    let a = at (l.place y) 4 in
    let b = at (l.place z) 5 in
    let last : Stmt-F Stmt = Stmt-F.Store size a b offset in
    let one = at-register l.registers (l.place y) 4 (place-of names l fit y (z ∷ []) k.reads)
    (four-register l.registers fit.enough) in
    let two = at-register l.registers (l.place z) 5 (place-of names l fit z [] (rest-of names y (z ∷ []) k.reads))
    (five-register l.registers fit.enough) in
    all-append t (bring (l.place y) 4) (bring (l.place z) 5 ++ roll-Stmt last ∷ [])
    (bring-fine l.registers qs t f (l.place y) 4 (four-register l.registers fit.enough))
    (all-append t (bring (l.place z) 5) (roll-Stmt last ∷ [])
    (bring-fine l.registers qs t f (l.place z) 5 (five-register l.registers fit.enough))
    (all-first t last [] (leaf (t (Stmt-F.Store size a b offset)) (f.store size a b offset one two k.fit)) refl))
layer ps qs names l fit calls t f (Stmt-F.Table x size bytes y) h =
    let k = layer-facts names (x ∷ []) (y ∷ []) true true h in
    let a = at (l.place x) 4 in
    let b = at (l.place y) 4 in
    let last : Stmt-F Stmt = Stmt-F.Table a size bytes b in
    let to = at-register l.registers (l.place x) 4 (place-of names l fit x [] k.writes)
    (four-register l.registers fit.enough) in
    let from = at-register l.registers (l.place y) 4 (place-of names l fit y [] k.reads)
    (four-register l.registers fit.enough) in
    all-append t (bring (l.place y) 4) (roll-Stmt last ∷ keep (l.place x))
    (bring-fine l.registers qs t f (l.place y) 4 (four-register l.registers fit.enough))
    (all-first t last (keep (l.place x)) (leaf (t (Stmt-F.Table a size bytes b)) (f.table a size bytes b to from))
    (keep-fine l.registers qs t f (l.place x)))
layer ps qs names l fit calls t f (Stmt-F.Stackalloc x n body) h =
    let formed = list_all (λ ok. ok) (map (is_well_formed_statement ps names) (stmts ps names l t body)) in
    let k = layer-facts names (x ∷ []) [] (n % 4 == 0) (formed && true) h in
    let a = at (l.place x) 4 in
    let flat = joined (map (spilled l) (stmts ps names l t body)) in
    let whole = keep (l.place x) ++ flat in
    let made = list_all (λ ok. ok) (map (throughout t) whole) in
    let to = at-register l.registers (l.place x) 4 (place-of names l fit x [] k.writes)
    (four-register l.registers fit.enough) in
    all-first t (Stmt-F.Stackalloc a n whole) []
    (one-part (t (Stmt-F.Stackalloc a n (map (throughout t) whole))) made
    (f.stackalloc a n (map (throughout t) whole) to k.fit)
    (all-made t whole (all-append t (keep (l.place x)) flat (keep-fine l.registers qs t f (l.place x))
    (fine-all ps names l t body (and-first formed true k.parts))))) refl
layer ps qs names l fit calls t f (Stmt-F.If test first second) h =
    let formed1 = list_all (λ ok. ok) (map (is_well_formed_statement ps names) (stmts ps names l t first)) in
    let formed2 = list_all (λ ok. ok) (map (is_well_formed_statement ps names) (stmts ps names l t second)) in
    let k = layer-facts names [] (test_names test) true (formed1 && (formed2 && true)) h in
    let one = joined (map (spilled l) (stmts ps names l t first)) in
    let two = joined (map (spilled l) (stmts ps names l t second)) in
    let last : Stmt-F Stmt = Stmt-F.If (test_at l test) one two in
    let made1 = list_all (λ ok. ok) (map (throughout t) one) in
    let made2 = list_all (λ ok. ok) (map (throughout t) two) in
    all-append t (bring_test l test) (roll-Stmt last ∷ []) (test-fine l.registers qs t f l test)
    (all-first t last []
    (two-parts (t (Stmt-F.If (test_at l test) (map (throughout t) one) (map (throughout t) two))) made1 made2
    (f.if_else (test_at l test) (map (throughout t) one) (map (throughout t) two)
    (test-registers names l fit test k.reads))
    (all-made t one (fine-all ps names l t first (and-first formed1 (formed2 && true) k.parts)))
    (all-made t two
    (fine-all ps names l t second (and-first formed2 true (and-second formed1 (formed2 && true) k.parts))))) refl)
layer ps qs names l fit calls t f (Stmt-F.Loop first test last) h =
    let formed1 = list_all (λ ok. ok) (map (is_well_formed_statement ps names) (stmts ps names l t first)) in
    let formed2 = list_all (λ ok. ok) (map (is_well_formed_statement ps names) (stmts ps names l t last)) in
    let k = layer-facts names [] (test_names test) true (formed1 && (formed2 && true)) h in
    let one = joined (map (spilled l) (stmts ps names l t first)) in
    let two = joined (map (spilled l) (stmts ps names l t last)) in
    let opens = one ++ bring_test l test in
    let made1 = list_all (λ ok. ok) (map (throughout t) opens) in
    let made2 = list_all (λ ok. ok) (map (throughout t) two) in
    all-first t (Stmt-F.Loop opens (test_at l test) two) []
    (two-parts (t (Stmt-F.Loop (map (throughout t) opens) (test_at l test) (map (throughout t) two))) made1 made2
    (f.loops (map (throughout t) opens) (test_at l test) (map (throughout t) two)
    (test-registers names l fit test k.reads))
    (all-made t opens (all-append t one (bring_test l test) (fine-all ps names l t first
    (and-first formed1 (formed2 && true) k.parts)) (test-fine l.registers qs t f l test)))
    (all-made t two
    (fine-all ps names l t last (and-first formed2 true (and-second formed1 (formed2 && true) k.parts))))) refl
layer ps qs names l fit calls t f (Stmt-F.Call xs g ys) h =
    let counts = counts_fit (slice_get ps g) (length xs) (length ys) in
    let k = layer-facts names xs ys (counts && all_differ xs) true h in
    let is = and-first counts (all_differ xs) k.fit in
    let few = calls.few g (length xs) (length ys) is in
    let few_results = few.0 in
    let few_args = few.1 in
    let enough = fit.enough in
    let y : Stmt-F Stmt = Stmt-F.Call (in_order 10 (length xs)) g (in_order 10 (length ys)) in
    all-append t (passes (map l.place ys) 10) (roll-Stmt y ∷ takes (map l.place xs) 10)
    (passes-fine names l fit qs t f ys 10 k.reads (omega arith) (omega (arith, few_args, enough)))
    (all-first
    t y (takes (map l.place xs) 10) (leaf (t (Stmt-F.Call (in_order 10 (length xs)) g (in_order 10 (length ys))))
    (f.calls (length xs) g (length ys) few.0 few.1 (calls.counts g (length xs) (length ys) is)))
    (takes-fine names l fit qs t f xs 10 k.writes (omega arith) (omega (arith, few_results, enough))))
layer ps qs names l fit calls t f (Stmt-F.Read x y) h =
    let k = layer-facts names (x ∷ []) (y ∷ []) true true h in
    let a = at (l.place x) 4 in
    let b = at (l.place y) 4 in
    let last : Stmt-F Stmt = Stmt-F.Read a b in
    let to = at-register l.registers (l.place x) 4 (place-of names l fit x [] k.writes)
    (four-register l.registers fit.enough) in
    let from = at-register l.registers (l.place y) 4 (place-of names l fit y [] k.reads)
    (four-register l.registers fit.enough) in
    all-append t (bring (l.place y) 4) (roll-Stmt last ∷ keep (l.place x))
    (bring-fine l.registers qs t f (l.place y) 4 (four-register l.registers fit.enough))
    (all-first t last (keep (l.place x)) (leaf (t (Stmt-F.Read a b)) (f.reads a b to from))
    (keep-fine l.registers qs t f (l.place x)))
layer ps qs names l fit calls t f (Stmt-F.Write y z) h =
    let k = layer-facts names [] (y ∷ z ∷ []) true true h in
    let a = at (l.place y) 4 in
    let b = at (l.place z) 5 in
    let last : Stmt-F Stmt = Stmt-F.Write a b in
    let one = at-register l.registers (l.place y) 4 (place-of names l fit y (z ∷ []) k.reads)
    (four-register l.registers fit.enough) in
    let two = at-register l.registers (l.place z) 5 (place-of names l fit z [] (rest-of names y (z ∷ []) k.reads))
    (five-register l.registers fit.enough) in
    all-append t (bring (l.place y) 4) (bring (l.place z) 5 ++ roll-Stmt last ∷ [])
    (bring-fine l.registers qs t f (l.place y) 4 (four-register l.registers fit.enough))
    (all-append t (bring (l.place z) 5) (roll-Stmt last ∷ [])
    (bring-fine l.registers qs t f (l.place z) 5 (five-register l.registers fit.enough))
    (all-first t last [] (leaf (t (Stmt-F.Write a b)) (f.writes a b one two)) refl))

statement-fine : (ps qs : List FlatFunc) (names : ℕ) (l : Layout) → Fits names l → CallsFit ps qs
    → (t : Stmt-F Bool → Bool) → Fine l.registers qs t → (s : Stmt) → StatementFine ps names l t s
statement-fine ps qs names l fit calls t f = ind-Stmt (StatementFine ps names l t) (λ x y is h.
    let made = subst (LayerFine ps names l t) is (layer ps qs names l fit calls t f y)
    (sym (fold-roll-Stmt Bool (step (fits ps names)) x) ∙ h) in
    subst (λ b. all t b ≡ true) (sym (fold-roll-Stmt (List Stmt) (spilled_step l) x)) made)

statements-fine : (ps qs : List FlatFunc) (names : ℕ) (l : Layout) → Fits names l
    → CallsFit ps qs → (t : Stmt-F Bool → Bool) → Fine l.registers qs t → (xs : List Stmt)
    → list_all (is_well_formed_statement ps names) xs ≡ true → all t (joined (map (spilled l) xs)) ≡ true
statements-fine ps qs names l fit calls t f [] h = refl
statements-fine ps qs names l fit calls t f (x ∷ xs) h =
    all-append t (spilled l x) (joined (map (spilled l) xs)) (statement-fine ps qs names l fit calls t f x
    (and-first (is_well_formed_statement ps names x) (list_all (is_well_formed_statement ps names) xs) h))
    (statements-fine ps qs names l fit calls t f xs
    (and-second (is_well_formed_statement ps names x) (list_all (is_well_formed_statement ps names) xs) h))

-- ---- functions

-- what is known of a function that is well formed
pub record Head (f : FlatFunc) : Type 0 where
  pub args : are_below f.names f.args ≡ true
  pub few_args : length f.args ≤ 8
  pub results : are_below f.names f.results ≡ true
  pub few_results : length f.results ≤ 8

three-all : (a b c : Bool) → (a && b && c) ≡ true → (a ≡ true) × (b ≡ true) × (c ≡ true)
three-all true true true h = (refl, refl, refl)
three-all true true false h = absurd (cc h)
three-all true false c h = absurd (cc h)
three-all false b c h = absurd (cc h)

pub head-of : (f : FlatFunc) → is_well_formed_head f ≡ true → Head f
head-of f h =
    let whole = three-all (nat_le f.names 1048576) (is_list_of_names f.names f.args)
    (is_list_of_names f.names f.results) h in
    let args = three-all (nat_le (length f.args) 8) (are_below f.names f.args) (all_differ f.args) whole.1 in
    let results = three-all (nat_le (length f.results) 8) (are_below f.names f.results)
    (all_differ f.results) whole.2 in
    record {
      args = args.1;
      few_args = at-most (length f.args) 8 args.0;
      results = results.1;
      few_results = at-most (length f.results) 8 results.0;
    }
  where
    at-most : (a b : ℕ) → nat_le a b ≡ true → a ≤ b
    at-most a b e = grind (arith, nat_tests)

body-fine : (ps qs : List FlatFunc) (l : Layout) (f : FlatFunc) → Fits f.names l
    → CallsFit ps qs → is_well_formed_function ps f ≡ true → (t : Stmt-F Bool → Bool) → Fine l.registers qs t
    → all t ((spilled_function l f).body) ≡ true
body-fine ps qs l f fit calls h t fine = by l.slots
  where
    head : Head f
    head = head-of f (and-first (is_well_formed_head f) (list_all (is_well_formed_statement ps f.names) f.body) h)

    body : List Stmt
    body = takes (map l.place f.args) 10 ++ (joined (map (spilled l) f.body) ++ passes (map l.place f.results) 10)

    whole : all t body ≡ true
    whole =
        let few_args = head.few_args in
        let few_results = head.few_results in
        let enough = fit.enough in
        all-append t
        (takes (map l.place f.args) 10) (joined (map (spilled l) f.body) ++ passes (map l.place f.results) 10)
        (takes-fine f.names l fit qs t fine f.args 10 head.args (omega arith) (omega (arith, few_args, enough)))
        (all-append t (joined (map (spilled l) f.body)) (passes (map l.place f.results) 10)
        (statements-fine ps qs f.names l fit calls t fine f.body
        (and-second (is_well_formed_head f) (list_all (is_well_formed_statement ps f.names) f.body) h))
        (passes-fine f.names l fit qs t fine f.results 10 head.results (omega arith)
        (omega (arith, few_results, enough))))

    four : (n : ℕ) → ((4 * suc n) % 4 == 0) ≡ true
    four n = let e : (4 * suc n) % 4 ≡ 0 = omega arith in ap (λ k. k == 0) e

    by : (n : ℕ) → all t (in_buffer n body) ≡ true
    by zero = whole
    by (suc n) =
        all-first t (Stmt-F.Stackalloc 3 (4 * suc n) body) []
        (one-part (t (Stmt-F.Stackalloc 3 (4 * suc n) (map (throughout t) body)))
        (list_all (λ ok. ok) (map (throughout t) body))
        (fine.stackalloc 3 (4 * suc n) (map (throughout t) body) (three-register l.registers fit.enough) (four n))
        (all-made t body whole)) refl

passing-list : (count : ℕ) → 18 ≤ count → (n : ℕ) → n ≤ 8 → is_list_of_names count (in_order 10 n) ≡ true
passing-list count enough n few =
    three (nat_le (length (in_order 10 n)) 8) (are_below count (in_order 10 n)) (all_differ (in_order 10 n))
    (ap (λ k. nat_le k 8) (in_order-length n 10) ∙ small n few) (within-below count (in_order 10 n)
    (in_order-within count n 10 (omega arith) (omega (arith, few, enough)))) (in_order-differ n 10)
  where
    small : (n : ℕ) → n ≤ 8 → nat_le n 8 ≡ true
    small n few = grind (arith, nat_tests)

    three : (a b c : Bool) → a ≡ true → b ≡ true → c ≡ true → (a && b && c) ≡ true
    three a b c e f g = rw (e, f, g) refl

function-formed : (ps qs : List FlatFunc) (l : Layout) (f : FlatFunc) → Fits f.names l → CallsFit ps qs
    → is_well_formed_function ps f ≡ true → is_well_formed_function qs (spilled_function l f) ≡ true
function-formed ps qs l f fit calls h =
    let head = head-of f
    (and-first (is_well_formed_head f) (list_all (is_well_formed_statement ps f.names) f.body) h) in
    let list = passing-list l.registers fit.enough in
    both (is_well_formed_head (spilled_function l f))
    (list_all (is_well_formed_statement qs l.registers) ((spilled_function l f).body))
    (both (nat_le l.registers 1048576 && is_list_of_names l.registers (in_order 10 (length f.args)))
    (is_list_of_names l.registers (in_order 10 (length f.results)))
    (both (nat_le l.registers 1048576) (is_list_of_names l.registers (in_order 10 (length f.args)))
    (most l.registers fit.most) (list (length f.args) head.few_args)) (list (length f.results) head.few_results))
    (body-fine ps qs l f fit calls h (fits qs l.registers) (fits-fine l.registers fit.enough qs))
  where
    most : (a : ℕ) → a ≤ 1048576 → nat_le a 1048576 ≡ true
    most a l = grind (arith, nat_tests)

function-registers : (ps qs : List FlatFunc) (l : Layout) (f : FlatFunc) → Fits f.names l → l.registers ≤ 32
    → CallsFit ps qs → is_well_formed_function ps f ≡ true → is_register_function (spilled_function l f) ≡ true
function-registers ps qs l f fit narrow calls h =
    both (is_passing (in_order 10 (length f.args)) && is_passing (in_order 10 (length f.results)))
    (list_all (throughout uses_registers) ((spilled_function l f).body))
    (both (is_passing (in_order 10 (length f.args))) (is_passing (in_order 10 (length f.results)))
    (in_order-passing (length f.args) 10) (in_order-passing (length f.results) 10))
    (body-fine ps qs l f fit calls h uses_registers (registers-fine l.registers fit.enough narrow qs))

-- ---- programs

same-counts : (l : Layout) (f : FlatFunc) (n m : ℕ)
    → counts_fit (Some (spilled_function l f)) n m ≡ counts_fit (Some f) n m
same-counts l f n m =
    ap (λ a. (n == a) && (m == length (in_order 10 (length f.args)))) (in_order-length (length f.results) 10)
    ∙ ap (λ a. (n == length f.results) && (m == a)) (in_order-length (length f.args) 10)

counts-at : (qs ps : List FlatFunc) → SpilledFunctions qs ps → (g n m : ℕ) → counts_fit (slice_get ps g) n m ≡ true
    → counts_fit (slice_get qs g) n m ≡ true
counts-at [] [] h g n m k = absurd (cc k)
counts-at [] (p ∷ ps) h g n m k = absurd h
counts-at (q ∷ qs) [] h g n m k = absurd h
counts-at (q ∷ qs) (p ∷ ps) h zero n m k = ap (λ f. counts_fit (Some f) n m) h.0.2 ∙ same-counts h.0.0 p n m ∙ k
counts-at (q ∷ qs) (p ∷ ps) h (suc g) n m k = counts-at qs ps h.1 g n m k

pub few-at : (ps fs : List FlatFunc) → list_all (is_well_formed_function ps) fs ≡ true → (g n m : ℕ)
    → counts_fit (slice_get fs g) n m ≡ true → (n ≤ 8) × (m ≤ 8)
few-at ps [] h g n m k = absurd (cc k)
few-at ps (f ∷ fs) h zero n m k =
    let head = head-of f (and-first (is_well_formed_head f) (list_all (is_well_formed_statement ps f.names) f.body)
    (and-first (is_well_formed_function ps f) (list_all (is_well_formed_function ps) fs) h)) in (
      few n (length f.results) (and-first (n == length f.results) (m == length f.args) k) head.few_results,
      few m (length f.args) (and-second (n == length f.results) (m == length f.args) k) head.few_args,
    )
  where
    few : (a b : ℕ) → (a == b) ≡ true → b ≤ 8 → a ≤ 8
    few a b e l = grind (arith, nat_tests)
few-at ps (f ∷ fs) h (suc g) n m k =
    few-at ps fs (and-second (is_well_formed_function ps f) (list_all (is_well_formed_function ps) fs) h) g n m k

calls-fit : (qs ps : List FlatFunc) → SpilledFunctions qs ps → list_all (is_well_formed_function ps) ps ≡ true
    → CallsFit ps qs
calls-fit qs ps h formed = record { few = few-at ps ps formed; counts = counts-at qs ps h }

same-names : (qs ps : List FlatFunc) (name : List ℕ) → SpilledFunctions qs ps
    → list_any (λ g. bytes_eq g.name name) qs ≡ list_any (λ g. bytes_eq g.name name) ps
same-names [] [] name h = refl
same-names [] (p ∷ ps) name h = absurd h
same-names (q ∷ qs) [] name h = absurd h
same-names (q ∷ qs) (p ∷ ps) name h =
    ap (λ f. bytes_eq f.name name || list_any (λ g. bytes_eq g.name name) qs) h.0.2
    ∙ ap (λ b. bytes_eq p.name name || b) (same-names qs ps name h.1)

names-differ : (qs ps : List FlatFunc) → SpilledFunctions qs ps → names_differ qs ≡ names_differ ps
names-differ [] [] h = refl
names-differ [] (p ∷ ps) h = absurd h
names-differ (q ∷ qs) [] h = absurd h
names-differ (q ∷ qs) (p ∷ ps) h =
    ap (λ f. not (list_any (λ g. bytes_eq g.name f.name) qs) && names_differ qs) h.0.2
    ∙ ap (λ b. not b && names_differ qs) (same-names qs ps p.name h.1)
    ∙ ap (λ b. not (list_any (λ g. bytes_eq g.name p.name) ps) && b) (names-differ qs ps h.1)

functions-formed : (ps qs fs gs : List FlatFunc) → SpilledFunctions gs fs → CallsFit ps qs
    → list_all (is_well_formed_function ps) fs ≡ true → list_all (is_well_formed_function qs) gs ≡ true
functions-formed ps qs [] [] h calls formed = refl
functions-formed ps qs [] (g ∷ gs) h calls formed = absurd h
functions-formed ps qs (f ∷ fs) [] h calls formed = absurd h
functions-formed ps qs (f ∷ fs) (g ∷ gs) h calls formed =
    both (is_well_formed_function qs g) (list_all (is_well_formed_function qs) gs)
    (ap (is_well_formed_function qs) h.0.2 ∙ function-formed ps qs h.0.0 f h.0.1 calls
    (and-first (is_well_formed_function ps f) (list_all (is_well_formed_function ps) fs) formed))
    (functions-formed ps qs fs gs h.1 calls
    (and-second (is_well_formed_function ps f) (list_all (is_well_formed_function ps) fs) formed))

functions-registers : (ps qs fs gs : List FlatFunc) → SpilledFunctions gs fs → list_all is_narrow gs ≡ true
    → CallsFit ps qs → list_all (is_well_formed_function ps) fs ≡ true → list_all is_register_function gs ≡ true
functions-registers ps qs [] [] h narrow calls formed = refl
functions-registers ps qs [] (g ∷ gs) h narrow calls formed = absurd h
functions-registers ps qs (f ∷ fs) [] h narrow calls formed = absurd h
functions-registers ps qs (f ∷ fs) (g ∷ gs) h narrow calls formed =
    both (is_register_function g) (list_all is_register_function gs)
    (ap is_register_function h.0.2
    ∙ function-registers ps qs h.0.0 f h.0.1 (at-most h.0.0.registers
    (ap is_narrow (sym h.0.2) ∙ and-first (is_narrow g) (list_all is_narrow gs) narrow)) calls
    (and-first (is_well_formed_function ps f) (list_all (is_well_formed_function ps) fs) formed))
    (functions-registers ps qs fs gs h.1 (and-second (is_narrow g) (list_all is_narrow gs) narrow) calls
    (and-second (is_well_formed_function ps f) (list_all (is_well_formed_function ps) fs) formed))
  where
    at-most : (a : ℕ) → nat_le a 32 ≡ true → a ≤ 32
    at-most a e = grind (arith, nat_tests)

pub well-formed : (qs ps : List FlatFunc) → IsWellFormed ps → SpilledFunctions qs ps → IsWellFormed qs
well-formed qs ps formed h =
    let each = and-second (names_differ ps) (list_all (is_well_formed_function ps) ps) formed in
    both (names_differ qs) (list_all (is_well_formed_function qs) qs)
    (names-differ qs ps h ∙ and-first (names_differ ps) (list_all (is_well_formed_function ps) ps) formed)
    (functions-formed ps qs ps qs h (calls-fit qs ps h each) each)

pub register-form : (qs ps : List FlatFunc) → IsWellFormed ps → SpilledFunctions qs ps → list_all is_narrow qs ≡ true
    → IsRegisterForm qs
register-form qs ps formed h narrow =
    let each = and-second (names_differ ps) (list_all (is_well_formed_function ps) ps) formed in
    (well-formed qs ps formed h, functions-registers ps qs ps qs h narrow (calls-fit qs ps h each) each)
