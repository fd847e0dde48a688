-- Programs with constants are well formed where those are that they come from.
use Rattle.std.proofs.Common.{◌≡◌, ℕ, zero, suc, ◌&&◌, Bool, true, false, if◌then◌else◌, nat_lt, List, []}
use Rattle.std.proofs.Common.{◌∷◌, map, length, Option, Some, None, refl, sym, ap, subst, ◌∙◌, slice_get}
use mathlib.Core.Path.{fun_ext}
use Rattle.std.specs.List.{list_all, list_any}
use Rattle.std.specs.Str.{bytes_eq}
use Rattle.br_words.specs.Words.{signed}
use Rattle.br_words.specs.declared.operation.BinOp.{BinOp}
use Rattle.br_flatimp.specs.declared.program.Operand.{Operand}
use Rattle.br_flatimp.specs.declared.program.Operand.TheVariants as operand
use Rattle.br_flatimp.specs.declared.program.Stmt.{Stmt, map-Stmt}
use Rattle.br_flatimp.specs.declared.program.Stmt.TheOpen.{Stmt-F}
use Rattle.br_flatimp.specs.declared.program.Stmt.TheFolds.{fold-roll-Stmt, ind-Stmt}
use Rattle.br_flatimp.specs.declared.program.FlatFunc.{FlatFunc}
use Rattle.br_flatimp.specs.Parts.{parts, operand_names, throughout}
use Rattle.br_flatimp.specs.WellFormed.{fits_operation, operand_fits, are_below, all_differ, counts_fit}
use Rattle.br_flatimp.specs.WellFormed.{fits, is_well_formed_statement, is_well_formed_head}
use Rattle.br_flatimp.specs.WellFormed.{is_well_formed_function, names_differ, IsWellFormed}
use Rattle.br_immediates.specs.Immediates.{Literals, no_literals, operand_of, with_constant, made_all, turn}
use Rattle.br_immediates.specs.Immediates.{with_constants, function_with_constants, program_with_constants}
use Rattle.br_immediates.proofs.Turns.{layer, fold-made}
use Rattle.br_immediates.proofs.Runs.{and-first, and-second}

both : (a b : Bool) → a ≡ true → b ≡ true → (a && b) ≡ true
both a b e f = rw (e, f) refl

-- ---- operands

abbrev own : ℕ → ℕ → BinOp → ℕ → Operand → Bool
own names x op y z = are_below names (x ∷ []) && are_below names (y ∷ operand_names z) && operand_fits op z

fewer-names : (a b c d : Bool) → ((a && (b && (c && true))) && true) ≡ true → d ≡ true
    → ((a && (b && true)) && d) ≡ true
fewer-names true true true d h e = e
fewer-names true true false d h e = absurd (cc h)
fewer-names true false c d h e = absurd (cc h)
fewer-names false b c d h e = absurd (cc h)

own-fits : (names x : ℕ) (op : BinOp) (y : ℕ) (known : Literals) (z : Operand) → own names x op y z ≡ true
    → own names x op y (with_constant op known z) ≡ true
own-fits names x op y known (operand.Const c) h = h
own-fits names x op y known (operand.Name z) h = by (known z)
  where
    by : (o : Option ℕ) → own names x op y (operand_of op z o) ≡ true
    by None = h
    by (Some n) = here (fits_operation op (signed n)) refl
      where
        here : (b : Bool) → fits_operation op (signed n) ≡ b
            → own names x op y (if b then operand.Const (signed n) else operand.Name z) ≡ true
        here true e =
            fewer-names (are_below names (x ∷ [])) (nat_lt y names) (nat_lt z names) (fits_operation op (signed n)) h e
        here false e = h

-- ---- statements

abbrev fits_step : List FlatFunc → ℕ → Stmt-F Bool → Bool
fits_step fs names y = fits fs names y && list_all (list_all (λ ok. ok)) (parts y)

abbrev Fine : List FlatFunc → ℕ → Stmt → Type 0
Fine fs names c =
    (known : Literals) → is_well_formed_statement fs names c ≡ true
    → is_well_formed_statement fs names ((turn c).made known) ≡ true

abbrev Each : List FlatFunc → ℕ → Type 0
Each fs names = (c : Stmt) × Fine fs names c

abbrev stmts : (fs : List FlatFunc) (names : ℕ) → List (Each fs names) → List Stmt
stmts fs names cs = map (λ e. e.0) cs

all-fine : (fs : List FlatFunc) (names : ℕ) (known : Literals) (cs : List (Each fs names))
    → list_all (λ ok. ok) (map (is_well_formed_statement fs names) (stmts fs names cs)) ≡ true
    → list_all (λ ok. ok) (map (is_well_formed_statement fs names)
    (made_all known (map turn (stmts fs names cs)))) ≡ true
all-fine fs names known [] h = refl
all-fine fs names known (e ∷ cs) h =
    let next : Literals = (turn e.0).after known in
    let one = is_well_formed_statement fs names e.0 in
    let rest = list_all (λ ok. ok) (map (is_well_formed_statement fs names) (stmts fs names cs)) in
    both (is_well_formed_statement fs names ((turn e.0).made known))
    (list_all (λ ok. ok) (map (is_well_formed_statement fs names) (made_all next (map turn (stmts fs names cs)))))
    (e.1 known (and-first one rest h)) (all-fine fs names next cs (and-second one rest h))

abbrev opened : (fs : List FlatFunc) (names : ℕ) → Stmt-F (Each fs names) → Stmt-F Stmt
opened fs names y = map-Stmt (Each fs names) Stmt (λ e. e.0) y

abbrev LayerFine : List FlatFunc → ℕ → Literals → Stmt-F Stmt → Type 0
LayerFine fs names known z =
    fits_step fs names (map-Stmt Stmt Bool (is_well_formed_statement fs names) z) ≡ true
    → fits_step fs names (map-Stmt Stmt Bool (is_well_formed_statement fs names) (layer known z)) ≡ true

-- a statement with one part, and one with two
one-part : (a b c : Bool) → (a && (b && true)) ≡ true → (b ≡ true → c ≡ true) → (a && (c && true)) ≡ true
one-part true true c h k = rw (k refl) refl
one-part true false c h k = absurd (cc h)
one-part false b c h k = absurd (cc h)

two-parts : (a b c d e : Bool) → (a && (b && (c && true))) ≡ true → (b ≡ true → d ≡ true) → (c ≡ true → e ≡ true)
    → (a && (d && (e && true))) ≡ true
two-parts true true true d e h k l = rw (k refl, l refl) refl
two-parts true true false d e h k l = absurd (cc h)
two-parts true false c d e h k l = absurd (cc h)
two-parts false b c d e h k l = absurd (cc h)

layer-fine : (fs : List FlatFunc) (names : ℕ) (known : Literals) (y : Stmt-F (Each fs names))
    → LayerFine fs names known (opened fs names y)
layer-fine fs names known (Stmt-F.Lit x n) h = h
layer-fine fs names known (Stmt-F.Copy x y) h = h
layer-fine fs names known (Stmt-F.Op x op y z) h =
    both (own names x op y (with_constant op known z)) true
    (own-fits names x op y known z (and-first (own names x op y z) true h)) refl
layer-fine fs names known (Stmt-F.Load x size y offset) h = h
layer-fine fs names known (Stmt-F.Store size y z offset) h = h
layer-fine fs names known (Stmt-F.Table x size bytes y) h = h
layer-fine fs names known (Stmt-F.Stackalloc x n body) h =
    one-part (fits fs names (Stmt-F.Stackalloc x n (map (is_well_formed_statement fs names) (stmts fs names body))))
    (list_all (λ ok. ok) (map (is_well_formed_statement fs names) (stmts fs names body)))
    (list_all (λ ok. ok) (map (is_well_formed_statement fs names)
    (made_all no_literals (map turn (stmts fs names body)))))
    h (all-fine fs names no_literals body)
layer-fine fs names known (Stmt-F.If test first second) h =
    two-parts (fits fs names (Stmt-F.If test (map (is_well_formed_statement fs names) (stmts fs names first))
    (map (is_well_formed_statement fs names) (stmts fs names second))))
    (list_all (λ ok. ok) (map (is_well_formed_statement fs names) (stmts fs names first)))
    (list_all (λ ok. ok) (map (is_well_formed_statement fs names) (stmts fs names second)))
    (list_all (λ ok. ok) (map (is_well_formed_statement fs names)
    (made_all no_literals (map turn (stmts fs names first)))))
    (list_all (λ ok. ok) (map (is_well_formed_statement fs names)
    (made_all no_literals (map turn (stmts fs names second)))))
    h (all-fine fs names no_literals first) (all-fine fs names no_literals second)
layer-fine fs names known (Stmt-F.Loop first test last) h =
    two-parts (fits fs names (Stmt-F.Loop (map (is_well_formed_statement fs names) (stmts fs names first)) test
    (map (is_well_formed_statement fs names) (stmts fs names last))))
    (list_all (λ ok. ok) (map (is_well_formed_statement fs names) (stmts fs names first)))
    (list_all (λ ok. ok) (map (is_well_formed_statement fs names) (stmts fs names last)))
    (list_all (λ ok. ok) (map (is_well_formed_statement fs names)
    (made_all no_literals (map turn (stmts fs names first)))))
    (list_all (λ ok. ok) (map (is_well_formed_statement fs names)
    (made_all no_literals (map turn (stmts fs names last)))))
    h (all-fine fs names no_literals first) (all-fine fs names no_literals last)
layer-fine fs names known (Stmt-F.Call xs g ys) h = h
layer-fine fs names known (Stmt-F.Read x y) h = h
layer-fine fs names known (Stmt-F.Write y z) h = h

statement-fine : (fs : List FlatFunc) (names : ℕ) (c : Stmt) → Fine fs names c
statement-fine fs names = ind-Stmt (Fine fs names) (λ x y is known h.
    fold-made (fits_step fs names) known x
    ∙ subst (LayerFine fs names known) is (layer-fine fs names known y)
    (sym (fold-roll-Stmt Bool (fits_step fs names) x) ∙ h))

body-fine : (fs : List FlatFunc) (names : ℕ) (known : Literals) (cs : List Stmt)
    → list_all (is_well_formed_statement fs names) cs ≡ true
    → list_all (is_well_formed_statement fs names) (with_constants known cs) ≡ true
body-fine fs names known [] h = refl
body-fine fs names known (c ∷ cs) h =
    let next : Literals = (turn c).after known in
    let one = is_well_formed_statement fs names c in
    let rest = list_all (is_well_formed_statement fs names) cs in
    both (is_well_formed_statement fs names ((turn c).made known))
    (list_all (is_well_formed_statement fs names) (with_constants next cs))
    (statement-fine fs names c known (and-first one rest h)) (body-fine fs names next cs (and-second one rest h))

-- ---- programs

counts-same : (fs : List FlatFunc) (g n m : ℕ)
    → counts_fit (slice_get (program_with_constants fs) g) n m ≡ counts_fit (slice_get fs g) n m
counts-same [] g n m = refl
counts-same (f ∷ fs) zero n m = refl
counts-same (f ∷ fs) (suc g) n m = counts-same fs g n m

fits-same : (fs : List FlatFunc) (names : ℕ) {X : Type 0} (y : Stmt-F X)
    → fits (program_with_constants fs) names y ≡ fits fs names y
fits-same fs names (Stmt-F.Lit x n) = refl
fits-same fs names (Stmt-F.Copy x y) = refl
fits-same fs names (Stmt-F.Op x op y z) = refl
fits-same fs names (Stmt-F.Load x size y offset) = refl
fits-same fs names (Stmt-F.Store size y z offset) = refl
fits-same fs names (Stmt-F.Table x size bytes y) = refl
fits-same fs names (Stmt-F.Stackalloc x n body) = refl
fits-same fs names (Stmt-F.If test first second) = refl
fits-same fs names (Stmt-F.Loop first test last) = refl
fits-same fs names (Stmt-F.Call xs g ys) =
    ap (λ b. are_below names xs && are_below names ys && (b && all_differ xs))
    (counts-same fs g (length xs) (length ys))
fits-same fs names (Stmt-F.Read x y) = refl
fits-same fs names (Stmt-F.Write y z) = refl

formed-same : (fs : List FlatFunc) (names : ℕ)
    → is_well_formed_statement (program_with_constants fs) names ≡ is_well_formed_statement fs names
formed-same fs names = ap (λ (t : Stmt-F Bool → Bool). throughout t) (fun_ext (λ y. fits-same fs names y))

function-fine : (fs : List FlatFunc) (f : FlatFunc) → is_well_formed_function fs f ≡ true
    → is_well_formed_function (program_with_constants fs) (function_with_constants f) ≡ true
function-fine fs f h =
    let old = list_all (is_well_formed_statement fs f.names) f.body in
    both (is_well_formed_head f) (list_all (is_well_formed_statement (program_with_constants fs) f.names)
    (with_constants no_literals f.body))
    (and-first (is_well_formed_head f) old h)
    (ap (λ (t : Stmt → Bool). list_all t (with_constants no_literals f.body)) (formed-same fs f.names)
    ∙ body-fine fs f.names no_literals f.body (and-second (is_well_formed_head f) old h))

functions-fine : (fs gs : List FlatFunc) → list_all (is_well_formed_function fs) gs ≡ true
    → list_all (is_well_formed_function (program_with_constants fs)) (program_with_constants gs) ≡ true
functions-fine fs [] h = refl
functions-fine fs (g ∷ gs) h =
    let one = is_well_formed_function fs g in
    let rest = list_all (is_well_formed_function fs) gs in
    both (is_well_formed_function (program_with_constants fs) (function_with_constants g))
    (list_all (is_well_formed_function (program_with_constants fs)) (program_with_constants gs))
    (function-fine fs g (and-first one rest h)) (functions-fine fs gs (and-second one rest h))

any-same : (name : List ℕ) (fs : List FlatFunc)
    → list_any (λ g. bytes_eq g.name name) (program_with_constants fs) ≡ list_any (λ g. bytes_eq g.name name) fs
any-same name [] = refl
any-same name (f ∷ fs) = rw (any-same name fs) refl

names-same : (fs : List FlatFunc) → names_differ (program_with_constants fs) ≡ names_differ fs
names-same [] = refl
names-same (f ∷ fs) = rw (any-same f.name fs, names-same fs) refl

pub program-formed : (fs : List FlatFunc) → IsWellFormed fs → IsWellFormed (program_with_constants fs)
program-formed fs h =
    let all = list_all (is_well_formed_function fs) fs in
    both (names_differ (program_with_constants fs))
    (list_all (is_well_formed_function (program_with_constants fs)) (program_with_constants fs))
    (names-same fs ∙ and-first (names_differ fs) all h) (functions-fine fs fs (and-second (names_differ fs) all h))
