-- A small function has few statements, and so has one that has grown from it.
use Rattle.std.proofs.Common.{◌≡◌, ℕ, zero, suc, ◌+◌, ◌^◌, ◌<◌, ◌≤◌, ◌&&◌, Bool, true, false, List}
use Rattle.std.proofs.Common.{[], ◌∷◌, map, length, get_or, refl, ap, subst, ◌∙◌, arith, sum}
use Rattle.std.specs.Prelude.{IsTrue}
use Rattle.std.specs.List.{AllByRecursion, list_all}
use Rattle.br_flatimp.specs.declared.program.Stmt.{Stmt, map-Stmt}
use Rattle.br_flatimp.specs.declared.program.Stmt.TheOpen.{Stmt-F}
use Rattle.br_flatimp.specs.declared.program.Stmt.TheFolds.{fold-roll-Stmt, ind-Stmt}
use Rattle.br_flatimp.specs.declared.program.FlatFunc.{FlatFunc}
use Rattle.br_flatimp.specs.Parts.{parts}
use Rattle.br_flatimp.specs.Sizes.{own_units, own_words, added, statement_count, function_count}
use Rattle.br_flatimp.specs.WellFormed.{is_well_formed_function, names_differ, IsWellFormed}
use Rattle.br_compile.specs.Lowered.{HaveGrown, IsSmall}
use Rattle.br_compile.proofs.Grown.{sum_cons}

-- statements are no more than what is counted of them, where each counts at least 1
module _ (own : Stmt-F ℕ → ℕ) (once : (y : Stmt-F ℕ) → 1 ≤ own y)
  where
    abbrev Few : Stmt → Type 0
    Few c = statement_count c ≤ added own c

    abbrev Known : Type 0
    Known = (c : Stmt) × Few c

    abbrev stmts : List Known → List Stmt
    stmts cs = map (λ e. e.0) cs

    few-all : (cs : List Known) → sum (map statement_count (stmts cs)) ≤ sum (map (added own) (stmts cs))
    few-all [] = omega arith
    few-all (c ∷ cs) =
        omega (
          arith,
          c.1,
          few-all cs,
          sum_cons (statement_count c.0) (map statement_count (stmts cs)),
          sum_cons (added own c.0) (map (added own) (stmts cs)),
        )

    abbrev counted : Stmt-F ℕ → ℕ
    counted y = 1 + sum (map sum (parts y))

    abbrev weighed : Stmt-F ℕ → ℕ
    weighed y = own y + sum (map sum (parts y))

    abbrev LayerFew : Stmt-F Stmt → Type 0
    LayerFew z = counted (map-Stmt Stmt ℕ statement_count z) ≤ weighed (map-Stmt Stmt ℕ (added own) z)

    abbrev own_once : (z : Stmt-F Stmt) → 1 ≤ own (map-Stmt Stmt ℕ (added own) z)
    own_once z = once (map-Stmt Stmt ℕ (added own) z)

    layer : (y : Stmt-F Known) → LayerFew (map-Stmt Known Stmt (λ e. e.0) y)
    layer (Stmt-F.Lit x n) = omega (arith, own_once (Stmt-F.Lit x n))
    layer (Stmt-F.Copy x y) = omega (arith, own_once (Stmt-F.Copy x y))
    layer (Stmt-F.Op x op y z) = omega (arith, own_once (Stmt-F.Op x op y z))
    layer (Stmt-F.Load x size y offset) = omega (arith, own_once (Stmt-F.Load x size y offset))
    layer (Stmt-F.Store size y z offset) = omega (arith, own_once (Stmt-F.Store size y z offset))
    layer (Stmt-F.Table x size bytes y) = omega (arith, own_once (Stmt-F.Table x size bytes y))
    layer (Stmt-F.Stackalloc x n body) = omega (arith, own_once (Stmt-F.Stackalloc x n (stmts body)), few-all body)
    layer (Stmt-F.If test first second) =
        omega (arith, own_once (Stmt-F.If test (stmts first) (stmts second)), few-all first, few-all second)
    layer (Stmt-F.Loop first test last) =
        omega (arith, own_once (Stmt-F.Loop (stmts first) test (stmts last)), few-all first, few-all last)
    layer (Stmt-F.Call xs g ys) = omega (arith, own_once (Stmt-F.Call xs g ys))
    layer (Stmt-F.Read x y) = omega (arith, own_once (Stmt-F.Read x y))
    layer (Stmt-F.Write y z) = omega (arith, own_once (Stmt-F.Write y z))

    statement-few : (c : Stmt) → Few c
    statement-few = ind-Stmt Few (λ x y is.
        let few = subst LayerFew is (layer y) in
        omega (arith, few, fold-roll-Stmt ℕ counted x, fold-roll-Stmt ℕ weighed x))

    statements-few : (cs : List Stmt) → sum (map statement_count cs) ≤ sum (map (added own) cs)
    statements-few [] = omega arith
    statements-few (c ∷ cs) =
        omega (
          arith,
          statement-few c,
          statements-few cs,
          sum_cons (statement_count c) (map statement_count cs),
          sum_cons (added own c) (map (added own) cs),
        )

one_unit : (y : Stmt-F ℕ) → 1 ≤ own_units y
one_unit (Stmt-F.Table x size bytes y) = omega arith
one_unit (Stmt-F.Call xs g ys) = omega arith
one_unit (Stmt-F.Lit x n) = omega arith
one_unit (Stmt-F.Copy x y) = omega arith
one_unit (Stmt-F.Op x op y z) = omega arith
one_unit (Stmt-F.Load x size y offset) = omega arith
one_unit (Stmt-F.Store size y z offset) = omega arith
one_unit (Stmt-F.Stackalloc x n body) = omega arith
one_unit (Stmt-F.If test first second) = omega arith
one_unit (Stmt-F.Loop first test last) = omega arith
one_unit (Stmt-F.Read x y) = omega arith
one_unit (Stmt-F.Write y z) = omega arith

one_word : (y : Stmt-F ℕ) → 1 ≤ own_words y
one_word (Stmt-F.Table x size bytes y) = omega arith
one_word (Stmt-F.Call xs g ys) = omega arith
one_word (Stmt-F.Lit x n) = omega arith
one_word (Stmt-F.Copy x y) = omega arith
one_word (Stmt-F.Op x op y z) = omega arith
one_word (Stmt-F.Load x size y offset) = omega arith
one_word (Stmt-F.Store size y z offset) = omega arith
one_word (Stmt-F.Stackalloc x n body) = omega arith
one_word (Stmt-F.If test first second) = omega arith
one_word (Stmt-F.Loop first test last) = omega arith
one_word (Stmt-F.Read x y) = omega arith
one_word (Stmt-F.Write y z) = omega arith

-- small functions have fewer statements than a word counts
pub few-statements : (ps : List FlatFunc) → AllByRecursion IsSmall ps
    → AllByRecursion (λ f. function_count f < 2 ^ 32) ps
few-statements [] small = tt
few-statements (p ∷ ps) small =
    (omega (arith, small.0.units, statements-few own_units one_unit p.body), few-statements ps small.1)

-- so have those that have grown from them
pub few-grown : (qs ps : List FlatFunc) → AllByRecursion IsSmall ps → HaveGrown qs ps
    → AllByRecursion (λ f. function_count f < 2 ^ 32) qs
few-grown [] [] small grown = tt
few-grown [] (p ∷ ps) small grown = absurd grown
few-grown (q ∷ qs) [] small grown = absurd grown
few-grown (q ∷ qs) (p ∷ ps) small grown = (
  omega (arith, small.0.units, grown.0.bulk, statements-few own_words one_word q.body),
  few-grown qs ps small.1 grown.1,
)

-- ---- one function of a program

and-first : (a b : Bool) → (a && b) ≡ true → a ≡ true
and-first true b e = refl
and-first false b e = absurd (cc e)

and-second : (a b : Bool) → (a && b) ≡ true → b ≡ true
and-second true b e = e
and-second false b e = absurd (cc e)

item-of : (t : FlatFunc → Bool) (gs : List FlatFunc) (i : ℕ) (f : FlatFunc) → list_all t gs ≡ true → i < length gs
    → f ≡ get_or gs i f
    → t f ≡ true
item-of t [] i f all inside is = absurd (omega arith)
item-of t (g ∷ gs) zero f all inside is = ap t is ∙ and-first (t g) (list_all t gs) all
item-of t (g ∷ gs) (suc i) f all inside is =
    item-of t gs i f (and-second (t g) (list_all t gs) all) (omega arith) is

pub item-formed : (fs : List FlatFunc) (i : ℕ) (f : FlatFunc) → IsWellFormed fs → i < length fs → f ≡ get_or fs i f
    → IsTrue (is_well_formed_function fs f)
item-formed fs i f formed inside is =
    item-of (is_well_formed_function fs) fs i f
    (and-second (names_differ fs) (list_all (is_well_formed_function fs) fs) formed) inside is
