-- The sizes of the statements of expressions.
use Rattle.std.proofs.Common.{◌≡◌, ℕ, suc, ◌+◌, ◌-◌, ◌<◌, ◌≤◌, max, Bool, true, false, if◌then◌else◌, ◌&&◌, List}
use Rattle.std.proofs.Common.{[], ◌∷◌, ◌++◌, map, length, Option, Some, None, refl, sym, ap, subst, arith, ℤ, pos}
use Rattle.std.proofs.lemmas.List.{length-append}
use Rattle.std.proofs.lemmas.List.Sums.{sum-map, sum_by-cons}
use Rattle.br_words.specs.declared.size.Size.{Size}
use Rattle.br_words.specs.declared.operation.BinOp.{BinOp}
use Rattle.br_syntax.specs.declared.program.Expr.{Expr, map-Expr}
use Rattle.br_syntax.specs.declared.program.Expr.TheOpen.{Expr-F}
use Rattle.br_syntax.specs.declared.program.Expr.TheViews.{roll-Expr}
use Rattle.br_syntax.specs.declared.program.Expr.TheFolds.{fold-roll-Expr, ind-Expr}
use Rattle.br_source_meaning.specs.Values.{Name}
use Rattle.br_measure.specs.Bulk as bulk
use Rattle.br_measure.specs.Bulk.{expression_bulk, expressions_bulk}
use Rattle.br_flatimp.specs.declared.program.Operand.TheVariants as operand
use Rattle.br_flatimp.specs.declared.program.Rel.{Rel}
use Rattle.br_flatimp.specs.declared.program.Cond.{Cond}
use Rattle.br_flatimp.specs.declared.program.Cond.TheVariants.{NonZero, Compare}
use Rattle.br_flatimp.specs.declared.program.Stmt.{Stmt}
use Rattle.br_flatimp.specs.declared.program.Stmt.TheOpen.{Stmt-F}
use Rattle.br_flatimp.specs.declared.program.Stmt.TheViews.{roll-Stmt}
use Rattle.br_flatimp.specs.declared.program.FlatFunc.{FlatFunc}
use Rattle.br_flatimp.specs.Parts.{test_names}
use Rattle.br_flatimp.specs.Sizes.{words_for}
use Rattle.br_flatimp.specs.WellFormed.{fits_operation, is_immediate}
use Rattle.br_flatten.specs.Constants.{constant, left_constant, byte_offset}
use Rattle.br_flatten.specs.Tests.{Test, relation, asks_zero, zero_before, turned, next_turned, negation}
use Rattle.br_flatten.specs.Scope.{Scope, temporaries, holder}
use Rattle.br_flatten.specs.Flatten.{above, number, is_listed, lists_step, lists_expression, lists_expressions}
use Rattle.br_flatten.specs.Flatten.{Address, Flat, place, next, code, codes_of, places_of, compared_test, itself}
use Rattle.br_flatten.specs.Flatten.{with_constant, by_constants, by_offsets, operation, expression_step, expression}
use Rattle.br_flatten.specs.Places.{variables_step, expression_variables, expressions_variables}
use Rattle.br_flatten.proofs.Numbers.{and-first, and-second, number-below}
use Rattle.br_flatten.proofs.Holders.{holder-between}
use Rattle.br_flatten.proofs.Literals.{stands, exchanged, offset-stands}
use Rattle.br_flatten.proofs.Fine.{Fine, fine-none, fine-append, fine-within, fine-one, fine-if}

-- An expression's statements, where its variables and a weight make its bulk. The weight bounds its
-- temporaries.
pub record Sized (fs : List FlatFunc) (n : ℕ) (lists : Bool) (size : ℕ) (vs : List Name) (flat : Flat) : Type 0 where
  pub weight : ℕ
  pub split : length vs + weight ≡ size
  pub variable : (y : ℕ) → flat.variable ≡ Some y → lists ≡ true → y < n
  pub some : flat.variable ≡ None → 0 < weight
  pub into : (x free : ℕ) → lists ≡ true → n ≤ free
      → Fine fs (max (suc x) (free + (weight - 1))) size 0 [] (flat.into x free)

-- an operand's statements, its place, and what is free after it
pub record Coded (fs : List FlatFunc) (size weight free : ℕ) (flat : Flat) : Type 0 where
  pub body : Fine fs (free + weight) size 0 [] (code flat free)
  pub at : place flat.variable free < free + weight + 1
  pub below : place flat.variable free + 1 ≤ free + weight
  pub after : next flat.variable free ≤ free + weight
  pub grows : free ≤ next flat.variable free

pub coded : (fs : List FlatFunc) (n : ℕ) (lists : Bool) (size : ℕ) (vs : List Name) (flat : Flat)
    → (e : Sized fs n lists size vs flat) → lists ≡ true → (free : ℕ) → n ≤ free → Coded fs size e.weight free flat
coded fs n lists size vs flat e listed free le = by flat.variable refl
  where
    by : (o : Option ℕ) → flat.variable ≡ o → Coded fs size e.weight free (record flat { variable = o })
    by (Some y) is =
        let below = e.variable y is listed in
        record {
          body = fine-none fs (free + e.weight) size 0;
          at = omega (arith, below, le);
          below = omega (arith, below, le);
          after = omega arith;
          grows = omega arith;
        }
    by None is =
        let some = e.some is in
        record {
          body = fine-within fs (max (suc free) (suc free + (e.weight - 1))) size 0
              (free + e.weight) size 0 [] (flat.into free (suc free)) (omega (arith, some)) (omega arith) (omega arith)
              (e.into free (suc free) listed (omega (arith, le)));
          at = omega (arith, some);
          below = omega (arith, some);
          after = omega (arith, some);
          grows = omega arith;
        }

-- ---- the forms

none_is_not : {A : Type 0} (y : ℕ) → None ≡ Some y → A
none_is_not y e = absurd (cc e)

literal-sized : (fs : List FlatFunc) (scope : Scope) (n : ℕ)
    → Sized fs (temporaries scope) true 1 [] (expression_step scope (Expr-F.Literal n))
literal-sized fs scope n = record {
  weight = 1;
  split = refl;
  variable = λ y e listed. (holder-between scope n y e).below;
  some = λ e. omega arith;
  into = λ x free listed le. fine-one fs (max (suc x) (free + (1 - 1))) 1 0 [] (Stmt-F.Lit x n) (omega arith)
      (omega arith) (omega arith) refl refl;
}

variable-sized : (fs : List FlatFunc) (scope : Scope) (z : Name)
    → Sized fs (temporaries scope) (is_listed scope.names z) 1 (z ∷ []) (expression_step scope (Expr-F.Var z))
variable-sized fs scope z = record {
  weight = 0;
  split = refl;
  variable = λ y e listed. let same : number scope.names z ≡ y = cc e in
      let below = number-below scope.names z listed in omega (arith, same, below);
  some = λ e. absurd (cc e);
  into = λ x free listed le.
      let below = number-below scope.names z listed in
      fine-one fs (max (suc x) (free + (0 - 1))) 1 0 [] (Stmt-F.Copy x (number scope.names z))
      (omega (arith, below, le)) (omega arith) (omega arith) refl refl;
}

table-sized : (fs : List FlatFunc) (scope : Scope) (lists : Bool) (a : ℕ) (vs : List Name) (flat : Flat)
    → Sized fs (temporaries scope) lists a vs flat → (size : Size) (bytes : List ℕ)
    → Sized fs (temporaries scope) lists (1 + words_for (length bytes) + a) vs
    (expression_step scope (Expr-F.Table size bytes flat))
table-sized fs scope lists a vs flat e size bytes = record {
  weight = 1 + words_for (length bytes) + e.weight;
  split = let split = e.split in omega (arith, split);
  variable = λ y e listed. none_is_not y e;
  some = λ e. omega arith;
  into = λ x free listed le.
      let c = coded fs (temporaries scope) lists a vs flat e listed free le in
      let below = c.below in
      let words = words_for (length bytes) in
      let top = max (suc x) (free + (1 + words + e.weight - 1)) in
      let last = fine-one fs top (1 + words) 0 [] (Stmt-F.Table x size bytes (place flat.variable free))
      (omega (arith, below)) (omega arith) (omega arith) refl refl in
      fine-within fs top (a + (1 + words)) 0 top (1 + words + a)
      0 [] (code flat free ++ roll-Stmt (Stmt-F.Table x size bytes (place flat.variable free)) ∷ []) (omega arith)
      (omega arith) (omega arith)
      (fine-append fs top a (1 + words) 0 [] [] (code flat free)
      (roll-Stmt (Stmt-F.Table x size bytes (place flat.variable free)) ∷ [])
      (fine-within fs (free + e.weight) a 0 top a 0 [] (code flat free) (omega arith) (omega arith) (omega arith)
      c.body) last);
}

constant-fine : (fs : List FlatFunc) (n : ℕ) (lists : Bool) (size : ℕ) (vs : List Name) (one : Flat) (e : Sized fs n
    lists size vs one) (op : BinOp) (c : ℤ) → fits_operation op c ≡ true
    → (x free top total : ℕ) → lists ≡ true → n ≤ free → suc x ≤ top → free + e.weight ≤ top → size + 1 ≤ total
    → Fine fs top total 0 [] (with_constant op one c x free)
constant-fine fs n lists size vs one e op c fits x free top total listed le inside wide more =
    let k = coded fs n lists size vs one e listed free le in
    let below = k.below in
    let y : Stmt-F Stmt = Stmt-F.Op x op (place one.variable free) (operand.Const c) in
    let last = fine-one fs top 1 0 [] y (omega (arith, below, inside, wide)) (omega arith) (omega arith) refl
    (ap (λ b. b && true) fits) in
    fine-within fs top (size + 1) 0 top total 0 [] (code one free ++ roll-Stmt y ∷ []) (omega arith) more (omega arith)
    (fine-append fs top size 1 0 [] [] (code one free) (roll-Stmt y ∷ [])
    (fine-within fs (free + e.weight) size 0 top size 0 [] (code one free) wide (omega arith) (omega arith) k.body)
    last)

op-sized : (fs : List FlatFunc) (scope : Scope) (lists more : Bool) (a b : ℕ) (vs ws : List Name) (one two : Flat)
    → Sized fs (temporaries scope) lists a vs one → Sized fs (temporaries scope) more b ws two → (op : BinOp)
    → Sized fs (temporaries scope) (lists && more) (1 + a + b) (vs ++ ws) (expression_step scope (Expr-F.Op op one two))
op-sized fs scope lists more a b vs ws one two e f op = record {
  weight = 1 + e.weight + f.weight;
  split = let split = e.split in let split' = f.split in let len = length-append vs ws in
      omega (arith, split, split', len);
  variable = λ y e listed. none_is_not y e;
  some = λ e. omega arith;
  into = by (constant op two.literal) (left_constant op one.literal) refl refl;
}
  where
    by : (c d : Option ℤ) → constant op two.literal ≡ c → left_constant op one.literal ≡ d → (x free : ℕ)
        → (lists && more) ≡ true → temporaries scope ≤ free
        → Fine fs (max (suc x) (free + (1 + e.weight + f.weight - 1))) (1 + a + b) 0 []
        (by_constants c d op one two x free)
    by (Some c) d is is' x free listed le =
        let top = max (suc x) (free + (1 + e.weight + f.weight - 1)) in
        constant-fine fs (temporaries scope) lists a vs one e op c (stands op two.literal c is).fits x free top
        (1 + a + b) (and-first lists more listed) le (omega arith) (omega arith) (omega arith)
    by None (Some d) is is' x free listed le =
        let top = max (suc x) (free + (1 + e.weight + f.weight - 1)) in
        constant-fine fs (temporaries scope) more b ws two f op d (exchanged op one.literal d is').stands.fits x free
        top (1 + a + b) (and-second lists more listed) le (omega arith) (omega arith) (omega arith)
    by None None is is' x free listed le =
        let c = coded fs (temporaries scope) lists a vs one e (and-first lists more listed) free le in
        let below = c.below in
        let after = c.after in
        let grows = c.grows in
        let onward = next one.variable free in
        let d = coded fs (temporaries scope) more b ws two f (and-second lists more listed) onward
        (omega (arith, le, grows)) in
        let below' = d.below in
        let top = max (suc x) (free + (1 + e.weight + f.weight - 1)) in
        let y : Stmt-F Stmt = Stmt-F.Op x op (place one.variable free) (operand.Name (place two.variable onward)) in
        let last = fine-one fs top 1 0 [] y (omega (arith, below, below', after)) (omega arith)
        (omega arith) refl refl in
        let rest = fine-append fs top b 1 0 [] [] (code two onward) (roll-Stmt y ∷ [])
        (fine-within fs (onward + f.weight) b 0 top b 0 [] (code two onward) (omega (arith, after)) (omega arith)
        (omega arith) d.body) last in
        fine-within fs top (a + (b + 1)) 0 top (1 + a + b) 0 [] (code one free ++ (code two onward ++ roll-Stmt y ∷ []))
        (omega arith) (omega arith) (omega arith)
        (fine-append fs top a (b + 1) 0 [] [] (code one free) (code two onward ++ roll-Stmt y ∷ [])
        (fine-within fs (free + e.weight) a 0 top a 0 [] (code one free) (omega arith) (omega arith)
        (omega arith) c.body) rest)

-- ---- tests and addresses

-- a test's statements, the scope that it reads, and what is free after it
pub record Tested (fs : List FlatFunc) (size weight free : ℕ) (t : Test) : Type 0 where
  pub body : Fine fs (free + weight) size 0 [] t.before
  pub below : above (test_names t.cond) ≤ free + weight
  pub after : t.next ≤ free + weight

-- an address's statements, its place, what is free after it, and that its byte offset is in range
pub record AddressSized (fs : List FlatFunc) (size weight free : ℕ) (a : Address) : Type 0 where
  pub body : Fine fs (free + weight) size 0 [] a.before
  pub below : a.at + 1 ≤ free + weight
  pub after : a.next ≤ free + weight
  pub grows : free ≤ a.next
  pub fits : is_immediate a.offset ≡ true

-- the statements of an expression, its test, and the bytes at it
pub record Measured (fs : List FlatFunc) (n : ℕ) (lists : Bool) (size : ℕ) (vs : List Name) (flat : Flat) : Type 0 where
  pub words : Sized fs n lists size vs flat
  pub test : (free : ℕ) → lists ≡ true → n ≤ free → Tested fs size words.weight free (flat.test free)
  pub address : (free : ℕ) → lists ≡ true → n ≤ free → AddressSized fs size words.weight free (flat.address free)

word-tested : (fs : List FlatFunc) (size weight free : ℕ) (flat : Flat) → Coded fs size weight free flat
    → Tested fs size weight free
    (record { before = code flat free; cond = NonZero (place flat.variable free); next = next flat.variable free })
word-tested fs size weight free flat c = let below = c.below in
    record { body = c.body; below = omega (arith, below); after = c.after }

moved-sized : (fs : List FlatFunc) (size weight size' weight' free : ℕ) (flat : Flat) (c : ℤ) → size ≤ size'
    → weight ≤ weight' → is_immediate c ≡ true → Coded fs size weight free flat
    → AddressSized fs size' weight' free
    (record { before = code flat free; at = place flat.variable free; next = next flat.variable free; offset = c })
moved-sized fs size weight size' weight' free flat c more wider fits k =
    let below = k.below in
    let after = k.after in
    record {
      body = fine-within fs (free + weight) size 0 (free + weight') size' 0 [] (code flat free) (omega (arith, wider))
          more (omega arith) k.body;
      below = omega (arith, below, wider);
      after = omega (arith, after, wider);
      grows = k.grows;
      fits = fits;
    }

itself-measured : (fs : List FlatFunc) (n : ℕ) (lists : Bool) (size : ℕ) (vs : List Name) (variable literal : Option ℕ)
    (into : ℕ → ℕ → List Stmt)
    → Sized fs n lists size vs (itself variable literal into)
    → Measured fs n lists size vs (itself variable literal into)
itself-measured fs n lists size vs variable literal into e =
    let flat = itself variable literal into in
    record {
      words = e;
      test = λ free listed le. word-tested fs size e.weight free flat (coded fs n lists size vs flat e listed free le);
      address = λ free listed le. moved-sized fs size e.weight size e.weight free flat (pos 0) (omega arith)
          (omega arith) refl (coded fs n lists size vs flat e listed free le);
    }

load-sized : (fs : List FlatFunc) (scope : Scope) (lists : Bool) (a : ℕ) (vs : List Name) (flat : Flat)
    → Measured fs (temporaries scope) lists a vs flat → (size : Size)
    → Sized fs (temporaries scope) lists (1 + a) vs (expression_step scope (Expr-F.Load size flat))
load-sized fs scope lists a vs flat e size = record {
  weight = 1 + e.words.weight;
  split = let split = e.words.split in omega (arith, split);
  variable = λ y e listed. none_is_not y e;
  some = λ e. omega arith;
  into = λ x free listed le.
      let at = flat.address free in
      let c = e.address free listed le in
      let below = c.below in
      let top = max (suc x) (free + (1 + e.words.weight - 1)) in
      let y : Stmt-F Stmt = Stmt-F.Load x size at.at at.offset in
      let last = fine-one fs top 1 0 [] y (omega (arith, below)) (omega arith) (omega arith) refl
      (ap (λ b. b && true) c.fits) in
      fine-within fs top (a + 1) 0 top (1 + a) 0 [] (at.before ++ roll-Stmt y ∷ []) (omega arith)
      (omega arith) (omega arith)
      (fine-append fs top a 1 0 [] [] at.before (roll-Stmt y ∷ [])
      (fine-within fs (free + e.words.weight) a 0 top a 0 [] at.before (omega arith) (omega arith) (omega arith) c.body)
      last);
}

negation-tested : (fs : List FlatFunc) (size weight size' weight' free : ℕ) (t : Test) (zero : Option ℕ)
    → size + 1 ≤ size' → weight + 1 ≤ weight' → ((y : ℕ) → zero ≡ Some y → y < free) → Tested fs size weight free t
    → Tested fs size' weight' free (negation zero t)
negation-tested fs size weight size' weight' free t zero more wider held e = by zero held t.cond t.next e.below e.after
  where
    top : ℕ
    top = free + weight'

    whole : Fine fs top size' 0 [] (t.before ++ [])
    whole =
        fine-within fs top (size + 1) 0 top size' 0 [] (t.before ++ []) (omega arith) more (omega arith)
        (fine-append fs top size 1 0 [] [] t.before [] (fine-within fs (free + weight) size 0 top size 0 [] t.before
        (omega (arith, wider)) (omega arith) (omega arith) e.body) (fine-none fs top 1 0))

    by : (zero : Option ℕ) → ((y : ℕ) → zero ≡ Some y → y < free) → (c : Cond) (after : ℕ)
        → above (test_names c) ≤ free + weight → after ≤ free + weight
        → Tested fs size' weight' free (record {
          before = t.before ++ zero_before zero c after;
          cond = turned zero c after;
          next = next_turned zero c after;
        })
    by zero held (Compare r y z) after below up =
        record { body = whole; below = omega (arith, below, wider); after = omega (arith, up, wider) }
    by (Some k) held (NonZero y) after below up =
        let inside = held k refl in
        record { body = whole; below = omega (arith, below, inside, wider); after = omega (arith, up, wider) }
    by None held (NonZero y) after below up =
        let last = fine-one fs top 1 0 [] (Stmt-F.Lit after 0) (omega (arith, up, wider)) (omega arith)
        (omega arith) refl refl in
        record {
          body = fine-within fs top (size + 1) 0 top size' 0 [] (t.before ++ roll-Stmt (Stmt-F.Lit after 0) ∷ [])
              (omega arith) more (omega arith)
              (fine-append fs top size 1 0 [] [] t.before (roll-Stmt (Stmt-F.Lit after 0) ∷ [])
              (fine-within fs (free + weight) size 0 top size 0 [] t.before (omega (arith, wider)) (omega arith)
              (omega arith) e.body) last);
          below = omega (arith, below, up, wider);
          after = omega (arith, up, wider);
        }

op-measured : (fs : List FlatFunc) (scope : Scope) (lists more : Bool) (a b : ℕ) (vs ws : List Name) (one two : Flat)
    → Measured fs (temporaries scope) lists a vs one → Measured fs (temporaries scope) more b ws two → (op : BinOp)
    → Measured fs (temporaries scope) (lists && more) (1 + a + b) (vs ++ ws)
    (expression_step scope (Expr-F.Op op one two))
unfolding op-sized
op-measured fs scope lists more a b vs ws one two e f op = record {
  words = whole;
  test = by (asks_zero op two.literal) (relation op);
  address = at (byte_offset op two.literal) (byte_offset op one.literal) refl refl;
}
  where
    whole : Sized fs (temporaries scope) (lists && more) (1 + a + b) (vs ++ ws)
        (expression_step scope (Expr-F.Op op one two))
    whole = op-sized fs scope lists more a b vs ws one two e.words f.words op

    at : (c d : Option ℤ) → byte_offset op two.literal ≡ c → byte_offset op one.literal ≡ d → (free : ℕ)
        → (lists && more) ≡ true → temporaries scope ≤ free
        → AddressSized fs (1 + a + b) (1 + e.words.weight + f.words.weight) free
        (by_offsets c d (operation op one two) one two free)
    at (Some c) d is is' free listed le =
        moved-sized fs a e.words.weight (1 + a + b) (1 + e.words.weight + f.words.weight) free one c (omega arith)
        (omega arith) (offset-stands op two.literal c is).fits
        (coded fs (temporaries scope) lists a vs one e.words (and-first lists more listed) free le)
    at None (Some d) is is' free listed le =
        moved-sized fs b f.words.weight (1 + a + b) (1 + e.words.weight + f.words.weight) free two d (omega arith)
        (omega arith) (offset-stands op one.literal d is').fits
        (coded fs (temporaries scope) more b ws two f.words (and-second lists more listed) free le)
    at None None is is' free listed le =
        let flat = expression_step scope (Expr-F.Op op one two) in
        moved-sized fs (1 + a + b) whole.weight (1 + a + b) whole.weight free flat (pos 0) (omega arith)
        (omega arith) refl
        (coded fs (temporaries scope) (lists && more) (1 + a + b) (vs ++ ws) flat whole listed free le)

    by : (z : Bool) (o : Option Rel) (free : ℕ) → (lists && more) ≡ true → temporaries scope ≤ free
        → Tested fs (1 + a + b) (1 + e.words.weight + f.words.weight) free
        (if z then negation two.variable (one.test free) else compared_test o (operation op one two) one two free)
    by true o free listed le =
        negation-tested fs a e.words.weight (1 + a + b) (1 + e.words.weight + f.words.weight) free (one.test free)
        two.variable (omega arith) (omega arith)
        (λ y is. let below = f.words.variable y is (and-second lists more listed) in omega (arith, below, le))
        (e.test free (and-first lists more listed) le)
    by false None free listed le =
        let flat = expression_step scope (Expr-F.Op op one two) in
        word-tested fs (1 + a + b) whole.weight free flat
        (coded fs (temporaries scope) (lists && more) (1 + a + b) (vs ++ ws) flat whole listed free le)
    by false (Some r) free listed le =
        let c = coded fs (temporaries scope) lists a vs one e.words (and-first lists more listed) free le in
        let below = c.below in
        let after = c.after in
        let grows = c.grows in
        let onward = next one.variable free in
        let d = coded fs (temporaries scope) more b ws two f.words (and-second lists more listed) onward
        (omega (arith, le, grows)) in
        let below' = d.below in
        let after' = d.after in
        let top = free + (1 + e.words.weight + f.words.weight) in
        record {
          body = fine-within fs top (a + b) 0 top (1 + a + b) 0 [] (code one free ++ code two onward) (omega arith)
              (omega arith) (omega arith)
              (fine-append fs top a b 0 [] [] (code one free) (code two onward)
              (fine-within fs (free + e.words.weight) a 0 top a 0 [] (code one free) (omega arith) (omega arith)
              (omega arith) c.body)
              (fine-within fs (onward + f.words.weight) b 0 top b 0 [] (code two onward) (omega (arith, after))
              (omega arith) (omega arith) d.body));
          below = omega (arith, below, below', after);
          after = omega (arith, after, after');
        }

ite-sized : (fs : List FlatFunc) (scope : Scope) (tests lists more : Bool) (c a b : ℕ) (us vs ws : List Name)
    (test one two : Flat)
    → Measured fs (temporaries scope) tests c us test → Sized fs (temporaries scope) lists a vs one
    → Sized fs (temporaries scope) more b ws two
    → Sized fs (temporaries scope) (tests && (lists && more)) (1 + c + a + b) (us ++ (vs ++ ws))
    (expression_step scope (Expr-F.Ite test one two))
ite-sized fs scope tests lists more c a b us vs ws test one two g e f = record {
  weight = 1 + g.words.weight + e.weight + f.weight;
  split =
      let split = g.words.split in let split' = e.split in let split'' = f.split in
      let len = length-append us (vs ++ ws) in let len' = length-append vs ws in
      omega (arith, split, split', split'', len, len');
  variable = λ y e listed. none_is_not y e;
  some = λ e. omega arith;
  into = λ x free listed le.
      let rest = and-second tests (lists && more) listed in
      let t = test.test free in
      let k = g.test free (and-first tests (lists && more) listed) le in
      let below = k.below in
      let top = max (suc x) (free + (1 + g.words.weight + e.weight + f.weight - 1)) in
      let A = one.into x free in
      let B = two.into x free in
      let y : Stmt-F Stmt = Stmt-F.If t.cond A B in
      let first = fine-within fs (max (suc x) (free + (e.weight - 1))) a 0 top a 0 [] A (omega arith) (omega arith)
      (omega arith) (e.into x free (and-first lists more rest) le) in
      let second = fine-within fs (max (suc x) (free + (f.weight - 1))) b 0 top b 0 [] B (omega arith) (omega arith)
      (omega arith) (f.into x free (and-second lists more rest) le) in
      let last = fine-if fs top a b 0 [] [] t.cond A B (omega (arith, below)) first second in
      fine-within fs top (c + (1 + a + b)) 0 top (1 + c + a + b) 0 [] (t.before ++ roll-Stmt y ∷ []) (omega arith)
      (omega arith) (omega arith)
      (fine-append fs top c (1 + a + b) 0 [] [] t.before (roll-Stmt y ∷ [])
      (fine-within fs (free + g.words.weight) c 0 top c 0 [] t.before (omega arith) (omega arith) (omega arith) k.body)
      last);
}

-- ---- every expression

abbrev pub ExpressionSized : List FlatFunc → Scope → Expr → Type 0
ExpressionSized fs scope e = Measured fs (temporaries scope) (lists_expression scope.names e) (expression_bulk e)
    (expression_variables e) (expression scope e)

abbrev Known : List FlatFunc → Scope → Type 0
Known fs scope = (e : Expr) × ExpressionSized fs scope e

abbrev LayerSized : List FlatFunc → Scope → Expr-F Expr → Type 0
LayerSized fs scope y =
    Measured fs (temporaries scope) (lists_step scope.names (map-Expr Expr Bool (lists_expression scope.names) y))
    (bulk.expression_step (map-Expr Expr ℕ expression_bulk y))
    (variables_step (map-Expr Expr (List Name) expression_variables y))
    (expression_step scope (map-Expr Expr Flat (expression scope) y))

layer : (fs : List FlatFunc) (scope : Scope) (y : Expr-F (Known fs scope))
    → LayerSized fs scope (map-Expr (Known fs scope) Expr (λ e. e.0) y)
layer fs scope (Expr-F.Literal n) =
    itself-measured fs (temporaries scope) true 1 [] (holder scope n) (Some n)
    (λ x free. roll-Stmt (Stmt-F.Lit x n) ∷ []) (literal-sized fs scope n)
layer fs scope (Expr-F.Var x) =
    itself-measured fs (temporaries scope) (is_listed scope.names x) 1 (x ∷ []) (Some (number scope.names x)) None
    (λ z free. roll-Stmt (Stmt-F.Copy z (number scope.names x)) ∷ []) (variable-sized fs scope x)
layer fs scope (Expr-F.Load size a) =
    let flat = expression_step scope (Expr-F.Load size (expression scope a.0)) in
    itself-measured fs (temporaries scope) (lists_expression scope.names a.0) (1 + expression_bulk a.0)
    (expression_variables a.0) None None flat.into
    (load-sized fs scope (lists_expression scope.names a.0) (expression_bulk a.0) (expression_variables a.0)
    (expression scope a.0) a.1 size)
layer fs scope (Expr-F.Table size bytes i) =
    let flat = expression_step scope (Expr-F.Table size bytes (expression scope i.0)) in
    itself-measured fs (temporaries scope) (lists_expression scope.names i.0)
    (1 + words_for (length bytes) + expression_bulk i.0) (expression_variables i.0) None None flat.into
    (table-sized fs scope (lists_expression scope.names i.0) (expression_bulk i.0) (expression_variables i.0)
    (expression scope i.0) i.1.words size bytes)
layer fs scope (Expr-F.Op op a b) =
    op-measured fs scope (lists_expression scope.names a.0) (lists_expression scope.names b.0) (expression_bulk a.0)
    (expression_bulk b.0) (expression_variables a.0) (expression_variables b.0) (expression scope a.0)
    (expression scope b.0) a.1 b.1 op
layer fs scope (Expr-F.Ite c a b) =
    let flat = expression_step scope
    (Expr-F.Ite (expression scope c.0) (expression scope a.0) (expression scope b.0)) in
    itself-measured fs (temporaries scope)
    (lists_expression scope.names c.0 && (lists_expression scope.names a.0 && lists_expression scope.names b.0))
    (1 + expression_bulk c.0 + expression_bulk a.0 + expression_bulk b.0)
    (expression_variables c.0 ++ (expression_variables a.0 ++ expression_variables b.0)) None None flat.into
    (ite-sized fs scope (lists_expression scope.names c.0) (lists_expression scope.names a.0)
    (lists_expression scope.names b.0) (expression_bulk c.0) (expression_bulk a.0) (expression_bulk b.0)
    (expression_variables c.0) (expression_variables a.0) (expression_variables b.0) (expression scope c.0)
    (expression scope a.0) (expression scope b.0) c.1 a.1.words b.1.words)

pub expression_sized : (fs : List FlatFunc) (scope : Scope) (e : Expr) → ExpressionSized fs scope e
expression_sized fs scope = ind-Expr (ExpressionSized fs scope) (λ x y is.
    let step = subst (LayerSized fs scope) is (layer fs scope y) in
    let lists = fold-roll-Expr Bool (lists_step scope.names) x in
    let size = fold-roll-Expr ℕ bulk.expression_step x in
    let vs = fold-roll-Expr (List Name) variables_step x in
    let flat = fold-roll-Expr Flat (expression_step scope) x in
    let size1 = bulk.expression_step (map-Expr Expr ℕ expression_bulk x) in
    let vs1 = variables_step (map-Expr Expr (List Name) expression_variables x) in
    let flat1 = expression_step scope (map-Expr Expr Flat (expression scope) x) in
    let one = subst (λ b. Measured fs (temporaries scope) b size1 vs1 flat1) (sym lists) step in
    let two = subst (λ s. Measured fs (temporaries scope) (lists_expression scope.names (roll-Expr x)) s vs1 flat1)
    (sym size) one in
    let three = subst (λ v. Measured fs (temporaries scope) (lists_expression scope.names (roll-Expr x))
    (expression_bulk (roll-Expr x)) v flat1) (sym vs) two in
    subst (λ f. Measured fs (temporaries scope) (lists_expression scope.names (roll-Expr x))
    (expression_bulk (roll-Expr x)) (expression_variables (roll-Expr x)) f) (sym flat) three)

-- ---- operands in turn

sum-more : (e : Expr) (es : List Expr) → expressions_bulk (e ∷ es) ≡ expression_bulk e + expressions_bulk es
sum-more e es =
    omega (arith, sum-map expression_bulk (e ∷ es), sum-map expression_bulk es, sum_by-cons expression_bulk e es)

pub record Operands (fs : List FlatFunc) (scope : Scope) (es : List Expr) : Type 0 where
  pub weight : ℕ
  pub split : length (expressions_variables es) + weight ≡ expressions_bulk es
  pub body : (free : ℕ) → lists_expressions scope.names es ≡ true → temporaries scope ≤ free
      → Fine fs (free + weight) (expressions_bulk es) 0 [] (codes_of (map (expression scope) es) free)
  pub places : (free : ℕ) → lists_expressions scope.names es ≡ true → temporaries scope ≤ free
      → above (places_of (map (expression scope) es) free) ≤ free + weight
  pub count : (free : ℕ) → length (places_of (map (expression scope) es) free) ≡ length es

pub operands : (fs : List FlatFunc) (scope : Scope) (es : List Expr) → Operands fs scope es
operands fs scope [] = record {
  weight = 0;
  split = refl;
  body = λ free listed le. fine-none fs (free + 0) 0 0;
  places = λ free listed le. omega arith;
  count = λ free. refl;
}
operands fs scope (e ∷ es) =
    let one = (expression_sized fs scope e).words in
    let rest = operands fs scope es in
    let n = temporaries scope in
    let lists = lists_expression scope.names e in
    let more = lists_expressions scope.names es in
    let flat = expression scope e in
    let size = expression_bulk e in
    let vs = expression_variables e in
    record {
      weight = one.weight + rest.weight;
      split = let s = one.split in let s' = rest.split in let len = length-append vs (expressions_variables es) in
          let whole = sum-more e es in omega (arith, s, s', len, whole);
      body = λ free listed le.
          let c = coded fs n lists size vs flat one (and-first lists more listed) free le in
          let after = c.after in
          let grows = c.grows in
          let onward = next flat.variable free in
          let top = free + (one.weight + rest.weight) in
          let others = expressions_bulk es in
          let body = codes_of (map (expression scope) es) onward in
          let whole = sum-more e es in
          fine-within fs top (size + others) 0 top (expressions_bulk (e ∷ es)) 0 [] (code flat free ++ body)
          (omega arith) (omega (arith, whole)) (omega arith)
          (fine-append fs top size others 0 [] [] (code flat free) body
          (fine-within fs (free + one.weight) size 0 top size 0 [] (code flat free) (omega arith) (omega arith)
          (omega arith) c.body)
          (fine-within fs (onward + rest.weight) others 0 top others 0 [] body (omega (arith, after)) (omega arith)
          (omega arith) (rest.body onward (and-second lists more listed) (omega (arith, le, grows)))));
      places = λ free listed le.
          let c = coded fs n lists size vs flat one (and-first lists more listed) free le in
          let after = c.after in
          let grows = c.grows in
          let below = c.below in
          let there = rest.places (next flat.variable free) (and-second lists more listed) (omega (arith, le, grows)) in
          omega (arith, below, after, there);
      count = λ free. ap suc (rest.count (next flat.variable free));
    }
