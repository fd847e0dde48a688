-- Programs in their simplest form are no larger, and call no other functions.
use Rattle.std.proofs.Common.{◌≡◌, ℕ, ◌+◌, ◌≤◌, ◌==◌, max, Bool, true, false, if◌then◌else◌}
use Rattle.std.proofs.Common.{List, [], ◌∷◌, ◌++◌, ◌⊎◌, map, sum, length, Option, Some}
use Rattle.std.proofs.Common.{None, unwrap_or, inl, inr, refl, sym, ap, subst, ◌∙◌, arith}
use Rattle.std.specs.List.{flat_map, sum_by, Contains}
use Rattle.std.specs.Option.{option_and_then}
use Rattle.std.proofs.lemmas.List.{length-map}
use Rattle.std.proofs.lemmas.List.Elements.{Contains-append_left, Contains-append_right, Contains-append_cases}
use Rattle.std.proofs.lemmas.List.Sums.{sum-map, sum_by-cons}
use Rattle.br_words.specs.declared.operation.BinOp.{BinOp}
use Rattle.br_words.specs.declared.operation.BinOp.TheVariants as op
use Rattle.br_words.specs.Words.{value_of_op}
use Rattle.br_syntax.specs.declared.program.Expr.{Expr, out-Expr, roll-out-Expr, map-Expr}
use Rattle.br_syntax.specs.declared.program.Expr.TheOpen.{Expr-F}
use Rattle.br_syntax.specs.declared.program.Expr.TheViews.{roll-Expr}
use Rattle.br_syntax.specs.declared.program.Expr.TheFolds.{fold-roll-Expr, ind-Expr}
use Rattle.br_syntax.specs.declared.program.Cmd.{Cmd, map-Cmd}
use Rattle.br_syntax.specs.declared.program.Cmd.TheOpen.{Cmd-F}
use Rattle.br_syntax.specs.declared.program.Cmd.TheViews.{roll-Cmd}
use Rattle.br_syntax.specs.declared.program.Cmd.TheFolds.{fold-Cmd, fold-roll-Cmd, ind-Cmd}
use Rattle.br_syntax.specs.declared.program.Func.{Func}
use Rattle.br_source_meaning.specs.Values.{Name}
use Rattle.br_measure.specs.Bulk as bulk
use Rattle.br_measure.specs.Bulk.{expression_bulk, expressions_bulk, command_bulk}
use Rattle.br_measure.specs.Bulk.{commands_bulk, function_bulk, words_for}
use Rattle.br_measure.specs.Measure.{largest, nested_step, nested_buffers}
use Rattle.br_measure.specs.Paths.{joined, callees_step, callees}
use Rattle.br_simplify.specs.declared.operations.Form.{Form}
use Rattle.br_simplify.specs.declared.conditions.Test.{Test}
use Rattle.br_simplify.specs.Simple as simple
use Rattle.br_simplify.specs.Simple.{commutes, simple_form, literal, with_literal, by_literals}
use Rattle.br_simplify.specs.Simple.{simple_operation, asked, compares, simple_test, test_of, part_test}
use Rattle.br_simplify.specs.Simple.{choice_by, simple_choice, expression_step, simple_expression, if_by}
use Rattle.br_simplify.specs.Simple.{simple_if, is_zero, simple_while, simple_command, simple_function}
use Rattle.br_simplify.proofs.Values.{asked_in}

-- ---- expressions

weighs : (y : Expr-F Expr) → expression_bulk (roll-Expr y) ≡ bulk.expression_step (map-Expr Expr ℕ expression_bulk y)
weighs y = fold-roll-Expr ℕ bulk.expression_step y

some_bulk : (e : Expr) → 1 ≤ expression_bulk e
some_bulk e = subst (λ d. 1 ≤ expression_bulk d) (roll-out-Expr e) (by (out-Expr e))
  where
    by : (y : Expr-F Expr) → 1 ≤ expression_bulk (roll-Expr y)
    by (Expr-F.Literal n) = omega (arith, weighs (Expr-F.Literal n))
    by (Expr-F.Var x) = omega (arith, weighs (Expr-F.Var x))
    by (Expr-F.Load size a) = omega (arith, weighs (Expr-F.Load size a))
    by (Expr-F.Table size bytes i) = omega (arith, weighs (Expr-F.Table size bytes i))
    by (Expr-F.Op o a b) = omega (arith, weighs (Expr-F.Op o a b))
    by (Expr-F.Ite test a b) = omega (arith, weighs (Expr-F.Ite test a b))

with_literal_bulk : (f : Form) (a : Expr) → expression_bulk (with_literal f a) ≡ 2 + expression_bulk a
with_literal_bulk f a =
    omega (arith, weighs (Expr-F.Op f.op a (roll-Expr (Expr-F.Literal f.literal))), weighs (Expr-F.Literal f.literal))

operation_bulk : (o : BinOp) (a b : Expr)
    → expression_bulk (simple_operation o a b) ≤ 1 + expression_bulk a + expression_bulk b
operation_bulk o a b = by (literal a) (literal b)
  where
    moved : (c : Bool) (n : ℕ) → expression_bulk (if c then with_literal (simple_form o n) b
        else roll-Expr (Expr-F.Op o a b)) ≤ 1 + expression_bulk a + expression_bulk b
    moved true n = omega (arith, with_literal_bulk (simple_form o n) b, some_bulk a)
    moved false n = omega (arith, weighs (Expr-F.Op o a b))

    by : (p q : Option ℕ) → expression_bulk (by_literals o a b p q) ≤ 1 + expression_bulk a + expression_bulk b
    by (Some m) (Some n) = omega (arith, weighs (Expr-F.Literal (value_of_op o m n)))
    by None (Some n) = omega (arith, with_literal_bulk (simple_form o n) a, some_bulk b)
    by (Some m) None = moved (commutes o) m
    by None None = omega (arith, weighs (Expr-F.Op o a b))

asked_bulk : (e a : Expr) → asked e ≡ Some a → expression_bulk a ≤ expression_bulk e
asked_bulk e a is =
    let k = asked_in (out-Expr e) a is in
    let whole : roll-Expr (Expr-F.Op op.Eq a k.zero) ≡ e = ap roll-Expr (sym k.is) ∙ roll-out-Expr e in
    omega (arith, weighs (Expr-F.Op op.Eq a k.zero), ap expression_bulk whole)

test_bulk : (e : Expr) → expression_bulk (simple_test e) ≤ expression_bulk e
test_bulk e = by (asked e) refl
  where
    second : (a : Expr) → asked e ≡ Some a → (p : Option Expr) → asked a ≡ p
        → expression_bulk (unwrap_or p e) ≤ expression_bulk e
    second a is None f = omega arith
    second a is (Some b) f = omega (arith, asked_bulk e a is, asked_bulk a b f)

    by : (o : Option Expr) → asked e ≡ o → expression_bulk (unwrap_or (option_and_then asked o) e) ≤ expression_bulk e
    by None is = omega arith
    by (Some a) is = second a is (asked a) refl

part_bulk : (e : Expr) → expression_bulk (part_test e).word ≤ expression_bulk e
part_bulk e = by (asked (simple_test e)) refl
  where
    kept : (a : Expr) → asked (simple_test e) ≡ Some a → (c : Bool)
        → (t : Test) → t
        ≡ (if c then record { word = simple_test e; exchanged = false } else record { word = a; exchanged = true })
        → expression_bulk t.word ≤ expression_bulk e
    kept a is true t same = omega (arith, ap (λ (t : Test). expression_bulk t.word) same, test_bulk e)
    kept a is false t same =
        omega (arith, ap (λ (t : Test). expression_bulk t.word) same, test_bulk e, asked_bulk (simple_test e) a is)

    by : (o : Option Expr) → asked (simple_test e) ≡ o
        → expression_bulk (test_of (simple_test e) o).word ≤ expression_bulk e
    by None is = test_bulk e
    by (Some a) is = kept a is (compares a) (test_of (simple_test e) (Some a)) refl

choice_bulk : (test a b : Expr)
    → expression_bulk (simple_choice test a b) ≤ 1 + expression_bulk test + expression_bulk a + expression_bulk b
choice_bulk test a b = by (literal test) (part_test test) (part_bulk test)
  where
    part : (z : Bool)
        → expression_bulk (if z then b else a) ≤ 1 + expression_bulk test + expression_bulk a + expression_bulk b
    part true = omega arith
    part false = omega arith

    tested : (t : Test) (x : Bool) → expression_bulk t.word ≤ expression_bulk test
        → expression_bulk (if x then roll-Expr (Expr-F.Ite t.word b a) else roll-Expr (Expr-F.Ite t.word a b))
        ≤ 1 + expression_bulk test + expression_bulk a + expression_bulk b
    tested t true within = omega (arith, within, weighs (Expr-F.Ite t.word b a))
    tested t false within = omega (arith, within, weighs (Expr-F.Ite t.word a b))

    by : (o : Option ℕ) (t : Test) → expression_bulk t.word ≤ expression_bulk test
        → expression_bulk (choice_by a b o t) ≤ 1 + expression_bulk test + expression_bulk a + expression_bulk b
    by (Some n) t within = part (n == 0)
    by None t within = tested t t.exchanged within

abbrev Smaller : Expr → Type 0
Smaller e = expression_bulk (simple_expression e) ≤ expression_bulk e

abbrev Known : Type 0
Known = (e : Expr) × Smaller e

layer : (y : Expr-F Known)
    → expression_bulk (expression_step (map-Expr Expr Expr simple_expression (map-Expr Known Expr (λ e. e.0) y)))
    ≤ bulk.expression_step (map-Expr Expr ℕ expression_bulk (map-Expr Known Expr (λ e. e.0) y))
layer (Expr-F.Literal n) = omega (arith, weighs (Expr-F.Literal n))
layer (Expr-F.Var x) = omega (arith, weighs (Expr-F.Var x))
layer (Expr-F.Load size a) = omega (arith, weighs (Expr-F.Load size (simple_expression a.0)), a.1)
layer (Expr-F.Table size bytes i) = omega (arith, weighs (Expr-F.Table size bytes (simple_expression i.0)), i.1)
layer (Expr-F.Op o a b) = omega (arith, operation_bulk o (simple_expression a.0) (simple_expression b.0), a.1, b.1)
layer (Expr-F.Ite c a b) =
    omega (arith, choice_bulk (simple_expression c.0) (simple_expression a.0) (simple_expression b.0), c.1, a.1, b.1)

smaller_expression : (e : Expr) → Smaller e
smaller_expression = ind-Expr Smaller (λ x y is.
    let one = subst (λ z. expression_bulk (expression_step (map-Expr Expr Expr simple_expression z))
    ≤ bulk.expression_step (map-Expr Expr ℕ expression_bulk z)) is (layer y) in
    omega (
      arith,
      ap expression_bulk (fold-roll-Expr Expr expression_step x),
      one,
      fold-roll-Expr ℕ bulk.expression_step x,
    ))

sum_more : (n : ℕ) (ns : List ℕ) → sum (n ∷ ns) ≡ n + sum ns
sum_more n ns = omega (arith, sum_same (n ∷ ns), sum_same ns, sum_by-cons (λ m. m) n ns)
  where
    map_same : (ms : List ℕ) → map (λ m. m) ms ≡ ms
    map_same [] = refl
    map_same (m ∷ ms) = ap (λ q. m ∷ q) (map_same ms)

    sum_same : (ms : List ℕ) → sum ms ≡ sum_by (λ m. m) ms
    sum_same ms = ap sum (sym (map_same ms)) ∙ sum-map (λ m. m) ms

smaller_expressions : (es : List Expr) → expressions_bulk (map simple_expression es) ≤ expressions_bulk es
smaller_expressions [] = omega arith
smaller_expressions (e ∷ es) =
    omega (
      arith,
      sum_more (expression_bulk (simple_expression e)) (map expression_bulk (map simple_expression es)),
      sum_more (expression_bulk e) (map expression_bulk es),
      smaller_expression e,
      smaller_expressions es,
    )

-- ---- commands

abbrev nested : Cmd → ℕ
nested = fold-Cmd ℕ nested_step

abbrev called : Cmd → List Name
called = fold-Cmd (List Name) callees_step

-- a list has each name of another
abbrev Among : List Name → List Name → Type 0
Among xs ys = (x : Name) → Contains xs x → Contains ys x

among_none : (ys : List Name) → Among [] ys
among_none ys x has = absurd (omega (arith, has.1))

among_itself : (xs : List Name) → Among xs xs
among_itself xs x has = has

among_either : (xs ys zs : List Name) → Among xs zs → Among ys zs → Among (xs ++ ys) zs
among_either xs ys zs one two x has = by (Contains-append_cases xs ys x has)
  where
    by : Contains xs x ⊎ Contains ys x → Contains zs x
    by (inl first) = one x first
    by (inr second) = two x second

among_left : (xs ys zs : List Name) → Among xs ys → Among xs (ys ++ zs)
among_left xs ys zs one x has = Contains-append_left ys zs x (one x has)

among_right : (xs ys zs : List Name) → Among xs zs → Among xs (ys ++ zs)
among_right xs ys zs one x has = Contains-append_right ys zs x (one x has)

-- a command is no larger than these sizes, and calls none but these
record Within (c : Cmd) (size deep : ℕ) (among : List Name) : Type 0 where
  bulk : command_bulk c ≤ size
  nest : nested c ≤ deep
  names : Among (called c) among

-- the same of commands in turn
record AllWithin (cs : List Cmd) (size deep : ℕ) (among : List Name) : Type 0 where
  bulk : sum (map command_bulk cs) ≤ size
  nest : largest (map nested cs) ≤ deep
  names : Among (joined (map called cs)) among

within_rolled : (y : Cmd-F Cmd) (size deep : ℕ) (names : List Name)
    → bulk.command_step (map-Cmd Cmd ℕ command_bulk y) ≤ size → nested_step (map-Cmd Cmd ℕ nested y) ≤ deep
    → Among (callees_step (map-Cmd Cmd (List Name) called y)) names
    → Within (roll-Cmd y) size deep names
within_rolled y size deep names low shallow among = record {
  bulk = omega (arith, fold-roll-Cmd ℕ bulk.command_step y, low);
  nest = omega (arith, fold-roll-Cmd ℕ nested_step y, shallow);
  names = subst (λ xs. Among xs names) (sym (fold-roll-Cmd (List Name) callees_step y)) among;
}

within_if : (e : Expr) (first second : List Cmd) (size one two deep deeper : ℕ) (xs ys : List Name)
    → expression_bulk e ≤ size → AllWithin first one deep xs → AllWithin second two deeper ys
    → Within (simple_if e first second) (1 + size + one + two) (max deep deeper) (xs ++ ys)
within_if e first second size one two deep deeper xs ys low a b = by (literal e) (part_test e) (part_bulk e)
  where
    part : (z : Bool) → Within (roll-Cmd (Cmd-F.Seq (if z then second else first))) (1 + size + one
        + two) (max deep deeper) (xs ++ ys)
    part true =
        within_rolled (Cmd-F.Seq second) (1 + size + one + two) (max deep deeper) (xs ++ ys)
        (omega (arith, b.bulk)) (omega (arith, b.nest)) (among_right (joined (map called second)) xs ys b.names)
    part false =
        within_rolled (Cmd-F.Seq first) (1 + size + one + two) (max deep deeper) (xs ++ ys)
        (omega (arith, a.bulk)) (omega (arith, a.nest)) (among_left (joined (map called first)) xs ys a.names)

    tested : (t : Test) (x : Bool) → expression_bulk t.word ≤ expression_bulk e
        → Within (if x then roll-Cmd (Cmd-F.If t.word second first) else roll-Cmd (Cmd-F.If t.word first second))
        (1 + size + one + two) (max deep deeper) (xs ++ ys)
    tested t true within =
        within_rolled (Cmd-F.If t.word second first) (1 + size + one + two) (max deep deeper) (xs ++ ys)
        (omega (arith, a.bulk, b.bulk, within, low)) (omega (arith, a.nest, b.nest))
        (among_either (joined (map called second)) (joined (map called first)) (xs ++ ys)
        (among_right (joined (map called second)) xs ys b.names) (among_left (joined (map called first)) xs ys a.names))
    tested t false within =
        within_rolled (Cmd-F.If t.word first second) (1 + size + one + two) (max deep deeper) (xs ++ ys)
        (omega (arith, a.bulk, b.bulk, within, low)) (omega (arith, a.nest, b.nest))
        (among_either (joined (map called first)) (joined (map called second)) (xs ++ ys)
        (among_left (joined (map called first)) xs ys a.names) (among_right (joined (map called second)) xs ys b.names))

    by : (o : Option ℕ) (t : Test) → expression_bulk t.word ≤ expression_bulk e
        → Within (if_by first second o t) (1 + size + one + two) (max deep deeper) (xs ++ ys)
    by (Some n) t within = part (n == 0)
    by None t within = tested t t.exchanged within

within_while : (e : Expr) (body : List Cmd) (size one deep : ℕ) (xs : List Name) → expression_bulk e ≤ size
    → AllWithin body one deep xs → Within (simple_while e body) (1 + size + one) deep xs
within_while e body size one deep xs low a = by (is_zero (literal e))
  where
    by : (z : Bool) → Within (if z then roll-Cmd Cmd-F.Skip
        else roll-Cmd (Cmd-F.While (simple_test e) body)) (1 + size + one) deep xs
    by true = within_rolled Cmd-F.Skip (1 + size + one) deep xs (omega arith) (omega arith) (among_none xs)
    by false = within_rolled (Cmd-F.While (simple_test e) body) (1 + size + one) deep xs
        (omega (arith, a.bulk, test_bulk e, low)) a.nest a.names

abbrev StaysWithin : Cmd → Type 0
StaysWithin c = Within (simple_command c) (command_bulk c) (nested c) (called c)

abbrev Kept : Type 0
Kept = (c : Cmd) × StaysWithin c

abbrev plain : List Kept → List Cmd
plain = map (λ (c : Kept). c.0)

all_within : {X : Type 0} (h : X → Cmd) → ((x : X) → StaysWithin (h x)) → (xs : List X)
    → AllWithin (map simple_command (map h xs)) (sum (map command_bulk (map h xs))) (largest (map nested (map h xs)))
    (joined (map called (map h xs)))
all_within h each [] = record { bulk = omega arith; nest = omega arith; names = among_none [] }
all_within h each (x ∷ xs) =
    let one = each x in
    let rest = all_within h each xs in
    record {
      bulk = omega (
        arith,
        sum_more (command_bulk (simple_command (h x))) (map command_bulk (map simple_command (map h xs))),
        sum_more (command_bulk (h x)) (map command_bulk (map h xs)),
        one.bulk,
        rest.bulk,
      );
      nest = omega (arith, one.nest, rest.nest);
      names = among_either (called (simple_command (h x))) (joined (map called (map simple_command (map h xs))))
          (called (h x) ++ joined (map called (map h xs)))
          (among_left (called (simple_command (h x))) (called (h x)) (joined (map called (map h xs))) one.names)
          (among_right (joined (map called (map simple_command (map h xs)))) (called (h x))
          (joined (map called (map h xs))) rest.names);
    }

bodies : (cs : List Kept) → AllWithin (map simple_command (plain cs)) (sum (map command_bulk (plain cs))) (largest
    (map nested (plain cs))) (joined (map called (plain cs)))
bodies cs = all_within (λ (c : Kept). c.0) (λ (c : Kept). c.1) cs

abbrev LayerWithin : Cmd-F Cmd → Type 0
LayerWithin z =
    Within (simple.command_step (map-Cmd Cmd Cmd simple_command z)) (bulk.command_step (map-Cmd Cmd ℕ command_bulk z))
    (nested_step (map-Cmd Cmd ℕ nested z)) (callees_step (map-Cmd Cmd (List Name) called z))

command_layer : (y : Cmd-F Kept) → LayerWithin (map-Cmd Kept Cmd (λ c. c.0) y)
command_layer Cmd-F.Skip = within_rolled Cmd-F.Skip 1 0 [] (omega arith) (omega arith) (among_none [])
command_layer (Cmd-F.Set x e) =
    within_rolled (Cmd-F.Set x (simple_expression e)) (1 + expression_bulk e) 0 [] (omega (arith, smaller_expression e))
    (omega arith) (among_none [])
command_layer (Cmd-F.Unset x) = within_rolled (Cmd-F.Unset x) 1 0 [] (omega arith) (omega arith) (among_none [])
command_layer (Cmd-F.Store size a e) =
    within_rolled (Cmd-F.Store size (simple_expression a) (simple_expression e))
    (1 + expression_bulk a + expression_bulk e) 0 []
    (omega (arith, smaller_expression a, smaller_expression e)) (omega arith) (among_none [])
command_layer (Cmd-F.Stackalloc x n body) =
    let b = bodies body in
    within_rolled (Cmd-F.Stackalloc x n (map simple_command (plain body))) (1 + sum (map command_bulk (plain body)))
    (n + largest (map nested (plain body))) (joined (map called (plain body)))
    (omega (arith, b.bulk)) (omega (arith, b.nest)) b.names
command_layer (Cmd-F.If e first second) =
    within_if (simple_expression e) (map simple_command (plain first)) (map simple_command (plain second))
    (expression_bulk e) (sum (map command_bulk (plain first))) (sum (map command_bulk (plain second)))
    (largest (map nested (plain first))) (largest (map nested (plain second))) (joined (map called (plain first)))
    (joined (map called (plain second)))
    (smaller_expression e) (bodies first) (bodies second)
command_layer (Cmd-F.While e body) =
    within_while (simple_expression e) (map simple_command (plain body)) (expression_bulk e)
    (sum (map command_bulk (plain body))) (largest (map nested (plain body))) (joined (map called (plain body)))
    (smaller_expression e) (bodies body)
command_layer (Cmd-F.Seq body) =
    let b = bodies body in
    within_rolled (Cmd-F.Seq (map simple_command (plain body))) (1 + sum (map command_bulk (plain body)))
    (largest (map nested (plain body))) (joined (map called (plain body)))
    (omega (arith, b.bulk)) b.nest b.names
command_layer (Cmd-F.Call at xs callee es) =
    within_rolled (Cmd-F.Call at xs callee (map simple_expression es)) (1 + length es + length xs + expressions_bulk es)
    0 (callee ∷ [])
    (omega (arith, length-map es simple_expression, smaller_expressions es)) (omega arith) (among_itself (callee ∷ []))
command_layer (Cmd-F.Interact at xs action es) =
    within_rolled (Cmd-F.Interact at xs action (map simple_expression es)) (1 + expressions_bulk es) 0 []
    (omega (arith, smaller_expressions es)) (omega arith) (among_none [])

stays_within : (c : Cmd) → StaysWithin c
stays_within = ind-Cmd StaysWithin (λ x y is.
    let one = subst LayerWithin is (command_layer y) in
    let size = fold-roll-Cmd ℕ bulk.command_step x in
    let deep = fold-roll-Cmd ℕ nested_step x in
    let names = fold-roll-Cmd (List Name) callees_step x in
    let made = fold-roll-Cmd Cmd simple.command_step x in
    record {
      bulk = omega (arith, ap command_bulk made, one.bulk, size);
      nest = omega (arith, ap nested made, one.nest, deep);
      names =
          λ z has. subst (λ xs. Contains xs z) (sym names) (one.names z (subst (λ c. Contains (called c) z) made has));
    })

-- ---- functions

within_body : (f : Func)
    → AllWithin (map simple_command f.body) (commands_bulk f.body) (nested_buffers f) (joined (map called f.body))
within_body f = subst (λ cs. AllWithin (map simple_command cs) (commands_bulk cs) (largest (map nested cs))
    (joined (map called cs))) (map_same f.body) (all_within (λ c. c) stays_within f.body)
  where
    map_same : (cs : List Cmd) → map (λ c. c) cs ≡ cs
    map_same [] = refl
    map_same (c ∷ cs) = ap (λ ds. c ∷ ds) (map_same cs)

joined_called : (cs : List Cmd) → joined (map called cs) ≡ flat_map called cs
joined_called [] = refl
joined_called (c ∷ cs) = ap (λ xs. called c ++ xs) (joined_called cs)

pub smaller_function : (f : Func) → function_bulk (simple_function f) ≤ function_bulk f
smaller_function f = omega (arith, (within_body f).bulk)

pub shallower_function : (f : Func) → nested_buffers (simple_function f) ≤ nested_buffers f
shallower_function f = (within_body f).nest

pub fewer_callees : (f : Func) (x : Name) → Contains (callees (simple_function f)) x → Contains (callees f) x
fewer_callees f x has =
    subst (λ xs. Contains xs x) (joined_called f.body)
    ((within_body f).names x (subst (λ xs. Contains xs x) (sym (joined_called (map simple_command f.body))) has))
