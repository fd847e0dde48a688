-- The variables of a function are among its first places, of which there are no more than variables stand in
-- its text.
use Rattle.std.proofs.Common.{◌≡◌, ◌+◌, ◌≤◌, ◌||◌, ◌&&◌, Bool, true, false, if◌then◌else◌, List}
use Rattle.std.proofs.Common.{[], ◌∷◌, ◌++◌, map, length, refl, sym, ap, subst, ◌∙◌, arith}
use Rattle.std.specs.List.{list_all}
use Rattle.std.specs.Str.{bytes_eq}
use Rattle.std.proofs.lemmas.List.{length-append}
use Rattle.std.proofs.lemmas.List.Folds.{list_all-append}
use Rattle.std.proofs.lemmas.Slice.Eq.{bytes_eq-Decides}
use Rattle.br_syntax.specs.declared.program.Expr.{Expr, map-Expr}
use Rattle.br_syntax.specs.declared.program.Expr.TheOpen.{Expr-F}
use Rattle.br_syntax.specs.declared.program.Expr.TheFolds.{fold-roll-Expr, ind-Expr}
use Rattle.br_syntax.specs.declared.program.Cmd.{Cmd, map-Cmd}
use Rattle.br_syntax.specs.declared.program.Cmd.TheOpen.{Cmd-F}
use Rattle.br_syntax.specs.declared.program.Cmd.TheFolds.{fold-roll-Cmd, ind-Cmd}
use Rattle.br_syntax.specs.declared.program.Func.{Func}
use Rattle.br_source_meaning.specs.Values.{Name}
use Rattle.br_flatten.specs.Flatten.{is_listed, lists_step, lists_expression, lists_expressions}
use Rattle.br_flatten.specs.Flatten.{lists_names, lists_command_step, lists_command, lists_function}
use Rattle.br_flatten.specs.Places.{all_of, variables_step, expression_variables, expressions_variables}
use Rattle.br_flatten.specs.Places.{command_variables_step, command_variables, commands_variables}
use Rattle.br_flatten.specs.Places.{function_variables, with_name, with_names, first_places}

-- ---- names that are added

or-right : (b c : Bool) → c ≡ true → (b || c) ≡ true
or-right true c e = refl
or-right false c e = e

kept : (names ys : List Name) (x : Name) → is_listed names x ≡ true → is_listed (names ++ ys) x ≡ true
kept [] ys x e = absurd (cc e)
kept (z ∷ zs) ys x e = by (bytes_eq z x) (kept zs ys x) e
  where
    by : (b : Bool) → (is_listed zs x ≡ true → is_listed (zs ++ ys) x ≡ true) → (b || is_listed zs x) ≡ true
        → (b || is_listed (zs ++ ys) x) ≡ true
    by true again e = refl
    by false again e = again e

last : (names : List Name) (x : Name) → is_listed (names ++ x ∷ []) x ≡ true
last [] x = let same : bytes_eq x x ≡ true = (bytes_eq-Decides x x).1 refl in ap (λ b. b || false) same
last (z ∷ zs) x = or-right (bytes_eq z x) (is_listed (zs ++ x ∷ []) x) (last zs x)

with_name-kept : (names : List Name) (y x : Name) → is_listed names x ≡ true → is_listed (with_name names y) x ≡ true
with_name-kept names y x e = by (is_listed names y)
  where
    by : (b : Bool) → is_listed (if b then names else names ++ y ∷ []) x ≡ true
    by true = e
    by false = kept names (y ∷ []) x e

with_name-self : (names : List Name) (x : Name) → is_listed (with_name names x) x ≡ true
with_name-self names x = by (is_listed names x) refl
  where
    by : (b : Bool) → is_listed names x ≡ b → is_listed (if b then names else names ++ x ∷ []) x ≡ true
    by true e = e
    by false e = last names x

with_names-kept : (names xs : List Name) (x : Name) → is_listed names x ≡ true
    → is_listed (with_names names xs) x ≡ true
with_names-kept names [] x e = e
with_names-kept names (y ∷ ys) x e = with_names-kept (with_name names y) ys x (with_name-kept names y x e)

all-listed : (names xs : List Name) → list_all (is_listed (with_names names xs)) xs ≡ true
all-listed names [] = refl
all-listed names (x ∷ xs) =
    let here = with_names-kept (with_name names x) xs x (with_name-self names x) in
    ap (λ b. b && list_all (is_listed (with_names (with_name names x) xs)) xs) here ∙ all-listed (with_name names x) xs

length-with_name : (names : List Name) (x : Name) → length (with_name names x) ≤ length names + 1
length-with_name names x = by (is_listed names x)
  where
    by : (b : Bool) → length (if b then names else names ++ x ∷ []) ≤ length names + 1
    by true = omega arith
    by false = let len = length-append names (x ∷ []) in omega (arith, len)

length-with_names : (names xs : List Name) → length (with_names names xs) ≤ length names + length xs
length-with_names names [] = omega arith
length-with_names names (x ∷ xs) = omega (arith, length-with_name names x, length-with_names (with_name names x) xs)

pub few-places : (f : Func) → length (first_places f) ≤ length (function_variables f)
few-places f = let most = length-with_names [] (function_variables f) in omega (arith, most)

-- ---- variables of expressions and commands

two-parts : (names xs ys : List Name) (a b : Bool) → a ≡ list_all (is_listed names) xs
    → b ≡ list_all (is_listed names) ys → (a && b) ≡ list_all (is_listed names) (xs ++ ys)
two-parts names xs ys a b e f =
    ap (λ c. c && b) e ∙ ap (λ c. list_all (is_listed names) xs && c) f ∙ sym (list_all-append (is_listed names) xs ys)

abbrev ExpressionListed : List Name → Expr → Type 0
ExpressionListed names e = lists_expression names e ≡ list_all (is_listed names) (expression_variables e)

abbrev KnownExpression : List Name → Type 0
KnownExpression names = (e : Expr) × ExpressionListed names e

abbrev ExpressionLayer : List Name → Expr-F Expr → Type 0
ExpressionLayer names y = lists_step names (map-Expr Expr Bool (lists_expression names) y)
    ≡ list_all (is_listed names) (variables_step (map-Expr Expr (List Name) expression_variables y))

and-true : (b : Bool) → b ≡ (b && true)
and-true true = refl
and-true false = refl

expression-layer : (names : List Name) (y : Expr-F (KnownExpression names))
    → ExpressionLayer names (map-Expr (KnownExpression names) Expr (λ e. e.0) y)
expression-layer names (Expr-F.Literal n) = refl
expression-layer names (Expr-F.Var x) = and-true (is_listed names x)
expression-layer names (Expr-F.Load size a) = a.1
expression-layer names (Expr-F.Table size bytes i) = i.1
expression-layer names (Expr-F.Op op a b) = two-parts names (expression_variables a.0) (expression_variables b.0)
    (lists_expression names a.0) (lists_expression names b.0) a.1 b.1
expression-layer names (Expr-F.Ite c a b) =
    let rest = two-parts names (expression_variables a.0) (expression_variables b.0) (lists_expression names a.0)
    (lists_expression names b.0) a.1 b.1 in
    two-parts names (expression_variables c.0) (expression_variables a.0 ++ expression_variables b.0)
    (lists_expression names c.0) (lists_expression names a.0 && lists_expression names b.0) c.1 rest

expression-listed : (names : List Name) (e : Expr) → ExpressionListed names e
expression-listed names = ind-Expr (ExpressionListed names) (λ x y is.
    fold-roll-Expr Bool (lists_step names) x ∙ subst (ExpressionLayer names) is (expression-layer names y)
    ∙ ap (list_all (is_listed names)) (sym (fold-roll-Expr (List Name) variables_step x)))

expressions-listed : (names : List Name) (es : List Expr)
    → lists_expressions names es ≡ list_all (is_listed names) (expressions_variables es)
expressions-listed names [] = refl
expressions-listed names (e ∷ es) =
    two-parts names (expression_variables e) (expressions_variables es) (lists_expression names e)
    (lists_expressions names es) (expression-listed names e) (expressions-listed names es)

abbrev CommandListed : List Name → Cmd → Type 0
CommandListed names c = lists_command names c ≡ list_all (is_listed names) (command_variables c)

abbrev KnownCommand : List Name → Type 0
KnownCommand names = (c : Cmd) × CommandListed names c

abbrev CommandLayer : List Name → Cmd-F Cmd → Type 0
CommandLayer names y = lists_command_step names (map-Cmd Cmd Bool (lists_command names) y)
    ≡ list_all (is_listed names) (command_variables_step (map-Cmd Cmd (List Name) command_variables y))

all-known : (names : List Name) (cs : List (KnownCommand names))
    → list_all (λ ok. ok) (map (lists_command names) (map (λ c. c.0) cs))
    ≡ list_all (is_listed names) (all_of (map command_variables (map (λ c. c.0) cs)))
all-known names [] = refl
all-known names (c ∷ cs) =
    two-parts names (command_variables c.0) (all_of (map command_variables (map (λ c. c.0) cs))) (lists_command names
    c.0) (list_all (λ ok. ok) (map (lists_command names) (map (λ c. c.0) cs))) c.1 (all-known names cs)

called-layer : (names xs : List Name) (es : List Expr)
    → (lists_names names xs && lists_expressions names es) ≡ list_all (is_listed names) (xs ++ expressions_variables es)
called-layer names xs es = two-parts names xs (expressions_variables es) (lists_names names xs)
    (lists_expressions names es) refl (expressions-listed names es)

command-layer : (names : List Name) (y : Cmd-F (KnownCommand names))
    → CommandLayer names (map-Cmd (KnownCommand names) Cmd (λ c. c.0) y)
command-layer names Cmd-F.Skip = refl
command-layer names (Cmd-F.Set x e) = ap (λ b. is_listed names x && b) (expression-listed names e)
command-layer names (Cmd-F.Unset x) = refl
command-layer names (Cmd-F.Store size a e) =
    two-parts names (expression_variables a) (expression_variables e) (lists_expression names a)
    (lists_expression names e) (expression-listed names a) (expression-listed names e)
command-layer names (Cmd-F.Stackalloc x n body) = ap (λ b. is_listed names x && b) (all-known names body)
command-layer names (Cmd-F.If e first second) =
    let one = map (λ (c : KnownCommand names). c.0) first in
    let two = map (λ (c : KnownCommand names). c.0) second in
    let vs = all_of (map command_variables one) in
    let ws = all_of (map command_variables two) in
    let a = list_all (λ ok. ok) (map (lists_command names) one) in
    let b = list_all (λ ok. ok) (map (lists_command names) two) in
    two-parts names (expression_variables e) (vs ++ ws) (lists_expression names e) (a && b) (expression-listed names e)
    (two-parts names vs ws a b (all-known names first) (all-known names second))
command-layer names (Cmd-F.While e body) =
    let one = map (λ (c : KnownCommand names). c.0) body in
    two-parts names (expression_variables e) (all_of (map command_variables one)) (lists_expression names e)
    (list_all (λ ok. ok) (map (lists_command names) one)) (expression-listed names e) (all-known names body)
command-layer names (Cmd-F.Seq body) = all-known names body
command-layer names (Cmd-F.Call at xs callee es) = called-layer names xs es
command-layer names (Cmd-F.Interact at xs action es) = called-layer names xs es

command-listed : (names : List Name) (c : Cmd) → CommandListed names c
command-listed names = ind-Cmd (CommandListed names) (λ x y is.
    fold-roll-Cmd Bool (lists_command_step names) x ∙ subst (CommandLayer names) is (command-layer names y)
    ∙ ap (list_all (is_listed names)) (sym (fold-roll-Cmd (List Name) command_variables_step x)))

commands-listed : (names : List Name) (cs : List Cmd)
    → list_all (lists_command names) cs ≡ list_all (is_listed names) (commands_variables cs)
commands-listed names [] = refl
commands-listed names (c ∷ cs) =
    two-parts names (command_variables c) (commands_variables cs) (lists_command names c)
    (list_all (lists_command names) cs) (command-listed names c) (commands-listed names cs)

function-listed : (names : List Name) (f : Func)
    → lists_function names f ≡ list_all (is_listed names) (function_variables f)
function-listed names f =
    let rest = two-parts names f.results (commands_variables f.body) (lists_names names f.results)
    (list_all (lists_command names) f.body) refl (commands-listed names f.body) in
    two-parts names f.args (f.results ++ commands_variables f.body) (lists_names names f.args)
    (lists_names names f.results && list_all (lists_command names) f.body) refl rest

pub lists-places : (f : Func) → lists_function (first_places f) f ≡ true
lists-places f = function-listed (first_places f) f ∙ all-listed [] (function_variables f)
