-- What trees stand for, by the kind of tree that their place asks for.
use Rattle.std.specs.Prelude.{◌≡◌, ℕ, ◌+◌, List, [], ◌∷◌, ◌++◌, Option, Some, None, Ok}
use Rattle.std.specs.Prelude.{Err, length, map, nat_le, ◌==◌, if◌then◌else◌, codes}
use Rattle.std.specs.List.{list_any}
use Rattle.std.specs.Str.{bytes_eq}
use Rattle.br_words.specs.declared.operation.BinOp.{BinOp}
use Rattle.br_words.specs.declared.size.Size.{Size}
use Rattle.br_sexpr.specs.declared.tree.Tree.{Tree, out-Tree}
use Rattle.br_sexpr.specs.declared.tree.Tree.TheOpen.{Tree-F}
use Rattle.br_sexpr.specs.declared.tree.Tree.TheOpen.Tree-F.{Name, Number, List as Items}
use Rattle.br_sexpr.specs.declared.tree.Tree.TheFolds.{para-Tree}
use Rattle.br_syntax.specs.declared.faults.ShapeFault.{ShapeFault}
use Rattle.br_syntax.specs.declared.faults.ShapeFault.TheVariants.{BadForm, BadSize, BadByteValue}
use Rattle.br_syntax.specs.declared.faults.ShapeFault.TheVariants.{TooMany, Repeated}
use Rattle.br_syntax.specs.declared.program.Expr.{Expr}
use Rattle.br_syntax.specs.declared.program.Expr.TheVariants as expr
use Rattle.br_syntax.specs.declared.program.Cmd.{Cmd}
use Rattle.br_syntax.specs.declared.program.Cmd.TheVariants as cmd
use Rattle.br_syntax.specs.declared.program.Func.{Func}
use Rattle.br_syntax.specs.declared.word.ExprWord.{ExprWord}
use Rattle.br_syntax.specs.declared.word.ExprWord.TheVariants as e
use Rattle.br_syntax.specs.declared.word.CmdWord.{CmdWord}
use Rattle.br_syntax.specs.declared.word.CmdWord.TheVariants as c
use Rattle.br_syntax.specs.Shape.{is_buffer_size}
use Rattle.br_syntax.specs.Shaped.{Shaped, ◌<$>◌, lowest, both, all}
use Rattle.br_syntax.specs.Word.{expr_word, cmd_word}

-- the offset of one layer of a tree
abbrev pub offset_in : {X : Type 0} → Tree-F X → ℕ
offset_in (Name at text) = at
offset_in (Number at value) = at
offset_in (Items at items) = at

-- the offset of a tree
abbrev pub offset_of : Tree → ℕ
offset_of t = offset_in (out-Tree t)

-- the name that one layer of a tree is, and no byte where it is none
abbrev pub word_in : {X : Type 0} → Tree-F X → List ℕ
word_in (Name at text) = text
word_in (Number at value) = []
word_in (Items at items) = []

-- the name that a tree is, and no byte where it is none
abbrev pub word_of : Tree → List ℕ
word_of t = word_in (out-Tree t)

-- a place that asks for a name
abbrev pub name_in : {X : Type 0} → Tree-F X → Shaped (List ℕ)
name_in (Name at text) = Ok text
name_in (Number at value) = Err (BadForm at)
name_in (Items at items) = Err (BadForm at)

-- of a tree
abbrev pub name : Tree → Shaped (List ℕ)
name t = name_in (out-Tree t)

-- an item of a list of names, after these items
abbrev pub name_among : {X : Type 0} → List Tree → Tree-F X → Shaped (List ℕ)
name_among earlier (Name at text) =
    if length earlier == 8 then Err (TooMany at)
    else (if list_any (λ t. bytes_eq (word_of t) text) earlier then Err (Repeated at)
    else Ok text)
name_among earlier (Number at value) = Err (BadForm at)
name_among earlier (Items at items) = Err (BadForm at)

-- items of a list of names, after these items
abbrev pub names_after : List Tree → List Tree → Shaped (List (List ℕ))
names_after earlier [] = Ok []
names_after earlier (t ∷ ts) =
    (λ p. p.0 ∷ p.1) <$> both (name_among earlier (out-Tree t)) (names_after (earlier ++ t ∷ []) ts)

-- a place that asks for a list of names
abbrev pub names_in : Tree-F Tree → Shaped (List (List ℕ))
names_in (Name at text) = Err (BadForm at)
names_in (Number at value) = Err (BadForm at)
names_in (Items at items) = names_after [] items

-- of a tree
abbrev pub names : Tree → Shaped (List (List ℕ))
names t = names_in (out-Tree t)

-- a place that asks for the size of a buffer
abbrev pub buffer_size_in : {X : Type 0} → Tree-F X → Shaped ℕ
buffer_size_in (Name at text) = Err (BadForm at)
buffer_size_in (Number at value) = if is_buffer_size value then Ok value else Err (BadSize at)
buffer_size_in (Items at items) = Err (BadForm at)

-- of a tree
abbrev pub buffer_size : Tree → Shaped ℕ
buffer_size t = buffer_size_in (out-Tree t)

-- a place that asks for a byte
abbrev pub byte_in : {X : Type 0} → Tree-F X → Shaped ℕ
byte_in (Name at text) = Err (BadForm at)
byte_in (Number at value) = if nat_le value 255 then Ok value else Err (BadByteValue at)
byte_in (Items at items) = Err (BadForm at)

-- of a tree
abbrev pub byte : Tree → Shaped ℕ
byte t = byte_in (out-Tree t)

-- a place that asks for the bytes of a table
abbrev pub bytes_in : Tree-F Tree → Shaped (List ℕ)
bytes_in (Name at text) = Err (BadForm at)
bytes_in (Number at value) = Err (BadForm at)
bytes_in (Items at items) = all (map byte items)

-- of a tree
abbrev pub bytes : Tree → Shaped (List ℕ)
bytes t = bytes_in (out-Tree t)

-- a tree, and what it stands for at a place that asks for an expression
abbrev pub WithExpr : Type 0
WithExpr = Tree × Shaped Expr

-- a load of this size
abbrev pub load_of : Size → Shaped Expr → Shaped Expr
load_of size address = expr.Load size <$> address

-- a read of a table of this size
abbrev pub table_of : Size → Shaped (List ℕ) → Shaped Expr → Shaped Expr
table_of size bytes index = (λ p. expr.Table size p.0 p.1) <$> both bytes index

-- an operation on two words
abbrev pub operation_of : BinOp → Shaped Expr → Shaped Expr → Shaped Expr
operation_of operation first second = (λ p. expr.Op operation p.0 p.1) <$> both first second

-- a test, and the words where it is not 0 and where it is
abbrev pub ite_of : Shaped Expr → Shaped Expr → Shaped Expr → Shaped Expr
ite_of test first second = (λ p. expr.Ite p.0.0 p.0.1 p.1) <$> both (both test first) second

-- a list of two items
abbrev pub of_two : ℕ → Option ExprWord → WithExpr → Shaped Expr
of_two at (Some (e.Load size)) x = load_of size x.1
of_two at (Some (e.Table size)) x = Err (BadForm at)
of_two at (Some (e.Op operation)) x = Err (BadForm at)
of_two at (Some e.Ite) x = Err (BadForm at)
of_two at None x = Err (BadForm at)

-- a list of three items
abbrev pub of_three : ℕ → Option ExprWord → WithExpr → WithExpr → Shaped Expr
of_three at (Some (e.Load size)) x y = Err (BadForm at)
of_three at (Some (e.Table size)) x y = table_of size (bytes x.0) y.1
of_three at (Some (e.Op operation)) x y = operation_of operation x.1 y.1
of_three at (Some e.Ite) x y = Err (BadForm at)
of_three at None x y = Err (BadForm at)

-- a list of four items
abbrev pub of_four : ℕ → Option ExprWord → WithExpr → WithExpr → WithExpr → Shaped Expr
of_four at (Some (e.Load size)) x y z = Err (BadForm at)
of_four at (Some (e.Table size)) x y z = Err (BadForm at)
of_four at (Some (e.Op operation)) x y z = Err (BadForm at)
of_four at (Some e.Ite) x y z = ite_of x.1 y.1 z.1
of_four at None x y z = Err (BadForm at)

-- a list of these items at a place that asks for an expression
abbrev pub expression_of : ℕ → List WithExpr → Shaped Expr
expression_of at [] = Err (BadForm at)
expression_of at (head ∷ []) = Err (BadForm at)
expression_of at (head ∷ x ∷ []) = of_two at (expr_word (word_of head.0)) x
expression_of at (head ∷ x ∷ y ∷ []) = of_three at (expr_word (word_of head.0)) x y
expression_of at (head ∷ x ∷ y ∷ z ∷ []) = of_four at (expr_word (word_of head.0)) x y z
expression_of at (head ∷ x ∷ y ∷ z ∷ w ∷ more) = Err (BadForm at)

-- one layer of a tree at a place that asks for an expression
abbrev pub expression_in : Tree-F WithExpr → Shaped Expr
expression_in (Name at text) = Ok (expr.Var text)
expression_in (Number at value) = Ok (expr.Literal value)
expression_in (Items at items) = expression_of at items

-- a place that asks for an expression
abbrev pub expression : Tree → Shaped Expr
expression = para-Tree (Shaped Expr) expression_in

-- a tree beside what it stands for as an expression
abbrev pub with_expression : Tree → WithExpr
with_expression t = (t, expression t)

-- an argument of a call or an interaction, after so many others
abbrev pub argument_at : ℕ → Tree → Shaped Expr
argument_at i t =
    if i == 8 then Err (lowest (TooMany (offset_of t)) (expression t)) else expression t

-- arguments, after so many others
abbrev pub arguments_from : ℕ → List Tree → Shaped (List Expr)
arguments_from i [] = Ok []
arguments_from i (t ∷ ts) = (λ p. p.0 ∷ p.1) <$> both (argument_at i t) (arguments_from (i + 1) ts)

-- what a tree stands for where a command is asked for, and where commands after a word are
pub record Places : Type 0 where
  pub command : Shaped Cmd
  pub behind : List ℕ → Shaped (List Cmd)

-- a tree beside what it stands for at those places
abbrev pub WithPlaces : Type 0
WithPlaces = Tree × Places

-- places that ask for commands
abbrev pub body_of : List WithPlaces → Shaped (List Cmd)
body_of parts = all (map (λ part. part.1.command) parts)

-- (skip)
abbrev pub skip_of : ℕ → List WithPlaces → Shaped Cmd
skip_of at [] = Ok cmd.Skip
skip_of at (x ∷ more) = Err (BadForm at)

-- (set NAME EXPR)
abbrev pub set_of : ℕ → List WithPlaces → Shaped Cmd
set_of at (variable ∷ value ∷ []) =
    (λ p. cmd.Set p.0 p.1) <$> both (name variable.0) (expression value.0)
set_of at _ = Err (BadForm at)

-- (unset NAME)
abbrev pub unset_of : ℕ → List WithPlaces → Shaped Cmd
unset_of at (variable ∷ []) = cmd.Unset <$> name variable.0
unset_of at _ = Err (BadForm at)

-- (store EXPR EXPR) of this size, the address first
abbrev pub store_of : ℕ → Size → List WithPlaces → Shaped Cmd
store_of at size (address ∷ value ∷ []) =
    (λ p. cmd.Store size p.0 p.1) <$> both (expression address.0) (expression value.0)
store_of at size _ = Err (BadForm at)

-- (stackalloc NAME SIZE COMMAND..)
abbrev pub stackalloc_of : ℕ → List WithPlaces → Shaped Cmd
stackalloc_of at (variable ∷ size ∷ body) =
    (λ p. cmd.Stackalloc p.0.0 p.0.1 p.1) <$> both (both (name variable.0) (buffer_size size.0))
    (body_of body)
stackalloc_of at _ = Err (BadForm at)

-- (if EXPR THEN ELSE)
abbrev pub if_of : ℕ → List WithPlaces → Shaped Cmd
if_of at (test ∷ then_part ∷ else_part ∷ []) =
    (λ p. cmd.If p.0.0 p.0.1 p.1)
    <$> both (both (expression test.0) (then_part.1.behind (codes "then")))
    (else_part.1.behind (codes "else"))
if_of at _ = Err (BadForm at)

-- (while EXPR COMMAND..)
abbrev pub while_of : ℕ → List WithPlaces → Shaped Cmd
while_of at (test ∷ body) = (λ p. cmd.While p.0 p.1) <$> both (expression test.0) (body_of body)
while_of at [] = Err (BadForm at)

-- (seq COMMAND..)
abbrev pub seq_of : List WithPlaces → Shaped Cmd
seq_of body = cmd.Seq <$> body_of body

-- the results, the name and the arguments of a call or an interaction
abbrev pub target_of : Tree → Tree → List Tree → Shaped ((List (List ℕ) × List ℕ) × List Expr)
target_of results called arguments =
    both (both (names results) (name called)) (arguments_from 0 arguments)

-- (call NAMES NAME EXPR..)
abbrev pub call_of : ℕ → List WithPlaces → Shaped Cmd
call_of at (results ∷ callee ∷ arguments) =
    (λ p. cmd.Call (offset_of callee.0) p.0.0 p.0.1 p.1)
    <$> target_of results.0 callee.0 (map (λ part. part.0) arguments)
call_of at _ = Err (BadForm at)

-- (interact NAMES NAME EXPR..)
abbrev pub interact_of : ℕ → List WithPlaces → Shaped Cmd
interact_of at (results ∷ action ∷ arguments) =
    (λ p. cmd.Interact (offset_of action.0) p.0.0 p.0.1 p.1)
    <$> target_of results.0 action.0 (map (λ part. part.0) arguments)
interact_of at _ = Err (BadForm at)

-- a list that begins with this word and has these parts, at a place that asks for a command
abbrev pub form_of : ℕ → Option CmdWord → List WithPlaces → Shaped Cmd
form_of at (Some c.Skip) parts = skip_of at parts
form_of at (Some c.Set) parts = set_of at parts
form_of at (Some c.Unset) parts = unset_of at parts
form_of at (Some (c.Store size)) parts = store_of at size parts
form_of at (Some c.Stackalloc) parts = stackalloc_of at parts
form_of at (Some c.If) parts = if_of at parts
form_of at (Some c.While) parts = while_of at parts
form_of at (Some c.Seq) parts = seq_of parts
form_of at (Some c.Call) parts = call_of at parts
form_of at (Some c.Interact) parts = interact_of at parts
form_of at None parts = Err (BadForm at)

-- a list of these items at a place that asks for a command
abbrev pub command_of : ℕ → List WithPlaces → Shaped Cmd
command_of at [] = Err (BadForm at)
command_of at (head ∷ parts) = form_of at (cmd_word (word_of head.0)) parts

-- a list of these items at a place that asks for commands after this word
abbrev pub behind_of : ℕ → List WithPlaces → List ℕ → Shaped (List Cmd)
behind_of at [] word = Err (BadForm at)
behind_of at (head ∷ body) word =
    if bytes_eq (word_of head.0) word then body_of body else Err (BadForm at)

-- one layer of a tree at those places
abbrev pub places_in : Tree-F WithPlaces → Places
places_in (Name at text) = record { command = Err (BadForm at); behind = λ word. Err (BadForm at) }
places_in (Number at value) =
    record { command = Err (BadForm at); behind = λ word. Err (BadForm at) }
places_in (Items at items) = record { command = command_of at items; behind = behind_of at items }

-- what a tree stands for at those places
abbrev pub places : Tree → Places
places = para-Tree Places places_in

-- a tree beside that
abbrev pub with_places : Tree → WithPlaces
with_places t = (t, places t)

-- a place that asks for a command
abbrev pub command : Tree → Shaped Cmd
command t = (places t).command

-- places that ask for commands
abbrev pub commands : List Tree → Shaped (List Cmd)
commands trees = body_of (map with_places trees)

-- the parts of a function
abbrev pub function_of : Tree → Tree → Tree → List Tree → Shaped Func
function_of called arguments results body =
    (λ p.
    record { at = offset_of called; name = p.0.0; args = p.0.1; results = p.1.0; body = p.1.1 })
    <$> both (both (name called) (names arguments)) (both (names results) (commands body))

-- (fn NAME NAMES NAMES COMMAND..)
abbrev pub function_list : ℕ → List Tree → Shaped Func
function_list at (head ∷ called ∷ arguments ∷ results ∷ body) =
    if bytes_eq (word_of head) (codes "fn") then function_of called arguments results body
    else Err (BadForm at)
function_list at _ = Err (BadForm at)

-- one layer of a tree at a place that asks for a function
abbrev pub function_in : Tree-F Tree → Shaped Func
function_in (Name at text) = Err (BadForm at)
function_in (Number at value) = Err (BadForm at)
function_in (Items at items) = function_list at items

-- a place that asks for a function
abbrev pub function : Tree → Shaped Func
function t = function_in (out-Tree t)

-- a text asks for functions
abbrev pub functions : List Tree → Shaped (List Func)
functions trees = all (map function trees)

-- the trees are functions throughout, with no fault of shape, and
-- these are they in order with their offsets
abbrev pub Denotes : List Tree → List Func → Type 0
Denotes trees funcs = functions trees ≡ Ok funcs

-- the lowest fault of shape in the trees
abbrev pub IsShapeFault : List Tree → ShapeFault → Type 0
IsShapeFault trees fault = functions trees ≡ Err fault
