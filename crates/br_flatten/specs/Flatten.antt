-- The flat statements of expressions, commands, functions and programs. A variable's number is
-- the place of its name in a list of names. The literals that a function holds come after its
-- variables, and are set once at its start; the numbers after them are temporaries. Each word
-- of an expression goes to a temporary or straight to the variable that is set; a variable and
-- a held literal are used where they are. A literal that an operation may have as a constant
-- is no word, nor is one that is the byte offset of an address, and a comparison that is
-- tested is none, but what the test asks.
use Rattle.std.specs.Prelude.{ℕ, suc, max, Bool, true, false, ◌||◌, ◌&&◌, List, [], ◌∷◌}
use Rattle.std.specs.Prelude.{◌++◌, map, Option, Some, None, ℤ, pos, if◌then◌else◌, codes}
use Rattle.std.specs.List.{flat_map, list_all}
use Rattle.std.specs.Str.{bytes_eq}
use Rattle.br_words.specs.declared.operation.BinOp.{BinOp}
use Rattle.br_syntax.specs.declared.program.Expr.{Expr}
use Rattle.br_syntax.specs.declared.program.Expr.TheOpen.{Expr-F}
use Rattle.br_syntax.specs.declared.program.Expr.TheFolds.{fold-Expr}
use Rattle.br_syntax.specs.declared.program.Cmd.{Cmd}
use Rattle.br_syntax.specs.declared.program.Cmd.TheOpen.{Cmd-F}
use Rattle.br_syntax.specs.declared.program.Cmd.TheFolds.{fold-Cmd}
use Rattle.br_syntax.specs.declared.program.Func.{Func}
use Rattle.br_source_meaning.specs.Values.{Name}
use Rattle.br_flatimp.specs.declared.program.Operand.TheVariants as operand
use Rattle.br_flatimp.specs.declared.program.Rel.{Rel}
use Rattle.br_flatimp.specs.declared.program.Cond.TheVariants.{NonZero, Compare}
use Rattle.br_flatimp.specs.declared.program.Stmt.{Stmt}
use Rattle.br_flatimp.specs.declared.program.Stmt.TheOpen.{Stmt-F}
use Rattle.br_flatimp.specs.declared.program.Stmt.TheViews.{roll-Stmt}
use Rattle.br_flatimp.specs.declared.program.FlatFunc.{FlatFunc}
pub use Rattle.br_flatimp.specs.Parts.{joined}
use Rattle.br_flatimp.specs.Parts.{statement_names}
pub use Rattle.br_numbering.specs.Names.{number, is_listed}
pub use Rattle.br_flatten.specs.Scope.{place, next, unless_variable}
use Rattle.br_flatten.specs.Scope.{Scope, temporaries, holder, settings}
use Rattle.br_flatten.specs.Tests.{Test, relation, asks_zero, negation}
use Rattle.br_flatten.specs.Constants.{constant, left_constant, byte_offset}

-- ---- numbers

-- the least number above those of a list
abbrev pub above : List ℕ → ℕ
above [] = 0
above (x ∷ xs) = max (suc x) (above xs)

-- ---- names

-- each variable of an expression, of a command or of a function is in a list

abbrev pub lists_step : List Name → Expr-F Bool → Bool
lists_step names (Expr-F.Literal n) = true
lists_step names (Expr-F.Var x) = is_listed names x
lists_step names (Expr-F.Load size a) = a
lists_step names (Expr-F.Table size bytes i) = i
lists_step names (Expr-F.Op op a b) = a && b
lists_step names (Expr-F.Ite test a b) = test && (a && b)

abbrev pub lists_expression : List Name → Expr → Bool
lists_expression names = fold-Expr Bool (lists_step names)

abbrev pub lists_expressions : List Name → List Expr → Bool
lists_expressions names = list_all (lists_expression names)

abbrev pub lists_names : List Name → List Name → Bool
lists_names names = list_all (is_listed names)

abbrev pub lists_command_step : List Name → Cmd-F Bool → Bool
lists_command_step names Cmd-F.Skip = true
lists_command_step names (Cmd-F.Set x e) = is_listed names x && lists_expression names e
lists_command_step names (Cmd-F.Unset x) = true
lists_command_step names (Cmd-F.Store size a e) =
    lists_expression names a && lists_expression names e
lists_command_step names (Cmd-F.Stackalloc x n body) = is_listed names x && list_all (λ ok. ok) body
lists_command_step names (Cmd-F.If e first second) =
    lists_expression names e && (list_all (λ ok. ok) first && list_all (λ ok. ok) second)
lists_command_step names (Cmd-F.While e body) = lists_expression names e && list_all (λ ok. ok) body
lists_command_step names (Cmd-F.Seq body) = list_all (λ ok. ok) body
lists_command_step names (Cmd-F.Call at xs callee es) =
    lists_names names xs && lists_expressions names es
lists_command_step names (Cmd-F.Interact at xs action es) =
    lists_names names xs && lists_expressions names es

abbrev pub lists_command : List Name → Cmd → Bool
lists_command names = fold-Cmd Bool (lists_command_step names)

abbrev pub lists_function : List Name → Func → Bool
lists_function names f = lists_names names f.args
    && (lists_names names f.results && list_all (lists_command names) f.body)

-- ---- expressions

-- where the bytes at an address stand: the statements before, the place of a word, the first
-- temporary that is free after it, and a byte offset
pub record Address : Type 0 where
  pub before : List Stmt
  pub at : ℕ
  pub next : ℕ
  pub offset : ℤ

-- an expression, as statements
pub record Flat : Type 0 where
  -- the number of the variable that it is, where it is one
  pub variable : Option ℕ
  -- the literal that it is, where it is one
  pub literal : Option ℕ
  -- the statements that set a name to its word, where the temporaries from a number on are free
  pub into : ℕ → ℕ → List Stmt
  -- the test that holds where its word is not 0, where the temporaries from a number on are free
  pub test : ℕ → Test
  -- where the bytes at its word stand, where the temporaries from a number on are free
  pub address : ℕ → Address

abbrev pub code : Flat → ℕ → List Stmt
code e free = unless_variable e.variable (e.into free (suc free))

-- a test whether the word of an operand is 0
abbrev pub word_test : Option ℕ → (ℕ → ℕ → List Stmt) → ℕ → Test
word_test variable into free = record {
  before = unless_variable variable (into free (suc free));
  cond = NonZero (place variable free);
  next = next variable free;
}

-- the word of an operand as an address
abbrev pub word_address : Option ℕ → (ℕ → ℕ → List Stmt) → ℕ → Address
word_address variable into free = record {
  before = unless_variable variable (into free (suc free));
  at = place variable free;
  next = next variable free;
  offset = pos 0;
}

-- a test that compares two operands
abbrev pub comparison : Rel → Flat → Flat → ℕ → Test
comparison r a b free = record {
  before = code a free ++ code b (next a.variable free);
  cond = Compare r (place a.variable free) (place b.variable (next a.variable free));
  next = next b.variable (next a.variable free);
}

-- an operation as a test, by how it compares its words
abbrev pub compared_test : Option Rel → (ℕ → ℕ → List Stmt) → Flat → Flat → ℕ → Test
compared_test None into a b = word_test None into
compared_test (Some r) into a b = comparison r a b

abbrev pub operation_test : BinOp → (ℕ → ℕ → List Stmt) → Flat → Flat → ℕ → Test
operation_test op into a b free =
    if asks_zero op b.literal then negation b.variable (a.test free)
    else compared_test (relation op) into a b free

-- the statements of a test with a part for each answer
abbrev pub branches : Test → List Stmt → List Stmt → List Stmt
branches t first second = t.before ++ roll-Stmt (Stmt-F.If t.cond first second) ∷ []

-- an expression whose word itself is tested, and is an address
abbrev pub itself : Option ℕ → Option ℕ → (ℕ → ℕ → List Stmt) → Flat
itself variable literal into = record {
  variable = variable;
  literal = literal;
  into = into;
  test = word_test variable into;
  address = word_address variable into;
}

-- an operation on an operand and a constant
abbrev pub with_constant : BinOp → Flat → ℤ → ℕ → ℕ → List Stmt
with_constant op a c x free =
    code a free ++ roll-Stmt (Stmt-F.Op x op (place a.variable free) (operand.Const c)) ∷ []

-- an operation on two operands
abbrev pub with_names : BinOp → Flat → Flat → ℕ → ℕ → List Stmt
with_names op a b x free =
    code a free ++ (code b (next a.variable free)
    ++ roll-Stmt (Stmt-F.Op x op (place a.variable free) (operand.Name (place b.variable (next a.variable free)))) ∷ [])

-- an operation, given the constants in the place of its operands: one on the right is taken first
abbrev pub by_constants : Option ℤ → Option ℤ → BinOp → Flat → Flat → ℕ → ℕ → List Stmt
by_constants (Some c) left op a b = with_constant op a c
by_constants None (Some c) op a b = with_constant op b c
by_constants None None op a b = with_names op a b

abbrev pub operation : BinOp → Flat → Flat → ℕ → ℕ → List Stmt
operation op a b = by_constants (constant op b.literal) (left_constant op a.literal) op a b

-- an operand and a byte offset
abbrev pub moved_address : Flat → ℤ → ℕ → Address
moved_address a c free =
    record { before = code a free; at = place a.variable free; next = next a.variable free; offset = c }

-- an operation as an address, given the byte offsets in the place of its operands
abbrev pub by_offsets : Option ℤ → Option ℤ → (ℕ → ℕ → List Stmt) → Flat → Flat → ℕ → Address
by_offsets (Some c) left into a b = moved_address a c
by_offsets None (Some c) into a b = moved_address b c
by_offsets None None into a b = word_address None into

abbrev pub operation_address : BinOp → (ℕ → ℕ → List Stmt) → Flat → Flat → ℕ → Address
operation_address op into a b =
    by_offsets (byte_offset op b.literal) (byte_offset op a.literal) into a b

-- an expression, given the statements of its parts
abbrev pub expression_step : Scope → Expr-F Flat → Flat
expression_step scope (Expr-F.Literal n) =
    itself (holder scope n) (Some n) (λ x free. roll-Stmt (Stmt-F.Lit x n) ∷ [])
expression_step scope (Expr-F.Var y) =
    itself (Some (number scope.names y)) None
    (λ x free. roll-Stmt (Stmt-F.Copy x (number scope.names y)) ∷ [])
expression_step scope (Expr-F.Load size a) =
    itself None None (λ x free. load x (a.address free))
  where
    load : ℕ → Address → List Stmt
    load x a = a.before ++ roll-Stmt (Stmt-F.Load x size a.at a.offset) ∷ []
expression_step scope (Expr-F.Table size bytes i) =
    itself None None (λ x free. code i free
    ++ roll-Stmt (Stmt-F.Table x size bytes (place i.variable free)) ∷ [])
expression_step scope (Expr-F.Op op a b) =
    record {
      variable = None;
      literal = None;
      into = operation op a b;
      test = operation_test op (operation op a b) a b;
      address = operation_address op (operation op a b) a b;
    }
expression_step scope (Expr-F.Ite test a b) =
    itself None None (λ x free. branches (test.test free) (a.into x free) (b.into x free))

abbrev pub expression : Scope → Expr → Flat
expression scope = fold-Expr Flat (expression_step scope)

-- operands in turn: their statements, and where their words stand

abbrev pub codes_of : List Flat → ℕ → List Stmt
codes_of [] free = []
codes_of (e ∷ es) free = code e free ++ codes_of es (next e.variable free)

abbrev pub places_of : List Flat → ℕ → List ℕ
places_of [] free = []
places_of (e ∷ es) free = place e.variable free ∷ places_of es (next e.variable free)

-- ---- commands

-- a read or a write of a device word, by the numbers of its
-- variables and the places of its arguments
abbrev pub read_statements : List ℕ → List ℕ → List Stmt
read_statements (x ∷ []) (y ∷ []) = roll-Stmt (Stmt-F.Read x y) ∷ []
read_statements xs ys = []

abbrev pub write_statements : List ℕ → List ℕ → List Stmt
write_statements [] (y ∷ z ∷ []) = roll-Stmt (Stmt-F.Write y z) ∷ []
write_statements xs ys = []

abbrev pub device_statements : Name → List ℕ → List ℕ → List Stmt
device_statements action xs ys =
    if bytes_eq action (codes "MMIOREAD") then read_statements xs ys else write_statements xs ys

-- the number of the first function of a name
abbrev pub callee_number : List Func → Name → ℕ
callee_number fs = number (map (λ f. f.name) fs)

-- a command, given the statements of the commands in it; no temporary is in use between commands
abbrev pub command_step : List Func → Scope → Cmd-F (List Stmt) → List Stmt
command_step fs scope Cmd-F.Skip = []
command_step fs scope (Cmd-F.Set x e) =
    (expression scope e).into (number scope.names x) (temporaries scope)
command_step fs scope (Cmd-F.Unset x) = []
command_step fs scope (Cmd-F.Store size a e) =
    store ((expression scope a).address (temporaries scope)) (expression scope e)
  where
    store : Address → Flat → List Stmt
    store a e = a.before ++ (code e a.next ++ roll-Stmt (Stmt-F.Store size a.at (place e.variable a.next) a.offset) ∷ [])
command_step fs scope (Cmd-F.Stackalloc x n body) =
    roll-Stmt (Stmt-F.Stackalloc (number scope.names x) n (joined body)) ∷ []
command_step fs scope (Cmd-F.If e first second) =
    branches ((expression scope e).test (temporaries scope)) (joined first) (joined second)
command_step fs scope (Cmd-F.While e body) =
    repeats ((expression scope e).test (temporaries scope)) (joined body)
  where
    repeats : Test → List Stmt → List Stmt
    repeats t body = roll-Stmt (Stmt-F.Loop t.before t.cond body) ∷ []
command_step fs scope (Cmd-F.Seq body) = joined body
command_step fs scope (Cmd-F.Call at xs callee es) =
    codes_of (map (expression scope) es) (temporaries scope)
    ++ roll-Stmt (Stmt-F.Call (map (number scope.names) xs) (callee_number fs callee)
    (places_of (map (expression scope) es) (temporaries scope))) ∷ []
command_step fs scope (Cmd-F.Interact at xs action es) =
    codes_of (map (expression scope) es) (temporaries scope)
    ++ device_statements action (map (number scope.names) xs)
    (places_of (map (expression scope) es) (temporaries scope))

-- the statements of a command
abbrev pub command : List Func → Scope → Cmd → List Stmt
command fs scope = fold-Cmd (List Stmt) (command_step fs scope)

abbrev pub commands : List Func → Scope → List Cmd → List Stmt
commands fs scope cs = joined (map (command fs scope) cs)

-- ---- functions

abbrev pub function_body : List Func → Scope → Func → List Stmt
function_body fs scope f = settings scope ++ commands fs scope f.body

-- a function of a program, in a scope that has its names
abbrev pub flat_function : List Func → Scope → Func → FlatFunc
flat_function fs scope f = record {
  name = f.name;
  args = map (number scope.names) f.args;
  results = map (number scope.names) f.results;
  names = above (map (number scope.names) f.args ++ (map (number scope.names) f.results
      ++ flat_map statement_names (function_body fs scope f)));
  body = function_body fs scope f;
}
