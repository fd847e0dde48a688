-- Programs with the offsets of their text: the trees that they are read from, and the programs without
-- the offsets.
use Rattle.std.proofs.Common.{◌≡◌, ℕ, true, false, List, [], ◌∷◌, Ok, Some, map, codes, ◌||◌, arith, refl, sym, ap, ◌∙◌}
use Rattle.std.specs.List.{list_any}
use Rattle.std.specs.Str.{bytes_eq}
use Rattle.std.proofs.lemmas.Grind.{common_steps}
use Rattle.br_words.specs.declared.operation.BinOp.{BinOp}
use Rattle.br_words.specs.declared.operation.BinOp.TheVariants as o
use Rattle.br_words.specs.declared.size.Size.TheVariants as size
use Rattle.br_sexpr.specs.declared.tree.Tree.{Tree}
use Rattle.br_sexpr.specs.declared.tree.Tree.TheVariants as tree
use Rattle.br_sexpr.specs.declared.tree.Tree.TheOpen.Tree-F.{Name as name-F}
use Rattle.br_syntax.specs.declared.program.Expr.{Expr}
use Rattle.br_syntax.specs.declared.program.Expr.TheVariants as expr
use Rattle.br_syntax.specs.declared.program.Cmd.{Cmd}
use Rattle.br_syntax.specs.declared.program.Cmd.TheVariants as cmd
use Rattle.br_syntax.specs.declared.program.Cmd.TheOpen.{Cmd-F}
use Rattle.br_syntax.specs.declared.program.Cmd.TheFolds.{fold-roll-Cmd}
use Rattle.br_syntax.specs.declared.program.Func.{Func}
use Rattle.br_syntax.specs.declared.word.ExprWord.TheVariants as e
use Rattle.br_syntax.specs.Shape.{is_buffer_size}
use Rattle.br_syntax.specs.Word.{expr_word}
use Rattle.br_syntax.specs.Denotes.{Places, places, with_places, command, command_of, commands, names}
use Rattle.br_syntax.specs.Denotes.{name_among, word_of, arguments_from, expression, function, functions}
use Rattle.br_syntax.specs.Offsets.{unplaced, unplaced_step, without_offsets}
use Rattle.br_lightbulb.proofs.Forest.{Forest}
use Rattle.br_lightbulb.proofs.Forest as forest
use Rattle.br_syntax.proofs.Equations.{expression-name, expression-number, expression-list}
use Rattle.br_syntax.proofs.Equations.{places-list, behind-list, trees_with_places}

abbrev pub Text : Type 0
Text = List ℕ

-- ---- expressions

pub data Exp : Type 0 where
  number : ℕ → ℕ → Exp
  var : ℕ → Text → Exp
  op : ℕ → ℕ → BinOp → Exp → Exp → Exp
  load1 : ℕ → ℕ → Exp → Exp

abbrev pub word : BinOp → Text
word o.Add = codes "add"
word o.Sub = codes "sub"
word o.Mul = codes "mul"
word o.Mulhuu = codes "mulhuu"
word o.Divu = codes "divu"
word o.Remu = codes "remu"
word o.And = codes "and"
word o.Or = codes "or"
word o.Xor = codes "xor"
word o.Sru = codes "sru"
word o.Slu = codes "slu"
word o.Srs = codes "srs"
word o.Lts = codes "lts"
word o.Ltu = codes "ltu"
word o.Eq = codes "eq"

word_is : (p : BinOp) → expr_word (word p) ≡ Some (e.Op p)
word_is o.Add = refl
word_is o.Sub = refl
word_is o.Mul = refl
word_is o.Mulhuu = refl
word_is o.Divu = refl
word_is o.Remu = refl
word_is o.And = refl
word_is o.Or = refl
word_is o.Xor = refl
word_is o.Sru = refl
word_is o.Slu = refl
word_is o.Srs = refl
word_is o.Lts = refl
word_is o.Ltu = refl
word_is o.Eq = refl

abbrev pub exp_tree : Exp → Tree
exp_tree (number at k) = tree.Number at k
exp_tree (var at x) = tree.Name at x
exp_tree (op at w p a b) = tree.List at (tree.Name w (word p) ∷ exp_tree a ∷ exp_tree b ∷ [])
exp_tree (load1 at w a) = tree.List at (tree.Name w (codes "load1") ∷ exp_tree a ∷ [])

abbrev pub exp : Exp → Expr
exp (number at k) = expr.Literal k
exp (var at x) = expr.Var x
exp (op at w p a b) = expr.Op p (exp a) (exp b)
exp (load1 at w a) = expr.Load size.One (exp a)

pub exp_reads : (a : Exp) → expression (exp_tree a) ≡ Ok (exp a)
exp_reads (number at k) = expression-number at k
exp_reads (var at x) = expression-name at x
exp_reads (op at w p a b) =
    expression-list at (tree.Name w (word p) ∷ exp_tree a ∷ exp_tree b ∷ [])
    ∙ rw (tree.outs-Name w (word p), word_is p, exp_reads a, exp_reads b) refl
exp_reads (load1 at w a) = expression-list at (tree.Name w (codes "load1") ∷ exp_tree a ∷ [])
    ∙ rw (tree.outs-Name w (codes "load1"), exp_reads a) refl

-- ---- lists of names, and of arguments

pub data Names : Type 0 where
  none : ℕ → Names
  one : ℕ → ℕ → Text → Names
  two : ℕ → ℕ → (x : Text) → ℕ → (y : Text) → bytes_eq x y ≡ false → Names

abbrev pub names_tree : Names → Tree
names_tree (none at) = tree.List at []
names_tree (one at i x) = tree.List at (tree.Name i x ∷ [])
names_tree (two at i x j y apart) = tree.List at (tree.Name i x ∷ tree.Name j y ∷ [])

abbrev pub names_of : Names → List Text
names_of (none at) = []
names_of (one at i x) = x ∷ []
names_of (two at i x j y apart) = x ∷ y ∷ []

word_is_name : (i : ℕ) (x : Text) → word_of (tree.Name i x) ≡ x
word_is_name i x = rw (tree.outs-Name i x) refl

second_name : (i j : ℕ) (x y : Text) → bytes_eq x y ≡ false →
    name_among {X = Tree} (tree.Name i x ∷ []) (name-F j y) ≡ Ok y
second_name i j x y apart =
    let new : list_any (λ (t : Tree). bytes_eq (word_of t) y) (tree.Name i x ∷ []) ≡ false =
    ap (λ (q : Text). bytes_eq q y || false) (word_is_name i x) ∙ rw apart refl in
    grind (arith, common_steps, new)

names_read : (ns : Names) → names (names_tree ns) ≡ Ok (names_of ns)
names_read (none at) = rw (tree.outs-List at []) refl
names_read (one at i x) = rw (tree.outs-List at (tree.Name i x ∷ []), tree.outs-Name i x) refl
names_read (two at i x j y apart) =
    rw (
      tree.outs-List at (tree.Name i x ∷ tree.Name j y ∷ []),
      tree.outs-Name i x,
      tree.outs-Name j y,
      second_name i j
          x y apart,
    ) refl

pub data Args : Type 0 where
  no_args : Args
  one_arg : Exp → Args
  two_args : Exp → Exp → Args

abbrev pub args_trees : Args → List Tree
args_trees no_args = []
args_trees (one_arg a) = exp_tree a ∷ []
args_trees (two_args a b) = exp_tree a ∷ exp_tree b ∷ []

abbrev pub args_of : Args → List Expr
args_of no_args = []
args_of (one_arg a) = exp a ∷ []
args_of (two_args a b) = exp a ∷ exp b ∷ []

args_read : (args : Args) → arguments_from 0 (args_trees args) ≡ Ok (args_of args)
args_read no_args = refl
args_read (one_arg a) = rw (exp_reads a) refl
args_read (two_args a b) = rw (exp_reads a, exp_reads b) refl

-- ---- commands

pub data Cmds : Type 0 where
  done : Cmds
  set : ℕ → ℕ → ℕ → Text → Exp → Cmds → Cmds
  store4 : ℕ → ℕ → Exp → Exp → Cmds → Cmds
  stackalloc : ℕ → ℕ → ℕ → Text → ℕ → (n : ℕ) → is_buffer_size n ≡ true → Cmds → Cmds → Cmds
  cond : ℕ → ℕ → Exp → ℕ → ℕ → Cmds → ℕ → ℕ → Cmds → Cmds → Cmds
  loop : ℕ → ℕ → Exp → Cmds → Cmds → Cmds
  call : ℕ → ℕ → Names → ℕ → Text → Args → Cmds → Cmds
  interact : ℕ → ℕ → Names → ℕ → Text → Args → Cmds → Cmds

abbrev pub cmd_trees : Cmds → List Tree
cmd_trees done = []
cmd_trees (set at w i x a more) =
    tree.List at (tree.Name w (codes "set") ∷ tree.Name i x ∷ exp_tree a ∷ []) ∷ cmd_trees more
cmd_trees (store4 at w a b more) =
    tree.List at (tree.Name w (codes "store4") ∷ exp_tree a ∷ exp_tree b ∷ []) ∷ cmd_trees more
cmd_trees (stackalloc at w i x j n ok body more) =
    tree.List at (tree.Name w (codes "stackalloc") ∷ tree.Name i x ∷ tree.Number j n ∷ cmd_trees body) ∷ cmd_trees more
cmd_trees (cond at w a i iw first j jw second more) =
    tree.List at
    (tree.Name w (codes "if")
    ∷ exp_tree a
    ∷ tree.List i (tree.Name iw (codes "then") ∷ cmd_trees first)
    ∷ tree.List j (tree.Name jw (codes "else") ∷ cmd_trees second)
    ∷ [])
    ∷ cmd_trees more
cmd_trees (loop at w a body more) =
    tree.List at (tree.Name w (codes "while") ∷ exp_tree a ∷ cmd_trees body) ∷ cmd_trees more
cmd_trees (call at w xs i f args more) =
    tree.List at (tree.Name w (codes "call") ∷ names_tree xs ∷ tree.Name i f ∷ args_trees args) ∷ cmd_trees more
cmd_trees (interact at w xs i f args more) =
    tree.List at (tree.Name w (codes "interact") ∷ names_tree xs ∷ tree.Name i f ∷ args_trees args) ∷ cmd_trees more

-- with their offsets
abbrev pub cmds : Cmds → List Cmd
cmds done = []
cmds (set at w i x a more) = cmd.Set x (exp a) ∷ cmds more
cmds (store4 at w a b more) = cmd.Store size.Four (exp a) (exp b) ∷ cmds more
cmds (stackalloc at w i x j n ok body more) = cmd.Stackalloc x n (cmds body) ∷ cmds more
cmds (cond at w a i iw first j jw second more) = cmd.If (exp a) (cmds first) (cmds second) ∷ cmds more
cmds (loop at w a body more) = cmd.While (exp a) (cmds body) ∷ cmds more
cmds (call at w xs i f args more) = cmd.Call i (names_of xs) f (args_of args) ∷ cmds more
cmds (interact at w xs i f args more) = cmd.Interact i (names_of xs) f (args_of args) ∷ cmds more

-- and without
abbrev pub bare : Cmds → List Cmd
bare done = []
bare (set at w i x a more) = cmd.Set x (exp a) ∷ bare more
bare (store4 at w a b more) = cmd.Store size.Four (exp a) (exp b) ∷ bare more
bare (stackalloc at w i x j n ok body more) = cmd.Stackalloc x n (bare body) ∷ bare more
bare (cond at w a i iw first j jw second more) = cmd.If (exp a) (bare first) (bare second) ∷ bare more
bare (loop at w a body more) = cmd.While (exp a) (bare body) ∷ bare more
bare (call at w xs i f args more) = cmd.Call 0 (names_of xs) f (args_of args) ∷ bare more
bare (interact at w xs i f args more) = cmd.Interact 0 (names_of xs) f (args_of args) ∷ bare more

command-list : (at : ℕ) (items : List Tree) → command (tree.List at items) ≡ command_of at (map with_places items)
command-list at items = ap (λ (p : Places). p.command) (places-list at items)

behind : (at w : ℕ) (part : Text) (trees : List Tree) (body : List Cmd) → bytes_eq part part ≡ true →
    commands trees ≡ Ok body →
    (places (tree.List at (tree.Name w part ∷ trees))).behind part ≡ Ok body
behind at w part trees body same is = behind-list at (tree.Name w part ∷ trees) part
    ∙ rw (tree.outs-Name w part, same) is

before : (t : Tree) (ts : List Tree) (c : Cmd) (cs : List Cmd) → command t ≡ Ok c → commands ts ≡ Ok cs →
    commands (t ∷ ts) ≡ Ok (c ∷ cs)
before t ts c cs here there = rw (here, there) refl

pub cmds_read : (p : Cmds) → commands (cmd_trees p) ≡ Ok (cmds p)
cmds_read done = refl
cmds_read (set at w i x a more) =
    before _ (cmd_trees more) _ (cmds more)
    (command-list at (tree.Name w (codes "set") ∷ tree.Name i x ∷ exp_tree a ∷ [])
    ∙ rw (tree.outs-Name w (codes "set"), tree.outs-Name i x, exp_reads a) refl)
    (cmds_read more)
cmds_read (store4 at w a b more) =
    before _ (cmd_trees more) _ (cmds more)
    (command-list at (tree.Name w (codes "store4") ∷ exp_tree a ∷ exp_tree b ∷ [])
    ∙ rw (tree.outs-Name w (codes "store4"), exp_reads a, exp_reads b) refl)
    (cmds_read more)
cmds_read (stackalloc at w i x j n ok body more) =
    before _ (cmd_trees more) _ (cmds more)
    (command-list at (tree.Name w (codes "stackalloc") ∷ tree.Name i x ∷ tree.Number j n ∷ cmd_trees body)
    ∙ rw (tree.outs-Name w (codes "stackalloc"), tree.outs-Name i x, tree.outs-Number j n, ok, cmds_read body) refl)
    (cmds_read more)
cmds_read (cond at w a i iw first j jw second more) =
    before _ (cmd_trees more) _ (cmds more)
    (command-list at
    (tree.Name w (codes "if")
    ∷ exp_tree a
    ∷ tree.List i (tree.Name iw (codes "then") ∷ cmd_trees first)
    ∷ tree.List j (tree.Name jw (codes "else") ∷ cmd_trees second)
    ∷ [])
    ∙ rw (
      tree.outs-Name w (codes "if"),
      exp_reads a,
      behind i iw (codes "then") (cmd_trees first) (cmds first) refl
          (cmds_read first),
      behind j jw (codes "else") (cmd_trees second) (cmds second) refl (cmds_read second),
    ) refl)
    (cmds_read more)
cmds_read (loop at w a body more) =
    before _ (cmd_trees more) _ (cmds more)
    (command-list at (tree.Name w (codes "while") ∷ exp_tree a ∷ cmd_trees body)
    ∙ rw (tree.outs-Name w (codes "while"), exp_reads a, cmds_read body) refl)
    (cmds_read more)
cmds_read (call at w xs i f args more) =
    before _ (cmd_trees more) _ (cmds more)
    (command-list at (tree.Name w (codes "call") ∷ names_tree xs ∷ tree.Name i f ∷ args_trees args)
    ∙ rw (
      tree.outs-Name w (codes "call"),
      tree.outs-Name i f,
      trees_with_places
          (args_trees args),
      names_read xs,
      args_read args,
    ) refl)
    (cmds_read more)
cmds_read (interact at w xs i f args more) =
    before _ (cmd_trees more) _ (cmds more)
    (command-list at (tree.Name w (codes "interact") ∷ names_tree xs ∷ tree.Name i f ∷ args_trees args)
    ∙ rw (
      tree.outs-Name w (codes "interact"),
      tree.outs-Name i f,
      trees_with_places
          (args_trees args),
      names_read xs,
      args_read args,
    ) refl)
    (cmds_read more)

pub cmds_bare : (p : Cmds) → map unplaced (cmds p) ≡ bare p
cmds_bare done = refl
cmds_bare (set at w i x a more) =
    ap (λ c. c ∷ map unplaced (cmds more))
    (ap unplaced (sym (cmd.rolls-Set x (exp a))) ∙ fold-roll-Cmd Cmd unplaced_step (Cmd-F.Set x (exp a)))
    ∙ ap (λ cs. cmd.Set x (exp a) ∷ cs) (cmds_bare more)
cmds_bare (store4 at w a b more) =
    ap (λ c. c ∷ map unplaced (cmds more))
    (ap unplaced (sym (cmd.rolls-Store size.Four (exp a) (exp b)))
    ∙ fold-roll-Cmd Cmd unplaced_step (Cmd-F.Store size.Four (exp a) (exp b)))
    ∙ ap (λ cs. cmd.Store size.Four (exp a) (exp b) ∷ cs) (cmds_bare more)
cmds_bare (stackalloc at w i x j n ok body more) =
    ap (λ c. c ∷ map unplaced (cmds more))
    (ap unplaced (sym (cmd.rolls-Stackalloc x n (cmds body)))
    ∙ fold-roll-Cmd Cmd unplaced_step (Cmd-F.Stackalloc x n (cmds body)) ∙ ap (cmd.Stackalloc x n) (cmds_bare body))
    ∙ ap (λ cs. cmd.Stackalloc x n (bare body) ∷ cs) (cmds_bare more)
cmds_bare (cond at w a i iw first j jw second more) =
    ap (λ c. c ∷ map unplaced (cmds more))
    (ap unplaced (sym (cmd.rolls-If (exp a) (cmds first) (cmds second)))
    ∙ fold-roll-Cmd Cmd unplaced_step (Cmd-F.If (exp a) (cmds first) (cmds second))
    ∙ ap (λ (cs : List Cmd). cmd.If (exp a) cs (map unplaced (cmds second))) (cmds_bare first)
    ∙ ap (cmd.If (exp a) (bare first)) (cmds_bare second))
    ∙ ap (λ cs. cmd.If (exp a) (bare first) (bare second) ∷ cs) (cmds_bare more)
cmds_bare (loop at w a body more) =
    ap (λ c. c ∷ map unplaced (cmds more))
    (ap unplaced (sym (cmd.rolls-While (exp a) (cmds body)))
    ∙ fold-roll-Cmd Cmd unplaced_step (Cmd-F.While (exp a) (cmds body)) ∙ ap (cmd.While (exp a)) (cmds_bare body))
    ∙ ap (λ cs. cmd.While (exp a) (bare body) ∷ cs) (cmds_bare more)
cmds_bare (call at w xs i f args more) =
    ap (λ c. c ∷ map unplaced (cmds more))
    (ap unplaced (sym (cmd.rolls-Call i (names_of xs) f (args_of args)))
    ∙ fold-roll-Cmd Cmd unplaced_step (Cmd-F.Call i (names_of xs) f (args_of args)))
    ∙ ap (λ cs. cmd.Call 0 (names_of xs) f (args_of args) ∷ cs) (cmds_bare more)
cmds_bare (interact at w xs i f args more) =
    ap (λ c. c ∷ map unplaced (cmds more))
    (ap unplaced (sym (cmd.rolls-Interact i (names_of xs) f (args_of args)))
    ∙ fold-roll-Cmd Cmd unplaced_step (Cmd-F.Interact i (names_of xs) f (args_of args)))
    ∙ ap (λ cs. cmd.Interact 0 (names_of xs) f (args_of args) ∷ cs) (cmds_bare more)

-- ---- functions

pub record Function : Type 0 where
  pub at : ℕ
  pub word_at : ℕ
  pub name_at : ℕ
  pub name : Text
  pub args : Names
  pub results : Names
  pub body : Cmds

abbrev pub function_tree : Function → Tree
function_tree f = tree.List f.at
    (tree.Name f.word_at (codes "fn")
    ∷ tree.Name f.name_at f.name ∷ names_tree f.args ∷ names_tree f.results ∷ cmd_trees f.body)

abbrev pub placed : Function → Func
placed f = record {
  at = f.name_at;
  name = f.name;
  args = names_of f.args;
  results = names_of f.results;
  body =
      cmds f.body;
}

abbrev pub bare_function : Function → Func
bare_function f = record {
  at = 0;
  name = f.name;
  args = names_of f.args;
  results = names_of f.results;
  body =
      bare f.body;
}

function_reads : (f : Function) → function (function_tree f) ≡ Ok (placed f)
function_reads f =
    rw (
      tree.outs-List f.at (tree.Name f.word_at (codes "fn")
          ∷ tree.Name f.name_at f.name ∷ names_tree f.args ∷ names_tree f.results ∷ cmd_trees f.body),
      tree.outs-Name
          f.word_at (codes "fn"),
      tree.outs-Name f.name_at f.name,
      names_read f.args,
      names_read f.results,
      cmds_read
          f.body,
    ) refl

pub functions_read : (fs : List Function) → functions (map function_tree fs) ≡ Ok (map placed fs)
functions_read [] = refl
functions_read (f ∷ fs) = rw (function_reads f, functions_read fs) refl

pub functions_bare : (fs : List Function) → without_offsets (map placed fs) ≡ map bare_function fs
functions_bare [] = refl
functions_bare (f ∷ fs) =
    ap (λ (body : List Cmd). record {
      at = 0;
      name = f.name;
      args = names_of f.args;
      results =
          names_of f.results;
      body = body;
    } ∷ without_offsets (map placed fs)) (cmds_bare f.body)
    ∙ ap (λ (gs : List Func). bare_function f ∷ gs) (functions_bare fs)

-- ---- all trees

abbrev exp_forest : Exp → Forest → Forest
exp_forest (number at k) more = forest.number at k more
exp_forest (var at x) more = forest.name at x more
exp_forest (op at w p a b) more = forest.list at (forest.name w (word p) (exp_forest a (exp_forest b forest.nil))) more
exp_forest (load1 at w a) more = forest.list at (forest.name w (codes "load1") (exp_forest a forest.nil)) more

abbrev names_forest : Names → Forest → Forest
names_forest (none at) more = forest.list at forest.nil more
names_forest (one at i x) more = forest.list at (forest.name i x forest.nil) more
names_forest (two at i x j y apart) more = forest.list at (forest.name i x (forest.name j y forest.nil)) more

abbrev args_forest : Args → Forest
args_forest no_args = forest.nil
args_forest (one_arg a) = exp_forest a forest.nil
args_forest (two_args a b) = exp_forest a (exp_forest b forest.nil)

abbrev cmds_forest : Cmds → Forest
cmds_forest done = forest.nil
cmds_forest (set at w i x a more) =
    forest.list at (forest.name w (codes "set") (forest.name i x (exp_forest a forest.nil))) (cmds_forest more)
cmds_forest (store4 at w a b more) =
    forest.list at (forest.name w (codes "store4") (exp_forest a (exp_forest b forest.nil))) (cmds_forest more)
cmds_forest (stackalloc at w i x j n ok body more) =
    forest.list at (forest.name w (codes "stackalloc") (forest.name i x (forest.number j n (cmds_forest body))))
    (cmds_forest more)
cmds_forest (cond at w a i iw first j jw second more) =
    forest.list at
    (forest.name w (codes "if") (exp_forest a
    (forest.list i (forest.name iw (codes "then") (cmds_forest first))
    (forest.list j (forest.name jw (codes "else") (cmds_forest second)) forest.nil))))
    (cmds_forest more)
cmds_forest (loop at w a body more) =
    forest.list at (forest.name w (codes "while") (exp_forest a (cmds_forest body))) (cmds_forest more)
cmds_forest (call at w xs i f args more) =
    forest.list at (forest.name w (codes "call") (names_forest xs (forest.name i f (args_forest args))))
    (cmds_forest more)
cmds_forest (interact at w xs i f args more) =
    forest.list at (forest.name w (codes "interact") (names_forest xs (forest.name i f (args_forest args))))
    (cmds_forest more)

abbrev pub functions_forest : List Function → Forest
functions_forest [] = forest.nil
functions_forest (f ∷ fs) =
    forest.list f.at
    (forest.name f.word_at (codes "fn")
    (forest.name f.name_at f.name (names_forest f.args (names_forest f.results (cmds_forest f.body)))))
    (functions_forest fs)
