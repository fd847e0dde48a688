-- What got numbers, form by form.
use Rattle.std.proofs.Common.{◌≡◌, ℕ, ◌+◌, ◌<◌, ◌≤◌, List, [], ◌∷◌, ◌++◌, map, length, take, get_or, Bor, add-one, sym}
use Rattle.std.proofs.Common.{ap, subst, ◌∙◌}
use Rattle.std.proofs.Math.Seq.{take-suc, take_all}
use Rattle.std.proofs.lemmas.List.{map-append}
use Rattle.br_syntax.specs.declared.program.Expr.{Expr}
use Rattle.br_syntax.specs.declared.program.Expr.TheVariants as expression
use Rattle.br_syntax.specs.declared.program.Cmd.{Cmd}
use Rattle.br_syntax.specs.declared.program.Cmd.TheVariants as command
use Rattle.br_syntax.specs.declared.program.Func.{Func}
use Rattle.br_words.specs.declared.size.Size.{Size}
use Rattle.br_words.specs.declared.operation.BinOp.{BinOp}
use Rattle.br_source_meaning.specs.Values.{Name}
use Rattle.br_source_meaning.specs.Names.{name_at, names_at, Numbers}
use Rattle.br_source_meaning.specs.Numbered.{target_name, named_expr, named_exprs, named_command, named_commands}
use Rattle.br_source_meaning.specs.Numbered.{NumbersCommand}
use Rattle.br_source_meaning.specs.declared.numbered.Target.{Target}
use Rattle.br_source_meaning.specs.declared.numbered.NumberedExpr.{NumberedExpr}
use Rattle.br_source_meaning.specs.declared.numbered.NumberedExpr.TheVariants as expr
use Rattle.br_source_meaning.specs.declared.numbered.NumberedCmd.{NumberedCmd}
use Rattle.br_source_meaning.specs.declared.numbered.NumberedCmd.TheVariants as numbered
use Rattle.br_source_meaning.proofs.Forms.{named-Literal, named-Var, named-Load, named-Table, named-Op, named-Ite}
use Rattle.br_source_meaning.proofs.Forms.{named-Skip, named-Set, named-Unset, named-Store, named-Stackalloc, named-If}
use Rattle.br_source_meaning.proofs.Forms.{named-While, named-Seq, named-Call, named-Interact}

-- ---- steps in general

-- what has no number
numbers-none : {C : Type 0} (old : List Name) (form : List Name → C) (e whole : C) → e ≡ whole
    → ((later : List Name) → form later ≡ whole) → Numbers old old form e
numbers-none old form e whole is equal = λ later keeps. (keeps, equal later ∙ sym is)

-- one part
numbers-one_part : {A C : Type 0} (old new : List Name) (part : List Name → A) (form : List Name → C) (whole : A → C)
    (x : A) (e : C) → e ≡ whole x → ((later : List Name) → form later ≡ whole (part later)) → Numbers old new part x
    → Numbers old new form e
numbers-one_part old new part form whole x e is equal h = λ later keeps.
    let p = h later keeps in
    (p.0, equal later ∙ ap whole p.1 ∙ sym is)

-- two parts, the first of which got its numbers first
numbers-two_parts : {A B C : Type 0} (old mid new : List Name) (first : List Name → A) (second : List Name → B)
    (form : List Name → C) (whole : A → B → C) (x : A) (y : B) (e : C) → e ≡ whole x y
    → ((later : List Name) → form later ≡ whole (first later) (second later)) → Numbers old mid first x
    → Numbers mid new second y → Numbers old new form e
numbers-two_parts old mid new first second form whole x y e is equal h k = λ later keeps.
    let q = k later keeps in
    let p = h later q.0 in
    (p.0, equal later ∙ ap (λ a. whole a (second later)) p.1 ∙ ap (whole x) q.1 ∙ sym is)

-- three parts in turn
numbers-three_parts : {A B C D : Type 0} (old one two new : List Name) (first : List Name → A) (second : List Name → B)
    (third : List Name → C) (form : List Name → D) (whole : A → B → C → D) (x : A) (y : B) (z : C) (e : D) → e
    ≡ whole x y z → ((later : List Name) → form later ≡ whole (first later) (second later) (third later))
    → Numbers old one first x → Numbers one two second y → Numbers two new third z → Numbers old new form e
numbers-three_parts old one two new first second third form whole x y z e is equal h k j = λ later keeps.
    let r = j later keeps in
    let q = k later r.0 in
    let p = h later q.0 in (
      p.0,
      equal later ∙ ap (λ a. whole a (second later) (third later)) p.1 ∙ ap (λ b. whole x b (third later)) q.1
          ∙ ap (whole x y) r.1 ∙ sym is,
    )

-- one more of a list
pub numbers-more : {A B : Type 0} (old mid new : List Name) (part : List Name → A → B) (done all : List A) (one : A)
    (xs : List B) (x : B) (i : ℕ) → all ≡ done ++ one ∷ [] → i < length xs → x ≡ get_or xs i x
    → Numbers old mid (λ later. map (part later) done) (take i xs) → Numbers mid new (λ later. part later one) x
    → Numbers old new (λ later. map (part later) all) (take (i + 1) xs)
numbers-more old mid new part done all one xs x i more inside is h k = λ later keeps.
    let q = k later keeps in
    let p = h later q.0 in (
      p.0,
      ap (map (part later)) more
          ∙ map-append (part later) done (one ∷ [])
          ∙ ap (λ ys. ys ++ part later one ∷ []) p.1
          ∙ ap (λ y. take i xs ++ y ∷ []) (q.1 ∙ is)
          ∙ sym (ap (λ n. take n xs) (add-one i) ∙ take-suc xs i x inside),
    )

-- the whole list
pub numbers-all : {T : Type 0} (old new : List Name) (named : List Name → List T) (xs : List T) (i : ℕ) → length xs ≤ i
    → Numbers old new named (take i xs) → Numbers old new named xs
numbers-all old new named xs i whole h = λ later keeps.
    let p = h later keeps in
    (p.0, p.1 ∙ take_all i xs whole)

-- ---- expressions, form by form

pub numbers-Literal : (old : List Name) (n : ℕ) (whole : Expr) → whole ≡ expression.Literal n
    → Numbers old old (λ l. named_expr l (expr.Literal n)) whole
numbers-Literal old n whole is =
    numbers-none old (λ l. named_expr l (expr.Literal n)) whole (expression.Literal n) is (λ l. named-Literal l n)

pub numbers-Var : (old new : List Name) (k : ℕ) (whole : Expr) (x : Name) → whole ≡ expression.Var x
    → Numbers old new (λ l. name_at l k) x → Numbers old new (λ l. named_expr l (expr.Var k)) whole
numbers-Var old new k whole x is p =
    numbers-one_part old new (λ l. name_at l k) (λ l. named_expr l (expr.Var k)) expression.Var x whole is
    (λ l. named-Var l k) p

pub numbers-Load : (old new : List Name) (size : Size) (a : NumberedExpr) (whole x : Expr) → whole
    ≡ expression.Load size x → Numbers old new (λ l. named_expr l a) x
    → Numbers old new (λ l. named_expr l (expr.Load size a)) whole
numbers-Load old new size a whole x is p =
    numbers-one_part old new (λ l. named_expr l a) (λ l. named_expr l (expr.Load size a)) (expression.Load size) x whole
    is (λ l. named-Load l size a) p

pub numbers-Table : (old new : List Name) (size : Size) (bytes : Bor (List ℕ)) (i : NumberedExpr) (whole x : Expr)
    → whole ≡ expression.Table size bytes.now x → Numbers old new (λ l. named_expr l i) x
    → Numbers old new (λ l. named_expr l (expr.Table size bytes i)) whole
numbers-Table old new size bytes i whole x is p =
    numbers-one_part old new (λ l. named_expr l i) (λ l. named_expr l (expr.Table size bytes i))
    (expression.Table size bytes.now) x whole is (λ l. named-Table l size bytes i) p

pub numbers-Op : (old mid new : List Name) (o : BinOp) (a b : NumberedExpr) (whole x y : Expr) → whole
    ≡ expression.Op o x y → Numbers old mid (λ l. named_expr l a) x → Numbers mid new (λ l. named_expr l b) y
    → Numbers old new (λ l. named_expr l (expr.Op o a b)) whole
numbers-Op old mid new o a b whole x y is p q =
    numbers-two_parts old mid new (λ l. named_expr l a) (λ l. named_expr l b) (λ l. named_expr l (expr.Op o a b))
    (expression.Op o) x y whole is (λ l. named-Op l o a b) p q

pub numbers-Ite : (old one two new : List Name) (test a b : NumberedExpr) (whole x y z : Expr) → whole
    ≡ expression.Ite x y z → Numbers old one (λ l. named_expr l test) x → Numbers one two (λ l. named_expr l a) y
    → Numbers two new (λ l. named_expr l b) z → Numbers old new (λ l. named_expr l (expr.Ite test a b)) whole
numbers-Ite old one two new test a b whole x y z is p q r =
    numbers-three_parts old one two new (λ l. named_expr l test) (λ l. named_expr l a) (λ l. named_expr l b)
    (λ l. named_expr l (expr.Ite test a b)) expression.Ite x y z whole is (λ l. named-Ite l test a b) p q r

-- ---- commands, form by form

-- the same of a command that is of this form
pub numbers-form : (names old new : List Name) (n : NumberedCmd) (whole form : Cmd) → whole ≡ form
    → NumbersCommand names old new n form → NumbersCommand names old new n whole
numbers-form names old new n whole form is h = subst (NumbersCommand names old new n) (sym is) h

pub numbers-Skip : (names old : List Name) (whole : Cmd) → whole ≡ command.Skip
    → Numbers old old (λ l. named_command names l numbered.Skip) whole
numbers-Skip names old whole is =
    numbers-none old (λ l. named_command names l numbered.Skip) whole command.Skip is (λ l. named-Skip names l)

pub numbers-Set : (names old mid new : List Name) (k : ℕ) (e : NumberedExpr) (whole : Cmd) (x : Name) (y : Expr) → whole
    ≡ command.Set x y → Numbers old mid (λ l. name_at l k) x → Numbers mid new (λ l. named_expr l e) y
    → Numbers old new (λ l. named_command names l (numbered.Set k e)) whole
numbers-Set names old mid new k e whole x y is p q =
    numbers-two_parts old mid new (λ l. name_at l k) (λ l. named_expr l e)
    (λ l. named_command names l (numbered.Set k e)) command.Set x y whole is (λ l. named-Set names l k e) p q

pub numbers-Unset : (names old new : List Name) (k : ℕ) (whole : Cmd) (x : Name) → whole ≡ command.Unset x
    → Numbers old new (λ l. name_at l k) x → Numbers old new (λ l. named_command names l (numbered.Unset k)) whole
numbers-Unset names old new k whole x is p =
    numbers-one_part old new (λ l. name_at l k) (λ l. named_command names l (numbered.Unset k)) command.Unset x whole is
    (λ l. named-Unset names l k) p

pub numbers-Store : (names old mid new : List Name) (size : Size) (a e : NumberedExpr) (whole : Cmd) (x y : Expr)
    → whole ≡ command.Store size x y → Numbers old mid (λ l. named_expr l a) x → Numbers mid new (λ l. named_expr l e) y
    → Numbers old new (λ l. named_command names l (numbered.Store size a e)) whole
numbers-Store names old mid new size a e whole x y is p q =
    numbers-two_parts old mid new (λ l. named_expr l a) (λ l. named_expr l e)
    (λ l. named_command names l (numbered.Store size a e)) (command.Store size) x y whole is
    (λ l. named-Store names l size a e) p q

pub numbers-Stackalloc : (names old mid new : List Name) (k n : ℕ) (body : List NumberedCmd) (whole : Cmd) (x : Name)
    (y : List Cmd) → whole ≡ command.Stackalloc x n y → Numbers old mid (λ l. name_at l k) x
    → Numbers mid new (λ l. named_commands names l body) y
    → Numbers old new (λ l. named_command names l (numbered.Stackalloc k n body)) whole
numbers-Stackalloc names old mid new k n body whole x y is p q =
    numbers-two_parts old mid new (λ l. name_at l k) (λ l. named_commands names l body)
    (λ l. named_command names l (numbered.Stackalloc k n body)) (λ x y. command.Stackalloc x n y) x y whole is
    (λ l. named-Stackalloc names l k n body) p q

pub numbers-If : (names old one two new : List Name) (e : NumberedExpr) (first second : List NumberedCmd) (whole : Cmd)
    (x : Expr) (y z : List Cmd) → whole ≡ command.If x y z → Numbers old one (λ l. named_expr l e) x
    → Numbers one two (λ l. named_commands names l first) y → Numbers two new (λ l. named_commands names l second) z
    → Numbers old new (λ l. named_command names l (numbered.If e first second)) whole
numbers-If names old one two new e first second whole x y z is p q r =
    numbers-three_parts old one two new (λ l. named_expr l e) (λ l. named_commands names l first)
    (λ l. named_commands names l second) (λ l. named_command names l (numbered.If e first second)) command.If x y z
    whole is (λ l. named-If names l e first second) p q r

pub numbers-While : (names old mid new : List Name) (e : NumberedExpr) (body : List NumberedCmd) (whole : Cmd)
    (x : Expr) (y : List Cmd) → whole ≡ command.While x y → Numbers old mid (λ l. named_expr l e) x
    → Numbers mid new (λ l. named_commands names l body) y
    → Numbers old new (λ l. named_command names l (numbered.While e body)) whole
numbers-While names old mid new e body whole x y is p q =
    numbers-two_parts old mid new (λ l. named_expr l e) (λ l. named_commands names l body)
    (λ l. named_command names l (numbered.While e body)) command.While x y whole is
    (λ l. named-While names l e body) p q

pub numbers-Seq : (names old new : List Name) (body : List NumberedCmd) (whole : Cmd) (x : List Cmd) → whole
    ≡ command.Seq x → Numbers old new (λ l. named_commands names l body) x
    → Numbers old new (λ l. named_command names l (numbered.Seq body)) whole
numbers-Seq names old new body whole x is p =
    numbers-one_part old new (λ l. named_commands names l body) (λ l. named_command names l (numbered.Seq body))
    command.Seq x whole is (λ l. named-Seq names l body) p

pub numbers-Call : (names old mid new : List Name) (at : ℕ) (ks : List ℕ) (callee : Target) (es : List NumberedExpr)
    (whole : Cmd) (x : List Name) (y : List Expr) → whole ≡ command.Call at x (target_name names callee) y
    → Numbers old mid (λ l. names_at l ks) x → Numbers mid new (λ l. named_exprs l es) y
    → Numbers old new (λ l. named_command names l (numbered.Call at ks callee es)) whole
numbers-Call names old mid new at ks callee es whole x y is p q =
    numbers-two_parts old mid new (λ l. names_at l ks) (λ l. named_exprs l es)
    (λ l. named_command names l (numbered.Call at ks callee es))
    (λ x y. command.Call at x (target_name names callee) y) x y whole is (λ l. named-Call names l at ks callee es) p
    q

pub numbers-Interact : (names old mid new : List Name) (at : ℕ) (ks : List ℕ) (action : Bor (List ℕ))
    (es : List NumberedExpr) (whole : Cmd) (x : List Name) (y : List Expr) → whole ≡ command.Interact at x action.now y
    → Numbers old mid (λ l. names_at l ks) x → Numbers mid new (λ l. named_exprs l es) y
    → Numbers old new (λ l. named_command names l (numbered.Interact at ks action es)) whole
numbers-Interact names old mid new at ks action es whole x y is p q =
    numbers-two_parts old mid new (λ l. names_at l ks) (λ l. named_exprs l es)
    (λ l. named_command names l (numbered.Interact at ks action es)) (λ x y. command.Interact at x action.now y) x y
    whole is (λ l. named-Interact names l at ks action es) p q

-- ---- functions

abbrev with_parts : Func → List Name → List Name → List Cmd → Func
with_parts g args results body = record { at = g.at; name = g.name; args = args; results = results; body = body }

pub numbers-function : (names start one two all : List Name) (g : Func) (ks rs : List ℕ) (ns : List NumberedCmd)
    (args results : List Name) (body : List Cmd) → args ≡ g.args → results ≡ g.results → body ≡ g.body
    → Numbers start one (λ l. names_at l ks) args → Numbers one two (λ l. names_at l rs) results
    → Numbers two all (λ l. named_commands names l ns) body
    → with_parts g (names_at all ks) (names_at all rs) (named_commands names all ns) ≡ g
numbers-function names start one two all g ks rs ns args results body is_args is_results is_body a r b =
    let third = b all (λ k x h. h) in
    let second = r all third.0 in
    let first = a all second.0 in
    ap (λ xs. with_parts g xs (names_at all rs) (named_commands names all ns)) (first.1 ∙ is_args)
    ∙ ap (λ xs. with_parts g g.args xs (named_commands names all ns)) (second.1 ∙ is_results)
    ∙ ap (λ cs. with_parts g g.args g.results cs) (third.1 ∙ is_body)

pub numbers-results : (names one two all : List Name) (rs : List ℕ) (ns : List NumberedCmd) (results source : List Name)
    (body : List Cmd) → results ≡ source → Numbers one two (λ l. names_at l rs) results
    → Numbers two all (λ l. named_commands names l ns) body → names_at all rs ≡ source
numbers-results names one two all rs ns results source body is r b =
    let third = b all (λ k x h. h) in
    let second = r all third.0 in
    second.1 ∙ is
