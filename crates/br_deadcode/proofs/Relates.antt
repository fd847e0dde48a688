-- What is counted or gathered of statements, beside that of what is left of them.
use Rattle.std.proofs.Common.{◌≡◌, ℕ, Bool, true, false, not, ◌&&◌, List, [], ◌∷◌, map}
use Rattle.std.proofs.Common.{Option, Some, None, refl, sym, subst, ◌∙◌, if◌then◌else◌}
use Rattle.std.specs.List.{list_any}
use Rattle.br_flatimp.specs.declared.program.Cond.{Cond}
use Rattle.br_flatimp.specs.declared.program.Stmt.{Stmt, map-Stmt}
use Rattle.br_flatimp.specs.declared.program.Stmt.TheOpen.{Stmt-F}
use Rattle.br_flatimp.specs.declared.program.Stmt.TheViews.{roll-Stmt}
use Rattle.br_flatimp.specs.declared.program.Stmt.TheFolds.{fold-Stmt, fold-roll-Stmt, ind-Stmt}
use Rattle.br_flatimp.specs.Values.{Names}
use Rattle.br_flatimp.specs.Parts.{written}
use Rattle.br_flatimp.specs.Liveness.{is_removable}
use Rattle.br_deadcode.specs.Sweeps.{is_idle, Swept, put, swept_test, swept_start}
use Rattle.br_deadcode.specs.Sweeps.{kept, sweep_step, sweep, before_left, left_of}

-- A relation of what a fold by `g` makes of a statement that is left and of the statement itself, and one of
-- lists of these: a removable statement may be missing, and statements with parts go by their parts.
pub record Relation {X : Type 0} (g : Stmt-F X → X) (one : X → X → Type 0)
    (all : List X → List X → Type 0) : Type 0 where
  pub same : (x : X) → one x x
  pub nil : all [] []
  pub cons : (x y : X) (xs ys : List X) → one x y → all xs ys → all (x ∷ xs) (y ∷ ys)
  pub skip : (y : Stmt-F X) (xs ys : List X) → is_removable y ≡ true → all xs ys → all xs (g y ∷ ys)
  pub buffer : (x n : ℕ) (xs ys : List X) → all xs ys
      → one (g (Stmt-F.Stackalloc x n xs)) (g (Stmt-F.Stackalloc x n ys))
  pub choice : (test : Cond) (xs ys us vs : List X) → all xs ys → all us vs
      → one (g (Stmt-F.If test xs us)) (g (Stmt-F.If test ys vs))
  pub turns : (test : Cond) (xs ys us vs : List X) → all xs ys → all us vs
      → one (g (Stmt-F.Loop xs test us)) (g (Stmt-F.Loop ys test vs))

pub and-first : (a b : Bool) → (a && b) ≡ true → a ≡ true
and-first true b e = refl
and-first false b e = absurd (cc e)

pub removable-map : {X Y : Type 0} (f : X → Y) (y : Stmt-F X) → is_removable (map-Stmt X Y f y) ≡ is_removable y
removable-map f (Stmt-F.Lit x n) = refl
removable-map f (Stmt-F.Copy x y) = refl
removable-map f (Stmt-F.Op x op y z) = refl
removable-map f (Stmt-F.Load x size y offset) = refl
removable-map f (Stmt-F.Store size y z offset) = refl
removable-map f (Stmt-F.Table x size bytes y) = refl
removable-map f (Stmt-F.Stackalloc x n body) = refl
removable-map f (Stmt-F.If test first second) = refl
removable-map f (Stmt-F.Loop first test last) = refl
removable-map f (Stmt-F.Call xs g ys) = refl
removable-map f (Stmt-F.Read x y) = refl
removable-map f (Stmt-F.Write y z) = refl

-- a statement and what is left of it, in front of others
abbrev pub Left : {X : Type 0} (g : Stmt-F X → X) (all : List X → List X → Type 0) → Option Stmt → Stmt → Type 0
Left {X} g all o c =
    (ds : List Stmt) (ys : List X) → all (map (fold-Stmt X g) ds) ys
    → all (map (fold-Stmt X g) (put o ds)) (fold-Stmt X g c ∷ ys)

abbrev LeftOf : {X : Type 0} (g : Stmt-F X → X) (all : List X → List X → Type 0) → Stmt → Type 0
LeftOf g all c = (a : Names) → Left g all ((sweep c).left a) c

abbrev Each : {X : Type 0} (g : Stmt-F X → X) (all : List X → List X → Type 0) → Type 0
Each g all = (c : Stmt) × LeftOf g all c

abbrev stmts : {X : Type 0} (g : Stmt-F X → X) (all : List X → List X → Type 0) → List (Each g all) → List Stmt
stmts g all cs = map (λ e. e.0) cs

each-left : {X : Type 0} (g : Stmt-F X → X) (one : X → X → Type 0) (all : List X → List X → Type 0)
    → Relation g one all → (cs : List (Each g all)) (a : Names)
    → all (map (fold-Stmt X g) (left_of (stmts g all cs) a)) (map (fold-Stmt X g) (stmts g all cs))
each-left g one all r [] a = r.nil
each-left {X} g one all r (e ∷ cs) a =
    e.1 (before_left (stmts g all cs) a) (left_of (stmts g all cs) a) (map (fold-Stmt X g) (stmts g all cs))
    (each-left g one all r cs a)

abbrev opened : {X : Type 0} (g : Stmt-F X → X) (all : List X → List X → Type 0) → Stmt-F (Each g all) → Stmt-F Stmt
opened g all y = map-Stmt (Each g all) Stmt (λ e. e.0) y

-- the fold of one that is kept
abbrev KeptStep : {X : Type 0} (g : Stmt-F X → X) (one : X → X → Type 0) → Names → Stmt-F Stmt → Type 0
KeptStep {X} g one a z =
    one (g (map-Stmt Stmt X (fold-Stmt X g) (kept (map-Stmt Stmt Swept sweep z) a)))
    (g (map-Stmt Stmt X (fold-Stmt X g) z))

kept-related : {X : Type 0} (g : Stmt-F X → X) (one : X → X → Type 0) (all : List X → List X → Type 0)
    → Relation g one all → (y : Stmt-F (Each g all)) (a : Names) → KeptStep g one a (opened g all y)
kept-related g one all r (Stmt-F.Lit x n) a = r.same (g (Stmt-F.Lit x n))
kept-related g one all r (Stmt-F.Copy x y) a = r.same (g (Stmt-F.Copy x y))
kept-related g one all r (Stmt-F.Op x op y z) a = r.same (g (Stmt-F.Op x op y z))
kept-related g one all r (Stmt-F.Load x size y offset) a = r.same (g (Stmt-F.Load x size y offset))
kept-related g one all r (Stmt-F.Store size y z offset) a = r.same (g (Stmt-F.Store size y z offset))
kept-related g one all r (Stmt-F.Table x size bytes y) a = r.same (g (Stmt-F.Table x size bytes y))
kept-related g one all r (Stmt-F.Call xs h ys) a = r.same (g (Stmt-F.Call xs h ys))
kept-related g one all r (Stmt-F.Read x y) a = r.same (g (Stmt-F.Read x y))
kept-related g one all r (Stmt-F.Write y z) a = r.same (g (Stmt-F.Write y z))
kept-related {X} g one all r (Stmt-F.Stackalloc x n body) a =
    r.buffer x n (map (fold-Stmt X g) (left_of (stmts g all body) a)) (map (fold-Stmt X g) (stmts g all body))
    (each-left g one all r body a)
kept-related {X} g one all r (Stmt-F.If test first second) a =
    r.choice test (map (fold-Stmt X g) (left_of (stmts g all first) a)) (map (fold-Stmt X g) (stmts g all first))
    (map (fold-Stmt X g) (left_of (stmts g all second) a)) (map (fold-Stmt X g) (stmts g all second))
    (each-left g one all r first a) (each-left g one all r second a)
kept-related {X} g one all r (Stmt-F.Loop first test last) a =
    let t : Names = swept_test (map sweep (stmts g all first)) test (map sweep (stmts g all last)) a in
    let s : Names = swept_start (map sweep (stmts g all first)) test (map sweep (stmts g all last)) a in
    r.turns test (map (fold-Stmt X g) (left_of (stmts g all first) t)) (map (fold-Stmt X g) (stmts g all first))
    (map (fold-Stmt X g) (left_of (stmts g all last) s)) (map (fold-Stmt X g) (stmts g all last))
    (each-left g one all r first t) (each-left g one all r last s)

-- a statement that is idle or kept
pub choice-related : {X : Type 0} (g : Stmt-F X → X) (one : X → X → Type 0) (all : List X → List X → Type 0)
    → Relation g one all → (x : Stmt-F Stmt) (b : Bool) (z : Stmt-F Stmt) → (b ≡ true → is_removable x ≡ true)
    → one (g (map-Stmt Stmt X (fold-Stmt X g) z)) (g (map-Stmt Stmt X (fold-Stmt X g) x))
    → Left g all (if b then None else Some (roll-Stmt z)) (roll-Stmt x)
choice-related {X} g one all r x true z gone rel ds ys h =
    subst (λ v. all (map (fold-Stmt X g) ds) (v ∷ ys)) (sym (fold-roll-Stmt X g x))
    (r.skip (map-Stmt Stmt X (fold-Stmt X g) x) (map (fold-Stmt X g) ds) ys
    (removable-map (fold-Stmt X g) x ∙ gone refl) h)
choice-related {X} g one all r x false z gone rel ds ys h =
    subst (λ v. all (fold-Stmt X g (roll-Stmt z) ∷ map (fold-Stmt X g) ds) (v ∷ ys)) (sym (fold-roll-Stmt X g x))
    (subst (λ u. all (u ∷ map (fold-Stmt X g) ds) (g (map-Stmt Stmt X (fold-Stmt X g) x) ∷ ys))
    (sym (fold-roll-Stmt X g z))
    (r.cons (g (map-Stmt Stmt X (fold-Stmt X g) z)) (g (map-Stmt Stmt X (fold-Stmt X g) x))
    (map (fold-Stmt X g) ds) ys rel h))

related : {X : Type 0} (g : Stmt-F X → X) (one : X → X → Type 0) (all : List X → List X → Type 0) → Relation g one all
    → (c : Stmt) → LeftOf g all c
related {X} g one all r = ind-Stmt (LeftOf g all) (λ x y is a.
    let w : Stmt-F Swept = map-Stmt Stmt Swept sweep x in
    subst (λ (s : Swept). Left g all (s.left a) (roll-Stmt x)) (sym (fold-roll-Stmt Swept sweep_step x))
    (choice-related g one all r x (is_idle w a) (kept w a)
    (λ e. sym (removable-map sweep x) ∙ and-first (is_removable w) (not (list_any a (written w))) e)
    (subst (KeptStep g one a) is (kept-related g one all r y a))))

pub left-related : {X : Type 0} (g : Stmt-F X → X) (one : X → X → Type 0) (all : List X → List X → Type 0)
    → Relation g one all → (cs : List Stmt) (a : Names)
    → all (map (fold-Stmt X g) (left_of cs a)) (map (fold-Stmt X g) cs)
left-related g one all r [] a = r.nil
left-related {X} g one all r (c ∷ cs) a =
    related g one all r c (before_left cs a) (left_of cs a) (map (fold-Stmt X g) cs) (left-related g one all r cs a)
