-- What is left of statements by a set of names: step by step, and beside the statements themselves.
use Rattle.std.proofs.Common.{◌≡◌, ℕ, Bool, true, false, not, List, [], ◌∷◌, map, Option}
use Rattle.std.proofs.Common.{Some, None, inl, inr, refl, sym, ap, subst, ◌∙◌, if◌then◌else◌}
use Rattle.std.specs.List.{list_any}
use Rattle.br_flatimp.specs.declared.program.Cond.{Cond}
use Rattle.br_flatimp.specs.declared.program.Stmt.{Stmt, map-Stmt}
use Rattle.br_flatimp.specs.declared.program.Stmt.TheOpen.{Stmt-F}
use Rattle.br_flatimp.specs.declared.program.Stmt.TheViews.{roll-Stmt}
use Rattle.br_flatimp.specs.declared.program.Stmt.TheVariants.{Stackalloc, If, Loop, rolls-Lit, rolls-Copy}
use Rattle.br_flatimp.specs.declared.program.Stmt.TheVariants.{rolls-Op, rolls-Load, rolls-Store, rolls-Table}
use Rattle.br_flatimp.specs.declared.program.Stmt.TheVariants.{rolls-Stackalloc, rolls-If, rolls-Loop}
use Rattle.br_flatimp.specs.declared.program.Stmt.TheVariants.{rolls-Call, rolls-Read, rolls-Write}
use Rattle.br_flatimp.specs.declared.program.Stmt.TheFolds.{fold-Stmt, fold-roll-Stmt, ind-Stmt}
use Rattle.br_flatimp.specs.Values.{Names}
use Rattle.br_flatimp.specs.Parts.{written}
use Rattle.br_flatimp.specs.Liveness.{is_removable}
use Rattle.br_live.proofs.Plain.{IsPlain}
use Rattle.br_deadcode.specs.Sweeps.{is_idle, idle}
use Rattle.br_deadcode.specs.Unneeded.{kept_in, trim_step, trim, trimmed}
use Rattle.br_deadcode.proofs.Idle.{idle-map, idle-roll}
use Rattle.br_deadcode.proofs.Relates.{Relation, Left, and-first, removable-map, choice-related}

-- ---- beside the statements

abbrev Trims : {X : Type 0} (g : Stmt-F X → X) (all : List X → List X → Type 0) → Names → Stmt → Type 0
Trims g all set c = Left g all (trim set c) c

abbrev Each : {X : Type 0} (g : Stmt-F X → X) (all : List X → List X → Type 0) → Names → Type 0
Each g all set = (c : Stmt) × Trims g all set c

abbrev stmts : {X : Type 0} (g : Stmt-F X → X) (all : List X → List X → Type 0) (set : Names)
    → List (Each g all set) → List Stmt
stmts g all set cs = map (λ e. e.0) cs

each-left : {X : Type 0} (g : Stmt-F X → X) (one : X → X → Type 0) (all : List X → List X → Type 0)
    → Relation g one all → (set : Names) (cs : List (Each g all set))
    → all (map (fold-Stmt X g) (trimmed set (stmts g all set cs))) (map (fold-Stmt X g) (stmts g all set cs))
each-left g one all r set [] = r.nil
each-left {X} g one all r set (e ∷ cs) =
    e.1 (trimmed set (stmts g all set cs)) (map (fold-Stmt X g) (stmts g all set cs)) (each-left g one all r set cs)

abbrev KeptStep : {X : Type 0} (g : Stmt-F X → X) (one : X → X → Type 0) → Names → Stmt-F Stmt → Type 0
KeptStep {X} g one set z =
    one (g (map-Stmt Stmt X (fold-Stmt X g) (kept_in (map-Stmt Stmt (Option Stmt) (trim set) z))))
    (g (map-Stmt Stmt X (fold-Stmt X g) z))

kept-related : {X : Type 0} (g : Stmt-F X → X) (one : X → X → Type 0) (all : List X → List X → Type 0)
    → Relation g one all → (set : Names) (y : Stmt-F (Each g all set))
    → KeptStep g one set (map-Stmt (Each g all set) Stmt (λ e. e.0) y)
kept-related g one all r set (Stmt-F.Lit x n) = r.same (g (Stmt-F.Lit x n))
kept-related g one all r set (Stmt-F.Copy x y) = r.same (g (Stmt-F.Copy x y))
kept-related g one all r set (Stmt-F.Op x op y z) = r.same (g (Stmt-F.Op x op y z))
kept-related g one all r set (Stmt-F.Load x size y offset) = r.same (g (Stmt-F.Load x size y offset))
kept-related g one all r set (Stmt-F.Store size y z offset) = r.same (g (Stmt-F.Store size y z offset))
kept-related g one all r set (Stmt-F.Table x size bytes y) = r.same (g (Stmt-F.Table x size bytes y))
kept-related g one all r set (Stmt-F.Call xs h ys) = r.same (g (Stmt-F.Call xs h ys))
kept-related g one all r set (Stmt-F.Read x y) = r.same (g (Stmt-F.Read x y))
kept-related g one all r set (Stmt-F.Write y z) = r.same (g (Stmt-F.Write y z))
kept-related {X} g one all r set (Stmt-F.Stackalloc x n body) =
    r.buffer x n (map (fold-Stmt X g) (trimmed set (stmts g all set body)))
    (map (fold-Stmt X g) (stmts g all set body)) (each-left g one all r set body)
kept-related {X} g one all r set (Stmt-F.If test first second) =
    r.choice test (map (fold-Stmt X g) (trimmed set (stmts g all set first)))
    (map (fold-Stmt X g) (stmts g all set first))
    (map (fold-Stmt X g) (trimmed set (stmts g all set second)))
    (map (fold-Stmt X g) (stmts g all set second))
    (each-left g one all r set first) (each-left g one all r set second)
kept-related {X} g one all r set (Stmt-F.Loop first test last) =
    r.turns test (map (fold-Stmt X g) (trimmed set (stmts g all set first)))
    (map (fold-Stmt X g) (stmts g all set first))
    (map (fold-Stmt X g) (trimmed set (stmts g all set last)))
    (map (fold-Stmt X g) (stmts g all set last))
    (each-left g one all r set first) (each-left g one all r set last)

related : {X : Type 0} (g : Stmt-F X → X) (one : X → X → Type 0) (all : List X → List X → Type 0) → Relation g one all
    → (set : Names) (c : Stmt) → Trims g all set c
related {X} g one all r set = ind-Stmt (Trims g all set) (λ x y is.
    let w : Stmt-F (Option Stmt) = map-Stmt Stmt (Option Stmt) (trim set) x in
    subst (λ (o : Option Stmt). Left g all o (roll-Stmt x)) (sym (fold-roll-Stmt (Option Stmt) (trim_step set) x))
    (choice-related g one all r x (is_idle w set) (kept_in w)
    (λ e. sym (removable-map (trim set) x) ∙ and-first (is_removable w) (not (list_any set (written w))) e)
    (subst (KeptStep g one set) is (kept-related g one all r set y))))

pub trimmed-related : {X : Type 0} (g : Stmt-F X → X) (one : X → X → Type 0) (all : List X → List X → Type 0)
    → Relation g one all → (set : Names) (cs : List Stmt)
    → all (map (fold-Stmt X g) (trimmed set cs)) (map (fold-Stmt X g) cs)
trimmed-related g one all r set [] = r.nil
trimmed-related {X} g one all r set (c ∷ cs) =
    related g one all r set c (trimmed set cs) (map (fold-Stmt X g) cs) (trimmed-related g one all r set cs)

-- ---- by kind

abbrev no_statement : Option Stmt
no_statement = None

step-none : (x : Stmt-F Stmt) (set : Names) → is_idle x set ≡ true → trim set (roll-Stmt x) ≡ None
step-none x set h =
    let w : Stmt-F (Option Stmt) = map-Stmt Stmt (Option Stmt) (trim set) x in
    fold-roll-Stmt (Option Stmt) (trim_step set) x
    ∙ ap (λ (b : Bool). if b then no_statement else Some (roll-Stmt (kept_in w))) (idle-map (trim set) x set ∙ h)

step-some : (x : Stmt-F Stmt) (set : Names) → is_idle x set ≡ false
    → trim set (roll-Stmt x) ≡ Some (roll-Stmt (kept_in (map-Stmt Stmt (Option Stmt) (trim set) x)))
step-some x set h =
    let w : Stmt-F (Option Stmt) = map-Stmt Stmt (Option Stmt) (trim set) x in
    fold-roll-Stmt (Option Stmt) (trim_step set) x
    ∙ ap (λ (b : Bool). if b then no_statement else Some (roll-Stmt (kept_in w))) (idle-map (trim set) x set ∙ h)

pub trim-none : (s : Stmt) (set : Names) → idle s set ≡ true → trim set s ≡ None
trim-none = ind-Stmt (λ s. (set : Names) → idle s set ≡ true → trim set s ≡ None) (λ x y is set h.
    step-none x set (sym (idle-roll x set) ∙ h))

abbrev has_no_parts : Stmt-F Stmt → Type 0
has_no_parts x = (set : Names) → kept_in (map-Stmt Stmt (Option Stmt) (trim set) x) ≡ x

by : (x : Stmt-F Stmt) (s : Stmt) (set : Names) → roll-Stmt x ≡ s → has_no_parts x → idle s set ≡ false
    → trim set s ≡ Some s
by x s set is whole not =
    ap (trim set) (sym is)
    ∙ step-some x set (sym (idle-roll x set) ∙ ap (λ c. idle c set) is ∙ not)
    ∙ ap (λ (y : Stmt-F Stmt). Some (roll-Stmt y)) (whole set) ∙ ap Some is

-- one with no parts that stays
pub trim-plain : (s : Stmt) (set : Names) → IsPlain s → idle s set ≡ false → trim set s ≡ Some s
trim-plain s set (inl e) not =
    by (Stmt-F.Lit e.0 e.1) s set (rolls-Lit e.0 e.1 ∙ sym e.2) (λ a. refl) not
trim-plain s set (inr (inl e)) not =
    by (Stmt-F.Copy e.0 e.1) s set (rolls-Copy e.0 e.1 ∙ sym e.2) (λ a. refl) not
trim-plain s set (inr (inr (inl e))) not =
    by (Stmt-F.Op e.0 e.1 e.2 e.3) s set (rolls-Op e.0 e.1 e.2 e.3 ∙ sym e.4) (λ a. refl) not
trim-plain s set (inr (inr (inr (inl e)))) not =
    by (Stmt-F.Load e.0 e.1 e.2 e.3) s set (rolls-Load e.0 e.1 e.2 e.3 ∙ sym e.4) (λ a. refl) not
trim-plain s set (inr (inr (inr (inr (inl e))))) not =
    by (Stmt-F.Store e.0 e.1 e.2 e.3) s set (rolls-Store e.0 e.1 e.2 e.3 ∙ sym e.4) (λ a. refl) not
trim-plain s set (inr (inr (inr (inr (inr (inl e)))))) not =
    by (Stmt-F.Table e.0 e.1 e.2 e.3) s set (rolls-Table e.0 e.1 e.2 e.3 ∙ sym e.4) (λ a. refl) not
trim-plain s set (inr (inr (inr (inr (inr (inr (inl e))))))) not =
    by (Stmt-F.Call e.0 e.1 e.2) s set (rolls-Call e.0 e.1 e.2 ∙ sym e.3) (λ a. refl) not
trim-plain s set (inr (inr (inr (inr (inr (inr (inr (inl e)))))))) not =
    by (Stmt-F.Read e.0 e.1) s set (rolls-Read e.0 e.1 ∙ sym e.2) (λ a. refl) not
trim-plain s set (inr (inr (inr (inr (inr (inr (inr (inr e)))))))) not =
    by (Stmt-F.Write e.0 e.1) s set (rolls-Write e.0 e.1 ∙ sym e.2) (λ a. refl) not

pub trim-stackalloc : (x n : ℕ) (body : List Stmt) (set : Names)
    → trim set (Stackalloc x n body) ≡ Some (Stackalloc x n (trimmed set body))
trim-stackalloc x n body set =
    ap (trim set) (sym (rolls-Stackalloc x n body)) ∙ step-some (Stmt-F.Stackalloc x n body) set refl
    ∙ ap Some (rolls-Stackalloc x n (trimmed set body))

pub trim-if : (test : Cond) (first second : List Stmt) (set : Names)
    → trim set (If test first second) ≡ Some (If test (trimmed set first) (trimmed set second))
trim-if test first second set =
    ap (trim set) (sym (rolls-If test first second)) ∙ step-some (Stmt-F.If test first second) set refl
    ∙ ap Some (rolls-If test (trimmed set first) (trimmed set second))

pub trim-loop : (first : List Stmt) (test : Cond) (last : List Stmt) (set : Names)
    → trim set (Loop first test last) ≡ Some (Loop (trimmed set first) test (trimmed set last))
trim-loop first test last set =
    ap (trim set) (sym (rolls-Loop first test last)) ∙ step-some (Stmt-F.Loop first test last) set refl
    ∙ ap Some (rolls-Loop (trimmed set first) test (trimmed set last))
