-- What a sweep makes of statements, by their kind.
use Rattle.std.proofs.Common.{◌≡◌, ℕ, Bool, true, false, not, ◌||◌, List, [], ◌∷◌, map, Option}
use Rattle.std.proofs.Common.{Some, None, inl, inr, refl, sym, ap, subst, ◌∙◌, if◌then◌else◌}
use Rattle.std.proofs.Math.Path.{fun_ext}
use Rattle.br_flatimp.specs.declared.program.Cond.{Cond}
use Rattle.br_flatimp.specs.declared.program.Stmt.{Stmt, map-Stmt}
use Rattle.br_flatimp.specs.declared.program.Stmt.TheOpen.{Stmt-F}
use Rattle.br_flatimp.specs.declared.program.Stmt.TheViews.{roll-Stmt}
use Rattle.br_flatimp.specs.declared.program.Stmt.TheVariants.{Lit, Copy, Op, Load, Store, Table, Stackalloc}
use Rattle.br_flatimp.specs.declared.program.Stmt.TheVariants.{If, Loop, Call, Read, Write, rolls-Lit}
use Rattle.br_flatimp.specs.declared.program.Stmt.TheVariants.{rolls-Copy, rolls-Op, rolls-Load, rolls-Store}
use Rattle.br_flatimp.specs.declared.program.Stmt.TheVariants.{rolls-Table, rolls-Stackalloc, rolls-If}
use Rattle.br_flatimp.specs.declared.program.Stmt.TheVariants.{rolls-Loop, rolls-Call, rolls-Read, rolls-Write}
use Rattle.br_flatimp.specs.declared.program.Stmt.TheFolds.{fold-roll-Stmt, ind-Stmt}
use Rattle.br_flatimp.specs.Values.{Names}
use Rattle.br_flatimp.specs.Parts.{test_names}
use Rattle.br_flatimp.specs.Liveness.{is_in, union, without, Live, entry, live, before, before_all, at_test}
use Rattle.br_flatimp.specs.Parts.{own_read, own_written}
use Rattle.br_live.specs.Turns.{Turned, turned_step, turned, turns_of}
use Rattle.br_live.proofs.Names.{union-none, without-none}
use Rattle.br_live.proofs.Own.{written-stackalloc, read-stackalloc, written-if, read-if, live-lit, live-copy}
use Rattle.br_live.proofs.Own.{live-op, live-load, live-store, live-table, live-call, live-read, live-write}
use Rattle.br_live.proofs.Plain.{IsPlain}
use Rattle.br_deadcode.specs.Sweeps.{is_idle, idle, Swept, lives_in, before_kept, kept, inner_left_out}
use Rattle.br_deadcode.specs.Sweeps.{sweep_step, sweep, before_left, left_of, leaves_of}
use Rattle.br_deadcode.proofs.Idle.{idle-map, idle-roll}
use Rattle.br_deadcode.proofs.Lives.{lives-all}

-- ---- idle statements, and others

pub record SweptAs (s : Stmt) (a b : Names) (o : Option Stmt) (gone : Bool) : Type 0 where
  pub before : (sweep s).before a ≡ b
  pub left : (sweep s).left a ≡ o
  pub leaves : (sweep s).leaves_out a ≡ gone

abbrev no_statement : Option Stmt
no_statement = None

pub idle-step : (x : Stmt-F Stmt) (a : Names) → is_idle x a ≡ true → SweptAs (roll-Stmt x) a a None true
idle-step x a h =
    let z : Stmt-F Swept = map-Stmt Stmt Swept sweep x in
    let e : is_idle z a ≡ true = idle-map sweep x a ∙ h in
    let unrolled : sweep (roll-Stmt x) ≡ sweep_step z = fold-roll-Stmt Swept sweep_step x in
    record {
      before = ap (λ (c : Swept). c.before a) unrolled ∙ ap (λ (b : Bool). if b then a else before_kept z a) e;
      left =
          ap (λ (c : Swept). c.left a) unrolled
          ∙ ap (λ (b : Bool). if b then no_statement else Some (roll-Stmt (kept z a))) e;
      leaves = ap (λ (c : Swept). c.leaves_out a) unrolled ∙ ap (λ (b : Bool). b || inner_left_out z a) e;
    }

pub kept-step : (x : Stmt-F Stmt) (a : Names) → is_idle x a ≡ false
    → SweptAs (roll-Stmt x) a (before_kept (map-Stmt Stmt Swept sweep x) a)
    (Some (roll-Stmt (kept (map-Stmt Stmt Swept sweep x) a))) (inner_left_out (map-Stmt Stmt Swept sweep x) a)
kept-step x a h =
    let z : Stmt-F Swept = map-Stmt Stmt Swept sweep x in
    let e : is_idle z a ≡ false = idle-map sweep x a ∙ h in
    let unrolled : sweep (roll-Stmt x) ≡ sweep_step z = fold-roll-Stmt Swept sweep_step x in
    record {
      before = ap (λ (c : Swept). c.before a) unrolled ∙ ap (λ (b : Bool). if b then a else before_kept z a) e;
      left =
          ap (λ (c : Swept). c.left a) unrolled
          ∙ ap (λ (b : Bool). if b then no_statement else Some (roll-Stmt (kept z a))) e;
      leaves = ap (λ (c : Swept). c.leaves_out a) unrolled ∙ ap (λ (b : Bool). b || inner_left_out z a) e;
    }

-- an idle statement, in which no loop is
pub record IdleAs (s : Stmt) (a : Names) : Type 0 where
  pub swept : SweptAs s a a None true
  pub turns : (b : ℕ) → turns_of b s ≡ []

no-turns : (b : ℕ) (x : Stmt-F Stmt) (a : Names) → is_idle x a ≡ true
    → (turned_step b (map-Stmt Stmt Turned (turned b) x)).turns ≡ []
no-turns b (Stmt-F.Lit x n) a h = refl
no-turns b (Stmt-F.Copy x y) a h = refl
no-turns b (Stmt-F.Op x op y z) a h = refl
no-turns b (Stmt-F.Load x size y offset) a h = refl
no-turns b (Stmt-F.Table x size bytes y) a h = refl
no-turns b (Stmt-F.Store size y z offset) a h = refl
no-turns b (Stmt-F.Call xs g ys) a h = refl
no-turns b (Stmt-F.Read x y) a h = refl
no-turns b (Stmt-F.Write y z) a h = refl
no-turns b (Stmt-F.Stackalloc x n body) a h = absurd (cc h)
no-turns b (Stmt-F.If test first second) a h = absurd (cc h)
no-turns b (Stmt-F.Loop first test last) a h = absurd (cc h)

pub idle-statement : (s : Stmt) (a : Names) → idle s a ≡ true → IdleAs s a
idle-statement = ind-Stmt (λ s. (a : Names) → idle s a ≡ true → IdleAs s a) (λ x y is a h.
    let e : is_idle x a ≡ true = sym (idle-roll x a) ∙ h in
    record {
      swept = idle-step x a e;
      turns = λ b. ap (λ (t : Turned). t.turns) (fold-roll-Stmt Turned (turned_step b) x) ∙ no-turns b x a e;
    })

-- ---- statements with no parts

plain-as : (x : Stmt-F Stmt) (s : Stmt) (a b : Names) → roll-Stmt x ≡ s → idle s a ≡ false
    → before_kept (map-Stmt Stmt Swept sweep x) a ≡ b → kept (map-Stmt Stmt Swept sweep x) a ≡ x
    → inner_left_out (map-Stmt Stmt Swept sweep x) a ≡ false → SweptAs s a b (Some s) false
plain-as x s a b is not before same inner =
    let e : is_idle x a ≡ false = sym (idle-roll x a) ∙ ap (λ c. idle c a) is ∙ not in
    let it = kept-step x a e in
    subst (λ c. SweptAs c a b (Some c) false) is (record {
      before = it.before ∙ before;
      left = it.left ∙ ap (λ (y : Stmt-F Stmt). Some (roll-Stmt y)) same;
      leaves = it.leaves ∙ inner;
    })

abbrev Plain : Stmt → Names → Type 0
Plain s a = SweptAs s a (before s a) (Some s) false

pub sweep-plain : (s : Stmt) (a : Names) → IsPlain s → idle s a ≡ false → Plain s a
sweep-plain s a (inl e) not = subst (λ c. idle c a ≡ false → Plain c a) (sym e.2)
    (λ n. plain-as (Stmt-F.Lit e.0 e.1) (Lit e.0 e.1) a (before (Lit e.0 e.1) a) (rolls-Lit e.0 e.1) n
    (sym (live-lit e.0 e.1 a)) refl refl) not
sweep-plain s a (inr (inl e)) not = subst (λ c. idle c a ≡ false → Plain c a) (sym e.2)
    (λ n. plain-as (Stmt-F.Copy e.0 e.1) (Copy e.0 e.1) a (before (Copy e.0 e.1) a) (rolls-Copy e.0 e.1) n
    (sym (live-copy e.0 e.1 a)) refl refl) not
sweep-plain s a (inr (inr (inl e))) not = subst (λ c. idle c a ≡ false → Plain c a) (sym e.4)
    (λ n. plain-as (Stmt-F.Op e.0 e.1 e.2 e.3) (Op e.0 e.1 e.2 e.3) a (before (Op e.0 e.1 e.2 e.3) a)
    (rolls-Op e.0 e.1 e.2 e.3) n (sym (live-op e.0 e.1 e.2 e.3 a)) refl refl) not
sweep-plain s a (inr (inr (inr (inl e)))) not = subst (λ c. idle c a ≡ false → Plain c a) (sym e.4)
    (λ n. plain-as (Stmt-F.Load e.0 e.1 e.2 e.3) (Load e.0 e.1 e.2 e.3) a (before (Load e.0 e.1 e.2 e.3) a)
    (rolls-Load e.0 e.1 e.2 e.3) n (sym (live-load e.0 e.1 e.2 e.3 a)) refl refl) not
sweep-plain s a (inr (inr (inr (inr (inl e))))) not = subst (λ c. idle c a ≡ false → Plain c a) (sym e.4)
    (λ n. plain-as (Stmt-F.Store e.0 e.1 e.2 e.3) (Store e.0 e.1 e.2 e.3) a (before (Store e.0 e.1 e.2 e.3) a)
    (rolls-Store e.0 e.1 e.2 e.3) n (sym (live-store e.0 e.1 e.2 e.3 a)) refl refl) not
sweep-plain s a (inr (inr (inr (inr (inr (inl e)))))) not = subst (λ c. idle c a ≡ false → Plain c a) (sym e.4)
    (λ n. plain-as (Stmt-F.Table e.0 e.1 e.2 e.3) (Table e.0 e.1 e.2 e.3) a (before (Table e.0 e.1 e.2 e.3) a)
    (rolls-Table e.0 e.1 e.2 e.3) n (sym (live-table e.0 e.1 e.2 e.3 a)) refl refl) not
sweep-plain s a (inr (inr (inr (inr (inr (inr (inl e))))))) not = subst (λ c. idle c a ≡ false → Plain c a) (sym e.3)
    (λ n. plain-as (Stmt-F.Call e.0 e.1 e.2) (Call e.0 e.1 e.2) a (before (Call e.0 e.1 e.2) a)
    (rolls-Call e.0 e.1 e.2) n (sym (live-call e.0 e.1 e.2 a)) refl refl) not
sweep-plain s a (inr (inr (inr (inr (inr (inr (inr (inl e)))))))) not =
    subst (λ c. idle c a ≡ false → Plain c a) (sym e.2)
    (λ n. plain-as (Stmt-F.Read e.0 e.1) (Read e.0 e.1) a (before (Read e.0 e.1) a) (rolls-Read e.0 e.1) n
    (sym (live-read e.0 e.1 a)) refl refl) not
sweep-plain s a (inr (inr (inr (inr (inr (inr (inr (inr e)))))))) not =
    subst (λ c. idle c a ≡ false → Plain c a) (sym e.2)
    (λ n. plain-as (Stmt-F.Write e.0 e.1) (Write e.0 e.1) a (before (Write e.0 e.1) a) (rolls-Write e.0 e.1) n
    (sym (live-write e.0 e.1 a)) refl refl) not

-- ---- statements with parts

either_order : (p q : Bool) → (p || q) ≡ (q || p)
either_order true true = refl
either_order true false = refl
either_order false true = refl
either_order false false = refl

pub or_assoc : (a b c : Bool) → ((a || b) || c) ≡ (a || (b || c))
or_assoc true b c = refl
or_assoc false b c = refl

-- what a statement writes and reads itself, around what is live in it
pub own-stackalloc : (x n : ℕ) (body : List Stmt) (e : Names)
    → union (without e (own_written (Stackalloc x n body))) (is_in (own_read (Stackalloc x n body))) ≡ without e
    (x ∷ [])
own-stackalloc x n body e =
    ap (λ (zs : List ℕ). union (without e zs) (is_in (own_read (Stackalloc x n body)))) (written-stackalloc x n body)
    ∙ ap (λ (zs : List ℕ). union (without e (x ∷ [])) (is_in zs)) (read-stackalloc x n body)
    ∙ union-none (without e (x ∷ []))

pub own-if : (test : Cond) (first second : List Stmt) (e : Names)
    → union (without e (own_written (If test first second))) (is_in (own_read (If test first second))) ≡ union
    (is_in (test_names test)) e
own-if test first second e =
    ap (λ (zs : List ℕ). union (without e zs) (is_in (own_read (If test first second))))
    (written-if test first second)
    ∙ ap (λ (zs : List ℕ). union (without e []) (is_in zs)) (read-if test first second)
    ∙ ap (λ (s : Names). union s (is_in (test_names test))) (without-none e)
    ∙ fun_ext (λ y. either_order (e y) (is_in (test_names test) y))

pub sweep-stackalloc : (x n : ℕ) (body : List Stmt) (a : Names)
    → SweptAs (Stackalloc x n body) a (without (before_left body a) (x ∷ [])) (Some (Stackalloc x n (left_of body a)))
    (leaves_of body a)
sweep-stackalloc x n body a =
    let it = kept-step (Stmt-F.Stackalloc x n body) a refl in
    subst (λ c. SweptAs c a (without (before_left body a) (x ∷ [])) (Some (Stackalloc x n (left_of body a)))
    (leaves_of body a)) (rolls-Stackalloc x n body) (record {
      before = it.before;
      left = it.left ∙ ap Some (rolls-Stackalloc x n (left_of body a));
      leaves = it.leaves;
    })

pub sweep-if : (test : Cond) (first second : List Stmt) (a : Names)
    → SweptAs (If test first second) a
    (union (is_in (test_names test)) (union (before_left first a) (before_left second a)))
    (Some (If test (left_of first a) (left_of second a))) (leaves_of second a || leaves_of first a)
sweep-if test first second a =
    let it = kept-step (Stmt-F.If test first second) a refl in
    subst (λ c. SweptAs c a (union (is_in (test_names test)) (union (before_left first a) (before_left second a)))
    (Some (If test (left_of first a) (left_of second a))) (leaves_of second a || leaves_of first a))
    (rolls-If test first second) (record {
      before = it.before;
      left = it.left ∙ ap Some (rolls-If test (left_of first a) (left_of second a));
      leaves = it.leaves;
    })

-- a loop, where what is live in it goes by these
abbrev LoopAs : List Stmt → Cond → List Stmt → Names → List Live → List Live → Type 0
LoopAs first test last a fs ls =
    SweptAs (roll-Stmt (Stmt-F.Loop first test last)) a (before_left first (at_test fs test ls a))
    (Some (roll-Stmt
    (Stmt-F.Loop (left_of first (at_test fs test ls a)) test (left_of last (entry fs (at_test fs test ls a))))))
    (leaves_of last (entry fs (at_test fs test ls a)) || leaves_of first (at_test fs test ls a))

-- with the sets by all statements
pub sweep-loop : (first : List Stmt) (test : Cond) (last : List Stmt) (a : Names) →
    let t : Names = at_test (map live first) test (map live last) a in
    SweptAs (Loop first test last) a (before_left first t)
    (Some (Loop (left_of first t) test (left_of last (before_all first t))))
    (leaves_of last (before_all first t) || leaves_of first t)
sweep-loop first test last a =
    let t : Names = at_test (map live first) test (map live last) a in
    let here : LoopAs first test last a (map live first) (map live last) =
    subst (λ fs. LoopAs first test last a fs (map live last)) (lives-all first)
    (subst (λ ls. LoopAs first test last a (lives_in (map sweep first)) ls) (lives-all last)
    (kept-step (Stmt-F.Loop first test last) a refl)) in
    subst (λ c. SweptAs c a (before_left first t)
    (Some (Loop (left_of first t) test (left_of last (before_all first t))))
    (leaves_of last (before_all first t) || leaves_of first t)) (rolls-Loop first test last) (record {
      before = here.before;
      left = here.left ∙ ap Some (rolls-Loop (left_of first t) test (left_of last (before_all first t)));
      leaves = here.leaves;
    })
