-- No operand becomes missed by a sweep: the last write before a read is not left out.
use Rattle.std.proofs.Common.{◌≡◌, ℕ, Bool, true, false, not, ◌&&◌, ◌||◌, List, [], ◌∷◌, map}
use Rattle.std.proofs.Common.{Option, Some, None, refl, sym, ap, subst, ◌∙◌, IsTrue, if◌then◌else◌}
use Rattle.std.specs.List.{list_any}
use Rattle.br_flatimp.specs.declared.program.Operand.TheVariants as operand
use Rattle.br_flatimp.specs.declared.program.Stmt.{Stmt, map-Stmt}
use Rattle.br_flatimp.specs.declared.program.Stmt.TheOpen.{Stmt-F}
use Rattle.br_flatimp.specs.declared.program.Stmt.TheViews.{roll-Stmt}
use Rattle.br_flatimp.specs.declared.program.Stmt.TheFolds.{fold-roll-Stmt, ind-Stmt}
use Rattle.br_flatimp.specs.declared.program.FlatFunc.{FlatFunc}
use Rattle.br_flatimp.specs.Values.{Names}
use Rattle.br_flatimp.specs.Parts.{written, read}
use Rattle.br_flatimp.specs.Liveness.{is_in, is_removable, union, without}
use Rattle.br_flatimp.specs.Missed.{Shown, is_straight, literal, name_operand, literal_of}
use Rattle.br_flatimp.specs.Missed.{fits_literal, is_missed, misses_after, shown_step, shown}
use Rattle.br_flatimp.proofs.Live.{or_left, or_right, both_and}
use Rattle.br_flatimp.proofs.Covers.{is_in-head, is_in-tail}
use Rattle.br_deadcode.specs.Sweeps.{is_idle, Swept, put, swept_test, swept_start, before_kept, kept}
use Rattle.br_deadcode.specs.Sweeps.{sweep_step, sweep, before_left, left_of, swept_function, swept_program}
use Rattle.br_deadcode.specs.LeftOut.{MissesNoMore, InPairs}
use Rattle.br_deadcode.proofs.Idle.{idle-map}
use Rattle.br_deadcode.proofs.Exact.{apart, not_true, and-second}

-- looking back over what is left and over all statements, the same literal is found for each live name
abbrev pub AgreeOn : Names → List Shown → List Shown → Type 0
AgreeOn a left all = (y : ℕ) → IsTrue (a y) → literal_of y left ≡ literal_of y all

abbrev pub shown_of : Option Stmt → Option Shown
shown_of None = None
shown_of (Some c) = Some (shown c)

abbrev pub front : Option Shown → List Shown → List Shown
front None earlier = earlier
front (Some s) earlier = s ∷ earlier

abbrev pub missed : Option Shown → List Shown → Bool
missed None earlier = false
missed (Some s) earlier = is_missed s.operand earlier || s.misses

-- a statement and what is left of it, after others
pub record Passes (a : Names) (o : Option Shown) (s : Shown) (left all : List Shown) : Type 0 where
  pub after : AgreeOn a (front o left) (s ∷ all)
  pub none : (is_missed s.operand all || s.misses) ≡ false → missed o left ≡ false

abbrev Fine : Stmt → Type 0
Fine c =
    (a : Names) (left all : List Shown) → AgreeOn ((sweep c).before a) left all
    → Passes a (shown_of ((sweep c).left a)) (shown c) left all

abbrev AllFine : List Stmt → Type 0
AllFine cs =
    (a : Names) (left all : List Shown) → AgreeOn (before_left cs a) left all
    → misses_after all (map shown cs) ≡ false → misses_after left (map shown (left_of cs a)) ≡ false

pub or-first : (a b : Bool) → (a || b) ≡ false → a ≡ false
or-first true b h = absurd (cc h)
or-first false b h = refl

pub or-second : (a b : Bool) → (a || b) ≡ false → b ≡ false
or-second true b h = absurd (cc h)
or-second false b h = h

pub put-misses : (o : Option Stmt) (ds : List Stmt) (left : List Shown) → missed (shown_of o) left ≡ false
    → misses_after (front (shown_of o) left) (map shown ds) ≡ false → misses_after left (map shown (put o ds)) ≡ false
put-misses None ds left h k = k
put-misses (Some c) ds left h k = rw (h, k) refl

next-fine : (c : Stmt) (cs : List Stmt) → Fine c → AllFine cs → AllFine (c ∷ cs)
next-fine c cs one rest a left all agree none =
    let b : Names = before_left cs a in
    let o : Option Stmt = (sweep c).left b in
    let it = one b left all agree in
    let here = or-first (is_missed (shown c).operand all || (shown c).misses)
    (misses_after (shown c ∷ all) (map shown cs)) none in
    let there = or-second (is_missed (shown c).operand all || (shown c).misses)
    (misses_after (shown c ∷ all) (map shown cs)) none in
    put-misses o (left_of cs a) left (it.none here) (rest a (front (shown_of o) left) (shown c ∷ all) it.after there)

abbrev Each : Type 0
Each = (c : Stmt) × Fine c

abbrev stmts : List Each → List Stmt
stmts cs = map (λ e. e.0) cs

each-fine : (cs : List Each) → AllFine (stmts cs)
each-fine [] a left all agree none = refl
each-fine (e ∷ cs) a left all agree none = next-fine e.0 (stmts cs) e.1 (each-fine cs) a left all agree none

-- a part, before which nothing stands
part-fine : (cs : List Each) (a : Names) → misses_after [] (map shown (stmts cs)) ≡ false
    → misses_after [] (map shown (left_of (stmts cs) a)) ≡ false
part-fine cs a none = each-fine cs a [] [] (λ y alive. refl) none

abbrev opened : Stmt-F Each → Stmt-F Stmt
opened y = map-Stmt Each Stmt (λ e. e.0) y

-- ---- one statement that is kept

abbrev KeptFine : Names → Stmt-F Stmt → Type 0
KeptFine a z =
    (left all : List Shown) → AgreeOn (before_kept (map-Stmt Stmt Swept sweep z) a) left all
    → Passes a (Some (shown_step (map-Stmt Stmt Shown shown (kept (map-Stmt Stmt Swept sweep z) a))))
    (shown_step (map-Stmt Stmt Shown shown z)) left all

-- after the same statement the same literals are found
same-after : (s : Shown) (a : Names) (left all : List Shown) → AgreeOn (without a s.written) left all
    → AgreeOn a (s ∷ left) (s ∷ all)
same-after s a left all agree y alive = by (is_in s.written y) refl
  where
    by : (b : Bool) → is_in s.written y ≡ b → literal_of y (s ∷ left) ≡ literal_of y (s ∷ all)
    by true e = rw e refl
    by false e =
        let same : literal_of y left ≡ literal_of y all = agree y
        (both_and (a y) (not (is_in s.written y)) alive (ap not e)) in
        ap (λ o. if s.is_straight then (if is_in s.written y then s.literal else o) else None) same

operand-same : (y : Stmt-F Shown) (left all : List Shown) → AgreeOn (is_in (read y)) left all
    → is_missed (name_operand y) left ≡ is_missed (name_operand y) all
operand-same (Stmt-F.Op x op y (operand.Name z)) left all agree =
    ap (fits_literal op) (agree z (is_in-tail y z (z ∷ []) (is_in-head z [])))
operand-same (Stmt-F.Op x op y (operand.Const c)) left all agree = refl
operand-same (Stmt-F.Lit x n) left all agree = refl
operand-same (Stmt-F.Copy x y) left all agree = refl
operand-same (Stmt-F.Load x size y offset) left all agree = refl
operand-same (Stmt-F.Store size y z offset) left all agree = refl
operand-same (Stmt-F.Table x size bytes y) left all agree = refl
operand-same (Stmt-F.Stackalloc x n body) left all agree = refl
operand-same (Stmt-F.If test first second) left all agree = refl
operand-same (Stmt-F.Loop first test last) left all agree = refl
operand-same (Stmt-F.Call xs g ys) left all agree = refl
operand-same (Stmt-F.Read x y) left all agree = refl
operand-same (Stmt-F.Write y z) left all agree = refl

-- a statement with no parts
pub simple-fine : (y : Stmt-F Shown) (a : Names) (left all : List Shown)
    → AgreeOn (union (without a (written y)) (is_in (read y))) left all
    → Passes a (Some (shown_step y)) (shown_step y) left all
simple-fine y a left all agree =
    let same : is_missed (name_operand y) left ≡ is_missed (name_operand y) all =
    operand-same y left all (λ z i. agree z (or_right (without a (written y) z) (is_in (read y) z) i)) in
    record {
      after = same-after (shown_step y) a left all
          (λ z i. agree z (or_left (without a (written y) z) (is_in (read y) z) i));
      none = λ h. ap (λ b. b || (shown_step y).misses) same ∙ h;
    }

pub one-part : (a b : Bool) → (a ≡ false → b ≡ false) → (a || false) ≡ false → (b || false) ≡ false
one-part true b k h = absurd (cc h)
one-part false b k h = rw (k refl) refl

pub two-parts : (a b c d : Bool) → (a ≡ false → c ≡ false) → (b ≡ false → d ≡ false) → (a || (b || false)) ≡ false
    → (c || (d || false)) ≡ false
two-parts true b c d k l h = absurd (cc h)
two-parts false true c d k l h = absurd (cc h)
two-parts false false c d k l h = rw (k refl, l refl) refl

kept-fine : (y : Stmt-F Each) (a : Names) → KeptFine a (opened y)
kept-fine (Stmt-F.Lit x n) a left all agree = simple-fine (Stmt-F.Lit x n) a left all agree
kept-fine (Stmt-F.Copy x y) a left all agree = simple-fine (Stmt-F.Copy x y) a left all agree
kept-fine (Stmt-F.Op x op y z) a left all agree = simple-fine (Stmt-F.Op x op y z) a left all agree
kept-fine (Stmt-F.Load x size y offset) a left all agree = simple-fine (Stmt-F.Load x size y offset) a left all agree
kept-fine (Stmt-F.Store size y z offset) a left all agree =
    simple-fine (Stmt-F.Store size y z offset) a left all agree
kept-fine (Stmt-F.Table x size bytes y) a left all agree = simple-fine (Stmt-F.Table x size bytes y) a left all agree
kept-fine (Stmt-F.Call xs g ys) a left all agree = simple-fine (Stmt-F.Call xs g ys) a left all agree
kept-fine (Stmt-F.Read x y) a left all agree = simple-fine (Stmt-F.Read x y) a left all agree
kept-fine (Stmt-F.Write y z) a left all agree = simple-fine (Stmt-F.Write y z) a left all agree
kept-fine (Stmt-F.Stackalloc x n body) a left all agree = record {
  after = λ y alive. refl;
  none = one-part (misses_after [] (map shown (stmts body))) (misses_after [] (map shown (left_of (stmts body) a)))
      (part-fine body a);
}
kept-fine (Stmt-F.If test first second) a left all agree = record {
  after = λ y alive. refl;
  none = two-parts (misses_after [] (map shown (stmts first))) (misses_after [] (map shown (stmts second)))
      (misses_after [] (map shown (left_of (stmts first) a))) (misses_after [] (map shown (left_of (stmts second) a)))
      (part-fine first a) (part-fine second a);
}
kept-fine (Stmt-F.Loop first test last) a left all agree =
    let t : Names = swept_test (map sweep (stmts first)) test (map sweep (stmts last)) a in
    let s : Names = swept_start (map sweep (stmts first)) test (map sweep (stmts last)) a in
    record {
      after = λ y alive. refl;
      none = two-parts (misses_after [] (map shown (stmts first))) (misses_after [] (map shown (stmts last)))
          (misses_after [] (map shown (left_of (stmts first) t))) (misses_after [] (map shown (left_of (stmts last) s)))
          (part-fine first t) (part-fine last s);
    }

-- ---- one that is idle

straight : {X : Type 0} (y : Stmt-F X) → is_removable y ≡ true → is_straight y ≡ true
straight (Stmt-F.Lit x n) h = refl
straight (Stmt-F.Copy x y) h = refl
straight (Stmt-F.Op x op y z) h = refl
straight (Stmt-F.Load x size y offset) h = refl
straight (Stmt-F.Table x size bytes y) h = refl
straight (Stmt-F.Store size y z offset) h = refl
straight (Stmt-F.Read x y) h = refl
straight (Stmt-F.Write y z) h = refl
straight (Stmt-F.Stackalloc x n body) h = absurd (cc h)
straight (Stmt-F.If test first second) h = absurd (cc h)
straight (Stmt-F.Loop first test last) h = absurd (cc h)
straight (Stmt-F.Call xs g ys) h = absurd (cc h)

and-first : (a b : Bool) → (a && b) ≡ true → a ≡ true
and-first true b e = refl
and-first false b e = absurd (cc e)

pub idle-fine : (y : Stmt-F Shown) (a : Names) (left all : List Shown) → is_idle y a ≡ true → AgreeOn a left all
    → Passes a None (shown_step y) left all
idle-fine y a left all idle agree = record {
  after = λ z alive.
      let removable : is_removable y ≡ true = and-first (is_removable y) (not (list_any a (written y))) idle in
      let none : list_any a (written y) ≡ false = not_true (list_any a (written y))
      (and-second (is_removable y) (not (list_any a (written y))) idle) in
      let other : is_in (written y) z ≡ false = apart a (written y) z none alive in
      agree z alive
      ∙ ap (λ b. if b then literal y else literal_of z all) (sym other)
      ∙ ap (λ b. if b then (if is_in (written y) z then literal y else literal_of z all) else None)
      (sym (straight y removable));
  none = λ h. refl;
}

-- ---- statements in turn, and functions

pub choice-fine : (x z : Stmt-F Stmt) (a b : Names) (i : Bool) → (i ≡ true → is_idle x a ≡ true)
    → ((left all : List Shown) → AgreeOn b left all
    → Passes a (Some (shown_step (map-Stmt Stmt Shown shown z))) (shown_step (map-Stmt Stmt Shown shown x)) left all)
    → (left all : List Shown) → AgreeOn (if i then a else b) left all
    → Passes a (shown_of (if i then None else Some (roll-Stmt z))) (shown (roll-Stmt x)) left all
choice-fine x z a b true idle kept left all agree =
    subst (λ (s : Shown). Passes a None s left all) (sym (fold-roll-Stmt Shown shown_step x))
    (idle-fine (map-Stmt Stmt Shown shown x) a left all (idle-map shown x a ∙ idle refl) agree)
choice-fine x z a b false idle kept left all agree =
    subst (λ (s : Shown). Passes a (Some (shown (roll-Stmt z))) s left all) (sym (fold-roll-Stmt Shown shown_step x))
    (subst (λ (s : Shown). Passes a (Some s) (shown_step (map-Stmt Stmt Shown shown x)) left all)
    (sym (fold-roll-Stmt Shown shown_step z))
    (kept left all agree))

statement-fine : (c : Stmt) → Fine c
statement-fine = ind-Stmt Fine (λ x y is a left all.
    let w : Stmt-F Swept = map-Stmt Stmt Swept sweep x in
    subst (λ (c : Swept). AgreeOn (c.before a) left all
    → Passes a (shown_of (c.left a)) (shown (roll-Stmt x)) left all) (sym (fold-roll-Stmt Swept sweep_step x))
    (choice-fine x (kept w a) a (before_kept w a) (is_idle w a) (λ e. sym (idle-map sweep x a) ∙ e)
    (subst (KeptFine a) is (kept-fine y a)) left all))

all-fine : (cs : List Stmt) → AllFine cs
all-fine [] a left all agree none = refl
all-fine (c ∷ cs) a left all agree none = next-fine c cs (statement-fine c) (all-fine cs) a left all agree none

misses-no_more : (f : FlatFunc) → MissesNoMore (swept_function f) f
misses-no_more f h =
    ap not (all-fine f.body (is_in f.results) [] [] (λ y alive. refl)
    (not_true (misses_after [] (map shown f.body)) h))

pub sweep-misses_no_more : (fs : List FlatFunc) → InPairs MissesNoMore (swept_program fs) fs
sweep-misses_no_more [] = tt
sweep-misses_no_more (f ∷ fs) = (misses-no_more f, sweep-misses_no_more fs)
