-- The sets of a sweep are within those of liveness, and are the same where the sweep leaves nothing out.
use Rattle.std.proofs.Common.{◌≡◌, ℕ, Bool, true, false, not, ◌==◌, ◌&&◌, ◌||◌, List, [], ◌∷◌, ◌++◌}
use Rattle.std.proofs.Common.{map, inl, inr, refl, sym, ap, subst, ◌∙◌, IsTrue, if◌then◌else◌}
use Rattle.std.specs.List.{list_any, list_all}
use Rattle.br_flatimp.specs.declared.program.Cond.{Cond}
use Rattle.br_flatimp.specs.declared.program.Stmt.{Stmt, map-Stmt}
use Rattle.br_flatimp.specs.declared.program.Stmt.TheOpen.{Stmt-F}
use Rattle.br_flatimp.specs.declared.program.Stmt.TheViews.{roll-Stmt}
use Rattle.br_flatimp.specs.declared.program.Stmt.TheFolds.{fold-roll-Stmt, ind-Stmt}
use Rattle.br_flatimp.specs.declared.program.FlatFunc.{FlatFunc}
use Rattle.br_flatimp.specs.Values.{Names}
use Rattle.br_flatimp.specs.Parts.{written, read, test_names}
use Rattle.br_flatimp.specs.Liveness.{is_in, union, without, Within, Moment, Live, entry}
use Rattle.br_flatimp.specs.Liveness.{moments, at_test, is_removable, before_step, live_step}
use Rattle.br_flatimp.specs.Liveness.{live, before, before_all, is_dead, has_no_dead}
use Rattle.br_flatimp.proofs.Live.{or_left, or_right, or_cases, and_both, both_and, grows-before}
use Rattle.br_flatimp.proofs.Covers.{is_number}
use Rattle.br_deadcode.specs.Sweeps.{is_idle, Swept, lives_in, sweep_step, sweep}
use Rattle.br_deadcode.specs.Sweeps.{before_left, leaves_of, function_leaves, program_leaves}
use Rattle.br_deadcode.proofs.Lives.{lives-all}

-- ---- within

pub and-second : (a b : Bool) → (a && b) ≡ true → b ≡ true
and-second true b e = e
and-second false b e = absurd (cc e)

pub not_true : (b : Bool) → not b ≡ true → b ≡ false
not_true true h = absurd (cc h)
not_true false h = refl

or-none : (a b : Bool) → (a || b) ≡ false → (a ≡ false) × (b ≡ false)
or-none true b h = absurd (cc h)
or-none false b h = (refl, h)

-- a member of a set is none of the names of which none is in the set
pub apart : (a : Names) (xs : List ℕ) (z : ℕ) → list_any a xs ≡ false → IsTrue (a z) → is_in xs z ≡ false
apart a [] z none h = refl
apart a (x ∷ xs) z none h =
    let split = or-none (a x) (list_any a xs) none in
    by (x == z) refl (apart a xs z split.1 h)
  where
    by : (b : Bool) → (x == z) ≡ b → is_in xs z ≡ false → (b || is_in xs z) ≡ false
    by false e rest = rest
    by true e rest =
        let same : x ≡ z = is_number x z e in
        let gone : a x ≡ false = (or-none (a x) (list_any a xs) none).0 in
        absurd (cc (ap a same, gone, h))

-- what is live after an idle statement is live before it
pub idle-needs : {X : Type 0} (y : Stmt-F X) (a : Names) → is_idle y a ≡ true
    → Within a (union (without a (written y)) (is_in (read y)))
idle-needs y a h z alive =
    let none : list_any a (written y) ≡ false = not_true (list_any a (written y))
    (and-second (is_removable y) (not (list_any a (written y))) h) in
    or_left (a z && not (is_in (written y) z)) (is_in (read y) z)
    (both_and (a z) (not (is_in (written y) z)) alive (ap not (apart a (written y) z none alive)))

within-union : (a b c d : Names) → Within a b → Within c d → Within (union a c) (union b d)
within-union a b c d h k z e =
    elim (or_cases (a z) (c z) e) as (λ w. IsTrue (b z || d z)) [
      | inl l ↦ or_left (b z) (d z) (h z l)
      | inr r ↦ or_right (b z) (d z) (k z r)
    ]

within-without : (a b : Names) (xs : List ℕ) → Within a b → Within (without a xs) (without b xs)
within-without a b xs h z e =
    let split = and_both (a z) (not (is_in xs z)) e in
    both_and (b z) (not (is_in xs z)) (h z split.0) split.1

within-itself : (a : Names) → Within a a
within-itself a z h = h

within-trans : (a b c : Names) → Within a b → Within b c → Within a c
within-trans a b c h k z e = k z (h z e)

within-choice : (b : Bool) (a k : Names) → (b ≡ true → Within a k) → Within (if b then a else k) k
within-choice true a k h = h refl
within-choice false a k h = within-itself k

abbrev Shrinks : Stmt → Type 0
Shrinks c = (a : Names) → Within ((sweep c).before a) (before c a)

abbrev Each : Type 0
Each = (c : Stmt) × Shrinks c

abbrev stmts : List Each → List Stmt
stmts cs = map (λ e. e.0) cs

each-shrinks : (cs : List Each) (a : Names) → Within (before_left (stmts cs) a) (before_all (stmts cs) a)
each-shrinks [] a = within-itself a
each-shrinks (e ∷ cs) a =
    let inner : Names = before_left (stmts cs) a in
    let outer : Names = before_all (stmts cs) a in
    within-trans ((sweep e.0).before inner) (before e.0 inner) (before e.0 outer) (e.1 inner)
    (grows-before e.0 inner outer (each-shrinks cs a))

abbrev opened : Stmt-F Each → Stmt-F Stmt
opened y = map-Stmt Each Stmt (λ e. e.0) y

abbrev ShrinksStep : Names → Stmt-F Stmt → Type 0
ShrinksStep a z =
    Within ((sweep_step (map-Stmt Stmt Swept sweep z)).before a) (before_step (map-Stmt Stmt Live live z) a)

simple-shrinks : {X : Type 0} (y : Stmt-F X) (a : Names)
    → Within (if is_idle y a then a else union (without a (written y)) (is_in (read y)))
    (union (without a (written y)) (is_in (read y)))
simple-shrinks y a =
    within-choice (is_idle y a) a (union (without a (written y)) (is_in (read y))) (λ e. idle-needs y a e)

step-shrinks : (y : Stmt-F Each) (a : Names) → ShrinksStep a (opened y)
step-shrinks (Stmt-F.Lit x n) a = simple-shrinks {X = Swept} (Stmt-F.Lit x n) a
step-shrinks (Stmt-F.Copy x y) a = simple-shrinks {X = Swept} (Stmt-F.Copy x y) a
step-shrinks (Stmt-F.Op x op y z) a = simple-shrinks {X = Swept} (Stmt-F.Op x op y z) a
step-shrinks (Stmt-F.Load x size y offset) a = simple-shrinks {X = Swept} (Stmt-F.Load x size y offset) a
step-shrinks (Stmt-F.Store size y z offset) a = simple-shrinks {X = Swept} (Stmt-F.Store size y z offset) a
step-shrinks (Stmt-F.Table x size bytes y) a = simple-shrinks {X = Swept} (Stmt-F.Table x size bytes y) a
step-shrinks (Stmt-F.Call xs g ys) a = simple-shrinks {X = Swept} (Stmt-F.Call xs g ys) a
step-shrinks (Stmt-F.Read x y) a = simple-shrinks {X = Swept} (Stmt-F.Read x y) a
step-shrinks (Stmt-F.Write y z) a = simple-shrinks {X = Swept} (Stmt-F.Write y z) a
step-shrinks (Stmt-F.Stackalloc x n body) a =
    within-without (before_left (stmts body) a) (before_all (stmts body) a) (x ∷ []) (each-shrinks body a)
step-shrinks (Stmt-F.If test first second) a =
    within-union (is_in (test_names test)) (is_in (test_names test))
    (union (before_left (stmts first) a) (before_left (stmts second) a))
    (union (before_all (stmts first) a) (before_all (stmts second) a))
    (within-itself (is_in (test_names test)))
    (within-union (before_left (stmts first) a) (before_all (stmts first) a) (before_left (stmts second) a)
    (before_all (stmts second) a) (each-shrinks first a) (each-shrinks second a))
step-shrinks (Stmt-F.Loop first test last) a =
    subst (λ fs. Within (before_left (stmts first) (at_test fs test (lives_in (map sweep (stmts last))) a))
    (before_all (stmts first) (at_test (map live (stmts first)) test (map live (stmts last)) a)))
    (sym (lives-all (stmts first)))
    (subst (λ ls. Within (before_left (stmts first) (at_test (map live (stmts first)) test ls a))
    (before_all (stmts first) (at_test (map live (stmts first)) test (map live (stmts last)) a)))
    (sym (lives-all (stmts last)))
    (each-shrinks first (at_test (map live (stmts first)) test (map live (stmts last)) a)))

pub shrinks : (c : Stmt) → Shrinks c
shrinks = ind-Stmt Shrinks (λ x y is a.
    subst (λ (s : Swept). Within (s.before a) (before (roll-Stmt x) a)) (sym (fold-roll-Stmt Swept sweep_step x))
    (subst (λ (l : Live). Within ((sweep_step (map-Stmt Stmt Swept sweep x)).before a) (l.before a))
    (sym (fold-roll-Stmt Live live_step x))
    (subst (ShrinksStep a) is (step-shrinks y a))))

pub shrinks-all : (cs : List Stmt) (a : Names) → Within (before_left cs a) (before_all cs a)
shrinks-all [] a = within-itself a
shrinks-all (c ∷ cs) a =
    let inner : Names = before_left cs a in
    let outer : Names = before_all cs a in
    within-trans ((sweep c).before inner) (before c inner) (before c outer) (shrinks c inner)
    (grows-before c inner outer (shrinks-all cs a))

-- ---- where nothing is left out

any-append : {X : Type 0} (p : X → Bool) (xs ys : List X) → list_any p xs ≡ false → list_any p ys ≡ false
    → list_any p (xs ++ ys) ≡ false
any-append p [] ys h k = k
any-append p (x ∷ xs) ys h k =
    let split = or-none (p x) (list_any p xs) h in
    rw (split.0, any-append p xs ys split.1 k) refl

-- in liveness the set before is that of the sweep, and no statement is dead
record Alive (set other : Names) (ms : List Moment) : Type 0 where
  same : set ≡ other
  none : list_any is_dead ms ≡ false

abbrev Exact : Stmt → Type 0
Exact c = (a : Names) → (sweep c).leaves_out a ≡ false → Alive ((sweep c).before a) (before c a) ((live c).moments a)

abbrev Both : Type 0
Both = (c : Stmt) × Exact c

abbrev those : List Both → List Stmt
those cs = map (λ e. e.0) cs

two-alive : (c : Stmt) (cs : List Stmt) (a : Names)
    → Alive (before_left cs a) (before_all cs a) (moments (map live cs) a)
    → Alive ((sweep c).before (before_left cs a)) (before c (before_left cs a)) ((live c).moments (before_left cs a))
    → Alive (before_left (c ∷ cs) a) (before_all (c ∷ cs) a) (moments (map live (c ∷ cs)) a)
two-alive c cs a rest one = record {
  same = one.same ∙ ap (before c) rest.same;
  none = any-append is_dead ((live c).moments (before_all cs a)) (moments (map live cs) a)
      (subst (λ e. list_any is_dead ((live c).moments e) ≡ false) rest.same one.none) rest.none;
}

each-exact : (cs : List Both) (a : Names) → leaves_of (those cs) a ≡ false
    → Alive (before_left (those cs) a) (before_all (those cs) a) (moments (map live (those cs)) a)
each-exact [] a h = record { same = refl; none = refl }
each-exact (e ∷ cs) a h =
    let split = or-none (leaves_of (those cs) a) ((sweep e.0).leaves_out (before_left (those cs) a)) h in
    two-alive e.0 (those cs) a (each-exact cs a split.0) (e.1 (before_left (those cs) a) split.1)

abbrev unfolded : Stmt-F Both → Stmt-F Stmt
unfolded y = map-Stmt Both Stmt (λ e. e.0) y

abbrev ExactStep : Names → Stmt-F Stmt → Type 0
ExactStep a z =
    (sweep_step (map-Stmt Stmt Swept sweep z)).leaves_out a ≡ false
    → Alive ((sweep_step (map-Stmt Stmt Swept sweep z)).before a) (before_step (map-Stmt Stmt Live live z) a)
    ((live_step (map-Stmt Stmt Live live z)).moments a)

-- a statement with no parts that is not idle
simple-same : (b : Bool) (a k : Names) → (b || false) ≡ false → (if b then a else k) ≡ k
simple-same true a k h = absurd (cc h)
simple-same false a k h = refl

-- a loop, where what is live in it goes by these
abbrev LoopExact : List Both → Cond → List Both → Names → List Live → List Live → Type 0
LoopExact first test last a fs ls =
    let t : Names = at_test (map live (those first)) test (map live (those last)) a in
    (leaves_of (those last) (entry fs (at_test fs test ls a)) || leaves_of (those first) (at_test fs test ls a))
    ≡ false
    → Alive (before_left (those first) (at_test fs test ls a)) (before_all (those first) t)
    (record {
      written = [];
      callees = [];
      is_removable = false;
      is_copy = false;
      after = a;
      after_write = a;
      test = t;
    }
    ∷ (moments (map live (those first)) t ++ moments (map live (those last)) (before_all (those first) t)))

loop-exact : (first : List Both) (test : Cond) (last : List Both) (a : Names)
    → LoopExact first test last a (map live (those first)) (map live (those last))
loop-exact first test last a h =
    let t : Names = at_test (map live (those first)) test (map live (those last)) a in
    let split = or-none (leaves_of (those last) (before_all (those first) t)) (leaves_of (those first) t) h in
    let one = each-exact first t split.1 in
    let two = each-exact last (before_all (those first) t) split.0 in
    record {
      same = one.same;
      none = any-append is_dead (moments (map live (those first)) t)
          (moments (map live (those last)) (before_all (those first) t)) one.none two.none;
    }

step-exact : (y : Stmt-F Both) (a : Names) → ExactStep a (unfolded y)
step-exact (Stmt-F.Lit x n) a h =
    record {
      same = simple-same (is_idle {X = Swept} (Stmt-F.Lit x n) a) a
          (union (without a (x ∷ [])) (is_in [])) h;
      none = h;
    }
step-exact (Stmt-F.Copy x y) a h =
    record {
      same = simple-same (is_idle {X = Swept} (Stmt-F.Copy x y) a) a
          (union (without a (x ∷ [])) (is_in (y ∷ []))) h;
      none = h;
    }
step-exact (Stmt-F.Op x op y z) a h =
    record {
      same = simple-same (is_idle {X = Swept} (Stmt-F.Op x op y z) a) a
          (union (without a (x ∷ [])) (is_in (read {X = Swept} (Stmt-F.Op x op y z)))) h;
      none = h;
    }
step-exact (Stmt-F.Load x size y offset) a h =
    record {
      same = simple-same (is_idle {X = Swept} (Stmt-F.Load x size y offset) a) a
          (union (without a (x ∷ [])) (is_in (y ∷ []))) h;
      none = h;
    }
step-exact (Stmt-F.Table x size bytes y) a h =
    record {
      same = simple-same (is_idle {X = Swept} (Stmt-F.Table x size bytes y) a) a
          (union (without a (x ∷ [])) (is_in (y ∷ []))) h;
      none = h;
    }
step-exact (Stmt-F.Store size y z offset) a h = record { same = refl; none = refl }
step-exact (Stmt-F.Call xs g ys) a h = record { same = refl; none = refl }
step-exact (Stmt-F.Read x y) a h = record { same = refl; none = refl }
step-exact (Stmt-F.Write y z) a h = record { same = refl; none = refl }
step-exact (Stmt-F.Stackalloc x n body) a h =
    let inner = each-exact body a h in
    record { same = ap (λ e. without e (x ∷ [])) inner.same; none = inner.none }
step-exact (Stmt-F.If test first second) a h =
    let split = or-none (leaves_of (those second) a) (leaves_of (those first) a) h in
    let one = each-exact first a split.1 in
    let two = each-exact second a split.0 in
    record {
      same =
          ap (λ e. union (is_in (test_names test)) (union e (before_left (those second) a))) one.same
          ∙ ap (λ e. union (is_in (test_names test)) (union (before_all (those first) a) e)) two.same;
      none = any-append is_dead (moments (map live (those first)) a)
          (moments (map live (those second)) a) one.none two.none;
    }
step-exact (Stmt-F.Loop first test last) a h =
    subst (λ fs. LoopExact first test last a fs (lives_in (map sweep (those last)))) (sym (lives-all (those first)))
    (subst (λ ls. LoopExact first test last a (map live (those first)) ls) (sym (lives-all (those last)))
    (loop-exact first test last a))
    h

exact : (c : Stmt) → Exact c
exact = ind-Stmt Exact (λ x y is a h.
    let left = ap (λ (s : Swept). s.leaves_out a) (fold-roll-Stmt Swept sweep_step x) in
    let step = subst (ExactStep a) is (step-exact y a) (sym left ∙ h) in
    subst (λ (s : Swept). Alive (s.before a) (before (roll-Stmt x) a) ((live (roll-Stmt x)).moments a))
    (sym (fold-roll-Stmt Swept sweep_step x))
    (subst (λ (l : Live). Alive ((sweep_step (map-Stmt Stmt Swept sweep x)).before a) (l.before a) (l.moments a))
    (sym (fold-roll-Stmt Live live_step x)) step))

exact-all : (cs : List Stmt) (a : Names) → leaves_of cs a ≡ false
    → Alive (before_left cs a) (before_all cs a) (moments (map live cs) a)
exact-all [] a h = record { same = refl; none = refl }
exact-all (c ∷ cs) a h =
    let split = or-none (leaves_of cs a) ((sweep c).leaves_out (before_left cs a)) h in
    two-alive c cs a (exact-all cs a split.0) (exact c (before_left cs a) split.1)

pub none-dead : (fs : List FlatFunc) → program_leaves fs ≡ false → list_all has_no_dead fs ≡ true
none-dead [] h = refl
none-dead (f ∷ fs) h =
    let split = or-none (function_leaves f) (program_leaves fs) h in
    let one = exact-all f.body (is_in f.results) split.0 in
    rw (one.none, none-dead fs split.1) refl
