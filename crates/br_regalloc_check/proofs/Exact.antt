-- Names stay apart at each point of a function exactly where they do at its start and what is written stays
-- apart from what is live after the write: what is live after a statement was live before it or is written.
use Rattle.std.proofs.Common.{◌≡◌, ℕ, Bool, true, false, not, IsTrue, List, [], ◌∷◌, map, refl, sym, subst}
use Rattle.std.specs.List.{AllByRecursion}
use Rattle.br_flatimp.specs.declared.program.Cond.{Cond}
use Rattle.br_flatimp.specs.declared.program.Stmt.{Stmt, map-Stmt}
use Rattle.br_flatimp.specs.declared.program.Stmt.TheOpen.{Stmt-F}
use Rattle.br_flatimp.specs.declared.program.Stmt.TheFolds.{fold-roll-Stmt, ind-Stmt}
use Rattle.br_flatimp.specs.Values.{Names}
use Rattle.br_flatimp.specs.Parts.{test_names, operand_names}
use Rattle.br_flatimp.specs.Liveness.{is_in, union, without, Within, Live, Moment, at_test, before}
use Rattle.br_flatimp.specs.Liveness.{before_all, entry, live, live_step, moment, moments, points}
use Rattle.br_flatimp.specs.Renaming.{IsApart}
use Rattle.br_regalloc_check.specs.Accepted.{AreApart, MayRename}
use Rattle.br_regalloc_check.proofs.Lists.{all-split, all-join, or_left, or_right, both_and, not_of}

-- the law of a loop's test: it holds what one more turn hands on
abbrev pub TestHolds : Type 0
TestHolds =
    (first : List Stmt) (test : Cond) (last : List Stmt) (after : Names) →
    Within (union (is_in (test_names test))
    (union after (before_all last (before_all first (at_test (map live first) test (map live last) after)))))
    (at_test (map live first) test (map live last) after)

apart-within : (to : ℕ → ℕ) (small large : Names) → Within small large → AreApart to large → AreApart to small
apart-within to small large w h x alive z also same = h x (w x alive) z (w z also) same

-- ---- one statement

-- what a statement leaves alone stays apart, and what it writes does
after-write : (to : ℕ → ℕ) (before after : Names) (xs : List ℕ) → Within (without after xs) before → AreApart to before
    → ((x : ℕ) → IsTrue (is_in xs x) → IsApart to x after) → AreApart to after
after-write to before after xs w h apart x alive z also same = by (is_in xs x) refl (is_in xs z) refl
  where
    by : (a : Bool) → is_in xs x ≡ a → (b : Bool) → is_in xs z ≡ b → z ≡ x
    by true e b f = apart x e z also same
    by false e true f = sym (apart z f x alive (sym same))
    by false e false f =
        h x (w x (both_and (after x) (not (is_in xs x)) alive (not_of (is_in xs x) e)))
        z (w z (both_and (after z) (not (is_in xs z)) also (not_of (is_in xs z) f))) same

abbrev Keeps : (ℕ → ℕ) → Live → Type 0
Keeps to l =
    (after : Names) → AreApart to (l.before after) → AllByRecursion (MayRename to) (l.moments after)
    → AllByRecursion (AreApart to) (l.points after) × AreApart to after

abbrev Each : (ℕ → ℕ) → Type 0
Each to = (c : Stmt) × Keeps to (live c)

abbrev stmts : (to : ℕ → ℕ) → List (Each to) → List Stmt
stmts to cs = map (λ e. e.0) cs

abbrev lives : (to : ℕ → ℕ) → List (Each to) → List Live
lives to cs = map live (stmts to cs)

all-keep : (to : ℕ → ℕ) (cs : List (Each to)) (end : Names) → AreApart to (entry (lives to cs) end)
    → AllByRecursion (MayRename to) (moments (lives to cs) end)
    → AllByRecursion (AreApart to) (points (lives to cs) end) × AreApart to end
all-keep to [] end h m = ((h, tt), h)
all-keep to (e ∷ cs) end h m =
    let next : Names = entry (lives to cs) end in
    let split = all-split (MayRename to) ((live e.0).moments next) (moments (lives to cs) end) m in
    let one = e.1 next h split.0 in
    let rest = all-keep to cs end one.1 split.1 in
    (all-join (AreApart to) ((live e.0).points next) (points (lives to cs) end) one.0 rest.0, rest.1)

left-in : (a b : Names) → Within a (union a b)
left-in a b x h = or_left (a x) (b x) h

right-in : (a b : Names) → Within b (union a b)
right-in a b x h = or_right (a x) (b x) h

abbrev plain : Names → List ℕ → List ℕ → Names
plain after xs ys = union (without after xs) (is_in ys)

-- a statement with no parts
simple : (to : ℕ → ℕ) (after : Names) (xs ys : List ℕ) (m : Moment) → AreApart to (plain after xs ys)
    → ((x : ℕ) → IsTrue (is_in xs x) → IsApart to x after)
    → AllByRecursion (AreApart to) (plain after xs ys ∷ after ∷ []) × AreApart to after
simple to after xs ys m h apart =
    let later = after-write to (plain after xs ys) after xs (left-in (without after xs) (is_in ys)) h apart in
    ((h, (later, tt)), later)

abbrev opened : (to : ℕ → ℕ) → Stmt-F (Each to) → Stmt-F Stmt
opened to y = map-Stmt (Each to) Stmt (λ e. e.0) y

layer-keeps : (to : ℕ → ℕ) → TestHolds → (y : Stmt-F (Each to))
    → Keeps to (live_step (map-Stmt Stmt Live live (opened to y)))
layer-keeps to law (Stmt-F.Lit x n) after h m = simple to after (x ∷ []) [] (moment (Stmt-F.Lit x n) after) h m.0.apart
layer-keeps to law (Stmt-F.Copy x y) after h m =
    simple to after (x ∷ []) (y ∷ []) (moment (Stmt-F.Copy x y) after) h m.0.apart
layer-keeps to law (Stmt-F.Op x op y z) after h m =
    simple to after (x ∷ []) (y ∷ operand_names z) (moment (Stmt-F.Op x op y z) after) h m.0.apart
layer-keeps to law (Stmt-F.Load x size y offset) after h m =
    simple to after (x ∷ []) (y ∷ []) (moment (Stmt-F.Load x size y offset) after) h m.0.apart
layer-keeps to law (Stmt-F.Store size y z offset) after h m =
    simple to after [] (y ∷ z ∷ []) (moment (Stmt-F.Store size y z offset) after) h m.0.apart
layer-keeps to law (Stmt-F.Table x size bytes y) after h m =
    simple to after (x ∷ []) (y ∷ []) (moment (Stmt-F.Table x size bytes y) after) h m.0.apart
layer-keeps to law (Stmt-F.Stackalloc x n body) after h m =
    let inside : Names = entry (lives to body) after in
    let one = all-keep to body after
    (after-write to (without inside (x ∷ [])) inside (x ∷ []) (λ z k. k) h m.0.apart) m.1 in
    ((h, (one.1, one.0)), one.1)
layer-keeps to law (Stmt-F.If test first second) after h m =
    let tests : Names = is_in (test_names test) in
    let a : Names = entry (lives to first) after in
    let b : Names = entry (lives to second) after in
    let split = all-split (MayRename to) (moments (lives to first) after) (moments (lives to second) after) m.1 in
    let one = all-keep to first after (apart-within to a (union tests (union a b))
    (λ z k. right-in tests (union a b) z (left-in a b z k)) h) split.0 in
    let two = all-keep to second after (apart-within to b (union tests (union a b))
    (λ z k. right-in tests (union a b) z (right-in a b z k)) h) split.1 in (
      (h, (one.1, all-join (AreApart to) (points (lives to first) after) (points (lives to second) after) one.0 two.0)),
      one.1,
    )
layer-keeps to law (Stmt-F.Loop first test last) after h m =
    let t : Names = at_test (lives to first) test (lives to last) after in
    let start : Names = entry (lives to first) t in
    let again : Names = entry (lives to last) start in
    let tests : Names = is_in (test_names test) in
    let split = all-split (MayRename to) (moments (lives to first) t) (moments (lives to last) start) m.1 in
    let one = all-keep to first t h split.0 in
    let holds : Within (union tests (union after again)) t = law (stmts to first) test (stmts to last) after in
    let turn = apart-within to again t
    (λ z k. holds z (right-in tests (union after again) z (right-in after again z k))) one.1 in
    let two = all-keep to last start turn split.1 in
    let out = apart-within to after t
    (λ z k. holds z (right-in tests (union after again) z (left-in after again z k))) one.1 in (
      (
        h,
        (
          out,
          (one.1, all-join (AreApart to) (points (lives to first) t) (points (lives to last) start) one.0 two.0),
        ),
      ),
      out,
    )
layer-keeps to law (Stmt-F.Call xs g ys) after h m =
    simple to after xs ys (moment (Stmt-F.Call xs g ys) after) h m.0.apart
layer-keeps to law (Stmt-F.Read x y) after h m =
    simple to after (x ∷ []) (y ∷ []) (moment (Stmt-F.Read x y) after) h m.0.apart
layer-keeps to law (Stmt-F.Write y z) after h m =
    simple to after [] (y ∷ z ∷ []) (moment (Stmt-F.Write y z) after) h m.0.apart

statement-keeps : (to : ℕ → ℕ) → TestHolds → (c : Stmt) → Keeps to (live c)
statement-keeps to law = ind-Stmt (λ c. Keeps to (live c)) (λ x y is.
    let step = subst (λ z. Keeps to (live_step (map-Stmt Stmt Live live z))) is (layer-keeps to law y) in
    subst (Keeps to) (sym (fold-roll-Stmt Live live_step x)) step)

-- the points of statements, from the start
pub apart-points : (to : ℕ → ℕ) → TestHolds → (cs : List Stmt) (end : Names) → AreApart to (before_all cs end)
    → AllByRecursion (MayRename to) (moments (map live cs) end)
    → AllByRecursion (AreApart to) (points (map live cs) end)
apart-points to law [] end h m = (h, tt)
apart-points to law (c ∷ cs) end h m =
    let next : Names = before_all cs end in
    let split = all-split (MayRename to) ((live c).moments next) (moments (map live cs) end) m in
    let one = statement-keeps to law c next h split.0 in
    all-join (AreApart to) ((live c).points next) (points (map live cs) end) one.0
    (apart-points to law cs end one.1 split.1)

-- ---- the start is a point

abbrev StartsWith : (Names → Type 0) → Live → Type 0
StartsWith P l = (after : Names) → AllByRecursion P (l.points after) → P (l.before after)

starts : (P : Names → Type 0) (c : Stmt) → StartsWith P (live c)
starts P = ind-Stmt (λ c. StartsWith P (live c))
    (λ x y is. subst (StartsWith P) (sym (fold-roll-Stmt Live live_step x)) (λ after h. h.0))

pub start-apart : (to : ℕ → ℕ) (cs : List Stmt) (end : Names) → AllByRecursion (AreApart to) (points (map live cs) end)
    → AreApart to (before_all cs end)
start-apart to [] end h = h.0
start-apart to (c ∷ cs) end h =
    let next : Names = before_all cs end in
    starts (AreApart to) c next (all-split (AreApart to) ((live c).points next) (points (map live cs) end) h).0
