-- Which registers calls may change: none that is live after them, and none that no caller has or may change itself.
use Rattle.std.proofs.Common.{◌≡◌, ◌⊎◌, inl, inr, ℕ, zero, suc, ◌+◌, ◌-◌, ◌<◌, ◌≤◌, nat_lt, Bool, true, false}
use Rattle.std.proofs.Common.{not, ◌&&◌, ◌||◌, ◌==◌, IsTrue, List, [], ◌∷◌, ◌++◌, map, length, drop, get_or, set}
use Rattle.std.proofs.Common.{eqb, Some, get_or-set_same, get_or-set_other, refl, sym, ap, subst, ◌∙◌, arith}
use Rattle.std.specs.Prelude.{slice_get}
use Rattle.std.specs.List.{AllByRecursion, flat_map, list_any}
use Rattle.std.proofs.lemmas.Grind.{common_steps}
use Rattle.std.proofs.lemmas.Bool.Decides.{nat_tests}
use Rattle.std.proofs.lemmas.Bool.{eqb-true, eqb-false}
use denote.Param.Weighed.{most}
use Rattle.br_flatimp.specs.declared.program.Cond.{Cond}
use Rattle.br_flatimp.specs.declared.program.FlatFunc.{FlatFunc}
use Rattle.br_flatimp.specs.declared.program.Stmt.{Stmt}
use Rattle.br_flatimp.specs.declared.program.Stmt.TheOpen.{Stmt-F}
use Rattle.br_flatimp.specs.declared.program.Stmt.TheVariants.{Stackalloc, If, Loop, Call}
use Rattle.br_flatimp.specs.Values.{Names}
use Rattle.br_flatimp.specs.Liveness.{Moment, is_in, nothing, live, before, before_all}
use Rattle.br_flatimp.specs.Liveness.{moments, moment, at_test, function_moments}
use Rattle.br_flatimp.specs.Parts.{written, gathered, own_callees, callees, function_names, statement_names}
use Rattle.br_flatimp.specs.Renaming.{ForgetsDead, ReadsNoForgotten}
use Rattle.br_flatimp.specs.Runs.{Forgets}
use Rattle.br_emit.specs.declared.flow.Flow.{Flow}
use Rattle.br_emit.specs.Registers.{has, handed, own_read, Below, Narrowed, forgets_of}
use Rattle.br_emit.proofs.Own.{moments-stackalloc, moments-if, moments-loop, moments-call}
use Rattle.br_emit.specs.Code.{written_names}
use Rattle.br_emit.proofs.Needing.{in_left, in_right, body_written}
use Rattle.br_emit.proofs.Changes.{changes_at}
use Rattle.br_emit.proofs.Bits.{has-far, has-nothing}
use Rattle.br_emit.proofs.Living.{Says, test_is}

-- ---- lists

pub at_most : {X : Type 0} (size : X → ℕ) (xs : List X) (k : ℕ) (d : X) → k < length xs
    → size (get_or xs k d) ≤ most size xs
at_most size [] k d inside = absurd (omega arith)
at_most size (x ∷ xs) zero d inside = omega arith
at_most size (x ∷ xs) (suc k) d inside = omega (arith, at_most size xs k d (omega arith))

pub drop_next : {X : Type 0} (xs : List X) (k : ℕ) (d : X) → k < length xs → drop k xs ≡ get_or xs k d ∷ drop (k + 1) xs
drop_next xs k d inside = grind (arith, common_steps)

pub drop_all : {X : Type 0} (xs : List X) → drop (length xs) xs ≡ []
drop_all [] = refl
drop_all (x ∷ xs) = drop_all xs

pub all_both : {X : Type 0} (P : X → Type 0) (xs ys : List X) → AllByRecursion P xs → AllByRecursion P ys
    → AllByRecursion P (xs ++ ys)
all_both P [] ys h k = k
all_both P (x ∷ xs) ys h k = (h.0, all_both P xs ys h.1 k)

-- ---- fewer registers

is_false : (b : Bool) → (b ≡ true → false ≡ true) → b ≡ false
is_false true h = sym (h refl)
is_false false h = refl

false_not_true : (b : Bool) → b ≡ false → b ≡ true → false ≡ true
false_not_true b h k = sym h ∙ k

-- what nothing forgets that is dead holds of fewer registers too
dead_one : (f g : Forgets) → ((h x : ℕ) → g h x ≡ true → f h x ≡ true) → (m : Moment) → ForgetsDead f m
    → ForgetsDead g m
dead_one f g less m h = record {
  kept = λ k x callee after written.
      is_false (g k x) (λ e. false_not_true (f k x) (h.kept k x callee after written) (less k x e));
}

pub dead_less : (f g : Forgets) → ((h x : ℕ) → g h x ≡ true → f h x ≡ true) → (ms : List Moment)
    → AllByRecursion (ForgetsDead f) ms → AllByRecursion (ForgetsDead g) ms
dead_less f g less [] h = tt
dead_less f g less (m ∷ ms) h = (dead_one f g less m h.0, dead_less f g less ms h.1)

pub narrowed_twice : (a b c : List ℕ) → Narrowed c b → Narrowed b a → Narrowed c a
narrowed_twice a b c h k g x e = k g x (h g x e)

-- ---- a walk over statements

or_true : (a b : Bool) → IsTrue b → IsTrue (a || b)
or_true true b h = refl
or_true false b h = h

-- what is live at one register before statements, where more is live after them
more_bool : (r k a b : Bool) → (IsTrue a → IsTrue b) → IsTrue (r || (a && k)) → IsTrue (r || (b && k))
more_bool true k a b h e = refl
more_bool false k true b h e = by b (h refl) e
  where
    by : (b : Bool) → IsTrue b → IsTrue k → IsTrue (b && k)
    by true i e = e
    by false i e = absurd (cc)
more_bool false k false b h e = absurd (cc)

pub handed_more : (w : Flow) (a b : Names) (y : ℕ) → (IsTrue (a y) → IsTrue (b y)) → IsTrue (handed w a y)
    → IsTrue (handed w b y)
handed_more w a b y h e = more_bool (has w.reads y) (has w.keeps y) (a y) (b y) h e

-- the set before statements has what is live before them
pub before_below : (w : Flow) (set set' : ℕ) (f : Names → Names)
    → ((after : Names) (x : ℕ) → x < 32 → handed w after x ≡ f after x) → ((x : ℕ) → has set' x ≡ handed w (has set) x)
    → (end : Names) → Below end (has set) → Below (f end) (has set')
before_below w set set' f hands is end h y below e =
    subst IsTrue (sym (is y)) (handed_more w end (has set) y (h y below) (subst IsTrue (sym (hands end y below)) e))

-- the statement before the ones so far
pub next_before : (body : List Stmt) (k : ℕ) (s : Stmt) → 0 < k → k ≤ length body → s ≡ get_or body (k - 1) s
    → drop (k - 1) body ≡ s ∷ drop k body
next_before body k s some inside is =
    let up : k - 1 + 1 ≡ k = omega (arith, some) in
    let here : k - 1 < length body = omega (arith, some, inside) in
    drop_next body (k - 1) s here ∙ ap (λ q. q ∷ drop (k - 1 + 1) body) (sym is) ∙ ap (λ n. s ∷ drop n body) up

-- the set at the test of a loop has what is live there
pub test_below : (s : Stmt) (first : List Stmt) (test : Cond) (last inside1 inside2 : List Stmt) (a b t : Flow) (reads
    after turn : ℕ) → s ≡ Loop first test last → inside1 ≡ first → inside2 ≡ last → Says reads (own_read s)
    → ((after : Names) (y : ℕ) → y < 32 → handed a after y ≡ before_all inside1 after y)
    → ((after : Names) (y : ℕ) → y < 32 → handed b after y ≡ before_all inside2 after y)
    → ((after : Names) (y : ℕ) → y < 32
    → handed t after y ≡ (has reads y || (after y || handed b (handed a nothing) y)))
    → ((y : ℕ) → has turn y ≡ handed t (has after) y)
    → (end : Names) → Below end (has after) → Below (at_test (map live first) test (map live last) end) (has turn)
test_below s first test last inside1 inside2 a b t reads after turn is same1 same2 read part1 part2 tested applied =
    before_below t after turn (at_test (map live first) test (map live last))
    (λ end x below. tested end x below
    ∙ test_is s first test last inside1 inside2 a b reads is same1 same2 read part1 part2 end x below) applied

pub live_step : (body : List Stmt) (k : ℕ) (s : Stmt) (w : Flow) (after set set' : ℕ) → 0 < k → k ≤ length body
    → s ≡ get_or body (k - 1) s
    → ((end : Names) (x : ℕ) → x < 32 → handed w end x ≡ before s end x) → ((x : ℕ) → has set' x ≡ handed w (has set) x)
    → ((end : Names) → Below end (has after) → Below (before_all (drop k body) end) (has set))
    → (end : Names) → Below end (has after) → Below (before_all (drop (k - 1) body) end) (has set')
live_step body k s w after set set' some inside is hands new so_far end h =
    subst (λ (q : List Stmt). Below (before_all q end) (has set')) (sym (next_before body k s some inside is))
    (before_below w set set' (before s) hands new (before_all (drop k body) end) (so_far end h))

pub dead_step : (body : List Stmt) (k : ℕ) (s : Stmt) (after set : ℕ) (sets sets' : List ℕ) → 0 < k → k ≤ length body
    → s ≡ get_or body (k - 1) s → Narrowed sets' sets
    → ((end : Names) → Below end (has set) → AllByRecursion (ForgetsDead (forgets_of sets')) ((live s).moments end))
    → ((end : Names) → Below end (has after) → Below (before_all (drop k body) end) (has set))
    → ((end : Names) → Below end (has after)
    → AllByRecursion (ForgetsDead (forgets_of sets)) (moments (map live (drop k body)) end))
    → (end : Names) → Below end (has after)
    → AllByRecursion (ForgetsDead (forgets_of sets')) (moments (map live (drop (k - 1) body)) end)
dead_step body k s after set sets sets' some inside is less here so_far dead end h =
    subst (λ (q : List Stmt). AllByRecursion (ForgetsDead (forgets_of sets')) (moments (map live q) end))
    (sym (next_before body k s some inside is))
    (all_both (ForgetsDead (forgets_of sets')) ((live s).moments (before_all (drop k body) end))
    (moments (map live (drop k body)) end)
    (here (before_all (drop k body) end) (so_far end h))
    (dead_less (forgets_of sets) (forgets_of sets') less (moments (map live (drop k body)) end) (dead end h)))

-- a moment of no call
pub no_call : (forgets : Forgets) (m : Moment) → m.callees ≡ [] → ForgetsDead forgets m
no_call forgets m none =
    record { kept = λ g x callee after written. none_in g (subst (λ q. IsTrue (is_in q g)) none callee) }
  where
    none_in : {X : Type 0} (g : ℕ) → IsTrue (is_in [] g) → X
    none_in g h = absurd (cc)

pub buffer_dead : (sets : List ℕ) (s : Stmt) (x n : ℕ) (body inside : List Stmt) (end : Names) → s ≡ Stackalloc x n body
    → inside ≡ body
    → AllByRecursion (ForgetsDead (forgets_of sets)) (moments (map live inside) end)
    → AllByRecursion (ForgetsDead (forgets_of sets)) ((live s).moments end)
buffer_dead sets s x n body inside end is same h =
    subst (λ (q : Stmt). AllByRecursion (ForgetsDead (forgets_of sets)) ((live q).moments end)) (sym is)
    (subst (AllByRecursion (ForgetsDead (forgets_of sets))) (sym (moments-stackalloc x n body end)) (
      no_call (forgets_of sets) (moment (Stmt-F.Stackalloc x n (map live body)) end) refl,
      subst (λ (q : List Stmt). AllByRecursion (ForgetsDead (forgets_of sets)) (moments (map live q) end)) same h,
    ))

pub if_dead : (sets sets' : List ℕ) (s : Stmt) (test : Cond) (first second inside1 inside2 : List Stmt) (end : Names)
    → s ≡ If test first second → inside1 ≡ first → inside2 ≡ second → Narrowed sets' sets
    → AllByRecursion (ForgetsDead (forgets_of sets)) (moments (map live inside1) end)
    → AllByRecursion (ForgetsDead (forgets_of sets')) (moments (map live inside2) end)
    → AllByRecursion (ForgetsDead (forgets_of sets')) ((live s).moments end)
if_dead sets sets' s test first second inside1 inside2 end is same1 same2 less h k =
    let P : Moment → Type 0 = ForgetsDead (forgets_of sets') in
    let one = dead_less (forgets_of sets) (forgets_of sets') less (moments (map live first) end) (subst
    (λ (q : List Stmt). AllByRecursion (ForgetsDead (forgets_of sets)) (moments (map live q) end)) same1 h) in
    let other = subst (λ (q : List Stmt). AllByRecursion P (moments (map live q) end)) same2 k in
    subst (λ (q : Stmt). AllByRecursion P ((live q).moments end)) (sym is)
    (subst (AllByRecursion P) (sym (moments-if test first second end)) (
      no_call (forgets_of sets') (moment (Stmt-F.If test (map live first) (map live second)) end) refl,
      all_both P (moments (map live first) end) (moments (map live second) end) one other,
    ))

pub loop_dead : (sets sets' : List ℕ) (s : Stmt) (first : List Stmt) (test : Cond) (last inside1 inside2 : List Stmt)
    (end : Names) → s ≡ Loop first test last → inside1 ≡ first → inside2 ≡ last → Narrowed sets' sets
    → AllByRecursion (ForgetsDead (forgets_of sets))
    (moments (map live inside1) (at_test (map live first) test (map live last) end))
    → AllByRecursion (ForgetsDead (forgets_of sets'))
    (moments (map live inside2) (before_all first (at_test (map live first) test (map live last) end)))
    → AllByRecursion (ForgetsDead (forgets_of sets')) ((live s).moments end)
loop_dead sets sets' s first test last inside1 inside2 end is same1 same2 less h k =
    let P : Moment → Type 0 = ForgetsDead (forgets_of sets') in
    let at : Names = at_test (map live first) test (map live last) end in
    let one = dead_less (forgets_of sets) (forgets_of sets') less (moments (map live first) at)
    (subst (λ (q : List Stmt). AllByRecursion (ForgetsDead (forgets_of sets)) (moments (map live q) at)) same1 h) in
    let other = subst (λ (q : List Stmt). AllByRecursion P (moments (map live q) (before_all first at))) same2 k in
    subst (λ (q : Stmt). AllByRecursion P ((live q).moments end)) (sym is)
    (subst (AllByRecursion P) (sym (moments-loop first test last end)) (
      no_call (forgets_of sets') (moment (Stmt-F.Loop (map live first) test (map live last)) end) refl,
      all_both P (moments (map live first) at) (moments (map live last) (before_all first at)) one other,
    ))

-- what is live after a call, and no result of it, is taken out of the set of the function that is called
pub call_dead : (sets : List ℕ) (s : Stmt) (xs : List ℕ) (g : ℕ) (ys passed : List ℕ) (taken results after : ℕ)
    (end : Names) → s ≡ Call xs g ys → passed ≡ xs
    → ((y : ℕ) → y < 32 → has results y ≡ is_in passed y)
    → ((y : ℕ) → has taken y ≡ (has after y && not (has results y)))
    → ((y : ℕ) → has taken y ≡ true → forgets_of sets g y ≡ false)
    → Below end (has after) → AllByRecursion (ForgetsDead (forgets_of sets)) ((live s).moments end)
call_dead sets s xs g ys passed taken results after end is same says without_is spared below =
    subst (λ (q : Stmt). AllByRecursion (ForgetsDead (forgets_of sets)) ((live q).moments end)) (sym is)
    (subst (AllByRecursion (ForgetsDead (forgets_of sets))) (sym (moments-call xs g ys end))
    (record { kept = λ h x callee live_after written. kept h x (g == h) refl callee live_after written }, tt))
  where
    far : (h x : ℕ) (t : Bool) → nat_lt x 32 ≡ t → end x ≡ true → is_in xs x ≡ false → forgets_of sets g x ≡ false
    far h x true e live_after written =
        let near : x < 32 = grind (arith, nat_tests) in
        let has_after : has after x ≡ true =
        is_true (has after x) (below x near (subst IsTrue (sym live_after) refl)) in
        let no_result : has results x ≡ false = says x near ∙ ap (λ (q : List ℕ). is_in q x) same ∙ written in
        spared x (without_is x ∙ ap (λ b. b && not (has results x)) has_after ∙ ap not no_result)
      where
        is_true : (b : Bool) → IsTrue b → b ≡ true
        is_true true h = refl
        is_true false h = absurd (cc)
    far h x false e live_after written =
        let away : 32 ≤ x = grind (arith, nat_tests) in
        has-far (get_or sets g 0) x away

    kept : (h x : ℕ) (t : Bool) → (g == h) ≡ t → IsTrue (t || false) → IsTrue (end x) → is_in xs x ≡ false
        → forgets_of sets h x ≡ false
    kept h x true e callee live_after written =
        let same_function : g ≡ h = grind (arith, nat_tests) in
        subst (λ k. forgets_of sets k x ≡ false) same_function
        (far h x (nat_lt x 32) refl (true_of (end x) live_after) written)
      where
        true_of : (b : Bool) → IsTrue b → b ≡ true
        true_of true h = refl
        true_of false h = absurd (cc)
    kept h x false e callee live_after written = absurd (cc)

-- ---- functions

-- functions from the i-th on read nothing forgotten, and so do those before them
pub noted_step : (fs : List FlatFunc) (i : ℕ) (f : FlatFunc) (sets sets' : List ℕ) → i < length fs → f ≡ get_or fs i f
    → Narrowed sets' sets → AllByRecursion (ForgetsDead (forgets_of sets')) (function_moments f)
    → ((later : List ℕ) → Narrowed later sets → ReadsNoForgotten (forgets_of later) (drop i fs)
    → ReadsNoForgotten (forgets_of later) fs)
    → (later : List ℕ) → Narrowed later sets' → ReadsNoForgotten (forgets_of later) (drop (i + 1) fs)
    → ReadsNoForgotten (forgets_of later) fs
noted_step fs i f sets sets' inside is less dead so_far later narrowed rest =
    so_far later (narrowed_twice sets sets' later narrowed less)
    (subst (ReadsNoForgotten (forgets_of later))
    (sym (drop_next fs i f inside ∙ ap (λ (q : FlatFunc). q ∷ drop (i + 1) fs) (sym is)))
    (dead_less (forgets_of sets') (forgets_of later) narrowed (function_moments f) dead, rest))

pub reads_less : (sets later : List ℕ) (fs : List FlatFunc) → Narrowed later sets
    → ReadsNoForgotten (forgets_of sets) fs → ReadsNoForgotten (forgets_of later) fs
reads_less sets later [] less h = tt
reads_less sets later (f ∷ fs) less h =
    (dead_less (forgets_of sets) (forgets_of later) less (function_moments f) h.0, reads_less sets later fs less h.1)

-- the functions from the n-th on allow what their callees may change
abbrev pub ClosedFrom : List ℕ → List FlatFunc → ℕ → Type 0
ClosedFrom sets fs n =
    (k : ℕ) (f : FlatFunc) → n ≤ k → slice_get fs k ≡ Some f → (g : ℕ) → is_in (callees f) g ≡ true
    → (x : ℕ) → forgets_of sets g x ≡ true → (forgets_of sets k x || is_in (function_names f) x) ≡ true

not_beyond : (gs : List FlatFunc) (k : ℕ) (f : FlatFunc) → slice_get gs k ≡ Some f → length gs ≤ k → ⊥
not_beyond [] k f there few = absurd (cc)
not_beyond (h ∷ gs) zero f there few = absurd (omega (arith, few))
not_beyond (h ∷ gs) (suc k) f there few = not_beyond gs k f there (omega (arith, few))

pub closed_nothing : (sets : List ℕ) (fs : List FlatFunc) (n : ℕ) → length fs ≤ n → ClosedFrom sets fs n
closed_nothing sets fs n few k f from there g callee x e = absurd (not_beyond fs k f there (omega (arith, few, from)))

get_there : (fs : List FlatFunc) (k : ℕ) (f d : FlatFunc) → slice_get fs k ≡ Some f → get_or fs k d ≡ f
get_there [] k f d there = absurd (cc)
get_there (h ∷ fs) zero f d there = cc
get_there (h ∷ fs) (suc k) f d there = get_there fs k f d there

pub closed_step : (sets : List ℕ) (fs : List FlatFunc) (n : ℕ) (f : FlatFunc) → f ≡ get_or fs n f
    → ((g : ℕ) → is_in (callees f) g ≡ true → (x : ℕ) → forgets_of sets g x ≡ true
    → (forgets_of sets n x || is_in (function_names f) x) ≡ true)
    → ClosedFrom sets fs (n + 1) → ClosedFrom sets fs n
closed_step sets fs n f is within later k h from there g callee x e = by (n == k) refl
  where
    by : (t : Bool) → (n == k) ≡ t → (forgets_of sets k x || is_in (function_names h) x) ≡ true
    by true same =
        let number : n ≡ k = grind (arith, nat_tests) in
        let here : f ≡ h = is ∙ get_there fs n h f (subst (λ q. slice_get fs q ≡ Some h) (sym number) there) in
        subst (λ q. (forgets_of sets q x || is_in (function_names h) x) ≡ true) number
        (subst (λ (q : FlatFunc). (forgets_of sets n x || is_in (function_names q) x) ≡ true) here
        (within g (subst (λ (q : FlatFunc). is_in (callees q) g ≡ true) (sym here) callee) x e))
    by false other =
        later k h (let apart : (n ≡ k → ⊥) = differ n k other in omega (arith, from, apart)) there g callee x e
      where
        differ : (a b : ℕ) → (a == b) ≡ false → a ≡ b → ⊥
        differ a b e s = absurd (grind (arith, nat_tests))

-- what is in both truths
pub both_true : (a b : Bool) → (a && b) ≡ true → (a ≡ true) × (b ≡ true)
both_true true true h = (refl, refl)
both_true true false h = absurd (cc)
both_true false b h = absurd (cc)

pub in_either : (xs ys : List ℕ) (x : ℕ) → is_in (xs ++ ys) x ≡ true → (is_in xs x ≡ true) ⊎ (is_in ys x ≡ true)
in_either [] ys x h = inr h
in_either (y ∷ xs) ys x h = by (y == x) h (in_either xs ys x)
  where
    by : (t : Bool) → (t || is_in (xs ++ ys) x) ≡ true → (is_in (xs ++ ys) x ≡ true
        → (is_in xs x ≡ true) ⊎ (is_in ys x ≡ true)) → ((t || is_in xs x) ≡ true) ⊎ (is_in ys x ≡ true)
    by true h again = inl refl
    by false h again = again h

-- what calls of functions may change is allowed
abbrev pub Within : List ℕ → ℕ → List ℕ → Type 0
Within sets allowed calls = (g : ℕ) → is_in calls g ≡ true → (x : ℕ) → forgets_of sets g x ≡ true → has allowed x ≡ true

pub within_both : (before sets : List ℕ) (allowed : ℕ) (c c' : List ℕ) → sets ≡ before → Within before allowed c
    → Within sets allowed c' → Within before allowed (c ++ c')
within_both before sets allowed c c' same one other g callee x e = by (in_either c c' g callee)
  where
    by : (is_in c g ≡ true) ⊎ (is_in c' g ≡ true) → has allowed x ≡ true
    by (inl h) = one g h x e
    by (inr h) = other g h x (subst (λ q. forgets_of q g x ≡ true) (sym same) e)

-- what is left to look at is allowed, so all is
pub within_step : (body : List Stmt) (i : ℕ) (s : Stmt) (before sets : List ℕ) (allowed : ℕ) → i < length body
    → s ≡ get_or body i s → sets ≡ before → Within sets allowed (gathered own_callees s)
    → Within before allowed (flat_map (gathered own_callees) (drop (i + 1) body))
    → Within before allowed (flat_map (gathered own_callees) (drop i body))
within_step body i s before sets allowed inside is same one rest =
    let now = subst (λ q. Within q allowed (gathered own_callees s)) same one in
    subst (λ (q : List Stmt). Within before allowed (flat_map (gathered own_callees) q))
    (sym (drop_next body i s inside ∙ ap (λ (q : Stmt). q ∷ drop (i + 1) body) (sym is)))
    (within_both before before allowed (gathered own_callees s) (flat_map (gathered own_callees) (drop (i + 1) body))
    refl now rest)

-- a set emptied
pub emptied : (sets : List ℕ) (k : ℕ) → k < length sets → ((g x : ℕ) → g < k → forgets_of sets g x ≡ false) → (g x : ℕ)
    → g < k + 1 → forgets_of (set sets k 0) g x ≡ false
emptied sets k inside before g x less = by (eqb g k) refl
  where
    by : (t : Bool) → eqb g k ≡ t → forgets_of (set sets k 0) g x ≡ false
    by true e =
        let same : g ≡ k = eqb-true g k e in
        ap (λ n. has (get_or (set sets k 0) n 0) x) same ∙ ap (λ n. has n x) (get_or-set_same sets k 0 0 inside)
        ∙ has-nothing x
    by false e =
        let other = eqb-false g k e in
        ap (λ n. has n x) (get_or-set_other sets k g 0 0 other) ∙ before g x (omega (arith, less, other))

get_beyond : (xs : List ℕ) (g : ℕ) → length xs ≤ g → get_or xs g 0 ≡ 0
get_beyond [] g far = refl
get_beyond (x ∷ xs) zero far = absurd (omega (arith, far))
get_beyond (x ∷ xs) (suc g) far = get_beyond xs g (omega (arith, far))

pub all_emptied : (sets : List ℕ) (k : ℕ) → length sets ≤ k → ((g x : ℕ) → g < k → forgets_of sets g x ≡ false)
    → (g x : ℕ) → forgets_of sets g x ≡ false
all_emptied sets k far before g x = by (nat_lt g k) refl
  where
    by : (t : Bool) → nat_lt g k ≡ t → forgets_of sets g x ≡ false
    by true e = let less : g < k = grind (arith, nat_tests) in before g x less
    by false e =
        let beyond : k ≤ g = grind (arith, nat_tests) in
        ap (λ n. has n x) (get_beyond sets g (omega (arith, far, beyond))) ∙ has-nothing x

-- the names of a function, by the set of its arguments and what it writes
pub names_in : (f : FlatFunc) (args : List ℕ) (inside : List Stmt) (all a w : ℕ) → args ≡ f.args → inside ≡ f.body
    → ((x : ℕ) → has all x ≡ (has a x || has w x)) → ((x : ℕ) → x < 32 → has a x ≡ is_in args x)
    → ((x : ℕ) → x < 32 → has w x
    ≡ changes_at (forgets_of []) (flat_map (gathered written) inside) (flat_map (gathered own_callees) inside) x)
    → (x : ℕ) → has all x ≡ true → is_in (function_names f) x ≡ true
names_in f args inside all a w args_are body_is joined passed changed x h = by (nat_lt x 32) refl
  where
    none : (gs : List ℕ) → list_any (λ g. forgets_of [] g x) gs ≡ false
    none [] = refl
    none (g ∷ gs) = ap (λ b. b || list_any (λ k. forgets_of [] k x) gs) (has-nothing x) ∙ none gs

    or_none : (b : Bool) → (b || false) ≡ b
    or_none true = refl
    or_none false = refl

    either : (p q : Bool) → is_in f.args x ≡ p → is_in (written_names f) x ≡ q → (p || q) ≡ true
        → is_in (function_names f) x ≡ true
    either true q e k t =
        in_left (f.args ++ f.results) (flat_map statement_names f.body) x (in_left f.args f.results x e)
    either false true e k t =
        in_right (f.args ++ f.results) (flat_map statement_names f.body) x (body_written x f.body k)
    either false false e k t = absurd (cc)

    by : (t : Bool) → nat_lt x 32 ≡ t → is_in (function_names f) x ≡ true
    by true e =
        let near : x < 32 = grind (arith, nat_tests) in
        let writes : has w x ≡ is_in (written_names f) x =
        changed x near
        ∙ ap (λ (q : List Stmt).
        changes_at (forgets_of []) (flat_map (gathered written) q) (flat_map (gathered own_callees) q) x) body_is
        ∙ ap (λ b. is_in (written_names f) x || b) (none (callees f)) ∙ or_none (is_in (written_names f) x) in
        either (is_in f.args x) (is_in (written_names f) x) refl refl
        (sym (joined x ∙ ap (λ b. b || has w x) (passed x near ∙ ap (λ q. is_in q x) args_are)
        ∙ ap (λ b. is_in f.args x || b) writes) ∙ h)
    by false e = let far : 32 ≤ x = grind (arith, nat_tests) in absurd (clash (sym (has-far all x far) ∙ h))
      where
        clash : false ≡ true → ⊥
        clash e = absurd (cc)

-- what is allowed to callees is in the set of a function or a name of it
pub owned : (sets : List ℕ) (n : ℕ) (f : FlatFunc) (own set names x : ℕ) → set ≡ get_or sets n 0
    → has own x ≡ (has set x || has names x) → (has names x ≡ true → is_in (function_names f) x ≡ true)
    → has own x ≡ true → (forgets_of sets n x || is_in (function_names f) x) ≡ true
owned sets n f own set names x at joined named h =
    by (forgets_of sets n x) (has names x) refl (sym (joined ∙ ap (λ q. has q x || has names x) at) ∙ h)
  where
    by : (a b : Bool) → has names x ≡ b → (a || b) ≡ true → (a || is_in (function_names f) x) ≡ true
    by true b e t = refl
    by false true e t = named e
    by false false e t = absurd (cc)
