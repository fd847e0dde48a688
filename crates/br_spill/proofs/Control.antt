-- Conditionals, loops and buffers in register form, round bodies that follow.
use Rattle.std.proofs.Common.{◌≡◌, ℕ, zero, suc, ◌+◌, ◌%◌, ◌^◌, ◌<◌, ◌≤◌, ◌==◌, ◌&&◌, nat_le}
use Rattle.std.proofs.Common.{nat_lt, Bool, true, false, List, [], ◌∷◌, ◌++◌, length, Option}
use Rattle.std.proofs.Common.{Some, None, inl, inr, refl, sym, ap, subst, ◌∙◌, arith}
use Rattle.std.specs.FinMap as map
use Rattle.std.proofs.lemmas.Bool.Decides.{nat_tests}
use Rattle.br_words.specs.Layout.{stack_base, stack_end}
use Rattle.br_bytes.specs.declared.run.Choice.{Choice}
use Rattle.br_bytes.specs.Memory.{Memory, place, with_bytes}
use Rattle.br_bytes.specs.Buffers.{AreChoices, are_free, is_good}
use Rattle.br_bytes.specs.Runs.{OutOfFuel, Undefined, Goes, Ends, then_do}
use Rattle.br_bytes.specs.Runs.{with_defined, choose, with_fuel, with_buffer, loop}
use Rattle.br_bytes.proofs.Effects.{by_place}
use Rattle.br_flatimp.specs.declared.program.Cond.{Cond}
use Rattle.br_flatimp.specs.declared.program.Cond.TheVariants.{NonZero, Compare}
use Rattle.br_flatimp.specs.declared.program.Rel.{Rel}
use Rattle.br_flatimp.specs.declared.program.Stmt.{Stmt}
use Rattle.br_flatimp.specs.declared.program.Stmt.TheOpen.{Stmt-F}
use Rattle.br_flatimp.specs.declared.program.Stmt.TheViews.{roll-Stmt}
use Rattle.br_flatimp.specs.Parts.{test_names}
use Rattle.br_flatimp.specs.Values.{Locals, with_local, compared, test_word}
use Rattle.br_flatimp.specs.WellFormed.{are_below}
use Rattle.br_flatimp.specs.Runs.{State, Run, Callee}
use Rattle.br_flatimp.proofs.Given.{then-then}
use Rattle.br_spill.specs.Spill.{at, keep, bring, bring_test, test_at}
use Rattle.br_spill.proofs.Follows.{given, Follows, follows-same, follows-from, follows-goes, follows-undefined}
use Rattle.br_spill.proofs.Follows.{follows-ends, follows-then, follows-source, follows-choose, follows-with_fuel}
use Rattle.br_spill.proofs.Follows.{then-goes, begun, taken_back, IsChoice, follows-with_buffer}
use Rattle.br_spill.proofs.Extra.{Extra, Extends, with_bytes-both, extends-free, free-none, without-both}
use Rattle.br_spill.proofs.Scene.{Scene, At, at-shown}
use Rattle.br_spill.proofs.Pieces.{does, does-append, does-after, does-first, acts, defined}
use Rattle.br_spill.proofs.Pieces.{brought, at-not_five, and-first, and-second, below}
use Rattle.br_spill.proofs.Straight.{keep-runs}

pub does-one : (call : Callee) (y : Stmt-F Stmt) (s : State) → does call (roll-Stmt y ∷ []) s ≡ acts call y s
does-one call y s = does-first call y [] s ∙ then-goes (acts call y s)

-- ---- tests

-- a run after which a test has a word
pub record Tested (g : Scene) (f : State → Run) (test : Cond) (s t : State) (v : ℕ) : Type 0 where
  pub locals : Locals
  pub runs : f s ≡ Goes (record s { locals = locals })
  pub word : test_word test locals ≡ Some v
  pub related : At g (record s { locals = locals }) t

record Compared (rel : Rel) (o p : Option ℕ) (v : ℕ) : Type 0 where
  one : ℕ
  two : ℕ
  first : o ≡ Some one
  second : p ≡ Some two
  is : compared rel (Some one) (Some two) ≡ Some v

compared-some : (rel : Rel) (o p : Option ℕ) (v : ℕ) → compared rel o p ≡ Some v → Compared rel o p v
compared-some rel None p v e = absurd (cc e)
compared-some rel (Some a) None v e = absurd (cc e)
compared-some rel (Some a) (Some b) v e = record { one = a; two = b; first = refl; second = refl; is = e }

compared-same : (rel : Rel) (o p q r : Option ℕ) → o ≡ q → p ≡ r → compared rel o p ≡ compared rel q r
compared-same rel o p q r e f = ap (λ x. compared rel x p) e ∙ ap (compared rel q) f

pub tested : (g : Scene) (call : Callee) (test : Cond) (s t : State) (v : ℕ)
    → are_below g.names (test_names test) ≡ true → At g s t → test_word test t.locals ≡ Some v
    → Tested g (does call (bring_test g.layout test)) (test_at g.layout test) s t v
tested g call (NonZero y) s t v inside h is =
    let r = brought g call s t h y v 4 (below y g.names (and-first (nat_lt y g.names) true inside)) is (omega arith)
    (omega arith) in
    record { locals = r.locals; runs = r.runs; word = r.value; related = r.related }
tested g call (Compare rel y z) s t v inside h is =
    let c = compared-some rel (t.locals y) (t.locals z) v is in
    let under = below y g.names (and-first (nat_lt y g.names) (are_below g.names (z ∷ [])) inside) in
    let within = below z g.names
    (and-first (nat_lt z g.names) true (and-second (nat_lt y g.names) (are_below g.names (z ∷ [])) inside)) in
    let one = brought g call s t h y c.one 4 under c.first (omega arith) (omega arith) in
    let u : State = record s { locals = one.locals } in
    let two = brought g call u t one.related z c.two 5 within c.second (omega arith) (omega arith) in
    record {
      locals = two.locals;
      runs = does-after call (bring (g.layout.place y) 4) (bring (g.layout.place z) 5) s u one.runs ∙ two.runs;
      word =
          compared-same rel (two.locals (at (g.layout.place y) 4)) (two.locals (at (g.layout.place z) 5)) (Some c.one)
          (Some c.two) (two.others (at (g.layout.place y) 4) (at-not_five g y under) ∙ one.value) two.value ∙ c.is;
      related = two.related;
    }

-- ---- conditionals

pub if-follows : (g : Scene) (call : Callee) (test : Cond) (first second : List Stmt) (f f2 : State → Run) (s t : State)
    → are_below g.names (test_names test) ≡ true
    → ((u v : State) → At g u v → Follows (At g) (does call first u) (λ ds. f (given v ds)))
    → ((u v : State) → At g u v → Follows (At g) (does call second u) (λ ds. f2 (given v ds))) → At g s t
    → Follows (At g)
    (does call (bring_test g.layout test ++ roll-Stmt (Stmt-F.If (test_at g.layout test) first second) ∷ []) s)
    (λ ds.
    with_defined (test_word test t.locals) (given t ds) (λ v. choose (v == 0) (f2 (given t ds)) (f (given t ds))))
if-follows g call test first second f f2 s t inside one two h =
    let last : Stmt-F Stmt = Stmt-F.If (test_at g.layout test) first second in
    let q = does call (bring_test g.layout test ++ roll-Stmt last ∷ []) s in
    follows-source (At g) q (test_word test t.locals) t
    (λ ds v. choose (v == 0) (f2 (given t ds)) (f (given t ds))) (λ v is.
    let r = tested g call test s t v inside h is in
    let u : State = record s { locals = r.locals } in
    follows-from (At g) q (choose (v == 0) (does call second u) (does call first u))
    (λ ds. choose (v == 0) (f2 (given t ds)) (f (given t ds)))
    (does-after call (bring_test g.layout test) (roll-Stmt last ∷ []) s u r.runs ∙ does-one call last u
    ∙ defined (test_word (test_at g.layout test) u.locals) v u
    (λ v. choose (v == 0) (does call second u) (does call first u)) r.word)
    (follows-choose (At g) (v == 0) (does call second u) (does call first u) (λ ds. f2 (given t ds))
    (λ ds. f (given t ds)) (λ e. two u t r.related) (λ e. one u t r.related)))

-- ---- loops

at-fuel : (g : Scene) (s t : State) (k : ℕ) → At g s t → At g (record s { fuel = k }) (record t { fuel = k })
at-fuel g s t k h = record {
  extra = h.extra;
  outside = record {
    memory = h.outside.memory;
    trace = h.outside.trace;
    answers = h.outside.answers;
    words = h.outside.words;
    choices = h.outside.choices;
    fuel = refl;
  };
  inner = h.inner;
  others = h.others;
  base = h.base;
  held = h.held;
}

loop-undefined : (n : ℕ) (val : State → Option ℕ) (body : State → Run) (t : State) → val t ≡ None
    → loop n val body t ≡ Ends Undefined t
loop-undefined zero val body t e = ap (λ o. with_defined o t (λ v. choose (v == 0) (Goes t) (Ends OutOfFuel t))) e
loop-undefined (suc n) val body t e =
    ap (λ o. with_defined o t (λ v. choose (v == 0) (Goes t) (with_fuel t (λ u. then_do (body u) (loop n val body))))) e

-- the test and the turns of a loop, where the words of the test are brought at the end of its first part
turns-follow : (g : Scene) (call : Callee) (test : Cond) (first last : List Stmt) (f f2 : State → Run)
    → are_below g.names (test_names test) ≡ true
    → ((u v : State) → At g u v → Follows (At g) (does call first u) (λ ds. f (given v ds)))
    → ((u v : State) → At g u v → Follows (At g) (does call last u) (λ ds. f2 (given v ds)))
    → (bound : ℕ) (s t : State) → At g s t
    → Follows (At g)
    (then_do (does call (bring_test g.layout test) s) (loop bound (λ w. test_word (test_at g.layout test) w.locals)
    (λ w. then_do (does call last w) (does call (first ++ bring_test g.layout test)))))
    (λ ds. loop bound (λ w. test_word test w.locals) (λ w. then_do (f2 w) f) (given t ds))
turns-follow g call test first last f f2 inside one two zero s t h =
    let val : State → Option ℕ = λ w. test_word (test_at g.layout test) w.locals in
    let turn : State → Run = λ w. then_do (does call last w) (does call (first ++ bring_test g.layout test)) in
    let q = then_do (does call (bring_test g.layout test) s) (loop 0 val turn) in
    follows-source (At g) q (test_word test t.locals) t
    (λ ds v. choose (v == 0) (Goes (given t ds)) (Ends OutOfFuel (given t ds))) (λ v is.
    let r = tested g call test s t v inside h is in
    let u : State = record s { locals = r.locals } in
    follows-from (At g) q (choose (v == 0) (Goes u) (Ends OutOfFuel u))
    (λ ds. choose (v == 0) (Goes (given t ds)) (Ends OutOfFuel (given t ds)))
    (ap (λ o. then_do o (loop 0 val turn)) r.runs
    ∙ defined (val u) v u (λ v. choose (v == 0) (Goes u) (Ends OutOfFuel u)) r.word)
    (follows-choose (At g) (v == 0) (Goes u) (Ends OutOfFuel u) (λ ds. Goes (given t ds))
    (λ ds. Ends OutOfFuel (given t ds))
    (λ e. follows-goes (At g) u t r.related) (λ e. inr (follows-ends (At g) OutOfFuel u t (at-shown g u t r.related)))))
turns-follow g call test first last f f2 inside one two (suc bound) s t h =
    let brings = bring_test g.layout test in
    let val : State → Option ℕ = λ w. test_word (test_at g.layout test) w.locals in
    let turn : State → Run = λ w. then_do (does call last w) (does call (first ++ brings)) in
    let other : State → Run = λ w. then_do (f2 w) f in
    let again : State → Run = λ w. then_do (turn w) (loop bound val turn) in
    let rest : State → Run = loop bound (λ w. test_word test w.locals) other in
    let others : State → Run = λ w. then_do (other w) rest in
    let q = then_do (does call brings s) (loop (suc bound) val turn) in
    follows-source (At g) q (test_word test t.locals) t
    (λ ds v. choose (v == 0) (Goes (given t ds)) (with_fuel (given t ds) others)) (λ v is.
    let r = tested g call test s t v inside h is in
    let u : State = record s { locals = r.locals } in
    follows-from (At g) q (choose (v == 0) (Goes u) (with_fuel u again))
    (λ ds. choose (v == 0) (Goes (given t ds)) (with_fuel (given t ds) others))
    (ap (λ o. then_do o (loop (suc bound) val turn)) r.runs
    ∙ defined (val u) v u (λ v. choose (v == 0) (Goes u) (with_fuel u again)) r.word)
    (follows-choose (At g) (v == 0) (Goes u) (with_fuel u again) (λ ds. Goes (given t ds))
    (λ ds. with_fuel (given t ds) others)
    (λ e. follows-goes (At g) u t r.related) (λ e.
    follows-with_fuel (At g) u t again others r.related.outside.fuel (at-shown g u t r.related) (λ k has.
    let a : State = record u { fuel = k } in
    let b : State = record t { fuel = k } in
    let ends : State → Run = λ w. then_do (does call (first ++ brings) w) (loop bound val turn) in
    let opens : State → Run = λ w. then_do (f w) rest in
    follows-from (At g) (again a) (then_do (does call last a) ends) (λ ds. others (given b ds))
    (then-then (does call last a) (does call (first ++ brings)) (loop bound val turn))
    (follows-same (At g) (then_do (does call last a) ends) (λ ds. others (given b ds))
    (λ ds. then_do (f2 (given b ds)) opens) (λ ds. then-then (f2 (given b ds)) f rest)
    (follows-then (At g) (At g) (does call last a) (λ ds. f2 (given b ds)) ends opens
    (two a b (at-fuel g u t k r.related)) (λ x y i.
    let tests : State → Run = λ w. then_do (does call brings w) (loop bound val turn) in
    follows-from (At g) (ends x) (then_do (does call first x) tests) (λ ds. opens (given y ds))
    (ap (λ o. then_do o (loop bound val turn)) (does-append call first brings x)
    ∙ then-then (does call first x) (does call brings) (loop bound val turn))
    (follows-then (At g) (At g) (does call first x) (λ ds. f (given y ds)) tests rest (one x y i)
    (λ x y j. turns-follow g call test first last f f2 inside one two bound x y j)))))))))

pub loop-follows : (g : Scene) (call : Callee) (test : Cond) (first last : List Stmt) (f f2 : State → Run)
    → are_below g.names (test_names test) ≡ true
    → ((u v : State) → At g u v → Follows (At g) (does call first u) (λ ds. f (given v ds)))
    → ((u v : State) → At g u v → Follows (At g) (does call last u) (λ ds. f2 (given v ds)))
    → (s t : State) → At g s t
    → Follows (At g)
    (does call (roll-Stmt (Stmt-F.Loop (first ++ bring_test g.layout test) (test_at g.layout test) last) ∷ []) s)
    (λ ds. then_do (f (given t ds)) (λ u. loop u.fuel (λ w. test_word test w.locals) (λ w. then_do (f2 w) f) u))
loop-follows g call test first last f f2 inside one two s t h =
    let brings = bring_test g.layout test in
    let y : Stmt-F Stmt = Stmt-F.Loop (first ++ brings) (test_at g.layout test) last in
    let val : State → Option ℕ = λ w. test_word (test_at g.layout test) w.locals in
    let turn : State → Run = λ w. then_do (does call last w) (does call (first ++ brings)) in
    let whole : State → Run = λ u. loop u.fuel val turn u in
    let rest : State → Run = λ u. loop u.fuel (λ w. test_word test w.locals) (λ w. then_do (f2 w) f) u in
    let tests : State → Run = λ w. then_do (does call brings w) whole in
    follows-from (At g) (does call (roll-Stmt y ∷ []) s) (then_do (does call first s) tests)
    (λ ds. then_do (f (given t ds)) rest)
    (does-one call y s ∙ ap (λ o. then_do o whole) (does-append call first brings s)
    ∙ then-then (does call first s) (does call brings) whole)
    (follows-then (At g) (At g) (does call first s) (λ ds. f (given t ds)) tests rest (one s t h)
    (λ x y i. starts x y i (test_word test y.locals) refl))
  where
    starts : (x y : State) → At g x y → (o : Option ℕ) → test_word test y.locals ≡ o
        → Follows (At g) (then_do
        (does call (bring_test g.layout test) x) (λ u. loop u.fuel (λ w. test_word (test_at g.layout test) w.locals)
        (λ w. then_do (does call last w) (does call (first ++ bring_test g.layout test))) u))
        (λ ds. loop y.fuel (λ w. test_word test w.locals) (λ w. then_do (f2 w) f) (given y ds))
    starts x y i None e =
        let q = then_do
        (does call (bring_test g.layout test) x) (λ u. loop u.fuel (λ w. test_word (test_at g.layout test) w.locals)
        (λ w. then_do (does call last w) (does call (first ++ bring_test g.layout test))) u) in
        follows-same (At g) q (λ ds. loop y.fuel (λ w. test_word test w.locals) (λ w. then_do (f2 w) f) (given y ds))
        (λ ds. Ends Undefined (given y ds))
        (λ ds. loop-undefined y.fuel (λ w. test_word test w.locals) (λ w. then_do (f2 w) f) (given y ds) e)
        (follows-undefined (At g) q y)
    starts x y i (Some v) e =
        let brings = bring_test g.layout test in
        let val : State → Option ℕ = λ w. test_word (test_at g.layout test) w.locals in
        let turn : State → Run = λ w. then_do (does call last w) (does call (first ++ brings)) in
        let r = tested g call test x y v inside i e in
        let u : State = record x { locals = r.locals } in
        follows-from (At g) (then_do (does call brings x) (λ u. loop u.fuel val turn u))
        (then_do (does call brings x) (loop y.fuel val turn))
        (λ ds. loop y.fuel (λ w. test_word test w.locals) (λ w. then_do (f2 w) f) (given y ds))
        (ap (λ o. then_do o (λ u. loop u.fuel val turn u)) r.runs ∙ ap (λ n. loop n val turn u) i.outside.fuel
        ∙ sym (ap (λ o. then_do o (loop y.fuel val turn)) r.runs))
        (turns-follow g call test first last f f2 inside one two y.fuel x y i)

-- ---- buffers

-- what a choice that is good says
pub record Good (n : ℕ) (m : Memory) (c : Choice) : Type 0 where
  pub count : length c.bytes ≡ n
  pub low : stack_base ≤ c.addr
  pub high : c.addr + n ≤ stack_end
  pub free : are_free m c.addr c.bytes ≡ true

five : (a b c d e : Bool) → (a && b && c && d && e) ≡ true → (b ≡ true) × (c ≡ true) × (d ≡ true) × (e ≡ true)
five true true true true true h = (refl, refl, refl, refl)
five true true true true false h = absurd (cc h)
five true true true false e h = absurd (cc h)
five true true false d e h = absurd (cc h)
five true false c d e h = absurd (cc h)
five false b c d e h = absurd (cc h)

swap_last : (a b c d e e2 : Bool) → (a && b && c && d && e) ≡ true → e2 ≡ true → (a && b && c && d && e2) ≡ true
swap_last true true true true e e2 h k = k
swap_last true true true false e e2 h k = absurd (cc h)
swap_last true true false d e e2 h k = absurd (cc h)
swap_last true false c d e e2 h k = absurd (cc h)
swap_last false b c d e e2 h k = absurd (cc h)

pub good_parts : (n : ℕ) (m : Memory) (c : Choice) → is_good n m c ≡ true → Good n m c
good_parts n m c is =
    let parts = five (c.addr % 4 == 0) (length c.bytes == n) (nat_le stack_base c.addr) (nat_le (c.addr + n) stack_end)
    (are_free m c.addr c.bytes) is in
    record {
      count = equal (length c.bytes) n parts.0;
      low = order stack_base c.addr parts.1;
      high = order (c.addr + n) stack_end parts.2;
      free = parts.3;
    }
  where
    equal : (a b : ℕ) → (a == b) ≡ true → a ≡ b
    equal a b e = grind (arith, nat_tests)

    order : (a b : ℕ) → nat_le a b ≡ true → a ≤ b
    order a b e = grind (arith, nat_tests)

good_for_both : (n : ℕ) (e : Extra) (m k : Memory) (c : Choice) → Extends e m k → is_good n m c ≡ true
    → is_good n k c ≡ true
good_for_both n e m k c h is =
    let free = extends-free c.bytes e m k c.addr h ((good_parts n m c is).free) in
    swap_last (c.addr % 4 == 0) (length c.bytes == n) (nat_le stack_base c.addr) (nat_le (c.addr + n) stack_end)
    (are_free m c.addr c.bytes) (are_free k c.addr c.bytes) is free

-- the addresses of a buffer are words
pub buffer-place : (n : ℕ) (m : Memory) (c : Choice) → Good n m c → (i : ℕ) → i < length c.bytes
    → (place (c.addr + i) ≡ c.addr + i) × (c.addr + i < c.addr + length c.bytes)
buffer-place n m c h i less = (by c.addr n (length c.bytes) h.high h.count less, omega (arith, less))
  where
    by : (a n l : ℕ) → a + n ≤ stack_end → l ≡ n → i < l → (a + i) % 2 ^ 32 ≡ a + i
    by a n l high is less = omega (arith, high, is, less)

pub free_at : (n : ℕ) (e : Extra) (m k : Memory) (c : Choice) → Extends e m k → Good n m c → (q : ℕ) → c.addr ≤ q
    → q < c.addr + n → (e q ≡ None) × (map.get k q ≡ None)
free_at n e m k c h good q low high =
    free-none c.bytes e m k c.addr h good.free q low (subst (λ l. q < c.addr + l) (sym good.count) high)

at-buffer : (g : Scene) (s t : State) (n : ℕ) (c : Choice) (rest : List Choice) → At g s t → IsChoice c
    → AreChoices rest → Good n s.memory c
    → At g (record s { memory = with_bytes s.memory c.addr c.bytes; choices = rest })
    (record t { memory = with_bytes t.memory c.addr c.bytes })
at-buffer g s t n c rest h is choices good = record {
  extra = h.extra;
  outside = record {
    memory = with_bytes-both c.bytes h.extra s.memory t.memory c.addr h.outside.memory (λ i l. none i l) is.1;
    trace = h.outside.trace;
    answers = h.outside.answers;
    words = h.outside.words;
    choices = choices;
    fuel = h.outside.fuel;
  };
  inner = h.inner;
  others = h.others;
  base = h.base;
  held = h.held;
}
  where
    none : (i : ℕ) → i < length c.bytes → h.extra (place (c.addr + i)) ≡ None
    none i l =
        let here = buffer-place n s.memory c good i l in
        ap h.extra here.0 ∙ (free-none c.bytes h.extra s.memory t.memory c.addr h.outside.memory good.free (c.addr + i)
        (omega arith) here.1).0

-- an address that has no extra byte at one moment has none at another
still_none : (g : Scene) (s t u v : State) (h : At g s t) (k : At g u v) (q : ℕ) → h.extra q ≡ None → k.extra q ≡ None
still_none g s t u v h k q none =
    by_place q g.frame.base (g.frame.base + g.frame.size)
    (λ l. k.others q (inl l) ∙ sym (h.others q (inl l)) ∙ none)
    (λ l r. absurd ((h.inner q l r).0 none))
    (λ l r. k.others q (inr r) ∙ sym (h.others q (inr r)) ∙ none)

at-back : (g : Scene) (s t u v : State) (n : ℕ) (c : Choice) → At g s t → Good n s.memory c → At g u v
    → At g (taken_back c n u) (taken_back c n v)
at-back g s t u v n c h good k = record {
  extra = k.extra;
  outside = record {
    memory = without-both k.extra u.memory v.memory c.addr n k.outside.memory (λ q low high.
        still_none g s t u v h k q ((free_at n h.extra s.memory t.memory c h.outside.memory good q low high).0));
    trace = k.outside.trace;
    answers = k.outside.answers;
    words = k.outside.words;
    choices = k.outside.choices;
    fuel = k.outside.fuel;
  };
  inner = k.inner;
  others = k.others;
  base = k.base;
  held = k.held;
}

pub stackalloc-follows : (g : Scene) (call : Callee) (x n : ℕ) (body : List Stmt) (f : State → Run) (s t : State)
    → x < g.names
    → ((u v : State) → At g u v → Follows (At g) (does call body u) (λ ds. f (given v ds))) → At g s t
    → Follows (At g)
    (does call (roll-Stmt (Stmt-F.Stackalloc (at (g.layout.place x) 4) n (keep (g.layout.place x) ++ body)) ∷ []) s)
    (λ ds. with_buffer (with_local x) n f (given t ds))
stackalloc-follows g call x n body f s t less one h =
    let p = g.layout.place x in
    let to = at p 4 in
    let y : Stmt-F Stmt = Stmt-F.Stackalloc to n (keep p ++ body) in
    follows-from (At g) (does call (roll-Stmt y ∷ []) s) (with_buffer (with_local to) n (does call (keep p ++ body)) s)
    (λ ds. with_buffer (with_local x) n f (given t ds)) (does-one call y s)
    (follows-with_buffer (At g) (At g) n (with_local to) (with_local x) (does call (keep p ++ body)) f s t
    h.outside.choices
    (λ c is good. good_for_both n h.extra s.memory t.memory c h.outside.memory good)
    (λ c rest is choices good.
    let u : State = given (begun (with_local to) c s) rest in
    let v : State = begun (with_local x) c t in
    follows-from (At g) (does call (keep p ++ body) u) (then_do (does call (keep p) u) (does call body))
    (λ ds. f (given v ds)) (does-append call (keep p) body u)
    (follows-then (At g) (At g) (does call (keep p) u) (λ ds. Goes (given v ds)) (does call body) f
    (keep-runs g call x less u v (record {
      before = record s { memory = with_bytes s.memory c.addr c.bytes; choices = rest };
      other = record t { memory = with_bytes t.memory c.addr c.bytes };
      value = c.addr;
      word = is.0;
      first = refl;
      second = refl;
      related = at-buffer g s t n c rest h is choices (good_parts n s.memory c good);
    })) one))
    (λ c u v is good k. at-back g s t u v n c h (good_parts n s.memory c good) k))
