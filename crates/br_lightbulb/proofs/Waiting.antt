-- The loop that waits for a port.
use Rattle.std.proofs.Common.{◌≡◌, ◌⊎◌, inl, inr, ℕ, zero, suc, ◌+◌, ◌≤◌, true, false, List, [], ◌∷◌, ◌++◌}
use Rattle.std.proofs.Common.{Some, ◌==◌, refl, sym, ap, subst, ◌∙◌, arith, append_assoc, append-nil}
use Rattle.std.proofs.lemmas.Bool.{eqb-true}
use Rattle.std.proofs.lemmas.Bool.Decides.{nat_tests}
use Rattle.br_words.specs.declared.operation.BinOp.TheVariants.{Sub, Lts}
use Rattle.br_words.specs.Device.{is_device_word}
use Rattle.br_words.specs.Words.{value_of_op}
use Rattle.br_bytes.specs.declared.run.Event.{Event}
use Rattle.br_bytes.specs.declared.run.Event.TheVariants.{Read}
use Rattle.br_bytes.specs.Memory.{Memory}
use Rattle.br_bytes.specs.Runs.{happens}
use Rattle.br_syntax.specs.declared.program.Expr.TheVariants.{Literal, Var, Op}
use Rattle.br_syntax.specs.declared.program.Cmd.{Cmd}
use Rattle.br_syntax.specs.declared.program.Cmd.TheVariants as cmd
use Rattle.br_source_meaning.specs.Values.{Locals, with_local, value}
use Rattle.br_source_meaning.specs.Runs.{State, Callee, set_to, run_all}
use Rattle.br_judge.specs.Languages.{Language, ◌▸◌, times, up_to}
use Rattle.br_judge.specs.Good.{IsHigh, IsLow, busy, ready}
use Rattle.br_lightbulb.specs.Names as name
use Rattle.br_lightbulb.specs.Spi.{read, wait_loop}
use Rattle.br_lightbulb.proofs.Does.{Does, Turn, value-lit, value-var, value-op, does-set}
use Rattle.br_lightbulb.proofs.Does.{does-first, does-second, does-read, does-while}

-- ---- words

low_test : (w : ℕ) → IsLow w → value_of_op Lts w 0 ≡ 0
low_test w h = grind (arith, nat_tests)

high_test : (w : ℕ) → IsHigh w → value_of_op Lts w 0 ≡ 1
high_test w h = grind (arith, nat_tests)

one_less : (k : ℕ) → suc k ≤ 1000 → value_of_op Sub (suc k) 1 ≡ k
one_less k h = omega arith

-- ---- lists

pub times_zero : (L : Language) → times 0 L []
unfolding times
times_zero L = refl

pub times_more : (n : ℕ) (L : Language) (es f : List Event) → times n L es → L f → times (suc n) L (es ++ f)
unfolding times
times_more zero L es f t l = (f, [], subst (λ q. q ++ f ≡ f ++ []) (sym t) (sym (append-nil f)), l, refl)
times_more (suc n) L es f (a, b, h, x, t) l =
    let s = times_more n L b f t l in
    (a, b ++ f, ap (λ q. q ++ f) h ∙ append_assoc a b f, x, s)

-- ---- the loop

-- While the port is waited for: so many reads are left and were made, all of them busy. `Keeps` is said of
-- the variables that the loop does not touch.
pub record Waits (port : ℕ) (T : List Event) (m : Memory) (Keeps : Locals → Type 0) (t : State) : Type 0 where
  pub left : ℕ
  pub made : ℕ
  pub all : left + made ≡ 1000
  pub n : t.locals name.n ≡ Some left
  pub keeps : Keeps t.locals
  pub memory : t.memory ≡ m
  pub events : List Event
  pub trace : t.trace ≡ T ++ events
  pub busy : times made (busy port) events

-- the port was ready
pub record Ready (port : ℕ) (T : List Event) (m : Memory) (Holds : ℕ → Locals → Type 0) (t : State) : Type 0 where
  pub word : ℕ
  pub n : t.locals name.n ≡ Some 0
  pub holds : Holds word t.locals
  pub memory : t.memory ≡ m
  pub events : List Event
  pub trace : t.trace ≡ T ++ events
  pub ready : (up_to 999 (busy port) ▸ ready port word) events

-- waiting or ready
abbrev pub Loops : ℕ → List Event → Memory → (Locals → Type 0) → (ℕ → Locals → Type 0) → State → Type 0
Loops port T m Keeps Holds t = Waits port T m Keeps t ⊎ Ready port T m Holds t

-- what the loop asks of the commands where the port is ready
abbrev pub Finishes : Callee → ℕ → List Cmd → List Event → Memory → (Locals → Type 0) → (ℕ → Locals → Type 0) →
    (State → Type 0) → Type 0
Finishes C port cmds T m Keeps Holds S =
    (w : ℕ) (t : State) (es : List Event) → t.locals name.w ≡ Some w → Keeps t.locals → t.memory ≡ m →
    t.trace ≡ T ++ es →
    (up_to 999 (busy port) ▸ ready port w) es → Does (Loops port T m Keeps Holds) S (run_all C cmds t)

-- the variables that the loop does not touch
pub record Steady (Keeps : Locals → Type 0) : Type 0 where
  pub word : (l : Locals) (v : ℕ) → Keeps l → Keeps (with_local name.w v l)
  pub count : (l : Locals) (v : ℕ) → Keeps l → Keeps (with_local name.n v l)

ready_after : (port made w : ℕ) (es : List Event) → suc made ≤ 1000 → IsLow w → times made (busy port) es →
    (up_to 999 (busy port) ▸ ready port w) (es ++ Read port w ∷ [])
ready_after port made w es few low b = (es, Read port w ∷ [], refl, (made, (omega arith, b)), (low, refl))

after_read : (C : Callee) (port : ℕ) (cmds : List Cmd) (T : List Event) (m : Memory) (Keeps : Locals → Type 0)
    (Holds : ℕ → Locals → Type 0) (S : State → Type 0) →
    Steady Keeps → Finishes C port cmds T m Keeps Holds S →
    (left made v : ℕ) (es : List Event) (s : State) → suc left + made ≡ 1000 → s.locals name.n ≡ Some (suc left) →
    s.locals name.w ≡ Some v → Keeps s.locals → s.memory ≡ m →
    s.trace ≡ T ++ (es ++ Read port v ∷ []) → times made (busy port) es → (IsLow v ⊎ IsHigh v) →
    Does (Loops port T m Keeps Holds) S
    (run_all C (cmd.Set name.n (Op Sub (Var name.n) (Literal 1)) ∷ cmd.If (Op Lts (Var name.w) (Literal 0))
    [] cmds ∷ []) s)
after_read C port cmds T m Keeps Holds S steady finish left made v es s all n w keeps memory trace b kind =
    let next : ℕ = value_of_op Sub (suc left) 1 in
    let less : next ≡ left = one_less left (omega arith) in
    let t : State = set_to name.n next s in
    let kept : Keeps t.locals = steady.count s.locals next keeps in
    does-set C name.n (Op Sub (Var name.n) (Literal 1)) (cmd.If (Op Lts (Var name.w) (Literal 0)) [] cmds ∷ []) s next
    (Loops port T m Keeps Holds) S
    (value-op s.locals s.memory Sub (Var name.n) (Literal 1) (suc left) 1
    (value-var s.locals s.memory name.n (suc left) n) (value-lit s.locals s.memory 1))
    (by kind)
  where
    next' : ℕ
    next' = value_of_op Sub (suc left) 1

    u : State
    u = set_to name.n next' s

    test : value u.locals u.memory (Op Lts (Var name.w) (Literal 0)) ≡ Some (value_of_op Lts v 0)
    test = value-op u.locals u.memory Lts (Var name.w) (Literal 0) v 0 (value-var u.locals u.memory name.w v w)
        (value-lit u.locals u.memory 0)

    by : (IsLow v ⊎ IsHigh v) → Does (Loops port T m Keeps Holds) S
        (run_all C (cmd.If (Op Lts (Var name.w) (Literal 0)) [] cmds ∷ []) u)
    by (inl low) =
        does-second C (Op Lts (Var name.w) (Literal 0)) [] cmds [] u (value_of_op Lts v 0) (Loops port T m Keeps Holds)
        S test (ap (λ q. q == 0) (low_test v low))
        (finish v u (es ++ Read port v ∷ []) w (steady.count s.locals next' keeps) memory trace
        (ready_after port made v es (omega arith) low b))
    by (inr high) =
        does-first C (Op Lts (Var name.w) (Literal 0)) [] cmds [] u (value_of_op Lts v 0) (Loops port T m Keeps Holds)
        S test (ap (λ q. q == 0) (high_test v high))
        (inl (record {
          left = left;
          made = suc made;
          all = omega arith;
          n = ap Some (one_less left (omega arith));
          keeps = steady.count s.locals next' keeps;
          memory = memory;
          events = es ++ Read port v ∷ [];
          trace = trace;
          busy = times_more made (busy port) es (Read port v ∷ []) b (v, (high, refl));
        }))

low_or_high : (w : ℕ) → IsLow w ⊎ IsHigh w
low_or_high w = grind arith

-- a turn of the loop
turn : (C : Callee) (port : ℕ) (cmds : List Cmd) (T : List Event) (m : Memory) (Keeps : Locals → Type 0)
    (Holds : ℕ → Locals → Type 0) (S Q : State → Type 0) →
    is_device_word port ≡ true → Steady Keeps → Finishes C port cmds T m Keeps Holds S →
    ((t : State) → Loops port T m Keeps Holds t → S t) →
    ((t : State) → Loops port T m Keeps Holds t → t.locals name.n ≡ Some 0 → Q t) →
    (s : State) → Loops port T m Keeps Holds s →
    Turn (λ u. value u.locals u.memory (Var name.n))
    (run_all C (read name.w port ∷ cmd.Set name.n (Op Sub (Var name.n) (Literal 1)) ∷ cmd.If
    (Op Lts (Var name.w) (Literal 0)) [] cmds ∷ []))
    (Loops port T m Keeps Holds) Q S s
turn C port cmds T m Keeps Holds S Q device steady finish stops over s (inr r) = record {
  word = 0;
  has = value-var s.locals s.memory name.n 0 r.n;
  stops = stops s (inr r);
  over = λ is. over s (inr r) r.n;
  on = λ is k. cc;
}
turn C port cmds T m Keeps Holds S Q device steady finish stops over s (inl i) = record {
  word = i.left;
  has = value-var s.locals s.memory name.n i.left i.n;
  stops = stops s (inl i);
  over = λ is. over s (inl i) (i.n ∙ ap Some (zero-of i.left is));
  on = λ is k. goes i.left i.all i.n is k;
}
  where
    zero-of : (k : ℕ) → (k == 0) ≡ true → k ≡ 0
    zero-of k is = eqb-true k 0 is

    goes : (left : ℕ) → left + i.made ≡ 1000 → s.locals name.n ≡ Some left → (left == 0) ≡ false → (k : ℕ) →
        Does (Loops port T m Keeps Holds) S
        (run_all C (read name.w port ∷ cmd.Set name.n (Op Sub (Var name.n) (Literal 1)) ∷ cmd.If
        (Op Lts (Var name.w) (Literal 0)) [] cmds ∷ []) (record s { fuel = k }))
    goes zero all n is k = cc
    goes (suc left) all n is k =
        does-read C name.w port (cmd.Set name.n (Op Sub (Var name.n) (Literal 1)) ∷ cmd.If
        (Op Lts (Var name.w) (Literal 0)) [] cmds ∷ []) (record s { fuel = k })
        (Loops port T m Keeps Holds) S device
        (stops (record s { fuel = k }) (inl
        (record {
          left = i.left;
          made = i.made;
          all = i.all;
          n = i.n;
          keeps = i.keeps;
          memory = i.memory;
          events =
              i.events;
          trace = i.trace;
          busy = i.busy;
        })))
        (λ v vs. after_read C port cmds T m Keeps Holds S steady finish left i.made v i.events
        (happens (Read port v) (record s { fuel = k; locals = with_local name.w v s.locals; answers = vs })) all n refl
        (steady.word s.locals v i.keeps) i.memory
        (ap (λ q. q ++ Read port v ∷ []) i.trace ∙ append_assoc T i.events (Read port v ∷ [])) i.busy (low_or_high v))

-- the whole loop
pub does-wait : (C : Callee) (port : ℕ) (cmds cs : List Cmd) (T : List Event) (m : Memory) (Keeps : Locals → Type 0)
    (Holds : ℕ → Locals → Type 0) (S Q : State → Type 0) →
    is_device_word port ≡ true → Steady Keeps → Finishes C port cmds T m Keeps Holds S →
    ((t : State) → Loops port T m Keeps Holds t → S t) →
    ((t : State) → Loops port T m Keeps Holds t → t.locals name.n ≡ Some 0 → Does Q S (run_all C cs t)) →
    (s : State) → Waits port T m Keeps s → Does Q S (run_all C (wait_loop port cmds ∷ cs) s)
does-wait C port cmds cs T m Keeps Holds S Q device steady finish stops over s i =
    does-while C (Var name.n) (read name.w port ∷ cmd.Set name.n (Op Sub (Var name.n) (Literal 1)) ∷ cmd.If
    (Op Lts (Var name.w) (Literal 0)) [] cmds ∷ []) cs s
    (Loops port T m Keeps Holds) Q S
    (turn C port cmds T m Keeps Holds S (λ t. Does Q S (run_all C cs t)) device steady finish stops over) (inl i)
