-- What holds after a run, command by command.
use Rattle.std.proofs.Common.{◌≡◌, ℕ, zero, suc, Bool, true, false, List, [], ◌∷◌}
use Rattle.std.proofs.Common.{Option, Some, codes, ◌==◌, refl, sym, ap, subst, ◌∙◌}
use Rattle.br_words.specs.Device.{is_device_word}
use Rattle.br_words.specs.declared.operation.BinOp.{BinOp}
use Rattle.br_words.specs.Words.{value_of_op}
use Rattle.br_bytes.specs.declared.run.Event.TheVariants.{Read, Write}
use Rattle.br_bytes.specs.Memory.{Memory}
use Rattle.br_bytes.specs.Runs.{OutOfFuel, Goes, Ends, Returns, Stops, then_do, choose}
use Rattle.br_bytes.specs.Runs.{with_fuel, happens, loop, read_device, back_in}
use Rattle.br_syntax.specs.declared.program.Expr.{Expr}
use Rattle.br_syntax.specs.declared.program.Expr.TheVariants as expr
use Rattle.br_syntax.specs.declared.program.Expr.TheOpen.{Expr-F}
use Rattle.br_syntax.specs.declared.program.Expr.TheFolds.{fold-roll-Expr}
use Rattle.br_syntax.specs.declared.program.Cmd.{Cmd, roll-Cmd, map-Cmd}
use Rattle.br_syntax.specs.declared.program.Cmd.TheVariants as cmd
use Rattle.br_syntax.specs.declared.program.Cmd.TheOpen.{Cmd-F}
use Rattle.br_syntax.specs.declared.program.Cmd.TheFolds.{fold-roll-Cmd}
use Rattle.br_source_meaning.specs.Values.{Name, Locals, with_local, value, value_step, values}
use Rattle.br_source_meaning.specs.Runs.{State, Run, Returned, Callee, set_to, with_locals, command_step, run, run_all}
use Rattle.br_lightbulb.specs.Spi.{read, write}
use Rattle.br_lightbulb.specs.Shows.{IsDefined}

-- ---- expressions

pub value-lit : (l : Locals) (m : Memory) (k : ℕ) → value l m (expr.Literal k) ≡ Some k
value-lit l m k = ap (value l m) (sym (expr.rolls-Literal k))
    ∙ fold-roll-Expr (Option ℕ) (value_step l m) (Expr-F.Literal k)

pub value-var : (l : Locals) (m : Memory) (x : Name) (k : ℕ) → l x ≡ Some k → value l m (expr.Var x) ≡ Some k
value-var l m x k h = ap (value l m) (sym (expr.rolls-Var x))
    ∙ fold-roll-Expr (Option ℕ) (value_step l m) (Expr-F.Var x) ∙ h

pub value-op : (l : Locals) (m : Memory) (o : BinOp) (a b : Expr) (u v : ℕ) → value l m a ≡ Some u →
    value l m b ≡ Some v → value l m (expr.Op o a b) ≡ Some (value_of_op o u v)
value-op l m o a b u v ha hb =
    ap (value l m) (sym (expr.rolls-Op o a b)) ∙ fold-roll-Expr (Option ℕ) (value_step l m) (Expr-F.Op o a b)
    ∙ rw (ha, hb) refl

-- ---- runs

-- a run goes on in a state of which the first holds; or it stops in one of which the second does, and
-- is not undefined
abbrev pub Does : (State → Type 0) → (State → Type 0) → Run → Type 0
Does Q S (Goes t) = Q t
Does Q S (Ends end t) = IsDefined end × S t

pub does-then : (Q S : State → Type 0) (r : Run) (next : State → Run) → Does (λ t. Does Q S (next t)) S r →
    Does Q S (then_do r next)
does-then Q S (Goes t) next h = h
does-then Q S (Ends end t) next h = h

-- the same of a call
abbrev pub DoesCall : (List ℕ → State → Type 0) → (State → Type 0) → Returned → Type 0
DoesCall Q S (Returns ws t) = Q ws t
DoesCall Q S (Stops end t) = IsDefined end × S t

-- what a command does, by its layer
pub run-layer : (C : Callee) (y : Cmd-F Cmd) (c : Cmd) (s : State) → roll-Cmd y ≡ c →
    run C c s ≡ command_step C (map-Cmd Cmd (State → Run) (run C) y) s
run-layer C y c s is = ap (λ d. run C d s) (sym is) ∙ ap (λ f. f s) (fold-roll-Cmd (State → Run) (command_step C) y)

pub by_command : (C : Callee) (c : Cmd) (cs : List Cmd) (s : State) (r : Run) (Q S : State → Type 0) → run C c s ≡ r →
    Does (λ t. Does Q S (run_all C cs t)) S r → Does Q S (run_all C (c ∷ cs) s)
by_command C c cs s r Q S is h =
    does-then Q S (run C c s) (run_all C cs) (subst (Does (λ t. Does Q S (run_all C cs t)) S) (sym is) h)

pub does-set : (C : Callee) (x : Name) (e : Expr) (cs : List Cmd) (s : State) (v : ℕ) (Q S : State → Type 0) →
    value s.locals s.memory e ≡ Some v →
    Does Q S (run_all C cs (set_to x v s)) → Does Q S (run_all C (cmd.Set x e ∷ cs) s)
does-set C x e cs s v Q S has h =
    by_command C (cmd.Set x e) cs s (Goes (set_to x v s)) Q S
    (run-layer C (Cmd-F.Set x e) (cmd.Set x e) s (cmd.rolls-Set x e) ∙ rw has refl) h

pub does-first : (C : Callee) (e : Expr) (first second cs : List Cmd) (s : State) (v : ℕ) (Q S : State → Type 0) →
    value s.locals s.memory e ≡ Some v → (v == 0) ≡ false →
    Does (λ t. Does Q S (run_all C cs t)) S (run_all C first s) → Does Q S (run_all C (cmd.If e first second ∷ cs) s)
does-first C e first second cs s v Q S has is h =
    by_command C (cmd.If e first second) cs s (run_all C first s) Q S
    (run-layer C (Cmd-F.If e first second) (cmd.If e first second) s (cmd.rolls-If e first second)
    ∙ rw has (rw is refl)) h

pub does-second : (C : Callee) (e : Expr) (first second cs : List Cmd) (s : State) (v : ℕ) (Q S : State → Type 0) →
    value s.locals s.memory e ≡ Some v → (v == 0) ≡ true →
    Does (λ t. Does Q S (run_all C cs t)) S (run_all C second s) → Does Q S (run_all C (cmd.If e first second ∷ cs) s)
does-second C e first second cs s v Q S has is h =
    by_command C (cmd.If e first second) cs s (run_all C second s) Q S
    (run-layer C (Cmd-F.If e first second) (cmd.If e first second) s (cmd.rolls-If e first second)
    ∙ rw has (rw is refl)) h

-- ---- devices

does-answer : (x : Name) (a : ℕ) (words : List ℕ) (s : State) (Q S : State → Type 0) → is_device_word a ≡ true →
    S (record s { answers = words }) →
    ((v : ℕ) (vs : List ℕ) → Q (happens (Read a v) (record s { locals = with_local x v s.locals; answers = vs }))) →
    Does Q S (read_device (with_local x) a (record s { answers = words }))
does-answer x a [] s Q S device stops goes = rw device (tt, stops)
does-answer x a (v ∷ vs) s Q S device stops goes = rw device (goes v vs)

pub does-read : (C : Callee) (x : Name) (a : ℕ) (cs : List Cmd) (s : State) (Q S : State → Type 0) →
    is_device_word a ≡ true → S s →
    ((v : ℕ) (vs : List ℕ) → Does Q S
    (run_all C cs (happens (Read a v) (record s { locals = with_local x v s.locals; answers = vs })))) →
    Does Q S (run_all C (read x a ∷ cs) s)
does-read C x a cs s Q S device stops goes =
    by_command C (read x a) cs s (read_device (with_local x) a s) Q S
    (run-layer C (Cmd-F.Interact 0 (x ∷ []) (codes "MMIOREAD") (expr.Literal a ∷ [])) (read x a) s
    (cmd.rolls-Interact 0 (x ∷ []) (codes "MMIOREAD") (expr.Literal a ∷ []))
    ∙ rw (value-lit s.locals s.memory a) refl)
    (does-answer x a s.answers s (λ t. Does Q S (run_all C cs t)) S device stops goes)

pub does-write : (C : Callee) (a : ℕ) (e : Expr) (cs : List Cmd) (s : State) (v : ℕ) (Q S : State → Type 0) →
    is_device_word a ≡ true → value s.locals s.memory e ≡ Some v →
    Does Q S (run_all C cs (happens (Write a v) s)) → Does Q S (run_all C (write a e ∷ cs) s)
does-write C a e cs s v Q S device has h =
    by_command C (write a e) cs s (Goes (happens (Write a v) s)) Q S
    (run-layer C (Cmd-F.Interact 0 [] (codes "MMIOWRITE") (expr.Literal a ∷ e ∷ [])) (write a e) s
    (cmd.rolls-Interact 0 [] (codes "MMIOWRITE") (expr.Literal a ∷ e ∷ []))
    ∙ rw (value-lit s.locals s.memory a, has) (rw device refl))
    h

-- ---- calls

does-spent : (k : ℕ) (s : State) (next : State → Run) (Q S : State → Type 0) → S (record s { fuel = k }) →
    ((j : ℕ) → Does Q S (next (record s { fuel = j }))) →
    Does Q S (with_fuel (record s { fuel = k }) next)
does-spent zero s next Q S stops goes = (tt, stops)
does-spent (suc j) s next Q S stops goes = goes j

does-back : (xs : List Name) (l : Locals) (r : Returned) (Q S : State → Type 0) →
    DoesCall (λ ws t. Q (record t { locals = with_locals xs ws l })) S r → Does Q S (back_in (with_locals xs) l r)
does-back xs l (Returns ws t) Q S h = h
does-back xs l (Stops end t) Q S h = h

pub does-call : (C : Callee) (xs : List Name) (f : Name) (es : List Expr) (cs : List Cmd) (s : State) (vs : List ℕ)
    (Q S : State → Type 0) →
    values s.locals s.memory es ≡ Some vs → S s →
    ((k : ℕ) → DoesCall (λ ws t. Does Q S (run_all C cs (record t { locals = with_locals xs ws s.locals }))) S
    (C f vs (record s { fuel = k }))) →
    Does Q S (run_all C (cmd.Call 0 xs f es ∷ cs) s)
does-call C xs f es cs s vs Q S has stops goes =
    by_command C (cmd.Call 0 xs f es) cs s (with_fuel s (λ t. back_in (with_locals xs) s.locals (C f vs t))) Q S
    (run-layer C (Cmd-F.Call 0 xs f es) (cmd.Call 0 xs f es) s (cmd.rolls-Call 0 xs f es) ∙ rw has refl)
    (does-spent s.fuel s (λ t. back_in (with_locals xs) s.locals (C f vs t)) (λ t. Does Q S (run_all C cs t)) S stops
    (λ k. does-back xs s.locals (C f vs (record s { fuel = k })) (λ t. Does Q S (run_all C cs t)) S (goes k)))

-- ---- loops

-- a turn of a loop: the test has a word, and on 0 the loop is over; else the body leads on
pub record Turn (test : State → Option ℕ) (body : State → Run) (I Q S : State → Type 0) (s : State) : Type 0 where
  pub word : ℕ
  pub has : test s ≡ Some word
  pub stops : S s
  pub over : (word == 0) ≡ true → Q s
  pub on : (word == 0) ≡ false → (k : ℕ) → Does I S (body (record s { fuel = k }))

does-loop : (test : State → Option ℕ) (body : State → Run) (I Q S : State → Type 0) →
    ((s : State) → I s → Turn test body I Q S s) → (bound : ℕ) (s : State) → I s →
    Does Q S (loop bound test body s)
does-loop test body I Q S turns zero s i = go (turns s i)
  where
    go : Turn test body I Q S s → Does Q S (loop 0 test body s)
    go t = rw t.has (by (t.word == 0) refl)
      where
        by : (b : Bool) → (t.word == 0) ≡ b → Does Q S (choose b (Goes s) (Ends OutOfFuel s))
        by true is = t.over is
        by false is = (tt, t.stops)
does-loop test body I Q S turns (suc bound) s i = go (turns s i) (λ u j. does-loop test body I Q S turns bound u j)
  where
    go : Turn test body I Q S s → ((u : State) → I u → Does Q S (loop bound test body u)) →
        Does Q S (loop (suc bound) test body s)
    go t again = rw t.has (by (t.word == 0) refl)
      where
        next : State → Run
        next u = then_do (body u) (loop bound test body)

        mono : (r : Run) → Does I S r → Does Q S (then_do r (loop bound test body))
        mono (Goes u) j = again u j
        mono (Ends end u) h = h

        by : (b : Bool) → (t.word == 0) ≡ b → Does Q S (choose b (Goes s) (with_fuel s next))
        by true is = t.over is
        by false is = does-spent s.fuel s next Q S t.stops (λ k. mono (body (record s { fuel = k })) (t.on is k))

pub does-while : (C : Callee) (e : Expr) (body cs : List Cmd) (s : State) (I Q S : State → Type 0) →
    ((t : State) → I t → Turn (λ u. value u.locals u.memory e) (run_all C body) I (λ u. Does Q S (run_all C cs u))
    S t) → I s →
    Does Q S (run_all C (cmd.While e body ∷ cs) s)
does-while C e body cs s I Q S turns i =
    by_command C (cmd.While e body) cs s (loop s.fuel (λ u. value u.locals u.memory e) (run_all C body) s) Q S
    (run-layer C (Cmd-F.While e body) (cmd.While e body) s (cmd.rolls-While e body))
    (does-loop (λ u. value u.locals u.memory e) (run_all C body) I (λ u. Does Q S (run_all C cs u)) S turns s.fuel s i)
