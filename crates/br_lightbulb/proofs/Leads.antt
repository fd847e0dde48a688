-- Where commands lead, one command at a time. Of a state in which a run stops only its trace is asked.
use Rattle.std.proofs.Common.{◌≡◌, ℕ, Bool, true, false, List, [], ◌∷◌, ◌++◌}
use Rattle.std.proofs.Common.{Some, map, ◌==◌, refl, sym, subst, ◌∙◌, append-nil}
use Rattle.br_words.specs.Device.{is_device_word}
use Rattle.br_words.specs.Words.{flag}
use Rattle.br_bytes.specs.declared.run.Choice.{Choice}
use Rattle.br_bytes.specs.declared.run.Event.{Event}
use Rattle.br_bytes.specs.declared.run.Event.TheVariants.{Read, Write}
use Rattle.br_bytes.specs.Memory.{Memory, put_number, with_bytes}
use Rattle.br_bytes.specs.Buffers.{is_good, without_range}
use Rattle.br_bytes.specs.Runs.{Goes, Ends, Returns, Stops, then_do, with_buffer, happens}
use Rattle.br_words.specs.declared.size.Size.TheVariants as size
use Rattle.br_syntax.specs.declared.program.Cmd.TheVariants as cmd
use Rattle.br_syntax.specs.declared.program.Cmd.TheOpen.{Cmd-F}
use Rattle.br_source_meaning.specs.Values.{Name, Locals, with_local}
use Rattle.br_source_meaning.specs.Runs.{State, Run, Returned, Callee, set_to, with_locals, run_all}
use Rattle.br_lightbulb.specs.Shows.{Piece, Begins, ShowsPiece, ShowsEvents}
use Rattle.br_lightbulb.proofs.Does.{Does, DoesCall, by_command, run-layer, does-set, does-first}
use Rattle.br_lightbulb.proofs.Does.{does-second, does-read, does-write, does-call, does-while}
use Rattle.br_lightbulb.proofs.Commands.{Exp, Commands, done, set, cond, repeat, call, read, write}
use Rattle.br_lightbulb.proofs.Commands.{store, buffer, tree, trees, val, vals, value_is, values_are}

-- a trace in which a run may stop: after these events the first ones of the piece
abbrev pub Stopping : List Event → Piece → List Event → Type 0
Stopping before piece tr = (es : List Event) × (tr ≡ before ++ es) × Begins piece es

-- From a state, commands lead to one of which Q holds; or they stop with a trace of which S holds, and
-- are not undefined.
pub record Leads (C : Callee) (S : List Event → Type 0) (Q : State → Type 0) (cs : Commands) (s : State) : Type 0 where
  pub does : Does Q (λ t. S t.trace) (run_all C (trees cs) s)

pub ends : {C : Callee} {S : List Event → Type 0} {Q : State → Type 0} {s : State} → Q s → Leads C S Q done s
ends q = record { does = q }

-- what is wanted of the commands in a command: that those after it lead on
plain : {C : Callee} {S : List Event → Type 0} {Q : State → Type 0} {cs first : Commands} {s : State} →
    Leads C S (Leads C S Q cs) first s →
    Does (λ t. Does Q (λ u. S u.trace) (run_all C (trees cs) t)) (λ t. S t.trace) (run_all C (trees first) s)
plain {C} {S} {Q} {cs} {first} {s} h = by (run_all C (trees first) s) h.does
  where
    by : (r : Run) → Does (Leads C S Q cs) (λ t. S t.trace) r →
        Does (λ t. Does Q (λ u. S u.trace) (run_all C (trees cs) t)) (λ t. S t.trace) r
    by (Goes t) l = l.does
    by (Ends end t) l = l

pub sets : {C : Callee} {S : List Event → Type 0}
    {Q : State → Type 0} {x : Name} {e : Exp} {cs : Commands} {s : State} {v : ℕ} →
    val s.locals s.memory e ≡ Some v → Leads C S Q cs (set_to x v s) → Leads C S Q (set x e cs) s
sets {C} {S} {Q} {x} {e} {cs} {s} {v} has h = record {
  does = does-set C x (tree e) (trees cs) s v Q (λ t. S t.trace) (value_is s.locals s.memory e ∙ has) h.does;
}

pub first_of_two : {C : Callee} {S : List Event → Type 0}
    {Q : State → Type 0} {e : Exp} {first second cs : Commands} {s : State} {v : ℕ} →
    val s.locals s.memory e ≡ Some v →
    (v == 0) ≡ false → Leads C S (Leads C S Q cs) first s → Leads C S Q (cond e first second cs) s
first_of_two {C} {S} {Q} {e} {first} {second} {cs} {s} {v} has is h = record {
  does = does-first C (tree e) (trees first) (trees second) (trees cs) s v Q (λ t. S t.trace)
      (value_is s.locals s.memory e ∙ has) is (plain h);
}

pub second_of_two : {C : Callee} {S : List Event → Type 0}
    {Q : State → Type 0} {e : Exp} {first second cs : Commands} {s : State} {v : ℕ} →
    val s.locals s.memory e ≡ Some v →
    (v == 0) ≡ true → Leads C S (Leads C S Q cs) second s → Leads C S Q (cond e first second cs) s
second_of_two {C} {S} {Q} {e} {first} {second} {cs} {s} {v} has is h = record {
  does = does-second C (tree e) (trees first) (trees second) (trees cs) s v Q (λ t. S t.trace)
      (value_is s.locals s.memory e ∙ has) is (plain h);
}

-- the same, by a test that is 1 or 0
pub tests : {C : Callee} {S : List Event → Type 0}
    {Q : State → Type 0} {e : Exp} {first second cs : Commands} {s : State} (b : Bool) →
    val s.locals s.memory e ≡ Some (flag b) → (b ≡ true → Leads C S (Leads C S Q cs) first s) →
    (b ≡ false → Leads C S (Leads C S Q cs) second s) →
    Leads C S Q (cond e first second cs) s
tests true has h g = first_of_two {v = 1} has refl (h refl)
tests false has h g = second_of_two {v = 0} has refl (g refl)

pub reads : {C : Callee} {S : List Event → Type 0} {Q : State → Type 0} {x : Name} {a : ℕ} {cs : Commands} {s : State} →
    is_device_word a ≡ true → S s.trace →
    ((v : ℕ) (vs : List ℕ) → Leads C S Q cs
    (happens (Read a v) (record s { locals = with_local x v s.locals; answers = vs }))) →
    Leads C S Q (read x a cs) s
reads {C} {S} {Q} {x} {a} {cs} {s} device stops h = record {
  does = does-read C x a (trees cs) s Q (λ t. S t.trace) device stops (λ v vs. (h v vs).does);
}

pub writes : {C : Callee} {S : List Event → Type 0}
    {Q : State → Type 0} {a : ℕ} {e : Exp} {cs : Commands} {s : State} {v : ℕ} →
    is_device_word a ≡ true → val s.locals s.memory e ≡ Some v → Leads C S Q cs (happens (Write a v) s) →
    Leads C S Q (write a e cs) s
writes {C} {S} {Q} {a} {e} {cs} {s} {v} device has h = record {
  does = does-write C a (tree e) (trees cs) s v Q (λ t. S t.trace) device (value_is s.locals s.memory e ∙ has) h.does;
}

-- a state with these variables, memory and trace, and what comes from outside as in another
abbrev pub upon : Locals → Memory → List Event → State → State
upon l m tr o = record o { locals = l; memory = m; trace = tr }

pub at_state : (C : Callee) (S : List Event → Type 0) (Q : State → Type 0) (cs : Commands) (t : State) (m : Memory)
    (tr : List Event) → t.memory ≡ m → t.trace ≡ tr →
    Leads C S Q cs (upon t.locals m tr t) → Leads C S Q cs t
at_state C S Q cs t m tr me te h =
    subst (λ (q : List Event). Leads C S Q cs (upon t.locals t.memory q t)) (sym te)
    (subst (λ (q : Memory). Leads C S Q cs (upon t.locals q tr t)) (sym me) h)

-- ---- calls

from_call : (C : Callee) (S : List Event → Type 0) (Q : State → Type 0) (xs : List Name) (cs : Commands) (l : Locals)
    (r : Returned) →
    DoesCall (λ ws t. Leads C S Q cs (record t { locals = with_locals xs ws l })) (λ t. S t.trace) r →
    DoesCall (λ ws t. Does Q (λ u. S u.trace) (run_all C (trees cs) (record t { locals = with_locals xs ws l })))
    (λ t. S t.trace) r
from_call C S Q xs cs l (Returns ws t) h = h.does
from_call C S Q xs cs l (Stops end t) h = h

pub calls : {C : Callee} {S : List Event → Type 0}
    {Q : State → Type 0} {xs : List Name} {f : Name} {es : List Exp} {cs : Commands} {s : State} {vs : List ℕ} →
    vals s.locals s.memory es ≡ Some vs → S s.trace →
    ((k : ℕ) → DoesCall (λ ws t. Leads C S Q cs (record t { locals = with_locals xs ws s.locals })) (λ t. S t.trace)
    (C f vs (record s { fuel = k }))) →
    Leads C S Q (call xs f es cs) s
calls {C} {S} {Q} {xs} {f} {es} {cs} {s} {vs} has stops h = record {
  does =
      does-call C xs f (map tree es) (trees cs) s vs Q (λ t. S t.trace) (values_are s.locals s.memory es ∙ has) stops
      (λ k. from_call C S Q xs cs s.locals (C f vs (record s { fuel = k })) (h k));
}

-- A call that shows a piece: the caller goes on after each list of it, or has stopped in one.
pub shown_here : {C : Callee} {S : List Event → Type 0}
    {Q : State → Type 0} {xs : List Name} {f : Name} {es : List Exp} {cs : Commands} {s : State} {vs : List ℕ}
    {piece : Piece} →
    vals s.locals s.memory es ≡ Some vs →
    ((k : ℕ) → ShowsPiece (record s { fuel = k }) piece (C f vs (record s { fuel = k }))) →
    Begins piece [] →
    ((fs : List Event) → Begins piece fs → S (s.trace ++ fs)) →
    ((ws : List ℕ) (fs : List Event) (o : State) → piece ws fs →
    Leads C S Q cs (upon (with_locals xs ws s.locals) s.memory (s.trace ++ fs) o)) →
    Leads C S Q (call xs f es cs) s
shown_here {C} {S} {Q} {xs} {f} {es} {cs} {s} {vs} {piece} has shows some stops goes =
    calls {C = C} {S = S} {Q = Q} {xs = xs} {f = f} {es = es} {cs = cs} {s = s} {vs = vs}
    has (subst S (append-nil s.trace) (stops [] some))
    (λ k. by k (C f vs (record s { fuel = k })) (shows k))
  where
    by : (k : ℕ) (r : Returned) → ShowsPiece (record s { fuel = k }) piece r →
        DoesCall (λ ws t. Leads C S Q cs (record t { locals = with_locals xs ws s.locals })) (λ t. S t.trace) r
    by k (Returns ws t) (fs, e, m, p) =
        at_state C S Q cs (record t { locals = with_locals xs ws s.locals }) s.memory (s.trace ++ fs) m e
        (goes ws fs t p)
    by k (Stops end t) (defined, (fs, e, p)) = (defined, subst S (sym e) (stops fs p))

-- the same of a function that shows it from every state
pub shown : {C : Callee} {S : List Event → Type 0}
    {Q : State → Type 0} {xs : List Name} {f : Name} {es : List Exp} {cs : Commands} {s : State} {vs : List ℕ}
    {piece : Piece} →
    vals s.locals s.memory es ≡ Some vs →
    ((t : State) → ShowsPiece t piece (C f vs t)) →
    Begins piece [] →
    ((fs : List Event) → Begins piece fs → S (s.trace ++ fs)) →
    ((ws : List ℕ) (fs : List Event) (o : State) → piece ws fs →
    Leads C S Q cs (upon (with_locals xs ws s.locals) s.memory (s.trace ++ fs) o)) →
    Leads C S Q (call xs f es cs) s
shown {C} {S} {Q} {xs} {f} {es} {cs} {s} {vs} {piece} has shows some stops goes =
    shown_here {C = C} {S = S} {Q = Q} {xs = xs} {f = f} {es = es} {cs = cs} {s = s} {vs = vs} {piece = piece}
    has (λ k. shows (record s { fuel = k })) some stops goes

-- the same of one after which memory may be another
pub shown_events : {C : Callee} {S : List Event → Type 0}
    {Q : State → Type 0} {xs : List Name} {f : Name} {es : List Exp} {cs : Commands} {s : State} {vs : List ℕ}
    {piece : Piece} →
    vals s.locals s.memory es ≡ Some vs →
    ((t : State) → ShowsEvents t piece (C f vs t)) →
    Begins piece [] →
    ((fs : List Event) → Begins piece fs → S (s.trace ++ fs)) →
    ((ws : List ℕ) (fs : List Event) (o : State) → piece ws fs →
    Leads C S Q cs (upon (with_locals xs ws s.locals) o.memory (s.trace ++ fs) o)) →
    Leads C S Q (call xs f es cs) s
shown_events {C} {S} {Q} {xs} {f} {es} {cs} {s} {vs} {piece} has shows some stops goes =
    calls {C = C} {S = S} {Q = Q} {xs = xs} {f = f} {es = es} {cs = cs} {s = s} {vs = vs}
    has (subst S (append-nil s.trace) (stops [] some))
    (λ k. by k (C f vs (record s { fuel = k })) (shows (record s { fuel = k })))
  where
    by : (k : ℕ) (r : Returned) → ShowsEvents (record s { fuel = k }) piece r →
        DoesCall (λ ws t. Leads C S Q cs (record t { locals = with_locals xs ws s.locals })) (λ t. S t.trace) r
    by k (Returns ws t) (fs, e, p) =
        at_state C S Q cs (record t { locals = with_locals xs ws s.locals }) t.memory (s.trace ++ fs) refl e
        (goes ws fs t p)
    by k (Stops end t) (defined, (fs, e, p)) = (defined, subst S (sym e) (stops fs p))

-- ---- loops

-- a turn of a loop: the test has a word, and on 0 the loop is over; else the body leads on
pub record Turns (C : Callee) (S : List Event → Type 0) (I : State → Type 0) (Q : State → Type 0) (e : Exp)
    (body : Commands) (s : State) : Type 0 where
  pub word : ℕ
  pub has : val s.locals s.memory e ≡ Some word
  pub stops : S s.trace
  pub over : (word == 0) ≡ true → Q s
  pub on : (word == 0) ≡ false → (k : ℕ) → Leads C S I body (record s { fuel = k })

pub repeats : {C : Callee} {S : List Event → Type 0} {Q : State → Type 0} {e : Exp} {body cs : Commands} {s : State}
    (I : State → Type 0) →
    ((t : State) → I t → Turns C S I (Leads C S Q cs) e body t) → I s → Leads C S Q (repeat e body cs) s
repeats {C} {S} {Q} {e} {body} {cs} {s} I turns i = record {
  does =
      does-while C (tree e) (trees body) (trees cs) s I Q (λ t. S t.trace) (λ t j.
      let u : Turns C S I (Leads C S Q cs) e body t = turns t j in
      record {
        word = u.word;
        has = value_is t.locals t.memory e ∙ u.has;
        stops = u.stops;
        over = λ is. (u.over is).does;
        on = λ is k. (u.on is k).does;
      }) i;
}

-- ---- memory

pub stores : {C : Callee} {S : List Event → Type 0}
    {Q : State → Type 0} {a e : Exp} {cs : Commands} {s : State} {p v : ℕ} {m : Memory} →
    val s.locals s.memory a ≡ Some p → val s.locals s.memory e ≡ Some v → put_number s.memory p 4 v ≡ Some m →
    Leads C S Q cs (record s { memory = m }) →
    Leads C S Q (store a e cs) s
stores {C} {S} {Q} {a} {e} {cs} {s} {p} {v} {m} where_is what_is puts h = record {
  does =
      by_command C (cmd.Store size.Four (tree a) (tree e)) (trees cs) s (Goes (record s { memory = m })) Q
      (λ t. S t.trace)
      (run-layer C (Cmd-F.Store size.Four (tree a) (tree e)) (cmd.Store size.Four (tree a) (tree e)) s
      (cmd.rolls-Store size.Four (tree a) (tree e))
      ∙ rw (value_is s.locals s.memory a ∙ where_is, value_is s.locals s.memory e ∙ what_is) (rw puts refl))
      h.does;
}

-- a buffer is taken for commands, and leaves memory after them
pub buffers : {C : Callee} {S : List Event → Type 0}
    {Q : State → Type 0} {x : Name} {n : ℕ} {body cs : Commands} {s : State} → S s.trace →
    ((c : Choice) (chosen : List Choice) → is_good n s.memory c ≡ true →
    Leads C S (λ t. Leads C S Q cs (record t { memory = without_range t.memory c.addr n })) body
    (record s {
      locals = with_local x c.addr s.locals;
      memory = with_bytes s.memory c.addr c.bytes;
      choices = chosen;
    })) →
    Leads C S Q (buffer x n body cs) s
buffers {C} {S} {Q} {x} {n} {body} {cs} {s} stops goes = record {
  does =
      by_command C (cmd.Stackalloc x n (trees body)) (trees cs) s
      (with_buffer (with_local x) n (run_all C (trees body)) s) Q (λ t. S t.trace)
      (run-layer C (Cmd-F.Stackalloc x n (trees body)) (cmd.Stackalloc x n (trees body)) s
      (cmd.rolls-Stackalloc x n (trees body)))
      (by s.choices stops goes);
}
  where
    R : State → Type 0
    R t = Does Q (λ u. S u.trace) (run_all C (trees cs) t)

    by : (choices : List Choice) → S s.trace →
        ((c : Choice) (chosen : List Choice) → is_good n s.memory c ≡ true →
        Leads C S (λ t. Leads C S Q cs (record t { memory = without_range t.memory c.addr n })) body
        (record s {
          locals = with_local x c.addr s.locals;
          memory = with_bytes s.memory c.addr c.bytes;
          choices = chosen;
        })) →
        Does R (λ t. S t.trace) (with_buffer (with_local x) n (run_all C (trees body)) (record s { choices = choices }))
    by [] stops goes = (tt, stops)
    by (c ∷ chosen) stops goes = choice (is_good n s.memory c) refl
      where
        leaving : (r : Run) → Does (λ t. Leads C S Q cs (record t { memory = without_range t.memory c.addr n }))
            (λ t. S t.trace) r →
            Does R (λ t. S t.trace) (then_do r (λ t. Goes (record t { memory = without_range t.memory c.addr n })))
        leaving (Goes t) h = h.does
        leaving (Ends end t) h = h

        choice : (b : Bool) → is_good n s.memory c ≡ b →
            Does R (λ t. S t.trace) (with_buffer (with_local x) n (run_all C (trees body))
            (record s { choices = c ∷ chosen }))
        choice true good = rw good (leaving
            (run_all C (trees body) (record s {
              locals = with_local x c.addr s.locals;
              memory =
                  with_bytes s.memory c.addr c.bytes;
              choices = chosen;
            })) (goes c chosen good).does)
        choice false bad = rw bad (tt, stops)
