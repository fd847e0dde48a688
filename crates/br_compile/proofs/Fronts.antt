-- The first steps of a call show the first events of its run.
use Rattle.std.proofs.Common.{◌≡◌, ◌⊎◌, inl, inr, ℕ, zero, suc, ◌+◌, ◌-◌, ◌<◌, ◌≤◌, List, [], ◌∷◌}
use Rattle.std.proofs.Common.{◌++◌, Option, Some, None, refl, sym, ap, subst, ◌∙◌, arith, append_assoc}
use Rattle.std.proofs.lemmas.List.{append-nil}
use Rattle.std.proofs.lemmas.Bool.{cases_lt}
use Rattle.br_words.specs.declared.layout.Layout.{Layout}
use Rattle.br_bytes.specs.declared.run.Event.{Event}
use Rattle.br_bytes.specs.declared.run.Event.TheVariants as event
use Rattle.br_bytes.specs.declared.run.Outcome.{Outcome}
use Rattle.br_bytes.specs.declared.run.Outcome.TheVariants as outcome
use Rattle.br_bytes.specs.Memory.{Memory}
use Rattle.br_syntax.specs.declared.program.Func.{Func}
use Rattle.br_image.specs.declared.images.Entry.{Entry}
use Rattle.br_machine.specs.declared.stepped.Stepped.{Stepped}
use Rattle.br_machine.specs.declared.stepped.Stepped.TheVariants.{Ran, Read, Wrote, Waiting, Halted, Trapped}
use Rattle.br_machine.specs.State.{MachineState}
use Rattle.br_machine.specs.Step.{step}
use Rattle.br_machine.specs.Start.{Leftover}
use Rattle.br_machine.specs.Steps.{Moment, moment_after, next_answer, next_step, onward, after_steps, Runs}
use Rattle.br_emit.specs.Reaches.{ShowsEnd}
use Rattle.br_image.specs.declared.images.Image.{Image}
use Rattle.br_compile.specs.Implements.{Follows, Implements}
use Rattle.br_compile.specs.FirstSteps.{DoesNotTrap, ShowsFront, FollowsAtFirst, ImplementsAtFirst}

-- a step that goes on does not trap
goes_on : (m next : Moment) (s : MachineState × Stepped) → moment_after m s ≡ Some next → DoesNotTrap s.1
goes_on m next (s, Ran) is = tt
goes_on m next (s, Read a v) is = tt
goes_on m next (s, Wrote a v) is = tt
goes_on m next (s, Waiting a) is = tt
goes_on m next (s, Halted) is = tt
goes_on m next (s, Trapped trap pc) is = absurd (cc)

-- the events of a moment, if there is one
abbrev trace_of : Option Moment → List Event
trace_of None = []
trace_of (Some m) = m.trace

-- a step adds events at the end
adds : (m next : Moment) (s : MachineState × Stepped) → moment_after m s ≡ Some next
    → (rest : List Event) × (next.trace ≡ m.trace ++ rest)
adds m next (s, Ran) is = ([], ap trace_of (sym is) ∙ sym (append-nil m.trace))
adds m next (s, Read a v) is = (event.Read a v ∷ [], ap trace_of (sym is))
adds m next (s, Wrote a v) is = (event.Write a v ∷ [], ap trace_of (sym is))
adds m next (s, Waiting a) is = absurd (cc)
adds m next (s, Halted) is = absurd (cc)
adds m next (s, Trapped trap pc) is = absurd (cc)

-- so many steps lead to the moment after them
after_steps-add : (low i k : ℕ) (m e : Moment) → Runs low i m e → after_steps (i + k) m ≡ after_steps k e
after_steps-add low zero k m e is = let same : 0 + k ≡ k = omega arith in
    ap (λ n. after_steps n m) same ∙ ap (after_steps k) is
after_steps-add low (suc i) k m e (next, s, rest) =
    let same : suc i + k ≡ suc (i + k) = omega arith in
    ap (λ n. after_steps n m) same ∙ ap (λ o. onward m o (after_steps (i + k))) s.after
    ∙ after_steps-add low i k next e rest

-- a moment that no step leads on from stays
after_steps-stays : (k : ℕ) (m : Moment) → moment_after m (next_step m) ≡ None → after_steps k m ≡ m
after_steps-stays zero m none = refl
after_steps-stays (suc k) m none = ap (λ o. onward m o (after_steps k)) none

-- none of so many steps traps
none_traps : (low i k : ℕ) (m e : Moment) → k < i → Runs low i m e → DoesNotTrap (next_step (after_steps k m)).1
none_traps low zero k m e h runs = absurd (omega arith)
none_traps low (suc i) zero m e h (next, s, rest) = goes_on m next (next_step m) s.after
none_traps low (suc i) (suc k) m e h (next, s, rest) =
    subst (λ x. DoesNotTrap (next_step x).1) (sym (ap (λ o. onward m o (after_steps k)) s.after))
    (none_traps low i k next e (omega arith) rest)

-- the events after some of the steps are the first of those after all
front_of : (low i k : ℕ) (m e : Moment) → k ≤ i → Runs low i m e
    → (rest : List Event) × (e.trace ≡ (after_steps k m).trace ++ rest)
front_of low zero zero m e h is = ([], ap (λ x. x.trace) (sym is) ∙ sym (append-nil m.trace))
front_of low zero (suc k) m e h is = absurd (omega arith)
front_of low (suc i) zero m e h (next, s, rest) =
    let more = front_of low i zero next e (omega arith) rest in
    let first = adds m next (next_step m) s.after in
    (first.0 ++ more.0, more.1 ∙ ap (λ t. t ++ more.0) first.1 ∙ append_assoc m.trace first.0 more.0)
front_of low (suc i) (suc k) m e h (next, s, rest) =
    let more = front_of low i k next e (omega arith) rest in
    (more.0, more.1 ∙ ap (λ x. x.trace ++ more.0) (sym (ap (λ o. onward m o (after_steps k)) s.after)))

-- ---- from what the machine reaches to its first steps

-- a moment from which the machine does not go on, with no trap
record Stops (m : Moment) : Type 0 where
  none : moment_after m (next_step m) ≡ None
  fine : DoesNotTrap (next_step m).1

stops_at : (m : Moment) (s : MachineState × Stepped) (how : Stepped) → next_step m ≡ s → s.1 ≡ how
    → ((t : MachineState) → moment_after m (t, how) ≡ None) → DoesNotTrap how → Stops m
stops_at m (t, h) how is e none fine = record {
  none = ap (moment_after m) is ∙ ap (λ x. moment_after m (t, x)) e ∙ none t;
  fine = subst DoesNotTrap (sym (ap (λ x. x.1) is ∙ e)) fine;
}

next_of_none : (m : Moment) → m.answers ≡ [] → next_answer m ≡ None
next_of_none m none = ap (λ xs. next_answer (record m { answers = xs })) none

-- where there was more fuel than steps, the machine has stopped
ended : (o : Outcome) (fuel steps : ℕ) (m : Moment) → steps < fuel → ShowsEnd o fuel steps m → Stops m
ended (outcome.Done words) fuel steps m h shows =
    stops_at m (next_step m) Halted refl (shows.0 (next_answer m)) (λ t. refl) tt
ended (outcome.Waiting a) fuel steps m h shows =
    stops_at m (next_step m) (Waiting a) refl (ap (λ o. (step m.machine o).1) (next_of_none m shows.0) ∙ shows.1)
    (λ t. refl) tt
ended outcome.OutOfFuel fuel steps m h shows = absurd (omega arith)
ended outcome.Undefined fuel steps m h shows = absurd shows
ended outcome.NoChoice fuel steps m h shows = absurd shows

-- the first steps of a run that stops
shows_front : (low i n : ℕ) (m e : Moment) → Runs low i m e → (n ≤ i) ⊎ ((i < n) × Stops e) → ShowsFront n m e.trace
shows_front low i n m e runs (inl le) =
    let front = front_of low i n m e le runs in
    record { no_trap = λ k h. none_traps low i k m e (omega arith) runs; rest = front.0; front = front.1 }
shows_front low i n m e runs (inr (lt, stops)) = record {
  no_trap = λ k h. each k (cases_lt k i);
  rest = [];
  front = ap (λ x. x.trace) (sym (there (n - i) n (omega arith))) ∙ sym (append-nil (after_steps n m).trace);
}
  where
    there : (d k : ℕ) → i + d ≡ k → after_steps k m ≡ e
    there d k is =
        ap (λ x. after_steps x m) (sym is) ∙ after_steps-add low i d m e runs ∙ after_steps-stays d e stops.none

    each : (k : ℕ) → (k < i) ⊎ (i ≤ k) → DoesNotTrap (next_step (after_steps k m)).1
    each k (inl h) = none_traps low i k m e h runs
    each k (inr h) = subst (λ x. DoesNotTrap (next_step x).1) (sym (there (k - i) k (omega arith))) stops.fine

pub follows_at_first : (layout : Layout) (code : List ℕ) (fs : List Func) (f : Func) (entry : Entry) (args : List ℕ)
    (m : Memory) (answers : List ℕ) (j : Leftover) (n : ℕ)
    → Follows layout code fs f entry args m answers j n → FollowsAtFirst layout code fs f entry args m answers j n
follows_at_first layout code fs f entry args m answers j n (choices, are, inl undefined) = (choices, are, inl undefined)
follows_at_first layout code fs f entry args m answers j n (choices, are, inr r) = (
  choices,
  are,
  inr (subst (ShowsFront n _) r.shows_trace (shows_front _ r.steps n _ r.last r.runs (by (cases_lt r.steps n)))),
)
  where
    by : (r.steps < n) ⊎ (n ≤ r.steps) → (n ≤ r.steps) ⊎ ((r.steps < n) × Stops r.last)
    by (inl h) = inr (h, ended _ n r.steps r.last h r.shows_end)
    by (inr h) = inl h

pub implements_at_first : (i : Image) (fs : List Func) → Implements i fs → ImplementsAtFirst i fs
implements_at_first i fs does = record {
  follows = λ n f entry at at' args len words m in_data answers words' j left steps.
      follows_at_first i.layout i.code fs f entry args m answers j steps
      (does.follows n f entry at at' args len words m in_data answers words' j left steps);
}
