-- How the moments of a run follow one another, and what a loop over them keeps.
use Rattle.std.proofs.Common.{◌≡◌, inl, inr, ℕ, zero, suc, ◌+◌, ◌-◌, ◌<◌, ◌≤◌, List, [], ◌∷◌}
use Rattle.std.proofs.Common.{drop, Option, Some, None, false, refl, sym, ap, subst, ◌∙◌, arith}
use Rattle.std.specs.Prelude.{IsSome, slice_get}
use Rattle.std.proofs.lemmas.Bool.{cases_lt, false≢true}
use Rattle.br_bytes.specs.declared.run.Event.{Event}
use Rattle.br_machine.specs.declared.stepped.Stepped.{Stepped}
use Rattle.br_machine.specs.State.{MachineState}
use Rattle.br_machine.specs.Step.{step}
use Rattle.br_machine.specs.Steps.{Moment, moment_after, next_answer, next_step, onward, after_steps}
use Rattle.br_machine.specs.Run.{at_start, GoesOn, AllGoOn}
use Rattle.br_machine.specs.Trace.{Recorded}
use Rattle.br_machine.proofs.Steps.{goes_on, step-ended}

-- ---- moments in turn

-- the moment after one more step, or the same where it does not go on
abbrev pub once : Moment → Moment
once m = onward m (moment_after m (next_step m)) (λ x. x)

-- one step more is a step at the end
pub after_steps-suc : (k : ℕ) (m : Moment) → after_steps (suc k) m ≡ once (after_steps k m)
after_steps-suc zero m = first (moment_after m (next_step m))
  where
    first : (o : Option Moment) → onward m o (after_steps 0) ≡ onward m o (λ x. x)
    first None = refl
    first (Some y) = refl
after_steps-suc (suc k) m = further (after_steps-suc k) (moment_after m (next_step m)) refl
  where
    further : ((y : Moment) → after_steps (suc k) y ≡ once (after_steps k y)) → (o : Option Moment)
        → moment_after m (next_step m) ≡ o → onward m o (after_steps (suc k)) ≡ once (onward m o (after_steps k))
    further earlier None e = ap (λ p. onward m p (λ x. x)) (sym e)
    further earlier (Some y) e = earlier y

-- a moment whose step does not go on stays
pub after_steps-stuck : (j : ℕ) (m : Moment) → moment_after m (next_step m) ≡ None → after_steps j m ≡ m
after_steps-stuck zero m e = refl
after_steps-stuck (suc j) m e = ap (λ o. onward m o (after_steps j)) e

pub after_steps-add : (j k : ℕ) (m : Moment) → after_steps (j + k) m ≡ after_steps j (after_steps k m)
after_steps-add zero k m = ap (λ i. after_steps i m) (let e : 0 + k ≡ k = omega arith in e)
after_steps-add (suc j) k m =
    ap (λ i. after_steps i m) (let e : suc j + k ≡ suc (j + k) = omega arith in e)
    ∙ after_steps-suc (j + k) m ∙ ap once (after_steps-add j k m) ∙ sym (after_steps-suc j (after_steps k m))

-- so it does whatever the limit
pub after_steps-ended : (k n : ℕ) (m : Moment) → k ≤ n
    → moment_after (after_steps k m) (next_step (after_steps k m)) ≡ None → after_steps n m ≡ after_steps k m
after_steps-ended k n m h e =
    ap (λ i. after_steps i m) (let e : n ≡ (n - k) + k = omega arith in e) ∙ after_steps-add (n - k) k m
    ∙ after_steps-stuck (n - k) (after_steps k m) e

-- ---- what a loop over steps keeps

-- after k steps, each of which went on, the machine, the answers that are left and the events
pub record HasRun (start : Moment) (k taken : ℕ) (s : MachineState) (answers : List ℕ) (trace : Recorded) : Type 0 where
  pub moment : at_start s (drop taken answers) trace.events ≡ after_steps k start
  pub going : AllGoOn k start

pub slice_get-drop : (xs : List ℕ) (n : ℕ) → slice_get (drop n xs) 0 ≡ slice_get xs n
slice_get-drop xs zero = refl
slice_get-drop [] (suc n) = refl
slice_get-drop (x ∷ xs) (suc n) = slice_get-drop xs n

pub drop_one-drop : (xs : List ℕ) (n : ℕ) → drop 1 (drop n xs) ≡ drop (n + 1) xs
drop_one-drop [] zero = refl
drop_one-drop [] (suc n) = ap (λ i. drop i []) (let e : suc n + 1 ≡ suc (n + 1) = omega arith in sym e)
drop_one-drop (x ∷ xs) zero = refl
drop_one-drop (x ∷ xs) (suc n) =
    drop_one-drop xs n ∙ ap (λ i. drop i (x ∷ xs)) (let e : suc (n + 1) ≡ suc n + 1 = omega arith in e)

-- the step that code takes, with the answer that it reads from all answers
pub next_step-is : (s s' : MachineState) (next : Option ℕ) (answers : List ℕ) (taken : ℕ) (events : List Event)
    (how : Stepped)
    → next ≡ slice_get answers taken → s' ≡ (step s next).0 → how ≡ (step s next).1
    → next_step (at_start s (drop taken answers) events) ≡ (s', how)
next_step-is s s' next answers taken events how read machine end =
    ap (step s) (slice_get-drop answers taken ∙ sym read)
    ∙ ap (λ (x : MachineState). (x, (step s next).1)) (sym machine) ∙ ap (λ (x : Stepped). (s', x)) (sym end)

all_one_more : (k : ℕ) (start : Moment) → AllGoOn k start → GoesOn (after_steps k start) → AllGoOn (k + 1) start
all_one_more k start all here i h = elim (cases_lt i k) [
  | inl p ↦ all i p
  | inr p ↦ subst (λ j. GoesOn (after_steps j start)) (let e : k ≡ i = omega arith in e) here
]

-- a step that goes on, with what becomes of the answers and the events
pub HasRun-step : (start : Moment) (k taken taken' : ℕ) (s s' : MachineState) (answers : List ℕ)
    (trace trace' : Recorded) (how : Stepped)
    → HasRun start k taken s answers trace
    → next_step (at_start s (drop taken answers) trace.events) ≡ (s', how)
    → moment_after (at_start s (drop taken answers) trace.events) (s', how)
    ≡ Some (at_start s' (drop taken' answers) trace'.events)
    → HasRun start (k + 1) taken' s' answers trace'
HasRun-step start k taken taken' s s' answers trace trace' how has does leads =
    let here = at_start s (drop taken answers) trace.events in
    let after = at_start s' (drop taken' answers) trace'.events in
    let on : moment_after here (next_step here) ≡ Some after = ap (moment_after here) does ∙ leads in
    record {
      moment =
          ap (λ o. onward here o (λ x. x)) (sym on) ∙ ap once has.moment ∙ sym (after_steps-suc k start)
          ∙ ap (λ i. after_steps i start) (let e : suc k ≡ k + 1 = omega arith in e);
      going = all_one_more k start has.going (subst GoesOn has.moment (subst IsSome (sym on) refl));
    }

pub same_moment : (s : MachineState) (xs ys : List ℕ) (es fs : List Event) → xs ≡ ys → es ≡ fs
    → Some (at_start s xs es) ≡ Some (at_start s ys fs)
same_moment s xs ys es fs p q = ap (λ x. Some (at_start s x es)) p ∙ ap (λ x. Some (at_start s ys x)) q

-- what holds of a run of at most n steps that a step ended
pub record Ended (start : Moment) (n : ℕ) (s : MachineState) (trace : Recorded) (how : Stepped) : Type 0 where
  pub machine : s ≡ (after_steps n start).machine
  pub events : trace.events ≡ (after_steps n start).trace
  pub stopped : AllGoOn n start → ⊥
  pub shown : how ≡ (next_step (after_steps n start)).1

-- a step that ends the run
pub HasRun-end : (start : Moment) (k n taken : ℕ) (s s' : MachineState) (answers : List ℕ) (trace : Recorded)
    (how : Stepped)
    → HasRun start k taken s answers trace → k < n
    → next_step (at_start s (drop taken answers) trace.events) ≡ (s', how)
    → moment_after (at_start s (drop taken answers) trace.events) (s', how) ≡ None
    → goes_on how ≡ false
    → Ended start n s' trace how
HasRun-end start k n taken s s' answers trace how has early does stops ends =
    let here = at_start s (drop taken answers) trace.events in
    let stop : moment_after here (next_step here) ≡ None = ap (moment_after here) does ∙ stops in
    let stuck : moment_after (after_steps k start) (next_step (after_steps k start)) ≡ None =
    subst (λ m. moment_after m (next_step m) ≡ None) has.moment stop in
    let same : here ≡ after_steps n start = has.moment ∙ sym (after_steps-ended k n start (omega arith) stuck) in
    let kept : s' ≡ s = sym (ap (λ (p : MachineState × Stepped). p.0) does)
    ∙ step-ended s (next_answer here) how ends (ap (λ (p : MachineState × Stepped). p.1) does) in
    record {
      machine = kept ∙ ap (λ m. m.machine) same;
      events = ap (λ m. m.trace) same;
      stopped = λ all. absurd (false≢true (subst IsSome stuck (all k early)));
      shown = sym (ap (λ (p : MachineState × Stepped). p.1) does) ∙ ap (λ m. (next_step m).1) same;
    }
