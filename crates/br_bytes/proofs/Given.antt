-- What runs come to that are given more, and what is the same where nothing more is given.
use Rattle.std.proofs.Common.{◌≡◌, ◌≢◌, ℕ, zero, suc, ◌+◌, ◌≤◌, List, [], Option, Some, None, ◌⊎◌}
use Rattle.std.proofs.Common.{inl, inr, refl, sym, ap, subst, ◌∙◌, append-nil, add-zero, arith}
use Rattle.br_bytes.specs.declared.run.Choice.{Choice}
use Rattle.br_bytes.specs.declared.run.Outcome.TheVariants as outcome
use Rattle.br_bytes.specs.Memory.{Memory}
use Rattle.br_bytes.specs.Called.{Called}
use Rattle.br_bytes.specs.Runs.{State, End, Waiting, OutOfFuel, Undefined, NoChoice, Run, Goes, Ends, then_do}
use Rattle.br_bytes.specs.Runs.{with_defined, with_fuel, loop, Returned, Returns, Stops, outcome_of, seen}
use Rattle.br_bytes.specs.Left.{BeginsWith, last, last_of_call, with_more, Stays}
use Rattle.br_bytes.specs.Left.{OutcomeStays, IsSameWithMore, IsSameCallWithMore}
use Rattle.br_bytes.proofs.Leaves.{begins_refl, Takes}
use Rattle.br_bytes.proofs.Widens.{More, widen, IsPutOff, Alike, AlikeCalls, AreAlike, alike-loop}

pub begins-seen : {L : Type 0} (m : More) (r q : Returned L) → AlikeCalls m r q
    → BeginsWith (seen q).trace (seen r).trace
begins-seen m (Returns vs t) q h = subst (λ z. BeginsWith (seen z).trace t.trace) (sym h) (begins_refl t.trace)
begins-seen m (Stops end t) q (inl h) = subst (λ z. BeginsWith (seen z).trace t.trace) (sym h) (begins_refl t.trace)
begins-seen m (Stops end t) (Returns vs u) (inr h) = h.1
begins-seen m (Stops end t) (Stops other u) (inr h) = h.1

pub same-seen : {L : Type 0} (m : More) (r q : Returned L) → AlikeCalls m r q
    → ((end : End) → (seen r).outcome ≡ outcome_of end → IsPutOff m end → ⊥) → seen q ≡ seen r
same-seen m (Returns vs t) q h stays = ap seen h
same-seen m (Stops end t) q (inl h) stays = ap seen h
same-seen m (Stops end t) q (inr h) stays = absurd (stays end refl h.0)

abbrev pub fuel_more : ℕ → More
fuel_more n = record { fuel = n; answers = []; choices = [] }

abbrev pub lists_more : List ℕ → List Choice → More
lists_more vs cs = record { fuel = 0; answers = vs; choices = cs }

pub fuel_stays : (n : ℕ) (c : Called) → c.outcome ≢ outcome.OutOfFuel → (end : End) → c.outcome ≡ outcome_of end
    → IsPutOff (fuel_more n) end → ⊥
fuel_stays n c other (Waiting a) is off = off refl
fuel_stays n c other OutOfFuel is off = other is
fuel_stays n c other NoChoice is off = off refl
fuel_stays n c other Undefined is off = off

pub widen-lists : {L : Type 0} (vs : List ℕ) (cs : List Choice) (s : State L)
    → widen (lists_more vs cs) s ≡ with_more vs cs s
widen-lists vs cs s = ap (λ k. record (with_more vs cs s) { fuel = k }) (add-zero s.fuel)

-- an end stays, or is put off by the lists that are more
is_same_end : (vs : List ℕ) (cs : List Choice) (end : End) → Stays end vs cs → IsPutOff (lists_more vs cs) end → ⊥
is_same_end vs cs (Waiting a) stays off = off stays
is_same_end vs cs OutOfFuel stays off = omega arith
is_same_end vs cs NoChoice stays off = off stays
is_same_end vs cs Undefined stays off = off

last-with_more : {L : Type 0} (vs : List ℕ) (cs : List Choice) (end : End) (t : State L) (q : Run L)
    → (q ≡ Ends end (widen (lists_more vs cs) t))
    ⊎ (IsPutOff (lists_more vs cs) end × BeginsWith (last q).trace t.trace) → BeginsWith (last q).trace t.trace
last-with_more vs cs end t q (inl h) = subst (λ z. BeginsWith (last z).trace t.trace) (sym h) (begins_refl t.trace)
last-with_more vs cs end t q (inr h) = h.1

ends-with_more : {L : Type 0} (vs : List ℕ) (cs : List Choice) (end : End) (t : State L) (q : Run L)
    → (q ≡ Ends end (widen (lists_more vs cs) t)) ⊎ (IsPutOff (lists_more vs cs) end
    × BeginsWith (last q).trace t.trace) → Stays end vs cs → q ≡ Ends end (with_more vs cs t)
ends-with_more vs cs end t q (inl h) stays = h ∙ ap (Ends end) (widen-lists vs cs t)
ends-with_more vs cs end t q (inr h) stays = absurd (is_same_end vs cs end stays h.0)

pub same-run : {L : Type 0} (vs : List ℕ) (cs : List Choice) (r q : Run L) → Alike (lists_more vs cs) r q
    → IsSameWithMore vs cs r q
same-run vs cs (Goes t) q h = h ∙ ap Goes (widen-lists vs cs t)
same-run vs cs (Ends end t) q h = (ends-with_more vs cs end t q h, last-with_more vs cs end t q h)

pub same-call : {L : Type 0} (vs : List ℕ) (cs : List Choice) (r q : Returned L) → AlikeCalls (lists_more vs cs) r q
    → IsSameCallWithMore vs cs r q
same-call vs cs (Returns ws t) q h = h ∙ ap (Returns ws) (widen-lists vs cs t)
same-call vs cs (Stops end t) q (inl h) = (
  (λ stays. h ∙ ap (Stops end) (widen-lists vs cs t)),
  subst (λ z. BeginsWith (last_of_call z).trace t.trace) (sym h) (begins_refl t.trace),
)
same-call vs cs (Stops end t) q (inr h) = ((λ stays. absurd (is_same_end vs cs end stays h.0)), h.1)

pub lists_stay : (vs : List ℕ) (cs : List Choice) (c : Called) → OutcomeStays c.outcome vs cs → (end : End)
    → c.outcome ≡ outcome_of end → IsPutOff (lists_more vs cs) end → ⊥
lists_stay vs cs c stays (Waiting a) is off = off (subst (λ o. OutcomeStays o vs cs) is stays)
lists_stay vs cs c stays OutOfFuel is off = omega arith
lists_stay vs cs c stays NoChoice is off = off (subst (λ o. OutcomeStays o vs cs) is stays)
lists_stay vs cs c stays Undefined is off = off

-- ---- where nothing more is given

-- nothing more
abbrev pub none : More
none = record { fuel = 0; answers = []; choices = [] }

pub widen-none : {L : Type 0} (s : State L) → widen none s ≡ s
widen-none s =
    ap (λ vs. record (widen none s) { answers = vs }) (append-nil s.answers)
    ∙ ap (λ cs. record s { choices = cs; fuel = s.fuel + 0 }) (append-nil s.choices)
    ∙ ap (λ n. record s { fuel = n }) (add-zero s.fuel)

never_off : (end : End) → IsPutOff none end → ⊥
never_off (Waiting a) h = h refl
never_off OutOfFuel h = omega arith
never_off Undefined h = h
never_off NoChoice h = h refl

pub same-alike : {L : Type 0} (r q : Run L) → Alike none r q → q ≡ r
same-alike (Goes t) q h = h ∙ ap Goes (widen-none t)
same-alike (Ends end t) q (inl h) = h ∙ ap (Ends end) (widen-none t)
same-alike (Ends end t) q (inr h) = absurd (never_off end h.0)

alike_refl : {L : Type 0} (r : Run L) → Alike none r r
alike_refl (Goes t) = ap Goes (sym (widen-none t))
alike_refl (Ends end t) = inl (ap (Ends end) (sym (widen-none t)))

are_alike_refl : {L : Type 0} (f : State L → Run L) (n : ℕ) → AreAlike none n f f
are_alike_refl f n s h = subst (λ t. Alike none (f s) (f t)) (sym (widen-none s)) (alike_refl (f s))

pub same-alike_calls : {L : Type 0} (r q : Returned L) → AlikeCalls none r q → q ≡ r
same-alike_calls (Returns vs t) q h = h ∙ ap (Returns vs) (widen-none t)
same-alike_calls (Stops end t) q (inl h) = h ∙ ap (Stops end) (widen-none t)
same-alike_calls (Stops end t) q (inr h) = absurd (never_off end h.0)

pub loop-bound : {L : Type 0} (low high : ℕ) (look : L → Memory → Option ℕ) (body : State L → Run L)
    → Takes body → (s : State L) → s.fuel ≤ low → s.fuel ≤ high
    → loop high (λ t. look t.locals t.memory) body s ≡ loop low (λ t. look t.locals t.memory) body s
loop-bound {L} low high look body takes s a b =
    let test : State L → Option ℕ = λ t. look t.locals t.memory in
    let both = alike-loop none s.fuel low high look body body (are_alike_refl body s.fuel) takes takes s (omega arith) a
    (omega arith) in
    same-alike (loop low test body s) (loop high test body s)
    (subst (λ t. Alike none (loop low test body s) (loop high test body t)) (widen-none s) both)

-- what goes on may be replaced by what is the same from the states that are met
pub same-then_do : {L : Type 0} (r : Run L) (f g : State L → Run L) → ((t : State L) → r ≡ Goes t → f t ≡ g t)
    → then_do r f ≡ then_do r g
same-then_do (Goes t) f g h = h t refl
same-then_do (Ends end t) f g h = refl

pub same-with_defined : {L X : Type 0} (o : Option X) (s : State L) (f g : X → Run L) → ((x : X) → f x ≡ g x)
    → with_defined o s f ≡ with_defined o s g
same-with_defined None s f g h = refl
same-with_defined (Some x) s f g h = h x

pub same-spend : {L : Type 0} (n : ℕ) (s : State L) (f g : State L → Run L)
    → ((k : ℕ) → n ≡ suc k → f (record s { fuel = k }) ≡ g (record s { fuel = k }))
    → with_fuel (record s { fuel = n }) f ≡ with_fuel (record s { fuel = n }) g
same-spend zero s f g h = refl
same-spend (suc k) s f g h = h k refl
