-- What a run leaves of what it had, and states that have more. `L` is what keeps the local
-- variables, and `N` the names of functions.
use Rattle.std.specs.Prelude.{◌≡◌, ℕ, ◌≤◌, List, [], ◌++◌, ⊤}
use Rattle.br_bytes.specs.declared.run.Choice.{Choice}
use Rattle.br_bytes.specs.declared.run.Outcome.{Outcome}
use Rattle.br_bytes.specs.declared.run.Outcome.TheVariants as outcome
use Rattle.br_bytes.specs.Runs.{State, End, Waiting, OutOfFuel, Undefined, NoChoice}
use Rattle.br_bytes.specs.Runs.{Run, Goes, Ends, Returned, Returns, Stops, Callee}

-- a list begins with another
abbrev pub BeginsWith : {X : Type 0} → List X → List X → Type 0
BeginsWith {X} xs front = (rest : List X) × (xs ≡ front ++ rest)

-- a list ends with another
abbrev pub EndsWith : {X : Type 0} → List X → List X → Type 0
EndsWith {X} xs back = (taken : List X) × (xs ≡ taken ++ back)

-- From `s` a run can have come to `t`: the earlier events stay, answers and choices are taken from
-- the front, and fuel does not grow.
abbrev pub CanLeave : {L : Type 0} → State L → State L → Type 0
CanLeave s t = BeginsWith t.trace s.trace × EndsWith s.answers t.answers
    × EndsWith s.choices t.choices × (t.fuel ≤ s.fuel)

-- the state that a run has come to
abbrev pub last : {L : Type 0} → Run L → State L
last (Goes s) = s
last (Ends end s) = s

-- the state that a call of a function has come to
abbrev pub last_of_call : {L : Type 0} → Returned L → State L
last_of_call (Returns vs s) = s
last_of_call (Stops end s) = s

-- from every state, calls of functions come only to what a run can leave
abbrev pub OnlyTakes : {N L : Type 0} → Callee N L → Type 0
OnlyTakes {N} {L} call =
    (f : N) (vs : List ℕ) (s : State L) → CanLeave s (last_of_call (call f vs s))

-- a state with more answers and choices after its own
abbrev pub with_more : {L : Type 0} → List ℕ → List Choice → State L → State L
with_more vs cs s = record s { answers = s.answers ++ vs; choices = s.choices ++ cs }

-- An end stays where more answers and choices are given: a run that waits takes the first of the
-- answers, and one with no choice that it can take may take the first of the choices.
abbrev pub Stays : End → List ℕ → List Choice → Type 0
Stays (Waiting a) vs cs = vs ≡ []
Stays NoChoice vs cs = cs ≡ []
Stays OutOfFuel vs cs = ⊤
Stays Undefined vs cs = ⊤

-- the same of the outcome of a call
abbrev pub OutcomeStays : Outcome → List ℕ → List Choice → Type 0
OutcomeStays (outcome.Waiting a) vs cs = vs ≡ []
OutcomeStays outcome.NoChoice vs cs = cs ≡ []
OutcomeStays outcome.OutOfFuel vs cs = ⊤
OutcomeStays outcome.Undefined vs cs = ⊤
OutcomeStays (outcome.Done ws) vs cs = ⊤

-- A run, and one that was given more answers and choices: where the first goes on, or its end
-- stays, the second comes to the same, and what it was given is still there; in any case its
-- events begin with those of the first.
abbrev pub IsSameWithMore : {L : Type 0} → List ℕ → List Choice → Run L → Run L → Type 0
IsSameWithMore vs cs (Goes t) more = more ≡ Goes (with_more vs cs t)
IsSameWithMore vs cs (Ends end t) more =
    (Stays end vs cs → more ≡ Ends end (with_more vs cs t)) × BeginsWith (last more).trace t.trace

-- the same of what a function does
abbrev pub IsSameCallWithMore : {L : Type 0} → List ℕ → List Choice → Returned L
    → Returned L → Type 0
IsSameCallWithMore vs cs (Returns ws t) more = more ≡ Returns ws (with_more vs cs t)
IsSameCallWithMore vs cs (Stops end t) more = (Stays end vs cs
    → more ≡ Stops end (with_more vs cs t)) × BeginsWith (last_of_call more).trace t.trace
