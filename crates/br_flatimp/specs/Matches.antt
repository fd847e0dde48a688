-- How a run shows what another shows: the relation that a proof of Refines goes by. It is about
-- runs over any two kinds of variables, so the second may be one of the source language.
use Rattle.std.specs.Prelude.{◌≡◌, ℕ, List, Option, None, ◌⊎◌, ⊤}
use Rattle.br_bytes.specs.Runs.{State, Undefined, NoChoice, Run, Goes}
use Rattle.br_bytes.specs.Runs.{Ends, Returned, Returns, Stops, Callee}

-- two states have all but their variables in common
pub record SameOutside {L M : Type 0} (s : State L) (t : State M) : Type 0 where
  pub memory : s.memory ≡ t.memory
  pub trace : s.trace ≡ t.trace
  pub answers : s.answers ≡ t.answers
  pub choices : s.choices ≡ t.choices
  pub fuel : s.fuel ≡ t.fuel

-- two states have related variables and all else in common
pub record Beside {L M : Type 0} (related : L → M → Type 0) (s : State L)
    (t : State M) : Type 0 where
  pub locals : related s.locals t.locals
  pub outside : SameOutside s t

-- The first run has no choice, or the second is undefined, or both go on in states that `goes`
-- relates, or both have the same end in states that `ends` relates.
abbrev pub Matches : {L M : Type 0} → (State L → State M → Type 0) → (State L → State M → Type 0)
    → Run L → Run M → Type 0
Matches goes ends q (Ends Undefined t) = ⊤
Matches goes ends (Ends NoChoice s) p = ⊤
Matches goes ends (Goes s) (Goes t) = goes s t
Matches goes ends (Ends end s) (Ends other t) = (end ≡ other) × ends s t
Matches goes ends (Goes s) (Ends end t) = ⊥
Matches goes ends (Ends end s) (Goes t) = ⊥

-- the same of calls, which return the same words
abbrev pub CallMatches : {L M : Type 0} → (State L → State M → Type 0)
    → (State L → State M → Type 0) → Returned L → Returned M → Type 0
CallMatches goes ends q (Stops Undefined t) = ⊤
CallMatches goes ends (Stops NoChoice s) p = ⊤
CallMatches goes ends (Returns vs s) (Returns ws t) = (vs ≡ ws) × goes s t
CallMatches goes ends (Stops end s) (Stops other t) = (end ≡ other) × ends s t
CallMatches goes ends (Returns vs s) (Stops end t) = ⊥
CallMatches goes ends (Stops end s) (Returns vs t) = ⊥

-- the second word is not there, or the first is the same
abbrev pub IsSameDefined : {X : Type 0} → Option X → Option X → Type 0
IsSameDefined a b = (b ≡ None) ⊎ (a ≡ b)

-- two meanings of functions match, with the same function,
-- arguments and all but variables in common
abbrev pub CalleesMatch : {L M N : Type 0} → Callee N L → Callee N M → Type 0
CalleesMatch {L} {M} {N} q p =
    (g : N) (vs : List ℕ) (s : State L) (t : State M) → SameOutside s t
    → CallMatches SameOutside SameOutside (q g vs s) (p g vs t)
