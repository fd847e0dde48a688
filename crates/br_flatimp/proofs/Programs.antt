-- From functions whose bodies match to programs that refine: with the same choices, calls match at each depth.
use Rattle.std.proofs.Common.{◌≡◌, ◌≢◌, ℕ, zero, suc, List, Option, Some}
use Rattle.std.proofs.Common.{None, inl, inr, refl, sym, ap, subst, slice_get}
use Rattle.std.specs.FinMap as map
use Rattle.br_bytes.specs.declared.run.Outcome.TheVariants as outcome
use Rattle.br_bytes.specs.Runs.{State, End, Waiting, OutOfFuel, Undefined, NoChoice, Run, Goes}
use Rattle.br_bytes.specs.Runs.{Ends, Returned, Returns, Stops, returned, outcome_of, seen}
use Rattle.br_flatimp.specs.declared.program.FlatFunc.{FlatFunc}
use Rattle.br_flatimp.specs.Runs as flat
use Rattle.br_flatimp.specs.Runs.{Callee, Forgets, enter, function_of, begin}
use Rattle.br_flatimp.specs.Matches.{SameOutside, Matches, CallMatches, CalleesMatch, IsSameDefined}
use Rattle.br_flatimp.specs.Refines.{Shows, Refines, forgetting}

-- ---- ends of functions

read-matches : {L M : Type 0} (C E : State L → State M → Type 0) (o p : Option (List ℕ)) (s : State L) (t : State M)
    → IsSameDefined o p → C s t → CallMatches C E (returned (λ l. o) (Goes s)) (returned (λ m. p) (Goes t))
read-matches C E o None s t h k = tt
read-matches C E o (Some ws) s t (inl none) k = absurd (cc none)
read-matches C E o (Some ws) s t (inr same) k =
    subst (λ r. CallMatches C E (returned (λ l. r) (Goes s)) (Returns ws t)) (sym same) (refl, k)

stops-match : {L M : Type 0} (G C E : State L → State M → Type 0) (end other : End) (s : State L) (t : State M)
    → Matches G E (Ends end s) (Ends other t) → CallMatches C E (Stops end s) (Stops other t)
stops-match G C E end Undefined s t h = tt
stops-match G C E NoChoice (Waiting b) s t h = tt
stops-match G C E NoChoice OutOfFuel s t h = tt
stops-match G C E NoChoice NoChoice s t h = tt
stops-match G C E (Waiting a) (Waiting b) s t h = h
stops-match G C E (Waiting a) OutOfFuel s t h = h
stops-match G C E (Waiting a) NoChoice s t h = h
stops-match G C E OutOfFuel (Waiting b) s t h = h
stops-match G C E OutOfFuel OutOfFuel s t h = h
stops-match G C E OutOfFuel NoChoice s t h = h
stops-match G C E Undefined (Waiting b) s t h = h
stops-match G C E Undefined OutOfFuel s t h = h
stops-match G C E Undefined NoChoice s t h = h

no_choice-matches : {L M : Type 0} (C E : State L → State M → Type 0) (s : State L) (p : Returned M)
    → CallMatches C E (Stops NoChoice s) p
no_choice-matches C E s (Returns ws t) = tt
no_choice-matches C E s (Stops Undefined t) = tt
no_choice-matches C E s (Stops (Waiting b) t) = tt
no_choice-matches C E s (Stops OutOfFuel t) = tt
no_choice-matches C E s (Stops NoChoice t) = tt

-- bodies that match, as functions: where the results of the second are set, the first has the same
pub matches-returned : {L M : Type 0} (G C E : State L → State M → Type 0) (f : L → Option (List ℕ)) (g : M
    → Option (List ℕ)) (q : Run L) (p : Run M) → Matches G E q p → ((s : State L) (t : State M) → G s t
    → IsSameDefined (f s.locals) (g t.locals) × C s t) → CallMatches C E (returned f q) (returned g p)
matches-returned G C E f g (Goes s) (Goes t) h results =
    let both = results s t h in read-matches C E (f s.locals) (g t.locals) s t both.0 both.1
matches-returned G C E f g (Goes s) (Ends Undefined t) h results = tt
matches-returned G C E f g (Goes s) (Ends (Waiting a) t) h results = absurd h
matches-returned G C E f g (Goes s) (Ends OutOfFuel t) h results = absurd h
matches-returned G C E f g (Goes s) (Ends NoChoice t) h results = absurd h
matches-returned G C E f g (Ends NoChoice s) (Goes t) h results = no_choice-matches C E s (returned g (Goes t))
matches-returned G C E f g (Ends (Waiting a) s) (Goes t) h results = absurd h
matches-returned G C E f g (Ends OutOfFuel s) (Goes t) h results = absurd h
matches-returned G C E f g (Ends Undefined s) (Goes t) h results = absurd h
matches-returned G C E f g (Ends end s) (Ends other t) h results = stops-match G C E end other s t h

-- ---- calls from outside

-- calls that match show the same
pub matches-seen : {L M : Type 0} (q : Returned L) (p : Returned M) → CallMatches SameOutside SameOutside q p
    → (seen q).outcome ≢ outcome.NoChoice → Shows (seen q) (seen p)
matches-seen (Returns vs s) (Returns ws t) h has =
    inr (ap outcome.Done h.0, h.1.trace, (λ a low high. ap (λ m. map.get m a) h.1.memory))
matches-seen q (Stops Undefined t) h has = inl refl
matches-seen (Stops NoChoice s) p h has = absurd (has refl)
matches-seen (Stops end s) (Stops other t) h has =
    inr (ap outcome_of h.0, h.1.trace, (λ a low high. ap (λ m. map.get m a) h.1.memory))
matches-seen (Returns vs s) (Stops end t) h has = absurd h
matches-seen (Stops end s) (Returns ws t) h has = absurd h

-- ---- programs of flat functions

-- entering the functions of two programs matches where their callees match
abbrev pub EntriesMatch : Forgets → Forgets → List FlatFunc → List FlatFunc → Type 0
EntriesMatch fq fp qs ps =
    (q p : Callee) → CalleesMatch q p → (g : ℕ) (vs : List ℕ) (s t : flat.State) → SameOutside s t →
    CallMatches SameOutside SameOutside (enter fq q (slice_get qs g) vs s) (enter fp p (slice_get ps g) vs t)

pub matches-function_of : (fq fp : Forgets) (qs ps : List FlatFunc) → EntriesMatch fq fp qs ps → (depth : ℕ)
    → CalleesMatch (function_of fq qs depth) (function_of fp ps depth)
matches-function_of fq fp qs ps entries zero g vs s t same = (refl, same)
matches-function_of fq fp qs ps entries (suc depth) g vs s t same =
    entries (function_of fq qs depth) (function_of fp ps depth)
    (matches-function_of fq fp qs ps entries depth) g vs s t same

same_outside-itself : (s : flat.State) → SameOutside s s
same_outside-itself s = record { memory = refl; trace = refl; answers = refl; choices = refl; fuel = refl }

-- a program refines another with the same functions and counts where entering them matches
pub refines-from_entries : (fq fp : Forgets) (qs ps : List FlatFunc) → (forgetting fq qs).signatures
    ≡ (forgetting fp ps).signatures → EntriesMatch fq fp qs ps → Refines (forgetting fq qs) (forgetting fp ps)
refines-from_entries fq fp qs ps same entries = record {
  same = same;
  calls = λ g args m answers choices fuel is good has.
      let start : flat.State = begin m answers choices fuel in
      let q = enter fq (function_of fq qs fuel) (slice_get qs g) args start in
      let p = enter fp (function_of fp ps fuel) (slice_get ps g) args start in (
        choices,
        good,
        matches-seen q p (entries (function_of fq qs fuel) (function_of fp ps fuel)
            (matches-function_of fq fp qs ps entries fuel) g args start start (same_outside-itself start)) has,
      );
}
