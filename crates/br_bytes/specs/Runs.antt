-- What the runs of the source language and of flat programs share: states, ends, and the forms of
-- commands that do not look into an expression. A run goes on in a state or ends. `L` is what keeps
-- the local variables. After bedrock2's semantics (Integration Verification across Software and
-- Hardware for a Simple Embedded System, PLDI 2021): memory is partial, devices are asked from
-- outside, and the places of buffers are chosen from outside.
use Rattle.std.specs.Prelude.{ℕ, zero, suc, Bool, true, false, List}
use Rattle.std.specs.Prelude.{[], ◌∷◌, ◌++◌, Option, Some, None, ◌==◌}
use Rattle.br_words.specs.Device.{is_device_word}
use Rattle.br_bytes.specs.declared.run.Event.{Event}
use Rattle.br_bytes.specs.declared.run.Event.TheVariants.{Read, Write}
use Rattle.br_bytes.specs.declared.run.Choice.{Choice}
use Rattle.br_bytes.specs.declared.run.Outcome.{Outcome}
use Rattle.br_bytes.specs.declared.run.Outcome.TheVariants as outcome
use Rattle.br_bytes.specs.Memory.{Memory, with_bytes}
use Rattle.br_bytes.specs.Buffers.{is_good, without_range}
use Rattle.br_bytes.specs.Called.{Called}

-- what a run has at a moment
pub record State (L : Type 0) : Type 0 where
  -- the variables of the function that runs
  pub locals : L
  pub memory : Memory
  -- the events so far, the oldest first
  pub trace : List Event
  -- what device words will be read as, in turn
  pub answers : List ℕ
  -- the buffers that will be given, in turn
  pub choices : List Choice
  -- how many more turns of loops and calls may begin
  pub fuel : ℕ

-- the four ends of a whole run before its last command is done
pub data End : Type 0 where
  Waiting : ℕ → End
  OutOfFuel : End
  Undefined : End
  NoChoice : End

-- a run goes on in a state, or has ended in one
pub data Run (L : Type 0) : Type 0 where
  Goes : State L → Run L
  Ends : End → State L → Run L

-- a run, and what goes on from its state; each end stays
abbrev pub then_do : {L : Type 0} → Run L → (State L → Run L) → Run L
then_do (Goes s) next = next s
then_do (Ends end s) next = Ends end s

-- runs in turn
abbrev pub in_turn : {L : Type 0} → List (State L → Run L) → State L → Run L
in_turn [] s = Goes s
in_turn (first ∷ rest) s = then_do (first s) (in_turn rest)

-- goes on with what is there, and is undefined where nothing is
abbrev pub with_defined : {L X : Type 0} → Option X → State L → (X → Run L) → Run L
with_defined None s next = Ends Undefined s
with_defined (Some x) s next = next x

-- the first of two where a test holds, else the second
abbrev pub choose : {L : Type 0} → Bool → Run L → Run L → Run L
choose true first second = first
choose false first second = second

-- goes on with one unit of fuel less, and ends where none is left
abbrev pub with_fuel : {L : Type 0} → State L → (State L → Run L) → Run L
with_fuel {L} s next = spend s.fuel
  where
    spend : ℕ → Run L
    spend zero = Ends OutOfFuel s
    spend (suc k) = next (record s { fuel = k })

abbrev pub happens : {L : Type 0} → Event → State L → State L
happens event s = record s { trace = s.trace ++ event ∷ [] }

-- ---- buffers

-- The body runs while the next choice is in memory, with its address kept by `keep`; then the range
-- leaves memory.
abbrev pub with_buffer : {L : Type 0} → (ℕ → L → L) → ℕ → (State L → Run L) → State L → Run L
with_buffer {L} keep n body s = take_choice s.choices
  where
    take_choice : List Choice → Run L
    take_choice [] = Ends NoChoice s
    take_choice (c ∷ cs) =
        choose (is_good n s.memory c)
        (then_do
        (body (record s {
          locals = keep c.addr s.locals;
          memory = with_bytes s.memory c.addr c.bytes;
          choices = cs;
        }))
        (λ t. Goes (record t { memory = without_range t.memory c.addr n })))
        (Ends NoChoice s)

-- ---- loops

-- A loop of at most `bound` turns. A turn takes a unit of fuel, so the fuel at the start is enough:
-- where the bound is used up the fuel is too.
abbrev pub loop : {L : Type 0} → ℕ → (State L → Option ℕ) → (State L → Run L) → State L → Run L
loop zero test body s = with_defined (test s) s (λ v. choose (v == 0) (Goes s) (Ends OutOfFuel s))
loop (suc bound) test body s =
    with_defined (test s) s
    (λ v. choose (v == 0) (Goes s) (with_fuel s (λ t. then_do (body t) (loop bound test body))))

-- ---- devices

-- a device word is read: the next answer is taken, and kept by `keep`
abbrev pub read_device : {L : Type 0} → (ℕ → L → L) → ℕ → State L → Run L
read_device {L} keep a s = choose (is_device_word a) (take_answer s.answers) (Ends Undefined s)
  where
    take_answer : List ℕ → Run L
    take_answer [] = Ends (Waiting a) s
    take_answer (v ∷ vs) =
        Goes (happens (Read a v) (record s { locals = keep v s.locals; answers = vs }))

-- a device word is written
abbrev pub write_device : {L : Type 0} → ℕ → ℕ → State L → Run L
write_device a v s = choose (is_device_word a) (Goes (happens (Write a v) s)) (Ends Undefined s)

-- ---- calls

-- a call goes on in a state with the words of its results, or has ended
pub data Returned (L : Type 0) : Type 0 where
  Returns : List ℕ → State L → Returned L
  Stops : End → State L → Returned L

-- what a function does, by its name `N` and its arguments
abbrev pub Callee : Type 0 → Type 0 → Type 0
Callee N L = N → List ℕ → State L → Returned L

-- a callee's end as the caller goes on: with its own variables, and the results kept by `keep`
abbrev pub back_in : {L : Type 0} → (List ℕ → L → L) → L → Returned L → Run L
back_in keep locals (Returns vs s) = Goes (record s { locals = keep vs locals })
back_in keep locals (Stops end s) = Ends end s

-- a body's end as the function's: its results are read, and one that is not set is undefined
abbrev pub returned : {L : Type 0} → (L → Option (List ℕ)) → Run L → Returned L
returned {L} results (Goes s) = read (results s.locals)
  where
    read : Option (List ℕ) → Returned L
    read (Some vs) = Returns vs s
    read None = Stops Undefined s
returned results (Ends end s) = Stops end s

-- ---- what a call shows

abbrev pub outcome_of : End → Outcome
outcome_of (Waiting a) = outcome.Waiting a
outcome_of OutOfFuel = outcome.OutOfFuel
outcome_of Undefined = outcome.Undefined
outcome_of NoChoice = outcome.NoChoice

abbrev pub seen : {L : Type 0} → Returned L → Called
seen (Returns vs s) = record { outcome = outcome.Done vs; trace = s.trace; memory = s.memory }
seen (Stops end s) = record { outcome = outcome_of end; trace = s.trace; memory = s.memory }
