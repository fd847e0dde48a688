-- What it means that a program refines another, whatever languages they are written in.
use Rattle.std.specs.Prelude.{◌≡◌, ◌≢◌, ℕ, ◌<◌, ◌≤◌, List, length}
use Rattle.std.specs.Prelude.{map, ◌⊎◌, IfSome, Some, slice_get}
use Rattle.std.specs.FinMap as map
use Rattle.br_words.specs.Layout.{data_base, stack_base}
use Rattle.br_bytes.specs.declared.run.Choice.{Choice}
use Rattle.br_bytes.specs.declared.run.Outcome.TheVariants as outcome
use Rattle.br_bytes.specs.Memory.{Memory}
use Rattle.br_bytes.specs.Buffers.{AreWords, AreChoices}
use Rattle.br_bytes.specs.Called.{Called}
use Rattle.br_flatimp.specs.declared.program.FlatFunc.{FlatFunc}
use Rattle.br_flatimp.specs.Runs.{Forgets, forgets_none, call_forgetting}

-- what callers see of a function: its name, and its counts of arguments and results
pub record Signature : Type 0 where
  pub name : List ℕ
  pub args : ℕ
  pub results : ℕ

-- What callers see of a program: its functions in order, and what a call of one from
-- outside does, by its number, its arguments, the memory, the answers of devices,
-- the choices of buffers, and the fuel.
pub record Meaning : Type 0 where
  pub signatures : List Signature
  pub call : ℕ → List ℕ → Memory → List ℕ → List Choice → ℕ → Called

-- each address of a memory is in the data region, and each byte is one
abbrev pub IsInData : Memory → Type 0
IsInData m = (a : ℕ) → IfSome (map.get m a) (λ b. (data_base ≤ a) × (a < stack_base) × (b < 256))

-- two memories have the same bytes in the data region
abbrev pub IsSameData : Memory → Memory → Type 0
IsSameData m n = (a : ℕ) → data_base ≤ a → a < stack_base → map.get m a ≡ map.get n a

-- The second call is undefined, or the two have the same end with the same words or address, the
-- same events, and the same bytes of the data region.
abbrev pub Shows : Called → Called → Type 0
Shows q p =
    (p.outcome ≡ outcome.Undefined)
    ⊎ ((q.outcome ≡ p.outcome) × (q.trace ≡ p.trace) × IsSameData q.memory p.memory)

-- a call that Refines speaks of: a function of the program with words for its arguments, a memory
-- in the data region, and words as answers
pub record IsCall (p : Meaning) (g : ℕ) (args : List ℕ) (m : Memory)
    (answers : List ℕ) : Type 0 where
  pub signature : Signature
  pub there : slice_get p.signatures g ≡ Some signature
  pub count : length args ≡ signature.args
  pub words : AreWords args
  pub in_data : IsInData m
  pub answer_words : AreWords answers

-- The program q refines p: they have the same functions and counts, and for each
-- list of choices that is enough for a call of q there is a list with which the
-- call of p is undefined or shows the same.
pub record Refines (q p : Meaning) : Type 0 where
  pub same : q.signatures ≡ p.signatures
  pub calls : (g : ℕ) (args : List ℕ) (m : Memory) (answers : List ℕ) (choices : List
      Choice) (fuel : ℕ) →
      IsCall p g args m answers → AreChoices choices →
      (q.call g args m answers choices fuel).outcome ≢ outcome.NoChoice →
      (others : List Choice) × AreChoices others
      × Shows (q.call g args m answers choices fuel) (p.call g args m answers others fuel)

abbrev pub signature : FlatFunc → Signature
signature f = record { name = f.name; args = length f.args; results = length f.results }

-- the meaning of a flat program in which calls forget names
abbrev pub forgetting : Forgets → List FlatFunc → Meaning
forgetting forgets fs = record { signatures = map signature fs; call = call_forgetting forgets fs }

-- the meaning of a flat program
abbrev pub meaning : List FlatFunc → Meaning
meaning fs = forgetting forgets_none fs
