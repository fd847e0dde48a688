-- Flat programs as they stand in code, and what the machine shows of their entries.
use Rattle.std.specs.Prelude.{◌≡◌, ◌⊎◌, ℕ, ◌+◌, ◌*◌, ◌%◌, ◌<◌, ◌≤◌, ◌&&◌}
use Rattle.std.specs.Prelude.{◌||◌, nat_le, Bool, true, IsTrue, List, [], ◌∷◌}
use Rattle.std.specs.Prelude.{length, map, sum, Option, Some, None, slice_get}
use Rattle.std.specs.List.{list_all}
use Rattle.br_words.specs.declared.layout.Layout.TheVariants.{Two}
use Rattle.br_words.specs.Layout.{code_base, stack_base, most_words}
use Rattle.br_bytes.specs.declared.run.Choice.{Choice}
use Rattle.br_bytes.specs.declared.run.Outcome.TheVariants.{Undefined}
use Rattle.br_bytes.specs.Memory.{Memory}
use Rattle.br_bytes.specs.Buffers.{AreWords, AreChoices}
use Rattle.br_bytes.specs.Called.{Called}
use Rattle.br_flatimp.specs.declared.program.Stmt.TheOpen.{Stmt-F}
use Rattle.br_flatimp.specs.declared.program.FlatFunc.{FlatFunc}
use Rattle.br_flatimp.specs.Parts.{written, throughout, callees, own_callees}
use Rattle.br_flatimp.specs.Liveness.{is_in}
use Rattle.br_flatimp.specs.WellFormed.{IsRegisterForm, is_passing, values_fit, uses_registers}
use Rattle.br_flatimp.specs.Sizes.{statement_bulk, nest, largest, flat_bulk}
use Rattle.br_flatimp.specs.Renaming.{ReadsNoForgotten}
use Rattle.br_flatimp.specs.Runs.{Forgets, call_forgetting, call}
use Rattle.br_machine.specs.Start.{Leftover, IsLeftover, IsInData, start}
use Rattle.br_emit.specs.Reaches.{Reaches}
use Rattle.br_emit.specs.Code.{Item, item_word, words_at, ItemFits, AllFit}
use Rattle.br_emit.specs.Code.{Targets, keeps_link, touches, framed_bytes}
use Rattle.br_emit.specs.Code.{callable_items, program_items, places, entry_place}

-- items stand in code from word j on, and fit
abbrev pub Placed : List ℕ → ℕ → List Item → Type 0
Placed code j [] = Unit {0}
Placed code j (i ∷ is) =
    (slice_get code j ≡ Some (item_word j i)) × ItemFits i × Placed code (j + 1) is

-- a statement of a program in register form, its parts aside: it writes names of a set, calls
-- functions of a set, and changes x1 only where that is in the set
abbrev pub is_fine : {X : Type 0} → List FlatFunc → (ℕ → Bool) → (ℕ → Bool) → Stmt-F X → Bool
is_fine fs touched called y =
    uses_registers y && values_fit fs y && list_all touched (written y)
    && list_all called (own_callees y) && (touched 1 || keeps_link y)

-- the functions that a function may call: its callees, where what they need is at most a limit
abbrev pub may_call : FlatFunc → (ℕ → ℕ) → ℕ → ℕ → Bool
may_call f need limit g = is_in (callees f) g && nat_le (need g) limit

-- What holds of the function numbered n: it is in register form, it needs what it saves,
-- its buffers and what its callees need at most, a unit of fuel pays for its steps, and
-- where it is called its code stands there.
pub record Function (code : List ℕ) (fs : List FlatFunc) (targets : Targets) (forgets : Forgets)
    (called : ℕ → Bool) (need limit : ℕ → ℕ) (total n : ℕ) (f : FlatFunc) : Type 0 where
  pub args : IsTrue (is_passing f.args)
  pub few_args : length f.args ≤ 8
  pub results : IsTrue (is_passing f.results)
  pub few_results : length f.results ≤ 8
  pub body : IsTrue (list_all
      (throughout (is_fine fs (touches targets.near forgets f) (may_call f need (limit n)))) f.body)
  pub bulk : 80 + sum (map statement_bulk f.body) ≤ total
  pub needs : framed_bytes targets.near forgets n f + nest f + limit n ≤ need n
  pub fours : nest f % 4 ≡ 0
  pub calls : (g : ℕ) → is_in (callees f) g ≡ true → called g ≡ true
  pub placed : called n ≡ true → (place : ℕ) × (targets.at n ≡ code_base Two + 4 * place)
      × Placed code place (callable_items targets forgets n f)

-- A program in code: `targets` are the addresses of the functions that are called, and
-- near only where each word is in the reach of JAL from each other; a call of g may
-- leave the registers `forgets g` changed, `need` and `limit` are the bytes of stack of
-- each function and of its callees, nothing of the stack below `low` is used, and
-- `total` pays for the steps of a unit of fuel.
pub record Laid : Type 0 where
  pub code : List ℕ
  pub fs : List FlatFunc
  pub targets : Targets
  pub forgets : Forgets
  pub called : ℕ → Bool
  pub need : ℕ → ℕ
  pub limit : ℕ → ℕ
  pub low : ℕ
  pub total : ℕ
  pub bottom : stack_base ≤ low
  pub reach : targets.near ≡ true → length code < 262144
  pub functions : (n : ℕ) (f : FlatFunc) → slice_get fs n ≡ Some f
      → Function code fs targets forgets called need limit total n f

-- what is shown of a call from outside: it is undefined with some choices, or the machine shows it
abbrev pub EntryShown : List ℕ → ℕ → List ℕ → Memory → List ℕ → Leftover → ℕ → ℕ → ℕ
    → (List Choice → Called) → Type 0
EntryShown code offset args m answers j fuel need bound called =
    (choices : List Choice) × AreChoices choices ×
    (((called choices).outcome ≡ Undefined)
    ⊎ Reaches (start Two code offset args m j) answers (called choices).outcome
    (called choices).trace (called choices).memory fuel need bound)

-- An entry at a place shows the calls of its function: for all arguments, memory, answers, leftover
-- contents and fuel, within a number of steps for each unit of fuel and one more.
abbrev pub ShowsCalls : Laid → ℕ → FlatFunc → ℕ → ℕ → ℕ → Type 0
ShowsCalls l n f place need all =
    (fuel : ℕ) (args : List ℕ) → length args ≡ length f.args → AreWords args
    → (m : Memory) → IsInData m → (answers : List ℕ) → AreWords answers → (j : Leftover)
    → IsLeftover j
    → EntryShown l.code (4 * place) args m answers j fuel need ((fuel + 1) * all)
    (λ choices. call_forgetting l.forgets l.fs n args m answers choices fuel)

-- ---- programs whose code is their items one after another

-- the most that a callee of the function numbered n needs
abbrev pub callee_need : List FlatFunc → (ℕ → ℕ) → ℕ → ℕ
callee_need fs need n = of_function (slice_get fs n)
  where
    of_function : Option FlatFunc → ℕ
    of_function None = 0
    of_function (Some f) = largest (map need (callees f))

-- A program in register form whose code is that of its functions in order, where a call of g may
-- leave the registers `forgets g` changed, and no function reads one that a call so changed.
-- `targets` are where the functions that are called stand, and `need` is at least what a function
-- saves, its buffers and the most that one of its callees needs.
pub record IsCodeOf (fs : List FlatFunc) (targets : Targets) (forgets : Forgets) (need : ℕ → ℕ)
    (code : List ℕ) : Type 0 where
  pub form : IsRegisterForm fs
  pub items : code ≡ words_at 0 (program_items targets forgets fs 0 fs)
  pub fit : AllFit (program_items targets forgets fs 0 fs)
  pub few : length code ≤ most_words Two
  pub reach : targets.near ≡ true → length code < 262144
  pub dead : ReadsNoForgotten forgets fs
  pub aimed : (n place : ℕ) → slice_get (places targets forgets fs 0 0 fs) n ≡ Some place
      → targets.at n ≡ code_base Two + 4 * place
  pub needs : (n : ℕ) (f : FlatFunc) → slice_get fs n ≡ Some f
      → framed_bytes targets.near forgets n f + nest f + callee_need fs need n ≤ need n

-- An entry shows each call of its function: for all arguments, memory, answers, leftover contents
-- and fuel, within the flat bulk of the program in steps for each unit of fuel and one more.
abbrev pub ShowsFunction : List FlatFunc → Targets → Forgets → (ℕ → ℕ) → List ℕ → ℕ
    → FlatFunc → ℕ → Type 0
ShowsFunction fs targets forgets need code n f place =
    (fuel : ℕ) (args : List ℕ) → length args ≡ length f.args → AreWords args
    → (m : Memory) → IsInData m → (answers : List ℕ) → AreWords answers → (j : Leftover)
    → IsLeftover j
    → EntryShown code (4 * entry_place targets forgets fs place n f) args m answers j fuel (need n)
    ((fuel + 1) * flat_bulk fs) (λ choices. call fs n args m answers choices fuel)
