-- How a run as it is kept leads to what the language says.
use Rattle.std.specs.Prelude.{◌≡◌, ℕ, ◌+◌, ◌%◌, ◌^◌, Bool, ◌&&◌, nat_le, ◌==◌, length, List, Option}
use Rattle.std.specs.Prelude.{Some, None, Result, Ok, Err, ⊤}
use Rattle.br_bytes.specs.declared.run.Choice.{Choice}
use Rattle.br_words.specs.Layout.{stack_base, stack_end}
use Rattle.br_bytes.specs.Buffers.{without_range}
use Rattle.br_base.specs.declared.failure.OrMemory.{OrMemory}
use Rattle.br_base.specs.declared.failure.OrMemory.TheVariants.{Memory, Fault}
use Rattle.br_syntax.specs.declared.program.Func.{Func}
use Rattle.br_source_meaning.specs.Runs.{State, End, Waiting, OutOfFuel, Undefined, NoChoice, Run}
use Rattle.br_source_meaning.specs.Runs.{Goes, Ends, then_do, Callee, Returned, Returns, Stops}
use Rattle.br_source_meaning.specs.Calls.{function_of}
use Rattle.br_source_meaning.specs.Values.{Name, Locals}
use Rattle.br_source_meaning.specs.Variables.{locals_of}
use Rattle.br_source_meaning.specs.declared.variables.Variables.{Variables}
use Rattle.br_source_meaning.specs.declared.held.Held.{Held}
use Rattle.br_source_meaning.specs.declared.running.Stop.{Stop}
use Rattle.br_source_meaning.specs.declared.running.Stop.TheVariants as stop
use Rattle.br_source_meaning.specs.declared.running.Running.{Running}

-- the names of variables, by their numbers
abbrev pub names_of : Variables → List Name
names_of v = v.names.now

-- the variables that are set
abbrev pub locals_in : Variables → Locals
locals_in v = locals_of (names_of v) v.words

-- the names of the variables of the function that runs
abbrev pub own_of : Running → List Name
own_of r = names_of r.variables

-- the state that a run is in
abbrev pub state_of : Running → State
state_of r =
    record {
      locals = locals_in r.variables;
      memory = r.memory;
      trace = r.trace;
      answers =
          r.answers.now;
      choices = r.choices.now;
      fuel = r.fuel;
    }

abbrev pub end_of : Stop → End
end_of (stop.Waiting a) = Waiting a
end_of stop.OutOfFuel = OutOfFuel
end_of stop.Undefined = Undefined
end_of stop.NoChoice = NoChoice

-- calls of a program's functions, at a depth that no fuel of 32 bits reaches
unfoldable pub deep_calls : List Func → Callee
deep_calls fs = function_of fs (2 ^ 32)

-- an answer and the state after it are a run; want of memory says nothing
abbrev pub Leads : {T : Type 0} → Result T (OrMemory Stop) → Running → Run → Type 0
Leads (Ok x) r run = run ≡ Goes (state_of r)
Leads (Err (Fault e)) r run = run ≡ Ends (end_of e) (state_of r)
Leads (Err Memory) r run = ⊤

-- the word that is there, or undefined where none is
abbrev pub IsDefined : {T : Type 0} → Result T (OrMemory Stop) → Option T → Type 0
IsDefined (Ok v) o = o ≡ Some v
IsDefined (Err (Fault e)) o = (e ≡ stop.Undefined) × (o ≡ None)
IsDefined (Err Memory) o = ⊤

-- the same of a function's body
abbrev pub LeadsBack : Result (List ℕ) (OrMemory Stop) → Running → Returned → Type 0
LeadsBack (Ok vs) r back = back ≡ Returns vs (state_of r)
LeadsBack (Err (Fault e)) r back = back ≡ Stops (end_of e) (state_of r)
LeadsBack (Err Memory) r back = ⊤

-- the addresses of a buffer leave memory
abbrev pub leaves : Held → State → Run
leaves h s = Goes (record s { memory = without_range s.memory h.addr h.size })

-- the same of a buffer that was taken for a body
abbrev pub Enters : Result Held (OrMemory Stop) → Running → (State → Run) → Run → Type 0
Enters (Ok h) r body run = run ≡ then_do (body (state_of r)) (leaves h)
Enters (Err (Fault e)) r body run = run ≡ Ends (end_of e) (state_of r)
Enters (Err Memory) r body run = ⊤

-- a choice that can be taken for a buffer of n bytes where its addresses are free
abbrev pub can_stand : ℕ → Choice → Bool
can_stand n c = (c.addr % 4 == 0) && (length c.bytes == n) && nat_le stack_base c.addr && nat_le
    (c.addr + n) stack_end
