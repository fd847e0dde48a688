-- What commands do: big steps over the tree of a command. The language is a profile after
-- bedrock2's
-- (Integration Verification across Software and Hardware for a Simple Embedded System, PLDI 2021).
use Rattle.std.specs.Prelude.{ℕ, List, [], ◌∷◌, map, ◌==◌, codes}
use Rattle.std.specs.Str.{bytes_eq}
use Rattle.br_words.specs.Size.{size_of}
use Rattle.br_bytes.specs.Memory.{put_number}
use Rattle.br_bytes.specs.Runs as runs
pub use Rattle.br_bytes.specs.Runs.{End, Waiting, OutOfFuel, Undefined, NoChoice, Goes, Ends}
pub use Rattle.br_bytes.specs.Runs.{then_do, in_turn, with_defined, choose, with_fuel, happens}
pub use Rattle.br_bytes.specs.Runs.{with_buffer, loop, read_device, write_device, Returns, Stops}
pub use Rattle.br_bytes.specs.Runs.{back_in}
use Rattle.br_syntax.specs.declared.program.Cmd.{Cmd}
use Rattle.br_syntax.specs.declared.program.Cmd.TheOpen.{Cmd-F}
use Rattle.br_syntax.specs.declared.program.Cmd.TheFolds.{fold-Cmd}
use Rattle.br_source_meaning.specs.Values.{Name, Locals, with_local, without_local, value, values}

-- what a run of the source has at a moment
abbrev pub State : Type 0
State = runs.State Locals

-- a run of the source
abbrev pub Run : Type 0
Run = runs.Run Locals

-- what a call of a function comes to
abbrev pub Returned : Type 0
Returned = runs.Returned Locals

-- what a function does, by its name and its arguments
abbrev pub Callee : Type 0
Callee = runs.Callee Name Locals

abbrev pub set_to : Name → ℕ → State → State
set_to x v s = record s { locals = with_local x v s.locals }

-- ---- devices

abbrev pub read_by : List Name → List ℕ → State → Run
read_by (x ∷ []) (a ∷ []) s = read_device (with_local x) a s
read_by xs vs s = Ends Undefined s

abbrev pub write_by : List Name → List ℕ → State → Run
write_by [] (a ∷ v ∷ []) s = write_device a v s
write_by xs vs s = Ends Undefined s

-- An action on a device. An accepted program has no other than these two, with these counts.
abbrev pub interact : List Name → Name → List ℕ → State → Run
interact xs action vs s =
    choose (bytes_eq action (codes "MMIOREAD")) (read_by xs vs s)
    (choose (bytes_eq action (codes "MMIOWRITE")) (write_by xs vs s)
    (Ends Undefined s))

-- ---- calls

-- variables set to words in turn. An accepted program has as many words here as variables.
abbrev pub with_locals : List Name → List ℕ → Locals → Locals
with_locals (x ∷ xs) (v ∷ vs) locals = with_locals xs vs (with_local x v locals)
with_locals [] vs locals = locals
with_locals (x ∷ xs) [] locals = locals

-- ---- commands

-- a command, given what the commands in it do
abbrev pub command_step : Callee → Cmd-F (State → Run) → State → Run
command_step call Cmd-F.Skip s = Goes s
command_step call (Cmd-F.Set x e) s =
    with_defined (value s.locals s.memory e) s (λ v. Goes (set_to x v s))
command_step call (Cmd-F.Unset x) s = Goes (record s { locals = without_local x s.locals })
command_step call (Cmd-F.Store size a e) s =
    with_defined (value s.locals s.memory a) s (λ a.
    with_defined (value s.locals s.memory e) s (λ v.
    with_defined (put_number s.memory a (size_of size) v) s (λ m. Goes (record s { memory = m }))))
command_step call (Cmd-F.Stackalloc x n body) s = with_buffer (with_local x) n (in_turn body) s
command_step call (Cmd-F.If e first second) s =
    with_defined (value s.locals s.memory e) s
    (λ v. choose (v == 0) (in_turn second s) (in_turn first s))
command_step call (Cmd-F.While e body) s =
    loop s.fuel (λ t. value t.locals t.memory e) (in_turn body) s
command_step call (Cmd-F.Seq body) s = in_turn body s
command_step call (Cmd-F.Call at xs callee es) s =
    with_defined (values s.locals s.memory es) s
    (λ vs. with_fuel s (λ t. back_in (with_locals xs) s.locals (call callee vs t)))
command_step call (Cmd-F.Interact at xs action es) s =
    with_defined (values s.locals s.memory es) s (λ vs. interact xs action vs s)

-- what a command does from a state, given what functions do
abbrev pub run : Callee → Cmd → State → Run
run call = fold-Cmd (State → Run) (command_step call)

-- commands in turn
abbrev pub run_all : Callee → List Cmd → State → Run
run_all call cs = in_turn (map (run call) cs)
