-- Work that is pending: what each piece of it does, and how heavy it is.
use Rattle.std.specs.Prelude.{◌≡◌, ℕ, ◌+◌, List, [], ◌∷◌, map, sum, Option, Some, None, Result, Ok}
use Rattle.std.specs.Prelude.{Err, ⊤}
use Rattle.br_base.specs.declared.failure.NoMemory.{NoMemory}
use Rattle.br_base.specs.declared.failure.OrMemory.{OrMemory}
use Rattle.br_base.specs.declared.failure.OrMemory.TheVariants.{Memory, Fault}
use Rattle.br_syntax.specs.declared.program.Cmd.TheVariants.{While}
use Rattle.br_source_meaning.specs.Runs.{State, Run, Goes, Ends, then_do, with_fuel, Callee}
use Rattle.br_source_meaning.specs.Runs.{with_locals, back_in, run, run_all}
use Rattle.br_source_meaning.specs.Calls.{words_of, returned}
use Rattle.br_source_meaning.specs.Names.{names_at}
use Rattle.br_source_meaning.specs.Numbered.{named_expr, named_commands, target_name}
use Rattle.br_source_meaning.specs.Values.{Name}
use Rattle.br_source_meaning.specs.Running.{names_of, locals_in, own_of, state_of, end_of, leaves}
use Rattle.br_source_meaning.specs.declared.running.Stop.{Stop}
use Rattle.br_source_meaning.specs.declared.running.Running.{Running}
use Rattle.br_source_meaning.specs.declared.numbered.NumberedCmd.{NumberedCmd}
use Rattle.br_source_meaning.specs.declared.numbered.NumberedCmd.TheOpen.{NumberedCmd-F}
use Rattle.br_source_meaning.specs.declared.numbered.NumberedCmd.TheFolds.{fold-NumberedCmd}
use Rattle.br_source_meaning.specs.declared.pending.Frame.{Frame}
use Rattle.br_source_meaning.specs.declared.pending.Frame.TheVariants as frame
use Rattle.br_source_meaning.specs.declared.pending.Turn.{Turn}
use Rattle.br_source_meaning.specs.declared.pending.Turn.TheVariants as turn
use Rattle.br_source_meaning.specs.declared.pending.Work.{Work}
use Rattle.br_source_meaning.specs.declared.pending.Work.TheVariants as work

-- what a frame does, where functions have these names and the variables of the function that runs
-- those
abbrev pub resume : List Name → List Name → Callee → Frame → State → Run
resume names own call (frame.Body b) s = run_all call (named_commands names own b.commands.now) s
resume names own call (frame.Loop l) s =
    run call (While (named_expr own l.test.now) (named_commands names own l.commands.now)) s
resume names own call (frame.Leave h) s = leaves h s
resume names own call (frame.Return from to caller) s =
    back_in (with_locals (names_at (names_of caller) to.now)) (locals_in caller)
    (returned (words_of (names_at own from.now)) (Goes s))

-- the names of variables after a frame: those of the caller after the end of a call
abbrev pub after : List Name → Frame → List Name
after own (frame.Body b) = own
after own (frame.Loop l) = own
after own (frame.Leave h) = own
after own (frame.Return from to caller) = names_of caller

-- and after all that is pending
abbrev pub after_all : List Name → List Frame → List Name
after_all own [] = own
after_all own (f ∷ fs) = after (after_all own fs) f

-- a run, and then what is pending, the last frame first
abbrev pub finish : List Name → List Name → Callee → List Frame → Run → Run
finish names own call [] r = r
finish names own call (f ∷ fs) r =
    then_do (finish names own call fs r) (resume names (after_all own fs) call f)

-- what takes fuel does once it has it
abbrev pub begins : List Name → List Name → Callee → Turn → State → Run
begins names own call (turn.Loop l) s =
    then_do (run_all call (named_commands names own l.commands.now) s)
    (run call (While (named_expr own l.test.now) (named_commands names own l.commands.now)))
begins names own call (turn.Call ks f vs) s =
    back_in (with_locals (names_at own ks.now)) s.locals (call (target_name names f.now) vs s)

-- what is left of a command does
abbrev pub does : List Name → List Name → Callee → Work → State → Run
does names own call work.Done s = Goes s
does names own call (work.Body b) s = run_all call (named_commands names own b.commands.now) s
does names own call (work.Buffer b) s =
    then_do (run_all call (named_commands names own b.body.commands.now) s) (leaves b.held)
does names own call (work.Turn t) s = with_fuel s (begins names own call t)

-- ---- answers and what they say of runs; want of memory says nothing

-- what a command leaves to be done
abbrev pub LeavesWork : Result Work (OrMemory Stop) → List Name → Callee → Running → Run → Type 0
LeavesWork (Ok w) names call r run = run ≡ does names (own_of r) call w (state_of r)
LeavesWork (Err (Fault e)) names call r run = run ≡ Ends (end_of e) (state_of r)
LeavesWork (Err Memory) names call r run = ⊤

-- what a frame leaves to be done, where `new` is pending then, and before it `old`
abbrev pub Resumes : Result Work (OrMemory Stop) → List Name → Callee → Running → List Frame
    → List Frame → Run → Type 0
Resumes (Ok w) names call r new old run = finish names (own_of r) call old run
    ≡ finish names (own_of r) call new (does names (own_of r) call w (state_of r))
Resumes (Err (Fault e)) names call r new old run = run ≡ Ends (end_of e) (state_of r)
Resumes (Err Memory) names call r new old run = ⊤

-- work is pending, or is given back as it takes fuel
abbrev pub IsLaidDown : Result (Option Turn) NoMemory → List Name → List Name → Callee → List Frame
    → List Frame → Work → State → Type 0
IsLaidDown (Ok None) names own call new old w s =
    finish names own call old (does names own call w s) ≡ finish names own call new (Goes s)
IsLaidDown (Ok (Some t)) names own call new old w s =
    finish names own call old (does names own call w s)
    ≡ finish names own call new (with_fuel s (begins names own call t))
IsLaidDown (Err e) names own call new old w s = ⊤

-- a run is over, or pauses before what takes fuel
abbrev pub Pauses : Result (Option Turn) (OrMemory Stop) → List Name → Callee → Running → List Frame
    → Run → Type 0
Pauses (Ok None) names call r pending run = run ≡ Goes (state_of r)
Pauses (Ok (Some t)) names call r pending run = run
    ≡ finish names (own_of r) call pending (with_fuel (state_of r) (begins names (own_of r) call t))
Pauses (Err (Fault e)) names call r pending run = run ≡ Ends (end_of e) (state_of r)
Pauses (Err Memory) names call r pending run = ⊤

-- what took fuel is pending, and the names of variables were `own` before
abbrev pub Starts : {T : Type 0} → Result T (OrMemory Stop) → List Name → List Name → Callee
    → Running → List Frame → List Frame → Run → Type 0
Starts (Ok x) names own call r new old run = finish names own call old run
    ≡ finish names (own_of r) call new (Goes (state_of r))
Starts (Err (Fault e)) names own call r new old run = run ≡ Ends (end_of e) (state_of r)
Starts (Err Memory) names own call r new old run = ⊤

-- ---- weights: what is done without fuel becomes lighter

abbrev pub weight_step : NumberedCmd-F ℕ → ℕ
weight_step NumberedCmd-F.Skip = 1
weight_step (NumberedCmd-F.Set x e) = 1
weight_step (NumberedCmd-F.Unset x) = 1
weight_step (NumberedCmd-F.Store size a e) = 1
weight_step (NumberedCmd-F.Stackalloc x n body) = 3 + sum body
weight_step (NumberedCmd-F.If e first second) = 2 + (sum first + sum second)
weight_step (NumberedCmd-F.While e body) = 1
weight_step (NumberedCmd-F.Seq body) = 2 + sum body
weight_step (NumberedCmd-F.Call at xs callee es) = 1
weight_step (NumberedCmd-F.Interact at xs action es) = 1

abbrev pub weight : NumberedCmd → ℕ
weight = fold-NumberedCmd ℕ weight_step

abbrev pub weights : List NumberedCmd → ℕ
weights cs = sum (map weight cs)

abbrev pub frame_weight : Frame → ℕ
frame_weight (frame.Body b) = 1 + weights b.commands.now
frame_weight (frame.Loop l) = 1
frame_weight (frame.Leave h) = 1
frame_weight (frame.Return from to caller) = 1

abbrev pub weigh : List Frame → ℕ
weigh fs = sum (map frame_weight fs)

-- what the frames weigh that a work becomes
abbrev pub room : Work → ℕ
room work.Done = 0
room (work.Body b) = 1 + weights b.commands.now
room (work.Buffer b) = 2 + weights b.body.commands.now
room (work.Turn t) = 0
