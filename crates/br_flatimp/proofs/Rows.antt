-- Worked rows of the definitions, by computing them: what each kind of statement does, what is live before
-- and after it, and which operands are missed. Statements stand here by their layers, whose parts are what
-- the statements in them mean.
use Rattle.std.proofs.Common.{◌≡◌, ℕ, Bool, true, false, List, [], ◌∷◌, ◌++◌, map, Option, refl, ap, pos, negsuc}
use Rattle.std.specs.FinMap as maps
use Rattle.br_words.specs.declared.operation.BinOp.{BinOp}
use Rattle.br_words.specs.declared.operation.BinOp.TheVariants as op
use Rattle.br_words.specs.declared.size.Size.TheVariants.{One, Two, Four}
use Rattle.br_bytes.specs.declared.run.Choice.{Choice}
use Rattle.br_bytes.specs.declared.run.Event.TheVariants.{Read, Write}
use Rattle.br_bytes.specs.declared.run.Outcome.{Outcome}
use Rattle.br_bytes.specs.declared.run.Outcome.TheVariants as outcome
use Rattle.br_bytes.specs.Called.{Called}
use Rattle.br_bytes.specs.Memory.{Memory, get_number, put_number}
use Rattle.br_bytes.specs.Runs.{Goes, Returns, in_turn, with_defined, returned, seen}
use Rattle.br_flatimp.specs.declared.program.Operand.{Operand}
use Rattle.br_flatimp.specs.declared.program.Operand.TheVariants.{Name, Const}
use Rattle.br_flatimp.specs.declared.program.Rel.{Rel}
use Rattle.br_flatimp.specs.declared.program.Rel.TheVariants as rel
use Rattle.br_flatimp.specs.declared.program.Cond.TheVariants.{NonZero, Compare}
use Rattle.br_flatimp.specs.declared.program.FlatFunc.{FlatFunc}
use Rattle.br_flatimp.specs.declared.program.Stmt.TheOpen.{Stmt-F}
use Rattle.br_flatimp.specs.Values.{Names, compares, words_of}
use Rattle.br_flatimp.specs.Runs.{State, Run, Callee, forgets_none, set_to, statement_step, run_function, begin}
use Rattle.br_flatimp.specs.Liveness.{is_in, Live, live_step, moment, is_dead}
use Rattle.br_flatimp.specs.Missed.{Shown, shown_step, misses_after}

-- ---- runs

-- each function answers the words that it is given
abbrev echoes : Callee
echoes g vs s = Returns vs s

abbrev does : Stmt-F (State → Run) → State → Run
does = statement_step forgets_none echoes

-- statements in turn, and then the words of names
abbrev shown : List ℕ → List (State → Run) → State → Called
shown results body s = seen (returned (words_of results) (in_turn body s))

-- a start without memory, answers and choices
abbrev plain : ℕ → State
plain fuel = begin maps.empty [] [] fuel

abbrev ends : List ℕ → List (State → Run) → Outcome
ends results body = (shown results body (plain 0)).outcome

lit_and_copy : ends (0 ∷ 1 ∷ []) (does (Stmt-F.Lit 0 7) ∷ does (Stmt-F.Copy 1 0) ∷ []) ≡ outcome.Done (7 ∷ 7 ∷ [])
lit_and_copy = refl

copy_of_unset : ends [] (does (Stmt-F.Copy 1 0) ∷ []) ≡ outcome.Undefined
copy_of_unset = refl

result_unset : ends (1 ∷ []) (does (Stmt-F.Lit 0 7) ∷ []) ≡ outcome.Undefined
result_unset = refl

-- constants count modulo 2 ^ 32

abbrev on_five : BinOp → Operand → Outcome
on_five o z = ends (1 ∷ []) (does (Stmt-F.Lit 0 5) ∷ does (Stmt-F.Op 1 o 0 z) ∷ [])

op_name : on_five op.Mul (Name 0) ≡ outcome.Done (25 ∷ [])
op_name = refl

op_unset : on_five op.Mul (Name 1) ≡ outcome.Undefined
op_unset = refl

op_above : on_five op.Add (Const (pos 3)) ≡ outcome.Done (8 ∷ [])
op_above = refl

op_below : on_five op.Add (Const (negsuc 0)) ≡ outcome.Done (4 ∷ [])
op_below = refl

op_all_bits : on_five op.Xor (Const (negsuc 0)) ≡ outcome.Done (4294967290 ∷ [])
op_all_bits = refl

-- how words compare: 4294967295 is -1 as a signed number

abbrev compared_as : Rel → List Bool
compared_as r = compares r 4294967295 0 ∷ compares r 0 4294967295 ∷ compares r 7 7 ∷ []

equal : compared_as rel.Eq ≡ false ∷ false ∷ true ∷ []
equal = refl

not_equal : compared_as rel.Ne ≡ true ∷ true ∷ false ∷ []
not_equal = refl

less_signed : compared_as rel.Lts ≡ true ∷ false ∷ false ∷ []
less_signed = refl

not_less_signed : compared_as rel.Ges ≡ false ∷ true ∷ true ∷ []
not_less_signed = refl

less : compared_as rel.Ltu ≡ false ∷ true ∷ false ∷ []
less = refl

not_less : compared_as rel.Geu ≡ true ∷ false ∷ true ∷ []
not_less = refl

-- the bytes of a table lie with the lowest first

abbrev table_at : ℕ → Outcome
table_at i = ends (1 ∷ []) (does (Stmt-F.Lit 0 i) ∷ does (Stmt-F.Table 1 Two (1 ∷ 2 ∷ 3 ∷ 4 ∷ []) 0) ∷ [])

table_inside : table_at 2 ≡ outcome.Done (1027 ∷ [])
table_inside = refl

table_past_end : table_at 3 ≡ outcome.Undefined
table_past_end = refl

-- Loads and stores in any memory, where name 0 is the lowest address of the data region and name 1 the word
-- 305419896. Offsets count modulo 2 ^ 32.

abbrev at_data : Memory → State
at_data m = set_to 1 305419896 (set_to 0 2148532224 (begin m [] [] 0))

abbrev loaded : Memory → Option ℕ → Run
loaded m o = with_defined o (at_data m) (λ v. Goes (set_to 1 v (at_data m)))

load_above : (m : Memory) (o : Option ℕ) → get_number m 2148532225 2 ≡ o
    → does (Stmt-F.Load 1 Two 0 (pos 1)) (at_data m) ≡ loaded m o
load_above m o h = ap (loaded m) h

load_below : (m : Memory) (o : Option ℕ) → get_number m 2148532223 4 ≡ o
    → does (Stmt-F.Load 1 Four 0 (negsuc 0)) (at_data m) ≡ loaded m o
load_below m o h = ap (loaded m) h

abbrev stored : Memory → Option Memory → Run
stored m o = with_defined o (at_data m) (λ n. Goes (record (at_data m) { memory = n }))

store_above : (m : Memory) (o : Option Memory) → put_number m 2148532225 2 305419896 ≡ o
    → does (Stmt-F.Store Two 0 1 (pos 1)) (at_data m) ≡ stored m o
store_above m o h = ap (stored m) h

store_below : (m : Memory) (o : Option Memory) → put_number m 2148532223 1 305419896 ≡ o
    → does (Stmt-F.Store One 0 1 (negsuc 0)) (at_data m) ≡ stored m o
store_below m o h = ap (stored m) h

-- a buffer's address goes to its name, which stays set

abbrev buffer : ℕ → List Choice → Outcome
buffer n choices =
    (shown (1 ∷ 0 ∷ []) (does (Stmt-F.Stackalloc 0 n (does (Stmt-F.Copy 1 0) ∷ [])) ∷ [])
    (begin maps.empty [] choices 0)).outcome

abbrev choice : ℕ → List ℕ → List Choice
choice a bytes = record { addr = a; bytes = bytes } ∷ []

buffer_taken : buffer 0 (choice 2149580800 []) ≡ outcome.Done (2149580800 ∷ 2149580800 ∷ [])
buffer_taken = refl

buffer_not_there : buffer 0 [] ≡ outcome.NoChoice
buffer_not_there = refl

buffer_misaligned : buffer 4 (choice 2149580802 (1 ∷ 2 ∷ 3 ∷ 4 ∷ [])) ≡ outcome.NoChoice
buffer_misaligned = refl

buffer_of_other_size : buffer 4 (choice 2149580800 (1 ∷ 2 ∷ 3 ∷ [])) ≡ outcome.NoChoice
buffer_of_other_size = refl

buffer_outside : buffer 4 (choice 2148532224 (1 ∷ 2 ∷ 3 ∷ 4 ∷ [])) ≡ outcome.NoChoice
buffer_outside = refl

-- conditionals

abbrev if_less : ℕ → ℕ → Outcome
if_less a b =
    ends (2 ∷ [])
    (does (Stmt-F.Lit 0 a) ∷ does (Stmt-F.Lit 1 b)
    ∷ does (Stmt-F.If (Compare rel.Lts 0 1) (does (Stmt-F.Lit 2 10) ∷ []) (does (Stmt-F.Lit 2 20) ∷ [])) ∷ [])

if_first : if_less 4294967295 0 ≡ outcome.Done (10 ∷ [])
if_first = refl

if_second : if_less 0 4294967295 ≡ outcome.Done (20 ∷ [])
if_second = refl

if_unset : ends [] (does (Stmt-F.If (NonZero 0) [] []) ∷ []) ≡ outcome.Undefined
if_unset = refl

-- A loop's first part sets what is tested, and runs once more than the last part. Each turn takes a unit of
-- fuel.

abbrev counts : ℕ → Outcome
counts fuel =
    (shown (0 ∷ 1 ∷ [])
    (does (Stmt-F.Lit 0 3) ∷ does (Stmt-F.Lit 1 0)
    ∷ does (Stmt-F.Loop
    (does (Stmt-F.Op 0 op.Sub 0 (Const (pos 1))) ∷ []) (NonZero 0) (does (Stmt-F.Op 1 op.Add 1 (Const (pos 10))) ∷ []))
    ∷ [])
    (plain fuel)).outcome

loop_ends : counts 2 ≡ outcome.Done (0 ∷ 20 ∷ [])
loop_ends = refl

loop_out_of_fuel : counts 1 ≡ outcome.OutOfFuel
loop_out_of_fuel = refl

loop_sets_test : ends (0 ∷ []) (does (Stmt-F.Loop (does (Stmt-F.Lit 0 0) ∷ []) (NonZero 0) []) ∷ [])
    ≡ outcome.Done (0 ∷ [])
loop_sets_test = refl

-- A call hands over the words of its arguments, takes a unit of fuel, and sets its results. The function has
-- its arguments alone.

abbrev calls : ℕ → List ℕ → Outcome
calls fuel args =
    (shown (2 ∷ 1 ∷ 0 ∷ [])
    (does (Stmt-F.Lit 0 5) ∷ does (Stmt-F.Lit 1 6) ∷ does (Stmt-F.Call (2 ∷ 1 ∷ []) 0 args) ∷ [])
    (plain fuel)).outcome

call_answers : calls 1 (0 ∷ 1 ∷ []) ≡ outcome.Done (5 ∷ 6 ∷ 5 ∷ [])
call_answers = refl

call_exchanges : calls 1 (1 ∷ 0 ∷ []) ≡ outcome.Done (6 ∷ 5 ∷ 5 ∷ [])
call_exchanges = refl

call_unset : calls 0 (2 ∷ 1 ∷ []) ≡ outcome.Undefined
call_unset = refl

call_out_of_fuel : calls 0 (0 ∷ 1 ∷ []) ≡ outcome.OutOfFuel
call_out_of_fuel = refl

-- a function without statements, and one argument
abbrev answering : List ℕ → FlatFunc
answering results = record { name = []; args = 0 ∷ []; results = results; names = 2; body = [] }

-- it is entered from a caller whose name 1 is set
abbrev entered : List ℕ → List ℕ → Outcome
entered results args = (seen (run_function forgets_none echoes (answering results) args (set_to 1 9 (plain 0)))).outcome

entered_with_arguments : entered (0 ∷ []) (5 ∷ []) ≡ outcome.Done (5 ∷ [])
entered_with_arguments = refl

entered_without_names : entered (1 ∷ []) (5 ∷ []) ≡ outcome.Undefined
entered_without_names = refl

-- devices

-- writes a word to a device word and reads another
abbrev asks : ℕ → List ℕ → Called
asks a answers =
    shown (1 ∷ [])
    (does (Stmt-F.Lit 0 a) ∷ does (Stmt-F.Lit 1 7) ∷ does (Stmt-F.Write 0 1) ∷ does (Stmt-F.Read 1 0) ∷ [])
    (begin maps.empty answers [] 0)

device_answers : (asks 268509192 (5 ∷ [])).outcome ≡ outcome.Done (5 ∷ [])
device_answers = refl

device_events : (asks 268509192 (5 ∷ [])).trace ≡ Write 268509192 7 ∷ Read 268509192 5 ∷ []
device_events = refl

device_waits : (asks 268509192 []).outcome ≡ outcome.Waiting 268509192
device_waits = refl

device_is_none : (asks 2148532224 (5 ∷ [])).outcome ≡ outcome.Undefined
device_is_none = refl

-- ---- liveness

-- which of the names 0 to 3 are in a set
abbrev first_four : Names → List Bool
first_four set = set 0 ∷ set 1 ∷ set 2 ∷ set 3 ∷ []

-- Before a loop are live what its first part reads, what its test reads and the first part does not set, what
-- the last part reads, and what is live after the loop and no part sets.
abbrev live_loop : Live
live_loop = live_step (Stmt-F.Loop (live_step (Stmt-F.Copy 0 1) ∷ []) (NonZero 0) (live_step (Stmt-F.Copy 1 2) ∷ []))

loop_before : first_four (live_loop.before (is_in (3 ∷ []))) ≡ false ∷ true ∷ true ∷ true ∷ []
loop_before = refl

-- its test is followed by the last part, which sets 1
loop_test : map (λ m. first_four m.test) (live_loop.moments (is_in (3 ∷ []))) ≡
    (true ∷ false ∷ true ∷ true ∷ []) ∷ (false ∷ false ∷ false ∷ false ∷ []) ∷ (false ∷ false ∷ false ∷ false ∷ []) ∷ []
loop_test = refl

-- after the loop, after its first part, and after its last part
loop_after : map (λ m. first_four m.after) (live_loop.moments (is_in (3 ∷ []))) ≡
    (false ∷ false ∷ false ∷ true ∷ []) ∷ (true ∷ false ∷ true ∷ true ∷ []) ∷ (false ∷ true ∷ true ∷ true ∷ []) ∷ []
loop_after = refl

-- a buffer's name is written before its body
abbrev live_buffer : Live
live_buffer = live_step (Stmt-F.Stackalloc 0 4 (live_step (Stmt-F.Store Four 0 1 (pos 0)) ∷ []))

buffer_before : first_four (live_buffer.before (is_in (3 ∷ []))) ≡ false ∷ true ∷ false ∷ true ∷ []
buffer_before = refl

buffer_after_write : map (λ m. first_four m.after_write) (live_buffer.moments (is_in (3 ∷ []))) ≡
    (true ∷ true ∷ false ∷ true ∷ []) ∷ (false ∷ false ∷ false ∷ true ∷ []) ∷ []
buffer_after_write = refl

-- a call writes its results and reads its arguments
abbrev live_call : Live
live_call = live_step (Stmt-F.Call (0 ∷ 1 ∷ []) 0 (1 ∷ 2 ∷ []))

call_before : first_four (live_call.before (is_in (0 ∷ 3 ∷ []))) ≡ false ∷ true ∷ true ∷ true ∷ []
call_before = refl

-- which statements are dead where 0 alone is live after them
dead_rows : map (λ y. is_dead (moment y (is_in (0 ∷ []))))
    (Stmt-F.Lit 1 7 ∷ Stmt-F.Load 1 One 0 (pos 0) ∷ Stmt-F.Lit 0 7
    ∷ Stmt-F.Read 1 0 ∷ Stmt-F.Call (1 ∷ []) 0 [] ∷ Stmt-F.Stackalloc 1 4 [] ∷ [])
    ≡ true ∷ true ∷ false ∷ false ∷ false ∷ false ∷ []
dead_rows = refl

-- ---- missed operands

-- an operand 1 is missed after these statements
abbrev misses : BinOp → List (Stmt-F Shown) → Bool
misses o earlier = misses_after [] (map shown_step (earlier ++ Stmt-F.Op 0 o 2 (Name 1) ∷ []))

missed_after_literal : misses op.Add (Stmt-F.Lit 1 4294965248 ∷ []) ≡ true
missed_after_literal = refl

too_large_for_add : misses op.Add (Stmt-F.Lit 1 2048 ∷ []) ≡ false
too_large_for_add = refl

missed_by_sub : misses op.Sub (Stmt-F.Lit 1 2048 ∷ []) ≡ true
missed_by_sub = refl

none_of_mul : misses op.Mul (Stmt-F.Lit 1 1 ∷ []) ≡ false
none_of_mul = refl

missed_when_read_between : misses op.Add (Stmt-F.Lit 1 7 ∷ Stmt-F.Copy 3 1 ∷ []) ≡ true
missed_when_read_between = refl

written_between : misses op.Add (Stmt-F.Lit 1 7 ∷ Stmt-F.Copy 1 3 ∷ []) ≡ false
written_between = refl

branches_between : misses op.Add (Stmt-F.Lit 1 7 ∷ Stmt-F.If (NonZero 1) [] [] ∷ []) ≡ false
branches_between = refl
