-- What flat statements do, and calls of a program's functions. It is the meaning of the source
-- language without expressions, with numbers for names. In its general form a call leaves some
-- names of the caller without a word: `forgets g` are those that a call of the function g may
-- forget. In the meaning of flat programs it forgets none.
use Rattle.std.specs.Prelude.{ℕ, zero, suc, false, List, [], map}
use Rattle.std.specs.Prelude.{Option, Some, None, ◌==◌, slice_get}
use Rattle.br_words.specs.Words.{value_of_op}
use Rattle.br_words.specs.Size.{size_of}
use Rattle.br_bytes.specs.declared.run.Choice.{Choice}
use Rattle.br_bytes.specs.Memory.{Memory, get_number, put_number}
use Rattle.br_bytes.specs.Buffers.{table_number}
use Rattle.br_bytes.specs.Called.{Called}
use Rattle.br_bytes.specs.Runs as runs
use Rattle.br_bytes.specs.Runs.{Undefined, OutOfFuel, Goes, Stops, then_do, in_turn}
use Rattle.br_bytes.specs.Runs.{with_defined, choose, with_fuel, with_buffer, loop}
use Rattle.br_bytes.specs.Runs.{read_device, write_device, back_in, returned, seen}
use Rattle.br_flatimp.specs.declared.program.Stmt.{Stmt}
use Rattle.br_flatimp.specs.declared.program.Stmt.TheOpen.{Stmt-F}
use Rattle.br_flatimp.specs.declared.program.Stmt.TheFolds.{fold-Stmt}
use Rattle.br_flatimp.specs.declared.program.FlatFunc.{FlatFunc}
use Rattle.br_flatimp.specs.Values.{Locals, Names, no_locals, with_local, with_locals}
use Rattle.br_flatimp.specs.Values.{without_names, words_of, operand_word, moved, test_word}

abbrev pub State : Type 0
State = runs.State Locals

abbrev pub Run : Type 0
Run = runs.Run Locals

abbrev pub Returned : Type 0
Returned = runs.Returned Locals

-- what a function does, by its number and its arguments
abbrev pub Callee : Type 0
Callee = runs.Callee ℕ Locals

-- the names that a call of each function forgets
abbrev pub Forgets : Type 0
Forgets = ℕ → Names

-- no call forgets a name
abbrev pub forgets_none : Forgets
forgets_none g x = false

abbrev pub set_to : ℕ → ℕ → State → State
set_to x v s = record s { locals = with_local x v s.locals }

-- a statement, given what the statements in it do
abbrev pub statement_step : Forgets → Callee → Stmt-F (State → Run) → State → Run
statement_step forgets call (Stmt-F.Lit x n) s = Goes (set_to x n s)
statement_step forgets call (Stmt-F.Copy x y) s =
    with_defined (s.locals y) s (λ v. Goes (set_to x v s))
statement_step forgets call (Stmt-F.Op x op y z) s =
    with_defined (s.locals y) s (λ a.
    with_defined (operand_word z s.locals) s (λ b. Goes (set_to x (value_of_op op a b) s)))
statement_step forgets call (Stmt-F.Load x size y offset) s =
    with_defined (s.locals y) s (λ a.
    with_defined (get_number s.memory (moved a offset) (size_of size)) s (λ v. Goes (set_to x v s)))
statement_step forgets call (Stmt-F.Store size y z offset) s =
    with_defined (s.locals y) s (λ a.
    with_defined (s.locals z) s (λ v.
    with_defined (put_number s.memory (moved a offset) (size_of size) v) s
    (λ m. Goes (record s { memory = m }))))
statement_step forgets call (Stmt-F.Table x size bytes y) s =
    with_defined (s.locals y) s (λ i.
    with_defined (table_number bytes i (size_of size)) s (λ v. Goes (set_to x v s)))
statement_step forgets call (Stmt-F.Stackalloc x n body) s =
    with_buffer (with_local x) n (in_turn body) s
statement_step forgets call (Stmt-F.If test first second) s =
    with_defined (test_word test s.locals) s
    (λ v. choose (v == 0) (in_turn second s) (in_turn first s))
statement_step forgets call (Stmt-F.Loop first test last) s =
    then_do (in_turn first s) (λ t.
    loop t.fuel (λ u. test_word test u.locals) (λ u. then_do (in_turn last u) (in_turn first)) t)
statement_step forgets call (Stmt-F.Call xs g ys) s =
    with_defined (words_of ys s.locals) s (λ vs.
    with_fuel s (λ t. back_in (with_locals xs) (without_names (forgets g) s.locals) (call g vs t)))
statement_step forgets call (Stmt-F.Read x y) s =
    with_defined (s.locals y) s (λ a. read_device (with_local x) a s)
statement_step forgets call (Stmt-F.Write y z) s =
    with_defined (s.locals y) s (λ a. with_defined (s.locals z) s (λ v. write_device a v s))

-- what a statement does from a state, given what functions do
abbrev pub run : Forgets → Callee → Stmt → State → Run
run forgets call = fold-Stmt (State → Run) (statement_step forgets call)

-- statements in turn
abbrev pub run_all : Forgets → Callee → List Stmt → State → Run
run_all forgets call body = in_turn (map (run forgets call) body)

-- a function's body, with the arguments as its only names that are set
abbrev pub run_function : Forgets → Callee → FlatFunc → List ℕ → State → Returned
run_function forgets call f args s =
    returned (words_of f.results)
    (run_all forgets call f.body (record s { locals = with_locals f.args args no_locals }))

-- enters a function, where there is one
abbrev pub enter : Forgets → Callee → Option FlatFunc → List ℕ → State → Returned
enter forgets call (Some f) args s = run_function forgets call f args s
enter forgets call None args s = Stops Undefined s

-- The functions of a program, with calls at most `depth` deep. A call takes a unit of fuel before
-- it enters a function, so the fuel at the start is enough: where the depth is used up the fuel is
-- too. A well formed program calls no function that it does not have.
abbrev pub function_of : Forgets → List FlatFunc → ℕ → Callee
function_of forgets fs zero g args s = Stops OutOfFuel s
function_of forgets fs (suc depth) g args s =
    enter forgets (function_of forgets fs depth) (slice_get fs g) args s

-- the state that a call from outside begins in
abbrev pub begin : Memory → List ℕ → List Choice → ℕ → State
begin m answers choices fuel =
    record {
      locals = no_locals;
      memory = m;
      trace = [];
      answers = answers;
      choices = choices;
      fuel = fuel;
    }

-- a call of a function from outside, by its number, which costs no fuel
abbrev pub call_forgetting : Forgets → List FlatFunc → ℕ → List ℕ → Memory → List ℕ
    → List Choice → ℕ → Called
call_forgetting forgets fs g args m answers choices fuel =
    seen (enter forgets (function_of forgets fs fuel) (slice_get fs g) args
    (begin m answers choices fuel))

-- the meaning of a flat program
abbrev pub call : List FlatFunc → ℕ → List ℕ → Memory → List ℕ → List Choice → ℕ → Called
call = call_forgetting forgets_none
