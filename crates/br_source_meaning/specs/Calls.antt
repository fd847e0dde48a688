-- What calls of a program's functions do, and how they end.
use Rattle.std.specs.Prelude.{ℕ, zero, suc, List, [], ◌∷◌, Option, Some, None}
use Rattle.br_bytes.specs.declared.run.Choice.{Choice}
use Rattle.br_bytes.specs.Memory.{Memory}
pub use Rattle.br_bytes.specs.Called.{Called}
pub use Rattle.br_bytes.specs.Runs.{returned, outcome_of, seen}
use Rattle.br_syntax.specs.declared.program.Func.{Func}
use Rattle.br_syntax.specs.Functions.{function_named}
use Rattle.br_source_meaning.specs.Values.{Name, Locals, no_locals}
use Rattle.br_source_meaning.specs.Runs.{State, OutOfFuel, Undefined, Callee, Returned, Stops}
use Rattle.br_source_meaning.specs.Runs.{with_locals, run_all}

-- the words of variables in turn, or None where one is not set
abbrev pub words_of : List Name → Locals → Option (List ℕ)
words_of [] locals = Some []
words_of (x ∷ xs) locals = joined (locals x) (words_of xs locals)
  where
    joined : Option ℕ → Option (List ℕ) → Option (List ℕ)
    joined (Some v) (Some vs) = Some (v ∷ vs)
    joined (Some v) None = None
    joined None vs = None

-- a function's body, with the arguments as its only variables
abbrev pub run_function : Callee → Func → List ℕ → State → Returned
run_function call f args s =
    returned (words_of f.results)
    (run_all call f.body (record s { locals = with_locals f.args args no_locals }))

-- enters a function, where there is one
abbrev pub enter : Callee → Option Func → List ℕ → State → Returned
enter call (Some f) args s = run_function call f args s
enter call None args s = Stops Undefined s

-- The functions of a program, with calls at most `depth` deep. A call takes a unit of fuel before
-- it
-- enters a function, so the fuel at the start is enough: where the depth is used up the fuel is
-- too.
-- An accepted program calls no function that it does not have.
abbrev pub function_of : List Func → ℕ → Callee
function_of fs zero x args s = Stops OutOfFuel s
function_of fs (suc depth) x args s = enter (function_of fs depth) (function_named fs x) args s

-- a call of the function `f` of a program from outside, which costs no fuel
abbrev pub call : List Func → Func → List ℕ → Memory → List ℕ → List Choice → ℕ → Called
call fs f args m answers choices fuel =
    seen (run_function (function_of fs fuel) f args
    (record {
      locals = no_locals;
      memory = m;
      trace = [];
      answers = answers;
      choices =
          choices;
      fuel = fuel;
    }))
