-- What a run of a source program shows: its events, its end, and after a call that is
-- done the memory that the script gave.
use Rattle.std.specs.Prelude.{ℕ, List, [], ◌++◌, unwrap_or}
use Rattle.std.specs.FinMap as map
use Rattle.br_bytes.specs.declared.run.Outcome.{Outcome}
use Rattle.br_bytes.specs.declared.run.Outcome.TheVariants.{Done, Waiting, OutOfFuel}
use Rattle.br_bytes.specs.declared.run.Outcome.TheVariants.{Undefined, NoChoice}
use Rattle.br_bytes.specs.Memory.{Memory}
use Rattle.br_syntax.specs.declared.program.Func.{Func}
use Rattle.br_source_meaning.specs.Calls.{Called, call}
use Rattle.br_image.specs.declared.scripts.values.InterpScript.{InterpScript}
use Rattle.br_image.specs.Text.{line}
use Rattle.br_texts.specs.Lines.{event_lines, outcome_text}
use Rattle.br_texts.specs.Memory.{memory_of, range_lines}

-- the call that a script makes of a function of a program; the limit is its fuel
abbrev pub called_by : InterpScript → List Func → Func → Called
called_by s fs f = call fs f s.args (memory_of s.mem) s.answers s.choices s.limit

-- the byte at an address; a run leaves each address of the script's ranges with a byte
abbrev pub byte_in : Memory → ℕ → ℕ
byte_in m a = unwrap_or (map.get m a) 0

-- the lines of memory that follow the end
abbrev pub lines_after : Outcome → Memory → InterpScript → List ℕ
lines_after (Done words) m s = range_lines (byte_in m) s.mem
lines_after (Waiting a) m s = []
lines_after OutOfFuel m s = []
lines_after Undefined m s = []
lines_after NoChoice m s = []

-- the text of the run of a script on a program, which calls this function
abbrev pub interp_text : InterpScript → List Func → Func → List ℕ
interp_text s fs f =
    let called = called_by s fs f in
    event_lines called.trace ++ line (outcome_text called.outcome)
    ++ lines_after called.outcome called.memory s
