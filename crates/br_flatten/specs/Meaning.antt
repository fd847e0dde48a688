-- What callers see of a program of the source language.
use Rattle.std.specs.Prelude.{[], List, map, length, slice_get}
use Rattle.br_bytes.specs.Runs.{seen}
use Rattle.br_syntax.specs.declared.program.Func.{Func}
use Rattle.br_source_meaning.specs.Values.{no_locals}
use Rattle.br_source_meaning.specs.Calls.{enter, function_of}
use Rattle.br_flatimp.specs.Refines.{Signature, Meaning}

abbrev pub source_signature : Func → Signature
source_signature f = record { name = f.name; args = length f.args; results = length f.results }

-- the meaning of a program of the source language, whose
-- functions are called from outside by number
abbrev pub source_meaning : List Func → Meaning
source_meaning fs = record {
  signatures = map source_signature fs;
  call = λ g args m answers choices fuel.
      seen (enter (function_of fs fuel) (slice_get fs g) args (record {
        locals = no_locals;
        memory = m;
        trace = [];
        answers = answers;
        choices = choices;
        fuel = fuel;
      }));
}
