-- The functions so far, and those of the functions from here on; and the literals of those before are words.
use Rattle.std.proofs.Common.{◌≡◌, ◌++◌, drop}
use Rattle.std.specs.List.{list_all}
use Rattle.br_immediates.specs.Immediates.{function_literals_fit, program_with_constants}
use Rattle.br_immediates.proofs.program.functions.Given as goal

abbrev pub invariant-loop-f : goal.invariant-loop-f
invariant-loop-f l = record {
  functions : l.made ++ program_with_constants (drop l.f-index l.fs) ≡ program_with_constants l.fs;
  words : list_all function_literals_fit l.fs ≡ list_all function_literals_fit (drop l.f-index l.fs);
}
