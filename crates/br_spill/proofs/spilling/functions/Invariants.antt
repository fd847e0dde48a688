-- The functions so far, and those of the functions from here on; and the numbers of those before are words.
use Rattle.std.proofs.Common.{◌≡◌, ◌++◌, drop}
use Rattle.std.specs.List.{list_all}
use Rattle.br_spill.specs.Spill.{function_words_fit, program_by}
use Rattle.br_spill.proofs.spilling.functions.Given as goal

abbrev pub invariant-loop-f : goal.invariant-loop-f
invariant-loop-f l = record {
  functions : l.made ++ program_by l.kind (drop l.f-index l.fs) ≡ program_by l.kind l.fs;
  words : list_all function_words_fit l.fs ≡ list_all function_words_fit (drop l.f-index l.fs);
}
