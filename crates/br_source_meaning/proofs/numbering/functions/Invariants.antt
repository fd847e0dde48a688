-- The functions so far.
use Rattle.std.proofs.Common.{◌≡◌, map, take}
use Rattle.br_source_meaning.specs.Names.{function_names}
use Rattle.br_source_meaning.specs.Numbered.{named_function}
use Rattle.br_source_meaning.proofs.numbering.functions.Given as goal

abbrev pub invariant-loop-f : goal.invariant-loop-f
invariant-loop-f l = map (named_function (function_names l.index.funcs.now)) l.numbered ≡ take l.f-index l.funcs
