-- The functions found so far.
use Rattle.std.proofs.Common.{◌≡◌, map, take}
use Rattle.std.specs.Option.{option_copied, option_map}
use Rattle.br_syntax.specs.Functions.{function_named}
use Rattle.br_source_meaning.specs.Names.{function_names}
use Rattle.br_source_meaning.specs.Numbered.{named_function}
use Rattle.br_source_meaning.proofs.functions.first_by_number.Given as goal

abbrev pub invariant-loop-f : goal.invariant-loop-f
invariant-loop-f l =
    map (λ o. option_map (named_function (function_names l.program.index.funcs.now)) (option_copied o)) l.found
    ≡ map (λ f. function_named l.program.index.funcs.now f.name) (take l.f-index l.program.index.funcs.now)
