-- The words so far stand before those of the expressions that follow.
use Rattle.std.proofs.Common.{◌≡◌, ◌++◌, drop}
use Rattle.std.specs.Option.{option_map}
use Rattle.br_source_meaning.specs.Values.{values}
use Rattle.br_source_meaning.specs.Numbered.{named_exprs}
use Rattle.br_source_meaning.specs.Running.{names_of, locals_in}
use Rattle.br_source_meaning.proofs.values.values.Given as goal

abbrev pub invariant-loop-e : goal.invariant-loop-e
invariant-loop-e l =
    values (locals_in l.variables) l.memory (named_exprs (names_of l.variables) l.es)
    ≡ option_map (λ vs. l.words.items ++ vs)
    (values (locals_in l.variables) l.memory (named_exprs (names_of l.variables) (drop l.e-index l.es)))
