use Rattle.std.proofs.Common.{◌≡◌, drop}
use Rattle.std.specs.List.{list_all}
use Rattle.br_flatimp.specs.WellFormed.{is_well_formed_statement}
use Rattle.br_flatimp.proofs.forms.+statement.Given as goal

abbrev pub invariant-statements_fit-loop-s : goal.invariant-statements_fit-loop-s
invariant-statements_fit-loop-s l =
    list_all (is_well_formed_statement l.funcs l.names) l.body
    ≡ list_all (is_well_formed_statement l.funcs l.names) (drop l.s-index l.body)
