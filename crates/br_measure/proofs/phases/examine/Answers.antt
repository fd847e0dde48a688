use Rattle.std.proofs.Common.{◌∙◌, sym, inl, inr, arith}
use Rattle.br_measure.proofs.FoundFaults.{lowest_is, none_lowest}
use Rattle.br_measure.proofs.SameFaults.{no_name_fault}
use Rattle.br_measure.specs.Names.{name_faults}
use Rattle.br_measure.proofs.phases.examine.Goals as goal

pub returns-in-Some : goal.returns-in-Some
returns-in-Some c = inl (lowest_is (name_faults c.args.funcs.now) c.in-Some.fault
    (sym c.in_ok-index.ensures.fault ∙ c.in-Some.is))

pub returns-then-total-gt-LARGEST_BULK : goal.returns-then-total-gt-LARGEST_BULK
returns-then-total-gt-LARGEST_BULK c =
    let none = none_lowest (name_faults c.args.funcs.now) (sym c.in_ok-index.ensures.fault ∙ c.in-None.is) in
    inr (no_name_fault c.args.funcs.now none, (omega (arith, c.requires.total), c.requires.total))

pub examine_calls-requires-clause-names : goal.examine_calls-requires-clause-names
examine_calls-requires-clause-names c =
    let none = none_lowest (name_faults c.args.funcs.now) (sym c.in_ok-index.ensures.fault ∙ c.in-None.is) in
    rw c.in_ok-index.ensures.functions (no_name_fault c.args.funcs.now none)
