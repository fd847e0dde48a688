use Rattle.br_source_meaning.specs.Names.{function_names}
use Rattle.br_source_meaning.proofs.Parts.{numbers-function, numbers-results}
use Rattle.br_source_meaning.proofs.numbering.function.Goals as goal

pub returns-clause-named : goal.returns-clause-named
returns-clause-named c =
    numbers-function (function_names c.args.index.now.funcs.now) c.in_ok-own.own c.variables.new.own
    c.variables-2.new.own c.commands.new.own
    c.args.func.now c.in_ok-args.args c.in_ok-results.results c.in_ok-body.body c.as_slice.result.now
    c.as_slice-2.result.now c.as_slice-3.result.now
    c.as_slice.ensures c.as_slice-2.ensures c.as_slice-3.ensures c.in_ok-args.ensures c.in_ok-results.ensures
    c.in_ok-body.ensures

pub returns-clause-results : goal.returns-clause-results
returns-clause-results c =
    numbers-results (function_names c.args.index.now.funcs.now) c.variables.new.own c.variables-2.new.own
    c.commands.new.own
    c.in_ok-results.results c.in_ok-body.body c.as_slice-2.result.now c.args.func.now.results c.as_slice-3.result.now
    c.as_slice-2.ensures c.in_ok-results.ensures c.in_ok-body.ensures
