use Rattle.std.proofs.Common.{refl}
use Rattle.br_syntax.specs.declared.program.Cmd.TheVariants as command
use Rattle.br_source_meaning.specs.Numbered.{target_name}
use Rattle.br_source_meaning.proofs.Parts.{numbers-Call}
use Rattle.br_source_meaning.proofs.numbering.call.Goals as goal

pub returns : goal.returns
returns c = λ names.
    numbers-Call names c.args.own.now c.variables.new.own c.expressions.new.own c.args.at c.in_ok-results.results
    c.args.callee c.in_ok-args.args
    (command.Call c.args.at c.args.results.now (target_name names c.args.callee) c.args.args.now) c.args.results.now
    c.args.args.now refl c.in_ok-results.ensures c.in_ok-args.ensures
