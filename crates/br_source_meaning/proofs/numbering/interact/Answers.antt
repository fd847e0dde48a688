use Rattle.std.proofs.Common.{refl}
use Rattle.br_syntax.specs.declared.program.Cmd.TheVariants as command
use Rattle.br_source_meaning.proofs.Parts.{numbers-Interact}
use Rattle.br_source_meaning.proofs.numbering.interact.Goals as goal

pub returns : goal.returns
returns c = λ names.
    numbers-Interact names c.args.own.now c.variables.new.own c.expressions.new.own c.args.at c.in_ok-results.results
    c.args.action c.in_ok-args.args
    (command.Interact c.args.at c.args.results.now c.args.action.now c.args.args.now) c.args.results.now c.args.args.now
    refl c.in_ok-results.ensures c.in_ok-args.ensures
