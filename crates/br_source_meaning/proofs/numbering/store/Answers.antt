use Rattle.std.proofs.Common.{refl}
use Rattle.br_syntax.specs.declared.program.Cmd.TheVariants as command
use Rattle.br_source_meaning.proofs.Parts.{numbers-Store}
use Rattle.br_source_meaning.proofs.numbering.store.Goals as goal

pub returns : goal.returns
returns c = λ names.
    numbers-Store names c.args.own.now c.expression.new.own c.expression-2.new.own c.args.size c.in_ok-a.a c.in_ok-e.e
    (command.Store c.args.size c.args.a.now c.args.e.now) c.args.a.now c.args.e.now
    refl c.in_ok-a.ensures c.in_ok-e.ensures
