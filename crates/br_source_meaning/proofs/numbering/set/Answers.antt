use Rattle.std.proofs.Common.{refl}
use Rattle.br_syntax.specs.declared.program.Cmd.TheVariants as command
use Rattle.br_source_meaning.proofs.Parts.{numbers-Set}
use Rattle.br_source_meaning.proofs.numbering.set.Goals as goal

pub returns : goal.returns
returns c = λ names.
    numbers-Set names c.args.own.now c.number.new.self c.expression.new.own c.in_ok-k.k c.in_ok-e.e
    (command.Set c.args.x.now c.args.e.now) c.args.x.now c.args.e.now
    refl c.in_ok-k.ensures c.in_ok-e.ensures
