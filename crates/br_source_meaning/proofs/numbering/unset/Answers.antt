use Rattle.std.proofs.Common.{refl}
use Rattle.br_syntax.specs.declared.program.Cmd.TheVariants as command
use Rattle.br_source_meaning.proofs.Parts.{numbers-Unset}
use Rattle.br_source_meaning.proofs.numbering.unset.Goals as goal

pub returns : goal.returns
returns c = λ names.
    numbers-Unset names c.args.own.now c.number.new.self c.in_ok-number.field-0 (command.Unset c.args.x.now)
    c.args.x.now refl c.in_ok-number.ensures
