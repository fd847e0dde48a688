use Rattle.std.proofs.Common.{ap, ◌∙◌}
use Rattle.br_numbering.specs.Names.{with_name}
use Rattle.br_source_meaning.proofs.Numbers.{numbers-one}
use Rattle.br_source_meaning.proofs.variable_names.VariableNames.number.Goals as goal

pub returns : goal.returns
returns c =
    numbers-one c.args.self.now c.add.new.self c.bytes.result.now c.args.x.now c.in_ok-k.k c.bytes.ensures.value
    (c.in_ok-k.ensures.names ∙ ap (λ names. with_name names c.bytes.result.now) c.self.view_is) c.in_ok-k.ensures.number
