use Rattle.std.proofs.Common.{ap, ◌∙◌}
use Rattle.br_numbering.specs.Names.{with_name}
use Rattle.br_numbering.proofs.NumberedNames.{listed-insert, number-insert}
use Rattle.br_numbering.proofs.numbering.Numbering.add.Goals as goal

pub returns-clause-names : goal.returns-clause-names
returns-clause-names c =
    listed-insert c.self.inside.names.keys c.insert_full.new.self.keys c.args.name c.in_ok-k.ensures.keys
    ∙ ap (λ names. with_name names c.args.name.now) c.self.view_is

pub returns-clause-number : goal.returns-clause-number
returns-clause-number c =
    number-insert c.self.inside.names.keys c.insert_full.new.self.keys c.args.name c.in_ok-k.k c.in_ok-k.ensures.keys
    c.in_ok-k.ensures.index
