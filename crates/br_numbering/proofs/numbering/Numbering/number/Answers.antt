use Rattle.std.proofs.Common.{ap, ◌∙◌}
use Rattle.br_numbering.specs.Names.{number}
use Rattle.br_numbering.proofs.NumberedNames.{number-found, number-missing}
use Rattle.br_numbering.proofs.numbering.Numbering.number.Goals as goal

pub returns-in-Some : goal.returns-in-Some
returns-in-Some c =
    number-found c.self.inside.names.keys c.args.name.now c.in-Some.k c.in-Some.ensures.index
    ∙ ap (λ names. number names c.args.name.now) c.self.view_is

pub returns-in-None : goal.returns-in-None
returns-in-None c =
    c.len.ensures.len
    ∙ number-missing c.self.inside.names.keys c.args.name.now c.in-None.ensures.index
    ∙ ap (λ names. number names c.args.name.now) c.self.view_is
