use Rattle.std.proofs.Common.{subst}
use Rattle.std.specs.List.{IsDistinct}
use Rattle.std.specs.Str.{bytes_eq}
use Rattle.br_numbering.proofs.NumberedNames.{distinct-names}
use Rattle.br_numbering.proofs.numbering.Numbering.len.Goals as goal

pub returns-clause-distinct : goal.returns-clause-distinct
returns-clause-distinct c =
    subst (IsDistinct bytes_eq) c.self.view_is (distinct-names c.self.inside.names.keys c.len.ensures.unique)
