use Rattle.std.proofs.Common.{refl}
use Rattle.br_sexpr.proofs.Steps.{took-push}
use Rattle.br_sexpr.proofs.reading.Reader.push.Goals as goal

pub returns-clause-took : goal.returns-clause-took
returns-clause-took c =
    took-push _ _ c.requires c.in_ok-tree.tree _ refl c.in_ok-push.ensures.items c.in_ok-tree.ensures.tree
