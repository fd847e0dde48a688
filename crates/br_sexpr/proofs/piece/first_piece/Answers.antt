use Rattle.br_sexpr.proofs.Cutting.{cut-whole}
use Rattle.br_sexpr.proofs.piece.first_piece.Goals as goal

pub returns-clause-cut : goal.returns-clause-cut
returns-clause-cut c = λ place. cut-whole place c.args.text.now c.in-Some.first.now c.in-Some.rest.now
    c.begun-kind.result.0 c.begun-kind.result.1 c.in-Some.ensures.cases.0 (c.begun-kind.ensures.cut place)
