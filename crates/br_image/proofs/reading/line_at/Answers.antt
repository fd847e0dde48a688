use Rattle.br_image.proofs.Order.{line_behind}
use Rattle.br_image.proofs.reading.line_at.Goals as goal

pub returns-in-Some-2-clause-found : goal.returns-in-Some-2-clause-found
returns-in-Some-2-clause-found c =
    let parsed = rw c.in-Some-2.is at c.in_ok-parse_line.ensures in
    line_behind c.args.text.now c.in-Some.bytes.now c.in-Some.field-0-1.now _ c.args.at
    c.in-Some.ensures.found.0 parsed.1
