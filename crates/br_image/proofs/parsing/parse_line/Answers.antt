use Rattle.br_image.proofs.parsing.parse_line.Goals as goal

pub returns-in-None : goal.returns-in-None
returns-in-None c = c.parse_single.ensures c.args.layout
