use Rattle.br_image.proofs.TraceForms.{no_write}
use Rattle.br_image.proofs.traces.parsing.write_line.Goals as goal

pub returns-in-None : goal.returns-in-None
returns-in-None c = no_write c.args.tail.now c.in-None.ensures.none
