use Rattle.br_image.proofs.TraceForms.{no_read}
use Rattle.br_image.proofs.traces.parsing.read_line.Goals as goal

pub returns-in-None : goal.returns-in-None
returns-in-None c = no_read c.args.tail.now c.in-None.ensures.none
