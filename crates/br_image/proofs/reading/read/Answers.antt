use Rattle.br_image.proofs.Verdict.{image_read, fault_read}
use Rattle.br_image.proofs.reading.read.Goals as goal

pub returns-clause-each_image : goal.returns-clause-each_image
returns-clause-each_image c i e =
    image_read c.args.text.now c.read_image.result i c.read_image.ensures.image c.read_image.ensures.refused e

pub returns-clause-each_fault : goal.returns-clause-each_fault
returns-clause-each_fault c f h =
    fault_read c.args.text.now c.read_image.result f c.read_image.ensures.image c.read_image.ensures.refused h
