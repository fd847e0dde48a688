use Rattle.br_image.proofs.ScriptVerdict.{interp_read, interp_fault_read}
use Rattle.br_image.proofs.scripts.reading.read_interp.Goals as goal

pub returns-clause-each_script : goal.returns-clause-each_script
returns-clause-each_script c s at h =
    interp_read c.args.text.now c.interp_of.result s at c.interp_of.ensures.script c.interp_of.ensures.refused h

pub returns-clause-each_fault : goal.returns-clause-each_fault
returns-clause-each_fault c f h =
    interp_fault_read c.args.text.now c.interp_of.result f c.interp_of.ensures.script c.interp_of.ensures.refused h
