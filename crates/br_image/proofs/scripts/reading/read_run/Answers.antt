use Rattle.br_image.proofs.ScriptVerdict.{run_read, run_fault_read}
use Rattle.br_image.proofs.scripts.reading.read_run.Goals as goal

pub returns-clause-each_script : goal.returns-clause-each_script
returns-clause-each_script c s at h =
    run_read c.args.text.now c.run_of.result s at c.run_of.ensures.script c.run_of.ensures.refused h

pub returns-clause-each_fault : goal.returns-clause-each_fault
returns-clause-each_fault c f h =
    run_fault_read c.args.text.now c.run_of.result f c.run_of.ensures.script c.run_of.ensures.refused h
