use Rattle.br_image.proofs.ScriptVerdict.{run_or_fault, run_not_fault, one_run, one_run_fault}
use Rattle.br_image.proofs.scripts.laws.one_run_script_or_one_fault.Goals as goal

pub returns-clause-either : goal.returns-clause-either
returns-clause-either c = run_or_fault

pub returns-clause-not_both : goal.returns-clause-not_both
returns-clause-not_both c = run_not_fault

pub returns-clause-one_script : goal.returns-clause-one_script
returns-clause-one_script c = one_run

pub returns-clause-one_fault : goal.returns-clause-one_fault
returns-clause-one_fault c = one_run_fault
