use Rattle.br_image.proofs.ScriptVerdict.{interp_or_fault, interp_not_fault, one_interp, one_interp_fault}
use Rattle.br_image.proofs.scripts.laws.one_interp_script_or_one_fault.Goals as goal

pub returns-clause-either : goal.returns-clause-either
returns-clause-either c = interp_or_fault

pub returns-clause-not_both : goal.returns-clause-not_both
returns-clause-not_both c = interp_not_fault

pub returns-clause-one_script : goal.returns-clause-one_script
returns-clause-one_script c = one_interp

pub returns-clause-one_fault : goal.returns-clause-one_fault
returns-clause-one_fault c = one_interp_fault
