use Rattle.br_measure.proofs.OneFault.{one_fault}
use Rattle.br_measure.proofs.laws.faults_are_unique.Goals as goal

pub returns : goal.returns
returns c = one_fault
