use Rattle.br_measure.proofs.Depth.{measure_adds_up}
use Rattle.br_measure.proofs.laws.measures_add_up.Goals as goal

pub returns : goal.returns
returns c = measure_adds_up
