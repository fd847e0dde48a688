use Rattle.br_flatimp.proofs.Composes.{refines-itself, refines-trans}
use Rattle.br_flatimp.proofs.laws.refines_composes.Goals as goal

pub returns : goal.returns
returns c = record { itself = refines-itself; composes = refines-trans }
