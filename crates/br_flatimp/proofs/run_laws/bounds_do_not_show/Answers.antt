use Rattle.br_flatimp.proofs.Given.{unfold-loop, unfold-function_of, same-depth}
use Rattle.br_flatimp.proofs.run_laws.bounds_do_not_show.Goals as goal

pub returns : goal.returns
returns c = record { loops = unfold-loop; calls = unfold-function_of; depths = same-depth }
