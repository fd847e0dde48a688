use Rattle.br_source_meaning.proofs.Bounds.{unfold-while, unfold-function_of, same-depth}
use Rattle.br_source_meaning.proofs.laws.bounds_do_not_show.Goals as goal

pub returns : goal.returns
returns c = record { loops = unfold-while; calls = unfold-function_of; depths = same-depth }
