-- By the bytes that are added.
use Rattle.br_machine.proofs.Data.{in_data-empty, in_data-with_bytes}
use Rattle.br_machine.proofs.laws.memories_of_the_data_region.Goals as goal

pub returns-clause-empty : goal.returns-clause-empty
returns-clause-empty c = in_data-empty

pub returns-clause-more : goal.returns-clause-more
returns-clause-more c = λ m a bytes. in_data-with_bytes bytes m a
