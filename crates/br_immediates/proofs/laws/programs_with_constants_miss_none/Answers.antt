use Rattle.br_immediates.proofs.Missing.{none-missed}
use Rattle.br_immediates.proofs.laws.programs_with_constants_miss_none.Goals as goal

pub returns : goal.returns
returns c = none-missed
