use Rattle.br_immediates.proofs.Kept.{all-kept}
use Rattle.br_immediates.proofs.laws.programs_with_constants_keep_sizes.Goals as goal

pub returns : goal.returns
returns c = all-kept
