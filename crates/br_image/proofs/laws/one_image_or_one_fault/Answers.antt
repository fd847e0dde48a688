use Rattle.br_image.proofs.Walk.{image_or_fault}
use Rattle.br_image.proofs.laws.one_image_or_one_fault.Goals as goal

pub returns-clause-either : goal.returns-clause-either
returns-clause-either c text = image_or_fault text
