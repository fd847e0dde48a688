use Rattle.br_lightbulb.proofs.Boots.{boot-pieces}
use Rattle.br_lightbulb.proofs.laws.boot_shows_piece.Goals as goal

pub returns : goal.returns
returns c = boot-pieces
