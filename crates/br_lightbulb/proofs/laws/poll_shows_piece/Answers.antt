use Rattle.br_lightbulb.proofs.Poll.{poll-pieces}
use Rattle.br_lightbulb.proofs.laws.poll_shows_piece.Goals as goal

pub returns : goal.returns
returns c = poll-pieces
