use Rattle.br_lightbulb.proofs.Lan.{read-pieces, write-pieces}
use Rattle.br_lightbulb.proofs.laws.words_show_pieces.Goals as goal

pub returns-clause-read : goal.returns-clause-read
returns-clause-read c = read-pieces

pub returns-clause-write : goal.returns-clause-write
returns-clause-write c = write-pieces
