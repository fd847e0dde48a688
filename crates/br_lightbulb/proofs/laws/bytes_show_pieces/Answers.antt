use Rattle.br_lightbulb.proofs.Spi.{put-pieces, get-pieces, exchange-pieces}
use Rattle.br_lightbulb.proofs.laws.bytes_show_pieces.Goals as goal

pub returns-clause-put : goal.returns-clause-put
returns-clause-put c = put-pieces

pub returns-clause-get : goal.returns-clause-get
returns-clause-get c = get-pieces

pub returns-clause-exchange : goal.returns-clause-exchange
returns-clause-exchange c = exchange-pieces
